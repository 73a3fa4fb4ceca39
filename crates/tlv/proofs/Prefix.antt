-- Bytes that follow do not change what was whole: a tag, a length or a header at the front of a list is that of any
-- longer list. Each reading either refuses or examines the front alone, so the rule goes through every choice on the
-- way (`kept_if`).
-- Assumes nothing.
use Rattle.std.specs.Prelude.{Option, Some, None}
use Rattle.tlv.specs.declared.TlvLength.{TlvLength}
use mathlib.Core.Path.{◌≡◌, refl, sym, ◌∙◌}
use mathlib.Core.Bool.{Bool, true, false}
use mathlib.Core.List.{List, [], ◌∷◌, ◌++◌}
use Prim.Native.Nat.{ℕ, ◌+◌}
use native.Mathlib.Omega.{arith}
use lib.Dec.{ltb, leb, eqb}
use lib.ListN.{length, drop, length-append}
use lib.Seq.{take-append-le, drop-append-le}
use borrow.Author.Tests.{le-leb, leb-true}
use Rattle.basics.specs.Choice.{if}
use Rattle.basics.proofs.Laws.{if_yes}
use Rattle.tlv.specs.declared.Tag.{Tag}
use Rattle.tlv.specs.declared.TlvHeader.{TlvHeader}
use Rattle.tlv.specs.Tag.{tag_first_byte_continues, tag_later_byte_continues, tag_size_from_third_byte}
use Rattle.tlv.specs.Tag.{tag_size_from_second_byte, tag_size, tag_at}
use Rattle.tlv.specs.Length.{length_parsed, length_after81, length_after82, length_at}
use Rattle.tlv.specs.Object.{header_with_length, header_of}
use Rattle.tlv.proofs.Laws.{tag_some, tag_fits, header_untagged}

-- x with bytes after it is x', unless x is the refusal z
abbrev Kept : {A : Type 0} → A → A → A → Type 0
Kept z x x' = (x ≡ z → ⊥) → x' ≡ x

kept_if : {A : Type 0} {z x x' y y' : A} (b : Bool) → Kept z x x' → Kept z y y' → Kept z (if b x y) (if b x' y')
unfolding if
kept_if true h k = h
kept_if false h k = k

kept_same : {A : Type 0} {z : A} (x : A) → Kept z x x
kept_same x n = refl

third_kept : (s t : List ℕ) → Kept 0 (tag_size_from_third_byte s) (tag_size_from_third_byte (s ++ t))
unfolding tag_size_from_third_byte
third_kept [] t n = absurd (n refl)
third_kept (b ∷ s) t n = refl

second_kept : (s t : List ℕ) → Kept 0 (tag_size_from_second_byte s) (tag_size_from_second_byte (s ++ t))
unfolding tag_size_from_second_byte
second_kept [] t = λ n. absurd (n refl)
second_kept (b ∷ s) t = kept_if (eqb b 0x80) (kept_same 0)
    (kept_if (tag_later_byte_continues b) (third_kept s t) (kept_same 2))

size_kept : (s t : List ℕ) → Kept 0 (tag_size s) (tag_size (s ++ t))
unfolding tag_size
size_kept [] t = λ n. absurd (n refl)
size_kept (b ∷ s) t = kept_if (eqb b 0) (kept_same 0)
    (kept_if (tag_first_byte_continues b) (second_kept s t) (kept_same 1))

pub tag_kept : (s r : List ℕ) (t : Tag) → tag_at s ≡ Some t → tag_at (s ++ r) ≡ Some t
tag_kept s r t e =
    let f = tag_fits s t e in
    let k : tag_size (s ++ r) ≡ tag_size s = size_kept s r (λ z. omega arith) in
    tag_some (s ++ r) t.size (f.is ∙ sym k) (omega arith) ∙ rw
    (take-append-le t.size s r f.inside, ← f.reads)

one_kept : (s t : List ℕ) → Kept None (length_after81 s) (length_after81 (s ++ t))
unfolding length_after81
one_kept [] t n = absurd (n refl)
one_kept (a ∷ s) t n = refl

two_kept : (s t : List ℕ) → Kept None (length_after82 s) (length_after82 (s ++ t))
unfolding length_after82
two_kept [] t n = absurd (n refl)
two_kept (a ∷ []) t n = absurd (n refl)
two_kept (a ∷ b ∷ s) t n = refl

length_kept : (s t : List ℕ) → Kept None (length_at s) (length_at (s ++ t))
unfolding length_at
length_kept [] t = λ n. absurd (n refl)
length_kept (a ∷ s) t =
    kept_if (ltb a 0x80) (kept_same (length_parsed a 1))
    (kept_if (eqb a 0x81) (one_kept s t) (kept_if (eqb a 0x82) (two_kept s t) (kept_same None)))

-- a longer list passes the test that a shorter one passed
kept_test : {A : Type 0} {z : A} (x : A) (b b' : Bool) → (b ≡ true → b' ≡ true) → Kept z (if b x z) (if b' x z)
unfolding if
kept_test x true b' h n = if_yes _ _ (h refl)
kept_test x false b' h n = absurd (n refl)

within_kept : (s r : List ℕ) (t : Tag) (x : Option TlvLength)
    → Kept None (header_with_length s t x) (header_with_length (s ++ r) t x)
within_kept s r t None = λ n. absurd (n refl)
within_kept s r t (Some e) =
    let a = t.size + e.size + e.len in
    kept_test _ (leb a (length s)) (leb a (length (s ++ r)))
    (λ p. let h = leb-true a (length s) p in le-leb a (length (s ++ r)) (simp length-append (omega arith)))

pub header_kept : (s r : List ℕ) (h : TlvHeader) → header_of s ≡ Some h → header_of (s ++ r) ≡ Some h
unfolding header_of
header_kept s r h e = go (tag_at s) refl
  where
    never : header_of s ≡ None → ⊥
    never p = let z : ◌≡◌ {A = ℕ} 0 1 = cc in omega arith

    go : (x : Option Tag) → tag_at s ≡ x → header_of (s ++ r) ≡ Some h
    go None p = absurd (never (header_untagged s p))
    go (Some t) p =
        let f = tag_fits s t p in
        let here : header_of s ≡ header_with_length s t (length_at (drop t.size s)) = rw p in
        let n : length_at (drop t.size s) ≡ None → ⊥ = λ u. never (here ∙ rw u) in
        rw (tag_kept s r t p, drop-append-le t.size s r f.inside, length_kept (drop t.size s) r n)
        (within_kept s r t (length_at (drop t.size s)) (λ b. never (here ∙ b)) ∙ sym here ∙ e)
