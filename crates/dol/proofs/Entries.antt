-- The entries of a list. Each takes some of its bytes, so the steps allowed do not matter (`unroll`); then one law for
-- each way out of a step, one induction over a list that is whole (`entries_ind`), and from it joining.
-- Assumes nothing.
use Rattle.std.specs.Prelude.{Some, None, Option}
use mathlib.Core.Path.{◌≡◌, refl, sym, ap, ap₂, subst, ◌∙◌}
use mathlib.Core.List.{List, [], ◌∷◌, ◌++◌}
use mathlib.Core.Logic.{inl, inr}
use Prim.Native.Nat.{ℕ, ◌+◌, ◌-◌, ◌≤◌, ◌<◌}
use native.Mathlib.Omega.{arith}
use lib.Dec.{leb}
use Rattle.std.proofs.lemmas.List.{take_rest}
use lib.ListN.{length, get_or, take, drop, length-append, length-drop, drop_of_length-le, get_or-append}
use lib.Seq.{drop-cons, drop-append-le}
use borrow.Author.Tests.{le-leb, lt-leb, leb-true}
use Rattle.basics.specs.Choice.{if}
use Rattle.basics.proofs.Laws.{if_yes, if_no, bool_cases}
use Rattle.basics.proofs.Order.{le-or-gt}
use Rattle.tlv.specs.Tag.{tag_at}
use Rattle.tlv.specs.declared.Tag.{Tag}
use Rattle.tlv.proofs.Laws.{tag_fits}
use Rattle.tlv.proofs.Prefix.{tag_kept}
use Rattle.basics.proofs.Recursion.{AsksShorter, recurse_unroll, shorter_first}
use Rattle.dol.specs.declared.DolEntry.{DolEntry}
use Rattle.dol.specs.Entries.{dol_entry, dol_entry_with_length, dol_entry_at, prepend_dol_entry, dol_entry_then_rest}
use Rattle.dol.specs.Entries.{dol_entries_step, dol_entries, dol_total_length}
use Rattle.dol.specs.Measure.{dol_total_if_at_most255}

-- ---- one entry, as the code reads it

module _ (s : List ℕ) (x : Option Tag) (p : x ≡ tag_at s) where
  pub entry_untagged : x ≡ None → dol_entry_at s ≡ None
  unfolding dol_entry_at
  entry_untagged q = rw (← p, q)

  pub entry_asked : (t : Tag) → x ≡ Some t → t.size < length s
      → dol_entry_at s ≡ Some (dol_entry t.number (get_or s t.size 0), t.size + 1)
  unfolding dol_entry_at dol_entry_with_length
  entry_asked t q h = rw (← p, q, drop-cons s t.size 0 h)

  pub entry_short : (t : Tag) → x ≡ Some t → length s ≤ t.size → dol_entry_at s ≡ None
  unfolding dol_entry_at dol_entry_with_length
  entry_short t q h = rw (← p, q, drop_of_length-le s h)

-- ---- what an entry takes

-- an entry is a whole tag and the byte after it
pub record EntryFits (s : List ℕ) (e : DolEntry) (n : ℕ) : Type 0 where
  pub tag : Tag
  pub read : tag_at s ≡ Some tag
  pub inside : tag.size < length s
  pub is : e ≡ dol_entry tag.number (get_or s tag.size 0)
  pub size : n ≡ tag.size + 1

abbrev EntryOk : List ℕ → Option (DolEntry × ℕ) → Type 0
EntryOk s None = Unit {0}
EntryOk s (Some (e, n)) = EntryFits s e n

entry_ok : (s : List ℕ) → EntryOk s (dol_entry_at s)
entry_ok s = go (tag_at s) refl
  where
    go : (x : Option Tag) → tag_at s ≡ x → EntryOk s (dol_entry_at s)
    go None p = rw (entry_untagged s _ refl p) tt
    go (Some t) p = elim (le-or-gt (length s) t.size) [
      | inl h ↦ rw (entry_short s _ refl t p h) tt
      | inr h ↦ rw (entry_asked s _ refl t p h) (record { tag = t; read = p; inside = h; is = refl; size = refl })
    ]

pub entry_fits : (s : List ℕ) (e : DolEntry) (n : ℕ) → dol_entry_at s ≡ Some (e, n) → EntryFits s e n
entry_fits s e n p = rw p at (entry_ok s)

-- an entry takes two bytes at least, all inside the list
pub entry_inside : (s : List ℕ) (e : DolEntry) (n : ℕ) → dol_entry_at s ≡ Some (e, n) → (2 ≤ n) × (n ≤ length s)
entry_inside s e n p = let f = entry_fits s e n p in let t = tag_fits s f.tag f.read in (omega arith, omega arith)

shorter : (s : List ℕ) (e : DolEntry) (n : ℕ) → dol_entry_at s ≡ Some (e, n) → length (drop n s) < length s
shorter s e n p = let i = entry_inside s e n p in simp length-drop (omega arith)

-- bytes after the list do not change its entry
pub entry_kept : (s r : List ℕ) (e : DolEntry) (n : ℕ) → dol_entry_at s ≡ Some (e, n) → dol_entry_at (s ++ r) ≡ Some (e, n)
entry_kept s r e n p =
    let f = entry_fits s e n p in
    entry_asked (s ++ r) _ refl f.tag (tag_kept s r f.tag f.read) (simp length-append (omega arith))
    ∙ ap (λ (b : ℕ). Some (dol_entry f.tag.number b, f.tag.size + 1))
    (get_or-append s r 0 f.tag.size f.inside)
    ∙ sym (ap₂ (λ (e : DolEntry) (n : ℕ). Some (e, n)) f.is f.size)

-- ---- the steps allowed do not matter

abbrev Parser : Type 0
Parser = List ℕ → Option (List DolEntry)

one_same : (k k' : Parser) (s : List ℕ) → ((v : List ℕ) → length v < length s → k v ≡ k' v)
    → (x : Option (DolEntry × ℕ)) → dol_entry_at s ≡ x → dol_entry_then_rest k s x ≡ dol_entry_then_rest k' s x
one_same k k' s same None p = refl
one_same k k' s same (Some (e, n)) p = ap (prepend_dol_entry e) (same (drop n s) (shorter s e n p))

along_same : AsksShorter dol_entries_step
unfolding dol_entries_step
along_same k k' [] same = refl
along_same k k' (b ∷ s) same = one_same k k' (b ∷ s) same (dol_entry_at (b ∷ s)) refl

pub unroll : (s : List ℕ) → dol_entries s ≡ dol_entries_step dol_entries s
unfolding dol_entries
unroll s = recurse_unroll None dol_entries_step along_same s

-- ---- one law for each way out of a step

pub entries_end : (s : List ℕ) → length s ≡ 0 → dol_entries s ≡ Some []
unfolding dol_entries_step
entries_end [] h = unroll []
entries_end (b ∷ s) h = absurd (omega arith)

at : (s : List ℕ) (x : Option (DolEntry × ℕ)) → (length s ≡ 0 → ⊥) → dol_entry_at s ≡ x
    → dol_entries s ≡ dol_entry_then_rest dol_entries s x
unfolding dol_entries_step
at [] x h p = absurd (h refl)
at (b ∷ s) x h p = unroll (b ∷ s) ∙ ap (dol_entry_then_rest dol_entries (b ∷ s)) p

pub entries_broken : (s : List ℕ) → (length s ≡ 0 → ⊥) → dol_entry_at s ≡ None → dol_entries s ≡ None
entries_broken s h p = at s None h p

pub entries-more : (s : List ℕ) (e : DolEntry) (n : ℕ) → dol_entry_at s ≡ Some (e, n)
    → dol_entries s ≡ prepend_dol_entry e (dol_entries (drop n s))
entries-more s e n p = let i = entry_inside s e n p in at s (Some (e, n)) (λ z. omega arith) p

pub with_entry : (e : DolEntry) (x : Option (List DolEntry)) (es : List DolEntry) → x ≡ Some es
    → prepend_dol_entry e x ≡ Some (e ∷ es)
unfolding prepend_dol_entry
with_entry e x es p = rw p

-- ---- what holds of nothing, and of an entry once it holds of what is after it, holds of every list that is whole

module _
    (P : List ℕ → List DolEntry → Type 0)
    (at-end : P [] [])
    (at_entry_lem : (s : List ℕ) (e : DolEntry) (n : ℕ) (es : List DolEntry) → dol_entry_at s ≡ Some (e, n)
    → dol_entries (drop n s) ≡ Some es → P (drop n s) es → P s (e ∷ es))
  where
    Holds : List ℕ → Type 0
    Holds s = (es : List DolEntry) → dol_entries s ≡ Some es → P s es

    module _ (s : List ℕ) (before : (v : List ℕ) → length v < length s → Holds v) (es : List DolEntry)
        (p : dol_entries s ≡ Some es) where
      never : dol_entries s ≡ None → P s es
      never q = let z : ◌≡◌ {A = ℕ} 0 1 = cc in absurd (omega arith)

      of_entry : (e : DolEntry) (n : ℕ) → dol_entry_at s ≡ Some (e, n) → (x : Option (List DolEntry))
          → dol_entries (drop n s) ≡ x → P s es
      unfolding prepend_dol_entry Holds
      of_entry e n q None r = never (entries-more s e n q ∙ rw r)
      of_entry e n q (Some fs) r =
          let i : Some (e ∷ fs) ≡ Some es = sym (entries-more s e n q ∙ rw r) ∙ p in
          let j : e ∷ fs ≡ es = cc in
          subst (P s) j (at_entry_lem s e n fs q r (before (drop n s) (shorter s e n q) fs r))

      of_front : (length s ≡ 0 → ⊥) → (x : Option (DolEntry × ℕ)) → dol_entry_at s ≡ x → P s es
      of_front h None q = never (entries_broken s h q)
      of_front h (Some (e, n)) q = of_entry e n q _ refl

    of_list : (s : List ℕ) → ((v : List ℕ) → length v < length s → Holds v) → Holds s
    unfolding Holds
    of_list [] before es p = let i : [] ≡ es = cc (entries_end [] refl) in subst (P []) i at-end
    of_list (b ∷ s) before es p = of_front (b ∷ s) before es p (λ z. omega arith) _ refl

    pub entries_ind : (s : List ℕ) (es : List DolEntry) → dol_entries s ≡ Some es → P s es
    unfolding Holds
    entries_ind s es p = shorter_first Holds of_list s es p

-- ---- one list after another

pub entries_join : (s t : List ℕ) (es fs : List DolEntry) → dol_entries s ≡ Some es → dol_entries t ≡ Some fs
    → dol_entries (s ++ t) ≡ Some (es ++ fs)
entries_join s t es fs p q =
    entries_ind (λ s es. dol_entries (s ++ t) ≡ Some (es ++ fs)) q
    (λ s e n es r k h.
    let i = entry_inside s e n r in
    entries-more (s ++ t) e n (entry_kept s t e n r) ∙ rw (drop-append-le n s t i.1) (with_entry e _ _ h))
    s es p

-- ---- measuring, as the code goes: so many bytes are requested before

unfoldable pub measured_from : ℕ → Option (List DolEntry) → Option ℕ
measured_from n None = None
measured_from n (Some es) = if (leb (n + dol_total_length es) 255) (Some (n + dol_total_length es)) None

pub measured_from_lem : (x : Option (List DolEntry)) → dol_total_if_at_most255 x ≡ measured_from 0 x
unfolding dol_total_if_at_most255 measured_from
measured_from_lem None = refl
measured_from_lem (Some es) = let e : dol_total_length es ≡ 0 + dol_total_length es = omega arith in
    ap (λ (n : ℕ). if (leb n 255) (Some n) None) e

module _ (n : ℕ) (s : List ℕ) where
  pub measured_end : length s ≡ 0 → n ≤ 255 → measured_from n (dol_entries s) ≡ Some n
  unfolding dol_total_length measured_from
  measured_end h k =
      let e : n + 0 ≡ n = omega arith in
      ap (measured_from n) (entries_end s h) ∙ rw e (if_yes _ _ (le-leb n 255 k))

  pub measured_broken : (length s ≡ 0 → ⊥) → dol_entry_at s ≡ None → measured_from n (dol_entries s) ≡ None
  unfolding measured_from
  measured_broken h p = ap (measured_from n) (entries_broken s h p)

  measured_more : (e : DolEntry) (k : ℕ) → dol_entry_at s ≡ Some (e, k) → measured_from n (dol_entries s)
      ≡ measured_from (n + e.asked) (dol_entries (drop k s))
  unfolding prepend_dol_entry dol_total_length measured_from
  measured_more e k p = ap (measured_from n) (entries-more s e k p) ∙ go (dol_entries (drop k s))
    where
      go : (x : Option (List DolEntry)) → measured_from n (prepend_dol_entry e x) ≡ measured_from (n + e.asked) x
      go None = refl
      go (Some es) =
          let i : n + (e.asked + dol_total_length es) ≡ n + e.asked + dol_total_length es = omega arith in
          ap (λ (m : ℕ). if (leb m 255) (Some m) None) i

-- an entry is measured, and then the rest
pub measured_next : (n : ℕ) (s : List ℕ) {x : Option (DolEntry × ℕ)} {e : DolEntry} {k asked : ℕ} → x ≡ dol_entry_at s
    → x ≡ Some (e, k) → asked ≡ e.asked
    → measured_from n (dol_entries s) ≡ measured_from (n + asked) (dol_entries (take (length s - k) (drop k s)))
measured_next n s {x} {e} {k} p q a = measured_more n s e k (sym p ∙ q) ∙ rw (a, take_rest s k) refl

pub measured_long : (n : ℕ) (x : Option (List DolEntry)) → 255 < n → measured_from n x ≡ None
unfolding measured_from
measured_long n None h = refl
measured_long n (Some es) h = if_no _ _ (lt-leb (n + dol_total_length es) 255 (omega arith))

-- a total is that of a whole list, and at most 255
pub record Whole (x : Option (List DolEntry)) (n : ℕ) : Type 0 where
  pub list : List DolEntry
  pub is : x ≡ Some list
  pub sum : dol_total_length list ≡ n
  pub few : n ≤ 255

pub whole : (x : Option (List DolEntry)) (n : ℕ) → dol_total_if_at_most255 x ≡ Some n → Whole x n
unfolding dol_total_if_at_most255
whole None n p = let z : ◌≡◌ {A = ℕ} 0 1 = cc in absurd (omega arith)
whole (Some es) n p = elim (bool_cases (leb (dol_total_length es) 255)) [
  | inl t ↦
      let i : Some (dol_total_length es) ≡ Some n = sym (if_yes _ _ t) ∙ p in
      let j : dol_total_length es ≡ n = cc in
      record { list = es; is = refl; sum = j; few = omega (arith, leb-true (dol_total_length es) 255 t) }
  | inr f ↦ let i : None ≡ Some n = sym (if_no _ _ f) ∙ p in let z : ◌≡◌ {A = ℕ} 0 1 = cc in absurd (omega arith)
]
