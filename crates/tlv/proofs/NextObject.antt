-- What is next: the laws that open `next_in_template`. All laws of the parse go by these. A first byte is padding, and
-- then what is next is after it, one place further on (`next_zero`), or it is not, and then it is the object at the
-- front (`next-first`).
-- Assumes nothing.
use Rattle.std.specs.Prelude.{Option, Some, None, ◌==◌, take_while}
use Rattle.std.specs.List.{prefix_len}
use Rattle.std.proofs.lemmas.List.Folds.{length-prefix_len}
use mathlib.Core.Path.{◌≡◌, refl, sym, ap, subst, subst⁻¹, ◌∙◌}
use mathlib.Core.Logic.{◌↔◌}
use mathlib.Core.List.{List, [], ◌∷◌, ◌++◌}
use Prim.Native.Nat.{ℕ, zero, suc, ◌+◌, ◌≤◌, ◌<◌}
use native.Mathlib.Omega.{arith}
use lib.ListN.{length, get_or, drop, replicate, drop_of_length-le}
use lib.Seq.{drop-cons}
use borrow.Author.Tests.{ne_eqb}
use Rattle.basics.specs.Choice.{if}
use Rattle.basics.proofs.Laws.{if_no}
use Rattle.tlv.specs.declared.TlvHeader.{TlvHeader}
use Rattle.tlv.specs.declared.NextInTemplate.{NextInTemplate}
use Rattle.tlv.specs.declared.NextInTemplate.TheVariants.{End, Inner, Malformed}
use Rattle.tlv.specs.Tag.{tag_size, tag_at}
use Rattle.tlv.specs.Object.{header_of, header_shifted}
use Rattle.tlv.specs.Tree.{next_in_template_of_front, next_in_template_shifted, next_in_template}
use Rattle.tlv.specs.Padding.{LeadingPaddingEndsAt}
use Rattle.tlv.proofs.Laws.{HeaderFits, header_fits, tail, tail-is}
use Rattle.tlv.proofs.Prefix.{header_kept}

-- ---- so many places further on

abbrev placed : TlvHeader → ℕ → NextInTemplate
placed h n = Inner (record { tag = h.tag; start = n; len = h.len; template = h.template; private = h.private })

pub moved_zero : (x : NextInTemplate) → next_in_template_shifted 0 x ≡ x
moved_zero End = refl
moved_zero Malformed = refl
moved_zero (Inner h) = let e : 0 + h.start ≡ h.start = omega arith in ap (placed h) e

moved_twice : (n m : ℕ) (x : NextInTemplate) → next_in_template_shifted n (next_in_template_shifted m x)
    ≡ next_in_template_shifted (n + m) x
moved_twice n m End = refl
moved_twice n m Malformed = refl
moved_twice n m (Inner h) = let e : n + (m + h.start) ≡ n + m + h.start = omega arith in ap (placed h) e

-- ---- by the first byte

next_zero : (s : List ℕ) → next_in_template (0 ∷ s) ≡ next_in_template_shifted 1 (next_in_template s)
unfolding next_in_template if
next_zero s = refl

next-first : (b : ℕ) (s : List ℕ) → (b ≡ 0 → ⊥) → next_in_template (b ∷ s) ≡ next_in_template_of_front (header_of (b ∷ s))
unfolding next_in_template
next-first b s n = if_no _ _ (ne_eqb b 0 n)

pub next-empty : (s : List ℕ) → length s ≡ 0 → next_in_template s ≡ End
unfolding next_in_template
next-empty [] e = refl
next-empty (b ∷ s) e = absurd (omega arith)

-- ---- as the code reads it: a place up to which all bytes are padding

-- at the place that padding ends at: nothing more, or the object there
module _ (s : List ℕ) (i : ℕ) (p : LeadingPaddingEndsAt s i) where
  pub passed_all : length s ≤ i → next_in_template s ≡ End
  passed_all h = p.next ∙ rw (drop_of_length-le s h, next-empty [] refl)

  pub stop_at : i < length s → (x : Option TlvHeader) → header_of (tail s i) ≡ x
      → next_in_template s ≡ next_in_template_shifted i (next_in_template_of_front x)
  stop_at h x e =
      let d = drop-cons s i 0 h in
      p.next ∙ ap (next_in_template_shifted i) (ap next_in_template d ∙ next-first (get_or s i 0) (drop (suc i) s)
      (p.stops h) ∙ ap next_in_template_of_front (ap header_of (sym d ∙ sym (tail-is s i)) ∙ e))

-- padding ends at the front where no 00 is there, else after as many bytes as are 00
pub no_padding : (s : List ℕ) → (0 < length s → get_or s 0 0 ≡ 0 → ⊥) → LeadingPaddingEndsAt s 0
no_padding s n = record { inside = omega arith; next = sym (moved_zero _); stops = n }

zeros_end : (s : List ℕ) → LeadingPaddingEndsAt s (prefix_len (λ b. b == 0) s)
zeros_end [] = no_padding [] (λ h e. omega arith)
zeros_end (zero ∷ s) =
    let p = zeros_end s in
    let k = prefix_len (λ b. b == 0) s in
    let e : 1 + k ≡ suc k = omega arith in
    record {
      inside = omega arith;
      next = next_zero s ∙ ap (next_in_template_shifted 1) p.next ∙ moved_twice 1 k (next_in_template (drop k s)) ∙ rw e;
      stops = rw e (λ h. p.stops (omega arith));
    }
zeros_end (suc b ∷ s) = rw (ne_eqb (suc b) 0 (λ z. omega arith)) (no_padding (suc b ∷ s) (λ h e. omega arith))

pub padding_ends : (s : List ℕ) → LeadingPaddingEndsAt s (length (take_while (λ b. b == 0) s))
padding_ends s = rw (length-prefix_len (λ b. b == 0) s) (zeros_end s)

-- ---- what the parse needs

moved_ends : (x : NextInTemplate) → next_in_template_shifted 1 x ≡ End → x ≡ End
moved_ends End e = refl
moved_ends Malformed e = cc
moved_ends (Inner h) e = cc

front_ends : (x : Option TlvHeader) → next_in_template_of_front x ≡ End → ⊥
front_ends None e = let z : ◌≡◌ {A = ℕ} 0 1 = cc in omega arith
front_ends (Some h) e = let z : ◌≡◌ {A = ℕ} 0 1 = cc in omega arith

-- nothing is next exactly where nothing but padding is left
pub next-end : (s : List ℕ) → next_in_template s ≡ End ↔ s ≡ replicate (length s) 0
next-end [] = (λ e. refl, λ e. next-empty [] refl)
next-end (zero ∷ s) = (
  λ e. ap (λ (r : List ℕ). 0 ∷ r) ((next-end s).0 (moved_ends (next_in_template s) (sym (next_zero s) ∙ e))),
  λ e. let r : s ≡ replicate (length s) 0 = cc in next_zero s ∙ ap (next_in_template_shifted 1) ((next-end s).1 r),
)
next-end (suc b ∷ s) = (
  λ e. absurd (front_ends (header_of (suc b ∷ s)) (sym (next-first (suc b) s (λ z. omega arith)) ∙ e)),
  λ e. let z : suc b ≡ 0 = cc in absurd (omega arith),
)

pub next_zeros : (n : ℕ) → next_in_template (replicate n 0) ≡ End
next_zeros zero = next-empty [] refl
next_zeros (suc n) = next_zero (replicate n 0) ∙ ap (next_in_template_shifted 1) (next_zeros n)

-- an object at the front is next, and no object begins with padding
zero_broken : (s : List ℕ) → header_of (0 ∷ s) ≡ None
unfolding header_of tag_at tag_size if
zero_broken s = refl

pub next_object : (s : List ℕ) (h : TlvHeader) → header_of s ≡ Some h → next_in_template s ≡ Inner h
next_object [] h e = let f = header_fits [] h e in absurd (omega arith)
next_object (zero ∷ s) h e = cc (zero_broken s)
next_object (suc b ∷ s) h e = next-first (suc b) s (λ z. omega arith) ∙ ap next_in_template_of_front e

front_object : (x : Option TlvHeader) (h : TlvHeader) → next_in_template_of_front x ≡ Inner h → x ≡ Some h
front_object None h e = cc
front_object (Some k) h e = cc

-- the next object lies inside its list and takes two bytes at least; its class is its tag's
moved_fits : (s : List ℕ) (h : TlvHeader) (x : NextInTemplate) → next_in_template_shifted 1 x ≡ Inner h
    → ((k : TlvHeader) → x ≡ Inner k → HeaderFits s k) → HeaderFits (0 ∷ s) h
moved_fits s h End e f = let z : ◌≡◌ {A = ℕ} 0 1 = cc in absurd (omega arith)
moved_fits s h Malformed e f = let z : ◌≡◌ {A = ℕ} 0 1 = cc in absurd (omega arith)
moved_fits s h (Inner k) e f =
    let g = f k refl in
    let r : header_shifted 1 k ≡ h = cc in
    subst (HeaderFits (0 ∷ s)) r
    (record { two = omega arith; inside = omega arith; whole = ap (header_shifted 1) g.whole })

pub next_fits : (s : List ℕ) (h : TlvHeader) → next_in_template s ≡ Inner h → HeaderFits s h
next_fits [] h e = let z : ◌≡◌ {A = ℕ} 0 1 = cc (next-empty [] refl) in absurd (omega arith)
next_fits (zero ∷ s) h e = moved_fits s h (next_in_template s) (sym (next_zero s) ∙ e) (next_fits s)
next_fits (suc b ∷ s) h e =
    header_fits (suc b ∷ s) h
    (front_object (header_of (suc b ∷ s)) h (sym (next-first (suc b) s (λ z. omega arith)) ∙ e))

-- ---- one list after another

-- what is next in the first list is next in both; where the first has nothing more, it is what is next in the second
abbrev pub Joined : List ℕ → List ℕ → NextInTemplate → Type 0
Joined s r Malformed = Unit {0}
Joined s r (Inner h) = next_in_template (s ++ r) ≡ Inner h
Joined s r End = next_in_template (s ++ r) ≡ next_in_template_shifted (length s) (next_in_template r)

moved_join : (s r : List ℕ) (x : NextInTemplate) → Joined s r x → Joined (0 ∷ s) r (next_in_template_shifted 1 x)
moved_join s r Malformed j = tt
moved_join s r (Inner h) j = next_zero (s ++ r) ∙ ap (next_in_template_shifted 1) j
moved_join s r End j =
    let e : 1 + length s ≡ suc (length s) = omega arith in
    next_zero (s ++ r) ∙ ap (next_in_template_shifted 1) j ∙ moved_twice 1 (length s) (next_in_template r) ∙ ap
    (λ (n : ℕ). next_in_template_shifted n (next_in_template r)) e

front_join : (s r : List ℕ) (x : Option TlvHeader) → header_of s ≡ x → Joined s r (next_in_template_of_front x)
front_join s r None e = tt
front_join s r (Some h) e = next_object (s ++ r) h (header_kept s r h e)

next_joined : (s r : List ℕ) → Joined s r (next_in_template s)
next_joined [] r = subst⁻¹ (Joined [] r) (next-empty [] refl) (sym (moved_zero (next_in_template r)))
next_joined (zero ∷ s) r = subst⁻¹ (Joined (0 ∷ s) r) (next_zero s)
    (moved_join s r (next_in_template s) (next_joined s r))
next_joined (suc b ∷ s) r =
    subst⁻¹ (Joined (suc b ∷ s) r) (next-first (suc b) s (λ z. omega arith))
    (front_join (suc b ∷ s) r (header_of (suc b ∷ s)) refl)

pub next_join : (s r : List ℕ) (x : NextInTemplate) → next_in_template s ≡ x → Joined s r x
next_join s r x e = subst (Joined s r) e (next_joined s r)
