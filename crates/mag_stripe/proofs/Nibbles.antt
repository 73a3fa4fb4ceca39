-- Nibbles of bytes: one read, one written, all packed again; and the first nibble of a kind. Each by the list from its
-- front, two nibbles a byte.
-- Assumes nothing.
use mathlib.Core.Path.{◌≡◌, refl, sym, ap, ap₂, subst, ◌∙◌}
use mathlib.Core.List.{List, [], ◌∷◌}
use Prim.Native.Nat.{ℕ, zero, suc, ◌+◌, ◌-◌, ◌*◌, ◌/◌, ◌%◌, ◌≤◌, ◌<◌}
use native.Mathlib.Omega.{arith}
use native.Mathlib.Nat.{add-zero}
use native.Mathlib.Numerals.{add-one}
use lib.ListN.{length, get_or, drop, set, drop_of_length-le}
use lib.Seq.{drop-cons}
use borrow.Author.Tests.{eq-eqb, ne_eqb}
use Rattle.std.specs.Prelude.{Option, Some, None, MatchOption, max, unwrap_or}
use mathlib.Core.Logic.{inl, inr}
use Rattle.basics.proofs.Order.{le-or-gt}
use Rattle.basics.specs.Number.{nibbles}
use Rattle.basics.proofs.Laws.{if_yes, if_no}
use Rattle.mag_stripe.specs.Track.{nibbles_before, packed_nibbles}

pub length_nibbles : (t : List ℕ) → length (nibbles t) ≡ length t * 2
unfolding nibbles
length_nibbles [] = refl
length_nibbles (b ∷ t) = let e = length_nibbles t in omega arith

pub ruleset lengths = (length_nibbles)

pub packed_nibbles_lem : (t : List ℕ) → packed_nibbles (nibbles t) ≡ t
unfolding nibbles packed_nibbles
packed_nibbles_lem [] = refl
packed_nibbles_lem (b ∷ t) =
    let e : b / 16 * 16 + b % 16 ≡ b = omega arith in
    ap₂ (λ (x : ℕ) (l : List ℕ). x ∷ l) e (packed_nibbles_lem t)

-- the byte of a nibble
two_on : (i : ℕ) → suc (suc i) / 2 ≡ suc (i / 2)
two_on i = omega arith

pub length_packed : (s : List ℕ) → length (packed_nibbles s) ≡ length s / 2
unfolding packed_nibbles
length_packed [] = refl
length_packed (n ∷ []) = refl
length_packed (h ∷ l ∷ s) = ap suc (length_packed s) ∙ sym (two_on (length s))

pub high_nibble : (t : List ℕ) (i : ℕ) → i % 2 ≡ 0 → get_or (nibbles t) i 0 ≡ get_or t (i / 2) 0 / 16
unfolding nibbles
high_nibble [] i e = refl
high_nibble (b ∷ t) zero e = refl
high_nibble (b ∷ t) (suc zero) e = absurd (omega arith)
high_nibble (b ∷ t) (suc (suc i)) e = rw (two_on i) (high_nibble t i (omega arith))

pub low_nibble : (t : List ℕ) (i : ℕ) → i % 2 ≡ 1 → get_or (nibbles t) i 0 ≡ get_or t (i / 2) 0 % 16
unfolding nibbles
low_nibble [] i e = refl
low_nibble (b ∷ t) zero e = absurd (omega arith)
low_nibble (b ∷ t) (suc zero) e = refl
low_nibble (b ∷ t) (suc (suc i)) e = rw (two_on i) (low_nibble t i (omega arith))

-- a nibble written, by the byte that it is in
both_nibbles : (h l h' l' : ℕ) (s : List ℕ) → h ≡ h' → l ≡ l' → h ∷ l ∷ s ≡ h' ∷ l' ∷ s
both_nibbles h l h' l' s e f = cc

pub high_set : (t : List ℕ) (i x : ℕ) → i % 2 ≡ 0 → nibbles (set t (i / 2) (x * 16 + get_or t (i / 2) 0 % 16))
    ≡ set (nibbles t) i x
unfolding nibbles
high_set [] i x e = refl
high_set (b ∷ t) zero x e = both_nibbles _ _ _ _ (nibbles t) (omega arith) (omega arith)
high_set (b ∷ t) (suc zero) x e = absurd (omega arith)
high_set (b ∷ t) (suc (suc i)) x e =
    rw (two_on i) (ap (λ (l : List ℕ). b / 16 ∷ b % 16 ∷ l) (high_set t i x (omega arith)))

pub low_set : (t : List ℕ) (i x : ℕ) → i % 2 ≡ 1 → x < 16 → nibbles (set t (i / 2) (get_or t (i / 2) 0 / 16 * 16 + x))
    ≡ set (nibbles t) i x
unfolding nibbles
low_set [] i x e h = refl
low_set (b ∷ t) zero x e h = absurd (omega arith)
low_set (b ∷ t) (suc zero) x e h = both_nibbles _ _ _ _ (nibbles t) (omega arith) (omega arith)
low_set (b ∷ t) (suc (suc i)) x e h =
    rw (two_on i) (ap (λ (l : List ℕ). b / 16 ∷ b % 16 ∷ l) (low_set t i x (omega arith) h))

-- ---- the first nibble x, from a place on

module _ (x : ℕ) (s : List ℕ) (i : ℕ) where
  pub before_here : i < length s → get_or s i 0 ≡ x → nibbles_before x (drop i s) ≡ 0
  unfolding nibbles_before
  before_here h e = rw (drop-cons s i 0) (if_yes _ _ (eq-eqb (get_or s i 0) x e))

  pub before_next : i < length s → (get_or s i 0 ≡ x → ⊥) → i + nibbles_before x (drop i s) ≡ i + 1 + nibbles_before x
      (drop (i + 1) s)
  unfolding nibbles_before
  before_next h e =
      rw (add-one i, drop-cons s i 0)
      (ap (λ (n : ℕ). i + n) (if_no _ _ (ne_eqb (get_or s i 0) x e)) ∙ omega arith)

  pub before_end : length s ≤ i → nibbles_before x (drop i s) ≡ 0
  unfolding nibbles_before
  before_end h = rw (drop_of_length-le s h)

-- nibbles that are not x
skipped : (x : ℕ) (s : List ℕ) (n from : ℕ) → from + n ≤ length s → ((k : ℕ) → from ≤ k → k < from + n → get_or s k 0 ≡ x → ⊥)
    → from + nibbles_before x (drop from s) ≡ from + n + nibbles_before x (drop (from + n) s)
skipped x s zero from b h = rw add-zero
skipped x s (suc n) from b h =
    let e : from + 1 + n ≡ from + suc n = omega arith in
    before_next x s from (omega arith) (h from (omega arith) (omega arith))
    ∙ subst (λ (j : ℕ). from + 1 + nibbles_before x (drop (from + 1) s) ≡ j + nibbles_before x (drop j s)) e
    (skipped x s n (from + 1) (omega arith) (λ k u v. h k (omega arith) (omega arith)))

-- the first x from a place on, as `find` gives it
pub first_found : (x from end : ℕ) (s : List ℕ) (r : Option ℕ) → length s ≡ end
    → MatchOption r ((k : ℕ) → from ≤ k → k < end → get_or s k 0 ≡ x → ⊥)
    (λ i. (from ≤ i) × (i < end) × (get_or s i 0 ≡ x) × ((k : ℕ) → from ≤ k → k < i → get_or s k 0 ≡ x → ⊥))
    → unwrap_or r (max from end) ≡ from + nibbles_before x (drop from s)
first_found x from end s None e h =
    elim (le-or-gt from end) [
      | inl g ↦
          let j : from + (end - from) ≡ end = omega arith in
          let z = skipped x s (end - from) from (omega arith) (λ k u v. h k u (omega arith)) in
          omega (arith, rw j at z, before_end x s end (omega arith))
      | inr g ↦ omega (arith, before_end x s from (omega arith))
    ]
first_found x from end s (Some i) e h =
    let j : from + (i - from) ≡ i = omega arith in
    let z = skipped x s (i - from) from (omega arith) (λ k u v. h.3 k u (omega arith)) in
    omega (arith, rw j at z, before_here x s i (omega arith) h.2)
