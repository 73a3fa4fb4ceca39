-- The lowest number that passes a test: it passes, no lower one does, and where there is none, none passes; and the
-- other way round.
-- Assumes nothing.
use Rattle.std.specs.Prelude.{Option, Some, None, MatchOption}
use mathlib.Core.Bool.{Bool, true, false}
use mathlib.Core.Logic.{inl, inr}
use mathlib.Core.Path.{◌≡◌, refl, sym, ap, ◌∙◌}
use Prim.Native.Nat.{ℕ, zero, suc, ◌+◌, ◌≤◌, ◌<◌}
use native.Mathlib.Nat.{eq-or-lt_of_le, le_refl}
use native.Mathlib.Omega.{arith}
use Rattle.basics.proofs.Laws.{if_yes, if_no, bool_cases}
use Rattle.analysis.specs.Choice.{lowest_bit_from_start_within_count}

-- what is known of the lowest of the n numbers from i on
pub record Found (f : ℕ → Bool) (n i k : ℕ) : Type 0 where
  pub least : i ≤ k
  pub within : k < i + n
  pub passes : f k ≡ true
  pub below : (m : ℕ) → i ≤ m → m < k → f m ≡ false

pub lowest_is : (f : ℕ → Bool) (n i k : ℕ) → Found f n i k → lowest_bit_from_start_within_count f i n ≡ Some k
unfolding lowest_bit_from_start_within_count
lowest_is f zero i k h = absurd (omega arith)
lowest_is f (suc n) i k h =
    elim (eq-or-lt_of_le h.least) [
      | inl e ↦ if_yes (Some i) (lowest_bit_from_start_within_count f (suc i) n) (ap f e ∙ h.passes) ∙ ap Some e
      | inr g ↦
          if_no (Some i) (lowest_bit_from_start_within_count f (suc i) n) (h.below i (le_refl i) g)
          ∙ lowest_is f n (suc i) k
          (record { least = g; within = omega arith; passes = h.passes; below = λ m u v. h.below m (omega arith) v })
    ]

pub lowest_none : (f : ℕ → Bool) (n i : ℕ) → ((m : ℕ) → i ≤ m → m < i + n → f m ≡ false) → lowest_bit_from_start_within_count f i n ≡ None
unfolding lowest_bit_from_start_within_count
lowest_none f zero i h = refl
lowest_none f (suc n) i h =
    if_no (Some i) (lowest_bit_from_start_within_count f (suc i) n) (h i (le_refl i) (omega arith))
    ∙ lowest_none f n (suc i) (λ m u v. h m (omega arith) (omega arith))

pub found : (f : ℕ → Bool) (n i k : ℕ) → lowest_bit_from_start_within_count f i n ≡ Some k → Found f n i k
unfolding lowest_bit_from_start_within_count
found f zero i k e = let z : ◌≡◌ {A = ℕ} 0 1 = cc in absurd (omega arith)
found f (suc n) i k e =
    elim (bool_cases (f i)) [
      | inl t ↦
          let q : Some i ≡ Some k = sym (if_yes (Some i) (lowest_bit_from_start_within_count f (suc i) n) t) ∙ e in
          let z : i ≡ k = cc in
          record {
            least = omega arith;
            within = omega arith;
            passes = ap f (sym z) ∙ t;
            below =
                λ m u v. absurd (omega arith);
          }
      | inr t ↦
          let r = found f n (suc i) k (sym (if_no (Some i) (lowest_bit_from_start_within_count f (suc i) n) t) ∙ e) in
          record {
            least = omega (arith, r.least);
            within = omega (arith, r.within);
            passes = r.passes;
            below = λ m u v. elim (eq-or-lt_of_le u) [ inl z ↦ ap f (sym z) ∙ t | inr g ↦ r.below m g v ];
          }
    ]

pub none_passes : (f : ℕ → Bool) (n i : ℕ) → lowest_bit_from_start_within_count f i n ≡ None → (m : ℕ) → i ≤ m → m < i + n → f m ≡ false
unfolding lowest_bit_from_start_within_count
none_passes f zero i e m u v = absurd (omega arith)
none_passes f (suc n) i e m u v =
    elim (bool_cases (f i)) [
      | inl t ↦
          let q : Some i ≡ None = sym (if_yes (Some i) (lowest_bit_from_start_within_count f (suc i) n) t) ∙ e in
          let z : ◌≡◌ {A = ℕ} 0 1 = cc in
          absurd (omega arith)
      | inr t ↦
          elim (eq-or-lt_of_le u) [
            | inl z ↦ ap f (sym z) ∙ t
            | inr g ↦ none_passes f n (suc i) (sym (if_no (Some i) (lowest_bit_from_start_within_count f (suc i) n) t) ∙ e) m g (omega arith)
          ]
    ]

-- the first that passes, as `find` gives it
pub lowest_first : (f : ℕ → Bool) (n : ℕ) (r : Option ℕ)
    → MatchOption r ((k : ℕ) → 0 ≤ k → k < n → f k ≡ false)
    (λ i. (0 ≤ i) × (i < n) × (f i ≡ true) × ((k : ℕ) → 0 ≤ k → k < i → f k ≡ false))
    → r ≡ lowest_bit_from_start_within_count f 0 n
lowest_first f n None h = sym (lowest_none f n 0 (λ m u v. h m u (omega arith)))
lowest_first f n (Some i) h =
    sym (lowest_is f n 0 i (record { least = h.0; within = omega arith; passes = h.2; below = h.3 }))
