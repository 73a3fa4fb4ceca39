-- Recursion over bytes. A step that recurses only on fewer bytes gives the same by any number of steps above the length
-- (`enough`), so the bound does not matter (`recurse_unroll`); and induction that goes the same way.
-- Assumes nothing.
use mathlib.Core.Path.{◌≡◌}
use mathlib.Core.List.{List}
use Prim.Native.Nat.{ℕ, zero, suc, ◌<◌}
use native.Mathlib.Omega.{arith}
use lib.ListN.{length}
use Rattle.basics.specs.Recursion.{recurse_with_fuel, recurse_with_fuel_from_length}

-- a step recurses only on fewer bytes: two results that agree on all lists shorter than s give the same at s
abbrev pub AsksShorter : {R : Type 0} → ((List ℕ → R) → List ℕ → R) → Type 0
AsksShorter {R} step =
    (k k' : List ℕ → R) (s : List ℕ) → ((v : List ℕ) → length v < length s → k v ≡ k' v) → step k s ≡ step k' s

module _ {R : Type 0} (out : R) (step : (List ℕ → R) → List ℕ → R) (asks : AsksShorter step) where
  enough : (n m : ℕ) (s : List ℕ) → length s < n → length s < m → recurse_with_fuel out step n s ≡ recurse_with_fuel out
      step m s
  unfolding recurse_with_fuel
  enough zero m s p q = absurd (omega arith)
  enough (suc n) zero s p q = absurd (omega arith)
  enough (suc n) (suc m) s p q =
      asks (recurse_with_fuel out step n) (recurse_with_fuel out step m) s (λ v h. enough n m v (omega arith) (omega arith))

  pub recurse_unroll : (s : List ℕ) → recurse_with_fuel_from_length out step s ≡ step (recurse_with_fuel_from_length out step) s
  unfolding recurse_with_fuel_from_length recurse_with_fuel
  recurse_unroll s =
      asks (recurse_with_fuel out step (length s)) (recurse_with_fuel_from_length out step) s
      (λ v h. enough (length s) (suc (length v)) v h (omega arith))

-- what holds of a list once it holds of all shorter ones holds of every list
pub shorter_first : (P : List ℕ → Type 0) → ((s : List ℕ) → ((v : List ℕ) → length v < length s → P v) → P s)
    → (s : List ℕ) → P s
shorter_first P step s = go (suc (length s)) s (omega arith)
  where
    go : (n : ℕ) (s : List ℕ) → length s < n → P s
    go zero s h = absurd (omega arith)
    go (suc n) s h = step s (λ v k. go n v (omega arith))
