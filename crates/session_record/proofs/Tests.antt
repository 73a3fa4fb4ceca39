-- Joined tests where the second is known or that are joined in another order, and the test that a number is not 0.
-- Assumes nothing.
use mathlib.Core.Path.{◌≡◌, refl, sym, ap, ◌∙◌}
use mathlib.Core.Bool.{Bool, true, false, not}
use Prim.Native.Nat.{ℕ, zero, suc}
use native.Mathlib.Omega.{arith}
use lib.Dec.{eqb, ltb}
use borrow.Author.Tests.{eq-eqb, ne_eqb, lt-ltb, le-ltb}
use Rattle.basics.specs.Choice.{both}

-- a test that holds where the other does adds nothing
pub both_implied : (a b : Bool) → (b ≡ true → a ≡ true) → both a b ≡ b
unfolding both
both_implied true b h = refl
both_implied false true h = h refl
both_implied false false h = refl

-- not 0 is above 0
pub some_not_none : (n : ℕ) → not (eqb n 0) ≡ ltb 0 n
some_not_none zero = ap not (eq-eqb 0 0 refl) ∙ sym (le-ltb 0 0 (omega arith))
some_not_none (suc n) = ap not (ne_eqb (suc n) 0 (λ e. omega arith)) ∙ sym (lt-ltb 0 (suc n) (omega arith))
