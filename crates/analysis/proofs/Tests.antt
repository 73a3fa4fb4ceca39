-- Tests joined, and one of two by a test, where a test is known: what `grind` needs of them.
-- Assumes nothing.
use mathlib.Core.Bool.{Bool, true, false}
use mathlib.Core.List.{List, [], ◌∷◌}
use mathlib.Core.Path.{◌≡◌, refl}
use Prim.Native.Nat.{ℕ}
use native.Mathlib.Omega.{arith}
use lib.Dec.{eqb}
use lib.Pointwise.{pointwise}
use Rattle.basics.specs.Choice.{if, both, either}
use Rattle.basics.specs.Alike.{bytes_equal}

pub if_true : {A : Type 0} (a b : A) → if true a b ≡ a
unfolding if
if_true a b = refl

pub if_false : {A : Type 0} (a b : A) → if false a b ≡ b
unfolding if
if_false a b = refl

pub both_of_true : (b : Bool) → both true b ≡ b
unfolding both
both_of_true b = refl

pub both_of_false : (b : Bool) → both false b ≡ false
unfolding both
both_of_false b = refl

pub either_of_true : (b : Bool) → either true b ≡ true
unfolding either
either_of_true b = refl

pub either_of_false : (b : Bool) → either false b ≡ b
unfolding either
either_of_false b = refl

-- `==` on bytes
pub bytes_equal_pointwise : (s t : List ℕ) → bytes_equal s t ≡ pointwise eqb s t
unfolding bytes_equal both
bytes_equal_pointwise [] [] = refl
bytes_equal_pointwise [] (y ∷ t) = refl
bytes_equal_pointwise (x ∷ s) [] = refl
bytes_equal_pointwise (x ∷ s) (y ∷ t) = grind (arith, bytes_equal_pointwise s t, both_of_true, both_of_false)

pub ruleset choices = (if_true, if_false, both_of_true, both_of_false, either_of_true, either_of_false, bytes_equal_pointwise)
