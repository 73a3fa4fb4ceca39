-- Lists of bytes that are the same: equal, and the same to `==`. Assumes nothing.
use mathlib.Core.Bool.{Bool, true, false, ◌&&◌}
use mathlib.Core.List.{List, [], ◌∷◌}
use mathlib.Core.Path.{◌≡◌, refl, ap₂}
use Prim.Native.Nat.{ℕ}
use lib.Dec.{eqb}
use lib.Pointwise.{pointwise}
use borrow.Author.Tests.{eq-eqb, eqb-true}
use Rattle.basics.specs.Choice.{both}
use Rattle.basics.specs.Alike.{bytes_equal}
use Rattle.basics.proofs.Laws.{both_yes, both_left, both_right}

pub alike_refl : (s : List ℕ) → bytes_equal s s ≡ true
unfolding bytes_equal
alike_refl [] = refl
alike_refl (x ∷ s) = both_yes _ _ (eq-eqb x x refl) (alike_refl s)

pub alike_eq : (s t : List ℕ) → bytes_equal s t ≡ true → s ≡ t
unfolding bytes_equal
alike_eq [] [] e = refl
alike_eq [] (y ∷ t) e = cc
alike_eq (x ∷ s) [] e = cc
alike_eq (x ∷ s) (y ∷ t) e =
    ap₂ (λ (a : ℕ) (u : List ℕ). a ∷ u) (eqb-true x y (both_left _ _ e)) (alike_eq s t (both_right _ _ e))

and_both : (a b : Bool) → (a && b) ≡ both a b
unfolding both
and_both true b = refl
and_both false b = refl

-- as `==` on slices compares them
pub alike_pointwise : (s t : List ℕ) → pointwise eqb s t ≡ bytes_equal s t
unfolding bytes_equal
alike_pointwise [] [] = refl
alike_pointwise [] (y ∷ t) = refl
alike_pointwise (x ∷ s) [] = refl
alike_pointwise (x ∷ s) (y ∷ t) = rw (alike_pointwise s t) (and_both (eqb x y) (bytes_equal s t))
