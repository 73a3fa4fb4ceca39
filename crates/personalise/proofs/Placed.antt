-- The placements of some bytes, as `Placements` gives them, and what a test or a count says of a list of them.
-- Assumes nothing.
use mathlib.Core.Path.{◌≡◌, refl, ap, ◌∙◌}
use mathlib.Core.Bool.{Bool, true, false, cond, ◌||◌}
use mathlib.Core.List.{List, [], ◌∷◌}
use Prim.Native.Nat.{ℕ, suc, ◌≤◌}
use native.Mathlib.Omega.{arith}
use lib.ListN.{length}
use Rattle.std.specs.List.{list_any, filter}
use Rattle.basics.specs.Choice.{if, either}
use Rattle.personalise.specs.declared.Placement.{Placement}
use Rattle.personalise.specs.Placements.{placement, placements_in, count_placements_where, any_placement}

-- ---- the placements

-- one byte more, or two
pub one_more : (s t : List ℕ) (r : ℕ) → s ≡ r ∷ t → length t ≡ 0 → placements_in s ≡ placement r 0 ∷ placements_in t
unfolding placements_in
one_more s [] r e z = ap placements_in e
one_more s (o ∷ t) r e z = absurd (omega arith)

pub two_more : (s t u : List ℕ) (r o : ℕ) → s ≡ r ∷ t → t ≡ o ∷ u → placements_in s ≡ placement r o ∷ placements_in u
unfolding placements_in
two_more s t u r o e f = ap placements_in (e ∙ ap (λ x. r ∷ x) f)

pub none_left : (s : List ℕ) → length s ≡ 0 → placements_in s ≡ []
unfolding placements_in
none_left [] z = refl
none_left (r ∷ s) z = absurd (omega arith)

pub placements_most : (s : List ℕ) → length (placements_in s) ≤ length s
unfolding placements_in
placements_most [] = omega arith
placements_most (r ∷ []) = omega arith
placements_most (r ∷ o ∷ s) = omega (arith, placements_most s)

-- ---- of a list of them

or_is : (b : Bool) (x y : Bool) → x ≡ y → (b || x) ≡ either b y
unfolding either
or_is true x y e = refl
or_is false x y e = e

pub any_is : (f : Placement → Bool) (ps : List Placement) → list_any f ps ≡ any_placement f ps
unfolding any_placement
any_is f [] = refl
any_is f (p ∷ ps) = or_is (f p) _ _ (any_is f ps)

longer : (b : Bool) (p : Placement) (xs : List Placement) (n : ℕ) → length xs ≡ n
    → length (cond b (p ∷ xs) xs) ≡ (if) b (suc n) n
unfolding if
longer true p xs n e = ap suc e
longer false p xs n e = e

pub count_is : (f : Placement → Bool) (ps : List Placement) → length (filter f ps) ≡ count_placements_where f ps
unfolding count_placements_where
count_is f [] = refl
count_is f (p ∷ ps) = longer (f p) p _ _ (count_is f ps)
