-- A test over a list, entry by entry as a loop goes, and from its entries back to the whole. Assumes nothing.
use mathlib.Core.Path.{◌≡◌, refl}
use mathlib.Core.Bool.{Bool, true, false}
use mathlib.Core.List.{List, [], ◌∷◌}
use Prim.Native.Nat.{ℕ, suc, ◌+◌, ◌≤◌, ◌<◌}
use native.Mathlib.Numerals.{add-one}
use native.Mathlib.Omega.{arith}
use lib.ListN.{length, get_or, drop, drop_of_length-le}
use lib.Seq.{drop-cons}
use Rattle.std.specs.List.{list_all}
use Rattle.basics.specs.Choice.{both, every}
use Rattle.basics.proofs.Laws.{both_yes, both_no_left, both_true}

module _ {A : Type 0} (f : A → Bool) (xs : List A) (d : A) (i : ℕ) where
  -- the next entry decides, or the rest does
  pub every_no : i < length xs → f (get_or xs i d) ≡ false → every f (drop i xs) ≡ false
  unfolding every
  every_no h e = rw (drop-cons xs i d) (both_no_left _ _ e)

  pub every_yes : i < length xs → f (get_or xs i d) ≡ true → every f (drop i xs) ≡ every f (drop (i + 1) xs)
  unfolding every
  every_yes h e = rw (add-one, drop-cons xs i d) (both_true _ e)

  pub every_done : length xs ≤ i → every f (drop i xs) ≡ true
  unfolding every
  every_done h = rw (drop_of_length-le xs h)

-- a test that passes at each entry passes on the whole list
pub every_all : {A : Type 0} (f : A → Bool) (xs : List A) (d : A) → ((k : ℕ) → k < length xs → f (get_or xs k d) ≡ true)
    → every f xs ≡ true
unfolding every
every_all f [] d h = refl
every_all f (x ∷ xs) d h = both_yes _ _ (h 0 (omega arith)) (every_all f xs d (λ k l. h (suc k) (omega arith)))

-- std's test of a list is this one
pub every_is_list_all : {A : Type 0} (f : A → Bool) (xs : List A) → every f xs ≡ list_all f xs
unfolding every both
every_is_list_all f [] = refl
every_is_list_all f (x ∷ xs) = grind (arith, every_is_list_all f xs)
