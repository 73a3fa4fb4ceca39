-- A rule of a table, proved at all of its entries by one test that is computed over the whole table.
-- Assumes nothing.
use mathlib.Core.Path.{◌≡◌}
use mathlib.Core.Bool.{Bool, true}
use mathlib.Core.List.{List, [], ◌∷◌}
use Prim.Native.Nat.{ℕ, zero, suc, ◌<◌}
use native.Mathlib.Omega.{arith}
use lib.ListN.{length, get_or}
use Rattle.basics.specs.Choice.{every}
use Rattle.basics.proofs.Laws.{both_left, both_right}

-- the test holds at each place
pub at : {A : Type 0} (f : A → Bool) (xs : List A) (d : A) → every f xs ≡ true → (k : ℕ) → k < length xs
    → f (get_or xs k d) ≡ true
unfolding every
at f [] d t k h = absurd (omega arith)
at f (x ∷ xs) d t zero h = both_left (f x) (every f xs) t
at f (x ∷ xs) d t (suc k) h = at f xs d (both_right (f x) (every f xs) t) k (omega arith)
