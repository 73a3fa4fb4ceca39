-- Recursion over bytes: an encoding is read from the front, and what is left the same way, until nothing is left.
-- Assumes nothing.
use Rattle.std.specs.Prelude.{List, ℕ, zero, suc, length}

-- the result for s by at most so many steps: a step may request the result of other bytes, with one step less; where no
-- step is left the result is `out`
unfoldable pub recurse_with_fuel : {R : Type 0} → R → ((List ℕ → R) → List ℕ → R) → ℕ → List ℕ → R
recurse_with_fuel out step zero s = out
recurse_with_fuel out step (suc n) s = step (recurse_with_fuel out step n) s

-- the same by one step more than s has bytes: enough wherever a step recurses only on fewer bytes than it was given
unfoldable pub recurse_with_fuel_from_length : {R : Type 0} → R → ((List ℕ → R) → List ℕ → R) → List ℕ → R
recurse_with_fuel_from_length out step s = recurse_with_fuel out step (suc (length s)) s

-- ---- what holds of it, proved in proofs/Recursion for all results, steps and bytes
--   recurse-unroll    where a step recurses only on fewer bytes than it was given, the bound does not matter:
--                     recurse out step s ≡ step (recurse out step) s
