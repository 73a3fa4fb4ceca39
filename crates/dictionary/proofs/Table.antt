-- Columns of a table: what an array of a number for each row says of the rows. Assumes nothing.
use mathlib.Core.Path.{◌≡◌, sym, ap}
use mathlib.Core.List.{List, map}
use Prim.Native.Nat.{ℕ, ◌≤◌}
use native.Mathlib.Omega.{arith}
use lib.ListN.{length, get_or, get_or-map, get_or-eq_default}
use Rattle.dictionary.specs.Rows.{Row, dictionary_rows, blank_row, row_in, row_at, row_count}

-- entry k of a column is that of row k
pub column : (f : Row → ℕ) (table : List Row) (k : ℕ) → get_or (map f table) k (f blank_row) ≡ f (row_in table k)
column f table k = get_or-map f table k blank_row

-- past the last row
pub beyond : {A : Type 0} (f : Row → A) (k : ℕ) → row_count ≤ k → f blank_row ≡ f (row_at k)
unfolding dictionary_rows
beyond f k h = let l : length dictionary_rows ≤ k = omega arith in
    sym (ap f (get_or-eq_default dictionary_rows blank_row l))
