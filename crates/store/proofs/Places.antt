-- Where places lie, for every table: each inside the store, each after the ones before it. By induction over the rows.
-- Assumes nothing.
use mathlib.Core.Path.{◌≡◌, refl, ap}
use mathlib.Core.Bool.{Bool, true}
use mathlib.Core.List.{List, [], ◌∷◌}
use Prim.Native.Nat.{ℕ, zero, suc, ◌+◌, ◌≤◌, ◌<◌}
use native.Mathlib.Omega.{arith}
use lib.Dec.{leb}
use lib.ListN.{length}
use borrow.Author.Tests.{leb-true}
use Rattle.basics.specs.Choice.{every}
use Rattle.basics.proofs.Table.{at}
use Rattle.dictionary.specs.Rows.{Row, blank_row, row_in}
use Rattle.store.specs.Place.{row_size_in_store, row_offset, store_size_of}

-- a row's place lies inside the store
pub inside : (table : List Row) (k : ℕ) → k < length table → row_offset table k + row_size_in_store (row_in table k)
    ≤ store_size_of table
unfolding row_offset store_size_of
inside [] k h = absurd (omega arith)
inside (r ∷ rs) zero h = omega arith
inside (r ∷ rs) (suc k) h = let ih = inside rs k (omega arith) in omega arith

-- past the last row there is no place
pub ends : (table : List Row) (k : ℕ) → length table ≤ k → row_offset table k ≡ store_size_of table
unfolding row_offset store_size_of
ends [] k h = refl
ends (r ∷ rs) zero h = absurd (omega arith)
ends (r ∷ rs) (suc k) h = ap (λ (n : ℕ). row_size_in_store r + n) (ends rs k (omega arith))

-- the next row's place starts after a row's place
pub offset_next : (table : List Row) (k : ℕ) → k < length table → row_offset table (suc k) ≡ row_offset table k
    + row_size_in_store (row_in table k)
unfolding row_offset
offset_next [] k h = absurd (omega arith)
offset_next (r ∷ []) zero h = omega arith
offset_next (r ∷ s ∷ rs) zero h = omega arith
offset_next (r ∷ rs) (suc k) h = let ih = offset_next rs k (omega arith) in omega arith

-- of two rows, the later one's place lies after the earlier one's
pub apart : (table : List Row) (j k : ℕ) → j < k → j < length table → row_offset table j + row_size_in_store (row_in table j)
    ≤ row_offset table k
unfolding row_offset
apart [] j k h i = absurd (omega arith)
apart (r ∷ rs) zero zero h i = absurd (omega arith)
apart (r ∷ rs) zero (suc k) h i = omega arith
apart (r ∷ rs) (suc j) zero h i = absurd (omega arith)
apart (r ∷ rs) (suc j) (suc k) h i = let ih = apart rs j k (omega arith) (omega arith) in omega arith

-- the test of a table: every length + 1 fits a byte
unfoldable pub storable : List Row → Bool
storable table = every (λ r. leb r.greatest 254) table

pub short : (table : List Row) → storable table ≡ true → (k : ℕ) → k < length table → (row_in table k).greatest ≤ 254
unfolding storable
short table t k h = leb-true _ _ (at (λ r. leb r.greatest 254) table blank_row t k h)
