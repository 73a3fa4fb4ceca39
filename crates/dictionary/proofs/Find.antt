-- What a lookup in a table says: a found place is a row of the table and has the tag; a tag that no row has is not
-- found. Assumes nothing.
use Rattle.std.specs.Prelude.{Option, Some, None}
use mathlib.Core.Path.{◌≡◌, refl, ap, ◌∙◌}
use mathlib.Core.List.{List, [], ◌∷◌}
use Prim.Native.Nat.{ℕ, suc, ◌+◌, ◌<◌}
use native.Mathlib.Omega.{arith}
use lib.Dec.{eqb}
use lib.ListN.{length}
use borrow.Author.Tests.{ne_eqb, eqb-true}
use Rattle.basics.proofs.Laws.{if_no, if_ind}
use Rattle.dictionary.specs.Rows.{Row, row_in, row_found_shifted, find_row}

abbrev Right : List Row → ℕ → Option ℕ → Type 0
Right table t None = Unit {0}
Right table t (Some k) = (k < length table) × ((row_in table k).tag ≡ t)

later : (r : Row) (table : List Row) (t : ℕ) (x : Option ℕ) → Right table t x
    → Right (r ∷ table) t (row_found_shifted 1 x)
unfolding row_found_shifted
later r table t None w = tt
later r table t (Some k) w = let e : 1 + k ≡ suc k = omega arith in rw e (omega arith, w.1)

right : (table : List Row) (t : ℕ) → Right table t (find_row table t)
unfolding find_row
right [] t = tt
right (r ∷ rs) t =
    if_ind (Right (r ∷ rs) t) (eqb r.tag t) (Some 0) (row_found_shifted 1 (find_row rs t))
    (λ e. (omega arith, eqb-true r.tag t e)) (λ e. later r rs t (find_row rs t) (right rs t))

-- a found row is a row of the table, and has the tag
pub found : (table : List Row) (t k : ℕ) → find_row table t ≡ Some k → (k < length table) × ((row_in table k).tag ≡ t)
found table t k e = rw e at (right table t)

-- a tag that no row has
pub absent : (table : List Row) (t : ℕ) → ((k : ℕ) → k < length table → (row_in table k).tag ≡ t → ⊥)
    → find_row table t ≡ None
unfolding find_row row_found_shifted
absent [] t none = refl
absent (r ∷ rs) t none =
    if_no _ _ (ne_eqb r.tag t (none 0 (omega arith))) ∙ ap (row_found_shifted 1)
    (absent rs t (λ k h. none (suc k) (omega arith)))
