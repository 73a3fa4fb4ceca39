-- What a start must bring is present exactly when it is there at each of the rows that require it: the others always
-- pass, and the numbers of those that do require it are computed (`required_numbers`). Assumes nothing.
use mathlib.Core.Path.{◌≡◌, refl, sym, ap, ap₂, ◌∙◌}
use mathlib.Core.Bool.{Bool, true, false}
use mathlib.Core.List.{List, [], ◌∷◌}
use Prim.Native.Nat.{ℕ, suc, ◌+◌, ◌<◌}
use native.Mathlib.Nat.{add-zero, zero-add}
use native.Mathlib.Omega.{arith}
use lib.Dec.{eqb}
use lib.ListN.{length}
use Rattle.basics.specs.Choice.{if, both, either, every}
use Rattle.dictionary.specs.Rows.{Row, dictionary_rows, row_in, optional_at_start}
use Rattle.dictionary.specs.Named.{row_numbers_required_at_start}
use Rattle.store.specs.Place.{row_value, is_present}
use Rattle.store.specs.Held.{has_object}
use Rattle.store.proofs.Rows.{rows_length}
use Rattle.session_record.specs.Ranges.{is_present_if_required_at_start, all_required_at_start_present}
use Rattle.session_record.specs.Inner.{row_numbers_required_at_start_from, required_numbers}
use Rattle.session_record.proofs.Tags.{row-found, held_is}

-- row k's object is present
abbrev pub there_at : List ℕ → ℕ → Bool
there_at b k = is_present (row_value dictionary_rows b k)

-- one more row: it is asked only where a start must bring its object
more : (f : ℕ → Bool) (n : ℕ) (ns : List ℕ) (x t u : Bool) → t ≡ f n → u ≡ every f ns
    → both (either x t) u ≡ every f (if x ns (n ∷ ns))
unfolding if both either every
more f n ns true t u e h = h
more f n ns false t u e h = ap₂ both e h

-- the rows of a table whose first row has the number n
from : (b : List ℕ) (n : ℕ) (table : List Row)
    → ((k : ℕ) → k < length table → has_object b (row_in table k).tag ≡ there_at b (n + k))
    → every (is_present_if_required_at_start b) table ≡ every (there_at b) (row_numbers_required_at_start_from n table)
unfolding every is_present_if_required_at_start row_numbers_required_at_start_from
from b n [] f = refl
from b n (r ∷ rs) f =
    more (there_at b) n (row_numbers_required_at_start_from (suc n) rs) (eqb r.must optional_at_start) (has_object b r.tag)
    (every (is_present_if_required_at_start b) rs)
    (f 0 (omega arith) ∙ ap (there_at b) (add-zero n))
    (from b (suc n) rs (λ k h. let e : n + suc k ≡ suc n + k = omega arith in f (suc k) (omega arith) ∙ ap (there_at b)
    e))

-- the dictionary's
pub brought_rows : (b : List ℕ) → all_required_at_start_present b ≡ every (there_at b) row_numbers_required_at_start
unfolding all_required_at_start_present
brought_rows b =
    from b 0 dictionary_rows (λ k h. held_is b _ k (row-found k (omega (arith, rows_length))) refl refl ∙ ap (there_at b)
    (sym (zero-add k)))
    ∙ ap (every (there_at b)) required_numbers
