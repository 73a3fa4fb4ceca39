-- The table as it is passed down: a search of its tags finds what `find_row` finds in the rows, and a row's number is
-- taken apart into the row. Assumes nothing.
use Rattle.std.specs.Prelude.{Option, Some}
use mathlib.Core.Path.{◌≡◌, sym, ap, ◌∙◌}
use mathlib.Core.Bool.{true}
use mathlib.Core.List.{List}
use Prim.Native.Nat.{ℕ, ◌<◌}
use lib.ListN.{get_or}
use Rattle.dictionary.specs.Rows.{Row, dictionary_rows, row_at, row_count, find_row}
use Rattle.dictionary.specs.Rule.{rising_tags}
use Rattle.dictionary.specs.Packing.{attributes_of, packed_row_attributes, unpacked_row_attributes}
use Rattle.dictionary.specs.Search.{tags_of}
use Rattle.dictionary.specs.Tables.{packed_attributes_of_rows}
use Rattle.dictionary.proofs.Table.{column}
use Rattle.dictionary.proofs.Find.{found}
use Rattle.dictionary.proofs.Rule.{rows_proper, proper_rising}
use Rattle.dictionary.proofs.Packing.{code_unpacks}

-- from what `search_tags` promises of every rising table
pub lent_found : (t : ℕ) {tags : List ℕ} {x : Option ℕ} → tags ≡ tags_of dictionary_rows
    → ((table : List Row) → tags_of table ≡ tags → rising_tags table ≡ true → x ≡ find_row table t)
    → x ≡ find_row dictionary_rows t
lent_found t e h = h dictionary_rows (sym e) (proper_rising dictionary_rows rows_proper)

-- a found row is one of them
pub row-found : (t : ℕ) {k : ℕ} → find_row dictionary_rows t ≡ Some k → k < row_count
unfolding dictionary_rows
row-found t {k} e = (found dictionary_rows t k e).0

-- a row's number, taken apart
pub lent_row : {codes : List ℕ} {k : ℕ} → codes ≡ packed_attributes_of_rows dictionary_rows → k < row_count
    → unpacked_row_attributes (get_or codes k 0) ≡ attributes_of (row_at k)
unfolding dictionary_rows
lent_row {codes} {k} e h = ap (λ (cs : List ℕ). unpacked_row_attributes (get_or cs k 0)) e ∙ ap unpacked_row_attributes
    (column packed_row_attributes dictionary_rows k) ∙ code_unpacks k h
