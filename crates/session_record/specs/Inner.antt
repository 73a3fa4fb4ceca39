-- What private functions promise, for their callers' proofs: what is required of a row's object by the bytes of its
-- place, and where the next object that is present is. This file states no rule of document 01: a reader of the rules
-- can skip it. proofs/Fit, proofs/Walk and proofs/Required tie it to specs/Ranges: `object_place` to
-- `stored_object_absent_or_fits_row`, `walk_end` to `all_stored_objects_fit_rows` and `all_required_at_start_present`,
-- `brought_rows` to `all_required_at_start_present`. Assumes nothing.
use Rattle.std.specs.Prelude.{◌≡◌, refl, Bool, not, List, [], ◌∷◌, suc, ◌+◌, ◌≤◌, ◌<◌, get_or, length, Option, Some, None}
use Rattle.basics.specs.Types.{Bytes, StoreBytes, RowNumber, RecordNumber, Offset, Count}
use Rattle.basics.specs.Choice.{if, when◌then◌else◌, ◌and◌, ◌or◌, ◌≤?◌, ◌<?◌, ◌=?◌}
use Rattle.basics.specs.Number.{between}
use Rattle.dictionary.specs.Rows.{Row, dictionary_rows, row_count, optional_at_start}
use Rattle.dictionary.specs.Named.{required_at_start_count, row_numbers_required_at_start}
use Rattle.store.specs.Place.{value_in_place, row_size_in_store, row_offset, row_value, bytes_or_empty_if_absent}
use Rattle.afl.specs.Records.{accepts_afl}
use Rattle.session_record.specs.declared.RowPosition.{RowPosition}
use Rattle.session_record.specs.Ranges.{absent_or_length_and_digits_fit_row, all_stored_objects_fit_rows}
use Rattle.session_record.specs.Ranges.{all_required_at_start_present, stored_afl, stored_afl_record_count}

-- ---- one place

-- what is in a row's place fits: its length byte lies in the row's room, and its value fits
unfoldable pub place_length_and_value_fit_row : Row → Bytes → Bool
place_length_and_value_fit_row r p =
    get_or p 0 0 ≤? row_size_in_store r
    and absent_or_length_and_digits_fit_row r (value_in_place p)

-- ---- from a row on

-- a walk came from a row to another, whose place starts at the byte `at`: by their length bytes the objects between are
-- absent
pub record AbsentRowsPassed (store_bytes_walked : StoreBytes) (from_row to_row : RowNumber) (to_row_offset : Offset) : Type 0
  where
    pub later : from_row ≤ to_row
    pub within : to_row ≤ row_count
    pub place : to_row_offset ≡ row_offset dictionary_rows to_row
    pub absent : (k : RowNumber) → from_row ≤ k → k < to_row → get_or store_bytes_walked (row_offset dictionary_rows k) 0 ≡ 0

-- it came to the first object that is present, or to the end
pub record NextPresentRow (store_bytes_walked : StoreBytes) (from_row : RowNumber) (reached : RowPosition) : Type 0 where
  pub passed : AbsentRowsPassed store_bytes_walked from_row reached.row reached.at
  pub there : reached.row < row_count → 0 < get_or store_bytes_walked reached.at 0

-- ---- all rows

-- how many objects of some rows a start must bring
unfoldable pub required_at_start_count_in : List Row → Count
required_at_start_count_in [] = 0
required_at_start_count_in (r ∷ rs) = r.must + required_at_start_count_in rs

-- and of all rows
pub required_rows : required_at_start_count_in dictionary_rows ≡ required_at_start_count
unfolding required_at_start_count_in dictionary_rows
required_rows = refl

-- the numbers of those rows of a table, whose first row has the number n
unfoldable pub row_numbers_required_at_start_from : RowNumber → List Row → List RowNumber
row_numbers_required_at_start_from n [] = []
row_numbers_required_at_start_from n (r ∷ rs) =
    when r.must =? optional_at_start then row_numbers_required_at_start_from (suc n) rs
    else n ∷ row_numbers_required_at_start_from (suc n) rs

-- and of all rows
pub required_numbers : row_numbers_required_at_start_from 0 dictionary_rows ≡ row_numbers_required_at_start
unfolding row_numbers_required_at_start_from row_numbers_required_at_start dictionary_rows if
required_numbers = refl

-- every object fits, and where `asked` what a start must bring is present: by the rules
abbrev pub all_fit_and_required_present_if_asked : Bool → StoreBytes → Bool
all_fit_and_required_present_if_asked asked b =
    all_stored_objects_fit_rows b
    and (not asked or all_required_at_start_present b)

-- ---- the stored AFL, and one row's value

-- how many records the stored AFL names, where it is accepted
unfoldable pub record_count_of_stored_afl : StoreBytes → Option Count
record_count_of_stored_afl b = when accepts_afl (stored_afl b) then Some (stored_afl_record_count b) else None

-- the stored AFL names the record of a number, and so many commands come before its answer
abbrev pub record_and_count_in_stored_afl : RecordNumber → Count → StoreBytes → Bool
record_and_count_in_stored_afl k n b =
    accepts_afl (stored_afl b)
    and between 1 k (stored_afl_record_count b)
    and n =? 1 + k

-- every record that the stored AFL names was requested, and one more command handed out
abbrev pub count_after_stored_records : Count → StoreBytes → Bool
count_after_stored_records n b =
    accepts_afl (stored_afl b)
    and n =? 2 + stored_afl_record_count b

-- the value of a row has bytes
abbrev pub row_non_empty : StoreBytes → RowNumber → Bool
row_non_empty b k = 0 <? length (bytes_or_empty_if_absent (row_value dictionary_rows b k))
