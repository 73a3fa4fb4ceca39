-- The dictionary of data objects (document 01, "Dictionary"; document 02, Items 5, 8, 9 and 11; Book C-2, annex A):
-- its rows by number and by tag. specs/Row has what a row is, specs/AnnexA the rows; both are passed on here.
-- Assumes nothing.
use Rattle.std.specs.Prelude.{List, [], ◌∷◌, ◌+◌, get_or, Option, Some, None}
use Rattle.basics.specs.Choice.{when◌then◌else◌, ◌=?◌}
use Rattle.basics.specs.Types.{Tag, Count, RowNumber}
pub use Rattle.dictionary.specs.Row.{Row, row, form_b, form_n, form_cn, set_by_start, set_by_card, set_by_session}
pub use Rattle.dictionary.specs.Row.{
  in_no_template,
  in_template70,
  in_template77,
  in_template_a5,
  in_template_bf0c,
  in_template6f,
  in_no_response,
  in_gpo_response,
}
pub use Rattle.dictionary.specs.Row.{
  in_record_response,
  in_generate_ac_response,
  in_checksum_response,
  in_ac_or_checksum_response,
}
pub use Rattle.dictionary.specs.Row.{in_any_response, optional_at_start, required_at_start}
unfoldable pub use Rattle.dictionary.specs.AnnexA.{dictionary_rows}
pub use Rattle.dictionary.specs.AnnexA.{row_count, store_size}

-- ---- by number

-- what is past the last row
abbrev pub blank_row : Row
blank_row = row 0 0 0 0 0 0 0 0

-- row k of a table, counted from 0
abbrev pub row_in : List Row → RowNumber → Row
row_in table k = get_or table k blank_row

-- row k of the dictionary
abbrev pub row_at : RowNumber → Row
row_at k = row_in dictionary_rows k

-- ---- by tag

-- a place counted from n rows further on
unfoldable pub row_found_shifted : Count → Option RowNumber → Option RowNumber
row_found_shifted n None = None
row_found_shifted n (Some k) = Some (n + k)

-- the first row of a table that has the tag
unfoldable pub find_row : List Row → Tag → Option RowNumber
find_row [] t = None
find_row (r ∷ rs) t =
    when r.tag =? t then Some 0
    else row_found_shifted 1 (find_row rs t)

-- the row that a lookup found, the first where it found none
abbrev pub row_number_found_or_zero : Option RowNumber → RowNumber
row_number_found_or_zero None = 0
row_number_found_or_zero (Some k) = k

-- the row of a known tag; the first row for an unknown one, which no code uses
unfoldable pub row_number_of_tag_or_zero : Tag → RowNumber
row_number_of_tag_or_zero t = row_number_found_or_zero (find_row dictionary_rows t)
