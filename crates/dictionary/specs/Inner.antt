-- What private functions promise, for their callers' proofs: digits byte by byte, and the part of the table that a
-- tag can be in.
-- This file states no rule of document 01: a reader of the rules can skip it. proofs/Digits ties it to specs/Form:
-- `numeric_is` to `is_numeric`; `all_digits`, `is_other`, `is_half` and `is_wrong` to `is_compressed_numeric`. proofs/Part
-- ties `row_range_for_tag` to `find_row` and to `halving_search_result_in_part`.
-- Assumes nothing.
use Rattle.std.specs.Prelude.{Bool, ◌/◌, ◌%◌}
use Rattle.std.specs.List.{list_all, prefix_len}
use Rattle.basics.specs.Choice.{when◌then◌else◌, ◌and◌, ◌<?◌, ◌=?◌}
use Rattle.basics.specs.Types.{Byte, Bytes, Tag, Count, RowNumber}
use Rattle.dictionary.specs.declared.RowRange.{RowRange}
use Rattle.dictionary.specs.Rows.{row_count}
use Rattle.dictionary.specs.Named.{first_row_of5f, first_row_of9f, first_row_of_df, first_row_of_three_byte_tags}
use Rattle.dictionary.specs.Form.{is_decimal_nibble}

-- both digits of a byte are decimal
unfoldable pub is_decimal_byte : Byte → Bool
is_decimal_byte b = is_decimal_nibble (b / 16) and is_decimal_nibble (b % 16)

-- how many bytes at the front are decimal digits
abbrev pub leading_decimal_bytes : Bytes → Count
leading_decimal_bytes v = prefix_len is_decimal_byte v

-- every byte is FF
abbrev pub all_bytes_ff : Bytes → Bool
all_bytes_ff v = list_all (λ b. b =? 0xFF) v

-- some rows of the table: from one on, up to one that is no more among them
abbrev pub row_range : RowNumber → RowNumber → RowRange
row_range from to = record { from = from; to = to }

-- the rows of the part that a tag can be in (`search_part_number`, specs/Search)
unfoldable pub row_range_for_tag : Tag → RowRange
row_range_for_tag t =
    when t <? 0x100 then row_range 0 first_row_of5f
    else when t <? 0x9F00 then row_range first_row_of5f first_row_of9f
    else when t <? 0xDF00 then row_range first_row_of9f first_row_of_df
    else when t <? 0x10000 then row_range first_row_of_df first_row_of_three_byte_tags
    else row_range first_row_of_three_byte_tags row_count
