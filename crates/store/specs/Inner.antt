-- A row's place as the source has it, for private functions and their callers' proofs. This file states no rule of
-- document 01: a reader of the rules can skip it; `row_offset` of specs/Place is the place that the rules speak of.
-- Assumes nothing.
use Rattle.std.specs.Prelude.{ℕ, ◌+◌, ◌*◌, ◌/◌, ◌%◌}
use Rattle.basics.specs.Types.{RowNumber}
use Rattle.dictionary.specs.Rows.{dictionary_rows, row_at}
use Rattle.store.specs.declared.RowOffsetAndMaxLength.{RowOffsetAndMaxLength}
use Rattle.store.specs.Place.{row_offset}

-- a row's place in the dictionary's store, and the greatest length of its value
abbrev pub row_offset_and_max_length : RowNumber → RowOffsetAndMaxLength
row_offset_and_max_length k = record { at = row_offset dictionary_rows k; most = (row_at k).greatest }

-- a row's place in one number, as the source has it: 256 times where it starts, and the greatest length of its value
abbrev pub packed_row_offset_and_max_length : RowNumber → ℕ
packed_row_offset_and_max_length k = row_offset dictionary_rows k * 256 + (row_at k).greatest

-- such a number taken apart
abbrev pub unpacked_row_offset_and_max_length : ℕ → RowOffsetAndMaxLength
unpacked_row_offset_and_max_length n = record { at = n / 256; most = n % 256 }
