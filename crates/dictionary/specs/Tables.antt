-- The table as a call binds it once and passes it down: its tags, and its rows' numbers.
-- This file states no rule of document 01. proofs/Lent ties it to specs/Rows: `lent_found`, `lent_row`.
-- Assumes nothing.
use Rattle.std.specs.Prelude.{◌≡◌, List, map, ℕ}
use Rattle.basics.specs.Types.{TagList}
use Rattle.dictionary.specs.Rows.{Row, dictionary_rows}
use Rattle.dictionary.specs.Packing.{packed_row_attributes}
use Rattle.dictionary.specs.Search.{tags_of}

-- the numbers of a table's rows
abbrev pub packed_attributes_of_rows : List Row → List ℕ
packed_attributes_of_rows table = map packed_row_attributes table

-- what is passed in is the dictionary's
pub record AreDictionaryTables (tag_table : TagList) (packed_table : List ℕ) : Type 0 where
  pub tags : tag_table ≡ tags_of dictionary_rows
  pub codes : packed_table ≡ packed_attributes_of_rows dictionary_rows
