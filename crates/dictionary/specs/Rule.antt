-- The rule of a table (document 01, "The shape of some places"; document 02, Item 11): each tag is above the one before
-- it and well formed, and no least length is above its greatest.
-- One test over the whole table; what it gives at each row is proved for every table that passes.
-- Assumes nothing.
use Rattle.std.specs.Prelude.{Bool, true, List, [], ◌∷◌}
use Rattle.basics.specs.Choice.{◌and◌, ◌≤?◌, ◌<?◌, every}
use Rattle.basics.specs.Types.{Tag}
use Rattle.tlv.specs.Encoding.{well_formed_tag}
use Rattle.dictionary.specs.Rows.{Row}

-- a row by itself
abbrev pub row_has_valid_tag_and_lengths : Row → Bool
row_has_valid_tag_and_lengths r = well_formed_tag r.tag and r.least ≤? r.greatest

-- a tag is below the first tag of the rows after it
abbrev pub tag_below_next_row : Tag → List Row → Bool
tag_below_next_row t [] = true
tag_below_next_row t (r ∷ rs) = t <? r.tag

-- every tag is below the next one
unfoldable pub rising_tags : List Row → Bool
rising_tags [] = true
rising_tags (r ∷ rs) = tag_below_next_row r.tag rs and rising_tags rs

-- the whole rule: tags rise, and every row is in order
unfoldable pub tags_rise_and_rows_valid : List Row → Bool
tags_rise_and_rows_valid table = rising_tags table and every row_has_valid_tag_and_lengths table
