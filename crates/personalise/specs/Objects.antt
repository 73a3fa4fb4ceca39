-- The list of objects that a card is to carry (document 02, Item 4): which objects it may hold, and that no tag is in
-- it twice. The list is whole primitive objects, concatenated, and is read as start bytes are.
-- Assumes nothing.
use Rattle.std.specs.Prelude.{Bool, true, false, not, List, [], ◌∷◌, Option, Some, None, ℕ}
use Rattle.basics.specs.Types.{Bytes, Tag, Value}
use Rattle.basics.specs.Choice.{◌and◌, ◌=?◌, every}
use Rattle.tlv.specs.Primitives.{Object, primitive_objects}
use Rattle.dictionary.specs.Rows.{dictionary_rows, row_at, find_row, in_record_response}
use Rattle.reading.specs.Taking.{row_allows_value_from_card}

-- the template of a record
abbrev pub tag_record_template : Tag
tag_record_template = 0x70

-- the objects of a list, none where the bytes are no list
abbrev pub objects_or_empty : Option (List Object) → List Object
objects_or_empty None = []
objects_or_empty (Some os) = os

abbrev pub parsed_objects_or_empty : Bytes → List Object
parsed_objects_or_empty list = objects_or_empty (primitive_objects list)

-- by its row in the table: the card may set it in template 70 with an answer to READ RECORD, its length and digits fit;
-- an unknown tag has no row
abbrev pub row_allows_value_in_record : Option ℕ → Value → Bool
row_allows_value_in_record None v = false
row_allows_value_in_record (Some k) v = row_allows_value_from_card in_record_response (row_at k) tag_record_template v

-- an object is one that the card may set in template 70, its length and digits fitting
unfoldable pub tag_and_value_allowed_in_record : Object → Bool
tag_and_value_allowed_in_record o = row_allows_value_in_record (find_row dictionary_rows o.tag) o.value

-- no object of a list has this tag, whatever its value
unfoldable pub lacks_tag : Tag → List Object → Bool
lacks_tag t os = every (λ o. not (o.tag =? t)) os

-- no tag is in the list twice
unfoldable pub tags_distinct : List Object → Bool
tags_distinct [] = true
tags_distinct (o ∷ os) = lacks_tag o.tag os and tags_distinct os
