-- How many objects a reading visits (document 01, "Reading an answer", last paragraph): those of the answer's whole
-- tree, whatever its outer tag and whether its objects are allowed; 0 where the bytes are no such tree or are not read.
-- Assumes nothing.
use Rattle.tlv.specs.declared.TlvHeader.{TlvHeader}
use Rattle.std.specs.Prelude.{Bool, false, ◌+◌, ◌-◌, length, take, Option, Some, None}
use Rattle.basics.specs.Choice.{when◌then◌else◌, ◌and◌, ◌=?◌}
use Rattle.basics.specs.Types.{Bytes, Response, Count}
use Rattle.tlv.specs.Object.{header_of}
use Rattle.tlv.specs.Tree.{Forest, object_count, parse_tree}
use Rattle.reading.specs.declared.Awaited.{Awaited}
use Rattle.reading.specs.Answer.{response_length_is2_to258, is_status9000, is_body_to_be_read}

-- one object at the front is all there is: no byte before it, none after it
abbrev pub object_spans_all_bytes : Bytes → Option TlvHeader → Bool
object_spans_all_bytes s None = false
object_spans_all_bytes s (Some h) = h.start + h.len =? length s

-- the objects of a tree; 0 where there is none
abbrev pub tree_object_count : Option Forest → Count
tree_object_count None = 0
tree_object_count (Some f) = object_count f

-- the objects of a body that is one object, this one included; at most four levels of templates
unfoldable pub object_count_in_body : Bytes → Count
object_count_in_body s =
    when object_spans_all_bytes s (header_of s) then tree_object_count (parse_tree 4 s)
    else 0

-- the objects of an answer: those of its body, where length and status are good and more than the status is read
unfoldable pub object_count_in_answer : Awaited → Response → Count
object_count_in_answer a s =
    when response_length_is2_to258 s and is_status9000 s and is_body_to_be_read a then object_count_in_body (take (length s - 2) s)
    else 0
