-- Two records read one after the other, in either order (document 02, Item 12; document 01, "Reading an answer"): the
-- contents of a record's template by themselves, and whole record answers.
-- Assumes nothing.
use Rattle.tlv.specs.declared.TlvHeader.{TlvHeader}
use Rattle.std.specs.Prelude.{◌≡◌, Bool, true, false, [], ◌∷◌, ◌++◌, ◌+◌, ◌-◌, ◌≤◌, length, take, Option, Some, None}
use Rattle.basics.specs.Types.{Bytes, StoreBytes, Response, Tag}
use Rattle.basics.specs.Choice.{◌and◌, ◌or◌, ◌=?◌}
use Rattle.basics.specs.Reason.{reason_none}
use Rattle.tlv.specs.Object.{header_of, header_value}
use Rattle.tlv.specs.Tree.{Forest, end, leaf, node, parse_tree}
use Rattle.tlv.specs.Encoding.{object_bytes}
use Rattle.reading.specs.declared.Sfi.{Sfi}
use Rattle.reading.specs.declared.Awaited.TheVariants.{Record}
use Rattle.reading.specs.Answer.{ReadingOutcome, template_body, read_parsed_body, is_status9000, response_length_is2_to258}
use Rattle.reading.specs.Answer.{read_answer}

-- ---- tags

-- one of a tree's primitive objects, at any depth, has the tag
unfoldable pub tree_has_primitive_tag : Tag → Forest → Bool
tree_has_primitive_tag tag end = false
tree_has_primitive_tag tag (leaf t v r) = t =? tag or tree_has_primitive_tag tag r
tree_has_primitive_tag tag (node t f r) = tree_has_primitive_tag tag f or tree_has_primitive_tag tag r

-- the same of what bytes parse to; malformed bytes bring nothing
abbrev pub parsed_tree_has_primitive_tag : Tag → Option Forest → Bool
parsed_tree_has_primitive_tag tag None = false
parsed_tree_has_primitive_tag tag (Some f) = tree_has_primitive_tag tag f

-- the tree of a record's contents: inside its template three of the four levels are left
abbrev pub record_contents_tree : Bytes → Option Forest
record_contents_tree c = parse_tree 3 c

-- no tag of a primitive object is in both contents; a template's tag may be
abbrev pub ShareNoPrimitiveTag : Bytes → Bytes → Type 0
ShareNoPrimitiveTag c d =
    (tag : Tag) → parsed_tree_has_primitive_tag tag (record_contents_tree c) ≡ true
    → parsed_tree_has_primitive_tag tag (record_contents_tree d) ≡ true → ⊥

-- ---- readings

-- a reading, by the store that it reads into
abbrev pub StoreReading : Type 0
StoreReading = StoreBytes → ReadingOutcome

-- the contents c read into the store b: what a template 70 around them gives, whatever their length; `read_parsed_body`
-- does not examine the file's number
abbrev pub read_record_contents : Bytes → StoreReading
read_record_contents c b = read_parsed_body (Record (record { number = 1 })) b (template_body 0x70 (record_contents_tree c))

-- the whole answer s, status bytes included, for a record of a file, read into the store b
abbrev pub read_record_answer : Sfi → Response → StoreReading
read_record_answer sfi s b = read_answer (Record sfi) b s

-- a reading gives no reason on the store b
abbrev pub ReadingAccepted : StoreReading → StoreBytes → Type 0
ReadingAccepted reading b = (reading b).reason ≡ reason_none

-- two readings, one after the other: both are accepted in both orders, and the store is the same, byte for byte
pub record ReadingsAcceptedAndSameInEitherOrder (first second : StoreReading) (store_before : StoreBytes) : Type 0 where
  pub behind_first : ReadingAccepted second (first store_before).store
  pub behind_second : ReadingAccepted first (second store_before).store
  pub store : (second (first store_before).store).store ≡ (first (second store_before).store).store

-- one reading in place of two: it is accepted, and leaves the store that the two leave
pub record OneReadingReplacesTwo (whole first second : StoreReading) (store_before : StoreBytes) : Type 0 where
  pub accepted : ReadingAccepted whole store_before
  pub store : (whole store_before).store ≡ (second (first store_before).store).store

-- what holds of the contents c and d on the store b: read in either order, and joined in one content in either order
pub record RecordContentsCommuteAndJoin (store_before : StoreBytes) (first_contents second_contents : Bytes) : Type 0 where
  pub orders : ReadingsAcceptedAndSameInEitherOrder (read_record_contents first_contents)
      (read_record_contents second_contents) store_before
  pub joined : OneReadingReplacesTwo (read_record_contents (first_contents ++ second_contents))
      (read_record_contents first_contents) (read_record_contents second_contents) store_before
  pub swapped : OneReadingReplacesTwo (read_record_contents (second_contents ++ first_contents))
      (read_record_contents first_contents) (read_record_contents second_contents) store_before

-- ---- whole answers

-- an answer without its two status bytes
abbrev pub without_status_bytes : Response → Bytes
without_status_bytes s = take (length s - 2) s

-- the value of the object at the front; none where no object is present
abbrev pub contents_in : Bytes → Option TlvHeader → Bytes
contents_in s None = []
contents_in s (Some h) = header_value s h

-- the contents of an answer's outer object
unfoldable pub outer_object_contents : Response → Bytes
outer_object_contents s = contents_in (without_status_bytes s) (header_of (without_status_bytes s))

-- the object at the front is a template 70, and all there is
abbrev pub is_template70_and_nothing_more : Bytes → Option TlvHeader → Bool
is_template70_and_nothing_more s None = false
is_template70_and_nothing_more s (Some h) = h.tag =? 0x70 and h.start + h.len =? length s

-- a whole record answer: 2 to 258 bytes, the last two 90 00, and before them one template 70
unfoldable pub is_successful_record_answer_in70 : Response → Bool
is_successful_record_answer_in70 s =
    response_length_is2_to258 s and is_status9000 s and is_template70_and_nothing_more (without_status_bytes s)
    (header_of (without_status_bytes s))

-- a whole record answer with these contents, their length in any of its encodings
pub record RecordAnswerWithContents (response : Response) (expected_contents : Bytes) : Type 0 where
  pub whole : is_successful_record_answer_in70 response ≡ true
  pub contents : outer_object_contents response ≡ expected_contents

-- the shortest one: 70, the length in as few bytes as it needs, the contents, 90 00
abbrev pub shortest_record_answer : Bytes → Response
shortest_record_answer c = object_bytes 0x70 c ++ (0x90 ∷ 0x00 ∷ [])

-- what holds of the answers s and t for records of two files on the store b: read in either order, and as one answer
-- with the contents of both, in either order, for a record of any file up to 10
pub record RecordAnswersCommuteAndJoin (first_sfi second_sfi : Sfi) (store_before : StoreBytes)
    (first_response second_response : Response) : Type 0 where
  pub orders : ReadingsAcceptedAndSameInEitherOrder (read_record_answer first_sfi first_response)
      (read_record_answer second_sfi second_response) store_before
  pub joined : (h : Sfi) (u : Response) → h.number ≤ 10
      → RecordAnswerWithContents u (outer_object_contents first_response ++ outer_object_contents second_response)
      → OneReadingReplacesTwo (read_record_answer h u) (read_record_answer first_sfi first_response)
      (read_record_answer second_sfi second_response) store_before
  pub swapped : (h : Sfi) (u : Response) → h.number ≤ 10
      → RecordAnswerWithContents u (outer_object_contents second_response ++ outer_object_contents first_response)
      → OneReadingReplacesTwo (read_record_answer h u) (read_record_answer first_sfi first_response)
      (read_record_answer second_sfi second_response) store_before

-- ---- what holds of it: the promises of `records_in_any_order`, proved in proofs/ (Contents and, under it, Taking;
-- Answers, Room)
