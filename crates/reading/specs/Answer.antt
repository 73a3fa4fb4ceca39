-- Reading a card's answer (document 01, "Reading an answer", "Commands and steps" and the order of reasons): the
-- length, the status, the encoding, the outer tag and body, the objects. The store is whole or as it was.
-- Assumes nothing.
use Rattle.std.specs.Prelude.{Option, Some, None}
use Rattle.tlv.specs.declared.TlvHeader.{TlvHeader}
use Rattle.std.specs.Prelude.{◌≡◌, Bool, true, List, [], ◌∷◌, ℕ, ◌+◌, ◌-◌, ◌%◌, length, get_or, take, drop}
use Rattle.basics.specs.Choice.{when◌then◌else◌, ◌and◌, ◌≤?◌, ◌=?◌}
use Rattle.basics.specs.Number.{between}
use Rattle.basics.specs.Types.{Bytes, StoreBytes, Value, Response, Tag, Length, Count, Reason}
use Rattle.basics.specs.Reason.{reason_none, reason_status_not9000, reason_malformed, reason_object_not_allowed}
use Rattle.tlv.specs.Object.{header_of, header_value}
use Rattle.tlv.specs.Tree.{Forest, object_count, parse_tree}
use Rattle.dictionary.specs.Rows.{in_gpo_response, in_record_response, in_generate_ac_response, in_checksum_response}
use Rattle.reading.specs.declared.Awaited.{Awaited}
use Rattle.reading.specs.declared.Awaited.TheVariants.{Gpo, Record, Cryptogram, Checksum}
use Rattle.reading.specs.declared.ResponseVerdict.{ResponseVerdict}
use Rattle.reading.specs.declared.ResponseVerdict.TheVariants.{Accepted, BadStatus, Malformed, NotAllowed}
use Rattle.reading.specs.declared.Reading.{Reading}
use Rattle.reading.specs.Taking.{PrimitiveItem, primitive_item, primitive_items, StoringState, storing_state}
use Rattle.reading.specs.Taking.{store_all_items}

-- ---- the numbers of a reading

-- document 01's number of each verdict; 0 where the answer gives no reason
abbrev pub verdict_number : ResponseVerdict → Reason
verdict_number Accepted = reason_none
verdict_number BadStatus = reason_status_not9000
verdict_number Malformed = reason_malformed
verdict_number NotAllowed = reason_object_not_allowed

-- what one reading gives, which is no outcome of a session: the reason's number, how many objects it visited, the store
pub record ReadingOutcome : Type 0 where
  pub reason : Reason
  pub objects : Count
  pub store : StoreBytes

-- a reading of these parts
abbrev pub reading_outcome : Reason → Count → StoreBytes → ReadingOutcome
reading_outcome r n b = record { reason = r; objects = n; store = b }

-- the value r and the store b are what the reading o gives
pub record ReadingAndStoreMatchOutcome (returned : Reading) (store_after : StoreBytes) (expected : ReadingOutcome) : Type
    0 where
  pub reason : verdict_number returned.verdict ≡ expected.reason
  pub objects : returned.objects ≡ expected.objects
  pub store : store_after ≡ expected.store

-- ---- the body: one object with no byte after it

-- a primitive object with its value, or a template with the tree that it holds
pub data ResponseBody : Type 0 where
  primitive : Tag → Value → ResponseBody
  template : Tag → Forest → ResponseBody

-- a template whose contents are a tree
abbrev pub template_body : Tag → Option Forest → Option ResponseBody
template_body t None = None
template_body t (Some f) = Some (template t f)

-- an object that is the whole body; three levels of templates are left inside the outer one
abbrev pub body_of_one_object : Bytes → Option TlvHeader → Option ResponseBody
body_of_one_object s None = None
body_of_one_object s (Some h) =
    when h.start + h.len =? length s then
    when h.template then template_body h.tag (parse_tree 3 (header_value s h))
    else Some (primitive h.tag (header_value s h))
    else None

-- the body's tree, or none where the encoding is malformed
unfoldable pub parse_response_body : Bytes → Option ResponseBody
parse_response_body s = body_of_one_object s (header_of s)

-- how many objects a body has, the outer one included
abbrev pub body_object_count : ResponseBody → Count
body_object_count (primitive t v) = 1
body_object_count (template t f) = 1 + object_count f

-- ---- the outer tag and body, and the objects that they bring

-- which answer brings an object, as a bit of the dictionary's column
abbrev pub response_bit : Awaited → ℕ
response_bit Gpo = in_gpo_response
response_bit (Record f) = in_record_response
response_bit Cryptogram = in_generate_ac_response
response_bit Checksum = in_checksum_response

-- a template: 70 for a record, 77 for the others
abbrev pub response_template_tag : Awaited → Tag
response_template_tag Gpo = 0x77
response_template_tag (Record f) = 0x70
response_template_tag Cryptogram = 0x77
response_template_tag Checksum = 0x77

-- the lengths of a body under 80: of GPO two bytes of AIP and an AFL of 4 to 248; of GENERATE AC one byte of CID, two
-- of ATC and eight of AC, and at most 32 of IAD
abbrev pub least_gpo_length_under80 : Length
least_gpo_length_under80 = 6

abbrev pub most_gpo_length_under80 : Length
most_gpo_length_under80 = 250

abbrev pub least_generate_ac_length_under80 : Length
least_generate_ac_length_under80 = 11

abbrev pub most_generate_ac_length_under80 : Length
most_generate_ac_length_under80 = 43

-- under 80, GPO: two bytes for 82 and the rest, a multiple of 4, for 94; both are taken as if a 77 were
-- directly around them
unfoldable pub gpo_items_under80 : Value → Option (List PrimitiveItem)
gpo_items_under80 v =
    when between least_gpo_length_under80 (length v) most_gpo_length_under80 and (length v - 2) % 4 =? 0 then
    Some (primitive_item 0x77 0x82 (take 2 v) ∷ primitive_item 0x77 0x94 (drop 2 v) ∷ [])
    else None

-- what is left of a cryptogram's body is 9F10, if anything is
unfoldable pub iad_item_if_any : Value → List PrimitiveItem
iad_item_if_any [] = []
iad_item_if_any (a ∷ v) = primitive_item 0x77 0x9F10 (a ∷ v) ∷ []

-- under 80, cryptogram: 9F27, 9F36, 9F26, and 9F10 if any bytes are left; 11 to 43 in all; taken the same way
unfoldable pub cryptogram_items_under80 : Value → Option (List PrimitiveItem)
cryptogram_items_under80 v =
    when between least_generate_ac_length_under80 (length v) most_generate_ac_length_under80 then
    Some
    (primitive_item 0x77 0x9F27 (take 1 v) ∷
    primitive_item 0x77 0x9F36 (take 2 (drop 1 v)) ∷
    primitive_item 0x77 0x9F26 (take 8 (drop 3 v)) ∷
    iad_item_if_any (drop least_generate_ac_length_under80 v))
    else None

-- what a primitive body brings, or none where the outer tag or body is wrong; a record and the checksum (Book C-2,
-- 5.2.3) have no form under 80
unfoldable pub primitive_body_items : Awaited → Tag → Value → Option (List PrimitiveItem)
primitive_body_items Gpo t v =
    when t =? 0x80 then gpo_items_under80 v
    else None
primitive_body_items (Record f) t v = None
primitive_body_items Cryptogram t v =
    when t =? 0x80 then cryptogram_items_under80 v
    else None
primitive_body_items Checksum t v = None

-- what a template brings: its primitive objects at every level, or none where the outer tag is wrong
unfoldable pub template_body_items : Awaited → Tag → Forest → Option (List PrimitiveItem)
template_body_items a t f =
    when t =? response_template_tag a then Some (primitive_items t f)
    else None

-- by the kind of body
abbrev pub response_body_items : Awaited → ResponseBody → Option (List PrimitiveItem)
response_body_items a (primitive t v) = primitive_body_items a t v
response_body_items a (template t f) = template_body_items a t f

-- ---- the reading

-- after the objects: the store as they left it if all were allowed, else as it was
abbrev pub reading_if_all_allowed : StoreBytes → Count → StoringState → ReadingOutcome
reading_if_all_allowed b n w =
    when w.good then reading_outcome reason_none n w.store
    else reading_outcome reason_object_not_allowed n b

-- a wrong outer tag or body is reason 2, its count the tree's; else the objects are taken in order
abbrev pub read_body_items : Awaited → StoreBytes → Count → Option (List PrimitiveItem) → ReadingOutcome
read_body_items a b n None = reading_outcome reason_malformed n b
read_body_items a b n (Some is) = reading_if_all_allowed b n (store_all_items (response_bit a) (storing_state true b) is)

-- a malformed encoding is reason 2 with count 0
abbrev pub read_parsed_body : Awaited → StoreBytes → Option ResponseBody → ReadingOutcome
read_parsed_body a b None = reading_outcome reason_malformed 0 b
read_parsed_body a b (Some body) = read_body_items a b (body_object_count body) (response_body_items a body)

-- the body of an answer, into the store b
unfoldable pub read_body : Awaited → StoreBytes → Bytes → ReadingOutcome
read_body a b s = read_parsed_body a b (parse_response_body s)

-- a record of a file up to 10 is read (no accepted AFL names file 0); of a higher one only length and status count
unfoldable pub is_body_to_be_read : Awaited → Bool
is_body_to_be_read Gpo = true
is_body_to_be_read (Record sfi) = sfi.number ≤? 10
is_body_to_be_read Cryptogram = true
is_body_to_be_read Checksum = true

-- the two status bytes at the end are 90 00
unfoldable pub is_status9000 : Response → Bool
is_status9000 s = get_or s (length s - 2) 0 =? 0x90 and get_or s (length s - 1) 0 =? 0

-- the most bytes of an answer: 256 and the two status bytes
abbrev pub longest_response_length : Length
longest_response_length = 258

-- an answer has 2 to 258 bytes
unfoldable pub response_length_is2_to258 : Response → Bool
response_length_is2_to258 s = between 2 (length s) longest_response_length

-- a whole answer, status bytes included, into the store b
unfoldable pub read_answer : Awaited → StoreBytes → Response → ReadingOutcome
read_answer a b s =
    when response_length_is2_to258 s then
    when is_status9000 s then
    when is_body_to_be_read a then read_body a b (take (length s - 2) s)
    else reading_outcome reason_none 0 b
    else reading_outcome reason_status_not9000 0 b
    else reading_outcome reason_malformed 0 b
