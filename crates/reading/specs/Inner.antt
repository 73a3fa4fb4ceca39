-- What private functions promise, for their callers' proofs: the stages of a reading that both readers share. This file
-- states no rule of document 01: a reader of the rules can skip it. proofs/Stages ties it to specs/Answer: the stages
-- are those of `read_answer`.
-- Assumes nothing.
use Rattle.std.specs.Prelude.{Option, Some, None, Result, Ok, Err}
use Rattle.reading.specs.declared.VisitTally.{VisitTally}
use Rattle.std.specs.Prelude.{◌≡◌, List, true, ℕ, ◌+◌, ◌-◌, ◌≤◌, ◌<◌, length, take, drop}
use Rattle.basics.specs.Choice.{when◌then◌else◌, ◌=?◌}
use Rattle.basics.specs.Types.{Bytes, StoreBytes, Response, Value, Tag, Length, Offset, Count}
use Rattle.tlv.specs.declared.TlvHeader.{TlvHeader}
use Rattle.tlv.specs.Object.{header_of}
use Rattle.tlv.specs.Tree.{parse_tree}
use Rattle.reading.specs.declared.Awaited.{Awaited}
use Rattle.reading.specs.declared.ResponseVerdict.{ResponseVerdict}
use Rattle.reading.specs.declared.ResponseVerdict.TheVariants.{Accepted, BadStatus, Malformed}
use Rattle.reading.specs.declared.Reading.{Reading}
use Rattle.reading.specs.Taking.{PrimitiveItem, storing_state, store_all_items}
use Rattle.reading.specs.InnerItems.{IsItemList, unpacked_first_items}
use Rattle.reading.specs.Answer.{ReadingOutcome, reading_outcome, verdict_number, template_body, response_template_tag}
use Rattle.reading.specs.Answer.{response_bit, reading_if_all_allowed, read_body_items, read_parsed_body}
use Rattle.reading.specs.Answer.{response_length_is2_to258, primitive}
use Rattle.reading.specs.Answer.{is_status9000, is_body_to_be_read, read_answer}

-- a reading of these parts
abbrev pub reading_of : ResponseVerdict → Count → Reading
reading_of v n = record { verdict = v; objects = n }

-- ---- how a reading begins

-- with so many bytes of body, or with a verdict where length, status or file decides
unfoldable pub reading_beginning : Awaited → Response → Result ℕ ResponseVerdict
reading_beginning a s =
    when response_length_is2_to258 s then
    when is_status9000 s then
    when is_body_to_be_read a then Ok (length s - 2)
    else Err Accepted
    else Err BadStatus
    else Err Malformed

-- the one object that a body is, with no byte after it
abbrev pub outer_object_of_front : Bytes → Option TlvHeader → Option TlvHeader
outer_object_of_front s None = None
outer_object_of_front s (Some h) =
    when h.start + h.len =? length s then Some h
    else None

unfoldable pub outer_object : Bytes → Option TlvHeader
outer_object s = outer_object_of_front s (header_of s)

-- ---- the objects that are to be judged

-- what a listing gives of an answer s into the store b, where l lists the objects
abbrev pub reading_outcome_of_listing : Awaited → Response → StoreBytes → Result VisitTally Reading → List ℕ → ReadingOutcome
reading_outcome_of_listing a s b (Err r) l = reading_outcome (verdict_number r.verdict) r.objects b
reading_outcome_of_listing a s b (Ok t) l =
    reading_if_all_allowed b t.objects
    (store_all_items (response_bit a) (storing_state true b) (unpacked_first_items s t.items l))

-- the objects stand in the answer
abbrev pub ListedItemsLieInResponse : Response → Result VisitTally Reading → List ℕ → Type 0
ListedItemsLieInResponse s (Err r) l = Unit {0}
ListedItemsLieInResponse s (Ok t) l = IsItemList s t.items l

-- a listing of the object whose outcome f gives by the store
pub record ListingGivesReading (awaited : Awaited) (response : Response) (outcome_for_store : StoreBytes → ReadingOutcome)
    (listing : Result VisitTally Reading)
    (packed_items : List ℕ) : Type 0 where
  pub gives : (b : StoreBytes) → outcome_for_store b ≡ reading_outcome_of_listing awaited response b listing packed_items
  pub fits : ListedItemsLieInResponse response listing packed_items

-- what a template under a tag gives into the store b, by its contents
abbrev pub read_template : Awaited → Tag → Bytes → StoreBytes → ReadingOutcome
read_template a t v b = read_parsed_body a b (template_body t (parse_tree 3 v))

-- an object's value by the places of a header in the whole answer
abbrev pub value_of_header : Response → TlvHeader → Value
value_of_header s h = take h.len (drop h.start s)

-- the parts f of a value of n bytes that starts at a place, in every answer in which it lies
abbrev pub ListingGivesPrimitiveBodyReading : Awaited → (Value → Option (List PrimitiveItem)) → Offset → Length
    → Result VisitTally Reading → List ℕ → Type 0
ListingGivesPrimitiveBodyReading a f start n x l =
    (s : Response) → start + n ≤ length s
    → ListingGivesReading a s (λ b. read_body_items a b 1 (f (take n (drop start s)))) x l

-- what an object that is the whole body gives into the store b, by its value
abbrev pub read_object : Awaited → TlvHeader → Value → StoreBytes → ReadingOutcome
read_object a h v b =
    read_parsed_body a b
    (when h.template then template_body h.tag (parse_tree 3 v)
    else Some (primitive h.tag v))

-- an object in an answer s: what it gives is what s gives, and its value lies in the first 256 bytes
pub record ResponseIsObject (awaited : Awaited) (response : Response) (header : TlvHeader) : Type 0 where
  pub gives : (b : StoreBytes)
      → read_answer awaited b response ≡ read_object awaited header (value_of_header response header) b
  pub two : 2 ≤ header.start
  pub ends : header.start + header.len ≤ length response
  pub short : header.start + header.len ≤ 256
  pub tag : header.tag < 0x1000000

-- what an answer is before its objects are listed: decided without them, or one object
abbrev pub OpenedResponseDescribesResponse : Awaited → Response → Result TlvHeader Reading → Type 0
OpenedResponseDescribesResponse a s (Err r) = (b : StoreBytes)
    → read_answer a b s ≡ reading_outcome (verdict_number r.verdict) r.objects b
OpenedResponseDescribesResponse a s (Ok h) = ResponseIsObject a s h

-- a template's objects by what the walk over its contents reports: their encoding, the outer tag
unfoldable pub listing_of_template : Awaited → Tag → Option VisitTally → Result VisitTally Reading
listing_of_template a t None = Err (reading_of Malformed 0)
listing_of_template a t (Some u) =
    when t =? response_template_tag a then Ok u
    else Err (reading_of Malformed u.objects)
