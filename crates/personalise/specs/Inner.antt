-- What private functions promise, for their callers' proofs: runs of objects by parts, sizes up to a bound, bytes
-- written from a place on, and the answer from each test on.
-- This file states no rule of document 02: a reader of the rules can skip it. proofs/ ties it to the rules.
-- Assumes nothing.
use Rattle.std.specs.Prelude.{Option, Some, None, Ok, Err}
use Rattle.std.specs.Prelude.{◌≡◌, Bool, true, false, not, List, [], ◌++◌, ℕ, ◌+◌, ◌≤◌, min, length, take, drop}
use Rattle.basics.specs.Types.{Bytes, Count, Length, Offset, RecordNumber, Tag, Value}
use Rattle.basics.specs.Choice.{when◌then◌else◌, ◌and◌, every}
use Rattle.tlv.specs.Primitives.{Object, primitive_objects, are_primitive_objects_parsed}
use Rattle.tlv.specs.Encoding.{tag_bytes, length_bytes, object_bytes}
use Rattle.afl.specs.Records.{afl_record_count}
use Rattle.personalise.specs.declared.Placement.{Placement}
use Rattle.personalise.specs.declared.PersonaliseError.TheVariants.{BadList, BadEntry, BadRecord}
use Rattle.personalise.specs.Objects.{parsed_objects_or_empty, tag_and_value_allowed_in_record, lacks_tag, tags_distinct}
use Rattle.personalise.specs.Placements.{ObjectNumber, placements_in, any_placement, puts_object_into, each_placed_once}
use Rattle.personalise.specs.Entries.{first_bad_entry}
use Rattle.personalise.specs.Records.{record_content, card_records_from, concatenated_records, most_record_content_bytes}
use Rattle.personalise.specs.Records.{is_out_of_range_placement_into, first_bad_record}
use Rattle.personalise.specs.Outcome.{CardPlan, objects_of_plan}
use Rattle.personalise.specs.Outcome.{placements_of_plan, all_records_bytes}
use Rattle.personalise.specs.Outcome.{PersonaliseResult, objects_valid_and_each_placed_once, refuse_fault_or}

-- ---- runs

-- a run without a tag
abbrev pub list_parsed_and_lacks_tag : Tag → Option (List Object) → Bool
list_parsed_and_lacks_tag t None = false
list_parsed_and_lacks_tag t (Some os) = lacks_tag t os

-- a run that satisfies the list's rules, its objects numbered from j on
abbrev pub parsed_objects_valid_and_placed_once : List Placement → ObjectNumber → Option (List Object) → Bool
parsed_objects_valid_and_placed_once ps j None = false
parsed_objects_valid_and_placed_once ps j (Some os) =
    every tag_and_value_allowed_in_record os and tags_distinct os and each_placed_once ps j os

-- bytes that are a run, all of its objects settable
abbrev pub AreObjectsAllowedInRecord : Bytes → Type 0
AreObjectsAllowedInRecord s =
    (are_primitive_objects_parsed (primitive_objects s) ≡ true) × (every tag_and_value_allowed_in_record (parsed_objects_or_empty s)
    ≡ true)

-- ---- placements

-- some placement into record k strays, of n records and m objects
abbrev pub record_has_out_of_range_placement : List Placement → Count → Count → RecordNumber → Bool
record_has_out_of_range_placement ps n m k = any_placement (is_out_of_range_placement_into n m k) ps

-- ---- sizes

-- a size up to 253; any larger one counts as 254
abbrev pub size_capped_at254 : Length → Length
size_capped_at254 n = min n 254

-- the size of an object by its tag and the length of its value
abbrev pub encoded_object_size : Tag → Length → Length
encoded_object_size t n = length (tag_bytes t) + (length (length_bytes n) + n)

-- the same for object j in record k; 0 where it is not present
abbrev pub encoded_size_if_placed_in_record : List Placement → RecordNumber → ObjectNumber → Tag → Length → Length
encoded_size_if_placed_in_record ps k j t n = when any_placement (puts_object_into k j) ps then encoded_object_size t n else 0

-- ---- bytes

-- the bytes v written over s from a place on
unfoldable pub bytes_written_over : Bytes → Offset → Bytes → Bytes
bytes_written_over s at v = take at s ++ (v ++ drop (at + length v) s)

-- the bytes v are written over s from a place on, which leaves t; n is the place after them
pub record WritesBytesAt (offset_after : Offset) (bytes_after bytes_before : Bytes) (offset_before : Offset)
    (written : Bytes) : Type 0 where
  pub next : offset_after ≡ offset_before + length written
  pub wrote : bytes_after ≡ bytes_written_over bytes_before offset_before written

-- the bytes of an object in record k, none where it is not present
abbrev pub object_bytes_if_placed_in_record : List Placement → RecordNumber → ObjectNumber → Tag → Value → Bytes
object_bytes_if_placed_in_record ps k j t v = when any_placement (puts_object_into k j) ps then object_bytes t v else []

-- the bytes of n records, and by the bytes of objects and placements
abbrev pub concatenated_first_records : List Object → List Placement → Count → Bytes
concatenated_first_records os ps n = concatenated_records (card_records_from os ps 1 n)

abbrev pub concatenated_records_from_bytes : Bytes → Bytes → Count → Bytes
concatenated_records_from_bytes objects placements n =
    concatenated_first_records (parsed_objects_or_empty objects) (placements_in placements) n

-- the contents of n records fit
abbrev pub RecordContentsWithin253Bytes : List Object → List Placement → Count → Type 0
RecordContentsWithin253Bytes os ps n = (k : ℕ) → k ≤ n → length (record_content os ps k) ≤ most_record_content_bytes

-- ---- the answer from each test on

-- all is written
abbrev pub result_all_written : CardPlan → PersonaliseResult
result_all_written p = Ok (record { records = length (all_records_bytes p); afl = length p.entries })

-- after the entries
abbrev pub result_from_record_checks : CardPlan → PersonaliseResult
result_from_record_checks p =
    refuse_fault_or BadRecord (first_bad_record (objects_of_plan p) (placements_of_plan p) (afl_record_count p.entries))
    (result_all_written p)

-- after the list
abbrev pub result_from_entry_checks : CardPlan → PersonaliseResult
result_from_entry_checks p = refuse_fault_or BadEntry (first_bad_entry p.entries) (result_from_record_checks p)

-- after the buffers
abbrev pub result_from_list_checks : CardPlan → PersonaliseResult
result_from_list_checks p = when not (objects_valid_and_each_placed_once p) then Err BadList else result_from_entry_checks p
