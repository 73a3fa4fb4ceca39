-- What a personalisation answers, and what it leaves in the caller's two buffers (document 02, Item 4): the records and
-- the AFL, or the first refusal, which writes nothing.
-- Assumes nothing.
use Rattle.std.specs.Prelude.{Bool, not, List, ℕ, length, Option, Some, None, Result, Ok, Err}
use Rattle.basics.specs.Types.{Bytes, AflBytes, Length}
use Rattle.basics.specs.Choice.{when◌then◌else◌, ◌and◌, ◌<?◌, every}
use Rattle.basics.specs.Front.{written_over_front}
use Rattle.tlv.specs.Primitives.{Object, primitive_objects, are_primitive_objects_parsed}
use Rattle.afl.specs.Records.{afl_record_count}
use Rattle.personalise.specs.declared.Placement.{Placement}
use Rattle.personalise.specs.declared.WrittenSizes.{WrittenSizes}
use Rattle.personalise.specs.declared.PersonaliseError.{PersonaliseError}
use Rattle.personalise.specs.declared.PersonaliseError.TheVariants.{ShortRecords, ShortAfl, BadList, BadEntry, BadRecord}
use Rattle.personalise.specs.Objects.{parsed_objects_or_empty, tag_and_value_allowed_in_record, tags_distinct}
use Rattle.personalise.specs.Placements.{placements_in, each_placed_once}
use Rattle.personalise.specs.Entries.{first_bad_entry}
use Rattle.personalise.specs.Records.{concatenated_records, card_records_from, first_bad_record}

-- room for 128 records of 256 bytes each, and for 62 entries of four
abbrev pub least_records_buffer_size : Length
least_records_buffer_size = 32768

abbrev pub least_afl_buffer_size : Length
least_afl_buffer_size = 248

-- ---- what is to be written

-- the list of objects, and the layout: the AFL's entries and the placements
pub record CardPlan : Type 0 where
  pub list : Bytes
  pub entries : AflBytes
  pub placements : Bytes

abbrev pub card_plan : Bytes → AflBytes → Bytes → CardPlan
card_plan list es placements = record { list = list; entries = es; placements = placements }

-- the objects of the list, and where the layout puts each
abbrev pub objects_of_plan : CardPlan → List Object
objects_of_plan p = parsed_objects_or_empty p.list

abbrev pub placements_of_plan : CardPlan → List Placement
placements_of_plan p = placements_in p.placements

-- the records of the card, as many as the AFL names, and their bytes
abbrev pub card_records : CardPlan → List Bytes
card_records p = card_records_from (objects_of_plan p) (placements_of_plan p) 1 (afl_record_count p.entries)

abbrev pub all_records_bytes : CardPlan → Bytes
all_records_bytes p = concatenated_records (card_records p)

-- ---- the answer

-- how many bytes are written, or what is refused
abbrev pub PersonaliseResult : Type 0
PersonaliseResult = Result WrittenSizes PersonaliseError

-- the list: whole primitive objects, each one that may be set, no tag twice, each in one placement
unfoldable pub objects_valid_and_each_placed_once : CardPlan → Bool
objects_valid_and_each_placed_once p =
    are_primitive_objects_parsed (primitive_objects p.list)
    and every tag_and_value_allowed_in_record (objects_of_plan p)
    and tags_distinct (objects_of_plan p)
    and each_placed_once (placements_of_plan p) 1 (objects_of_plan p)

-- what is bad is refused by its number; where nothing is, what follows
abbrev pub refuse_fault_or : (ℕ → PersonaliseError) → Option ℕ → PersonaliseResult → PersonaliseResult
refuse_fault_or refusal (Some i) next = Err (refusal i)
refuse_fault_or refusal None next = next

-- the answer, with the caller's buffers r for the records and l for the AFL: the first refusal, of the buffers, the
-- list, the entries and the records in this order, or how many bytes of records and of the AFL are written
unfoldable pub personalise_result : CardPlan → Bytes → Bytes → PersonaliseResult
personalise_result p r l =
    when length r <? least_records_buffer_size then Err ShortRecords
    else when length l <? least_afl_buffer_size then Err ShortAfl
    else when not (objects_valid_and_each_placed_once p) then Err BadList
    else refuse_fault_or BadEntry (first_bad_entry p.entries)
    (refuse_fault_or BadRecord (first_bad_record (objects_of_plan p) (placements_of_plan p) (afl_record_count p.entries))
    (Ok (record { records = length (all_records_bytes p); afl = length p.entries })))

-- ---- the buffers

-- the buffer r: the card's records at the front where all is written, else as it was
abbrev pub records_buffer_after : Bool → CardPlan → Bytes → Bytes
records_buffer_after written p r = when written then written_over_front (all_records_bytes p) r else r

-- the buffer l: the entries at the front where all is written, else as it was
abbrev pub afl_buffer_after : Bool → AflBytes → Bytes → Bytes
afl_buffer_after written es l = when written then written_over_front es l else l

-- ---- what holds of it, proved in proofs/ (Stages, Exact, Holding) for all bytes
--   short-records, short-afl, bad-list, good-list    the answer at each test, in the order of the refusals
--   passes, passed    all is written exactly where every test passes
--   exactly           all is written exactly where every rule is satisfied, a clause for each (proofs/Clauses)
--   holds             what is written reads back to the list (specs/Read)
