-- Reading what was written (document 02, Item 4): each record with status 90 00 as the answer to its file, in the AFL's
-- order, from the empty store on; and the store of the list.
-- Assumes nothing.
use Rattle.std.specs.Prelude.{◌≡◌, true, List, [], ◌∷◌, ◌++◌, take, replicate, Option, Some, None, Ok}
use Rattle.basics.specs.Types.{Bytes, StoreBytes}
use Rattle.basics.specs.Choice.{when◌then◌else◌, ◌=?◌}
use Rattle.basics.specs.Reason.{reason_none}
use Rattle.tlv.specs.Primitives.{Object}
use Rattle.dictionary.specs.Rows.{dictionary_rows, store_size}
use Rattle.dictionary.specs.Named.{row_number_of_tag_or_zero}
use Rattle.store.specs.Place.{put_row}
use Rattle.afl.specs.declared.CardRecord.{CardRecord}
use Rattle.afl.specs.Records.{afl_records, accepts_afl}
use Rattle.reading.specs.declared.Awaited.{Awaited}
use Rattle.reading.specs.Answer.{ReadingOutcome, read_answer}
use Rattle.personalise.specs.declared.WrittenSizes.{WrittenSizes}
use Rattle.personalise.specs.Outcome.{PersonaliseResult, CardPlan, objects_of_plan, card_records, all_records_bytes}

-- ---- the store of a list

-- objects put one after the other, each in the place of its tag
unfoldable pub put_objects : StoreBytes → List Object → StoreBytes
put_objects b [] = b
put_objects b (o ∷ os) = put_objects (put_row dictionary_rows b (row_number_of_tag_or_zero o.tag) o.value) os

-- the store that holds nothing
abbrev pub empty_store_bytes : StoreBytes
empty_store_bytes = replicate store_size 0

-- the store of a list
abbrev pub store_of_objects : List Object → StoreBytes
store_of_objects os = put_objects empty_store_bytes os

-- ---- reading the records

-- a record's bytes and the status 90 00, read as the answer to its file
abbrev pub read_record_with9000 : StoreBytes → CardRecord → Bytes → ReadingOutcome
read_record_with9000 b r s = read_answer (Awaited.Record (record { number = r.sfi })) b (s ++ (0x90 ∷ 0x00 ∷ []))

-- what k reads on, in the store that a reading with reason 0 leaves
abbrev pub read_on_if_accepted : ReadingOutcome → (StoreBytes → Option StoreBytes) → Option StoreBytes
read_on_if_accepted o k = when o.reason =? reason_none then k o.store else None

-- the store after reading records one by one; none where a reading gives a reason, or where there are not as many
-- records as bytes of records
unfoldable pub read_all_records : StoreBytes → List CardRecord → List Bytes → Option StoreBytes
read_all_records b [] [] = Some b
read_all_records b [] (s ∷ ss) = None
read_all_records b (r ∷ rs) [] = None
read_all_records b (r ∷ rs) (s ∷ ss) = read_on_if_accepted (read_record_with9000 b r s) (λ c. read_all_records c rs ss)

-- ---- what holds where all is written

-- of a plan, the sizes z that are answered, and the buffers r and l as they are left
pub record WrittenCardReadsBackAsObjects (plan : CardPlan) (sizes : WrittenSizes) (records_buffer afl_buffer : Bytes) :
    Type 0 where
  -- the records, concatenated, and the AFL, which is the entries, are at the front of the buffers
  pub stand : take sizes.records records_buffer ≡ all_records_bytes plan
  pub afl : take sizes.afl afl_buffer ≡ plan.entries
  -- document 01 accepts the AFL
  pub accepted : accepts_afl plan.entries ≡ true
  -- read in the AFL's order, each record gives reason 0 and together they give the store of the list
  pub read : read_all_records empty_store_bytes (afl_records plan.entries) (card_records plan)
      ≡ Some (store_of_objects (objects_of_plan plan))

-- where the answer is that all is written
abbrev pub CardReadsBackAsObjectsIfWritten : CardPlan → PersonaliseResult → Bytes → Bytes → Type 0
CardReadsBackAsObjectsIfWritten p a r l =
    (z : WrittenSizes) → a ≡ Ok z → WrittenCardReadsBackAsObjects p z r l

-- ---- what holds of it, proved in proofs/ (Arranged, Stored, ReadBack, Holding) for all bytes
--   arranged     in the order of the records, the list's objects are only rearranged
--   perm-put     rearranged objects of different tags give the same store
--   read-all     the records read back one after the other give the store of their objects
--   holds        where all is written, all of `WrittenCardReadsBackAsObjects`
--   as-many      there are as many records as the AFL names
