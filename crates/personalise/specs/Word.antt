-- An answer by its numbers, and as one 64-bit word for a host.
-- Assumes nothing.
use Rattle.std.specs.Prelude.{Ok, Err, Bool, ℕ, ◌+◌, ◌*◌, ◌≤◌}
use Rattle.basics.specs.Types.{Length}
use Rattle.basics.specs.Choice.{◌<?◌, ◌=?◌}
use Rattle.personalise.specs.declared.PersonaliseError.TheVariants.{ShortRecords, ShortAfl, BadList, BadEntry, BadRecord}
use Rattle.personalise.specs.Outcome.{PersonaliseResult, least_records_buffer_size, least_afl_buffer_size}

-- the kind of an answer; the AFL's length where it is written; what it names: the records' length where they are
-- written, the number of the entry or of the record
pub record PersonaliseWordFields : Type 0 where
  pub kind : ℕ
  pub afl : Length
  pub number : ℕ

abbrev pub personalise_word_fields : PersonaliseResult → PersonaliseWordFields
personalise_word_fields (Ok z) = record { kind = 0; afl = z.afl; number = z.records }
personalise_word_fields (Err ShortRecords) = record { kind = 1; afl = 0; number = 0 }
personalise_word_fields (Err ShortAfl) = record { kind = 2; afl = 0; number = 0 }
personalise_word_fields (Err BadList) = record { kind = 3; afl = 0; number = 0 }
personalise_word_fields (Err (BadEntry i)) = record { kind = 4; afl = 0; number = i }
personalise_word_fields (Err (BadRecord k)) = record { kind = 5; afl = 0; number = k }

-- an answer reports that all is written
abbrev pub is_written : PersonaliseResult → Bool
is_written a = (personalise_word_fields a).kind =? 0

-- as one word: the kind in bits 48 to 55, the AFL's length in bits 32 to 47, the number in bits 0 to 31
abbrev pub personalise_word : PersonaliseResult → ℕ
personalise_word a =
    (personalise_word_fields a).kind * 0x1000000000000 + (personalise_word_fields a).afl * 0x100000000 + (personalise_word_fields
    a).number

-- the number is at most 32,768, and the AFL's length at most 248, so that the parts of a word are apart
pub record PersonaliseFieldsWithinBounds (result : PersonaliseResult) : Type 0 where
  pub number : (personalise_word_fields result).number ≤ least_records_buffer_size
  pub afl : (personalise_word_fields result).afl ≤ least_afl_buffer_size

-- a word reports that all is written: its kind is 0
abbrev pub is_personalise_word_of_written : ℕ → Bool
is_personalise_word_of_written w = w <? 0x1000000000000

-- ---- what holds of it, proved in proofs/Stages for all bytes and answers
--   small           every answer is bounded so
--   says-written    a word of a bounded answer reports that all is written exactly where the answer does
