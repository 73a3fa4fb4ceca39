-- The words of emv_personalise (document 02, Item 4): the kind in bits 48 to 55, the AFL's length in bits 32 to 47, and
-- in bits 0 to 31 the records' length, the number of the bad entry or that of the bad record.
-- Assumes nothing.
use Rattle.std.specs.Prelude.{◌≡◌, [], ◌∷◌, ℕ, replicate}
use Rattle.basics.specs.Types.{Bytes, AflBytes, Length}
use Rattle.personalise.specs.Outcome.{card_plan, personalise_result}
use Rattle.personalise.specs.Word.{personalise_word}

-- 9F08 and 5F34; an AFL of two records, and one whose second entry breaks a rule; both objects in record 1, and
-- one in record 3
abbrev pub two_objects : Bytes
two_objects = 0x9F ∷ 0x08 ∷ 0x02 ∷ 0x00 ∷ 0x02 ∷ 0x5F ∷ 0x34 ∷ 0x01 ∷ 0x01 ∷ []

abbrev pub two_record_entry : AflBytes
two_record_entry = 0x08 ∷ 0x01 ∷ 0x02 ∷ 0x00 ∷ []

abbrev pub bad_second_entry : AflBytes
bad_second_entry = 0x08 ∷ 0x01 ∷ 0x02 ∷ 0x00 ∷ 0x10 ∷ 0x00 ∷ 0x01 ∷ 0x00 ∷ []

abbrev pub both_placed_in_record1 : Bytes
both_placed_in_record1 = 0x01 ∷ 0x01 ∷ 0x01 ∷ 0x02 ∷ []

abbrev pub second_placed_in_record3 : Bytes
second_placed_in_record3 = 0x01 ∷ 0x01 ∷ 0x03 ∷ 0x02 ∷ []

-- the word of objects, entries and placements with buffers of so many bytes
abbrev pub personalise_example_word : Bytes → AflBytes → Bytes → Length → Length → ℕ
personalise_example_word objects entries placements records afl =
    personalise_word (personalise_result (card_plan objects entries placements) (replicate records 0) (replicate afl 0))

pub record PersonaliseWordExamples : Type 0 where
  -- 13 bytes of records and 4 of AFL
  pub written : personalise_example_word two_objects two_record_entry both_placed_in_record1 32768 248 ≡ 0x000000040000000D
  -- each refusal, with those after it given too
  pub short_records : personalise_example_word (0x95 ∷ []) bad_second_entry second_placed_in_record3 32767 247
      ≡ 0x0001000000000000
  pub short_afl : personalise_example_word (0x95 ∷ []) bad_second_entry second_placed_in_record3 32768 247 ≡ 0x0002000000000000
  pub bad_list : personalise_example_word (0x95 ∷ []) bad_second_entry second_placed_in_record3 32768 248 ≡ 0x0003000000000000
  pub bad_entry : personalise_example_word two_objects bad_second_entry second_placed_in_record3 32768 248 ≡ 0x0004000000000002
  pub bad_record : personalise_example_word two_objects two_record_entry second_placed_in_record3 32768 248 ≡ 0x0005000000000003
