-- The answer to GET PROCESSING OPTIONS (document 01, the order of reasons): the reading's reasons (ReadingOrder.antt),
-- an object missing (4), the mode (11), the AFL (5). Each field but the last has an answer that gives two reasons, and
-- is named by both, or by the later one: the session ends with the first.
-- Assumes nothing.
use Rattle.std.specs.Prelude.{◌≡◌, [], ◌∷◌, ◌++◌, map, replicate}
use Rattle.basics.specs.Types.{Bytes, Value, AflBytes}
use Rattle.tlv.specs.Encoding.{object_bytes}
use Rattle.worked_examples.specs.Sessions.{emv_aip, mag_stripe_aip, one_record_afl, afl_of_file_zero, waits_on_gpo}
use Rattle.worked_examples.specs.Calls.{result_of_answer, results_of_answers, command_result, ended_result_without_cvm}
use Rattle.worked_examples.specs.Calls.{with9000, with6a82}
use Rattle.worked_examples.specs.Calls.{answer_of259_bytes, with_trailing_byte, tvr_object_from_card}
use Rattle.worked_examples.specs.ReadingOrder.{ReasonsInReadingOrder, ReadingReasonsBeforeLaterReason}

-- 82 and 94, and both in a 77
abbrev pub aip_and_afl_objects : Value → AflBytes → Bytes
aip_and_afl_objects aip afl = object_bytes 0x82 aip ++ object_bytes 0x94 afl

abbrev pub gpo_body_in77 : Value → AflBytes → Bytes
gpo_body_in77 aip afl = object_bytes 0x77 (aip_and_afl_objects aip afl)

-- mag-stripe mode is off, so that 82 of 00 00 is of no mode
pub record GpoExamples : Type 0 where
  pub reading : ReasonsInReadingOrder waits_on_gpo 0x77 0x70 ended_result_without_cvm
  pub missing : ReadingReasonsBeforeLaterReason waits_on_gpo 0x77 [] ended_result_without_cvm
  pub mode : ReadingReasonsBeforeLaterReason waits_on_gpo 0x77 (aip_and_afl_objects mag_stripe_aip one_record_afl)
      ended_result_without_cvm
  pub afl : ReadingReasonsBeforeLaterReason waits_on_gpo 0x77 (aip_and_afl_objects emv_aip afl_of_file_zero)
      ended_result_without_cvm
  pub body_mode : result_of_answer waits_on_gpo (with9000 (object_bytes 0x80 (mag_stripe_aip ++ 0x00 ∷ one_record_afl)))
      ≡ ended_result_without_cvm 2
  pub missing_mode : result_of_answer waits_on_gpo (with9000 (object_bytes 0x77 (object_bytes 0x82 mag_stripe_aip)))
      ≡ ended_result_without_cvm 4
  pub missing_afl : result_of_answer waits_on_gpo (with9000 (object_bytes 0x77 (object_bytes 0x94 afl_of_file_zero)))
      ≡ ended_result_without_cvm 4
  pub mode_afl : result_of_answer waits_on_gpo (with9000 (gpo_body_in77 mag_stripe_aip afl_of_file_zero)) ≡ ended_result_without_cvm
      11
  -- each reason alone: 259 bytes with 90 00, another status, a byte after, an outer 70 around a 77, a body of 7 bytes
  -- under 80, 95, no 94, no 82, no mode, file 0; and none: with 258 bytes and with 14 the first record is requested
  pub alone :
      results_of_answers waits_on_gpo
      (answer_of259_bytes 0x77 (aip_and_afl_objects emv_aip one_record_afl)
      ∷ with6a82 (gpo_body_in77 emv_aip one_record_afl)
      ∷ with9000 (with_trailing_byte (gpo_body_in77 emv_aip one_record_afl))
      ∷ with9000 (object_bytes 0x70 (gpo_body_in77 emv_aip one_record_afl))
      ∷ with9000 (object_bytes 0x80 (emv_aip ++ 0x00 ∷ one_record_afl))
      ∷ with9000 (object_bytes 0x77 (aip_and_afl_objects emv_aip one_record_afl ++ tvr_object_from_card))
      ∷ with9000 (object_bytes 0x77 (object_bytes 0x82 emv_aip))
      ∷ with9000 (object_bytes 0x77 (object_bytes 0x94 one_record_afl))
      ∷ with9000 (gpo_body_in77 mag_stripe_aip one_record_afl)
      ∷ with9000 (gpo_body_in77 emv_aip afl_of_file_zero)
      ∷ with9000 (object_bytes 0x77 (aip_and_afl_objects emv_aip one_record_afl ++ replicate 243 0))
      ∷ with9000 (gpo_body_in77 emv_aip one_record_afl)
      ∷ [])
      ≡ map ended_result_without_cvm (2 ∷ 1 ∷ 2 ∷ 2 ∷ 2 ∷ 3 ∷ 4 ∷ 4 ∷ 11 ∷ 5 ∷ [])
      ++ (command_result 5 ∷ command_result 5 ∷ [])
