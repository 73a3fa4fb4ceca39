-- The answer to COMPUTE CRYPTOGRAPHIC CHECKSUM (document 02, Item 9): the reading's reasons (ReadingOrder.antt), a
-- track that cannot take the digits (3), the counter missing (4), declined where the code is missing. Each field is
-- named by the two that its answer gives, or by the later one; a body under 80 is refused.
-- Assumes nothing.
use Rattle.std.specs.Prelude.{◌≡◌, [], ◌∷◌, ◌++◌}
use Rattle.basics.specs.Types.{Bytes}
use Rattle.tlv.specs.Encoding.{object_bytes}
use Rattle.store.specs.Place.{present}
use Rattle.session_record.specs.declared.Outcome.{Outcome}
use Rattle.session_record.specs.declared.Session.{Session}
use Rattle.worked_examples.specs.Sessions.{track_with_separator, track_without_separator, waits_on_checksum}
use Rattle.worked_examples.specs.Calls.{result_of_answer, results_of_answers, stored_value_after_answer, outcome_result}
use Rattle.worked_examples.specs.Calls.{ended_result_without_cvm, with9000}
use Rattle.worked_examples.specs.Calls.{answer_with_contents_in77}
use Rattle.worked_examples.specs.ReadingOrder.{ReasonsInReadingOrder, ReadingReasonsBeforeLaterReason}

-- the counter 9F36, the code 9F61, and both
abbrev pub atc_object : Bytes
atc_object = object_bytes 0x9F36 (0x00 ∷ 0x2A ∷ [])

abbrev pub cvc3_object : Bytes
cvc3_object = object_bytes 0x9F61 (0x1F ∷ 0x35 ∷ [])

abbrev pub atc_and_cvc3_objects : Bytes
atc_and_cvc3_objects = atc_object ++ cvc3_object

-- the track that is stored can take the digits, or cannot
abbrev pub awaits_checksum_track_with_separator : Session
awaits_checksum_track_with_separator = waits_on_checksum track_with_separator

abbrev pub awaits_checksum_track_without_separator : Session
awaits_checksum_track_without_separator = waits_on_checksum track_without_separator

pub record ChecksumExamples : Type 0 where
  pub reading : ReasonsInReadingOrder awaits_checksum_track_with_separator 0x77 0x70 ended_result_without_cvm
  pub track : ReadingReasonsBeforeLaterReason awaits_checksum_track_without_separator 0x77 atc_and_cvc3_objects
      ended_result_without_cvm
  pub missing : ReadingReasonsBeforeLaterReason awaits_checksum_track_with_separator 0x77 [] ended_result_without_cvm
  pub declined : ReadingReasonsBeforeLaterReason awaits_checksum_track_with_separator 0x77 atc_object ended_result_without_cvm
  -- the track, and with it no object or no code; no object, and so no code
  pub track_others : results_of_answers awaits_checksum_track_without_separator (answer_with_contents_in77 atc_and_cvc3_objects
      ∷ answer_with_contents_in77 [] ∷ answer_with_contents_in77 atc_object ∷ [])
      ≡ ended_result_without_cvm 3 ∷ ended_result_without_cvm 3 ∷ ended_result_without_cvm 3 ∷ []
  pub missing_declined : result_of_answer awaits_checksum_track_with_separator (answer_with_contents_in77 [])
      ≡ ended_result_without_cvm 4
  -- without the counter, without the code, with both
  pub alone : results_of_answers awaits_checksum_track_with_separator
      (answer_with_contents_in77 cvc3_object ∷ answer_with_contents_in77 atc_object ∷ answer_with_contents_in77 atc_and_cvc3_objects
      ∷ [])
      ≡ ended_result_without_cvm 4 ∷ outcome_result Outcome.Declined 0 15 ∷ outcome_result Outcome.OnlineRequest 0 15 ∷ []
  -- the digits of the code 7989, of the number 3456 and of the counter 42 in the track
  pub digits : stored_value_after_answer awaits_checksum_track_with_separator (answer_with_contents_in77 atc_and_cvc3_objects) 0x9F6B
      ≡ present
      (0x54 ∷ 0x13 ∷ 0x12 ∷ 0x34 ∷ 0x56 ∷ 0x78 ∷ 0x48 ∷ 0x00 ∷ 0xD2 ∷ 0x51 ∷ 0x21 ∷ 0x01
      ∷ 0x00 ∷ 0x04 ∷ 0x23 ∷ 0x45 ∷ 0x69 ∷ 0x89 ∷ 0x4F ∷ [])
  -- 80 with the counter and the code as its value
  pub under80 : result_of_answer awaits_checksum_track_with_separator
      (with9000 (object_bytes 0x80 (0x00 ∷ 0x2A ∷ 0x1F ∷ 0x35 ∷ []))) ≡ ended_result_without_cvm 2
