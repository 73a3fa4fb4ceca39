-- The answer to GENERATE AC (document 01, "Commands and steps" and the order of reasons): the outcome by the choice
-- that was requested and the cryptogram's type, the reading's reasons (ReadingOrder.antt), an object missing (4), a
-- type that is not allowed (8); and the objects of a body under 80. The fields of an order are named by the two reasons
-- of their answer, or by the later one.
-- Assumes nothing.
use Rattle.std.specs.Prelude.{◌≡◌, List, [], ◌∷◌, ◌++◌, map, replicate}
use Rattle.basics.specs.Types.{Byte, Bytes, Response}
use Rattle.tlv.specs.Encoding.{object_bytes}
use Rattle.store.specs.Place.{absent, present}
use Rattle.analysis.specs.declared.choice.Choice.{Choice}
use Rattle.session_record.specs.declared.CallResult.{CallResult}
use Rattle.session_record.specs.declared.Outcome.{Outcome}
use Rattle.session_record.specs.declared.Session.{Session}
use Rattle.worked_examples.specs.Sessions.{encoded_tag_values, waits_on_cryptogram}
use Rattle.worked_examples.specs.Calls.{result_of_answer, results_of_answers, stored_value_after_answer, outcome_result}
use Rattle.worked_examples.specs.Calls.{ended_result_with_online_pin}
use Rattle.worked_examples.specs.Calls.{with9000, with6a82, answer_with_contents_in77}
use Rattle.worked_examples.specs.ReadingOrder.{ReasonsInReadingOrder, ReadingReasonsBeforeLaterReason}

-- 9F27, 9F36 and 9F26
abbrev pub cryptogram_objects : Byte → Bytes
cryptogram_objects cid =
    encoded_tag_values
    ((0x9F27, cid ∷ []) ∷ (0x9F36, 0x00 ∷ 0x01 ∷ [])
    ∷ (0x9F26, 0x11 ∷ 0x22 ∷ 0x33 ∷ 0x44 ∷ 0x55 ∷ 0x66 ∷ 0x77 ∷ 0x88 ∷ []) ∷ [])

-- AAC, TC, ARQC and the reserved type
abbrev pub answers_of_each_cryptogram_type : List Response
answers_of_each_cryptogram_type =
    map (λ cid. answer_with_contents_in77 (cryptogram_objects cid)) (0x00 ∷ 0x40 ∷ 0x80 ∷ 0xC0 ∷ [])

-- the outcomes; each reports the CVM that the session holds
abbrev pub declined_result_with_online_pin : CallResult
declined_result_with_online_pin = outcome_result Outcome.Declined 0 2

abbrev pub online_request_result_with_online_pin : CallResult
online_request_result_with_online_pin = outcome_result Outcome.OnlineRequest 0 2

abbrev pub approved_result_with_online_pin : CallResult
approved_result_with_online_pin = outcome_result Outcome.Approved 0 2

abbrev pub cryptogram_type_not_allowed_result : CallResult
cryptogram_type_not_allowed_result = ended_result_with_online_pin 8

-- what is awaited in the other fields: an ARQC was requested, so that a TC is not allowed
abbrev pub waits_on_arqc : Session
waits_on_arqc = waits_on_cryptogram Choice.Online

-- under 80: 9F27, 9F36, 9F26, and after them 9F10
abbrev pub cryptogram_under80 : Bytes
cryptogram_under80 =
    object_bytes 0x80
    (0x80 ∷ 0x00 ∷ 0x2A ∷ 0x11 ∷ 0x22 ∷ 0x33 ∷ 0x44 ∷ 0x55 ∷ 0x66 ∷ 0x77 ∷ 0x88 ∷ 0xAA ∷ 0xBB ∷ [])

pub record CryptogramExamples : Type 0 where
  -- by what was requested: AAC, TC, ARQC and the reserved type
  pub decline_asked : results_of_answers (waits_on_cryptogram Choice.Decline) answers_of_each_cryptogram_type
      ≡ declined_result_with_online_pin ∷ cryptogram_type_not_allowed_result ∷ cryptogram_type_not_allowed_result
      ∷ cryptogram_type_not_allowed_result ∷ []
  pub online_asked : results_of_answers waits_on_arqc answers_of_each_cryptogram_type ≡ declined_result_with_online_pin
      ∷ cryptogram_type_not_allowed_result ∷ online_request_result_with_online_pin ∷ cryptogram_type_not_allowed_result ∷ []
  pub offline_asked : results_of_answers (waits_on_cryptogram Choice.Offline) answers_of_each_cryptogram_type
      ≡ declined_result_with_online_pin ∷ approved_result_with_online_pin ∷ online_request_result_with_online_pin
      ∷ cryptogram_type_not_allowed_result ∷ []
  -- the order
  pub reading : ReasonsInReadingOrder waits_on_arqc 0x77 0x70 ended_result_with_online_pin
  pub missing : ReadingReasonsBeforeLaterReason waits_on_arqc 0x77 [] ended_result_with_online_pin
  pub cryptogram_type : ReadingReasonsBeforeLaterReason waits_on_arqc 0x77 (cryptogram_objects 0x40)
      ended_result_with_online_pin
  pub body_type : result_of_answer waits_on_arqc (with9000 (object_bytes 0x80 (0x40 ∷ 0x00 ∷ 0x2A ∷ [])))
      ≡ ended_result_with_online_pin 2
  -- a type that is not allowed without 9F26; an AAC without 9F36 and 9F26, and none of the three: a decline does not
  -- come before an object that is missing
  pub missing_others :
      results_of_answers waits_on_arqc
      (answer_with_contents_in77 (object_bytes 0x9F27 (0x40 ∷ []) ++ object_bytes 0x9F36 (0x00 ∷ 0x01 ∷ []))
      ∷ answer_with_contents_in77 (object_bytes 0x9F27 (0x00 ∷ [])) ∷ answer_with_contents_in77 [] ∷ [])
      ≡ replicate 3 (ended_result_with_online_pin 4)
  -- under 80
  pub under80_says : result_of_answer waits_on_arqc (with9000 cryptogram_under80) ≡ online_request_result_with_online_pin
  pub under80_9f27 : stored_value_after_answer waits_on_arqc (with9000 cryptogram_under80) 0x9F27 ≡ present (0x80 ∷ [])
  pub under80_9f36 : stored_value_after_answer waits_on_arqc (with9000 cryptogram_under80) 0x9F36 ≡ present (0x00 ∷ 0x2A ∷ [])
  pub under80_9f26 : stored_value_after_answer waits_on_arqc (with9000 cryptogram_under80) 0x9F26
      ≡ present (0x11 ∷ 0x22 ∷ 0x33 ∷ 0x44 ∷ 0x55 ∷ 0x66 ∷ 0x77 ∷ 0x88 ∷ [])
  pub under80_9f10 : stored_value_after_answer waits_on_arqc (with9000 cryptogram_under80) 0x9F10 ≡ present (0xAA ∷ 0xBB ∷ [])
  -- nothing of an answer is kept that gives a reason of the reading
  pub none_kept : stored_value_after_answer waits_on_arqc (with6a82 cryptogram_under80) 0x9F27 ≡ absent
