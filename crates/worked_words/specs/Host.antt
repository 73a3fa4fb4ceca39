-- The words of the calls in C (docs/HOST.md): emv_open, emv_start, emv_answer, emv_count, emv_object, emv_explain,
-- emv_find and emv_version.
-- Assumes nothing.
use Rattle.std.specs.Prelude.{◌≡◌, [], ◌∷◌, ◌++◌, map, ◌-◌, replicate}
use Rattle.basics.specs.Types.{Bytes, StoreBytes, Response, ResultWord}
use Rattle.session_record.specs.declared.Outcome.{Outcome}
use Rattle.session_record.specs.declared.Session.{Session}
use Rattle.session_record.specs.Session.{fresh_session}
use Rattle.layout.specs.Layout.{session_record_size, encoded_session, decoded_session}
use Rattle.layout.specs.Word.{result_word}
use Rattle.find.specs.Find.{find_tag}
use Rattle.find.specs.Word.{find_word}
use Rattle.explain.specs.declared.Stage.{Stage}
use Rattle.explain.specs.declared.ActionCodeHolder.{ActionCodeHolder}
use Rattle.explain.specs.declared.Explanation.{Explanation}
use Rattle.explain.specs.Word as explain
use Rattle.host.specs.Hosted.{host_open_word, host_start, host_answer, command_count_or_all_ones}
use Rattle.host.specs.Object.{object_copied_from_store, object_copied_from_session}
use Rattle.host.specs.Explain.{explanation_word_or_refusal}
use Rattle.host.specs.Version.{version_word}
use Rattle.worked_examples.specs.Sessions.{emv_aip, one_record_afl, afl_of_file_zero, waits_on_gpo}
use Rattle.worked_examples.specs.Calls.{buffer_of261, buffer_of260, command_result, outcome_result, refusal_result}
use Rattle.worked_examples.specs.Calls.{with9000, with6a82}
use Rattle.worked_examples.specs.Gpo.{gpo_body_in77}

-- a session's record with a byte after it
abbrev pub encoded_session_then_ignored_byte : Session → Bytes
encoded_session_then_ignored_byte s = encoded_session s ++ (0xEE ∷ [])

-- the word of an answer on a session in bytes
unfoldable pub host_answer_word : Session → Response → ResultWord
host_answer_word s card = (host_answer card (encoded_session_then_ignored_byte s) buffer_of261).word

-- a store whose first place, that of 50, holds two bytes; and one where it is present and empty
abbrev pub store_with_two_bytes_of50 : StoreBytes
store_with_two_bytes_of50 = 3 ∷ 0xA1 ∷ 0xA2 ∷ []

abbrev pub store_with_empty50 : StoreBytes
store_with_empty50 = 1 ∷ []

-- 5A in a 70
abbrev pub pan_record : Bytes
pan_record = 0x70 ∷ 0x04 ∷ 0x5A ∷ 0x02 ∷ 0x54 ∷ 0x13 ∷ []

pub record HostWordExamples : Type 0 where
  -- what a call returns: commands; each outcome; each refusal
  pub commands : map result_word (command_result 5 ∷ command_result 261 ∷ []) ≡ 5 ∷ 261 ∷ []
  pub outcomes :
      map result_word
      (outcome_result Outcome.Approved 0 0 ∷ outcome_result Outcome.OnlineRequest 0 2 ∷ outcome_result Outcome.Declined 0 1
      ∷ outcome_result Outcome.Ended 9 4 ∷ outcome_result Outcome.Ended 8 3 ∷ outcome_result Outcome.SelectNext 6 15 ∷ [])
      ≡ 0x00010000 ∷ 0x02010100 ∷ 0x01010200 ∷ 0x04010309 ∷ 0x03010308 ∷ 0x0F010406 ∷ []
  pub refusals : map (λ n. result_word (refusal_result n)) (20 ∷ 21 ∷ 22 ∷ 23 ∷ 24 ∷ 25 ∷ [])
      ≡ 0x20014 ∷ 0x20015 ∷ 0x20016 ∷ 0x20017 ∷ 0x20018 ∷ 0x20019 ∷ []
  -- opening one byte less than a record, and as many as a record
  pub opened : host_open_word (replicate (session_record_size - 1) 0) ∷ host_open_word (replicate session_record_size 0) ∷ []
      ≡ 0x20019 ∷ 0 ∷ []
  -- a call on bytes: too short a buffer before bytes that hold no record, for a start and an answer
  pub start_buffer_record : (host_start [] [] buffer_of260).word ≡ 0x20016
  pub start_record : (host_start [] [] buffer_of261).word ≡ 0x20019
  pub answer_buffer_record : (host_answer [] [] buffer_of260).word ≡ 0x20016
  pub answer_record : (host_answer [] [] buffer_of261).word ≡ 0x20019
  -- a record command, reason 5, reason 1, and a refusal of the session
  pub answer_command : host_answer_word waits_on_gpo (with9000 (gpo_body_in77 emv_aip one_record_afl)) ≡ 5
  pub answer_afl : host_answer_word waits_on_gpo (with9000 (gpo_body_in77 emv_aip afl_of_file_zero)) ≡ 0x0F010305
  pub answer_status : host_answer_word waits_on_gpo (with6a82 (gpo_body_in77 emv_aip one_record_afl)) ≡ 0x0F010301
  pub answer_phase : host_answer_word fresh_session (0x6A ∷ 0x82 ∷ []) ≡ 0x20015
  -- no bytes; a session that has handed out one command
  pub count_none : command_count_or_all_ones (decoded_session []) ≡ 0xFFFFFFFF
  pub count_one : command_count_or_all_ones (decoded_session (encoded_session_then_ignored_byte waits_on_gpo)) ≡ 1
  -- an object: no record; a tag that the dictionary does not have; absent; too little room; two bytes; there and empty
  pub object_refused : (object_copied_from_session (decoded_session []) 0x50 []).word ≡ 0x20019
  pub object_unknown : (object_copied_from_store store_with_two_bytes_of50 0x5F60 []).word ≡ 0x40000
  pub object_absent : (object_copied_from_store store_with_two_bytes_of50 0x57 []).word ≡ 0x30000
  pub object_needed : (object_copied_from_store store_with_two_bytes_of50 0x50 (0xEE ∷ [])).word ≡ 0x50002
  pub object_value_lem : (object_copied_from_store store_with_two_bytes_of50 0x50 (0xEE ∷ 0xEE ∷ [])).word ≡ 2
  pub object_empty : (object_copied_from_store store_with_empty50 0x50 []).word ≡ 0
  -- an explanation: no record; each case; each stage and holder
  pub explain_none : explanation_word_or_refusal (decoded_session []) ≡ 0x20019
  pub explain_cases :
      map explain.explanation_word
      (Explanation.Refused ∷ Explanation.Reason 6 ∷ Explanation.NoChoice ∷ Explanation.LowerCryptogram ∷ [])
      ≡ 0x20019 ∷ 0x30006 ∷ 0x40000 ∷ 0x50000 ∷ []
  pub explain_unforced :
      map (λ s. explain.explanation_word (Explanation.Unforced s))
      (Stage.Denial ∷ Stage.OnlineOnly ∷ Stage.Default ∷ Stage.Online ∷ [])
      ≡ 0x600FF ∷ 0x610FF ∷ 0x620FF ∷ 0x630FF ∷ []
  pub explain_forced :
      map (λ h. explain.explanation_word (Explanation.Forced (record { stage = Stage.Online; bit = 9; holder = h })))
      (ActionCodeHolder.Card ∷ ActionCodeHolder.Terminal ∷ ActionCodeHolder.Both ∷ [])
      ≡ 0x63109 ∷ 0x63209 ∷ 0x63309 ∷ []
  -- a search: the place and the length, a tag that is not present, bytes that are truncated
  pub found :
      map find_word (find_tag 0x5A pan_record ∷ find_tag 0x57 pan_record ∷ find_tag 0x5A (0x70 ∷ 0x04 ∷ []) ∷ [])
      ≡ 0x0000000400000002 ∷ 0xFFFFFFFFFFFFFFFF ∷ 0xFFFFFFFFFFFFFFFE ∷ []
  -- 0.1.0, and version 5 of the layout
  pub version : version_word ≡ 0x00010005
