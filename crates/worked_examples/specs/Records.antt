-- The answer to READ RECORD (document 01, the order of reasons; document 02, Item 9): the reading's reasons
-- (ReadingOrder.antt), and after the last record the amount above the limit (6), an object missing (4), a DOL that
-- makes no command (7). Each field is named by the two reasons that its answer gives, or by the later one.
-- Assumes nothing.
use Rattle.std.specs.Prelude.{◌≡◌, List, [], ◌∷◌}
use Rattle.basics.specs.Types.{Bytes, Value, Response, DolBytes, Tag}
use Rattle.tlv.specs.Encoding.{object_bytes}
use Rattle.session_record.specs.declared.CallResult.{CallResult}
use Rattle.session_record.specs.declared.Outcome.{Outcome}
use Rattle.worked_examples.specs.Sessions.{TagValue, encoded_tag_values, bcd_units_below_limit, bcd_units_over_limit}
use Rattle.worked_examples.specs.Sessions.{emv_aip}
use Rattle.worked_examples.specs.Sessions.{mag_stripe_aip, required_emv_record_objects, track_objects}
use Rattle.worked_examples.specs.Sessions.{track_with_separator, waits_on_only_record}
use Rattle.worked_examples.specs.Calls.{result_of_answer, results_of_answers, command_result, outcome_result}
use Rattle.worked_examples.specs.Calls.{ended_result_without_cvm, with9000}
use Rattle.worked_examples.specs.ReadingOrder.{ReasonsInReadingOrder, ReadingReasonsBeforeLaterReason}

-- a record of objects, and the answer that brings it
abbrev pub record70_bytes : List TagValue → Bytes
record70_bytes objects = object_bytes 0x70 (encoded_tag_values objects)

abbrev pub record_answer_of : List TagValue → Response
record_answer_of objects = with9000 (record70_bytes objects)

-- reason 6: another application is selected
abbrev pub select_next_result : CallResult
select_next_result = outcome_result Outcome.SelectNext 6 15

-- reason 7 on CDOL1: the CVM was chosen, no CVM
abbrev pub broken_cdol_result : CallResult
broken_cdol_result = outcome_result Outcome.Ended 7 0

-- a list that ends after a tag; all that is needed with it, as CDOL1 and as UDOL
abbrev pub broken_dol : DolBytes
broken_dol = 0x9F ∷ 0x02 ∷ []

abbrev pub record_with_broken_cdol : List TagValue
record_with_broken_cdol = (0x5F24, 0x30 ∷ 0x12 ∷ 0x31 ∷ []) ∷ (0x5A, 0x54 ∷ 0x13 ∷ []) ∷ (0x8C, broken_dol) ∷ []

abbrev pub record_with_broken_udol : List TagValue
record_with_broken_udol = (0x9F69, broken_dol) ∷ track_objects track_with_separator

-- an object that is not the card's to set
abbrev pub object_forbidden_to_card : TagValue
object_forbidden_to_card = (0x95, 0x00 ∷ [])

-- after the last record in a mode, by the tag of its DOL, all that is needed, and the same with a broken DOL
pub record ReasonsAfterLastRecord (aip : Value) (dol_tag : Tag) (required_objects objects_with_broken_dol : List TagValue) :
    Type 0 where
  pub objects_limit : result_of_answer (waits_on_only_record aip bcd_units_over_limit)
      (record_answer_of (object_forbidden_to_card ∷ [])) ≡ ended_result_without_cvm 3
  pub objects_missing : result_of_answer (waits_on_only_record aip bcd_units_below_limit)
      (record_answer_of (object_forbidden_to_card ∷ [])) ≡ ended_result_without_cvm 3
  pub objects_list : result_of_answer (waits_on_only_record aip bcd_units_below_limit)
      (record_answer_of (object_forbidden_to_card ∷ (dol_tag, broken_dol) ∷ []))
      ≡ ended_result_without_cvm 3
  pub limit_missing : result_of_answer (waits_on_only_record aip bcd_units_over_limit) (record_answer_of []) ≡ select_next_result
  pub limit_list : result_of_answer (waits_on_only_record aip bcd_units_over_limit) (record_answer_of objects_with_broken_dol)
      ≡ select_next_result
  pub missing_list : result_of_answer (waits_on_only_record aip bcd_units_below_limit)
      (record_answer_of ((dol_tag, broken_dol) ∷ [])) ≡ ended_result_without_cvm 4
  pub limit_alone : result_of_answer (waits_on_only_record aip bcd_units_over_limit) (record_answer_of required_objects)
      ≡ select_next_result

-- in EMV mode
pub record RecordExamples : Type 0 where
  pub reading : ReasonsInReadingOrder (waits_on_only_record emv_aip bcd_units_below_limit) 0x70 0x77 ended_result_without_cvm
  pub limit : ReadingReasonsBeforeLaterReason (waits_on_only_record emv_aip bcd_units_over_limit) 0x70
      (encoded_tag_values required_emv_record_objects) ended_result_without_cvm
  pub missing : ReadingReasonsBeforeLaterReason (waits_on_only_record emv_aip bcd_units_below_limit) 0x70 []
      ended_result_without_cvm
  pub list : ReadingReasonsBeforeLaterReason (waits_on_only_record emv_aip bcd_units_below_limit) 0x70
      (encoded_tag_values record_with_broken_cdol) ended_result_without_cvm
  pub last : ReasonsAfterLastRecord emv_aip 0x8C required_emv_record_objects record_with_broken_cdol
  -- nothing; a broken CDOL1; and the cryptogram is requested
  pub alone :
      results_of_answers (waits_on_only_record emv_aip bcd_units_below_limit)
      (record_answer_of [] ∷ record_answer_of record_with_broken_cdol ∷ record_answer_of required_emv_record_objects ∷ [])
      ≡ ended_result_without_cvm 4 ∷ broken_cdol_result ∷ command_result 11 ∷ []

-- in mag-stripe mode
pub record MagStripeExamples : Type 0 where
  pub last : ReasonsAfterLastRecord mag_stripe_aip 0x9F69 (track_objects track_with_separator) record_with_broken_udol
  -- nothing; a broken UDOL; and the checksum is requested
  pub alone :
      results_of_answers (waits_on_only_record mag_stripe_aip bcd_units_below_limit)
      (record_answer_of [] ∷ record_answer_of record_with_broken_udol ∷ record_answer_of (track_objects track_with_separator) ∷ [])
      ≡ ended_result_without_cvm 4 ∷ ended_result_without_cvm 7 ∷ command_result 10 ∷ []
