-- The order of refusals (document 01, "Calls and their numbers"): the buffer (22), the record's ranges (25), the phase
-- (21), and of start bytes no run of primitive objects (20), an object that may not be set (23), a mandatory object
-- absent (24). Each field is named by the two refusals that its call gives: the first is the one returned.
-- Assumes nothing.
use Rattle.std.specs.Prelude.{◌≡◌, [], ◌∷◌, ◌++◌}
use Rattle.basics.specs.Types.{StartBytes, Response, Buffer}
use Rattle.session_record.specs.Session.{fresh_session}
use Rattle.session.specs.Calls.{Call, start, answer, link_failed, stop}
use Rattle.worked_examples.specs.Sessions.{encoded_tag_values, start_objects_of_units_and_configuration}
use Rattle.worked_examples.specs.Sessions.{bcd_units_below_limit, configuration_mag_stripe_off, waits_on_gpo}
use Rattle.worked_examples.specs.Sessions.{session_stopped, fresh_out_of_ranges, waits_on_gpo_out_of_ranges}
use Rattle.worked_examples.specs.Sessions.{ended_out_of_ranges}
use Rattle.worked_examples.specs.Calls.{buffer_of261, buffer_of260, result_of, refusal_result, ended_result_without_cvm}

-- all that a start must bring; a template; an object of the session alone
abbrev pub start_bytes_with_all_required : StartBytes
start_bytes_with_all_required =
    encoded_tag_values (start_objects_of_units_and_configuration bcd_units_below_limit configuration_mag_stripe_off)

abbrev pub start_bytes_with_template : StartBytes
start_bytes_with_template = 0xE1 ∷ 0x00 ∷ []

abbrev pub start_bytes_with_tvr : StartBytes
start_bytes_with_tvr = 0x95 ∷ 0x05 ∷ 0x00 ∷ 0x00 ∷ 0x00 ∷ 0x00 ∷ 0x00 ∷ []

-- a PDOL that ends after a tag
abbrev pub start_bytes_only_broken_pdol : StartBytes
start_bytes_only_broken_pdol = encoded_tag_values ((0x9F38, 0x9F ∷ 0x02 ∷ []) ∷ [])

-- status 6A 82
abbrev pub card_status6a82 : Response
card_status6a82 = 0x6A ∷ 0x82 ∷ []

-- link failed, and stop, with a command buffer
pub record LinkFailedOrStopRefusals (call_with_buffer : Buffer → Call) : Type 0 where
  pub buffer_ranges : result_of waits_on_gpo_out_of_ranges (call_with_buffer buffer_of260) ≡ refusal_result 22
  pub buffer_phase : result_of fresh_session (call_with_buffer buffer_of260) ≡ refusal_result 22
  pub ranges_phase : result_of fresh_out_of_ranges (call_with_buffer buffer_of261) ≡ refusal_result 25
  pub phase : result_of session_stopped (call_with_buffer buffer_of261) ≡ refusal_result 21

pub record RefusalExamples : Type 0 where
  -- start
  pub buffer_ranges : result_of fresh_out_of_ranges (start start_bytes_with_all_required buffer_of260) ≡ refusal_result 22
  pub buffer_phase : result_of waits_on_gpo (start start_bytes_with_all_required buffer_of260) ≡ refusal_result 22
  pub buffer_run : result_of fresh_session (start start_bytes_with_template buffer_of260) ≡ refusal_result 22
  pub buffer_object : result_of fresh_session (start start_bytes_with_tvr buffer_of260) ≡ refusal_result 22
  pub buffer_absent : result_of fresh_session (start [] buffer_of260) ≡ refusal_result 22
  pub ranges_phase : result_of waits_on_gpo_out_of_ranges (start start_bytes_with_all_required buffer_of261) ≡ refusal_result 25
  pub ranges_run : result_of fresh_out_of_ranges (start start_bytes_with_template buffer_of261) ≡ refusal_result 25
  pub ranges_object : result_of fresh_out_of_ranges (start start_bytes_with_tvr buffer_of261) ≡ refusal_result 25
  pub ranges_absent : result_of fresh_out_of_ranges (start [] buffer_of261) ≡ refusal_result 25
  pub phase_run : result_of waits_on_gpo (start start_bytes_with_template buffer_of261) ≡ refusal_result 21
  pub phase_object : result_of waits_on_gpo (start start_bytes_with_tvr buffer_of261) ≡ refusal_result 21
  pub phase_absent : result_of waits_on_gpo (start [] buffer_of261) ≡ refusal_result 21
  pub run_object : result_of fresh_session (start (start_bytes_with_tvr ++ start_bytes_with_template) buffer_of261)
      ≡ refusal_result 20
  pub run_absent : result_of fresh_session (start start_bytes_with_template buffer_of261) ≡ refusal_result 20
  pub object_absent : result_of fresh_session (start start_bytes_with_tvr buffer_of261) ≡ refusal_result 23
  pub absent_alone : result_of fresh_session (start [] buffer_of261) ≡ refusal_result 24
  -- a PDOL that makes no command (reason 7) comes after the refusals
  pub absent_list : result_of fresh_session (start start_bytes_only_broken_pdol buffer_of261) ≡ refusal_result 24
  pub list_alone : result_of fresh_session (start (start_bytes_only_broken_pdol ++ start_bytes_with_all_required) buffer_of261)
      ≡ ended_result_without_cvm 7
  -- answer
  pub answer_buffer_ranges : result_of waits_on_gpo_out_of_ranges (answer card_status6a82 buffer_of260) ≡ refusal_result 22
  pub answer_buffer_phase : result_of fresh_session (answer card_status6a82 buffer_of260) ≡ refusal_result 22
  pub answer_ranges_phase : result_of fresh_out_of_ranges (answer card_status6a82 buffer_of261) ≡ refusal_result 25
  pub answer_ranges_ended : result_of ended_out_of_ranges (answer card_status6a82 buffer_of261) ≡ refusal_result 25
  pub answer_phase : result_of fresh_session (answer card_status6a82 buffer_of261) ≡ refusal_result 21
  pub answer_ended : result_of session_stopped (answer card_status6a82 buffer_of261) ≡ refusal_result 21
  pub link : LinkFailedOrStopRefusals link_failed
  pub stopped : LinkFailedOrStopRefusals stop
