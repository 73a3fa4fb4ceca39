-- A purchase whose answer to GENERATE AC brings a denial code that was absent, computed from a fresh session on: it is
-- approved with reason 0, the code that came requests a decline, and so the final store does not give the outcome.
-- Without the code it is explained.
-- Assumes nothing.
use mathlib.Core.Path.{◌≡◌, ap, ◌∙◌}
use mathlib.Core.Bool.{true}
use mathlib.Core.List.{List, [], ◌∷◌, ◌++◌}
use Prim.Native.Nat.{ℕ}
use lib.ListN.{replicate}
use Rattle.basics.specs.Recursion.{recurse_with_fuel_from_length, recurse_with_fuel}
use Rattle.basics.specs.Choice.{if, both, either, every}
use Rattle.basics.proofs.Laws.{if_yes}
use Rattle.basics.specs.Number.{append_big_endian_bytes, nibbles}
use Rattle.basics.specs.Alike.{bytes_equal}
use Rattle.tlv.specs.Tag.{tag_size, tag_size_from_second_byte, tag_size_from_third_byte, tag_at, tag_first_byte, is_template}
use Rattle.tlv.specs.Tag.{is_private}
use Rattle.tlv.specs.Length.{length_at}
use Rattle.tlv.specs.Object.{header_of}
use Rattle.tlv.specs.Primitives.{prepend_object, primitive_at_front, primitive_objects}
use Rattle.tlv.specs.Encoding.{length_bytes}
use Rattle.tlv.specs.Tree.{object_count, next_in_template, prepend_leaf, prepend_node, parse_tree}
use Rattle.dictionary.specs.Rows.{dictionary_rows, row_found_shifted, find_row}
use Rattle.dictionary.specs.Named.{row_number_of_tag_or_zero}
use Rattle.dictionary.specs.Form.{is_numeric, digits_match_form, length_and_digits_fit_row, is_digits_then_fs}
use Rattle.dictionary.specs.Form.{is_compressed_numeric}
use Rattle.dictionary.specs.TerminalType.{listed_terminal_type}
use Rattle.store.specs.Place.{row_offset, row_place_bytes, value_in_place, row_value, put_row, object_value_in}
use Rattle.store.specs.Place.{row_length_plus_one_or_zero}
use Rattle.afl.specs.Entry.{valid_entry}
use Rattle.afl.specs.Records.{afl_entries as entries_of, afl_length_is_multiple_of4, consecutive_records as run_of}
use Rattle.afl.specs.Records.{records_of_entries, sum_over_entries, accepts_afl, record_at_index, kth_record_from_one}
use Rattle.afl.specs.Records.{kth_record_of_accepted_afl}
use Rattle.reading.specs.Taking.{allowed_in_template, row_allows_value_from_card, row_allows_value_and_absent_or_empty, store_item}
use Rattle.reading.specs.Taking.{store_next_item, store_all_items, primitive_items}
use Rattle.reading.specs.Answer.{parse_response_body, gpo_items_under80, primitive_body_items, read_body, is_body_to_be_read}
use Rattle.reading.specs.Answer.{is_status9000, response_length_is2_to258, read_answer, template_body_items}
use Rattle.dol.specs.Entries.{dol_entries_step, dol_entries, dol_entry_with_length, dol_entry_at, prepend_dol_entry}
use Rattle.dol.specs.Filling.{dol_data, dol_data_if_parsed, truncated_to_length, padding_byte, padded_to_length, fitted_to_length}
use Rattle.dol.specs.Filling.{dol_entry_bytes}
use Rattle.command.specs.WithList.{gpo_command_of_filled, get_processing_options, command_if_data_is1_to255_bytes, generate_ac}
use Rattle.analysis.specs.Bits.{has_bit_counted_from_zero_at_byte1b8}
use Rattle.analysis.specs.Value.{first_bytes_zero_padded}
use Rattle.analysis.specs.Digits.{append_decimal_digits, four_digit_year, date_as_number, first_date_is_later, amount_of}
use Rattle.analysis.specs.Digits.{first_amount_is_above}
use Rattle.analysis.specs.Restrictions.{card_version_present_and_differs, not_yet_effective, is_atm_type_with_cash_capability}
use Rattle.analysis.specs.Restrictions.{issuer_country_match, cashback_requested, auc_violated}
use Rattle.analysis.specs.Tvr.{tvr_with_bits}
use Rattle.analysis.specs.Choice.{tvr_bit_is_in_either_action_code, lowest_bit_from_start_within_count, lowest_tvr_bit_in_codes, iac_or_default}
use Rattle.analysis.specs.Choice.{some_tvr_bit_in_codes_of_stage, online_capability_by_digit, terminal_action_analysis}
use Rattle.analysis.specs.Cvm.{cvm_rules_from_pairs, cvm_recognised, cvm_supported, cvm_condition_met}
use Rattle.analysis.specs.Cvm.{cvm_result_of_supported as taken_by, cvm_result_of_unsuccessful, cvm_result_by_rules}
use Rattle.analysis.specs.Cvm.{aip_and_configuration_support_on_device_cvm, cvm_processing}
use Rattle.analysis.specs.Action.{card_and_kernel_support_on_device_cvm, transaction_limit, stored_amount_above_limit}
use Rattle.analysis.specs.Action.{auc_violated_in_store, restrictions_tvr_byte2, tvr_before_cvm, currencies_present_and_equal}
use Rattle.analysis.specs.Action.{cvm_conditions_in, cvm_result_in, tvr_with_cvm, findings_of, action_codes_of, choice_for_tvr}
use Rattle.session_record.specs.declared.Outcome.{Outcome}
use Rattle.session_record.specs.declared.Phase.{Phase}
use Rattle.session_record.specs.Numbers.{reason_matches_outcome, outcome_of_nonzero_reason}
use Rattle.session_record.specs.Ranges.{is_present_if_required_at_start, all_required_at_start_present, session_record_in_ranges}
use Rattle.session_record.specs.Ranges.{expiry_pan_and_cdol1_non_empty}
use Rattle.session_record.specs.declared.Session.{Session}
use Rattle.session_record.specs.Session.{fresh_session, ending_of, store_bytes}
use Rattle.session_record.proofs.Phases.{fresh_keeps}
use Rattle.start_data.specs.StartData.{is_listed_if_terminal_type, start_may_set_object_in_row, set_start_object, set_start_objects}
use Rattle.start_data.specs.StartData.{load_start_bytes}
use Rattle.session.specs.Steps.{read_response_then, store_with_tvr, store_with_findings}
use Rattle.session.specs.Start.{request_gpo}
use Rattle.session.specs.Answer.{next_after_gpo_read, next_on_gpo_response, next_on_record_response}
use Rattle.session.specs.Answer.{next_after_record_read, next_after_last_record, next_after_records_in_emv_mode}
use Rattle.session.specs.Answer.{requested_cryptogram, request_cryptogram, outcome_for_cryptogram_type, cryptogram_ending}
use Rattle.session.specs.Answer.{next_on_cryptogram_response}
use Rattle.session_claim.specs.Calls.{commands_sent, calls_accepted, last_element}
use Rattle.session.specs.Calls.{Call, start, answer, call_step, CallMade, play_calls, final_session}
use Rattle.session_claim.proofs.Trace.{call_keeps}
use Rattle.session_claim.proofs.InRanges.{play_in, final_in, play_in_lem, final_in_lem}
use Rattle.explain.specs.declared.Stage.{Stage}
use Rattle.explain.specs.declared.Explanation.{Explanation}
use Rattle.explain.specs.Explain.{deciding_stage_in, deciding_stage_if_its_data_present, action_code_holder_of_bit}
use Rattle.explain.specs.Explain.{action_codes_of_stage, explanation_at_stage, rank_of_cryptogram_type, explanation_of_ending}
use Rattle.explain.specs.Explain.{explanation_of_ending_by_mode, explanation_in_phase, explanation_of}
use Rattle.explain_claim.specs.Explained.{some_iac_appears, is_final_ac_answer_bringing_iac}
use Rattle.explain_claim.specs.Explained.{last_call_is_final_ac_answer_bringing_iac, generate_ac_commands, generate_ac_p1s}

-- the terminal's objects of a purchase at type 22
abbrev start_bytes : List ℕ
start_bytes =
    0x9A ∷ 0x03 ∷ 0x25 ∷ 0x11 ∷ 0x16 ∷ 0x9C ∷ 0x01 ∷ 0x00 ∷ 0x9F ∷ 0x02 ∷ 0x06 ∷ 0x00 ∷ 0x00 ∷ 0x00 ∷ 0x00 ∷ 0x12 ∷ 0x34
    ∷
    0x9F ∷ 0x09 ∷ 0x02 ∷ 0x00 ∷ 0x02 ∷ 0x9F ∷ 0x1A ∷ 0x02 ∷ 0x00 ∷ 0x56 ∷ 0x9F ∷ 0x35 ∷ 0x01 ∷ 0x22 ∷ 0x9F ∷ 0x37 ∷ 0x04
    ∷ 0x01 ∷ 0x02 ∷ 0x03 ∷ 0x04 ∷
    0xDF ∷ 0x81 ∷ 0x20 ∷ 0x05 ∷ 0x00 ∷ 0x00 ∷ 0x00 ∷ 0x00 ∷ 0x00 ∷ 0xDF ∷ 0x81 ∷ 0x21 ∷ 0x05 ∷ 0x00 ∷ 0x00 ∷ 0x00 ∷ 0x00
    ∷ 0x00 ∷
    0xDF ∷ 0x81 ∷ 0x22 ∷ 0x05 ∷ 0x00 ∷ 0x00 ∷ 0x00 ∷ 0x00 ∷ 0x00 ∷ 0xDF ∷ 0x81 ∷ 0x23 ∷ 0x06 ∷ 0x00 ∷ 0x00 ∷ 0x00 ∷ 0x00
    ∷ 0x50 ∷ 0x00 ∷
    0xDF ∷ 0x81 ∷ 0x24 ∷ 0x06 ∷ 0x00 ∷ 0x00 ∷ 0x00 ∷ 0x01 ∷ 0x00 ∷ 0x00 ∷ 0x9F ∷ 0x33 ∷ 0x03 ∷ 0xE0 ∷ 0xF8 ∷ 0xC8 ∷
    0xDF ∷ 0x81 ∷ 0x26 ∷ 0x06 ∷ 0x00 ∷ 0x00 ∷ 0x00 ∷ 0x00 ∷ 0x25 ∷ 0x00 ∷ 0xDF ∷ 0x81 ∷ 0x25 ∷ 0x06 ∷ 0x00 ∷ 0x00 ∷ 0x00
    ∷ 0x02 ∷ 0x00 ∷ 0x00 ∷
    0xDF ∷ 0x81 ∷ 0x1B ∷ 0x01 ∷ 0x00 ∷ 0x9F ∷ 0x6A ∷ 0x04 ∷ 0x00 ∷ 0x00 ∷ 0x00 ∷ 0x12 ∷ []

-- AIP 00 80 and one record of file 1
abbrev gpo_answer : List ℕ
gpo_answer = 0x80 ∷ 0x06 ∷ 0x00 ∷ 0x80 ∷ 0x08 ∷ 0x01 ∷ 0x01 ∷ 0x00 ∷ 0x90 ∷ 0x00 ∷ []

-- expiry date, PAN, CDOL1 and an online code of zeros, so that the choice is offline
abbrev record_answer : List ℕ
record_answer =
    0x70 ∷ 0x1C ∷ 0x5F ∷ 0x24 ∷ 0x03 ∷ 0x30 ∷ 0x12 ∷ 0x31 ∷ 0x5A ∷ 0x08 ∷ 0x47 ∷ 0x61 ∷ 0x73 ∷ 0x90 ∷ 0x01 ∷ 0x01 ∷ 0x00
    ∷ 0x10 ∷
    0x8C ∷ 0x02 ∷ 0x95 ∷ 0x05 ∷ 0x9F ∷ 0x0F ∷ 0x05 ∷ 0x00 ∷ 0x00 ∷ 0x00 ∷ 0x00 ∷ 0x00 ∷ 0x90 ∷ 0x00 ∷ []

-- a TC in a 77 of so many bytes, with more after it
abbrev cryptogram_answer : ℕ → List ℕ → List ℕ
cryptogram_answer size more =
    0x77 ∷ size ∷ 0x9F ∷ 0x27 ∷ 0x01 ∷ 0x40 ∷ 0x9F ∷ 0x36 ∷ 0x02 ∷ 0x00 ∷ 0x01 ∷
    0x9F ∷ 0x26 ∷ 0x08 ∷ 0x01 ∷ 0x02 ∷ 0x03 ∷ 0x04 ∷ 0x05 ∷ 0x06 ∷ 0x07 ∷ 0x08 ∷ (more ++ (0x90 ∷ 0x00 ∷ []))

-- a 70 with a denial code that has byte 1 b8
abbrev denial_code : List ℕ
denial_code = 0x70 ∷ 0x08 ∷ 0x9F ∷ 0x0E ∷ 0x05 ∷ 0x80 ∷ 0x00 ∷ 0x00 ∷ 0x00 ∷ 0x00 ∷ []

abbrev lent : List ℕ
lent = replicate 261 0

abbrev purchase : List ℕ → List Call
purchase last = start start_bytes lent ∷ answer gpo_answer lent ∷ answer record_answer lent ∷ answer last lent ∷ []

-- approved both times
pub record Worked : Type 0 where
  brought_end : (final_session fresh_session (purchase (cryptogram_answer 0x1E denial_code))).phase
      ≡ Phase.Ended (ending_of Outcome.Approved 0)
  brought : explanation_of (final_session fresh_session (purchase (cryptogram_answer 0x1E denial_code)))
      ≡ Explanation.Refused
  last : last_call_is_final_ac_answer_bringing_iac
      (last_element (calls_accepted (play_calls fresh_session (purchase (cryptogram_answer 0x1E denial_code))))) ≡ true
  plain : explanation_of (final_session fresh_session (purchase (cryptogram_answer 0x14 []))) ≡ Explanation.Unforced
      Stage.Online
  handed_out : generate_ac_p1s (commands_sent (play_calls fresh_session (purchase (cryptogram_answer 0x14 [])))) ≡ 0x40 ∷ []

-- a session that calls lead to is in its ranges, and is explained by its phase
kept : (s : Session) → session_record_in_ranges s ≡ true → (cs : List Call) → session_record_in_ranges (final_session s cs)
    ≡ true
unfolding final_session
kept s e [] = e
kept s e (c ∷ cs) = kept (call_step s c).reply.session (call_keeps s c e) cs

by_phase : (cs : List Call) → explanation_of (final_session fresh_session cs) ≡ explanation_in_phase
    (final_in fresh_session cs).phase (store_bytes (final_in fresh_session cs))
unfolding explanation_of
by_phase cs = if_yes _ _ (kept fresh_session fresh_keeps cs) ∙ ap
    (λ (s : Session). explanation_in_phase s.phase (store_bytes s)) (final_in_lem fresh_session fresh_keeps cs)

pub worked : Worked
unfolding play_in final_in calls_accepted last_element commands_sent generate_ac_commands is_final_ac_answer_bringing_iac
    some_iac_appears reason_matches_outcome outcome_of_nonzero_reason expiry_pan_and_cdol1_non_empty request_gpo get_processing_options
    gpo_command_of_filled
    dol_data_if_parsed dol_data dol_entries recurse_with_fuel_from_length recurse_with_fuel dol_entries_step length_bytes
    dol_entry_with_length dol_entry_at prepend_dol_entry truncated_to_length padding_byte padded_to_length fitted_to_length
    dol_entry_bytes command_if_data_is1_to255_bytes generate_ac next_on_gpo_response
    read_response_then next_after_gpo_read kth_record_of_accepted_afl kth_record_from_one record_at_index accepts_afl
    afl_length_is_multiple_of4 entries_of valid_entry sum_over_entries records_of_entries run_of read_answer response_length_is2_to258
    is_status9000 is_body_to_be_read read_body
    parse_response_body primitive_body_items gpo_items_under80 template_body_items parse_tree next_in_template prepend_leaf
    prepend_node object_count primitive_items store_all_items store_next_item store_item row_allows_value_and_absent_or_empty
    row_allows_value_from_card allowed_in_template store_with_tvr
    store_with_findings row_number_of_tag_or_zero load_start_bytes primitive_objects prepend_object primitive_at_front header_of tag_at
    tag_size tag_size_from_second_byte tag_size_from_third_byte length_at tag_first_byte is_template is_private append_big_endian_bytes
    if both
    either every dictionary_rows row_found_shifted find_row start_may_set_object_in_row set_start_object set_start_objects
    length_and_digits_fit_row digits_match_form is_numeric nibbles is_digits_then_fs is_compressed_numeric is_listed_if_terminal_type
    listed_terminal_type row_offset row_place_bytes
    value_in_place row_value put_row object_value_in all_required_at_start_present is_present_if_required_at_start next_on_record_response
    next_after_record_read next_after_last_record next_after_records_in_emv_mode requested_cryptogram request_cryptogram
    card_and_kernel_support_on_device_cvm aip_and_configuration_support_on_device_cvm
    transaction_limit stored_amount_above_limit auc_violated_in_store restrictions_tvr_byte2 tvr_before_cvm
    currencies_present_and_equal cvm_conditions_in cvm_result_in tvr_with_cvm findings_of action_codes_of choice_for_tvr
    has_bit_counted_from_zero_at_byte1b8 first_bytes_zero_padded append_decimal_digits
    four_digit_year date_as_number first_date_is_later amount_of first_amount_is_above card_version_present_and_differs not_yet_effective
    is_atm_type_with_cash_capability issuer_country_match cashback_requested auc_violated tvr_with_bits tvr_bit_is_in_either_action_code
    lowest_bit_from_start_within_count lowest_tvr_bit_in_codes iac_or_default some_tvr_bit_in_codes_of_stage
    online_capability_by_digit terminal_action_analysis cvm_rules_from_pairs cvm_recognised cvm_supported cvm_condition_met taken_by
    cvm_result_of_unsuccessful cvm_result_by_rules cvm_processing bytes_equal outcome_for_cryptogram_type cryptogram_ending
    next_on_cryptogram_response deciding_stage_in deciding_stage_if_its_data_present action_code_holder_of_bit action_codes_of_stage
    explanation_at_stage rank_of_cryptogram_type explanation_of_ending explanation_of_ending_by_mode row_length_plus_one_or_zero
worked =
    record {
      brought_end = ap (λ (s : Session). s.phase)
          (final_in_lem fresh_session fresh_keeps (purchase (cryptogram_answer 0x1E denial_code)));
      brought = by_phase (purchase (cryptogram_answer 0x1E denial_code));
      last = ap (λ (ms : List CallMade). last_call_is_final_ac_answer_bringing_iac (last_element (calls_accepted ms)))
          (play_in_lem fresh_session fresh_keeps (purchase (cryptogram_answer 0x1E denial_code)));
      plain = by_phase (purchase (cryptogram_answer 0x14 []));
      handed_out = ap (λ (ms : List CallMade). generate_ac_p1s (commands_sent ms))
          (play_in_lem fresh_session fresh_keeps (purchase (cryptogram_answer 0x14 [])));
    }
