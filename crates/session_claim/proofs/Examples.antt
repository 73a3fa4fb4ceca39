-- Worked lists of calls, computed: what the step functions hand out, the AFL that is accepted and where the session is
-- left; and document 01's own example of the published order, from the card's bytes to the three commands.
-- Assumes nothing.
use Rattle.std.specs.Prelude.{Option, Some, None}
use mathlib.Core.Path.{◌≡◌, refl, ap}
use mathlib.Core.List.{List, [], ◌∷◌, map}
use Prim.Native.Nat.{ℕ}
use lib.ListN.{length, replicate}
use Rattle.basics.specs.Recursion.{recurse_with_fuel_from_length, recurse_with_fuel}
use Rattle.basics.specs.Choice.{if, both, either, every}
use Rattle.basics.specs.Number.{append_big_endian_bytes, nibbles}
use Rattle.tlv.specs.Tag.{tag_size, tag_size_from_second_byte, tag_size_from_third_byte, tag_at, tag_first_byte, is_template}
use Rattle.tlv.specs.Tag.{is_private}
use Rattle.tlv.specs.Length.{length_at}
use Rattle.tlv.specs.Object.{header_of}
use Rattle.tlv.specs.Primitives.{prepend_object, primitive_at_front, primitive_objects}
use Rattle.tlv.specs.Encoding.{length_bytes}
use Rattle.dictionary.specs.Rows.{dictionary_rows, row_found_shifted, find_row}
use Rattle.dictionary.specs.Named.{row_number_of_tag_or_zero}
use Rattle.dictionary.specs.Form.{is_numeric, digits_match_form, length_and_digits_fit_row, is_digits_then_fs}
use Rattle.dictionary.specs.Form.{is_compressed_numeric}
use Rattle.dictionary.specs.TerminalType.{listed_terminal_type}
use Rattle.store.specs.Place.{row_offset, row_place_bytes, value_in_place, row_value, put_row, object_value_in}
use Rattle.afl.specs.Entry.{valid_entry}
use Rattle.afl.specs.Records.{afl_entries as entries_of, afl_length_is_multiple_of4, consecutive_records as run_of}
use Rattle.afl.specs.Records.{records_of_entries, sum_over_entries, accepts_afl, record_at_index, kth_record_from_one}
use Rattle.afl.specs.Records.{kth_record_of_accepted_afl}
use Rattle.reading.specs.Taking.{allowed_in_template, row_allows_value_from_card, row_allows_value_and_absent_or_empty, store_item}
use Rattle.reading.specs.Taking.{store_next_item, store_all_items, primitive_items}
use Rattle.reading.specs.Answer.{parse_response_body, gpo_items_under80, primitive_body_items, read_body, is_body_to_be_read}
use Rattle.reading.specs.Answer.{is_status9000, response_length_is2_to258, read_answer, template_body_items}
use Rattle.dol.specs.Entries.{dol_entries_step, dol_entries, dol_entry_with_length, dol_entry_at, prepend_dol_entry}
use Rattle.dol.specs.Filling.{dol_data, dol_data_if_parsed, truncated_to_length, padding_byte, padded_to_length, fitted_to_length}
use Rattle.dol.specs.Filling.{dol_entry_bytes}
use Rattle.command.specs.WithList.{gpo_command_of_filled, get_processing_options, command_if_data_is1_to255_bytes, generate_ac}
use Rattle.command.specs.WithList.{udol_or_default, compute_cryptographic_checksum}
use Rattle.session_record.specs.declared.AwaitedResponse.{AwaitedResponse}
use Rattle.session_record.specs.declared.Phase.{Phase}
use Rattle.session_record.specs.declared.Session.{Session}
use Rattle.session_record.specs.Numbers.{outcome_of_nonzero_reason}
use Rattle.basics.specs.Reason.{reason_link, reason_no_supported_mode}
use Rattle.session_record.specs.Ranges.{is_present_if_required_at_start, all_required_at_start_present}
use Rattle.session_record.specs.Ranges.{expiry_pan_and_cdol1_non_empty, track2_and_bitmaps_non_empty}
use Rattle.session_record.specs.Session.{fresh_session, ending_of, outcome_parameters}
use Rattle.session_record.proofs.Phases.{fresh_keeps}
use Rattle.start_data.specs.StartData.{is_listed_if_terminal_type, start_may_set_object_in_row, set_start_object, set_start_objects}
use Rattle.start_data.specs.StartData.{load_start_bytes}
use Rattle.session.specs.Steps.{read_response_then, store_with_tvr, store_with_findings}
use Rattle.session.specs.Start.{request_gpo}
use Rattle.session.specs.MagStripe.{request_checksum, next_after_records_in_mag_stripe_mode}
use Rattle.session.specs.MagStripe.{next_after_checksum_read, next_if_track_takes_digits, next_on_checksum_response}
use Rattle.mag_stripe.specs.Track.{nibbles_before, discretionary_data_in_nibbles}
use Rattle.mag_stripe.specs.Bitmap.{bitmap_places_counted_from, bitmap_places_from_one, bitmap_within, track_can_take_digits}
use Rattle.session.specs.Answer.{next_after_gpo_read, next_on_gpo_response, next_on_record_response, next_after_record_read}
use Rattle.session.specs.Answer.{next_after_last_record, next_after_records_in_emv_mode, requested_cryptogram, request_cryptogram}
use Rattle.session_claim.specs.Calls.{commands_sent, calls_accepted}
use Rattle.session.specs.Calls.{Call, start, answer, link_failed, stop, CallMade, play_calls, final_session, call_result}
use Rattle.session_claim.specs.Order.{first_non_empty_value_directly_inside77, afl_in_gpo_response, aip_in_gpo_response}
use Rattle.session_claim.specs.Order.{first_answer, afl_accepted_from_gpo_answer, gpo, record_command_kind, cryptogram}
use Rattle.session_claim.specs.Order.{checksum, final_command_kind_for_aip}
use Rattle.session_claim.specs.Order.{published_order}
use Rattle.basics.specs.Alike.{bytes_equal}
use Rattle.tlv.specs.Tree.{object_count, next_in_template, prepend_leaf, prepend_node, parse_tree}
use Rattle.analysis.specs.Bits.{has_bit_counted_from_zero_at_byte1b8}
use Rattle.analysis.specs.Value.{first_bytes_zero_padded}
use Rattle.analysis.specs.Digits.{append_decimal_digits, four_digit_year, date_as_number, first_date_is_later, amount_of}
use Rattle.analysis.specs.Digits.{first_amount_is_above}
use Rattle.analysis.specs.Restrictions.{card_version_present_and_differs, not_yet_effective, is_atm_type_with_cash_capability}
use Rattle.analysis.specs.Restrictions.{issuer_country_match, cashback_requested, auc_violated}
use Rattle.analysis.specs.Tvr.{tvr_with_bits}
use Rattle.analysis.specs.Choice.{tvr_bit_is_in_either_action_code, lowest_bit_from_start_within_count, lowest_tvr_bit_in_codes, iac_or_default}
use Rattle.analysis.specs.Choice.{some_tvr_bit_in_codes_of_stage, online_capability_by_digit, terminal_action_analysis}
use Rattle.analysis.specs.declared.choice.Choice.{Choice}
use Rattle.analysis.specs.declared.cvm.Cvm.{Cvm}
use Rattle.analysis.specs.Cvm.{cvm_rules_from_pairs, cvm_recognised, cvm_supported, cvm_condition_met}
use Rattle.analysis.specs.Cvm.{cvm_result_of_supported as taken_by, cvm_result_of_unsuccessful, cvm_result_by_rules}
use Rattle.analysis.specs.Cvm.{cvm_processing, aip_and_configuration_support_on_device_cvm, on_device_cvm_result_by_above_limit}
use Rattle.analysis.specs.Action.{card_and_kernel_support_on_device_cvm, transaction_limit, stored_amount_above_limit}
use Rattle.analysis.specs.Action.{auc_violated_in_store, restrictions_tvr_byte2, tvr_before_cvm, currencies_present_and_equal}
use Rattle.analysis.specs.Action.{cvm_conditions_in, cvm_result_in, tvr_with_cvm, findings_of, action_codes_of, choice_for_tvr}
use Rattle.session_record.specs.declared.Outcome.{Outcome}
use Rattle.session_record.specs.declared.CallResult.{CallResult}
use Rattle.session_claim.proofs.InRanges.{play_in, final_in, play_in_lem, final_in_lem}

-- ---- lists of calls

-- all that a start must bring, with this DF811B, and no 9F38
abbrev start_with : ℕ → List ℕ
start_with configuration =
    0x9A ∷ 0x03 ∷ 0x25 ∷ 0x11 ∷ 0x15 ∷ 0x9C ∷ 0x01 ∷ 0x00 ∷ 0x9F ∷ 0x02 ∷ 0x06 ∷ 0x00 ∷ 0x00 ∷ 0x00 ∷ 0x00 ∷ 0x12 ∷ 0x34
    ∷
    0x9F ∷ 0x09 ∷ 0x02 ∷ 0x00 ∷ 0x02 ∷ 0x9F ∷ 0x1A ∷ 0x02 ∷ 0x00 ∷ 0x56 ∷ 0x9F ∷ 0x33 ∷ 0x03 ∷ 0xE0 ∷ 0x68 ∷ 0xC8 ∷ 0x9F
    ∷ 0x35 ∷ 0x01 ∷ 0x22 ∷ 0x9F ∷ 0x37 ∷ 0x04 ∷ 0x01 ∷ 0x02 ∷ 0x03 ∷ 0x04 ∷
    0xDF ∷ 0x81 ∷ 0x20 ∷ 0x05 ∷ 0x00 ∷ 0x00 ∷ 0x00 ∷ 0x00 ∷ 0x00 ∷ 0xDF ∷ 0x81 ∷ 0x21 ∷ 0x05 ∷ 0x00 ∷ 0x00 ∷ 0x00 ∷ 0x00
    ∷ 0x00 ∷
    0xDF ∷ 0x81 ∷ 0x22 ∷ 0x05 ∷ 0x00 ∷ 0x00 ∷ 0x00 ∷ 0x00 ∷ 0x00 ∷ 0xDF ∷ 0x81 ∷ 0x23 ∷ 0x06 ∷ 0x00 ∷ 0x00 ∷ 0x00 ∷ 0x01
    ∷ 0x00 ∷ 0x00 ∷
    0xDF ∷ 0x81 ∷ 0x24 ∷ 0x06 ∷ 0x00 ∷ 0x00 ∷ 0x00 ∷ 0x02 ∷ 0x00 ∷ 0x00 ∷
    0xDF ∷ 0x81 ∷ 0x25 ∷ 0x06 ∷ 0x00 ∷ 0x00 ∷ 0x00 ∷ 0x05 ∷ 0x00 ∷ 0x00 ∷
    0xDF ∷ 0x81 ∷ 0x26 ∷ 0x06 ∷ 0x00 ∷ 0x00 ∷ 0x00 ∷ 0x00 ∷ 0x10 ∷ 0x00 ∷ 0xDF ∷ 0x81 ∷ 0x1B ∷ 0x01 ∷ configuration ∷
    0x9F ∷ 0x6A ∷ 0x04 ∷ 0x00 ∷ 0x00 ∷ 0x34 ∷ 0x56 ∷ []

abbrev start_bytes : List ℕ
start_bytes = start_with 0x20

abbrev afl : List ℕ
afl = 0x08 ∷ 0x01 ∷ 0x01 ∷ 0x00 ∷ []

-- 82 of 00 80 and this AFL; and the same with 82 of 00 00
abbrev gpo_answer : List ℕ
gpo_answer = 0x80 ∷ 0x06 ∷ 0x00 ∷ 0x80 ∷ 0x08 ∷ 0x01 ∷ 0x01 ∷ 0x00 ∷ 0x90 ∷ 0x00 ∷ []

abbrev mag_stripe_answer : List ℕ
mag_stripe_answer = 0x80 ∷ 0x06 ∷ 0x00 ∷ 0x00 ∷ 0x08 ∷ 0x01 ∷ 0x01 ∷ 0x00 ∷ 0x90 ∷ 0x00 ∷ []

abbrev lent : List ℕ
lent = replicate 261 0

abbrev gpo_command : List ℕ
gpo_command = 0x80 ∷ 0xA8 ∷ 0x00 ∷ 0x00 ∷ 0x02 ∷ 0x83 ∷ 0x00 ∷ 0x00 ∷ []

abbrev record_command : List ℕ
record_command = 0x00 ∷ 0xB2 ∷ 0x01 ∷ 0x0C ∷ 0x00 ∷ []

-- a start and the answer to GPO
abbrev begun : List Call
begun = start start_bytes lent ∷ answer gpo_answer lent ∷ []

-- a stop before the start, a start with a buffer of one byte and a second start are refused and change nothing
abbrev interrupted : List Call
interrupted = stop lent ∷ start start_bytes (0x00 ∷ []) ∷ start start_bytes lent ∷ start start_bytes lent
    ∷ answer gpo_answer lent ∷ []

-- the link fails on GPO: the session has ended with reason 9, and a later answer is refused
abbrev torn : List Call
torn = start start_bytes lent ∷ link_failed lent ∷ answer gpo_answer lent ∷ []

-- the answer has byte 2 b8 of 82 clear, and DF811B b8 is set: the rules give it reason 11, and its AFL is not accepted
abbrev not_emv : List Call
not_emv = start (start_with 0xA0) lent ∷ answer mag_stripe_answer lent ∷ []

-- the AFL that a list of calls accepts
abbrev accepted : List CallMade → Option (List ℕ)
accepted ms = afl_accepted_from_gpo_answer (first_answer (calls_accepted ms))

pub record Worked : Type 0 where
  begun_sent : commands_sent (play_calls fresh_session begun) ≡ gpo_command ∷ record_command ∷ []
  begun_accepted : accepted (play_calls fresh_session begun) ≡ Some afl
  interrupted_sent : commands_sent (play_calls fresh_session interrupted) ≡ gpo_command ∷ record_command ∷ []
  interrupted_taken : length (calls_accepted (play_calls fresh_session interrupted)) ≡ 2
  torn_sent : commands_sent (play_calls fresh_session torn) ≡ gpo_command ∷ []
  torn_taken : length (calls_accepted (play_calls fresh_session torn)) ≡ 2
  torn_end : (final_session fresh_session torn).phase
      ≡ Phase.Ended (ending_of (outcome_of_nonzero_reason reason_link) reason_link)
  not_emv_brought : afl_in_gpo_response mag_stripe_answer ≡ Some afl
  not_emv_accepted : accepted (play_calls fresh_session not_emv) ≡ None
  not_emv_end : (final_session fresh_session not_emv).phase
      ≡ Phase.Ended (ending_of (outcome_of_nonzero_reason reason_no_supported_mode) reason_no_supported_mode)

pub worked : Worked
unfolding commands_sent play_in final_in calls_accepted first_answer afl_in_gpo_response outcome_of_nonzero_reason request_gpo
    get_processing_options gpo_command_of_filled dol_data_if_parsed dol_data dol_entries recurse_with_fuel_from_length
    recurse_with_fuel dol_entries_step length_bytes next_on_gpo_response read_response_then next_after_gpo_read
    kth_record_of_accepted_afl kth_record_from_one record_at_index accepts_afl afl_length_is_multiple_of4 entries_of valid_entry
    sum_over_entries records_of_entries run_of read_answer response_length_is2_to258 is_status9000 is_body_to_be_read
    read_body parse_response_body primitive_body_items gpo_items_under80 store_all_items store_next_item store_item
    row_allows_value_and_absent_or_empty row_allows_value_from_card allowed_in_template store_with_tvr row_number_of_tag_or_zero
    load_start_bytes primitive_objects prepend_object primitive_at_front header_of tag_at tag_size
    tag_size_from_second_byte tag_size_from_third_byte length_at tag_first_byte is_template is_private append_big_endian_bytes if both
    either every dictionary_rows row_found_shifted find_row start_may_set_object_in_row set_start_object set_start_objects
    length_and_digits_fit_row digits_match_form is_numeric nibbles is_listed_if_terminal_type listed_terminal_type
    row_offset row_place_bytes value_in_place row_value put_row object_value_in all_required_at_start_present
    is_present_if_required_at_start
worked =
    record {
      begun_sent = ap commands_sent (play_in_lem fresh_session fresh_keeps begun);
      begun_accepted = ap accepted (play_in_lem fresh_session fresh_keeps begun);
      interrupted_sent = ap commands_sent (play_in_lem fresh_session fresh_keeps interrupted);
      interrupted_taken = ap (λ (ms : List CallMade). length (calls_accepted ms))
          (play_in_lem fresh_session fresh_keeps interrupted);
      torn_sent = ap commands_sent (play_in_lem fresh_session fresh_keeps torn);
      torn_taken = ap (λ (ms : List CallMade). length (calls_accepted ms)) (play_in_lem fresh_session fresh_keeps torn);
      torn_end = ap (λ (s : Session). s.phase) (final_in_lem fresh_session fresh_keeps torn);
      not_emv_brought = refl;
      not_emv_accepted = ap accepted (play_in_lem fresh_session fresh_keeps not_emv);
      not_emv_end = ap (λ (s : Session). s.phase) (final_in_lem fresh_session fresh_keeps not_emv);
    }

-- ---- the published order

-- GPO, 00 B2 01 0C 00, cryptogram
pub order : published_order cryptogram (Some afl) ≡ gpo ∷ record_command_kind record_command ∷ cryptogram ∷ []
unfolding published_order entries_of records_of_entries run_of
order = refl

-- ---- cardholder verification

-- 82 of 10 80; then expiry, PAN, CDOL1 = 95 05 9F34 03 and a list: an online PIN or a signature, where it is supported
abbrev verifying_answer : List ℕ
verifying_answer = 0x80 ∷ 0x06 ∷ 0x10 ∷ 0x80 ∷ 0x08 ∷ 0x01 ∷ 0x01 ∷ 0x00 ∷ 0x90 ∷ 0x00 ∷ []

abbrev rule_record : List ℕ
rule_record =
    0x70 ∷ 0x25 ∷ 0x5F ∷ 0x24 ∷ 0x03 ∷ 0x30 ∷ 0x12 ∷ 0x31 ∷ 0x5A ∷ 0x08 ∷ 0x47 ∷ 0x61 ∷ 0x73 ∷ 0x90 ∷ 0x01 ∷ 0x01 ∷ 0x00
    ∷ 0x10 ∷
    0x8C ∷ 0x05 ∷ 0x95 ∷ 0x05 ∷ 0x9F ∷ 0x34 ∷ 0x03 ∷
    0x8E ∷ 0x0C ∷ 0x00 ∷ 0x00 ∷ 0x00 ∷ 0x00 ∷ 0x00 ∷ 0x00 ∷ 0x00 ∷ 0x00 ∷ 0x42 ∷ 0x03 ∷ 0x5E ∷ 0x03 ∷ 0x90 ∷ 0x00 ∷ []

-- a start, GPO and the record; and then the link fails
abbrev asking : List ℕ → List Call
asking aip = start start_bytes lent ∷ answer aip lent ∷ answer rule_record lent ∷ []

abbrev failing : List ℕ → List Call
failing aip = start start_bytes lent ∷ answer aip lent ∷ answer rule_record lent ∷ link_failed lent ∷ []

-- 8C is filled with the bit of an online PIN and with 9F34. The link fails, and the outcome reports the CVM
verified : map call_result (play_calls fresh_session (failing verifying_answer))
    ≡ CallResult.Command (record { size = 8 }) ∷ CallResult.Command (record { size = 5 }) ∷ CallResult.Command
    (record { size = 14 })
    ∷ CallResult.Outcome (outcome_parameters (ending_of Outcome.Ended 9) 2) ∷ []
unfolding commands_sent play_in final_in calls_accepted outcome_of_nonzero_reason expiry_pan_and_cdol1_non_empty request_gpo
    get_processing_options gpo_command_of_filled dol_data_if_parsed dol_data dol_entries recurse_with_fuel_from_length recurse_with_fuel
    dol_entries_step length_bytes dol_entry_with_length dol_entry_at
    prepend_dol_entry truncated_to_length padding_byte padded_to_length fitted_to_length dol_entry_bytes command_if_data_is1_to255_bytes
    generate_ac next_on_gpo_response read_response_then next_after_gpo_read kth_record_of_accepted_afl kth_record_from_one record_at_index
    accepts_afl afl_length_is_multiple_of4 entries_of valid_entry sum_over_entries records_of_entries run_of
    read_answer response_length_is2_to258 is_status9000 is_body_to_be_read read_body parse_response_body primitive_body_items
    gpo_items_under80 template_body_items parse_tree next_in_template prepend_leaf prepend_node object_count primitive_items
    store_all_items store_next_item store_item row_allows_value_and_absent_or_empty row_allows_value_from_card
    allowed_in_template store_with_tvr store_with_findings row_number_of_tag_or_zero load_start_bytes primitive_objects prepend_object
    primitive_at_front header_of tag_at tag_size tag_size_from_second_byte tag_size_from_third_byte length_at tag_first_byte is_template
    is_private append_big_endian_bytes if both
    either every dictionary_rows row_found_shifted find_row start_may_set_object_in_row set_start_object set_start_objects
    length_and_digits_fit_row digits_match_form is_numeric nibbles is_digits_then_fs is_compressed_numeric is_listed_if_terminal_type
    listed_terminal_type row_offset row_place_bytes value_in_place row_value put_row object_value_in all_required_at_start_present
    is_present_if_required_at_start next_on_record_response next_after_record_read next_after_last_record next_after_records_in_emv_mode
    requested_cryptogram request_cryptogram card_and_kernel_support_on_device_cvm transaction_limit stored_amount_above_limit
    auc_violated_in_store restrictions_tvr_byte2 tvr_before_cvm currencies_present_and_equal cvm_conditions_in cvm_result_in
    tvr_with_cvm
    findings_of action_codes_of choice_for_tvr has_bit_counted_from_zero_at_byte1b8 first_bytes_zero_padded append_decimal_digits
    four_digit_year date_as_number first_date_is_later amount_of first_amount_is_above card_version_present_and_differs not_yet_effective
    is_atm_type_with_cash_capability issuer_country_match cashback_requested auc_violated tvr_with_bits tvr_bit_is_in_either_action_code
    lowest_bit_from_start_within_count lowest_tvr_bit_in_codes iac_or_default some_tvr_bit_in_codes_of_stage online_capability_by_digit
    terminal_action_analysis cvm_rules_from_pairs cvm_recognised cvm_supported cvm_condition_met taken_by cvm_result_of_unsuccessful
    cvm_result_by_rules cvm_processing aip_and_configuration_support_on_device_cvm bytes_equal
verified = ap (map call_result) (play_in_lem fresh_session fresh_keeps (failing verifying_answer))

verified_sent : commands_sent (play_calls fresh_session (asking verifying_answer))
    ≡ gpo_command ∷ record_command
    ∷ (0x80 ∷ 0xAE ∷ 0x80 ∷ 0x00 ∷ 0x08 ∷ 0x80 ∷ 0x00 ∷ 0x04 ∷ 0x00 ∷ 0x00 ∷ 0x42 ∷ 0x03 ∷ 0x00 ∷ 0x00 ∷ []) ∷ []
unfolding commands_sent play_in final_in calls_accepted outcome_of_nonzero_reason expiry_pan_and_cdol1_non_empty request_gpo
    get_processing_options gpo_command_of_filled dol_data_if_parsed dol_data dol_entries recurse_with_fuel_from_length recurse_with_fuel
    dol_entries_step length_bytes dol_entry_with_length dol_entry_at
    prepend_dol_entry truncated_to_length padding_byte padded_to_length fitted_to_length dol_entry_bytes command_if_data_is1_to255_bytes
    generate_ac next_on_gpo_response read_response_then next_after_gpo_read kth_record_of_accepted_afl kth_record_from_one record_at_index
    accepts_afl afl_length_is_multiple_of4 entries_of valid_entry sum_over_entries records_of_entries run_of
    read_answer response_length_is2_to258 is_status9000 is_body_to_be_read read_body parse_response_body primitive_body_items
    gpo_items_under80 template_body_items parse_tree next_in_template prepend_leaf prepend_node object_count primitive_items
    store_all_items store_next_item store_item row_allows_value_and_absent_or_empty row_allows_value_from_card
    allowed_in_template store_with_tvr store_with_findings row_number_of_tag_or_zero load_start_bytes primitive_objects prepend_object
    primitive_at_front header_of tag_at tag_size tag_size_from_second_byte tag_size_from_third_byte length_at tag_first_byte is_template
    is_private append_big_endian_bytes if both
    either every dictionary_rows row_found_shifted find_row start_may_set_object_in_row set_start_object set_start_objects
    length_and_digits_fit_row digits_match_form is_numeric nibbles is_digits_then_fs is_compressed_numeric is_listed_if_terminal_type
    listed_terminal_type row_offset row_place_bytes value_in_place row_value put_row object_value_in all_required_at_start_present
    is_present_if_required_at_start next_on_record_response next_after_record_read next_after_last_record next_after_records_in_emv_mode
    requested_cryptogram request_cryptogram card_and_kernel_support_on_device_cvm transaction_limit stored_amount_above_limit
    auc_violated_in_store restrictions_tvr_byte2 tvr_before_cvm currencies_present_and_equal cvm_conditions_in cvm_result_in
    tvr_with_cvm
    findings_of action_codes_of choice_for_tvr has_bit_counted_from_zero_at_byte1b8 first_bytes_zero_padded append_decimal_digits
    four_digit_year date_as_number first_date_is_later amount_of first_amount_is_above card_version_present_and_differs not_yet_effective
    is_atm_type_with_cash_capability issuer_country_match cashback_requested auc_violated tvr_with_bits tvr_bit_is_in_either_action_code
    lowest_bit_from_start_within_count lowest_tvr_bit_in_codes iac_or_default some_tvr_bit_in_codes_of_stage online_capability_by_digit
    terminal_action_analysis cvm_rules_from_pairs cvm_recognised cvm_supported cvm_condition_met taken_by cvm_result_of_unsuccessful
    cvm_result_by_rules cvm_processing aip_and_configuration_support_on_device_cvm bytes_equal
verified_sent = ap commands_sent (play_in_lem fresh_session fresh_keeps (asking verifying_answer))

-- ---- on-device CVM

-- 82 of 12 80: the limit of on-device CVM is held, the list is not examined, and the outcome reports the
-- confirmation code
abbrev on_device_answer : List ℕ
on_device_answer = 0x80 ∷ 0x06 ∷ 0x12 ∷ 0x80 ∷ 0x08 ∷ 0x01 ∷ 0x01 ∷ 0x00 ∷ 0x90 ∷ 0x00 ∷ []

on_device : map call_result (play_calls fresh_session (failing on_device_answer))
    ≡ CallResult.Command (record { size = 8 }) ∷ CallResult.Command (record { size = 5 }) ∷ CallResult.Command
    (record { size = 14 })
    ∷ CallResult.Outcome (outcome_parameters (ending_of Outcome.Ended 9) 3) ∷ []
unfolding commands_sent play_in final_in calls_accepted outcome_of_nonzero_reason expiry_pan_and_cdol1_non_empty request_gpo
    get_processing_options gpo_command_of_filled dol_data_if_parsed dol_data dol_entries recurse_with_fuel_from_length recurse_with_fuel
    dol_entries_step length_bytes dol_entry_with_length dol_entry_at
    prepend_dol_entry truncated_to_length padding_byte padded_to_length fitted_to_length dol_entry_bytes command_if_data_is1_to255_bytes
    generate_ac next_on_gpo_response read_response_then next_after_gpo_read kth_record_of_accepted_afl kth_record_from_one record_at_index
    accepts_afl afl_length_is_multiple_of4 entries_of valid_entry sum_over_entries records_of_entries run_of
    read_answer response_length_is2_to258 is_status9000 is_body_to_be_read read_body parse_response_body primitive_body_items
    gpo_items_under80 template_body_items parse_tree next_in_template prepend_leaf prepend_node object_count primitive_items
    store_all_items store_next_item store_item row_allows_value_and_absent_or_empty row_allows_value_from_card
    allowed_in_template store_with_tvr store_with_findings row_number_of_tag_or_zero load_start_bytes primitive_objects prepend_object
    primitive_at_front header_of tag_at tag_size tag_size_from_second_byte tag_size_from_third_byte length_at tag_first_byte is_template
    is_private append_big_endian_bytes if both
    either every dictionary_rows row_found_shifted find_row start_may_set_object_in_row set_start_object set_start_objects
    length_and_digits_fit_row digits_match_form is_numeric nibbles is_digits_then_fs is_compressed_numeric is_listed_if_terminal_type
    listed_terminal_type row_offset row_place_bytes value_in_place row_value put_row object_value_in all_required_at_start_present
    is_present_if_required_at_start next_on_record_response next_after_record_read next_after_last_record next_after_records_in_emv_mode
    requested_cryptogram request_cryptogram card_and_kernel_support_on_device_cvm transaction_limit stored_amount_above_limit
    auc_violated_in_store restrictions_tvr_byte2 tvr_before_cvm currencies_present_and_equal cvm_conditions_in cvm_result_in
    tvr_with_cvm
    findings_of action_codes_of choice_for_tvr has_bit_counted_from_zero_at_byte1b8 first_bytes_zero_padded append_decimal_digits
    four_digit_year date_as_number first_date_is_later amount_of first_amount_is_above card_version_present_and_differs not_yet_effective
    is_atm_type_with_cash_capability issuer_country_match cashback_requested auc_violated tvr_with_bits tvr_bit_is_in_either_action_code
    lowest_bit_from_start_within_count lowest_tvr_bit_in_codes iac_or_default some_tvr_bit_in_codes_of_stage online_capability_by_digit
    terminal_action_analysis cvm_rules_from_pairs cvm_recognised cvm_supported cvm_condition_met taken_by cvm_result_of_unsuccessful
    cvm_result_by_rules cvm_processing aip_and_configuration_support_on_device_cvm on_device_cvm_result_by_above_limit bytes_equal
on_device = ap (map call_result) (play_in_lem fresh_session fresh_keeps (failing on_device_answer))

on_device_held : (final_session fresh_session (asking on_device_answer)).phase
    ≡ Phase.Waiting
    (AwaitedResponse.Cryptogram (record { choice = Choice.Online; cvm = Cvm.ConfirmationCode; limit = 50000 }))
unfolding commands_sent play_in final_in calls_accepted outcome_of_nonzero_reason expiry_pan_and_cdol1_non_empty request_gpo
    get_processing_options gpo_command_of_filled dol_data_if_parsed dol_data dol_entries recurse_with_fuel_from_length recurse_with_fuel
    dol_entries_step length_bytes dol_entry_with_length dol_entry_at
    prepend_dol_entry truncated_to_length padding_byte padded_to_length fitted_to_length dol_entry_bytes command_if_data_is1_to255_bytes
    generate_ac next_on_gpo_response read_response_then next_after_gpo_read kth_record_of_accepted_afl kth_record_from_one record_at_index
    accepts_afl afl_length_is_multiple_of4 entries_of valid_entry sum_over_entries records_of_entries run_of
    read_answer response_length_is2_to258 is_status9000 is_body_to_be_read read_body parse_response_body primitive_body_items
    gpo_items_under80 template_body_items parse_tree next_in_template prepend_leaf prepend_node object_count primitive_items
    store_all_items store_next_item store_item row_allows_value_and_absent_or_empty row_allows_value_from_card
    allowed_in_template store_with_tvr store_with_findings row_number_of_tag_or_zero load_start_bytes primitive_objects prepend_object
    primitive_at_front header_of tag_at tag_size tag_size_from_second_byte tag_size_from_third_byte length_at tag_first_byte is_template
    is_private append_big_endian_bytes if both
    either every dictionary_rows row_found_shifted find_row start_may_set_object_in_row set_start_object set_start_objects
    length_and_digits_fit_row digits_match_form is_numeric nibbles is_digits_then_fs is_compressed_numeric is_listed_if_terminal_type
    listed_terminal_type row_offset row_place_bytes value_in_place row_value put_row object_value_in all_required_at_start_present
    is_present_if_required_at_start next_on_record_response next_after_record_read next_after_last_record next_after_records_in_emv_mode
    requested_cryptogram request_cryptogram card_and_kernel_support_on_device_cvm transaction_limit stored_amount_above_limit
    auc_violated_in_store restrictions_tvr_byte2 tvr_before_cvm currencies_present_and_equal cvm_conditions_in cvm_result_in
    tvr_with_cvm
    findings_of action_codes_of choice_for_tvr has_bit_counted_from_zero_at_byte1b8 first_bytes_zero_padded append_decimal_digits
    four_digit_year date_as_number first_date_is_later amount_of first_amount_is_above card_version_present_and_differs not_yet_effective
    is_atm_type_with_cash_capability issuer_country_match cashback_requested auc_violated tvr_with_bits tvr_bit_is_in_either_action_code
    lowest_bit_from_start_within_count lowest_tvr_bit_in_codes iac_or_default some_tvr_bit_in_codes_of_stage online_capability_by_digit
    terminal_action_analysis cvm_rules_from_pairs cvm_recognised cvm_supported cvm_condition_met taken_by cvm_result_of_unsuccessful
    cvm_result_by_rules cvm_processing aip_and_configuration_support_on_device_cvm on_device_cvm_result_by_above_limit bytes_equal
on_device_held = ap (λ (s : Session). s.phase) (final_in_lem fresh_session fresh_keeps (asking on_device_answer))

on_device_sent : commands_sent (play_calls fresh_session (asking on_device_answer))
    ≡ gpo_command ∷ record_command
    ∷ (0x80 ∷ 0xAE ∷ 0x80 ∷ 0x00 ∷ 0x08 ∷ 0x80 ∷ 0x00 ∷ 0x00 ∷ 0x00 ∷ 0x00 ∷ 0x01 ∷ 0x00 ∷ 0x02 ∷ 0x00 ∷ []) ∷ []
unfolding commands_sent play_in final_in calls_accepted outcome_of_nonzero_reason expiry_pan_and_cdol1_non_empty request_gpo
    get_processing_options gpo_command_of_filled dol_data_if_parsed dol_data dol_entries recurse_with_fuel_from_length recurse_with_fuel
    dol_entries_step length_bytes dol_entry_with_length dol_entry_at
    prepend_dol_entry truncated_to_length padding_byte padded_to_length fitted_to_length dol_entry_bytes command_if_data_is1_to255_bytes
    generate_ac next_on_gpo_response read_response_then next_after_gpo_read kth_record_of_accepted_afl kth_record_from_one record_at_index
    accepts_afl afl_length_is_multiple_of4 entries_of valid_entry sum_over_entries records_of_entries run_of
    read_answer response_length_is2_to258 is_status9000 is_body_to_be_read read_body parse_response_body primitive_body_items
    gpo_items_under80 template_body_items parse_tree next_in_template prepend_leaf prepend_node object_count primitive_items
    store_all_items store_next_item store_item row_allows_value_and_absent_or_empty row_allows_value_from_card
    allowed_in_template store_with_tvr store_with_findings row_number_of_tag_or_zero load_start_bytes primitive_objects prepend_object
    primitive_at_front header_of tag_at tag_size tag_size_from_second_byte tag_size_from_third_byte length_at tag_first_byte is_template
    is_private append_big_endian_bytes if both
    either every dictionary_rows row_found_shifted find_row start_may_set_object_in_row set_start_object set_start_objects
    length_and_digits_fit_row digits_match_form is_numeric nibbles is_digits_then_fs is_compressed_numeric is_listed_if_terminal_type
    listed_terminal_type row_offset row_place_bytes value_in_place row_value put_row object_value_in all_required_at_start_present
    is_present_if_required_at_start next_on_record_response next_after_record_read next_after_last_record next_after_records_in_emv_mode
    requested_cryptogram request_cryptogram card_and_kernel_support_on_device_cvm transaction_limit stored_amount_above_limit
    auc_violated_in_store restrictions_tvr_byte2 tvr_before_cvm currencies_present_and_equal cvm_conditions_in cvm_result_in
    tvr_with_cvm
    findings_of action_codes_of choice_for_tvr has_bit_counted_from_zero_at_byte1b8 first_bytes_zero_padded append_decimal_digits
    four_digit_year date_as_number first_date_is_later amount_of first_amount_is_above card_version_present_and_differs not_yet_effective
    is_atm_type_with_cash_capability issuer_country_match cashback_requested auc_violated tvr_with_bits tvr_bit_is_in_either_action_code
    lowest_bit_from_start_within_count lowest_tvr_bit_in_codes iac_or_default some_tvr_bit_in_codes_of_stage online_capability_by_digit
    terminal_action_analysis cvm_rules_from_pairs cvm_recognised cvm_supported cvm_condition_met taken_by cvm_result_of_unsuccessful
    cvm_result_by_rules cvm_processing aip_and_configuration_support_on_device_cvm on_device_cvm_result_by_above_limit bytes_equal
on_device_sent = ap commands_sent (play_in_lem fresh_session fresh_keeps (asking on_device_answer))

-- ---- mag-stripe mode

-- 82 of 00 00; then track 2 with its bitmaps and the counter's digits; then the counter and the code
abbrev track_record : List ℕ
track_record =
    0x70 ∷ 0x24 ∷ 0x9F ∷ 0x6B ∷ 0x13 ∷ 0x54 ∷ 0x13 ∷ 0x12 ∷ 0x34 ∷ 0x56 ∷ 0x78 ∷ 0x48 ∷ 0x00 ∷ 0xD2 ∷ 0x51 ∷ 0x21 ∷ 0x01
    ∷ 0x00 ∷ 0x00 ∷ 0x00 ∷ 0x00 ∷ 0x00 ∷ 0x00 ∷ 0x0F ∷
    0x9F ∷ 0x65 ∷ 0x02 ∷ 0x00 ∷ 0x0E ∷ 0x9F ∷ 0x66 ∷ 0x02 ∷ 0x0F ∷ 0xF0 ∷ 0x9F ∷ 0x67 ∷ 0x01 ∷ 0x04 ∷ 0x90 ∷ 0x00 ∷ []

abbrev checksum_answer : List ℕ
checksum_answer = 0x77 ∷ 0x0A ∷ 0x9F ∷ 0x36 ∷ 0x02 ∷ 0x00 ∷ 0x2A ∷ 0x9F ∷ 0x61 ∷ 0x02 ∷ 0x1F ∷ 0x35 ∷ 0x90 ∷ 0x00 ∷ []

abbrev begun_mag_stripe : List Call
begun_mag_stripe = start start_bytes lent ∷ answer mag_stripe_answer lent ∷ answer track_record lent ∷ []

abbrev striped : List Call
striped = start start_bytes lent ∷ answer mag_stripe_answer lent ∷ answer track_record lent ∷ answer checksum_answer lent
    ∷ []

-- the outcome is an online request, and reports no CVM
striped_said : map call_result (play_calls fresh_session striped)
    ≡ CallResult.Command (record { size = 8 }) ∷ CallResult.Command (record { size = 5 }) ∷ CallResult.Command
    (record { size = 10 })
    ∷ CallResult.Outcome (outcome_parameters (ending_of Outcome.OnlineRequest 0) 15) ∷ []
unfolding commands_sent play_in final_in calls_accepted outcome_of_nonzero_reason expiry_pan_and_cdol1_non_empty request_gpo
    get_processing_options gpo_command_of_filled dol_data_if_parsed dol_data dol_entries recurse_with_fuel_from_length recurse_with_fuel
    dol_entries_step length_bytes dol_entry_with_length dol_entry_at
    prepend_dol_entry truncated_to_length padding_byte padded_to_length fitted_to_length dol_entry_bytes command_if_data_is1_to255_bytes
    generate_ac next_on_gpo_response read_response_then next_after_gpo_read kth_record_of_accepted_afl kth_record_from_one record_at_index
    accepts_afl afl_length_is_multiple_of4 entries_of valid_entry sum_over_entries records_of_entries run_of
    read_answer response_length_is2_to258 is_status9000 is_body_to_be_read read_body parse_response_body primitive_body_items
    gpo_items_under80 template_body_items parse_tree next_in_template prepend_leaf prepend_node object_count primitive_items
    store_all_items store_next_item store_item row_allows_value_and_absent_or_empty row_allows_value_from_card
    allowed_in_template store_with_tvr store_with_findings row_number_of_tag_or_zero load_start_bytes primitive_objects prepend_object
    primitive_at_front header_of tag_at tag_size tag_size_from_second_byte tag_size_from_third_byte length_at tag_first_byte is_template
    is_private append_big_endian_bytes if both
    either every dictionary_rows row_found_shifted find_row start_may_set_object_in_row set_start_object set_start_objects
    length_and_digits_fit_row digits_match_form is_numeric nibbles is_digits_then_fs is_compressed_numeric is_listed_if_terminal_type
    listed_terminal_type row_offset row_place_bytes value_in_place row_value put_row object_value_in all_required_at_start_present
    is_present_if_required_at_start next_on_record_response next_after_record_read next_after_last_record next_after_records_in_emv_mode
    requested_cryptogram request_cryptogram card_and_kernel_support_on_device_cvm transaction_limit stored_amount_above_limit
    auc_violated_in_store restrictions_tvr_byte2 tvr_before_cvm currencies_present_and_equal cvm_conditions_in cvm_result_in
    tvr_with_cvm
    findings_of action_codes_of choice_for_tvr has_bit_counted_from_zero_at_byte1b8 first_bytes_zero_padded append_decimal_digits
    four_digit_year date_as_number first_date_is_later amount_of first_amount_is_above card_version_present_and_differs not_yet_effective
    is_atm_type_with_cash_capability issuer_country_match cashback_requested auc_violated tvr_with_bits tvr_bit_is_in_either_action_code
    lowest_bit_from_start_within_count lowest_tvr_bit_in_codes iac_or_default some_tvr_bit_in_codes_of_stage online_capability_by_digit
    terminal_action_analysis cvm_rules_from_pairs cvm_recognised cvm_supported cvm_condition_met taken_by cvm_result_of_unsuccessful
    cvm_result_by_rules cvm_processing aip_and_configuration_support_on_device_cvm bytes_equal track2_and_bitmaps_non_empty
    udol_or_default compute_cryptographic_checksum request_checksum next_after_records_in_mag_stripe_mode next_after_checksum_read
    next_if_track_takes_digits next_on_checksum_response nibbles_before discretionary_data_in_nibbles bitmap_places_counted_from
    bitmap_places_from_one bitmap_within track_can_take_digits
striped_said = ap (map call_result) (play_in_lem fresh_session fresh_keeps striped)

-- the list is the default one: 9F6A in four bytes
striped_sent : commands_sent (play_calls fresh_session begun_mag_stripe)
    ≡ gpo_command ∷ record_command ∷ (0x80 ∷ 0x2A ∷ 0x8E ∷ 0x80 ∷ 0x04 ∷ 0x00 ∷ 0x00 ∷ 0x34 ∷ 0x56 ∷ 0x00 ∷ []) ∷ []
unfolding commands_sent play_in final_in calls_accepted outcome_of_nonzero_reason expiry_pan_and_cdol1_non_empty request_gpo
    get_processing_options gpo_command_of_filled dol_data_if_parsed dol_data dol_entries recurse_with_fuel_from_length recurse_with_fuel
    dol_entries_step length_bytes dol_entry_with_length dol_entry_at
    prepend_dol_entry truncated_to_length padding_byte padded_to_length fitted_to_length dol_entry_bytes command_if_data_is1_to255_bytes
    generate_ac next_on_gpo_response read_response_then next_after_gpo_read kth_record_of_accepted_afl kth_record_from_one record_at_index
    accepts_afl afl_length_is_multiple_of4 entries_of valid_entry sum_over_entries records_of_entries run_of
    read_answer response_length_is2_to258 is_status9000 is_body_to_be_read read_body parse_response_body primitive_body_items
    gpo_items_under80 template_body_items parse_tree next_in_template prepend_leaf prepend_node object_count primitive_items
    store_all_items store_next_item store_item row_allows_value_and_absent_or_empty row_allows_value_from_card
    allowed_in_template store_with_tvr store_with_findings row_number_of_tag_or_zero load_start_bytes primitive_objects prepend_object
    primitive_at_front header_of tag_at tag_size tag_size_from_second_byte tag_size_from_third_byte length_at tag_first_byte is_template
    is_private append_big_endian_bytes if both
    either every dictionary_rows row_found_shifted find_row start_may_set_object_in_row set_start_object set_start_objects
    length_and_digits_fit_row digits_match_form is_numeric nibbles is_digits_then_fs is_compressed_numeric is_listed_if_terminal_type
    listed_terminal_type row_offset row_place_bytes value_in_place row_value put_row object_value_in all_required_at_start_present
    is_present_if_required_at_start next_on_record_response next_after_record_read next_after_last_record next_after_records_in_emv_mode
    requested_cryptogram request_cryptogram card_and_kernel_support_on_device_cvm transaction_limit stored_amount_above_limit
    auc_violated_in_store restrictions_tvr_byte2 tvr_before_cvm currencies_present_and_equal cvm_conditions_in cvm_result_in
    tvr_with_cvm
    findings_of action_codes_of choice_for_tvr has_bit_counted_from_zero_at_byte1b8 first_bytes_zero_padded append_decimal_digits
    four_digit_year date_as_number first_date_is_later amount_of first_amount_is_above card_version_present_and_differs not_yet_effective
    is_atm_type_with_cash_capability issuer_country_match cashback_requested auc_violated tvr_with_bits tvr_bit_is_in_either_action_code
    lowest_bit_from_start_within_count lowest_tvr_bit_in_codes iac_or_default some_tvr_bit_in_codes_of_stage online_capability_by_digit
    terminal_action_analysis cvm_rules_from_pairs cvm_recognised cvm_supported cvm_condition_met taken_by cvm_result_of_unsuccessful
    cvm_result_by_rules cvm_processing aip_and_configuration_support_on_device_cvm bytes_equal track2_and_bitmaps_non_empty
    udol_or_default compute_cryptographic_checksum request_checksum next_after_records_in_mag_stripe_mode
striped_sent = ap commands_sent (play_in_lem fresh_session fresh_keeps begun_mag_stripe)

-- the published order's last command by the bytes of the first answer, under 80 and in a 77
last_commands : map (λ a. final_command_kind_for_aip (aip_in_gpo_response a))
    (gpo_answer ∷ mag_stripe_answer
    ∷ (0x77 ∷ 0x0A ∷ 0x82 ∷ 0x02 ∷ 0x00 ∷ 0x7F ∷ 0x94 ∷ 0x04 ∷ 0x08 ∷ 0x01 ∷ 0x01 ∷ 0x00 ∷ 0x90 ∷ 0x00 ∷ []) ∷ [])
    ≡ cryptogram ∷ checksum ∷ checksum ∷ []
unfolding final_command_kind_for_aip aip_in_gpo_response first_non_empty_value_directly_inside77 parse_response_body header_of tag_at
    tag_size length_at tag_first_byte is_template append_big_endian_bytes primitive_items parse_tree next_in_template prepend_leaf
    prepend_node recurse_with_fuel_from_length recurse_with_fuel if both
last_commands = refl
