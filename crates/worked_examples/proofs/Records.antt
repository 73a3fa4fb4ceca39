-- Answers to the last READ RECORD, computed. Assumes nothing.
use mathlib.Core.Path.{refl}
use Rattle.basics.specs.Recursion.{recurse_with_fuel_from_length, recurse_with_fuel}
use Rattle.basics.specs.Choice.{if, both, either, every}
use Rattle.basics.specs.Number.{append_big_endian_bytes, nibbles}
use Rattle.basics.specs.Alike.{bytes_equal}
use Rattle.tlv.specs.Tag.{tag_size, tag_size_from_second_byte, tag_size_from_third_byte, tag_at, tag_first_byte, is_template}
use Rattle.tlv.specs.Tag.{is_private}
use Rattle.tlv.specs.Length.{length_after81, length_after82, length_at}
use Rattle.tlv.specs.Object.{header_of}
use Rattle.tlv.specs.Tree.{object_count, next_in_template, prepend_leaf, prepend_node, parse_tree}
use Rattle.tlv.specs.Encoding.{tag_bytes, length_bytes}
use Rattle.dictionary.specs.Rows.{dictionary_rows, row_found_shifted, find_row}
use Rattle.dictionary.specs.Named.{row_number_of_tag_or_zero}
use Rattle.dictionary.specs.Form.{is_numeric, is_digits_then_fs, is_compressed_numeric, digits_match_form}
use Rattle.dictionary.specs.Form.{length_and_digits_fit_row}
use Rattle.store.specs.Place.{row_offset, row_place_bytes, value_in_place, row_value, put_row, object_value_in}
use Rattle.afl.specs.Entry.{valid_entry}
use Rattle.afl.specs.Records.{afl_entries, afl_length_is_multiple_of4, consecutive_records, records_of_entries, sum_over_entries}
use Rattle.afl.specs.Records.{accepts_afl, record_at_index, kth_record_from_one, kth_record_of_accepted_afl}
use Rattle.reading.specs.Taking.{allowed_in_template, row_allows_value_from_card, row_allows_value_and_absent_or_empty, store_item}
use Rattle.reading.specs.Taking.{store_next_item, store_all_items, primitive_items}
use Rattle.reading.specs.Answer.{parse_response_body, gpo_items_under80, iad_item_if_any, cryptogram_items_under80}
use Rattle.reading.specs.Answer.{primitive_body_items, template_body_items, read_body, is_body_to_be_read, is_status9000}
use Rattle.reading.specs.Answer.{response_length_is2_to258, read_answer}
use Rattle.dol.specs.Entries.{dol_entry_with_length, dol_entry_at, prepend_dol_entry, dol_entries_step, dol_entries}
use Rattle.dol.specs.Filling.{truncated_to_length, padding_byte, padded_to_length, fitted_to_length, dol_entry_bytes, dol_data}
use Rattle.dol.specs.Filling.{dol_data_if_parsed}
use Rattle.command.specs.WithList.{gpo_command_of_filled, get_processing_options, command_if_data_is1_to255_bytes, generate_ac}
use Rattle.command.specs.WithList.{udol_or_default, compute_cryptographic_checksum}
use Rattle.analysis.specs.Bits.{has_bit_counted_from_zero_at_byte1b8}
use Rattle.analysis.specs.Value.{first_bytes_zero_padded}
use Rattle.analysis.specs.Digits.{append_decimal_digits, four_digit_year, date_as_number, first_date_is_later, amount_of}
use Rattle.analysis.specs.Digits.{first_amount_is_above}
use Rattle.analysis.specs.Restrictions.{card_version_present_and_differs, not_yet_effective, is_atm_type_with_cash_capability}
use Rattle.analysis.specs.Restrictions.{issuer_country_match, cashback_requested, auc_violated}
use Rattle.analysis.specs.Tvr.{tvr_with_bits}
use Rattle.analysis.specs.Choice.{tvr_bit_is_in_either_action_code, lowest_bit_from_start_within_count, lowest_tvr_bit_in_codes, iac_or_default}
use Rattle.analysis.specs.Choice.{some_tvr_bit_in_codes_of_stage, online_capability_by_digit, terminal_action_analysis}
use Rattle.analysis.specs.Cvm.{cvm_processing, aip_and_configuration_support_on_device_cvm}
use Rattle.analysis.specs.Action.{card_and_kernel_support_on_device_cvm, transaction_limit, stored_amount_above_limit}
use Rattle.analysis.specs.Action.{auc_violated_in_store, restrictions_tvr_byte2, tvr_before_cvm, currencies_present_and_equal}
use Rattle.analysis.specs.Action.{cvm_conditions_in, cvm_result_in, tvr_with_cvm, findings_of, action_codes_of, choice_for_tvr}
use Rattle.session_record.specs.Numbers.{outcome_of_nonzero_reason}
use Rattle.session_record.specs.Ranges.{is_present_if_required_at_start, all_required_at_start_present}
use Rattle.session_record.specs.Ranges.{expiry_pan_and_cdol1_non_empty, track2_and_bitmaps_non_empty}
use Rattle.session.specs.Steps.{read_response_then, store_with_tvr, store_with_findings}
use Rattle.session.specs.MagStripe.{request_checksum, next_after_records_in_mag_stripe_mode, store_with_track_digits}
use Rattle.session.specs.MagStripe.{next_after_checksum_read, next_if_track_takes_digits, next_on_checksum_response}
use Rattle.session.specs.Answer.{next_after_gpo_read, next_on_gpo_response, next_on_record_response, next_after_record_read}
use Rattle.session.specs.Answer.{next_after_last_record, next_after_records_in_emv_mode, requested_cryptogram, request_cryptogram}
use Rattle.session.specs.Answer.{outcome_for_cryptogram_type, cryptogram_ending, next_on_cryptogram_response}
use Rattle.worked_examples.specs.Sessions.{bcd_units_below_limit, bcd_units_over_limit, emv_aip, mag_stripe_aip}
use Rattle.worked_examples.specs.Sessions.{waits_on_only_record}
use Rattle.worked_examples.specs.Records.{RecordExamples, MagStripeExamples}
use Rattle.worked_examples.proofs.Laws.{each_in, says_in, order_in, before_in}
use Rattle.worked_examples.proofs.Ranges.{kept}

pub on_last_record : RecordExamples
unfolding recurse_with_fuel_from_length recurse_with_fuel if both either every append_big_endian_bytes nibbles bytes_equal tag_size
    tag_size_from_second_byte tag_size_from_third_byte tag_at tag_first_byte is_template is_private length_after81 length_after82
    length_at
    header_of object_count next_in_template prepend_leaf prepend_node parse_tree tag_bytes length_bytes dictionary_rows
    row_found_shifted find_row row_number_of_tag_or_zero is_numeric is_digits_then_fs is_compressed_numeric digits_match_form
    length_and_digits_fit_row row_offset row_place_bytes
    value_in_place row_value put_row object_value_in valid_entry afl_entries afl_length_is_multiple_of4 consecutive_records
    records_of_entries sum_over_entries accepts_afl record_at_index kth_record_from_one kth_record_of_accepted_afl allowed_in_template
    row_allows_value_from_card row_allows_value_and_absent_or_empty store_item store_next_item store_all_items primitive_items
    parse_response_body gpo_items_under80 iad_item_if_any cryptogram_items_under80 primitive_body_items template_body_items read_body
    is_body_to_be_read is_status9000 response_length_is2_to258
    read_answer dol_entry_with_length dol_entry_at prepend_dol_entry dol_entries_step dol_entries truncated_to_length padding_byte
    padded_to_length fitted_to_length dol_entry_bytes dol_data dol_data_if_parsed gpo_command_of_filled get_processing_options
    command_if_data_is1_to255_bytes
    generate_ac udol_or_default compute_cryptographic_checksum has_bit_counted_from_zero_at_byte1b8 first_bytes_zero_padded
    append_decimal_digits four_digit_year date_as_number first_date_is_later amount_of first_amount_is_above
    card_version_present_and_differs not_yet_effective is_atm_type_with_cash_capability issuer_country_match
    cashback_requested auc_violated tvr_with_bits tvr_bit_is_in_either_action_code lowest_bit_from_start_within_count lowest_tvr_bit_in_codes iac_or_default
    some_tvr_bit_in_codes_of_stage online_capability_by_digit terminal_action_analysis cvm_processing
    aip_and_configuration_support_on_device_cvm card_and_kernel_support_on_device_cvm transaction_limit
    stored_amount_above_limit auc_violated_in_store restrictions_tvr_byte2 tvr_before_cvm currencies_present_and_equal
    cvm_conditions_in cvm_result_in tvr_with_cvm findings_of action_codes_of choice_for_tvr outcome_of_nonzero_reason
    is_present_if_required_at_start
    all_required_at_start_present expiry_pan_and_cdol1_non_empty track2_and_bitmaps_non_empty store_with_tvr store_with_findings
    request_checksum next_after_records_in_mag_stripe_mode store_with_track_digits next_after_checksum_read next_if_track_takes_digits
    next_on_checksum_response next_after_gpo_read next_on_gpo_response read_response_then
    next_on_record_response next_after_record_read next_after_last_record next_after_records_in_emv_mode requested_cryptogram
    request_cryptogram outcome_for_cryptogram_type cryptogram_ending next_on_cryptogram_response
on_last_record = record {
  reading = order_in (waits_on_only_record emv_aip bcd_units_below_limit) kept.emv_within _ _ _ refl refl refl refl refl
      refl refl refl;
  limit = before_in (waits_on_only_record emv_aip bcd_units_over_limit) kept.emv_above _ _ _ refl refl refl refl refl;
  missing = before_in (waits_on_only_record emv_aip bcd_units_below_limit) kept.emv_within _ _ _ refl refl refl refl refl;
  list = before_in (waits_on_only_record emv_aip bcd_units_below_limit) kept.emv_within _ _ _ refl refl refl refl refl;
  last = record {
    objects_limit = says_in (waits_on_only_record emv_aip bcd_units_over_limit) kept.emv_above _ refl;
    objects_missing = says_in (waits_on_only_record emv_aip bcd_units_below_limit) kept.emv_within _ refl;
    objects_list = says_in (waits_on_only_record emv_aip bcd_units_below_limit) kept.emv_within _ refl;
    limit_missing = says_in (waits_on_only_record emv_aip bcd_units_over_limit) kept.emv_above _ refl;
    limit_list = says_in (waits_on_only_record emv_aip bcd_units_over_limit) kept.emv_above _ refl;
    missing_list = says_in (waits_on_only_record emv_aip bcd_units_below_limit) kept.emv_within _ refl;
    limit_alone = says_in (waits_on_only_record emv_aip bcd_units_over_limit) kept.emv_above _ refl;
  };
  alone = each_in (waits_on_only_record emv_aip bcd_units_below_limit) kept.emv_within _ refl;
}

pub on_last_mag_stripe : MagStripeExamples
unfolding recurse_with_fuel_from_length recurse_with_fuel if both either every append_big_endian_bytes nibbles bytes_equal tag_size
    tag_size_from_second_byte tag_size_from_third_byte tag_at tag_first_byte is_template is_private length_after81 length_after82
    length_at
    header_of object_count next_in_template prepend_leaf prepend_node parse_tree tag_bytes length_bytes dictionary_rows
    row_found_shifted find_row row_number_of_tag_or_zero is_numeric is_digits_then_fs is_compressed_numeric digits_match_form
    length_and_digits_fit_row row_offset row_place_bytes
    value_in_place row_value put_row object_value_in valid_entry afl_entries afl_length_is_multiple_of4 consecutive_records
    records_of_entries sum_over_entries accepts_afl record_at_index kth_record_from_one kth_record_of_accepted_afl allowed_in_template
    row_allows_value_from_card row_allows_value_and_absent_or_empty store_item store_next_item store_all_items primitive_items
    parse_response_body gpo_items_under80 iad_item_if_any cryptogram_items_under80 primitive_body_items template_body_items read_body
    is_body_to_be_read is_status9000 response_length_is2_to258
    read_answer dol_entry_with_length dol_entry_at prepend_dol_entry dol_entries_step dol_entries truncated_to_length padding_byte
    padded_to_length fitted_to_length dol_entry_bytes dol_data dol_data_if_parsed gpo_command_of_filled get_processing_options
    command_if_data_is1_to255_bytes
    generate_ac udol_or_default compute_cryptographic_checksum has_bit_counted_from_zero_at_byte1b8 first_bytes_zero_padded
    append_decimal_digits four_digit_year date_as_number first_date_is_later amount_of first_amount_is_above
    card_version_present_and_differs not_yet_effective is_atm_type_with_cash_capability issuer_country_match
    cashback_requested auc_violated tvr_with_bits tvr_bit_is_in_either_action_code lowest_bit_from_start_within_count lowest_tvr_bit_in_codes iac_or_default
    some_tvr_bit_in_codes_of_stage online_capability_by_digit terminal_action_analysis cvm_processing
    aip_and_configuration_support_on_device_cvm card_and_kernel_support_on_device_cvm transaction_limit
    stored_amount_above_limit auc_violated_in_store restrictions_tvr_byte2 tvr_before_cvm currencies_present_and_equal
    cvm_conditions_in cvm_result_in tvr_with_cvm findings_of action_codes_of choice_for_tvr outcome_of_nonzero_reason
    is_present_if_required_at_start
    all_required_at_start_present expiry_pan_and_cdol1_non_empty track2_and_bitmaps_non_empty store_with_tvr store_with_findings
    request_checksum next_after_records_in_mag_stripe_mode store_with_track_digits next_after_checksum_read next_if_track_takes_digits
    next_on_checksum_response next_after_gpo_read next_on_gpo_response read_response_then
    next_on_record_response next_after_record_read next_after_last_record next_after_records_in_emv_mode requested_cryptogram
    request_cryptogram outcome_for_cryptogram_type cryptogram_ending next_on_cryptogram_response
on_last_mag_stripe = record {
  last = record {
    objects_limit = says_in (waits_on_only_record mag_stripe_aip bcd_units_over_limit) kept.mag_stripe_above _ refl;
    objects_missing = says_in (waits_on_only_record mag_stripe_aip bcd_units_below_limit) kept.mag_stripe_within _ refl;
    objects_list = says_in (waits_on_only_record mag_stripe_aip bcd_units_below_limit) kept.mag_stripe_within _ refl;
    limit_missing = says_in (waits_on_only_record mag_stripe_aip bcd_units_over_limit) kept.mag_stripe_above _ refl;
    limit_list = says_in (waits_on_only_record mag_stripe_aip bcd_units_over_limit) kept.mag_stripe_above _ refl;
    missing_list = says_in (waits_on_only_record mag_stripe_aip bcd_units_below_limit) kept.mag_stripe_within _ refl;
    limit_alone = says_in (waits_on_only_record mag_stripe_aip bcd_units_over_limit) kept.mag_stripe_above _ refl;
  };
  alone = each_in (waits_on_only_record mag_stripe_aip bcd_units_below_limit) kept.mag_stripe_within _ refl;
}
