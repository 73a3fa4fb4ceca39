-- The words of the calls in C, computed; a session in bytes is read back by law, and its answer is the step of its
-- phase by the laws of worked_examples. Assumes nothing.
use Rattle.std.specs.Prelude.{Option}
use mathlib.Core.Path.{◌≡◌, refl, ap, ◌∙◌}
use mathlib.Core.List.{List, [], ◌∷◌}
use Prim.Native.Nat.{ℕ}
use lib.ListN.{length}
use Rattle.basics.specs.Recursion.{recurse_with_fuel_from_length, recurse_with_fuel}
use Rattle.basics.specs.Choice.{if, both, either, every}
use Rattle.basics.specs.Number.{append_big_endian_bytes, nibbles}
use Rattle.tlv.specs.Tag.{tag_size, tag_size_from_second_byte, tag_size_from_third_byte, tag_at, tag_first_byte, is_template}
use Rattle.tlv.specs.Tag.{is_private}
use Rattle.tlv.specs.Length.{length_after81, length_after82, length_at}
use Rattle.tlv.specs.Object.{header_of}
use Rattle.tlv.specs.Tree.{object_count, next_in_template, prepend_leaf, prepend_node, parse_tree}
use Rattle.tlv.specs.Encoding.{tag_bytes, length_bytes}
use Rattle.dictionary.specs.Rows.{dictionary_rows, row_found_shifted, find_row, store_size}
use Rattle.dictionary.specs.Named.{row_number_of_tag_or_zero}
use Rattle.dictionary.specs.Form.{is_numeric, is_digits_then_fs, is_compressed_numeric, digits_match_form}
use Rattle.dictionary.specs.Form.{length_and_digits_fit_row}
use Rattle.store.specs.Place.{row_offset, row_place_bytes, value_in_place, row_value, put_row, object_value_in}
use Rattle.afl.specs.Entry.{valid_entry}
use Rattle.afl.specs.Records.{afl_entries, afl_length_is_multiple_of4, consecutive_records, records_of_entries, sum_over_entries}
use Rattle.afl.specs.Records.{accepts_afl, record_at_index, kth_record_from_one, kth_record_of_accepted_afl}
use Rattle.reading.specs.Taking.{allowed_in_template, row_allows_value_from_card, row_allows_value_and_absent_or_empty, store_item}
use Rattle.reading.specs.Taking.{store_next_item, store_all_items, primitive_items}
use Rattle.reading.specs.Answer.{parse_response_body, gpo_items_under80, iad_item_if_any, cryptogram_items_under80}
use Rattle.reading.specs.Answer.{primitive_body_items, template_body_items, read_body, is_body_to_be_read, is_status9000}
use Rattle.reading.specs.Answer.{response_length_is2_to258, read_answer}
use Rattle.analysis.specs.Value.{first_bytes_zero_padded}
use Rattle.analysis.specs.Digits.{append_decimal_digits, four_digit_year, date_as_number, first_date_is_later, amount_of}
use Rattle.analysis.specs.Digits.{first_amount_is_above}
use Rattle.analysis.specs.Cvm.{cvm_processing, aip_and_configuration_support_on_device_cvm}
use Rattle.analysis.specs.Action.{card_and_kernel_support_on_device_cvm, transaction_limit, stored_amount_above_limit}
use Rattle.analysis.specs.Action.{auc_violated_in_store, restrictions_tvr_byte2, tvr_before_cvm, currencies_present_and_equal}
use Rattle.analysis.specs.Action.{cvm_conditions_in, cvm_result_in, tvr_with_cvm, findings_of, action_codes_of, choice_for_tvr}
use Rattle.session_record.specs.Numbers.{outcome_of_nonzero_reason}
use Rattle.session_record.specs.Ranges.{is_present_if_required_at_start, all_required_at_start_present}
use Rattle.session_record.specs.Ranges.{expiry_pan_and_cdol1_non_empty, track2_and_bitmaps_non_empty}
use Rattle.session.specs.Steps.{read_response_then, store_with_tvr, store_with_findings}
use Rattle.session.specs.Answer.{answer_step, next_after_gpo_read, next_on_gpo_response, next_on_record_response}
use Rattle.session.specs.Answer.{next_after_record_read, next_after_last_record, next_after_records_in_emv_mode}
use Rattle.session.specs.Answer.{requested_cryptogram, request_cryptogram, outcome_for_cryptogram_type, cryptogram_ending}
use Rattle.session.specs.Answer.{next_on_cryptogram_response}
use Rattle.session_record.specs.declared.CallResult.{CallResult}
use Rattle.session_record.specs.declared.Session.{Session}
use Rattle.session_record.specs.Session.{fresh_session, store_bytes}
use Rattle.session_record.proofs.Phases.{fresh_keeps}
use Rattle.layout.specs.Layout.{has_at_least_record_length_and_canonical_head, decoded_session}
use Rattle.layout.specs.Word.{command_word, result_word}
use Rattle.layout.proofs.Laws.{decode-encode}
use Rattle.find.specs.Find.{first_found_unless_malformed, found_shifted, find_tag_within_levels, find_tag}
use Rattle.host.specs.Hosted.{host_step_or_refusal, perform_host_call_if_admitted, command_count_or_all_ones}
use Rattle.host.specs.Object.{object_copied_from_store, object_copied_from_session}
use Rattle.worked_examples.specs.Sessions.{waits_on_gpo}
use Rattle.session.specs.Calls.{answer}
use Rattle.worked_examples.specs.Calls.{buffer_of261, result_of}
use Rattle.worked_examples.proofs.Laws.{answer_in}
use Rattle.worked_examples.proofs.Ranges.{kept}
use Rattle.worked_words.specs.Host.{encoded_session_then_ignored_byte, host_answer_word, HostWordExamples}

-- the word of an answer on a session in bytes is that of the session's own
word_of : (s : Session) → length (store_bytes s) ≡ store_size → (card : List ℕ) {a : CallResult} {w : ℕ}
    → result_of s (answer card buffer_of261) ≡ a → result_word a ≡ w
    → host_answer_word s card ≡ w
unfolding host_answer_word result_of perform_host_call_if_admitted if
word_of s z card e f =
    ap (λ (x : Option Session). (host_step_or_refusal (λ (t : Session) b. answer_step t card b)
    (encoded_session_then_ignored_byte s) buffer_of261 x).word) (decode-encode s (0xEE ∷ []) z) ∙ ap result_word e ∙ f

counts : (s : Session) → length (store_bytes s) ≡ store_size
    → command_count_or_all_ones (decoded_session (encoded_session_then_ignored_byte s)) ≡ s.count
counts s z = ap command_count_or_all_ones (decode-encode s (0xEE ∷ []) z)

pub words : HostWordExamples
unfolding recurse_with_fuel_from_length recurse_with_fuel if both either every append_big_endian_bytes nibbles tag_size
    tag_size_from_second_byte tag_size_from_third_byte tag_at tag_first_byte is_template is_private length_after81 length_after82
    length_at header_of
    object_count next_in_template prepend_leaf prepend_node parse_tree tag_bytes length_bytes dictionary_rows row_found_shifted
    find_row row_number_of_tag_or_zero is_numeric is_digits_then_fs is_compressed_numeric digits_match_form length_and_digits_fit_row
    row_offset row_place_bytes value_in_place
    row_value put_row object_value_in valid_entry afl_entries afl_length_is_multiple_of4 consecutive_records records_of_entries
    sum_over_entries accepts_afl record_at_index kth_record_from_one kth_record_of_accepted_afl allowed_in_template
    row_allows_value_from_card
    row_allows_value_and_absent_or_empty store_item store_next_item store_all_items primitive_items parse_response_body
    gpo_items_under80 iad_item_if_any cryptogram_items_under80 primitive_body_items template_body_items read_body is_body_to_be_read
    is_status9000 response_length_is2_to258 read_answer first_bytes_zero_padded
    append_decimal_digits four_digit_year date_as_number first_date_is_later amount_of first_amount_is_above cvm_processing
    aip_and_configuration_support_on_device_cvm card_and_kernel_support_on_device_cvm transaction_limit stored_amount_above_limit
    auc_violated_in_store restrictions_tvr_byte2 tvr_before_cvm currencies_present_and_equal
    cvm_conditions_in cvm_result_in tvr_with_cvm findings_of action_codes_of choice_for_tvr outcome_of_nonzero_reason
    is_present_if_required_at_start all_required_at_start_present expiry_pan_and_cdol1_non_empty track2_and_bitmaps_non_empty store_with_tvr
    store_with_findings
    next_after_gpo_read next_on_gpo_response read_response_then next_on_record_response next_after_record_read next_after_last_record
    next_after_records_in_emv_mode requested_cryptogram request_cryptogram outcome_for_cryptogram_type cryptogram_ending
    next_on_cryptogram_response command_word first_found_unless_malformed
    found_shifted find_tag_within_levels find_tag has_at_least_record_length_and_canonical_head decoded_session perform_host_call_if_admitted
    object_copied_from_store object_copied_from_session
words = record {
  commands = refl;
  outcomes = refl;
  refusals = refl;
  opened = refl;
  start_buffer_record = refl;
  start_record = refl;
  answer_buffer_record = refl;
  answer_record = refl;
  answer_command = word_of waits_on_gpo refl _ (answer_in waits_on_gpo kept.gpo _ refl) refl;
  answer_afl = word_of waits_on_gpo refl _ (answer_in waits_on_gpo kept.gpo _ refl) refl;
  answer_status = word_of waits_on_gpo refl _ (answer_in waits_on_gpo kept.gpo _ refl) refl;
  answer_phase = word_of fresh_session refl _ (answer_in fresh_session fresh_keeps _ refl) refl;
  count_none = refl;
  count_one = counts waits_on_gpo refl;
  object_refused = refl;
  object_unknown = refl;
  object_absent = refl;
  object_needed = refl;
  object_value_lem = refl;
  object_empty = refl;
  explain_none = refl;
  explain_cases = refl;
  explain_unforced = refl;
  explain_forced = refl;
  found = refl;
  version = refl;
}
