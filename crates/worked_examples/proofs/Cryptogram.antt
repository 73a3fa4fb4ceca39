-- Answers to GENERATE AC, computed. Assumes nothing.
use mathlib.Core.Path.{refl}
use Rattle.analysis.specs.declared.choice.Choice.{Choice}
use Rattle.basics.specs.Recursion.{recurse_with_fuel_from_length, recurse_with_fuel}
use Rattle.basics.specs.Choice.{if, both, either, every}
use Rattle.basics.specs.Number.{append_big_endian_bytes, nibbles}
use Rattle.tlv.specs.Tag.{tag_size, tag_size_from_second_byte, tag_size_from_third_byte, tag_at, tag_first_byte, is_template}
use Rattle.tlv.specs.Tag.{is_private}
use Rattle.tlv.specs.Length.{length_after81, length_after82, length_at}
use Rattle.tlv.specs.Object.{header_of}
use Rattle.tlv.specs.Tree.{object_count, next_in_template, prepend_leaf, prepend_node, parse_tree}
use Rattle.tlv.specs.Encoding.{tag_bytes, length_bytes}
use Rattle.dictionary.specs.Rows.{dictionary_rows, row_found_shifted, find_row}
use Rattle.dictionary.specs.Named.{row_number_of_tag_or_zero}
use Rattle.dictionary.specs.Form.{is_numeric, is_digits_then_fs, is_compressed_numeric, digits_match_form}
use Rattle.dictionary.specs.Form.{length_and_digits_fit_row}
use Rattle.store.specs.Place.{row_offset, row_place_bytes, value_in_place, row_value, put_row, object_value_in}
use Rattle.reading.specs.Taking.{allowed_in_template, row_allows_value_from_card, row_allows_value_and_absent_or_empty, store_item}
use Rattle.reading.specs.Taking.{store_next_item, store_all_items, primitive_items}
use Rattle.reading.specs.Answer.{parse_response_body, gpo_items_under80, iad_item_if_any, cryptogram_items_under80}
use Rattle.reading.specs.Answer.{primitive_body_items, template_body_items, read_body, is_body_to_be_read, is_status9000}
use Rattle.reading.specs.Answer.{response_length_is2_to258, read_answer}
use Rattle.session_record.specs.Numbers.{outcome_of_nonzero_reason}
use Rattle.session_record.specs.Ranges.{is_present_if_required_at_start, all_required_at_start_present}
use Rattle.session_record.specs.Ranges.{expiry_pan_and_cdol1_non_empty, track2_and_bitmaps_non_empty}
use Rattle.session.specs.Steps.{read_response_then, store_with_tvr, store_with_findings}
use Rattle.session.specs.Answer.{next_after_gpo_read, next_on_gpo_response, next_on_record_response, next_after_record_read}
use Rattle.session.specs.Answer.{next_after_last_record, next_after_records_in_emv_mode, requested_cryptogram, request_cryptogram}
use Rattle.session.specs.Answer.{outcome_for_cryptogram_type, cryptogram_ending, next_on_cryptogram_response}
use Rattle.worked_examples.specs.Sessions.{waits_on_cryptogram}
use Rattle.worked_examples.specs.Cryptogram.{CryptogramExamples, waits_on_arqc}
use Rattle.worked_examples.proofs.Laws.{each_in, says_in, order_in, before_in, stored_in}
use Rattle.worked_examples.proofs.Ranges.{kept}

pub on_cryptogram_lem : CryptogramExamples
unfolding recurse_with_fuel_from_length recurse_with_fuel if both either every append_big_endian_bytes nibbles tag_size
    tag_size_from_second_byte tag_size_from_third_byte tag_at tag_first_byte is_template is_private length_after81 length_after82
    length_at header_of
    object_count next_in_template prepend_leaf prepend_node parse_tree tag_bytes length_bytes dictionary_rows row_found_shifted
    find_row row_number_of_tag_or_zero is_numeric is_digits_then_fs is_compressed_numeric digits_match_form length_and_digits_fit_row
    row_offset row_place_bytes value_in_place
    row_value put_row object_value_in allowed_in_template row_allows_value_from_card row_allows_value_and_absent_or_empty store_item
    store_next_item store_all_items primitive_items parse_response_body gpo_items_under80 iad_item_if_any cryptogram_items_under80
    primitive_body_items template_body_items
    read_body is_body_to_be_read is_status9000 response_length_is2_to258 read_answer outcome_of_nonzero_reason
    is_present_if_required_at_start all_required_at_start_present expiry_pan_and_cdol1_non_empty track2_and_bitmaps_non_empty store_with_tvr
    store_with_findings next_after_gpo_read next_on_gpo_response
    read_response_then next_on_record_response next_after_record_read next_after_last_record next_after_records_in_emv_mode
    requested_cryptogram request_cryptogram outcome_for_cryptogram_type cryptogram_ending next_on_cryptogram_response
on_cryptogram_lem = record {
  decline_asked = each_in (waits_on_cryptogram Choice.Decline) (kept.cryptogram Choice.Decline) _ refl;
  online_asked = each_in waits_on_arqc (kept.cryptogram Choice.Online) _ refl;
  offline_asked = each_in (waits_on_cryptogram Choice.Offline) (kept.cryptogram Choice.Offline) _ refl;
  reading = order_in waits_on_arqc (kept.cryptogram Choice.Online) _ _ _ refl refl refl refl refl refl refl refl;
  missing = before_in waits_on_arqc (kept.cryptogram Choice.Online) _ _ _ refl refl refl refl refl;
  cryptogram_type = before_in waits_on_arqc (kept.cryptogram Choice.Online) _ _ _ refl refl refl refl refl;
  body_type = says_in waits_on_arqc (kept.cryptogram Choice.Online) _ refl;
  missing_others = each_in waits_on_arqc (kept.cryptogram Choice.Online) _ refl;
  under80_says = says_in waits_on_arqc (kept.cryptogram Choice.Online) _ refl;
  under80_9f27 = stored_in waits_on_arqc (kept.cryptogram Choice.Online) _ _ refl;
  under80_9f36 = stored_in waits_on_arqc (kept.cryptogram Choice.Online) _ _ refl;
  under80_9f26 = stored_in waits_on_arqc (kept.cryptogram Choice.Online) _ _ refl;
  under80_9f10 = stored_in waits_on_arqc (kept.cryptogram Choice.Online) _ _ refl;
  none_kept = stored_in waits_on_arqc (kept.cryptogram Choice.Online) _ _ refl;
}
