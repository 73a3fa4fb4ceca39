-- Refusals: by the buffer and the ranges where these decide, else computed. Assumes nothing.
use mathlib.Core.Path.{refl}
use Rattle.basics.specs.Recursion.{recurse_with_fuel_from_length, recurse_with_fuel}
use Rattle.basics.specs.Choice.{if, both, either, every}
use Rattle.basics.specs.Number.{append_big_endian_bytes, nibbles}
use Rattle.tlv.specs.Tag.{tag_size, tag_size_from_second_byte, tag_size_from_third_byte, tag_at, tag_first_byte, is_template}
use Rattle.tlv.specs.Tag.{is_private}
use Rattle.tlv.specs.Length.{length_after81, length_after82, length_at}
use Rattle.tlv.specs.Object.{header_of}
use Rattle.tlv.specs.Primitives.{prepend_object, primitive_at_front, primitive_objects}
use Rattle.tlv.specs.Encoding.{tag_bytes, length_bytes}
use Rattle.dictionary.specs.Rows.{dictionary_rows, row_found_shifted, find_row}
use Rattle.dictionary.specs.Named.{row_number_of_tag_or_zero}
use Rattle.dictionary.specs.Form.{is_numeric, is_digits_then_fs, is_compressed_numeric, digits_match_form}
use Rattle.dictionary.specs.Form.{length_and_digits_fit_row}
use Rattle.dictionary.specs.TerminalType.{listed_terminal_type}
use Rattle.store.specs.Place.{row_offset, row_place_bytes, value_in_place, row_value, put_row, object_value_in}
use Rattle.dol.specs.Entries.{dol_entry_with_length, dol_entry_at, prepend_dol_entry, dol_entries_step, dol_entries}
use Rattle.dol.specs.Filling.{truncated_to_length, padding_byte, padded_to_length, fitted_to_length, dol_entry_bytes, dol_data}
use Rattle.dol.specs.Filling.{dol_data_if_parsed}
use Rattle.command.specs.WithList.{gpo_command_of_filled, get_processing_options, command_if_data_is1_to255_bytes, generate_ac}
use Rattle.command.specs.WithList.{udol_or_default, compute_cryptographic_checksum}
use Rattle.session_record.specs.Numbers.{outcome_of_nonzero_reason}
use Rattle.session_record.specs.Ranges.{is_present_if_required_at_start, all_required_at_start_present}
use Rattle.session_record.specs.Ranges.{expiry_pan_and_cdol1_non_empty, track2_and_bitmaps_non_empty}
use Rattle.start_data.specs.StartData.{is_listed_if_terminal_type, start_may_set_object_in_row, set_start_object, set_start_objects}
use Rattle.start_data.specs.StartData.{load_start_bytes}
use Rattle.session.specs.Steps.{store_with_tvr, store_with_findings}
use Rattle.session.specs.Start.{request_gpo}
use Rattle.session_record.specs.Session.{fresh_session}
use Rattle.session_record.proofs.Phases.{fresh_keeps}
use Rattle.worked_examples.specs.Sessions.{waits_on_gpo, session_stopped, fresh_out_of_ranges, waits_on_gpo_out_of_ranges}
use Rattle.worked_examples.specs.Sessions.{ended_out_of_ranges}
use Rattle.worked_examples.specs.Refusals.{RefusalExamples}
use Rattle.worked_examples.proofs.Laws.{answer_in, answer_out, answer_short, link_in, link_out, link_short}
use Rattle.worked_examples.proofs.Laws.{start_in, start_out, start_short, stop_in, stop_out, stop_short}
use Rattle.worked_examples.proofs.Ranges.{kept}

pub refusals : RefusalExamples
unfolding recurse_with_fuel_from_length recurse_with_fuel if both either every append_big_endian_bytes nibbles tag_size
    tag_size_from_second_byte tag_size_from_third_byte tag_at tag_first_byte is_template is_private length_after81 length_after82
    length_at header_of
    prepend_object primitive_at_front primitive_objects tag_bytes length_bytes dictionary_rows row_found_shifted find_row
    row_number_of_tag_or_zero is_numeric is_digits_then_fs is_compressed_numeric digits_match_form length_and_digits_fit_row
    listed_terminal_type row_offset row_place_bytes
    value_in_place row_value put_row object_value_in dol_entry_with_length dol_entry_at prepend_dol_entry dol_entries_step dol_entries
    truncated_to_length padding_byte padded_to_length fitted_to_length dol_entry_bytes dol_data dol_data_if_parsed gpo_command_of_filled
    get_processing_options command_if_data_is1_to255_bytes generate_ac udol_or_default compute_cryptographic_checksum
    outcome_of_nonzero_reason is_present_if_required_at_start all_required_at_start_present expiry_pan_and_cdol1_non_empty
    track2_and_bitmaps_non_empty
    is_listed_if_terminal_type start_may_set_object_in_row set_start_object set_start_objects load_start_bytes store_with_tvr
    store_with_findings request_gpo
refusals = record {
  buffer_ranges = start_short fresh_out_of_ranges _;
  buffer_phase = start_short waits_on_gpo _;
  buffer_run = start_short fresh_session _;
  buffer_object = start_short fresh_session _;
  buffer_absent = start_short fresh_session _;
  ranges_phase = start_out waits_on_gpo_out_of_ranges kept.broken_gpo _;
  ranges_run = start_out fresh_out_of_ranges kept.broken_fresh _;
  ranges_object = start_out fresh_out_of_ranges kept.broken_fresh _;
  ranges_absent = start_out fresh_out_of_ranges kept.broken_fresh _;
  phase_run = start_in waits_on_gpo kept.gpo _ refl;
  phase_object = start_in waits_on_gpo kept.gpo _ refl;
  phase_absent = start_in waits_on_gpo kept.gpo _ refl;
  run_object = start_in fresh_session fresh_keeps _ refl;
  run_absent = start_in fresh_session fresh_keeps _ refl;
  object_absent = start_in fresh_session fresh_keeps _ refl;
  absent_alone = start_in fresh_session fresh_keeps _ refl;
  absent_list = start_in fresh_session fresh_keeps _ refl;
  list_alone = start_in fresh_session fresh_keeps _ refl;
  answer_buffer_ranges = answer_short waits_on_gpo_out_of_ranges _;
  answer_buffer_phase = answer_short fresh_session _;
  answer_ranges_phase = answer_out fresh_out_of_ranges kept.broken_fresh _;
  answer_ranges_ended = answer_out ended_out_of_ranges kept.broken_ended _;
  answer_phase = answer_in fresh_session fresh_keeps _ refl;
  answer_ended = answer_in session_stopped kept.ended _ refl;
  link = record {
    buffer_ranges = link_short waits_on_gpo_out_of_ranges;
    buffer_phase = link_short fresh_session;
    ranges_phase = link_out fresh_out_of_ranges kept.broken_fresh;
    phase = link_in session_stopped kept.ended refl;
  };
  stopped = record {
    buffer_ranges = stop_short waits_on_gpo_out_of_ranges;
    buffer_phase = stop_short fresh_session;
    ranges_phase = stop_out fresh_out_of_ranges kept.broken_fresh;
    phase = stop_in session_stopped kept.ended refl;
  };
}
