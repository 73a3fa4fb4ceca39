-- The words of a cabinet, computed; a start on a fresh session is the step of its phase by law. Assumes nothing.
use mathlib.Core.Path.{◌≡◌, refl, ap, ◌∙◌}
use mathlib.Core.List.{List, []}
use Prim.Native.Nat.{ℕ}
use lib.Dec.{lit≤}
use Rattle.basics.specs.Recursion.{recurse_with_fuel_from_length, recurse_with_fuel}
use Rattle.basics.specs.Choice.{if, both, either, every}
use Rattle.basics.specs.Number.{append_big_endian_bytes, nibbles}
use Rattle.tlv.specs.Tag.{tag_size, tag_size_from_second_byte, tag_size_from_third_byte, tag_at, tag_first_byte, is_template}
use Rattle.tlv.specs.Tag.{is_private}
use Rattle.tlv.specs.Length.{length_after81, length_after82, length_at}
use Rattle.tlv.specs.Object.{header_of}
use Rattle.tlv.specs.Primitives.{prepend_object, primitive_at_front, primitive_objects}
use Rattle.tlv.specs.Encoding.{tag_bytes, length_bytes}
use Rattle.dictionary.specs.Rows.{dictionary_rows, row_found_shifted, find_row}
use Rattle.dictionary.specs.Named.{row_number_of_tag_or_zero}
use Rattle.dictionary.specs.Form.{is_numeric, is_digits_then_fs, is_compressed_numeric, digits_match_form}
use Rattle.dictionary.specs.Form.{length_and_digits_fit_row}
use Rattle.dictionary.specs.TerminalType.{listed_terminal_type}
use Rattle.store.specs.Place.{row_offset, row_place_bytes, value_in_place, row_value, put_row, object_value_in}
use Rattle.dol.specs.Entries.{dol_entry_with_length, dol_entry_at, prepend_dol_entry, dol_entries_step, dol_entries}
use Rattle.dol.specs.Filling.{truncated_to_length, padding_byte, padded_to_length, fitted_to_length, dol_entry_bytes, dol_data}
use Rattle.dol.specs.Filling.{dol_data_if_parsed}
use Rattle.command.specs.WithList.{gpo_command_of_filled, get_processing_options, command_if_data_is1_to255_bytes, generate_ac}
use Rattle.command.specs.WithList.{udol_or_default, compute_cryptographic_checksum}
use Rattle.session_record.specs.Numbers.{outcome_of_nonzero_reason}
use Rattle.session_record.specs.Ranges.{is_present_if_required_at_start, all_required_at_start_present}
use Rattle.session_record.specs.Ranges.{expiry_pan_and_cdol1_non_empty, track2_and_bitmaps_non_empty}
use Rattle.start_data.specs.StartData.{is_listed_if_terminal_type, start_may_set_object_in_row, set_start_object, set_start_objects}
use Rattle.start_data.specs.StartData.{load_start_bytes}
use Rattle.session.specs.Steps.{Step, step_of_effect, store_with_tvr, store_with_findings}
use Rattle.session.specs.Start.{request_gpo, start_effect}
use Rattle.analysis.specs.Value.{first_bytes_zero_padded}
use Rattle.analysis.specs.Digits.{append_decimal_digits, amount_of}
use Rattle.session_record.specs.Session.{fresh_session, store_bytes}
use Rattle.session_record.proofs.Phases.{fresh_keeps}
use Rattle.layout.specs.Word.{command_word}
use Rattle.session.proofs.Laws.{admitted_in}
use Rattle.worked_examples.specs.Calls.{buffer_of261}
use Rattle.cabinet.specs.State.{decoded_cabinet_if_valid}
use Rattle.cabinet.specs.Calls.{admit_cabinet_call, session_for_new_start, cabinet_start_if_amount_remains, cabinet_start_by_result}
use Rattle.cabinet.specs.Calls.{cabinet_open_word}
use Rattle.worked_words.specs.Cabinet.{start_word_on_fresh_cabinet, CabinetWordExamples}

-- the word of a start by its step
abbrev word_by : ℕ → Step → ℕ
word_by left st = (cabinet_start_by_result st.reply.answer st left [] buffer_of261).word

word_of : (bytes : List ℕ) (left : ℕ) {w : ℕ}
    → word_by left
    (step_of_effect fresh_session buffer_of261 (start_effect fresh_session.phase (store_bytes fresh_session) bytes)) ≡ w
    → start_word_on_fresh_cabinet bytes left ≡ w
unfolding start_word_on_fresh_cabinet session_for_new_start if
word_of bytes left e = ap (word_by left) (admitted_in fresh_session buffer_of261 _ (lit≤ tt) fresh_keeps) ∙ e

pub words : CabinetWordExamples
unfolding recurse_with_fuel_from_length recurse_with_fuel if both either every append_big_endian_bytes nibbles tag_size
    tag_size_from_second_byte tag_size_from_third_byte tag_at tag_first_byte is_template is_private length_after81 length_after82
    length_at header_of
    prepend_object primitive_at_front primitive_objects tag_bytes length_bytes dictionary_rows row_found_shifted find_row
    row_number_of_tag_or_zero is_numeric is_digits_then_fs is_compressed_numeric digits_match_form length_and_digits_fit_row
    listed_terminal_type row_offset row_place_bytes
    value_in_place row_value put_row object_value_in dol_entry_with_length dol_entry_at prepend_dol_entry dol_entries_step dol_entries
    truncated_to_length padding_byte padded_to_length fitted_to_length dol_entry_bytes dol_data dol_data_if_parsed gpo_command_of_filled
    get_processing_options command_if_data_is1_to255_bytes generate_ac udol_or_default compute_cryptographic_checksum
    outcome_of_nonzero_reason is_present_if_required_at_start all_required_at_start_present expiry_pan_and_cdol1_non_empty
    track2_and_bitmaps_non_empty
    is_listed_if_terminal_type start_may_set_object_in_row set_start_object set_start_objects load_start_bytes store_with_tvr
    store_with_findings request_gpo first_bytes_zero_padded append_decimal_digits amount_of command_word decoded_cabinet_if_valid
    admit_cabinet_call cabinet_start_if_amount_remains cabinet_open_word
words = record {
  opened = refl;
  left_none = refl;
  left = refl;
  aside_too_much = word_of _ _ refl;
  aside_all = word_of _ _ refl;
  absent_aside = word_of _ _ refl;
  buffer_state = refl;
  state = refl;
}
