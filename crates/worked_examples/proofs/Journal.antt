-- Records written and read are computed; the calls of a whole journal by the law that a played session stays in its
-- ranges, and the verdict on it by the law that every journal of a conforming kernel is accepted. Assumes nothing.
use mathlib.Core.Path.{◌≡◌, refl, sym, ap, subst}
use mathlib.Core.List.{List}
use Prim.Native.Nat.{ℕ, ◌≤◌}
use lib.Dec.{lit≤}
use lib.ListN.{length, take}
use Rattle.basics.specs.Recursion.{recurse_with_fuel_from_length, recurse_with_fuel}
use Rattle.basics.specs.Choice.{if, both, either, every}
use Rattle.basics.specs.Number.{append_big_endian_bytes, nibbles}
use Rattle.tlv.specs.Tag.{tag_size, tag_size_from_second_byte, tag_size_from_third_byte, tag_at, tag_first_byte, is_template}
use Rattle.tlv.specs.Tag.{is_private}
use Rattle.tlv.specs.Length.{length_after81, length_after82, length_at}
use Rattle.tlv.specs.Object.{header_of}
use Rattle.tlv.specs.Primitives.{prepend_object, primitive_at_front, primitive_objects}
use Rattle.tlv.specs.Encoding.{tag_bytes, length_bytes}
use Rattle.dictionary.specs.Rows.{dictionary_rows, row_found_shifted, find_row}
use Rattle.dictionary.specs.Named.{row_number_of_tag_or_zero}
use Rattle.dictionary.specs.Form.{is_numeric, is_digits_then_fs, is_compressed_numeric, digits_match_form}
use Rattle.dictionary.specs.Form.{length_and_digits_fit_row}
use Rattle.dictionary.specs.TerminalType.{listed_terminal_type}
use Rattle.store.specs.Place.{row_offset, row_place_bytes, value_in_place, row_value, put_row, object_value_in}
use Rattle.dol.specs.Entries.{dol_entry_with_length, dol_entry_at, prepend_dol_entry, dol_entries_step, dol_entries}
use Rattle.dol.specs.Filling.{truncated_to_length, padding_byte, padded_to_length, fitted_to_length, dol_entry_bytes, dol_data}
use Rattle.dol.specs.Filling.{dol_data_if_parsed}
use Rattle.command.specs.WithList.{gpo_command_of_filled, get_processing_options, command_if_data_is1_to255_bytes, generate_ac}
use Rattle.command.specs.WithList.{udol_or_default, compute_cryptographic_checksum}
use Rattle.session_record.specs.Numbers.{outcome_of_nonzero_reason}
use Rattle.session_record.specs.Ranges.{is_present_if_required_at_start, all_required_at_start_present}
use Rattle.session_record.specs.Ranges.{expiry_pan_and_cdol1_non_empty, track2_and_bitmaps_non_empty}
use Rattle.start_data.specs.StartData.{is_listed_if_terminal_type, start_may_set_object_in_row, set_start_object, set_start_objects}
use Rattle.start_data.specs.StartData.{load_start_bytes}
use Rattle.session.specs.Steps.{store_with_tvr, store_with_findings}
use Rattle.session.specs.Start.{request_gpo}
use Rattle.session_record.specs.Session.{fresh_session}
use Rattle.session_record.proofs.Phases.{fresh_keeps}
use Rattle.session.specs.Calls.{play_calls}
use Rattle.session_claim.proofs.InRanges.{play_in, play_in_lem}
use Rattle.journal.specs.declared.JournalVerdict.{JournalVerdict}
use Rattle.journal.specs.Record.{journal_record_size, journal_records_of, journal_of_records}
use Rattle.journal.specs.Record.{journal_length_and_zero_padding_valid, is_too_long_answer_record, call_from_journal_record}
use Rattle.journal.specs.Verdict.{journal_verdict_of}
use Rattle.journal.proofs.Written.{written_accepted}
use Rattle.worked_examples.specs.Journal.{played_journal_calls, journal_records_of_played_calls, JournalExamples}

played : journal_records_of (play_calls fresh_session played_journal_calls) ≡ journal_records_of_played_calls
unfolding recurse_with_fuel_from_length recurse_with_fuel if both either every append_big_endian_bytes nibbles tag_size
    tag_size_from_second_byte tag_size_from_third_byte tag_at tag_first_byte is_template is_private length_after81 length_after82
    length_at header_of
    prepend_object primitive_at_front primitive_objects tag_bytes length_bytes dictionary_rows row_found_shifted find_row
    row_number_of_tag_or_zero is_numeric is_digits_then_fs is_compressed_numeric digits_match_form length_and_digits_fit_row
    listed_terminal_type row_offset row_place_bytes
    value_in_place row_value put_row object_value_in dol_entry_with_length dol_entry_at prepend_dol_entry dol_entries_step dol_entries
    truncated_to_length padding_byte padded_to_length fitted_to_length dol_entry_bytes dol_data dol_data_if_parsed gpo_command_of_filled
    get_processing_options command_if_data_is1_to255_bytes generate_ac udol_or_default compute_cryptographic_checksum
    outcome_of_nonzero_reason is_present_if_required_at_start all_required_at_start_present expiry_pan_and_cdol1_non_empty
    track2_and_bitmaps_non_empty
    is_listed_if_terminal_type start_may_set_object_in_row set_start_object set_start_objects load_start_bytes store_with_tvr
    store_with_findings request_gpo journal_records_of play_in
played = ap journal_records_of (play_in_lem fresh_session fresh_keeps played_journal_calls)

all_right : {r : List (List ℕ)} → journal_records_of (play_calls fresh_session played_journal_calls) ≡ r → 4 ≤ length r
    → journal_verdict_of (journal_of_records (take 4 r)) ≡ JournalVerdict.Accepted 4
all_right {r} e h =
    subst (λ (l : List (List ℕ)). journal_verdict_of (journal_of_records (take 4 l)) ≡ JournalVerdict.Accepted 4) e
    (written_accepted played_journal_calls 4 (subst (λ (l : List (List ℕ)). 4 ≤ length l) (sym e) h))

pub journal : JournalExamples
unfolding call_from_journal_record journal_length_and_zero_padding_valid is_too_long_answer_record journal_record_size
    journal_of_records tag_bytes length_bytes every both if
journal = record {
  calls_written = refl;
  calls_read = refl;
  no_call = refl;
  replies_written = refl;
  longest_command = refl;
  sizes = refl;
  whole = played;
  accepted = all_right played (lit≤ tt);
}
