-- The start and the first record: ranges, loading and reading are computed, and the refusals that come first are
-- ruled out by law.
-- Assumes nothing.
use mathlib.Core.Path.{◌≡◌, refl, ap, ◌∙◌}
use mathlib.Core.Bool.{true}
use mathlib.Core.List.{List, [], ◌∷◌}
use Prim.Native.Nat.{ℕ, ◌≤◌}
use lib.ListN.{length}
use Rattle.basics.specs.Recursion.{recurse_with_fuel_from_length, recurse_with_fuel}
use Rattle.basics.specs.Choice.{if, both, either, every}
use Rattle.basics.specs.Number.{append_big_endian_bytes, nibbles}
use Rattle.tlv.specs.Tag.{tag_size, tag_size_from_second_byte, tag_size_from_third_byte, tag_at, tag_first_byte, is_template}
use Rattle.tlv.specs.Tag.{is_private}
use Rattle.tlv.specs.Length.{length_at}
use Rattle.tlv.specs.Object.{header_of}
use Rattle.tlv.specs.Primitives.{prepend_object, primitive_at_front, primitive_objects}
use Rattle.tlv.specs.Encoding.{length_bytes}
use Rattle.dictionary.specs.Rows.{dictionary_rows, row_found_shifted, find_row}
use Rattle.dictionary.specs.Named.{row_number_of_tag_or_zero}
use Rattle.dictionary.specs.Form.{is_numeric, digits_match_form, length_and_digits_fit_row}
use Rattle.dictionary.specs.TerminalType.{listed_terminal_type}
use Rattle.store.specs.Place.{row_offset, row_place_bytes, value_in_place, row_value, put_row, object_value_in}
use Rattle.store.specs.Place.{row_length_plus_one_or_zero}
use Rattle.afl.specs.Entry.{valid_entry}
use Rattle.afl.specs.Records.{afl_entries as entries_of, afl_length_is_multiple_of4, consecutive_records as run_of}
use Rattle.afl.specs.Records.{records_of_entries, sum_over_entries, accepts_afl, record_at_index, kth_record_from_one}
use Rattle.afl.specs.Records.{kth_record_of_accepted_afl}
use Rattle.reading.specs.Taking.{allowed_in_template, row_allows_value_from_card, row_allows_value_and_absent_or_empty, store_item}
use Rattle.reading.specs.Taking.{store_next_item, store_all_items}
use Rattle.reading.specs.Answer.{parse_response_body, gpo_items_under80, primitive_body_items, read_body, is_body_to_be_read}
use Rattle.reading.specs.Answer.{is_status9000, response_length_is2_to258, read_answer}
use Rattle.dol.specs.Entries.{dol_entries_step, dol_entries}
use Rattle.dol.specs.Filling.{dol_data, dol_data_if_parsed}
use Rattle.command.specs.WithList.{gpo_command_of_filled, get_processing_options}
use Rattle.session_record.specs.declared.AwaitedResponse.{AwaitedResponse}
use Rattle.session_record.specs.declared.Phase.{Phase}
use Rattle.session_record.specs.declared.Session.{Session}
use Rattle.store.specs.Held.{stored_length_plus_one_or_zero}
use Rattle.session_record.specs.Ranges.{is_present_if_required_at_start, all_required_at_start_present}
use Rattle.session_record.specs.Ranges.{last_response_objects_absent, in_running_ranges, in_gpo_ranges, session_record_in_ranges}
use Rattle.session_record.specs.Ranges.{all_stored_objects_fit_rows, stored_object_absent_or_fits_row, in_fresh_ranges, zero_tvr}
use Rattle.session_record.specs.Session.{fresh_session, session_of}
use Rattle.start_data.specs.StartData.{is_listed_if_terminal_type, start_may_set_object_in_row, set_start_object, set_start_objects}
use Rattle.start_data.specs.StartData.{load_start_bytes, LoadedStore, loaded, refusal}
use Rattle.session.specs.Steps.{ask, read_response_then, store_with_tvr, Step, step_of_next, step_of_effect, least_buffer}
use Rattle.session.specs.Start.{request_gpo, start_effect_after_loading}
use Rattle.session.specs.Answer.{next_after_gpo_read, next_on_gpo_response, answer_step}
use Rattle.session.proofs.Laws.{admitted_in}
use Rattle.bench_rows.specs.BenchTable.{bench_empty_store, bench_start_bytes, bench_start_step, bench_gpo_answer}
use Rattle.bench_rows.specs.BenchTable.{HandsOutCommand, BenchFirstTwoCommands}

-- the store after the start
abbrev store_of : LoadedStore → List ℕ
store_of (refusal n) = []
store_of (loaded b) = store_with_tvr b zero_tvr

abbrev first_store : List ℕ
first_store = store_of (load_start_bytes bench_empty_store bench_start_bytes)

-- the session after it
abbrev waiting : Session
waiting = session_of (Phase.Waiting AwaitedResponse.Gpo) 1 first_store

abbrev gpo_command : List ℕ
gpo_command = 0x80 ∷ 0xA8 ∷ 0x00 ∷ 0x00 ∷ 0x02 ∷ 0x83 ∷ 0x00 ∷ 0x00 ∷ []

fresh_in : session_record_in_ranges fresh_session ≡ true
unfolding session_record_in_ranges all_stored_objects_fit_rows stored_object_absent_or_fits_row stored_length_plus_one_or_zero
    row_length_plus_one_or_zero in_fresh_ranges dictionary_rows row_found_shifted find_row if both every row_offset row_place_bytes
    value_in_place row_value object_value_in
fresh_in = refl

waiting_in : session_record_in_ranges waiting ≡ true
unfolding session_record_in_ranges all_stored_objects_fit_rows stored_object_absent_or_fits_row stored_length_plus_one_or_zero
    row_length_plus_one_or_zero in_gpo_ranges in_running_ranges last_response_objects_absent all_required_at_start_present
    is_present_if_required_at_start store_with_tvr row_number_of_tag_or_zero load_start_bytes primitive_objects prepend_object
    primitive_at_front header_of tag_at tag_size tag_size_from_second_byte tag_size_from_third_byte length_at tag_first_byte is_template
    is_private append_big_endian_bytes if both either every dictionary_rows row_found_shifted find_row start_may_set_object_in_row
    set_start_object set_start_objects length_and_digits_fit_row digits_match_form is_numeric nibbles is_listed_if_terminal_type
    listed_terminal_type row_offset row_place_bytes value_in_place row_value put_row object_value_in recurse_with_fuel_from_length
    recurse_with_fuel
waiting_in = refl

asks : (buf : List ℕ)
    → step_of_effect fresh_session buf (start_effect_after_loading (load_start_bytes bench_empty_store bench_start_bytes))
    ≡ step_of_next 0 buf (ask gpo_command AwaitedResponse.Gpo first_store)
unfolding request_gpo get_processing_options gpo_command_of_filled dol_data_if_parsed dol_data dol_entries
    recurse_with_fuel_from_length recurse_with_fuel dol_entries_step length_bytes store_with_tvr row_number_of_tag_or_zero
    load_start_bytes primitive_objects prepend_object primitive_at_front
    header_of tag_at tag_size tag_size_from_second_byte tag_size_from_third_byte length_at tag_first_byte is_template is_private
    append_big_endian_bytes if both either every dictionary_rows row_found_shifted find_row start_may_set_object_in_row
    set_start_object set_start_objects
    length_and_digits_fit_row digits_match_form is_numeric nibbles is_listed_if_terminal_type listed_terminal_type row_offset
    row_place_bytes value_in_place row_value put_row object_value_in all_required_at_start_present is_present_if_required_at_start
asks buf = refl

reads : (buf : List ℕ) → HandsOutCommand (0x00 ∷ 0xB2 ∷ 0x01 ∷ 0x0C ∷ 0x00 ∷ []) buf
    (step_of_next 1 buf (next_on_gpo_response first_store bench_gpo_answer))
unfolding next_on_gpo_response read_response_then next_after_gpo_read kth_record_of_accepted_afl kth_record_from_one record_at_index
    accepts_afl afl_length_is_multiple_of4 entries_of valid_entry sum_over_entries records_of_entries run_of read_answer
    response_length_is2_to258 is_status9000 is_body_to_be_read
    read_body parse_response_body primitive_body_items gpo_items_under80 store_all_items store_next_item store_item
    row_allows_value_and_absent_or_empty row_allows_value_from_card allowed_in_template store_with_tvr row_number_of_tag_or_zero
    load_start_bytes primitive_objects prepend_object primitive_at_front
    header_of tag_at tag_size tag_size_from_second_byte tag_size_from_third_byte length_at tag_first_byte is_template is_private
    append_big_endian_bytes if both either every dictionary_rows row_found_shifted find_row start_may_set_object_in_row
    set_start_object set_start_objects
    length_and_digits_fit_row digits_match_form is_numeric nibbles is_listed_if_terminal_type listed_terminal_type row_offset
    row_place_bytes value_in_place row_value put_row object_value_in all_required_at_start_present is_present_if_required_at_start
    recurse_with_fuel_from_length recurse_with_fuel
reads buf = record { answer = refl; bytes = refl }

-- a step by an equation
hands_as : {c b : List ℕ} {s t : Step} → s ≡ t → HandsOutCommand c b t → HandsOutCommand c b s
hands_as e h = record {
  answer = ap (λ (x : Step). x.reply.answer) e ∙ h.answer;
  bytes = ap (λ (x : Step). x.buffer)
      e ∙ h.bytes;
}

pub begins : (first second : List ℕ) → least_buffer ≤ length first → least_buffer ≤ length second
    → BenchFirstTwoCommands first second
begins first second h k = record {
  gpo = hands_as starts (record { answer = refl; bytes = refl });
  record_1 =
      hands_as answers (reads second);
}
  where
    starts : bench_start_step first ≡ step_of_next 0 first (ask gpo_command AwaitedResponse.Gpo first_store)
    starts = admitted_in fresh_session first _ h fresh_in ∙ asks first

    answers : answer_step (bench_start_step first).reply.session bench_gpo_answer second ≡ step_of_next 1 second
        (next_on_gpo_response first_store bench_gpo_answer)
    answers =
        ap (λ (x : Step). answer_step x.reply.session bench_gpo_answer second) starts
        ∙ admitted_in waiting second _ k waiting_in
