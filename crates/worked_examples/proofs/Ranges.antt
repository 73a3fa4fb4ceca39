-- Which of the sessions keep their ranges, each by one walk over its store. Assumes nothing.
use mathlib.Core.Path.{◌≡◌}
use mathlib.Core.Bool.{true, false}
use Rattle.basics.specs.Choice.{if, both, either, every}
use Rattle.basics.specs.Number.{nibbles}
use Rattle.dictionary.specs.Rows.{dictionary_rows, row_found_shifted, find_row}
use Rattle.dictionary.specs.Form.{is_numeric, is_digits_then_fs, is_compressed_numeric, digits_match_form}
use Rattle.dictionary.specs.Form.{length_and_digits_fit_row}
use Rattle.dictionary.specs.TerminalType.{listed_terminal_type}
use Rattle.store.specs.Place.{row_offset, row_place_bytes, value_in_place, row_value, object_value_in}
use Rattle.afl.specs.Entry.{valid_entry}
use Rattle.afl.specs.Records.{afl_entries, afl_length_is_multiple_of4, sum_over_entries, accepts_afl}
use Rattle.analysis.specs.Action.{card_and_kernel_support_on_device_cvm, transaction_limit}
use Rattle.analysis.specs.Digits.{append_decimal_digits, amount_of}
use Rattle.analysis.specs.Value.{first_bytes_zero_padded}
use Rattle.analysis.specs.Cvm.{aip_and_configuration_support_on_device_cvm}
use Rattle.analysis.specs.declared.choice.Choice.{Choice}
use Rattle.session_record.specs.Inner.{place_length_and_value_fit_row}
use Rattle.session_record.specs.Numbers.{reason_matches_outcome}
use Rattle.session_record.specs.Ranges.{is_present_if_required_at_start, all_required_at_start_present}
use Rattle.session_record.specs.Ranges.{last_response_objects_absent, in_running_ranges, expiry_pan_and_cdol1_non_empty}
use Rattle.session_record.specs.Ranges.{track2_and_bitmaps_non_empty, in_fresh_ranges, in_gpo_ranges, in_record_ranges}
use Rattle.session_record.specs.Ranges.{in_cryptogram_ranges, in_checksum_ranges, in_ended_ranges, session_record_in_ranges}
use Rattle.session_record.proofs.Along.{fit_along, ranges_along_lem}
use Rattle.worked_examples.specs.Sessions.{bcd_units_below_limit, bcd_units_over_limit, emv_aip, mag_stripe_aip}
use Rattle.worked_examples.specs.Sessions.{track_with_separator, track_without_separator, waits_on_gpo}
use Rattle.worked_examples.specs.Sessions.{waits_on_first_of_two_records, waits_on_only_record, waits_on_only_record_with_pdol}
use Rattle.worked_examples.specs.Sessions.{waits_on_cryptogram, waits_on_checksum, session_stopped, fresh_out_of_ranges}
use Rattle.worked_examples.specs.Sessions.{waits_on_gpo_out_of_ranges, ended_out_of_ranges}

pub record Kept : Type 0 where
  pub gpo : session_record_in_ranges waits_on_gpo ≡ true
  pub first : session_record_in_ranges waits_on_first_of_two_records ≡ true
  pub emv_within : session_record_in_ranges (waits_on_only_record emv_aip bcd_units_below_limit) ≡ true
  pub emv_above : session_record_in_ranges (waits_on_only_record emv_aip bcd_units_over_limit) ≡ true
  pub mag_stripe_within : session_record_in_ranges (waits_on_only_record mag_stripe_aip bcd_units_below_limit) ≡ true
  pub mag_stripe_above : session_record_in_ranges (waits_on_only_record mag_stripe_aip bcd_units_over_limit) ≡ true
  pub emv_pdol : session_record_in_ranges (waits_on_only_record_with_pdol emv_aip) ≡ true
  pub mag_stripe_pdol : session_record_in_ranges (waits_on_only_record_with_pdol mag_stripe_aip) ≡ true
  pub cryptogram : (c : Choice) → session_record_in_ranges (waits_on_cryptogram c) ≡ true
  pub sound : session_record_in_ranges (waits_on_checksum track_with_separator) ≡ true
  pub unsound : session_record_in_ranges (waits_on_checksum track_without_separator) ≡ true
  pub ended : session_record_in_ranges session_stopped ≡ true
  pub broken_fresh : session_record_in_ranges fresh_out_of_ranges ≡ false
  pub broken_gpo : session_record_in_ranges waits_on_gpo_out_of_ranges ≡ false
  pub broken_ended : session_record_in_ranges ended_out_of_ranges ≡ false

pub kept : Kept
unfolding fit_along place_length_and_value_fit_row length_and_digits_fit_row digits_match_form is_numeric is_compressed_numeric
    is_digits_then_fs nibbles in_fresh_ranges in_gpo_ranges in_record_ranges in_cryptogram_ranges in_checksum_ranges in_ended_ranges
    reason_matches_outcome in_running_ranges
    all_required_at_start_present is_present_if_required_at_start last_response_objects_absent expiry_pan_and_cdol1_non_empty
    track2_and_bitmaps_non_empty listed_terminal_type transaction_limit card_and_kernel_support_on_device_cvm
    aip_and_configuration_support_on_device_cvm amount_of append_decimal_digits first_bytes_zero_padded accepts_afl
    afl_length_is_multiple_of4 afl_entries valid_entry sum_over_entries value_in_place row_offset row_place_bytes row_value
    object_value_in find_row row_found_shifted dictionary_rows every both either if
kept = record {
  gpo = ranges_along_lem waits_on_gpo;
  first = ranges_along_lem waits_on_first_of_two_records;
  emv_within = ranges_along_lem (waits_on_only_record emv_aip bcd_units_below_limit);
  emv_above = ranges_along_lem (waits_on_only_record emv_aip bcd_units_over_limit);
  mag_stripe_within = ranges_along_lem (waits_on_only_record mag_stripe_aip bcd_units_below_limit);
  mag_stripe_above = ranges_along_lem (waits_on_only_record mag_stripe_aip bcd_units_over_limit);
  emv_pdol = ranges_along_lem (waits_on_only_record_with_pdol emv_aip);
  mag_stripe_pdol = ranges_along_lem (waits_on_only_record_with_pdol mag_stripe_aip);
  cryptogram = λ c. ranges_along_lem (waits_on_cryptogram c);
  sound = ranges_along_lem (waits_on_checksum track_with_separator);
  unsound = ranges_along_lem (waits_on_checksum track_without_separator);
  ended = ranges_along_lem session_stopped;
  broken_fresh = ranges_along_lem fresh_out_of_ranges;
  broken_gpo = ranges_along_lem waits_on_gpo_out_of_ranges;
  broken_ended = ranges_along_lem ended_out_of_ranges;
}
