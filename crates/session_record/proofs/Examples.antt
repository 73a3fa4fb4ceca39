-- Outcomes with their reasons, and session records on both sides of each range's edge, by computation: a record that
-- keeps every clause, and the same with one thing changed.
-- Assumes nothing.
use mathlib.Core.Path.{◌≡◌, refl}
use mathlib.Core.Bool.{Bool, true, false}
use mathlib.Core.List.{List, [], ◌∷◌, map}
use Prim.Native.Nat.{ℕ}
use lib.ListN.{replicate}
use Rattle.basics.specs.Choice.{if, both, either, every}
use Rattle.basics.specs.Number.{nibbles}
use Rattle.dictionary.specs.Rows.{dictionary_rows, row_found_shifted, find_row}
use Rattle.dictionary.specs.Form.{is_numeric, is_digits_then_fs, is_compressed_numeric, digits_match_form}
use Rattle.dictionary.specs.Form.{length_and_digits_fit_row}
use Rattle.dictionary.specs.TerminalType.{listed_terminal_type}
use Rattle.store.specs.Place.{row_offset, row_place_bytes, value_in_place, row_value, object_value_in}
use Rattle.afl.specs.Entry.{valid_entry}
use Rattle.afl.specs.Records.{afl_entries, afl_length_is_multiple_of4, sum_over_entries, accepts_afl}
use Rattle.analysis.specs.Action.{card_and_kernel_support_on_device_cvm, transaction_limit}
use Rattle.analysis.specs.Digits.{append_decimal_digits, amount_of}
use Rattle.analysis.specs.Value.{first_bytes_zero_padded}
use Rattle.analysis.specs.Cvm.{aip_and_configuration_support_on_device_cvm}
use Rattle.analysis.specs.declared.choice.Choice.{Choice}
use Rattle.analysis.specs.declared.cvm.Cvm.{Cvm}
use Rattle.session_record.specs.declared.Outcome.{Outcome}
use Rattle.session_record.specs.declared.AwaitedResponse.{AwaitedResponse}
use Rattle.session_record.specs.declared.Phase.{Phase}
use Rattle.session_record.specs.Numbers.{outcome_number, reason_matches_outcome, outcome_of_nonzero_reason}
use Rattle.session_record.specs.declared.Session.{Session}
use Rattle.session_record.specs.Inner.{place_length_and_value_fit_row}
use Rattle.session_record.specs.Session.{session_of, ending_of}
use Rattle.session_record.specs.Ranges.{is_present_if_required_at_start, all_required_at_start_present}
use Rattle.session_record.specs.Ranges.{last_response_objects_absent, in_running_ranges, expiry_pan_and_cdol1_non_empty}
use Rattle.session_record.specs.Ranges.{track2_and_bitmaps_non_empty, in_fresh_ranges, in_gpo_ranges, in_record_ranges}
use Rattle.session_record.specs.Ranges.{in_cryptogram_ranges, in_checksum_ranges, in_ended_ranges}
use Rattle.session_record.specs.Ranges.{session_record_in_ranges}
use Rattle.session_record.proofs.Along.{fit_along, each_along}
use Rattle.session_record.proofs.Stores.{storing, without}

-- ---- outcomes and reasons

numbers : map outcome_number (Outcome.Approved ∷ Outcome.OnlineRequest ∷ Outcome.Declined ∷ Outcome.Ended
    ∷ Outcome.SelectNext ∷ []) ≡ 0 ∷ 1 ∷ 2 ∷ 3 ∷ 4 ∷ []
numbers = refl

abbrev reasons : List ℕ
reasons = 0 ∷ 1 ∷ 2 ∷ 3 ∷ 4 ∷ 5 ∷ 6 ∷ 7 ∷ 8 ∷ 9 ∷ 10 ∷ 11 ∷ 12 ∷ []

-- reason 0 alone goes with a decision
abbrev decision : List Bool
decision = true ∷ replicate 12 false

with_approved : map (reason_matches_outcome Outcome.Approved) reasons ≡ decision
unfolding reason_matches_outcome
with_approved = refl

with_online_request : map (reason_matches_outcome Outcome.OnlineRequest) reasons ≡ decision
unfolding reason_matches_outcome
with_online_request = refl

with_declined : map (reason_matches_outcome Outcome.Declined) reasons ≡ decision
unfolding reason_matches_outcome
with_declined = refl

-- 1 to 11 without 6 with ended, and 6 alone with select next
with_ended : map (reason_matches_outcome Outcome.Ended) reasons
    ≡ false ∷ true ∷ true ∷ true ∷ true ∷ true ∷ false ∷ true ∷ true ∷ true ∷ true ∷ true ∷ false ∷ []
unfolding reason_matches_outcome both
with_ended = refl

with_select_next : map (reason_matches_outcome Outcome.SelectNext) reasons
    ≡ false ∷ false ∷ false ∷ false ∷ false ∷ false ∷ true ∷ false ∷ false ∷ false ∷ false ∷ false ∷ false ∷ []
unfolding reason_matches_outcome
with_select_next = refl

outcomes : map outcome_of_nonzero_reason (5 ∷ 6 ∷ 7 ∷ []) ≡ Outcome.Ended ∷ Outcome.SelectNext ∷ Outcome.Ended ∷ []
unfolding outcome_of_nonzero_reason if
outcomes = refl

-- 130 commands and 131
ended_counts : map (in_ended_ranges (ending_of Outcome.Ended 1)) (0 ∷ 130 ∷ 131 ∷ []) ≡ true ∷ true ∷ false ∷ []
unfolding in_ended_ranges reason_matches_outcome both
ended_counts = refl

-- ---- stores

-- what a start must bring, and 95; the limits are 1.00, for on-device CVM 2.00
abbrev started : List (ℕ × List ℕ)
started =
    (0x9A, 0x25 ∷ 0x12 ∷ 0x31 ∷ []) ∷ (0x9C, 0x00 ∷ []) ∷ (0x9F02, 0 ∷ 0 ∷ 0 ∷ 0 ∷ 0x10 ∷ 0x00 ∷ [])
    ∷ (0x9F09, 0 ∷ 2 ∷ []) ∷ (0x9F1A, 0x08 ∷ 0x40 ∷ [])
    ∷ (0x9F33, 0xE0 ∷ 0x68 ∷ 0xC8 ∷ []) ∷ (0x9F35, 0x22 ∷ []) ∷ (0x9F37, 1 ∷ 2 ∷ 3 ∷ 4 ∷ []) ∷ (0xDF8120, replicate 5 0)
    ∷ (0xDF8121, replicate 5 0) ∷ (0xDF8122, replicate 5 0)
    ∷ (0xDF8123, replicate 6 0) ∷ (0xDF8124, 0 ∷ 0 ∷ 0 ∷ 0 ∷ 0x01 ∷ 0x00 ∷ [])
    ∷ (0xDF8125, 0 ∷ 0 ∷ 0 ∷ 0 ∷ 0x02 ∷ 0x00 ∷ []) ∷ (0xDF8126, replicate 6 0) ∷ (0xDF811B, 0x20 ∷ [])
    ∷ (0x9F6A, replicate 4 0) ∷ (0x95, replicate 5 0) ∷ []

-- EMV mode and an AFL of two records
abbrev opened : List (ℕ × List ℕ)
opened = (0x82, 0x00 ∷ 0x80 ∷ []) ∷ (0x94, 0x08 ∷ 1 ∷ 2 ∷ 0 ∷ []) ∷ started

-- what the cryptogram needs, and the CVM Results
abbrev complete : List (ℕ × List ℕ)
complete =
    (0x5F24, 0x25 ∷ 0x12 ∷ 0x31 ∷ []) ∷ (0x5A, 0x12 ∷ 0x3F ∷ []) ∷ (0x8C, 0x95 ∷ 0x05 ∷ [])
    ∷ (0x9F34, 0x3F ∷ 0x00 ∷ 0x00 ∷ []) ∷ opened

-- ---- fresh

abbrev on_fresh : ℕ × List (ℕ × List ℕ) → Session
on_fresh (n, l) = session_of Phase.Fresh n (storing l)

-- a count of 1; an object
abbrev fresh_ones : List (ℕ × List (ℕ × List ℕ))
fresh_ones = (0, []) ∷ (1, []) ∷ (0, (0x9C, 0x00 ∷ []) ∷ []) ∷ []

fresh_ones_lem : map (λ x. session_record_in_ranges (on_fresh x)) fresh_ones ≡ true ∷ false ∷ false ∷ []
unfolding fit_along place_length_and_value_fit_row length_and_digits_fit_row digits_match_form is_numeric nibbles in_fresh_ranges
    value_in_place row_offset row_place_bytes row_value object_value_in find_row row_found_shifted dictionary_rows every both either
    if
fresh_ones_lem = each_along on_fresh fresh_ones

-- ---- waiting on GPO

abbrev on_gpo : ℕ → List ℕ → Session
on_gpo n b = session_of (Phase.Waiting AwaitedResponse.Gpo) n b

abbrev gpo_counts : List ℕ
gpo_counts = 0 ∷ 1 ∷ 2 ∷ []

gpo_counts_lem : map (λ n. session_record_in_ranges (on_gpo n (storing started))) gpo_counts ≡ false ∷ true ∷ false ∷ []
unfolding fit_along place_length_and_value_fit_row length_and_digits_fit_row digits_match_form is_numeric nibbles in_gpo_ranges
    in_running_ranges all_required_at_start_present is_present_if_required_at_start last_response_objects_absent listed_terminal_type
    value_in_place row_offset row_place_bytes row_value
    object_value_in find_row row_found_shifted dictionary_rows every both either if
gpo_counts_lem = each_along (λ n. on_gpo n (storing started)) gpo_counts

-- each object that a start must bring is required, and so is 95
abbrev gpo_lacking : List ℕ
gpo_lacking =
    0x9A ∷ 0x9C ∷ 0x9F02 ∷ 0x9F09 ∷ 0x9F1A ∷ 0x9F33 ∷ 0x9F35 ∷ 0x9F37 ∷ 0xDF8120 ∷ 0xDF8121 ∷ 0xDF8122 ∷ 0xDF8123
    ∷ 0xDF8124 ∷ 0xDF8125 ∷ 0xDF8126 ∷ 0xDF811B ∷ 0x9F6A ∷ 0x95 ∷ []

gpo_lacking_lem : map (λ t. session_record_in_ranges (on_gpo 1 (without t started))) gpo_lacking ≡ replicate 18 false
unfolding fit_along place_length_and_value_fit_row length_and_digits_fit_row digits_match_form is_numeric nibbles in_gpo_ranges
    in_running_ranges all_required_at_start_present is_present_if_required_at_start last_response_objects_absent listed_terminal_type
    value_in_place row_offset row_place_bytes row_value
    object_value_in find_row row_found_shifted dictionary_rows every both either if
gpo_lacking_lem = each_along (λ t. on_gpo 1 (without t started)) gpo_lacking

-- 82; 94; a TVR bit; each object of the last answer; a terminal type that is not listed; a digit that is none; a length
-- over the row's and two under it. Then an account number, an empty one, the least list of rules, and 9F34
abbrev gpo_with : List (ℕ × List ℕ)
gpo_with =
    (0x82, 0x00 ∷ 0x80 ∷ []) ∷ (0x94, 0x08 ∷ 1 ∷ 2 ∷ 0 ∷ []) ∷ (0x95, 0 ∷ 0 ∷ 0 ∷ 0 ∷ 1 ∷ []) ∷ (0x9F10, [])
    ∷ (0x9F26, replicate 8 0) ∷ (0x9F27, 0 ∷ []) ∷ (0x9F36, 0 ∷ 1 ∷ []) ∷ (0x9F61, 0 ∷ 1 ∷ [])
    ∷ (0x9F35, 0x17 ∷ []) ∷ (0x9A, 0x25 ∷ 0x12 ∷ 0x3A ∷ []) ∷ (0xDF8124, replicate 7 0) ∷ (0x9F07, 0xFF ∷ [])
    ∷ (0x8E, replicate 9 0)
    ∷ (0x5A, 0x12 ∷ 0x3F ∷ []) ∷ (0x5A, []) ∷ (0x8E, replicate 10 0) ∷ (0x9F34, 0x3F ∷ 0x00 ∷ 0x00 ∷ []) ∷ []

gpo_with_lem : map (λ x. session_record_in_ranges (on_gpo 1 (storing (x ∷ started)))) gpo_with
    ≡ false ∷ false ∷ false ∷ false ∷ false ∷ false ∷ false ∷ false ∷ false ∷ false ∷ false ∷ false ∷ false ∷ true
    ∷ true ∷ true ∷ true ∷ []
unfolding fit_along place_length_and_value_fit_row length_and_digits_fit_row digits_match_form is_numeric is_compressed_numeric
    is_digits_then_fs nibbles in_gpo_ranges in_running_ranges all_required_at_start_present is_present_if_required_at_start
    last_response_objects_absent listed_terminal_type value_in_place
    row_offset row_place_bytes row_value object_value_in find_row row_found_shifted dictionary_rows every both either if
gpo_with_lem = each_along (λ x. on_gpo 1 (storing (x ∷ started))) gpo_with

-- rows of annex A alone: an object of the session in its length and out of it; one of the card that names no template;
-- one of start or card at its greatest length; digits of 9F20, valid and invalid
abbrev gpo_rows : List (ℕ × List ℕ)
gpo_rows =
    (0xDF8115, replicate 6 0) ∷ (0xDF8115, replicate 5 0) ∷ (0x80, []) ∷ (0x9F70, replicate 192 0xFF)
    ∷ (0x9F20, 0x12 ∷ 0x3F ∷ []) ∷ (0x9F20, 0x12 ∷ 0xF3 ∷ []) ∷ []

gpo_rows_lem : map (λ x. session_record_in_ranges (on_gpo 1 (storing (x ∷ started)))) gpo_rows ≡ true ∷ false ∷ true ∷ true
    ∷ true ∷ false ∷ []
unfolding fit_along place_length_and_value_fit_row length_and_digits_fit_row digits_match_form is_numeric is_compressed_numeric
    is_digits_then_fs nibbles in_gpo_ranges in_running_ranges all_required_at_start_present is_present_if_required_at_start
    last_response_objects_absent listed_terminal_type value_in_place
    row_offset row_place_bytes row_value object_value_in find_row row_found_shifted dictionary_rows every both either if
gpo_rows_lem = each_along (λ x. on_gpo 1 (storing (x ∷ started))) gpo_rows

-- ---- waiting on a record: k from 1 to R, 1 + k commands

abbrev on_record : ℕ → ℕ → ℕ → List (ℕ × List ℕ) → Session
on_record k limit n l = session_of (Phase.Waiting (AwaitedResponse.Record (record { number = k; limit = limit }))) n
    (storing l)

abbrev numbered : ℕ × ℕ → Session
numbered (k, n) = on_record k 100 n opened

abbrev record_counts : List (ℕ × ℕ)
record_counts = (0, 1) ∷ (1, 2) ∷ (2, 3) ∷ (3, 4) ∷ (1, 1) ∷ (1, 3) ∷ []

record_counts_lem : map (λ x. session_record_in_ranges (numbered x)) record_counts ≡ false ∷ true ∷ true ∷ false ∷ false ∷ false
    ∷ []
unfolding fit_along place_length_and_value_fit_row length_and_digits_fit_row digits_match_form is_numeric nibbles in_record_ranges
    transaction_limit card_and_kernel_support_on_device_cvm aip_and_configuration_support_on_device_cvm amount_of append_decimal_digits
    first_bytes_zero_padded in_running_ranges all_required_at_start_present
    is_present_if_required_at_start last_response_objects_absent listed_terminal_type accepts_afl afl_length_is_multiple_of4 afl_entries
    valid_entry sum_over_entries value_in_place row_offset row_place_bytes row_value object_value_in find_row row_found_shifted
    dictionary_rows every both either if
record_counts_lem = each_along numbered record_counts

-- EMV mode; a first record of 0 in the AFL; a TVR bit
abbrev record_with : List (ℕ × List ℕ)
record_with = (0x82, 0x00 ∷ 0x80 ∷ []) ∷ (0x94, 0x08 ∷ 0 ∷ 2 ∷ 0 ∷ []) ∷ (0x95, 0x80 ∷ 0 ∷ 0 ∷ 0 ∷ 0 ∷ []) ∷ []

record_with_lem : map (λ x. session_record_in_ranges (on_record 1 100 2 (x ∷ opened))) record_with ≡ true ∷ false ∷ false ∷ []
unfolding fit_along place_length_and_value_fit_row length_and_digits_fit_row digits_match_form is_numeric nibbles in_record_ranges
    transaction_limit card_and_kernel_support_on_device_cvm aip_and_configuration_support_on_device_cvm amount_of append_decimal_digits
    first_bytes_zero_padded in_running_ranges all_required_at_start_present
    is_present_if_required_at_start last_response_objects_absent listed_terminal_type accepts_afl afl_length_is_multiple_of4 afl_entries
    valid_entry sum_over_entries value_in_place row_offset row_place_bytes row_value object_value_in find_row row_found_shifted
    dictionary_rows every both either if
record_with_lem = each_along (λ x. on_record 1 100 2 (x ∷ opened)) record_with

-- byte 2 of 82 and DF811B: b8 set, whatever DF811B says; all but b8 set, with all but b8 of DF811B and with b8 alone
abbrev in_mode : ℕ × ℕ → Session
in_mode (aip, configuration) = on_record 1 100 2 ((0x82, 0 ∷ aip ∷ []) ∷ (0xDF811B, configuration ∷ []) ∷ opened)

abbrev record_modes : List (ℕ × ℕ)
record_modes = (0x80, 0xFF) ∷ (0x80, 0x00) ∷ (0x7F, 0x7F) ∷ (0x7F, 0x80) ∷ []

record_modes_lem : map (λ x. session_record_in_ranges (in_mode x)) record_modes ≡ true ∷ true ∷ true ∷ false ∷ []
unfolding fit_along place_length_and_value_fit_row length_and_digits_fit_row digits_match_form is_numeric nibbles in_record_ranges
    transaction_limit card_and_kernel_support_on_device_cvm aip_and_configuration_support_on_device_cvm amount_of append_decimal_digits
    first_bytes_zero_padded in_running_ranges all_required_at_start_present
    is_present_if_required_at_start last_response_objects_absent listed_terminal_type accepts_afl afl_length_is_multiple_of4 afl_entries
    valid_entry sum_over_entries value_in_place row_offset row_place_bytes row_value object_value_in find_row row_found_shifted
    dictionary_rows every both either if
record_modes_lem = each_along in_mode record_modes

-- a card with either limit, with none and with one more; on-device CVM with either; and on-device CVM where b6 of
-- DF811B alone is clear
abbrev with_limit : ℕ × (ℕ × ℕ) → Session
with_limit (aip, (configuration, limit)) = on_record 1 limit 2 ((0x82, aip ∷ 0x80 ∷ []) ∷ (0xDF811B, configuration ∷ [])
    ∷ opened)

abbrev record_limits : List (ℕ × (ℕ × ℕ))
record_limits =
    (0xFD, (0xFF, 100)) ∷ (0xFD, (0xFF, 200)) ∷ (0xFD, (0xFF, 0)) ∷ (0xFD, (0xFF, 101)) ∷ (0x02, (0x20, 100))
    ∷ (0x02, (0x20, 200)) ∷ (0x02, (0xDF, 100)) ∷ (0x02, (0xDF, 200)) ∷ []

record_limits_lem : map (λ x. session_record_in_ranges (with_limit x)) record_limits ≡ true ∷ false ∷ false ∷ false ∷ false
    ∷ true ∷ true ∷ false ∷ []
unfolding fit_along place_length_and_value_fit_row length_and_digits_fit_row digits_match_form is_numeric nibbles in_record_ranges
    transaction_limit card_and_kernel_support_on_device_cvm aip_and_configuration_support_on_device_cvm amount_of append_decimal_digits
    first_bytes_zero_padded in_running_ranges all_required_at_start_present
    is_present_if_required_at_start last_response_objects_absent listed_terminal_type accepts_afl afl_length_is_multiple_of4 afl_entries
    valid_entry sum_over_entries value_in_place row_offset row_place_bytes row_value object_value_in find_row row_found_shifted
    dictionary_rows every both either if
record_limits_lem = each_along with_limit record_limits

-- ---- waiting on the cryptogram: 2 + R commands

abbrev on_cryptogram : ℕ → ℕ → List ℕ → Session
on_cryptogram limit n b =
    session_of
    (Phase.Waiting (AwaitedResponse.Cryptogram (record { choice = Choice.Online; cvm = Cvm.OnlinePin; limit = limit })))
    n b

abbrev cryptogram_counts : List ℕ
cryptogram_counts = 3 ∷ 4 ∷ 5 ∷ []

cryptogram_counts_lem : map (λ n. session_record_in_ranges (on_cryptogram 100 n (storing complete))) cryptogram_counts ≡ false
    ∷ true ∷ false ∷ []
unfolding fit_along place_length_and_value_fit_row length_and_digits_fit_row digits_match_form is_numeric is_compressed_numeric
    is_digits_then_fs nibbles in_cryptogram_ranges expiry_pan_and_cdol1_non_empty transaction_limit card_and_kernel_support_on_device_cvm
    aip_and_configuration_support_on_device_cvm amount_of
    append_decimal_digits first_bytes_zero_padded in_running_ranges all_required_at_start_present is_present_if_required_at_start
    last_response_objects_absent listed_terminal_type accepts_afl afl_length_is_multiple_of4 afl_entries valid_entry sum_over_entries
    value_in_place row_offset row_place_bytes row_value object_value_in find_row
    row_found_shifted dictionary_rows every both either if
cryptogram_counts_lem = each_along (λ n. on_cryptogram 100 n (storing complete)) cryptogram_counts

-- each needed object absent, 9F34, and 82 and 94
abbrev cryptogram_lacking : List ℕ
cryptogram_lacking = 0x5F24 ∷ 0x5A ∷ 0x8C ∷ 0x9F34 ∷ 0x82 ∷ 0x94 ∷ 0x95 ∷ []

cryptogram_lacking_lem : map (λ t. session_record_in_ranges (on_cryptogram 100 4 (without t complete))) cryptogram_lacking
    ≡ replicate 7 false
unfolding fit_along place_length_and_value_fit_row length_and_digits_fit_row digits_match_form is_numeric is_compressed_numeric
    is_digits_then_fs nibbles in_cryptogram_ranges expiry_pan_and_cdol1_non_empty transaction_limit card_and_kernel_support_on_device_cvm
    aip_and_configuration_support_on_device_cvm amount_of
    append_decimal_digits first_bytes_zero_padded in_running_ranges all_required_at_start_present is_present_if_required_at_start
    last_response_objects_absent listed_terminal_type accepts_afl afl_length_is_multiple_of4 afl_entries valid_entry sum_over_entries
    value_in_place row_offset row_place_bytes row_value object_value_in find_row
    row_found_shifted dictionary_rows every both either if
cryptogram_lacking_lem = each_along (λ t. on_cryptogram 100 4 (without t complete)) cryptogram_lacking

-- any TVR; an empty account number; an empty list; byte 2 b8 of 82 alone clear
abbrev cryptogram_with : List (ℕ × List ℕ)
cryptogram_with = (0x95, 0x80 ∷ 0 ∷ 0 ∷ 0 ∷ 0 ∷ []) ∷ (0x5A, []) ∷ (0x8C, []) ∷ (0x82, 0x00 ∷ 0x7F ∷ []) ∷ []

cryptogram_with_lem : map (λ x. session_record_in_ranges (on_cryptogram 100 4 (storing (x ∷ complete)))) cryptogram_with ≡ true
    ∷ false ∷ false ∷ false ∷ []
unfolding fit_along place_length_and_value_fit_row length_and_digits_fit_row digits_match_form is_numeric is_compressed_numeric
    is_digits_then_fs nibbles in_cryptogram_ranges expiry_pan_and_cdol1_non_empty transaction_limit card_and_kernel_support_on_device_cvm
    aip_and_configuration_support_on_device_cvm amount_of
    append_decimal_digits first_bytes_zero_padded in_running_ranges all_required_at_start_present is_present_if_required_at_start
    last_response_objects_absent listed_terminal_type accepts_afl afl_length_is_multiple_of4 afl_entries valid_entry sum_over_entries
    value_in_place row_offset row_place_bytes row_value object_value_in find_row
    row_found_shifted dictionary_rows every both either if
cryptogram_with_lem = each_along (λ x. on_cryptogram 100 4 (storing (x ∷ complete))) cryptogram_with

-- a card with either limit, on-device CVM with either
abbrev asked_of : ℕ × ℕ → Session
asked_of (aip, limit) = on_cryptogram limit 4 (storing ((0x82, aip ∷ 0x80 ∷ []) ∷ complete))

abbrev cryptogram_limits : List (ℕ × ℕ)
cryptogram_limits = (0x00, 100) ∷ (0x00, 200) ∷ (0x02, 100) ∷ (0x02, 200) ∷ []

cryptogram_limits_lem : map (λ x. session_record_in_ranges (asked_of x)) cryptogram_limits ≡ true ∷ false ∷ false ∷ true ∷ []
unfolding fit_along place_length_and_value_fit_row length_and_digits_fit_row digits_match_form is_numeric is_compressed_numeric
    is_digits_then_fs nibbles in_cryptogram_ranges expiry_pan_and_cdol1_non_empty transaction_limit card_and_kernel_support_on_device_cvm
    aip_and_configuration_support_on_device_cvm amount_of
    append_decimal_digits first_bytes_zero_padded in_running_ranges all_required_at_start_present is_present_if_required_at_start
    last_response_objects_absent listed_terminal_type accepts_afl afl_length_is_multiple_of4 afl_entries valid_entry sum_over_entries
    value_in_place row_offset row_place_bytes row_value object_value_in find_row
    row_found_shifted dictionary_rows every both either if
cryptogram_limits_lem = each_along asked_of cryptogram_limits

-- ---- waiting on the checksum: 2 + R commands; the track need not take the digits

abbrev striped : List (ℕ × List ℕ)
striped = (0x9F6B, 0xFF ∷ []) ∷ (0x9F65, 0 ∷ 0 ∷ []) ∷ (0x9F66, 0 ∷ 0 ∷ []) ∷ (0x9F67, 0x09 ∷ []) ∷ (0x82, 0 ∷ 0 ∷ [])
    ∷ opened

abbrev on_checksum : ℕ → ℕ → List ℕ → Session
on_checksum limit n b = session_of (Phase.Waiting (AwaitedResponse.Checksum (record { limit = limit }))) n b

abbrev checked_with : ℕ × ℕ → Session
checked_with (limit, n) = on_checksum limit n (storing striped)

abbrev checksum_counts : List (ℕ × ℕ)
checksum_counts = (100, 3) ∷ (100, 4) ∷ (100, 5) ∷ (200, 4) ∷ []

checksum_counts_lem : map (λ x. session_record_in_ranges (checked_with x)) checksum_counts ≡ false ∷ true ∷ false ∷ false ∷ []
unfolding fit_along place_length_and_value_fit_row length_and_digits_fit_row digits_match_form is_numeric nibbles in_checksum_ranges
    track2_and_bitmaps_non_empty transaction_limit card_and_kernel_support_on_device_cvm aip_and_configuration_support_on_device_cvm
    amount_of append_decimal_digits first_bytes_zero_padded
    in_running_ranges all_required_at_start_present is_present_if_required_at_start last_response_objects_absent listed_terminal_type
    accepts_afl afl_length_is_multiple_of4 afl_entries valid_entry sum_over_entries value_in_place row_offset row_place_bytes row_value
    object_value_in find_row row_found_shifted dictionary_rows every
    both either if
checksum_counts_lem = each_along checked_with checksum_counts

-- each needed object absent, and 82, 94 and 95
abbrev checksum_lacking : List ℕ
checksum_lacking = 0x9F6B ∷ 0x9F65 ∷ 0x9F66 ∷ 0x9F67 ∷ 0x82 ∷ 0x94 ∷ 0x95 ∷ []

checksum_lacking_lem : map (λ t. session_record_in_ranges (on_checksum 100 4 (without t striped))) checksum_lacking
    ≡ replicate 7 false
unfolding fit_along place_length_and_value_fit_row length_and_digits_fit_row digits_match_form is_numeric nibbles in_checksum_ranges
    track2_and_bitmaps_non_empty transaction_limit card_and_kernel_support_on_device_cvm aip_and_configuration_support_on_device_cvm
    amount_of append_decimal_digits first_bytes_zero_padded
    in_running_ranges all_required_at_start_present is_present_if_required_at_start last_response_objects_absent listed_terminal_type
    accepts_afl afl_length_is_multiple_of4 afl_entries valid_entry sum_over_entries value_in_place row_offset row_place_bytes row_value
    object_value_in find_row row_found_shifted dictionary_rows every
    both either if
checksum_lacking_lem = each_along (λ t. on_checksum 100 4 (without t striped)) checksum_lacking

-- an empty track; EMV mode; b8 of DF811B; a TVR bit; the counter; the code; and all of DF811B but b8
abbrev checksum_with : List (ℕ × List ℕ)
checksum_with =
    (0x9F6B, []) ∷ (0x82, 0 ∷ 0x80 ∷ []) ∷ (0xDF811B, 0x80 ∷ []) ∷ (0x95, 0 ∷ 0 ∷ 0 ∷ 0 ∷ 1 ∷ []) ∷ (0x9F36, 0 ∷ 1 ∷ [])
    ∷ (0x9F61, 0 ∷ 1 ∷ []) ∷ (0xDF811B, 0x7F ∷ []) ∷ []

checksum_with_lem : map (λ x. session_record_in_ranges (on_checksum 100 4 (storing (x ∷ striped)))) checksum_with
    ≡ false ∷ false ∷ false ∷ false ∷ false ∷ false ∷ true ∷ []
unfolding fit_along place_length_and_value_fit_row length_and_digits_fit_row digits_match_form is_numeric nibbles in_checksum_ranges
    track2_and_bitmaps_non_empty transaction_limit card_and_kernel_support_on_device_cvm aip_and_configuration_support_on_device_cvm
    amount_of append_decimal_digits first_bytes_zero_padded
    in_running_ranges all_required_at_start_present is_present_if_required_at_start last_response_objects_absent listed_terminal_type
    accepts_afl afl_length_is_multiple_of4 afl_entries valid_entry sum_over_entries value_in_place row_offset row_place_bytes row_value
    object_value_in find_row row_found_shifted dictionary_rows every
    both either if
checksum_with_lem = each_along (λ x. on_checksum 100 4 (storing (x ∷ striped))) checksum_with
