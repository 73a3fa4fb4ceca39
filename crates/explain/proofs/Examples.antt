-- Worked explanations, by computation: a record's word, with the objects that the row names put over one record that
-- waits on the cryptogram or has ended. The ranges are judged by one walk over the store, which Along ties to the rule.
-- Assumes nothing.
use mathlib.Core.Path.{◌≡◌, refl}
use mathlib.Core.List.{List, [], ◌∷◌, ◌++◌, map}
use Prim.Native.Nat.{ℕ}
use lib.Dec.{eqb}
use lib.ListN.{replicate}
use Rattle.basics.specs.Choice.{if, both, either, every}
use Rattle.basics.specs.Number.{nibbles}
use Rattle.dictionary.specs.Named.{row_number_of_tag_or_zero}
use Rattle.dictionary.specs.Rows.{dictionary_rows, row_found_shifted, find_row, store_size}
use Rattle.dictionary.specs.Form.{is_numeric, is_digits_then_fs, is_compressed_numeric, digits_match_form}
use Rattle.dictionary.specs.Form.{length_and_digits_fit_row}
use Rattle.dictionary.specs.TerminalType.{listed_terminal_type}
use Rattle.store.specs.Place.{row_offset, row_place_bytes, value_in_place, row_value, put_row, object_value_in}
use Rattle.afl.specs.Entry.{valid_entry}
use Rattle.afl.specs.Records.{afl_entries, afl_length_is_multiple_of4, sum_over_entries, accepts_afl}
use Rattle.analysis.specs.Bits.{has_bit_counted_from_zero_at_byte1b8}
use Rattle.analysis.specs.Value.{first_bytes_zero_padded}
use Rattle.analysis.specs.Choice.{tvr_bit_is_in_either_action_code, lowest_bit_from_start_within_count, lowest_tvr_bit_in_codes, iac_or_default}
use Rattle.analysis.specs.Choice.{some_tvr_bit_in_codes_of_stage, online_capability_by_digit, terminal_action_analysis}
use Rattle.analysis.specs.Digits.{append_decimal_digits, amount_of}
use Rattle.analysis.specs.Cvm.{aip_and_configuration_support_on_device_cvm}
use Rattle.analysis.specs.Action.{card_and_kernel_support_on_device_cvm, transaction_limit, action_codes_of, choice_for_tvr}
use Rattle.analysis.specs.declared.choice.Choice.{Choice}
use Rattle.analysis.specs.declared.cvm.Cvm.{Cvm}
use Rattle.session_record.specs.declared.Outcome.{Outcome}
use Rattle.session_record.specs.declared.AwaitedResponse.{AwaitedResponse}
use Rattle.session_record.specs.declared.Phase.{Phase}
use Rattle.session_record.specs.declared.Session.{Session}
use Rattle.session_record.specs.Inner.{place_length_and_value_fit_row}
use Rattle.session_record.specs.Numbers.{reason_matches_outcome}
use Rattle.session_record.specs.Session.{session_of, ending_of}
use Rattle.session_record.specs.Ranges.{is_present_if_required_at_start, all_required_at_start_present}
use Rattle.session_record.specs.Ranges.{last_response_objects_absent, in_running_ranges, expiry_pan_and_cdol1_non_empty}
use Rattle.session_record.specs.Ranges.{in_fresh_ranges, in_gpo_ranges, in_record_ranges, in_cryptogram_ranges, in_ended_ranges}
use Rattle.session_record.proofs.Along.{fit_along}
use Rattle.session.specs.Answer.{outcome_for_cryptogram_type}
use Rattle.explain.specs.declared.Stage.{Stage}
use Rattle.explain.specs.declared.ActionCodeHolder.{ActionCodeHolder}
use Rattle.explain.specs.declared.Explanation.{Explanation}
use Rattle.explain.specs.Explain.{deciding_stage_in, deciding_stage_if_its_data_present, action_code_holder_of_bit}
use Rattle.explain.specs.Explain.{action_codes_of_stage, explanation_at_stage, rank_of_cryptogram_type}
use Rattle.explain.specs.Explain.{explanation_of_ending, explanation_of_ending_by_mode}
use Rattle.explain.specs.Word.{explained_choice_word, explanation_word}
use Rattle.explain.proofs.Along.{told, told_along_lem}

-- ---- numbers

words : map explanation_word (Explanation.Refused ∷ Explanation.Reason 6 ∷ Explanation.NoChoice
    ∷ Explanation.LowerCryptogram ∷ Explanation.Unforced Stage.OnlineOnly ∷ [])
    ++ (explained_choice_word Stage.Denial ActionCodeHolder.Terminal 9 ∷ explained_choice_word Stage.Default
    ActionCodeHolder.Both 39 ∷ explained_choice_word Stage.Online ActionCodeHolder.Card 0 ∷ [])
    ≡ 0x20019 ∷ 0x30006 ∷ 0x40000 ∷ 0x50000 ∷ 0x610FF ∷ 0x60209 ∷ 0x62327 ∷ 0x63100 ∷ []
words = refl

-- ---- records

abbrev Object : Type 0
Object = ℕ × List ℕ

-- objects put one by one into the empty store, without those of a tag
abbrev without : ℕ → List Object → List ℕ
without x [] = replicate store_size 0
without x ((t, v) ∷ more) = if (eqb t x) (without x more)
    (put_row dictionary_rows (without x more) (row_number_of_tag_or_zero t) v)

-- what a start brings, and 95
abbrev started : ℕ → List ℕ → List Object
started type results =
    (0x9A, 0x25 ∷ 0x11 ∷ 0x16 ∷ []) ∷ (0x9C, 0x00 ∷ []) ∷ (0x9F02, 0 ∷ 0 ∷ 0 ∷ 0 ∷ 0x12 ∷ 0x34 ∷ [])
    ∷ (0x9F09, 0 ∷ 2 ∷ []) ∷ (0x9F1A, 0x00 ∷ 0x56 ∷ [])
    ∷ (0x9F33, 0xE0 ∷ 0xF8 ∷ 0xC8 ∷ []) ∷ (0x9F35, type ∷ []) ∷ (0x9F37, 1 ∷ 2 ∷ 3 ∷ 4 ∷ []) ∷ (0xDF8120, replicate 5 0)
    ∷ (0xDF8121, replicate 5 0) ∷ (0xDF8122, replicate 5 0)
    ∷ (0xDF8123, 0 ∷ 0 ∷ 0 ∷ 0 ∷ 0x50 ∷ 0x00 ∷ []) ∷ (0xDF8124, 0 ∷ 0 ∷ 0 ∷ 1 ∷ 0 ∷ 0 ∷ [])
    ∷ (0xDF8125, 0 ∷ 0 ∷ 0 ∷ 2 ∷ 0 ∷ 0 ∷ []) ∷ (0xDF811B, 0 ∷ []) ∷ (0x9F6A, replicate 4 0)
    ∷ (0xDF8126, 0 ∷ 0 ∷ 0 ∷ 0 ∷ 0x25 ∷ 0x00 ∷ []) ∷ (0x95, results) ∷ []

-- EMV mode and an AFL of two records
abbrev opened : ℕ → List ℕ → List Object
opened type results = (0x82, 0x00 ∷ 0x80 ∷ []) ∷ (0x94, 0x08 ∷ 1 ∷ 2 ∷ 0 ∷ []) ∷ started type results

-- expiry date, PAN, CDOL1 and the CVM Results; no action code of the card
abbrev complete : ℕ → List ℕ → List Object
complete type results =
    (0x5F24, 0x30 ∷ 0x12 ∷ 0x31 ∷ []) ∷ (0x5A, 0x47 ∷ 0x61 ∷ 0x73 ∷ 0x90 ∷ 0x01 ∷ 0x01 ∷ 0x00 ∷ 0x10 ∷ [])
    ∷ (0x8C, 0x95 ∷ 0x05 ∷ [])
    ∷ (0x9F34, 0x3F ∷ 0x00 ∷ 0x00 ∷ []) ∷ opened type results

-- counter and cryptogram, and the type of the cryptogram
abbrev answered : ℕ → List Object
answered information =
    (0x9F27, information ∷ []) ∷ (0x9F36, 0x00 ∷ 0x01 ∷ []) ∷ (0x9F26, 1 ∷ 2 ∷ 3 ∷ 4 ∷ 5 ∷ 6 ∷ 7 ∷ 8 ∷ []) ∷ []

-- five bytes
abbrev five : ℕ → ℕ → ℕ → ℕ → ℕ → List ℕ
five a b c d e = a ∷ b ∷ c ∷ d ∷ e ∷ []

-- byte 1 b8 alone, and no bit
abbrev usual : List ℕ
usual = five 0x80 0 0 0 0

abbrev zero5 : List ℕ
zero5 = five 0 0 0 0 0

-- a record that waits on the cryptogram with a choice
abbrev waiting : Choice → ℕ → List ℕ → List Object → Session
waiting c type results more =
    session_of (Phase.Waiting (AwaitedResponse.Cryptogram (record { choice = c; cvm = Cvm.NoCvm; limit = 10000 }))) 4
    (without 0 (more ++ complete type results))

-- one that ended with an outcome and reason 0, without an object
abbrev ended : ℕ → Outcome → ℕ → List Object → Session
ended lacking o information more = session_of (Phase.Ended (ending_of o 0)) 4
    (without lacking (more ++ answered information ++ complete 0x22 usual))

-- the word of a refusal, of no choice and of a lower cryptogram
abbrev refused : ℕ
refused = explanation_word Explanation.Refused

abbrev no_choice : ℕ
no_choice = explanation_word Explanation.NoChoice

abbrev lower : ℕ
lower = explanation_word Explanation.LowerCryptogram

-- ---- waiting on the cryptogram

-- an absent online code is ones: the card requests bit 0; with a code of zeros no bit forces anything, and a choice
-- that does not fit is refused
waiting_online : told (waiting Choice.Online 0x22 usual [] ∷ waiting Choice.Offline 0x22 usual ((0x9F0F, zero5) ∷ [])
    ∷ waiting Choice.Offline 0x22 usual []
    ∷ waiting Choice.Online 0x22 (five 0x80 0x40 0 0 0) ((0x9F0F, zero5) ∷ (0xDF8122, five 0 0x40 0 0 0) ∷ []) ∷ [])
    ≡ explained_choice_word Stage.Online ActionCodeHolder.Card 0 ∷ explained_choice_word Stage.Online
    ActionCodeHolder.Nobody 255 ∷ refused ∷ explained_choice_word Stage.Online ActionCodeHolder.Terminal 9 ∷ []
unfolding deciding_stage_in deciding_stage_if_its_data_present action_code_holder_of_bit action_codes_of_stage explanation_at_stage
    has_bit_counted_from_zero_at_byte1b8 first_bytes_zero_padded tvr_bit_is_in_either_action_code lowest_bit_from_start_within_count lowest_tvr_bit_in_codes
    iac_or_default some_tvr_bit_in_codes_of_stage online_capability_by_digit terminal_action_analysis action_codes_of choice_for_tvr
    fit_along place_length_and_value_fit_row length_and_digits_fit_row digits_match_form is_numeric is_compressed_numeric
    is_digits_then_fs nibbles put_row row_number_of_tag_or_zero object_value_in row_value row_place_bytes value_in_place row_offset
    find_row row_found_shifted dictionary_rows
    in_cryptogram_ranges transaction_limit card_and_kernel_support_on_device_cvm aip_and_configuration_support_on_device_cvm amount_of
    append_decimal_digits in_running_ranges all_required_at_start_present is_present_if_required_at_start last_response_objects_absent
    expiry_pan_and_cdol1_non_empty listed_terminal_type accepts_afl afl_length_is_multiple_of4 afl_entries valid_entry sum_over_entries
    every both either if
waiting_online = told_along_lem _ _ refl

-- the lowest bit of the denial codes alone, by the terminal, and by both where the lower one is not set; at type 21 too
waiting_denial : told (waiting Choice.Decline 0x22 (five 0x80 0x40 0 0x80 0)
    ((0x9F0E, five 0 0 0 0x80 0) ∷ (0xDF8121, five 0 0x40 0 0x80 0) ∷ [])
    ∷ waiting Choice.Decline 0x22 (five 0x80 0 0 0x80 0) ((0x9F0E, five 0 0 0 0x80 0) ∷ (0xDF8121, five 0 0x40 0 0x80 0)
    ∷ [])
    ∷ waiting Choice.Decline 0x21 (five 0x80 0 0 0x80 0) ((0x9F0E, five 0 0 0 0x80 0) ∷ []) ∷ [])
    ≡ explained_choice_word Stage.Denial ActionCodeHolder.Terminal 9 ∷ explained_choice_word Stage.Denial
    ActionCodeHolder.Both 24 ∷ explained_choice_word Stage.Denial ActionCodeHolder.Card 24 ∷ []
unfolding deciding_stage_in deciding_stage_if_its_data_present action_code_holder_of_bit action_codes_of_stage explanation_at_stage
    has_bit_counted_from_zero_at_byte1b8 first_bytes_zero_padded tvr_bit_is_in_either_action_code lowest_bit_from_start_within_count lowest_tvr_bit_in_codes
    iac_or_default some_tvr_bit_in_codes_of_stage online_capability_by_digit terminal_action_analysis action_codes_of choice_for_tvr
    fit_along place_length_and_value_fit_row length_and_digits_fit_row digits_match_form is_numeric is_compressed_numeric
    is_digits_then_fs nibbles put_row row_number_of_tag_or_zero object_value_in row_value row_place_bytes value_in_place row_offset
    find_row row_found_shifted dictionary_rows
    in_cryptogram_ranges transaction_limit card_and_kernel_support_on_device_cvm aip_and_configuration_support_on_device_cvm amount_of
    append_decimal_digits in_running_ranges all_required_at_start_present is_present_if_required_at_start last_response_objects_absent
    expiry_pan_and_cdol1_non_empty listed_terminal_type accepts_afl afl_length_is_multiple_of4 afl_entries valid_entry sum_over_entries
    every both either if
waiting_denial = told_along_lem _ _ refl

-- the online-only type; the default stage with an absent code, with its last bit, and with none
waiting_types : told (waiting Choice.Online 0x21 usual [] ∷ waiting Choice.Decline 0x23 usual []
    ∷ waiting Choice.Decline 0x26 (five 0x80 0 0 0 1) ((0x9F0D, five 0 0 0 0 1) ∷ (0xDF8120, five 0 0 0 0 1) ∷ [])
    ∷ waiting Choice.Offline 0x36 usual ((0x9F0D, five 0x7F 0xFF 0xFF 0xFF 0xFF) ∷ []) ∷ [])
    ≡ explained_choice_word Stage.OnlineOnly ActionCodeHolder.Nobody 255 ∷ explained_choice_word Stage.Default
    ActionCodeHolder.Card 0 ∷ explained_choice_word Stage.Default ActionCodeHolder.Both 39
    ∷ explained_choice_word Stage.Default ActionCodeHolder.Nobody 255 ∷ []
unfolding deciding_stage_in deciding_stage_if_its_data_present action_code_holder_of_bit action_codes_of_stage explanation_at_stage
    has_bit_counted_from_zero_at_byte1b8 first_bytes_zero_padded tvr_bit_is_in_either_action_code lowest_bit_from_start_within_count lowest_tvr_bit_in_codes
    iac_or_default some_tvr_bit_in_codes_of_stage online_capability_by_digit terminal_action_analysis action_codes_of choice_for_tvr
    fit_along place_length_and_value_fit_row length_and_digits_fit_row digits_match_form is_numeric is_compressed_numeric
    is_digits_then_fs nibbles put_row row_number_of_tag_or_zero object_value_in row_value row_place_bytes value_in_place row_offset
    find_row row_found_shifted dictionary_rows
    in_cryptogram_ranges transaction_limit card_and_kernel_support_on_device_cvm aip_and_configuration_support_on_device_cvm amount_of
    append_decimal_digits in_running_ranges all_required_at_start_present is_present_if_required_at_start last_response_objects_absent
    expiry_pan_and_cdol1_non_empty listed_terminal_type accepts_afl afl_length_is_multiple_of4 afl_entries valid_entry sum_over_entries
    every both either if
waiting_types = told_along_lem _ _ refl

-- ---- ended with reason 0

-- the cryptogram that was requested, and a lower one
ended_given : told (ended 0 Outcome.OnlineRequest 0x80 [] ∷ ended 0 Outcome.Declined 0x00 []
    ∷ ended 0 Outcome.OnlineRequest 0x80 ((0x9F0F, zero5) ∷ [])
    ∷ ended 0 Outcome.Approved 0x40 ((0x9F0F, zero5) ∷ []) ∷ [])
    ≡ explained_choice_word Stage.Online ActionCodeHolder.Card 0 ∷ lower ∷ lower ∷ explained_choice_word Stage.Online
    ActionCodeHolder.Nobody 255 ∷ []
unfolding explanation_of_ending_by_mode explanation_of_ending rank_of_cryptogram_type outcome_for_cryptogram_type deciding_stage_in
    deciding_stage_if_its_data_present action_code_holder_of_bit action_codes_of_stage explanation_at_stage
    has_bit_counted_from_zero_at_byte1b8 first_bytes_zero_padded tvr_bit_is_in_either_action_code lowest_bit_from_start_within_count lowest_tvr_bit_in_codes
    iac_or_default some_tvr_bit_in_codes_of_stage online_capability_by_digit terminal_action_analysis action_codes_of choice_for_tvr
    fit_along place_length_and_value_fit_row length_and_digits_fit_row digits_match_form is_numeric is_compressed_numeric
    is_digits_then_fs nibbles put_row row_number_of_tag_or_zero object_value_in row_value row_place_bytes value_in_place row_offset
    find_row row_found_shifted dictionary_rows
    in_ended_ranges reason_matches_outcome every both either if
ended_given = told_along_lem _ _ refl

-- an approval of an online choice; a decline with an ARQC; no 9F27, DF8122 or 95
ended_refused : told (ended 0 Outcome.Approved 0x40 [] ∷ ended 0 Outcome.Declined 0x80 []
    ∷ map (λ t. ended t Outcome.OnlineRequest 0x80 []) (0x9F27 ∷ 0xDF8122 ∷ 0x95 ∷ []))
    ≡ replicate 5 refused
unfolding explanation_of_ending_by_mode explanation_of_ending rank_of_cryptogram_type outcome_for_cryptogram_type deciding_stage_in
    deciding_stage_if_its_data_present action_code_holder_of_bit action_codes_of_stage explanation_at_stage
    has_bit_counted_from_zero_at_byte1b8 first_bytes_zero_padded tvr_bit_is_in_either_action_code lowest_bit_from_start_within_count lowest_tvr_bit_in_codes
    iac_or_default some_tvr_bit_in_codes_of_stage online_capability_by_digit terminal_action_analysis action_codes_of choice_for_tvr
    fit_along place_length_and_value_fit_row length_and_digits_fit_row digits_match_form is_numeric is_compressed_numeric
    is_digits_then_fs nibbles put_row row_number_of_tag_or_zero object_value_in row_value row_place_bytes value_in_place row_offset
    find_row row_found_shifted dictionary_rows
    in_ended_ranges reason_matches_outcome every both either if
ended_refused = told_along_lem _ _ refl

-- the terminal's denial code and its type are needed; a code of a stage that is not consulted is not, and where denial
-- decides the type is not
ended_needs : told (map (λ t. ended t Outcome.OnlineRequest 0x80 []) (0xDF8121 ∷ 0x9F35 ∷ 0xDF8120 ∷ [])
    ++ (ended 0x9F35 Outcome.Declined 0x00 ((0x9F0E, usual) ∷ []) ∷ []))
    ≡ refused ∷ refused ∷ explained_choice_word Stage.Online ActionCodeHolder.Card 0 ∷ explained_choice_word Stage.Denial
    ActionCodeHolder.Card 0 ∷ []
unfolding explanation_of_ending_by_mode explanation_of_ending rank_of_cryptogram_type outcome_for_cryptogram_type deciding_stage_in
    deciding_stage_if_its_data_present action_code_holder_of_bit action_codes_of_stage explanation_at_stage
    has_bit_counted_from_zero_at_byte1b8 first_bytes_zero_padded tvr_bit_is_in_either_action_code lowest_bit_from_start_within_count lowest_tvr_bit_in_codes
    iac_or_default some_tvr_bit_in_codes_of_stage online_capability_by_digit terminal_action_analysis action_codes_of choice_for_tvr
    fit_along place_length_and_value_fit_row length_and_digits_fit_row digits_match_form is_numeric is_compressed_numeric
    is_digits_then_fs nibbles put_row row_number_of_tag_or_zero object_value_in row_value row_place_bytes value_in_place row_offset
    find_row row_found_shifted dictionary_rows
    in_ended_ranges reason_matches_outcome every both either if
ended_needs = told_along_lem _ _ refl

-- ---- no choice, a reason

abbrev in_phase : Phase → ℕ → List Object → Session
in_phase p n objects = session_of p n (without 0 objects)

before_choice : told (in_phase Phase.Fresh 0 [] ∷ in_phase (Phase.Waiting AwaitedResponse.Gpo) 1 (started 0x22 zero5)
    ∷ in_phase (Phase.Waiting (AwaitedResponse.Record (record { number = 1; limit = 10000 }))) 2 (opened 0x22 zero5)
    ∷ []) ≡ replicate 3 no_choice
unfolding fit_along place_length_and_value_fit_row length_and_digits_fit_row digits_match_form is_numeric nibbles put_row
    row_number_of_tag_or_zero object_value_in row_value row_place_bytes value_in_place row_offset find_row row_found_shifted
    dictionary_rows
    in_fresh_ranges in_gpo_ranges in_record_ranges transaction_limit card_and_kernel_support_on_device_cvm
    aip_and_configuration_support_on_device_cvm amount_of append_decimal_digits first_bytes_zero_padded
    has_bit_counted_from_zero_at_byte1b8 in_running_ranges all_required_at_start_present is_present_if_required_at_start
    last_response_objects_absent listed_terminal_type accepts_afl afl_length_is_multiple_of4 afl_entries valid_entry sum_over_entries
    every both either if
before_choice = told_along_lem _ _ refl

-- 6 goes with select next alone
with_reason : told (in_phase (Phase.Ended (ending_of Outcome.SelectNext 6)) 3 []
    ∷ in_phase (Phase.Ended (ending_of Outcome.Ended 8)) 4 []
    ∷ in_phase (Phase.Ended (ending_of Outcome.Ended 9)) 1 [] ∷ in_phase (Phase.Ended (ending_of Outcome.Ended 6)) 3 []
    ∷ [])
    ≡ map (λ n. explanation_word (Explanation.Reason n)) (6 ∷ 8 ∷ 9 ∷ []) ++ (refused ∷ [])
unfolding explanation_of_ending_by_mode explanation_of_ending fit_along place_length_and_value_fit_row object_value_in row_value
    row_place_bytes value_in_place row_offset find_row row_found_shifted dictionary_rows in_ended_ranges reason_matches_outcome every
    both either if
with_reason = told_along_lem _ _ refl

-- in mag-stripe mode: every outcome of reason 0, whatever else is stored; a reason is reported; without 82, and with
-- byte 2 b8 set, it is explained by what is there
abbrev ended_with : Outcome → ℕ → List Object → Session
ended_with o n objects = in_phase (Phase.Ended (ending_of o n)) 3 objects

in_mag_stripe_mode :
    told
    (ended_with Outcome.OnlineRequest 0 ((0x82, 0x00 ∷ 0x00 ∷ []) ∷ started 0x22 zero5)
    ∷ ended_with Outcome.Declined 0 ((0x82, 0xFF ∷ 0x7F ∷ []) ∷ (0xDF811B, 0x80 ∷ []) ∷ [])
    ∷ ended_with Outcome.Approved 0 ((0x82, 0x00 ∷ 0x00 ∷ []) ∷ answered 0x40 ++ complete 0x22 usual)
    ∷ ended_with Outcome.Ended 4 ((0x82, 0x00 ∷ 0x00 ∷ []) ∷ [])
    ∷ ended_with Outcome.OnlineRequest 0 (started 0x22 zero5)
    ∷ ended_with Outcome.OnlineRequest 0 ((0x82, 0x00 ∷ 0x80 ∷ []) ∷ started 0x22 zero5)
    ∷ [])
    ≡ no_choice ∷ no_choice ∷ no_choice ∷ explanation_word (Explanation.Reason 4) ∷ refused ∷ refused ∷ []
unfolding explanation_of_ending_by_mode explanation_of_ending rank_of_cryptogram_type outcome_for_cryptogram_type deciding_stage_in
    deciding_stage_if_its_data_present action_code_holder_of_bit action_codes_of_stage explanation_at_stage
    has_bit_counted_from_zero_at_byte1b8 first_bytes_zero_padded tvr_bit_is_in_either_action_code lowest_bit_from_start_within_count lowest_tvr_bit_in_codes
    iac_or_default some_tvr_bit_in_codes_of_stage online_capability_by_digit terminal_action_analysis action_codes_of choice_for_tvr
    fit_along place_length_and_value_fit_row length_and_digits_fit_row digits_match_form is_numeric is_compressed_numeric
    is_digits_then_fs nibbles put_row row_number_of_tag_or_zero object_value_in row_value row_place_bytes value_in_place row_offset
    find_row row_found_shifted dictionary_rows
    in_ended_ranges reason_matches_outcome every both either if
in_mag_stripe_mode = told_along_lem _ _ refl
