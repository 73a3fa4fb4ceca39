-- On-device CVM by computation: 9F34, 95 and the CVM of a store, and the transaction limit against the amount; on both
-- sides of each bit and limit.
-- Assumes nothing.
use mathlib.Core.Path.{◌≡◌, refl}
use mathlib.Core.Bool.{Bool, true, false}
use mathlib.Core.List.{List, [], ◌∷◌}
use Prim.Native.Nat.{ℕ}
use lib.ListN.{replicate}
use Rattle.basics.specs.Choice.{if, both, either}
use Rattle.basics.specs.Alike.{bytes_equal}
use Rattle.basics.specs.Number.{append_big_endian_bytes, nibbles}
use Rattle.dictionary.specs.Rows.{dictionary_rows, row_found_shifted, find_row}
use Rattle.dictionary.specs.Named.{row_number_of_tag_or_zero}
use Rattle.store.specs.Place.{row_offset, row_place_bytes, value_in_place, row_value, put_row, object_value_in}
use Rattle.analysis.specs.Value.{first_bytes_zero_padded}
use Rattle.analysis.specs.Digits.{append_decimal_digits, four_digit_year, date_as_number, first_date_is_later, amount_of}
use Rattle.analysis.specs.Digits.{first_amount_is_above}
use Rattle.analysis.specs.Restrictions.{card_version_present_and_differs, not_yet_effective}
use Rattle.analysis.specs.Restrictions.{is_atm_type_with_cash_capability, issuer_country_match, cashback_requested}
use Rattle.analysis.specs.Restrictions.{auc_violated}
use Rattle.analysis.specs.Tvr.{tvr_with_bits}
use Rattle.analysis.specs.Cvm.{cvm_rules_from_pairs, cvm_recognised, cvm_supported, cvm_condition_met}
use Rattle.analysis.specs.Cvm.{cvm_result_of_supported, cvm_result_of_unsuccessful, cvm_result_by_rules, cvm_processing}
use Rattle.analysis.specs.Cvm.{aip_and_configuration_support_on_device_cvm, on_device_cvm_result_by_above_limit}
use Rattle.analysis.specs.Action.{card_and_kernel_support_on_device_cvm, transaction_limit, stored_amount_above_limit}
use Rattle.analysis.specs.Action.{auc_violated_in_store, restrictions_tvr_byte2, tvr_before_cvm}
use Rattle.analysis.specs.Action.{currencies_present_and_equal, cvm_conditions_in, cvm_result_in, tvr_with_cvm, findings_of}
use Rattle.analysis.proofs.FindingsExamples.{storing, plain, shown}

-- the plain store of a purchase of 12.34, with a configuration that takes on-device CVM
abbrev ready : List (ℕ × List ℕ)
ready = (0xDF811B, 0x20 ∷ []) ∷ plain

abbrev found : List (ℕ × List ℕ) → List ℕ
found l = shown (findings_of (storing l))

-- an amount in its last two bytes, and the highest one
abbrev amount : ℕ → ℕ → List ℕ
amount a b = 0 ∷ 0 ∷ 0 ∷ 0 ∷ a ∷ b ∷ []

abbrev highest : List ℕ
highest = replicate 6 0x99

-- a list without amounts and with one rule
abbrev only_rule : ℕ → List ℕ
only_rule code = 0 ∷ 0 ∷ 0 ∷ 0 ∷ 0 ∷ 0 ∷ 0 ∷ 0 ∷ code ∷ 0 ∷ []

-- on-device CVM with a list: at the limit DF8126, and above it; without a list: above it without b5 of 82, and below it
-- with or without b5
phones :
    found ((0x82, 0x12 ∷ 0x80 ∷ []) ∷ (0xDF8126, amount 0x12 0x34) ∷ (0x8E, only_rule 0x42) ∷ ready)
    ∷ found ((0x82, 0x12 ∷ 0x80 ∷ []) ∷ (0xDF8126, amount 0x12 0x33) ∷ (0x8E, only_rule 0x42) ∷ ready)
    ∷ found ((0x82, 0x02 ∷ 0x80 ∷ []) ∷ (0xDF8126, amount 0 0) ∷ ready)
    ∷ found ((0x82, 0x12 ∷ 0x80 ∷ []) ∷ (0xDF8126, highest) ∷ ready)
    ∷ found ((0x82, 0x02 ∷ 0x80 ∷ []) ∷ (0xDF8126, highest) ∷ ready)
    ∷ []
    ≡ (0x3F ∷ 0x00 ∷ 0x02 ∷ 0x80 ∷ 0x00 ∷ 0x00 ∷ 0x00 ∷ 0x00 ∷ 0 ∷ [])
    ∷ (0x01 ∷ 0x00 ∷ 0x02 ∷ 0x80 ∷ 0x00 ∷ 0x00 ∷ 0x00 ∷ 0x00 ∷ 3 ∷ [])
    ∷ (0x01 ∷ 0x00 ∷ 0x02 ∷ 0x80 ∷ 0x00 ∷ 0x00 ∷ 0x00 ∷ 0x00 ∷ 3 ∷ [])
    ∷ (0x3F ∷ 0x00 ∷ 0x02 ∷ 0x80 ∷ 0x00 ∷ 0x00 ∷ 0x00 ∷ 0x00 ∷ 0 ∷ [])
    ∷ (0x3F ∷ 0x00 ∷ 0x02 ∷ 0x80 ∷ 0x00 ∷ 0x00 ∷ 0x00 ∷ 0x00 ∷ 0 ∷ [])
    ∷ []
unfolding shown storing findings_of tvr_with_cvm cvm_result_in card_and_kernel_support_on_device_cvm
    aip_and_configuration_support_on_device_cvm on_device_cvm_result_by_above_limit tvr_before_cvm restrictions_tvr_byte2
    auc_violated_in_store tvr_with_bits card_version_present_and_differs not_yet_effective auc_violated is_atm_type_with_cash_capability
    issuer_country_match
    cashback_requested first_date_is_later date_as_number four_digit_year first_amount_is_above amount_of append_decimal_digits
    nibbles bytes_equal first_bytes_zero_padded put_row row_number_of_tag_or_zero object_value_in row_value row_place_bytes
    value_in_place row_offset find_row row_found_shifted dictionary_rows if both either
phones = refl

-- no on-device CVM: every bit of DF811B but b6, and every bit of 82 byte 1 but b2; the list is obeyed
not_phones :
    found ((0x82, 0x12 ∷ 0x80 ∷ []) ∷ (0xDF811B, 0xDF ∷ []) ∷ (0x8E, only_rule 0x42) ∷ ready)
    ∷ found ((0x82, 0xFD ∷ 0x80 ∷ []) ∷ (0xDF811B, 0xFF ∷ []) ∷ (0x8E, only_rule 0x5E) ∷ ready)
    ∷ []
    ≡ (0x42 ∷ 0x00 ∷ 0x00 ∷ 0x80 ∷ 0x00 ∷ 0x04 ∷ 0x00 ∷ 0x00 ∷ 2 ∷ [])
    ∷ (0x5E ∷ 0x00 ∷ 0x00 ∷ 0x80 ∷ 0x00 ∷ 0x00 ∷ 0x00 ∷ 0x00 ∷ 1 ∷ [])
    ∷ []
unfolding shown storing findings_of tvr_with_cvm cvm_result_in card_and_kernel_support_on_device_cvm
    aip_and_configuration_support_on_device_cvm cvm_conditions_in currencies_present_and_equal tvr_before_cvm restrictions_tvr_byte2
    auc_violated_in_store tvr_with_bits card_version_present_and_differs not_yet_effective auc_violated is_atm_type_with_cash_capability
    issuer_country_match
    cashback_requested first_date_is_later date_as_number four_digit_year first_amount_is_above amount_of append_decimal_digits
    nibbles append_big_endian_bytes bytes_equal cvm_processing cvm_result_by_rules cvm_rules_from_pairs cvm_condition_met
    cvm_supported cvm_recognised cvm_result_of_supported cvm_result_of_unsuccessful first_bytes_zero_padded
    put_row row_number_of_tag_or_zero object_value_in row_value row_place_bytes value_in_place row_offset find_row row_found_shifted
    dictionary_rows if both either
not_phones = refl

-- the amount is above the transaction limit: with on-device CVM by DF8125, above and at it; b2 of 82 alone clear and b6
-- of DF811B alone clear by DF8124
abbrev limited : List (ℕ × List ℕ) → Bool
limited l = stored_amount_above_limit (transaction_limit (storing l)) (storing l)

on_device_limits :
    limited ((0x82, 0x12 ∷ 0x80 ∷ []) ∷ (0xDF8124, highest) ∷ (0xDF8125, amount 0x12 0x33) ∷ ready)
    ∷ limited ((0x82, 0x12 ∷ 0x80 ∷ []) ∷ (0xDF8124, amount 0x12 0x33) ∷ (0xDF8125, amount 0x12 0x34) ∷ ready)
    ∷ limited ((0x82, 0x10 ∷ 0x80 ∷ []) ∷ (0xDF8124, amount 0x12 0x33) ∷ (0xDF8125, highest) ∷ ready)
    ∷ limited ((0x82, 0x12 ∷ 0x80 ∷ []) ∷ (0xDF811B, 0xDF ∷ []) ∷ (0xDF8124, amount 0x12 0x34) ∷ (0xDF8125, amount 0 0)
    ∷ ready)
    ∷ []
    ≡ true ∷ false ∷ true ∷ false ∷ []
unfolding storing stored_amount_above_limit transaction_limit card_and_kernel_support_on_device_cvm
    aip_and_configuration_support_on_device_cvm amount_of append_decimal_digits nibbles first_bytes_zero_padded put_row
    row_number_of_tag_or_zero object_value_in row_value row_place_bytes value_in_place row_offset find_row row_found_shifted
    dictionary_rows if both
on_device_limits = refl
