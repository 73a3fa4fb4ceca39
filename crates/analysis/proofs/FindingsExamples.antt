-- What is found in a store before the choice, by computation: 9F34, the five bytes of 95 and the CVM's number, for the
-- plain store and changes to it. The rules one by one are in VerificationExamples, on-device CVM in PhoneExamples.
-- Assumes nothing.
use mathlib.Core.Path.{◌≡◌, refl}
use mathlib.Core.List.{List, [], ◌∷◌, ◌++◌}
use Prim.Native.Nat.{ℕ}
use lib.ListN.{replicate}
use Rattle.basics.specs.Choice.{if, both, either}
use Rattle.basics.specs.Alike.{bytes_equal}
use Rattle.basics.specs.Number.{append_big_endian_bytes, nibbles}
use Rattle.dictionary.specs.Rows.{dictionary_rows, row_found_shifted, find_row, store_size}
use Rattle.dictionary.specs.Named.{row_number_of_tag_or_zero}
use Rattle.store.specs.Place.{row_offset, row_place_bytes, value_in_place, row_value, put_row, object_value_in}
use Rattle.analysis.specs.Value.{first_bytes_zero_padded}
use Rattle.analysis.specs.Digits.{append_decimal_digits, four_digit_year, date_as_number, first_date_is_later, amount_of}
use Rattle.analysis.specs.Digits.{first_amount_is_above}
use Rattle.analysis.specs.Restrictions.{card_version_present_and_differs, not_yet_effective}
use Rattle.analysis.specs.Restrictions.{is_atm_type_with_cash_capability, issuer_country_match, cashback_requested}
use Rattle.analysis.specs.Restrictions.{auc_violated}
use Rattle.analysis.specs.Tvr.{tvr_with_bits}
use Rattle.analysis.specs.Cvm.{cvm_rules_from_pairs, cvm_recognised, cvm_supported, cvm_condition_met}
use Rattle.analysis.specs.Cvm.{cvm_result_of_supported, cvm_result_of_unsuccessful, cvm_result_by_rules, cvm_number}
use Rattle.analysis.specs.Cvm.{cvm_processing, aip_and_configuration_support_on_device_cvm}
use Rattle.analysis.specs.Action.{card_and_kernel_support_on_device_cvm, auc_violated_in_store, restrictions_tvr_byte2}
use Rattle.analysis.specs.Action.{tvr_before_cvm, currencies_present_and_equal, cvm_conditions_in, cvm_result_in}
use Rattle.analysis.specs.Action.{tvr_with_cvm, findings_of}
use Rattle.analysis.specs.declared.action.AnalysisFindings.{AnalysisFindings}

-- objects put one by one into the empty store, the last one first
unfoldable pub storing : List (ℕ × List ℕ) → List ℕ
storing [] = replicate store_size 0
storing ((t, v) ∷ more) = put_row dictionary_rows (storing more) (row_number_of_tag_or_zero t) v

-- a purchase of 12.34 with a terminal that can do online PIN, signature and no CVM; the card supports verification
abbrev without_currencies : List (ℕ × List ℕ)
without_currencies =
    (0x82, 0x10 ∷ 0x80 ∷ []) ∷ (0x9C, 0x00 ∷ []) ∷ (0x9F02, 0x00 ∷ 0x00 ∷ 0x00 ∷ 0x00 ∷ 0x12 ∷ 0x34 ∷ [])
    ∷ (0xDF8123, 0x00 ∷ 0x00 ∷ 0x00 ∷ 0x01 ∷ 0x00 ∷ 0x00 ∷ []) ∷ (0x9F33, 0xE0 ∷ 0x68 ∷ 0xC8 ∷ []) ∷ (0x9F35, 0x22 ∷ [])
    ∷ []

abbrev without_application : List (ℕ × List ℕ)
without_application = (0x5F2A, 0x00 ∷ 0x56 ∷ []) ∷ without_currencies

abbrev pub plain : List (ℕ × List ℕ)
plain = (0x9F42, 0x00 ∷ 0x56 ∷ []) ∷ without_application

unfoldable pub shown : AnalysisFindings → List ℕ
shown f = f.results ++ f.bits ++ cvm_number f.cvm ∷ []

abbrev found : List (ℕ × List ℕ) → List ℕ
found l = shown (findings_of (storing l))

-- no verification in the AIP; no list; the list by what is supported
supports :
    found ((0x82, 0xEF ∷ 0x80 ∷ []) ∷ (0x8E, 0x00 ∷ 0x00 ∷ 0x00 ∷ 0x00 ∷ 0x00 ∷ 0x00 ∷ 0x00 ∷ 0x00 ∷ 0x42 ∷ 0x00 ∷ [])
    ∷ plain)
    ∷ found (plain)
    ∷ found ((
      0x8E,
      0x00 ∷ 0x00 ∷ 0x00 ∷ 0x00 ∷ 0x00 ∷ 0x00 ∷ 0x00 ∷ 0x00 ∷ 0x42 ∷ 0x03 ∷ 0x5E ∷ 0x03 ∷ 0x1F ∷ 0x03
          ∷ [],
    ) ∷ plain)
    ∷ found ((
      0x8E,
      0x00 ∷ 0x00 ∷ 0x00 ∷ 0x00 ∷ 0x00 ∷ 0x00 ∷ 0x00 ∷ 0x00 ∷ 0x42 ∷ 0x03 ∷ 0x5E ∷ 0x03 ∷ 0x1F ∷ 0x03
          ∷ [],
    ) ∷ (0x9F33, 0xE0 ∷ 0x28 ∷ 0xC8 ∷ []) ∷ plain)
    ∷ found ((
      0x8E,
      0x00 ∷ 0x00 ∷ 0x00 ∷ 0x00 ∷ 0x00 ∷ 0x00 ∷ 0x00 ∷ 0x00 ∷ 0x42 ∷ 0x03 ∷ 0x5E ∷ 0x03 ∷ 0x1F ∷ 0x03
          ∷ [],
    ) ∷ (0x9F33, 0xF8 ∷ 0x00 ∷ 0xF8 ∷ []) ∷ plain)
    ∷ []
    ≡ (0x3F ∷ 0x00 ∷ 0x00 ∷ 0x80 ∷ 0x00 ∷ 0x00 ∷ 0x00 ∷ 0x00 ∷ 0 ∷ [])
    ∷ (0x3F ∷ 0x00 ∷ 0x00 ∷ 0xA0 ∷ 0x00 ∷ 0x00 ∷ 0x00 ∷ 0x00 ∷ 0 ∷ [])
    ∷ (0x42 ∷ 0x03 ∷ 0x00 ∷ 0x80 ∷ 0x00 ∷ 0x04 ∷ 0x00 ∷ 0x00 ∷ 2 ∷ [])
    ∷ (0x5E ∷ 0x03 ∷ 0x00 ∷ 0x80 ∷ 0x00 ∷ 0x00 ∷ 0x00 ∷ 0x00 ∷ 1 ∷ [])
    ∷ (0x3F ∷ 0x00 ∷ 0x01 ∷ 0x80 ∷ 0x00 ∷ 0x80 ∷ 0x00 ∷ 0x00 ∷ 0 ∷ [])
    ∷ []
unfolding shown storing findings_of tvr_with_cvm cvm_result_in card_and_kernel_support_on_device_cvm
    aip_and_configuration_support_on_device_cvm cvm_conditions_in currencies_present_and_equal tvr_before_cvm restrictions_tvr_byte2
    auc_violated_in_store tvr_with_bits card_version_present_and_differs not_yet_effective auc_violated is_atm_type_with_cash_capability
    issuer_country_match
    cashback_requested first_date_is_later date_as_number four_digit_year first_amount_is_above amount_of append_decimal_digits
    nibbles append_big_endian_bytes bytes_equal cvm_processing cvm_result_by_rules cvm_rules_from_pairs cvm_condition_met
    cvm_supported cvm_recognised cvm_result_of_supported cvm_result_of_unsuccessful first_bytes_zero_padded
    put_row row_number_of_tag_or_zero object_value_in row_value row_place_bytes value_in_place row_offset find_row row_found_shifted
    dictionary_rows if both either
supports = refl

-- equal to X and Y; over X and under Y; no currency known
amounts :
    found ((
      0x8E,
      0x00 ∷ 0x00 ∷ 0x04 ∷ 0xD2 ∷ 0x00 ∷ 0x00 ∷ 0x04 ∷ 0xD2 ∷ 0x1E ∷ 0x06 ∷ 0x1E ∷ 0x07 ∷ 0x1E ∷ 0x08 ∷ 0x1E
          ∷ 0x09 ∷ 0x00 ∷ 0x00 ∷ [],
    ) ∷ plain)
    ∷ found ((0x8E, 0x00 ∷ 0x00 ∷ 0x04 ∷ 0xD1 ∷ 0x00 ∷ 0x00 ∷ 0x04 ∷ 0xD3 ∷ 0x42 ∷ 0x06 ∷ 0x5E ∷ 0x08 ∷ []) ∷ plain)
    ∷ found ((
      0x8E,
      0xFF ∷ 0xFF ∷ 0xFF ∷ 0xFF ∷ 0x00 ∷ 0x00 ∷ 0x00 ∷ 0x00 ∷ 0x5E ∷ 0x06 ∷ 0x5E ∷ 0x09 ∷ 0x1F ∷ 0x00
          ∷ [],
    ) ∷ without_currencies)
    ∷ []
    ≡ (0x00 ∷ 0x00 ∷ 0x01 ∷ 0x80 ∷ 0x00 ∷ 0x80 ∷ 0x00 ∷ 0x00 ∷ 0 ∷ [])
    ∷ (0x5E ∷ 0x08 ∷ 0x00 ∷ 0x80 ∷ 0x00 ∷ 0x00 ∷ 0x00 ∷ 0x00 ∷ 1 ∷ [])
    ∷ (0x1F ∷ 0x00 ∷ 0x02 ∷ 0x80 ∷ 0x00 ∷ 0x00 ∷ 0x00 ∷ 0x00 ∷ 0 ∷ [])
    ∷ []
unfolding shown storing findings_of tvr_with_cvm cvm_result_in card_and_kernel_support_on_device_cvm
    aip_and_configuration_support_on_device_cvm cvm_conditions_in currencies_present_and_equal tvr_before_cvm restrictions_tvr_byte2
    auc_violated_in_store tvr_with_bits card_version_present_and_differs not_yet_effective auc_violated is_atm_type_with_cash_capability
    issuer_country_match
    cashback_requested first_date_is_later date_as_number four_digit_year first_amount_is_above amount_of append_decimal_digits
    nibbles append_big_endian_bytes bytes_equal cvm_processing cvm_result_by_rules cvm_rules_from_pairs cvm_condition_met
    cvm_supported cvm_recognised cvm_result_of_supported cvm_result_of_unsuccessful first_bytes_zero_padded
    put_row row_number_of_tag_or_zero object_value_in row_value row_place_bytes value_in_place row_offset find_row row_found_shifted
    dictionary_rows if both either
amounts = refl

-- an unrecognised CVM and fail, each with the next rule; an odd last byte
unsuccessful_rules :
    found ((0x8E, 0x00 ∷ 0x00 ∷ 0x00 ∷ 0x00 ∷ 0x00 ∷ 0x00 ∷ 0x00 ∷ 0x00 ∷ 0x46 ∷ 0x00 ∷ 0x1F ∷ 0x00 ∷ []) ∷ plain)
    ∷ found ((0x8E, 0x00 ∷ 0x00 ∷ 0x00 ∷ 0x00 ∷ 0x00 ∷ 0x00 ∷ 0x00 ∷ 0x00 ∷ 0x40 ∷ 0x00 ∷ 0x1F ∷ 0x00 ∷ []) ∷ plain)
    ∷ found ((0x8E, 0x00 ∷ 0x00 ∷ 0x00 ∷ 0x00 ∷ 0x00 ∷ 0x00 ∷ 0x00 ∷ 0x00 ∷ 0x5E ∷ 0x00 ∷ 0x1F ∷ [])
    ∷ (0x9F33, 0xE0 ∷ 0x48 ∷ 0xC8 ∷ []) ∷ plain)
    ∷ []
    ≡ (0x1F ∷ 0x00 ∷ 0x02 ∷ 0x80 ∷ 0x00 ∷ 0x40 ∷ 0x00 ∷ 0x00 ∷ 0 ∷ [])
    ∷ (0x1F ∷ 0x00 ∷ 0x02 ∷ 0x80 ∷ 0x00 ∷ 0x00 ∷ 0x00 ∷ 0x00 ∷ 0 ∷ [])
    ∷ (0x3F ∷ 0x00 ∷ 0x01 ∷ 0x80 ∷ 0x00 ∷ 0x80 ∷ 0x00 ∷ 0x00 ∷ 0 ∷ [])
    ∷ []
unfolding shown storing findings_of tvr_with_cvm cvm_result_in card_and_kernel_support_on_device_cvm
    aip_and_configuration_support_on_device_cvm cvm_conditions_in currencies_present_and_equal tvr_before_cvm restrictions_tvr_byte2
    auc_violated_in_store tvr_with_bits card_version_present_and_differs not_yet_effective auc_violated is_atm_type_with_cash_capability
    issuer_country_match
    cashback_requested first_date_is_later date_as_number four_digit_year first_amount_is_above amount_of append_decimal_digits
    nibbles append_big_endian_bytes bytes_equal cvm_processing cvm_result_by_rules cvm_rules_from_pairs cvm_condition_met
    cvm_supported cvm_recognised cvm_result_of_supported cvm_result_of_unsuccessful first_bytes_zero_padded
    put_row row_number_of_tag_or_zero object_value_in row_value row_place_bytes value_in_place row_offset find_row row_found_shifted
    dictionary_rows if both either
unsuccessful_rules = refl

-- cash at an ATM; cashback; conditions that are not understood; an offline PIN
types :
    found ((0x8E, 0x00 ∷ 0x00 ∷ 0x00 ∷ 0x00 ∷ 0x00 ∷ 0x00 ∷ 0x00 ∷ 0x00 ∷ 0x1E ∷ 0x04 ∷ 0x1F ∷ 0x02 ∷ 0x42 ∷ 0x01 ∷ [])
    ∷ (0x9C, 0x01 ∷ []) ∷ (0x9F35, 0x14 ∷ []) ∷ (0x9F40, 0x80 ∷ 0x00 ∷ 0x00 ∷ 0x00 ∷ 0x00 ∷ []) ∷ plain)
    ∷ found ((
      0x8E,
      0x00 ∷ 0x00 ∷ 0x00 ∷ 0x00 ∷ 0x00 ∷ 0x00 ∷ 0x00 ∷ 0x00 ∷ 0x5E ∷ 0x02 ∷ 0x1F ∷ 0x01 ∷ 0x42 ∷ 0x05
          ∷ [],
    ) ∷ (0x9C, 0x09 ∷ []) ∷ plain)
    ∷ found ((
      0x8E,
      0x00 ∷ 0x00 ∷ 0x00 ∷ 0x00 ∷ 0x00 ∷ 0x00 ∷ 0x00 ∷ 0x00 ∷ 0x06 ∷ 0x0A ∷ 0x06 ∷ 0x80 ∷ 0x9F ∷ 0x00
          ∷ [],
    ) ∷ plain)
    ∷ found ((0x8E, 0x00 ∷ 0x00 ∷ 0x00 ∷ 0x00 ∷ 0x00 ∷ 0x00 ∷ 0x00 ∷ 0x00 ∷ 0x44 ∷ 0x03 ∷ 0x1F ∷ 0x00 ∷ [])
    ∷ (0x9F33, 0xE0 ∷ 0xF8 ∷ 0xC8 ∷ []) ∷ plain)
    ∷ []
    ≡ (0x42 ∷ 0x01 ∷ 0x00 ∷ 0x80 ∷ 0x00 ∷ 0x04 ∷ 0x00 ∷ 0x00 ∷ 2 ∷ [])
    ∷ (0x42 ∷ 0x05 ∷ 0x00 ∷ 0x80 ∷ 0x00 ∷ 0x04 ∷ 0x00 ∷ 0x00 ∷ 2 ∷ [])
    ∷ (0x9F ∷ 0x00 ∷ 0x02 ∷ 0x80 ∷ 0x00 ∷ 0x00 ∷ 0x00 ∷ 0x00 ∷ 0 ∷ [])
    ∷ (0x44 ∷ 0x03 ∷ 0x00 ∷ 0x80 ∷ 0x00 ∷ 0x00 ∷ 0x00 ∷ 0x00 ∷ 4 ∷ [])
    ∷ []
unfolding shown storing findings_of tvr_with_cvm cvm_result_in card_and_kernel_support_on_device_cvm
    aip_and_configuration_support_on_device_cvm cvm_conditions_in currencies_present_and_equal tvr_before_cvm restrictions_tvr_byte2
    auc_violated_in_store tvr_with_bits card_version_present_and_differs not_yet_effective auc_violated is_atm_type_with_cash_capability
    issuer_country_match
    cashback_requested first_date_is_later date_as_number four_digit_year first_amount_is_above amount_of append_decimal_digits
    nibbles append_big_endian_bytes bytes_equal cvm_processing cvm_result_by_rules cvm_rules_from_pairs cvm_condition_met
    cvm_supported cvm_recognised cvm_result_of_supported cvm_result_of_unsuccessful first_bytes_zero_padded
    put_row row_number_of_tag_or_zero object_value_in row_value row_place_bytes value_in_place row_offset find_row row_found_shifted
    dictionary_rows if both either
types = refl

-- one currency absent, another one, the same; the highest amount is over an X of 32 bits
currencies :
    found ((0x8E, 0xFF ∷ 0xFF ∷ 0xFF ∷ 0xFF ∷ 0x00 ∷ 0x00 ∷ 0x00 ∷ 0x00 ∷ 0x5E ∷ 0x06 ∷ 0x5E ∷ 0x09 ∷ 0x1F ∷ 0x00 ∷ [])
    ∷ without_application)
    ∷ found ((
      0x8E,
      0xFF ∷ 0xFF ∷ 0xFF ∷ 0xFF ∷ 0x00 ∷ 0x00 ∷ 0x00 ∷ 0x00 ∷ 0x5E ∷ 0x06 ∷ 0x5E ∷ 0x09 ∷ 0x1F ∷ 0x00
          ∷ [],
    ) ∷ (0x9F42, 0x09 ∷ 0x78 ∷ []) ∷ plain)
    ∷ found ((
      0x8E,
      0xFF ∷ 0xFF ∷ 0xFF ∷ 0xFF ∷ 0x00 ∷ 0x00 ∷ 0x00 ∷ 0x00 ∷ 0x5E ∷ 0x06 ∷ 0x5E ∷ 0x09 ∷ 0x1F ∷ 0x00
          ∷ [],
    ) ∷ plain)
    ∷ found ((
      0x8E,
      0xFF ∷ 0xFF ∷ 0xFF ∷ 0xFF ∷ 0x00 ∷ 0x00 ∷ 0x00 ∷ 0x00 ∷ 0x5E ∷ 0x06 ∷ 0x5E ∷ 0x09 ∷ 0x1F ∷ 0x00
          ∷ [],
    ) ∷ (0x9F02, 0x99 ∷ 0x99 ∷ 0x99 ∷ 0x99 ∷ 0x99 ∷ 0x99 ∷ []) ∷ plain)
    ∷ []
    ≡ (0x1F ∷ 0x00 ∷ 0x02 ∷ 0x80 ∷ 0x00 ∷ 0x00 ∷ 0x00 ∷ 0x00 ∷ 0 ∷ [])
    ∷ (0x1F ∷ 0x00 ∷ 0x02 ∷ 0x80 ∷ 0x00 ∷ 0x00 ∷ 0x00 ∷ 0x00 ∷ 0 ∷ [])
    ∷ (0x5E ∷ 0x06 ∷ 0x00 ∷ 0x80 ∷ 0x00 ∷ 0x00 ∷ 0x00 ∷ 0x00 ∷ 1 ∷ [])
    ∷ (0x5E ∷ 0x09 ∷ 0x00 ∷ 0x80 ∷ 0x00 ∷ 0x00 ∷ 0x80 ∷ 0x00 ∷ 1 ∷ [])
    ∷ []
unfolding shown storing findings_of tvr_with_cvm cvm_result_in card_and_kernel_support_on_device_cvm
    aip_and_configuration_support_on_device_cvm cvm_conditions_in currencies_present_and_equal tvr_before_cvm restrictions_tvr_byte2
    auc_violated_in_store tvr_with_bits card_version_present_and_differs not_yet_effective auc_violated is_atm_type_with_cash_capability
    issuer_country_match
    cashback_requested first_date_is_later date_as_number four_digit_year first_amount_is_above amount_of append_decimal_digits
    nibbles append_big_endian_bytes bytes_equal cvm_processing cvm_result_by_rules cvm_rules_from_pairs cvm_condition_met
    cvm_supported cvm_recognised cvm_result_of_supported cvm_result_of_unsuccessful first_bytes_zero_padded
    put_row row_number_of_tag_or_zero object_value_in row_value row_place_bytes value_in_place row_offset find_row row_found_shifted
    dictionary_rows if both either
currencies = refl

-- cash, type 17, at a type of ATM without 9F40, and with b8 of it clear; cash at another type with it; type 20 is
-- neither cash nor cashback
places :
    found ((0x8E, 0x00 ∷ 0x00 ∷ 0x00 ∷ 0x00 ∷ 0x00 ∷ 0x00 ∷ 0x00 ∷ 0x00 ∷ 0x1E ∷ 0x04 ∷ 0x1F ∷ 0x02 ∷ 0x42 ∷ 0x01 ∷ [])
    ∷ (0x9C, 0x17 ∷ []) ∷ (0x9F35, 0x14 ∷ []) ∷ plain)
    ∷ found ((
      0x8E,
      0x00 ∷ 0x00 ∷ 0x00 ∷ 0x00 ∷ 0x00 ∷ 0x00 ∷ 0x00 ∷ 0x00 ∷ 0x1E ∷ 0x04 ∷ 0x1F ∷ 0x02 ∷ 0x42 ∷ 0x01
          ∷ [],
    ) ∷ (0x9C, 0x17 ∷ []) ∷ (0x9F35, 0x14 ∷ []) ∷ (0x9F40, 0x7F ∷ 0xFF ∷ 0xFF ∷ 0xFF ∷ 0xFF ∷ []) ∷ plain)
    ∷ found ((
      0x8E,
      0x00 ∷ 0x00 ∷ 0x00 ∷ 0x00 ∷ 0x00 ∷ 0x00 ∷ 0x00 ∷ 0x00 ∷ 0x1E ∷ 0x04 ∷ 0x1F ∷ 0x02 ∷ 0x42 ∷ 0x01
          ∷ [],
    ) ∷ (0x9C, 0x01 ∷ []) ∷ (0x9F40, 0x80 ∷ 0x00 ∷ 0x00 ∷ 0x00 ∷ 0x00 ∷ []) ∷ plain)
    ∷ found ((
      0x8E,
      0x00 ∷ 0x00 ∷ 0x00 ∷ 0x00 ∷ 0x00 ∷ 0x00 ∷ 0x00 ∷ 0x00 ∷ 0x1E ∷ 0x04 ∷ 0x1F ∷ 0x02 ∷ 0x42 ∷ 0x01
          ∷ [],
    ) ∷ (0x9C, 0x20 ∷ []) ∷ plain)
    ∷ []
    ≡ (0x1E ∷ 0x04 ∷ 0x00 ∷ 0x80 ∷ 0x00 ∷ 0x00 ∷ 0x00 ∷ 0x00 ∷ 1 ∷ [])
    ∷ (0x1E ∷ 0x04 ∷ 0x00 ∷ 0x80 ∷ 0x00 ∷ 0x00 ∷ 0x00 ∷ 0x00 ∷ 1 ∷ [])
    ∷ (0x1E ∷ 0x04 ∷ 0x00 ∷ 0x80 ∷ 0x00 ∷ 0x00 ∷ 0x00 ∷ 0x00 ∷ 1 ∷ [])
    ∷ (0x1F ∷ 0x02 ∷ 0x02 ∷ 0x80 ∷ 0x00 ∷ 0x00 ∷ 0x00 ∷ 0x00 ∷ 0 ∷ [])
    ∷ []
unfolding shown storing findings_of tvr_with_cvm cvm_result_in card_and_kernel_support_on_device_cvm
    aip_and_configuration_support_on_device_cvm cvm_conditions_in currencies_present_and_equal tvr_before_cvm restrictions_tvr_byte2
    auc_violated_in_store tvr_with_bits card_version_present_and_differs not_yet_effective auc_violated is_atm_type_with_cash_capability
    issuer_country_match
    cashback_requested first_date_is_later date_as_number four_digit_year first_amount_is_above amount_of append_decimal_digits
    nibbles append_big_endian_bytes bytes_equal cvm_processing cvm_result_by_rules cvm_rules_from_pairs cvm_condition_met
    cvm_supported cvm_recognised cvm_result_of_supported cvm_result_of_unsuccessful first_bytes_zero_padded
    put_row row_number_of_tag_or_zero object_value_in row_value row_place_bytes value_in_place row_offset find_row row_found_shifted
    dictionary_rows if both either
places = refl
