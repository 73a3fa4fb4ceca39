-- TVR bits and the choice on both sides of each rule's edge, by computation: each needed bit alone, and all
-- bits but it.
-- Assumes nothing.
use Rattle.std.specs.Prelude.{Some, None}
use mathlib.Core.Path.{◌≡◌, refl}
use mathlib.Core.Bool.{Bool, true, false}
use mathlib.Core.List.{List, [], ◌∷◌, map}
use Prim.Native.Nat.{ℕ}
use lib.ListN.{replicate}
use Rattle.basics.specs.Alike.{bytes_equal}
use Rattle.basics.specs.Choice.{if, both, either}
use Rattle.basics.specs.Number.{nibbles}
use Rattle.dictionary.specs.Named.{row_number_of_tag_or_zero}
use Rattle.dictionary.specs.Rows.{dictionary_rows, row_found_shifted, find_row, store_size}
use Rattle.store.specs.Place.{StoredValue, absent, present, row_offset, row_place_bytes, value_in_place, row_value, put_row}
use Rattle.store.specs.Place.{object_value_in}
use Rattle.analysis.specs.Action.{card_and_kernel_support_on_device_cvm, stored_amount_above_limit, transaction_limit}
use Rattle.analysis.specs.Action.{auc_violated_in_store, restrictions_tvr_byte2, tvr_before_cvm, action_codes_of}
use Rattle.analysis.specs.Action.{choice_for_tvr}
use Rattle.analysis.specs.Bits.{has_bit_counted_from_zero_at_byte1b8}
use Rattle.analysis.specs.Choice.{denial_stage, online_stage, default_stage, tvr_bit_is_in_either_action_code}
use Rattle.analysis.specs.Choice.{lowest_bit_from_start_within_count, lowest_tvr_bit_in_codes, all_zeros_action_code, all_ones_action_code}
use Rattle.analysis.specs.Choice.{iac_or_default, some_tvr_bit_in_codes_of_stage, online_capability_by_digit}
use Rattle.analysis.specs.Choice.{terminal_action_analysis, generate_ac_p1, generate_ac_p1_for}
use Rattle.analysis.specs.Digits.{append_decimal_digits, four_digit_year, date_as_number, first_date_is_later, amount_of}
use Rattle.analysis.specs.Digits.{first_amount_is_above}
use Rattle.analysis.specs.Restrictions.{card_version_present_and_differs, not_yet_effective}
use Rattle.analysis.specs.Restrictions.{is_atm_type_with_cash_capability, issuer_country_match, cashback_requested}
use Rattle.analysis.specs.Restrictions.{auc_allows_atm_or_non_atm, auc_allows_cash, auc_allows_goods_or_services}
use Rattle.analysis.specs.Restrictions.{auc_allows_cashback, auc_violated, tvr_byte2_version_expired_early_usage}
use Rattle.analysis.specs.Tvr.{tvr_byte4_amount_above_floor_limit, tvr_from_bytes2_and4}
use Rattle.analysis.specs.Value.{first_bytes_zero_padded}
use Rattle.analysis.specs.Cvm.{aip_and_configuration_support_on_device_cvm}
use Rattle.analysis.specs.declared.choice.Choice.TheVariants.{Decline, Online, Offline}
use Rattle.analysis.specs.declared.restrictions.IssuerCountryMatch.TheVariants.{Home, Abroad, NotGiven}

-- ---- dates, amounts and versions

-- equal, one day after, one day before; the first of a year after the last of another; 00 is 2000, and 99 is 1999
dates : map (first_date_is_later (0x25 ∷ 0x12 ∷ 0x31 ∷ []))
    ((0x25 ∷ 0x12 ∷ 0x31 ∷ []) ∷ (0x25 ∷ 0x12 ∷ 0x30 ∷ []) ∷ (0x26 ∷ 0x01 ∷ 0x01 ∷ []) ∷ (0x00 ∷ 0x01 ∷ 0x01 ∷ [])
    ∷ (0x99 ∷ 0x12 ∷ 0x31 ∷ []) ∷ [])
    ≡ false ∷ true ∷ false ∷ true ∷ true ∷ []
unfolding first_date_is_later date_as_number four_digit_year if first_bytes_zero_padded append_decimal_digits nibbles
dates = refl

-- expired by the transaction date after the expiration date, not yet effective by the effective date after the
-- transaction date
expirations : map (first_date_is_later (0x25 ∷ 0x12 ∷ 0x31 ∷ [])) ((0x25 ∷ 0x12 ∷ 0x30 ∷ []) ∷ (0x25 ∷ 0x12 ∷ 0x31 ∷ [])
    ∷ []) ≡ true ∷ false ∷ []
unfolding first_date_is_later date_as_number four_digit_year if first_bytes_zero_padded append_decimal_digits nibbles
expirations = refl

effective_dates : map (λ (v : StoredValue). not_yet_effective v (0x25 ∷ 0x12 ∷ 0x31 ∷ []))
    (present (0x26 ∷ 0x01 ∷ 0x01 ∷ []) ∷ present (0x25 ∷ 0x12 ∷ 0x31 ∷ []) ∷ absent ∷ [])
    ≡ true ∷ false ∷ false ∷ []
unfolding not_yet_effective first_date_is_later date_as_number four_digit_year if first_bytes_zero_padded append_decimal_digits
    nibbles
effective_dates = refl

-- the first and the last year of each half of the window
years : map four_digit_year (0 ∷ 49 ∷ 50 ∷ 99 ∷ []) ≡ 2000 ∷ 2049 ∷ 1950 ∷ 1999 ∷ []
unfolding four_digit_year if
years = refl

-- the transaction date today is after the expiration date; the effective date is after today
abbrev across : List ℕ → List ℕ → List ℕ → List Bool
across today expiration effective = first_date_is_later today expiration ∷ not_yet_effective (present effective) today ∷ []

centuries :
    across (0x25 ∷ 0x11 ∷ 0x16 ∷ []) (0x30 ∷ 0x12 ∷ 0x31 ∷ []) (0x99 ∷ 0x01 ∷ 0x01 ∷ [])
    ∷ across (0x25 ∷ 0x11 ∷ 0x16 ∷ []) (0x30 ∷ 0x12 ∷ 0x31 ∷ []) (0x49 ∷ 0x01 ∷ 0x01 ∷ [])
    ∷ across (0x25 ∷ 0x11 ∷ 0x16 ∷ []) (0x99 ∷ 0x12 ∷ 0x31 ∷ []) (0x50 ∷ 0x01 ∷ 0x01 ∷ [])
    ∷ across (0x99 ∷ 0x12 ∷ 0x31 ∷ []) (0x00 ∷ 0x01 ∷ 0x01 ∷ []) (0x00 ∷ 0x01 ∷ 0x01 ∷ [])
    ∷ across (0x25 ∷ 0x11 ∷ 0x16 ∷ []) (0x25 ∷ 0x11 ∷ 0x16 ∷ []) (0x25 ∷ 0x11 ∷ 0x16 ∷ [])
    ∷ across (0x25 ∷ 0x11 ∷ 0x16 ∷ []) (0x25 ∷ 0x11 ∷ 0x15 ∷ []) (0x25 ∷ 0x11 ∷ 0x17 ∷ [])
    ∷ across (0x50 ∷ 0x01 ∷ 0x01 ∷ []) (0x49 ∷ 0x12 ∷ 0x31 ∷ []) (0x49 ∷ 0x12 ∷ 0x31 ∷ [])
    ∷ across (0x49 ∷ 0x01 ∷ 0x01 ∷ []) (0x49 ∷ 0x01 ∷ 0x01 ∷ []) (0x50 ∷ 0x01 ∷ 0x01 ∷ []) ∷ []
    ≡ (false ∷ false ∷ []) ∷ (false ∷ true ∷ []) ∷ (true ∷ false ∷ []) ∷ (false ∷ true ∷ []) ∷ (false ∷ false ∷ [])
    ∷ (true ∷ true ∷ []) ∷ (false ∷ true ∷ []) ∷ (false ∷ false ∷ []) ∷ []
unfolding not_yet_effective first_date_is_later date_as_number four_digit_year if first_bytes_zero_padded append_decimal_digits
    nibbles
centuries = refl

-- the last year of the window and its first; month and day are compared as digits
expiries : first_date_is_later (0x25 ∷ 0x11 ∷ 0x16 ∷ []) (0x49 ∷ 0x12 ∷ 0x31 ∷ [])
    ∷ first_date_is_later (0x25 ∷ 0x11 ∷ 0x16 ∷ []) (0x50 ∷ 0x01 ∷ 0x01 ∷ [])
    ∷ first_date_is_later (0x00 ∷ 0x01 ∷ 0x01 ∷ []) (0x99 ∷ 0x12 ∷ 0x31 ∷ [])
    ∷ first_date_is_later (0x25 ∷ 0x13 ∷ 0x99 ∷ []) (0x25 ∷ 0x14 ∷ 0x00 ∷ []) ∷ []
    ≡ false ∷ true ∷ true ∷ false ∷ []
unfolding first_date_is_later date_as_number four_digit_year if first_bytes_zero_padded append_decimal_digits nibbles
expiries = refl

-- equal, one above, one below; the highest digit of twelve
amounts : map (first_amount_is_above (0 ∷ 0 ∷ 0 ∷ 0 ∷ 0x10 ∷ 0x00 ∷ []))
    ((0 ∷ 0 ∷ 0 ∷ 0 ∷ 0x10 ∷ 0x00 ∷ []) ∷ (0 ∷ 0 ∷ 0 ∷ 0 ∷ 0x09 ∷ 0x99 ∷ []) ∷ (0 ∷ 0 ∷ 0 ∷ 0 ∷ 0x10 ∷ 0x01 ∷ [])
    ∷ (0x10 ∷ 0 ∷ 0 ∷ 0 ∷ 0 ∷ 0 ∷ []) ∷ [])
    ≡ false ∷ true ∷ false ∷ false ∷ []
unfolding first_amount_is_above amount_of first_bytes_zero_padded append_decimal_digits nibbles
amounts = refl

-- another amount: absent, zero, one, and the highest digit alone
other_amounts : map cashback_requested (absent ∷ present (0 ∷ 0 ∷ 0 ∷ 0 ∷ 0 ∷ 0 ∷ [])
    ∷ present (0 ∷ 0 ∷ 0 ∷ 0 ∷ 0 ∷ 0x01 ∷ []) ∷ present (0x10 ∷ 0 ∷ 0 ∷ 0 ∷ 0 ∷ 0 ∷ []) ∷ [])
    ≡ false ∷ false ∷ true ∷ true ∷ []
unfolding cashback_requested amount_of first_bytes_zero_padded append_decimal_digits nibbles
other_amounts = refl

-- the card's version: absent, the reader's, different from it in the last byte and in the first
versions : map (λ (v : StoredValue). card_version_present_and_differs v (0x00 ∷ 0x02 ∷ []))
    (absent ∷ present (0x00 ∷ 0x02 ∷ []) ∷ present (0x00 ∷ 0x03 ∷ []) ∷ present (0x01 ∷ 0x02 ∷ []) ∷ [])
    ≡ false ∷ false ∷ true ∷ true ∷ []
unfolding card_version_present_and_differs bytes_equal both
versions = refl

-- ---- usage

-- an ATM's types, with cash among the additional capabilities
atm_types : map (λ k. is_atm_type_with_cash_capability k (present (0x80 ∷ 0 ∷ 0 ∷ 0 ∷ 0 ∷ [])))
    (0x13 ∷ 0x14 ∷ 0x15 ∷ 0x16 ∷ 0x17 ∷ 0x24 ∷ 0x26 ∷ 0x34 ∷ [])
    ≡ false ∷ true ∷ true ∷ true ∷ false ∷ false ∷ false ∷ false ∷ []
unfolding is_atm_type_with_cash_capability both either
atm_types = refl

-- cash: byte 1 b8 alone, every other bit, no capabilities
atm_cash : map (is_atm_type_with_cash_capability 0x14) (present (0x80 ∷ 0 ∷ 0 ∷ 0 ∷ 0 ∷ [])
    ∷ present (0x7F ∷ 0xFF ∷ 0xFF ∷ 0xFF ∷ 0xFF ∷ []) ∷ absent ∷ []) ≡ true ∷ false ∷ false ∷ []
unfolding is_atm_type_with_cash_capability both either
atm_cash = refl

-- the issuer's country: the terminal's, another, absent
countries : map (λ (v : StoredValue). issuer_country_match v (0x08 ∷ 0x40 ∷ []))
    (present (0x08 ∷ 0x40 ∷ []) ∷ present (0x08 ∷ 0x26 ∷ []) ∷ absent ∷ []) ≡ Home ∷ Abroad ∷ NotGiven ∷ []
unfolding issuer_country_match bytes_equal both if
countries = refl

-- the place: byte 1 b2 at an ATM, b1 elsewhere
place_atm : map (λ u. auc_allows_atm_or_non_atm u true) ((0x02 ∷ 0x00 ∷ []) ∷ (0xFD ∷ 0xFF ∷ []) ∷ []) ≡ true ∷ false ∷ []
unfolding auc_allows_atm_or_non_atm if
place_atm = refl

place_other : map (λ u. auc_allows_atm_or_non_atm u false) ((0x01 ∷ 0x00 ∷ []) ∷ (0xFE ∷ 0xFF ∷ []) ∷ []) ≡ true ∷ false ∷ []
unfolding auc_allows_atm_or_non_atm if
place_other = refl

-- transaction types with no bit set: cash for 01 and 17, goods and services for 00 and 09
cash_types : map (auc_allows_cash (0 ∷ 0 ∷ []) Home) (0x01 ∷ 0x17 ∷ 0x00 ∷ 0x02 ∷ 0x08 ∷ 0x09 ∷ 0x16 ∷ 0x18 ∷ 0x20 ∷ [])
    ≡ false ∷ false ∷ true ∷ true ∷ true ∷ true ∷ true ∷ true ∷ true ∷ []
unfolding auc_allows_cash if either
cash_types = refl

goods_types : map (auc_allows_goods_or_services (0 ∷ 0 ∷ []) Home) (0x00 ∷ 0x09 ∷ 0x01 ∷ 0x02 ∷ 0x08 ∷ 0x10 ∷ 0x16 ∷ 0x17
    ∷ 0x20 ∷ [])
    ≡ false ∷ false ∷ true ∷ true ∷ true ∷ true ∷ true ∷ true ∷ true ∷ []
unfolding auc_allows_goods_or_services if either
goods_types = refl

-- cash: byte 1 b8 at home, b7 abroad, nothing where the country is not given
cash_home : map (λ u. auc_allows_cash u Home 0x01) ((0x80 ∷ 0x00 ∷ []) ∷ (0x7F ∷ 0xFF ∷ []) ∷ []) ≡ true ∷ false ∷ []
unfolding auc_allows_cash if either
cash_home = refl

cash_abroad : map (λ u. auc_allows_cash u Abroad 0x17) ((0x40 ∷ 0x00 ∷ []) ∷ (0xBF ∷ 0xFF ∷ []) ∷ []) ≡ true ∷ false ∷ []
unfolding auc_allows_cash if either
cash_abroad = refl

cash_anywhere : auc_allows_cash (0x00 ∷ 0x00 ∷ []) NotGiven 0x01 ≡ true
unfolding auc_allows_cash if either
cash_anywhere = refl

-- goods and services: byte 1 b6 or b4 at home, b5 or b3 abroad
goods_home : map (λ u. auc_allows_goods_or_services u Home 0x00) ((0x20 ∷ 0x00 ∷ []) ∷ (0x08 ∷ 0x00 ∷ [])
    ∷ (0xD7 ∷ 0xFF ∷ []) ∷ []) ≡ true ∷ true ∷ false ∷ []
unfolding auc_allows_goods_or_services if either
goods_home = refl

goods_abroad : map (λ u. auc_allows_goods_or_services u Abroad 0x09) ((0x10 ∷ 0x00 ∷ []) ∷ (0x04 ∷ 0x00 ∷ [])
    ∷ (0xEB ∷ 0xFF ∷ []) ∷ []) ≡ true ∷ true ∷ false ∷ []
unfolding auc_allows_goods_or_services if either
goods_abroad = refl

-- cashback: byte 2 b8 at home, b7 abroad, nothing where none is requested
cashback_home : map (λ u. auc_allows_cashback u Home true) ((0x00 ∷ 0x80 ∷ []) ∷ (0xFF ∷ 0x7F ∷ []) ∷ []) ≡ true ∷ false
    ∷ []
unfolding auc_allows_cashback if
cashback_home = refl

cashback_abroad : map (λ u. auc_allows_cashback u Abroad true) ((0x00 ∷ 0x40 ∷ []) ∷ (0xFF ∷ 0xBF ∷ []) ∷ []) ≡ true
    ∷ false ∷ []
unfolding auc_allows_cashback if
cashback_abroad = refl

cashback_not_asked : auc_allows_cashback (0x00 ∷ 0x00 ∷ []) Home false ≡ true
unfolding auc_allows_cashback if
cashback_not_asked = refl

-- usage over the values: 9F07, the terminal's type, 9F40, 5F28, 9F1A, 9C and 9F03
abbrev auc_violated_by : StoredValue → ℕ → StoredValue → StoredValue → List ℕ → ℕ → StoredValue → Bool
auc_violated_by control kind capabilities issuer terminal transaction other =
    auc_violated control (is_atm_type_with_cash_capability kind capabilities) (issuer_country_match issuer terminal) transaction
    (cashback_requested other)

-- goods at home with cashback at no ATM: all three bits, each of them missing, and no control
usage_whole : map (λ (v : StoredValue). auc_violated_by v 0x22 absent (present (0x08 ∷ 0x40 ∷ [])) (0x08 ∷ 0x40 ∷ []) 0x00
    (present (0 ∷ 0 ∷ 0 ∷ 0 ∷ 0 ∷ 0x01 ∷ [])))
    (present (0x21 ∷ 0x80 ∷ []) ∷ present (0x20 ∷ 0x80 ∷ []) ∷ present (0x01 ∷ 0x80 ∷ []) ∷ present (0x21 ∷ 0x00 ∷ [])
    ∷ absent ∷ [])
    ≡ false ∷ true ∷ true ∷ true ∷ false ∷ []
unfolding auc_violated auc_allows_atm_or_non_atm auc_allows_cash auc_allows_goods_or_services auc_allows_cashback
    is_atm_type_with_cash_capability issuer_country_match cashback_requested amount_of first_bytes_zero_padded append_decimal_digits
    nibbles bytes_equal both either if
usage_whole = refl

-- cash at home at an ATM
usage_cash : map (λ (v : StoredValue). auc_violated_by v 0x14 (present (0x80 ∷ 0 ∷ 0 ∷ 0 ∷ 0 ∷ []))
    (present (0x08 ∷ 0x40 ∷ [])) (0x08 ∷ 0x40 ∷ []) 0x01 absent)
    (present (0x82 ∷ 0x00 ∷ []) ∷ present (0x81 ∷ 0x00 ∷ []) ∷ present (0x02 ∷ 0x00 ∷ []) ∷ [])
    ≡ false ∷ true ∷ true ∷ []
unfolding auc_violated auc_allows_atm_or_non_atm auc_allows_cash auc_allows_goods_or_services auc_allows_cashback
    is_atm_type_with_cash_capability issuer_country_match cashback_requested bytes_equal both either if
usage_cash = refl

-- ---- TVR bits

-- byte 2: each test at its bit
restriction_bits : tvr_byte2_version_expired_early_usage true false false false ∷ tvr_byte2_version_expired_early_usage false true
    false false ∷ tvr_byte2_version_expired_early_usage false false true false ∷ tvr_byte2_version_expired_early_usage false false
    false true
    ∷ tvr_byte2_version_expired_early_usage false false false false ∷ []
    ≡ 0x80 ∷ 0x40 ∷ 0x20 ∷ 0x10 ∷ 0x00 ∷ []
unfolding if
restriction_bits = refl

-- byte 4: the floor limit, at it and one above it
floor_bits : map (λ a. tvr_byte4_amount_above_floor_limit a (0 ∷ 0 ∷ 0 ∷ 0 ∷ 0x10 ∷ 0x00 ∷ []))
    ((0 ∷ 0 ∷ 0 ∷ 0 ∷ 0x10 ∷ 0x00 ∷ []) ∷ (0 ∷ 0 ∷ 0 ∷ 0 ∷ 0x10 ∷ 0x01 ∷ []) ∷ []) ≡ 0x00 ∷ 0x80 ∷ []
unfolding first_amount_is_above amount_of first_bytes_zero_padded append_decimal_digits nibbles if
floor_bits = refl

-- each byte at its place
result_bytes_lem : tvr_from_bytes2_and4 0xF0 0x80 ≡ 0x80 ∷ 0xF0 ∷ 0x00 ∷ 0x80 ∷ 0x00 ∷ []
result_bytes_lem = refl

-- ---- the choice

-- bits by number: byte 1 b8, byte 1 b1, byte 2 b8, byte 5 b1; and one that the codes do not have
bit_numbers : map (λ s. lowest_tvr_bit_in_codes s (record { card = s; terminal = all_zeros_action_code }))
    ((0x80 ∷ 0 ∷ 0 ∷ 0 ∷ 0 ∷ []) ∷ (0x01 ∷ 0 ∷ 0 ∷ 0 ∷ 0 ∷ []) ∷ (0 ∷ 0x80 ∷ 0 ∷ 0 ∷ 0 ∷ [])
    ∷ (0 ∷ 0 ∷ 0 ∷ 0 ∷ 0x01 ∷ []) ∷ all_zeros_action_code ∷ [])
    ≡ Some 0 ∷ Some 7 ∷ Some 8 ∷ Some 39 ∷ None ∷ []
unfolding lowest_tvr_bit_in_codes lowest_bit_from_start_within_count tvr_bit_is_in_either_action_code has_bit_counted_from_zero_at_byte1b8 both either if
bit_numbers = refl

-- held by the card's code alone, by the terminal's alone, by neither
held_bits : map (lowest_tvr_bit_in_codes (0x80 ∷ 0 ∷ 0 ∷ 0 ∷ 0 ∷ []))
    (record { card = 0x80 ∷ 0 ∷ 0 ∷ 0 ∷ 0 ∷ []; terminal = all_zeros_action_code }
    ∷ record { card = all_zeros_action_code; terminal = 0x80 ∷ 0 ∷ 0 ∷ 0 ∷ 0 ∷ [] }
    ∷ record { card = 0x7F ∷ 0xFF ∷ 0xFF ∷ 0xFF ∷ 0xFF ∷ []; terminal = 0x7F ∷ 0xFF ∷ 0xFF ∷ 0xFF ∷ 0xFF ∷ [] } ∷ [])
    ≡ Some 0 ∷ Some 0 ∷ None ∷ []
unfolding lowest_tvr_bit_in_codes lowest_bit_from_start_within_count tvr_bit_is_in_either_action_code has_bit_counted_from_zero_at_byte1b8 both either if
held_bits = refl

-- an absent card code: zeros for denial, ones for online and default
absent_codes : map (λ s. iac_or_default s absent) (denial_stage ∷ online_stage ∷ default_stage ∷ [])
    ≡ (0x00 ∷ 0x00 ∷ 0x00 ∷ 0x00 ∷ 0x00 ∷ []) ∷ (0xFF ∷ 0xFF ∷ 0xFF ∷ 0xFF ∷ 0xFF ∷ [])
    ∷ (0xFF ∷ 0xFF ∷ 0xFF ∷ 0xFF ∷ 0xFF ∷ []) ∷ []
unfolding iac_or_default if
absent_codes = refl

-- P1 by the type, 95 of 80 00 00 00 00 and the terminal's codes: for denial, online and default
abbrev asked : List ℕ → List ℕ → List ℕ → ℕ → ℕ
asked d o f kind = generate_ac_p1_for (0x80 ∷ 0 ∷ 0 ∷ 0 ∷ 0 ∷ []) kind
    (record { card = all_zeros_action_code; terminal = d } ∷ record { card = all_zeros_action_code; terminal = o }
    ∷ record { card = all_zeros_action_code; terminal = f } ∷ [])

-- types that end in 1 to 6, and in 0 and 7, which no session takes
abbrev endings : List ℕ
endings = 0x21 ∷ 0x22 ∷ 0x23 ∷ 0x24 ∷ 0x25 ∷ 0x26 ∷ 0x20 ∷ 0x27 ∷ []

-- a bit in no code; in the online code; in the default code; in the denial code and all others
no_bit : map (asked all_zeros_action_code all_zeros_action_code all_zeros_action_code) endings ≡ 0x80 ∷ 0x40 ∷ 0x40 ∷ 0x80 ∷ 0x40
    ∷ 0x40 ∷ 0x00 ∷ 0x00 ∷ []
unfolding generate_ac_p1_for some_tvr_bit_in_codes_of_stage lowest_tvr_bit_in_codes lowest_bit_from_start_within_count tvr_bit_is_in_either_action_code
    has_bit_counted_from_zero_at_byte1b8 both either if
no_bit = refl

online_bit : map (asked all_zeros_action_code all_ones_action_code all_zeros_action_code) endings ≡ 0x80 ∷ 0x80 ∷ 0x40 ∷ 0x80
    ∷ 0x80 ∷ 0x40 ∷ 0x00 ∷ 0x00 ∷ []
unfolding generate_ac_p1_for some_tvr_bit_in_codes_of_stage lowest_tvr_bit_in_codes lowest_bit_from_start_within_count tvr_bit_is_in_either_action_code
    has_bit_counted_from_zero_at_byte1b8 both either if
online_bit = refl

default_bit : map (asked all_zeros_action_code all_zeros_action_code all_ones_action_code) endings ≡ 0x80 ∷ 0x40 ∷ 0x00 ∷ 0x80
    ∷ 0x40 ∷ 0x00 ∷ 0x00 ∷ 0x00 ∷ []
unfolding generate_ac_p1_for some_tvr_bit_in_codes_of_stage lowest_tvr_bit_in_codes lowest_bit_from_start_within_count tvr_bit_is_in_either_action_code
    has_bit_counted_from_zero_at_byte1b8 both either if
default_bit = refl

denial_bit : map (asked all_ones_action_code all_ones_action_code all_ones_action_code) endings ≡ 0x00 ∷ 0x00 ∷ 0x00 ∷ 0x00
    ∷ 0x00 ∷ 0x00 ∷ 0x00 ∷ 0x00 ∷ []
unfolding generate_ac_p1_for some_tvr_bit_in_codes_of_stage lowest_tvr_bit_in_codes lowest_bit_from_start_within_count tvr_bit_is_in_either_action_code
    has_bit_counted_from_zero_at_byte1b8 both either if
denial_bit = refl

-- the number of each choice
choice_numbers : map generate_ac_p1 (Decline ∷ Offline ∷ Online ∷ []) ≡ 0x00 ∷ 0x40 ∷ 0x80 ∷ []
choice_numbers = refl

-- ---- the tags that the rules name, in a store of a purchase

-- a store with a value under a tag
abbrev with : List ℕ → ℕ → List ℕ → List ℕ
with b t v = put_row dictionary_rows b (row_number_of_tag_or_zero t) v

-- 10.00 on 31 December 2025 at both limits, with a card of the reader's version that expires on that day; type 22,
-- codes of zeros
abbrev purchase : List ℕ
purchase =
    with (with (with (with (with (with (with (with (with (with (with (with (replicate store_size 0)
    0x9A (0x25 ∷ 0x12 ∷ 0x31 ∷ [])) 0x5F24 (0x25 ∷ 0x12 ∷ 0x31 ∷ [])) 0x9C (0x00 ∷ []))
    0x9F02 (0 ∷ 0 ∷ 0 ∷ 0 ∷ 0x10 ∷ 0x00 ∷ [])) 0xDF8123 (0 ∷ 0 ∷ 0 ∷ 0 ∷ 0x10 ∷ 0x00 ∷ [])) 0xDF8124
    (0 ∷ 0 ∷ 0 ∷ 0 ∷ 0x10 ∷ 0x00 ∷ []))
    0x9F09 (0x00 ∷ 0x02 ∷ [])) 0x9F1A (0x08 ∷ 0x40 ∷ [])) 0x9F35 (0x22 ∷ []))
    0xDF8120 all_zeros_action_code) 0xDF8121 all_zeros_action_code) 0xDF8122 all_zeros_action_code

-- one more object, or changed
abbrev changed : ℕ → List ℕ → List ℕ
changed t v = tvr_before_cvm (with purchase t v)

results : tvr_before_cvm purchase
    ∷ changed 0x9F08 (0x00 ∷ 0x03 ∷ [])
    ∷ changed 0x5F24 (0x25 ∷ 0x12 ∷ 0x30 ∷ [])
    ∷ changed 0x5F25 (0x26 ∷ 0x01 ∷ 0x01 ∷ [])
    ∷ changed 0x9F07 (0x00 ∷ 0x00 ∷ [])
    ∷ changed 0xDF8123 (0 ∷ 0 ∷ 0 ∷ 0 ∷ 0x09 ∷ 0x99 ∷ [])
    ∷ []
    ≡ (0x80 ∷ 0x00 ∷ 0 ∷ 0x00 ∷ 0 ∷ [])
    ∷ (0x80 ∷ 0x80 ∷ 0 ∷ 0x00 ∷ 0 ∷ [])
    ∷ (0x80 ∷ 0x40 ∷ 0 ∷ 0x00 ∷ 0 ∷ [])
    ∷ (0x80 ∷ 0x20 ∷ 0 ∷ 0x00 ∷ 0 ∷ [])
    ∷ (0x80 ∷ 0x10 ∷ 0 ∷ 0x00 ∷ 0 ∷ [])
    ∷ (0x80 ∷ 0x00 ∷ 0 ∷ 0x80 ∷ 0 ∷ [])
    ∷ []
unfolding tvr_before_cvm restrictions_tvr_byte2 auc_violated_in_store card_version_present_and_differs not_yet_effective auc_violated
    auc_allows_atm_or_non_atm auc_allows_cash auc_allows_goods_or_services auc_allows_cashback is_atm_type_with_cash_capability
    issuer_country_match cashback_requested
    first_amount_is_above amount_of first_date_is_later date_as_number four_digit_year first_bytes_zero_padded append_decimal_digits
    nibbles bytes_equal both either if
    put_row row_number_of_tag_or_zero object_value_in row_value row_place_bytes value_in_place row_offset find_row row_found_shifted
    dictionary_rows
results = refl

-- usage: 9F07 lets goods at home be bought at no ATM; then abroad by 5F28, at home by it, with cashback by 9F03, cash
-- by 9C, at an ATM by 9F35 and 9F40
abbrev used : List (ℕ × List ℕ) → List ℕ
used [] = with purchase 0x9F07 (0x21 ∷ 0x00 ∷ [])
used ((t, v) ∷ more) = with (used more) t v

abbrev home : ℕ × List ℕ
home = (0x5F28, 0x08 ∷ 0x40 ∷ [])

usages : map auc_violated_in_store
    (used []
    ∷ used ((0x5F28, 0x08 ∷ 0x26 ∷ []) ∷ [])
    ∷ used (home ∷ [])
    ∷ used ((0x9F1A, 0x08 ∷ 0x26 ∷ []) ∷ home ∷ [])
    ∷ used ((0x9F03, 0 ∷ 0 ∷ 0 ∷ 0 ∷ 0 ∷ 0x01 ∷ []) ∷ home ∷ [])
    ∷ used ((0x9C, 0x01 ∷ []) ∷ home ∷ [])
    ∷ used ((0x9F35, 0x14 ∷ []) ∷ [])
    ∷ used ((0x9F40, 0x80 ∷ 0 ∷ 0 ∷ 0 ∷ 0 ∷ []) ∷ (0x9F35, 0x14 ∷ []) ∷ [])
    ∷ [])
    ≡ false ∷ true ∷ false ∷ true ∷ true ∷ true ∷ false ∷ true ∷ []
unfolding auc_violated_in_store auc_violated auc_allows_atm_or_non_atm auc_allows_cash auc_allows_goods_or_services auc_allows_cashback
    is_atm_type_with_cash_capability issuer_country_match cashback_requested amount_of first_bytes_zero_padded append_decimal_digits
    nibbles bytes_equal both either if
    put_row row_number_of_tag_or_zero object_value_in row_value row_place_bytes value_in_place row_offset find_row row_found_shifted
    dictionary_rows
usages = refl

-- the transaction limit DF8124: at it, and one above it
abbrev limited : List ℕ → Bool
limited b = stored_amount_above_limit (transaction_limit b) b

limits : limited purchase ∷ limited (with purchase 0xDF8124 (0 ∷ 0 ∷ 0 ∷ 0 ∷ 0x09 ∷ 0x99 ∷ [])) ∷ [] ≡ false ∷ true ∷ []
unfolding stored_amount_above_limit transaction_limit card_and_kernel_support_on_device_cvm aip_and_configuration_support_on_device_cvm
    both first_amount_is_above amount_of first_bytes_zero_padded append_decimal_digits nibbles if
    put_row row_number_of_tag_or_zero object_value_in row_value row_place_bytes value_in_place row_offset find_row row_found_shifted
    dictionary_rows
limits = refl

-- P1 in that store with the three card codes of zeros, a terminal's type, and a code of ones
abbrev asks : ℕ → ℕ → ℕ
asks kind t =
    generate_ac_p1
    (choice_for_tvr
    (with
    (with (with (with (with purchase 0x9F0E all_zeros_action_code) 0x9F0F all_zeros_action_code) 0x9F0D all_zeros_action_code)
    0x9F35 (kind ∷ [])) t all_ones_action_code) (0x80 ∷ 0 ∷ 0 ∷ 0 ∷ 0 ∷ []))

-- type 22 by the denial codes 9F0E and DF8121, the online codes 9F0F and DF8122, the default codes 9F0D and DF8120
codes_22 : map (asks 0x22) (0x9F0E ∷ 0xDF8121 ∷ 0x9F0F ∷ 0xDF8122 ∷ 0x9F0D ∷ 0xDF8120 ∷ []) ≡ 0x00 ∷ 0x00 ∷ 0x80 ∷ 0x80
    ∷ 0x40 ∷ 0x40 ∷ []
unfolding choice_for_tvr action_codes_of iac_or_default terminal_action_analysis online_capability_by_digit
    some_tvr_bit_in_codes_of_stage lowest_tvr_bit_in_codes lowest_bit_from_start_within_count tvr_bit_is_in_either_action_code has_bit_counted_from_zero_at_byte1b8
    first_bytes_zero_padded both either if
    put_row row_number_of_tag_or_zero object_value_in row_value row_place_bytes value_in_place row_offset find_row row_found_shifted
    dictionary_rows
codes_22 = refl

-- type 23 by the same
codes_23 : map (asks 0x23) (0x9F0E ∷ 0xDF8121 ∷ 0x9F0F ∷ 0xDF8122 ∷ 0x9F0D ∷ 0xDF8120 ∷ []) ≡ 0x00 ∷ 0x00 ∷ 0x40 ∷ 0x40
    ∷ 0x00 ∷ 0x00 ∷ []
unfolding choice_for_tvr action_codes_of iac_or_default terminal_action_analysis online_capability_by_digit
    some_tvr_bit_in_codes_of_stage lowest_tvr_bit_in_codes lowest_bit_from_start_within_count tvr_bit_is_in_either_action_code has_bit_counted_from_zero_at_byte1b8
    first_bytes_zero_padded both either if
    put_row row_number_of_tag_or_zero object_value_in row_value row_place_bytes value_in_place row_offset find_row row_found_shifted
    dictionary_rows
codes_23 = refl
