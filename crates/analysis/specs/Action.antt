-- Action analysis over a session's store (document 01, "Result bits and the choice" and, for the limit, "Commands
-- and steps"; document 02, Item 5 for cardholder verification and Item 8 for phones): the TVR (95), the CVM, the
-- three pairs of action codes, the choice and the transaction limit, from the values of the tags that the rules
-- name. A running session in its ranges holds 9A, 9C, 9F02, 9F09, 9F1A, 9F33, 9F35, DF811B and DF8120 to DF8126,
-- each at its length, and 5F24 when the bits are made. Documents 01 and 02 leave open what comes of a store that
-- lacks one of them. Here an absent value reads as no bytes, and a byte past a value's end as 0: so a missing date,
-- amount, limit, type, capability, configuration or terminal's code is zero, and a missing version or country
-- differs from any that has bytes.
-- Assumes nothing.
use Rattle.std.specs.Prelude.{◌≡◌, Bool, true, false, List, [], ◌∷◌}
use Rattle.basics.specs.Types.{Amount, Byte, StoreBytes, Tag, TvrBytes}
use Rattle.basics.specs.Alike.{bytes_equal}
use Rattle.basics.specs.Choice.{when◌then◌else◌, ◌<?◌, ◌=?◌}
use Rattle.store.specs.Place.{StoredValue, absent, present, object_value}
use Rattle.store.specs.Held.{stored_bytes, stored_byte}
use Rattle.analysis.specs.Choice.{denial_stage, online_stage, default_stage, action_codes_at, terminal_action_analysis}
use Rattle.analysis.specs.Digits.{is_one_of, first_date_is_later, amount_of, first_amount_is_above}
use Rattle.analysis.specs.Restrictions.{card_version_present_and_differs, not_yet_effective}
use Rattle.analysis.specs.Restrictions.{is_atm_type_with_cash_capability, issuer_country_match}
use Rattle.analysis.specs.Restrictions.{cashback_requested, auc_violated, tvr_byte2_version_expired_early_usage}
use Rattle.analysis.specs.Tvr.{tvr_byte4_amount_above_floor_limit, tvr_from_bytes2_and4, tvr_with_bits}
use Rattle.analysis.specs.Cvm.{cvm_amount_x, cvm_amount_y, cvm_processing, aip_and_configuration_support_on_device_cvm}
use Rattle.analysis.specs.Cvm.{on_device_cvm_result_by_above_limit}
use Rattle.analysis.specs.Cvm.{cvm_results_bytes, cvm_tvr_bits}
use Rattle.analysis.specs.declared.action.AnalysisFindings.{AnalysisFindings}
use Rattle.analysis.specs.declared.choice.Choice.{Choice}
use Rattle.analysis.specs.declared.choice.ActionCodes.{ActionCodes}
use Rattle.analysis.specs.declared.cvm.CvmConditions.{CvmConditions}
use Rattle.analysis.specs.declared.cvm.CvmResult.{CvmResult}

-- ---- what the store holds

-- the terminal's type: the first byte of 9F35, 0 where it is absent
abbrev pub terminal_type : StoreBytes → Byte
terminal_type store = stored_byte store 0x9F35 1

-- the transaction's type: the first byte of 9C
abbrev pub transaction_type : StoreBytes → Byte
transaction_type store = stored_byte store 0x9C 1

-- a device with on-device CVM, by the AIP (82) and the terminal's configuration DF811B
unfoldable pub card_and_kernel_support_on_device_cvm : StoreBytes → Bool
card_and_kernel_support_on_device_cvm store =
    aip_and_configuration_support_on_device_cvm (stored_byte store 0x82 1) (stored_byte store 0xDF811B 1)

-- ---- the transaction limit

-- the Reader Contactless Transaction Limit of this session (document 02, Item 8; Book C-2, S3.33 to S3.35): DF8125 with
-- on-device CVM, else DF8124
unfoldable pub transaction_limit : StoreBytes → Amount
transaction_limit store =
    when card_and_kernel_support_on_device_cvm store then amount_of (stored_bytes store 0xDF8125)
    else amount_of (stored_bytes store 0xDF8124)

-- reason 6 (Book C-2, S456.14): the amount is above a limit; an equal one is not
unfoldable pub stored_amount_above_limit : Amount → StoreBytes → Bool
stored_amount_above_limit limit store = limit <? amount_of (stored_bytes store 0x9F02)

-- ---- the TVR

-- byte 2 b5: the application usage control against type, capabilities, countries, transaction type and other amount
unfoldable pub auc_violated_in_store : StoreBytes → Bool
auc_violated_in_store store =
    auc_violated (object_value store 0x9F07)
    (is_atm_type_with_cash_capability (terminal_type store) (object_value store 0x9F40))
    (issuer_country_match (object_value store 0x5F28) (stored_bytes store 0x9F1A))
    (transaction_type store) (cashback_requested (object_value store 0x9F03))

-- byte 2: version; the transaction date 9A later than the expiration date 5F24; effective date; usage
unfoldable pub restrictions_tvr_byte2 : StoreBytes → Byte
restrictions_tvr_byte2 store =
    tvr_byte2_version_expired_early_usage
    (card_version_present_and_differs (object_value store 0x9F08) (stored_bytes store 0x9F09))
    (first_date_is_later (stored_bytes store 0x9A) (stored_bytes store 0x5F24))
    (not_yet_effective (object_value store 0x5F25) (stored_bytes store 0x9A))
    (auc_violated_in_store store)

-- the five bytes of 95 by restrictions and floor limit
unfoldable pub tvr_before_cvm : StoreBytes → TvrBytes
tvr_before_cvm store =
    tvr_from_bytes2_and4 (restrictions_tvr_byte2 store) (tvr_byte4_amount_above_floor_limit (stored_bytes store 0x9F02)
    (stored_bytes store 0xDF8123))

-- ---- cardholder verification

-- the transaction's currency 5F2A is the application's 9F42; one that is absent counts as another
unfoldable pub currencies_present_and_equal : StoredValue → StoredValue → Bool
currencies_present_and_equal absent application = false
currencies_present_and_equal (present transaction) absent = false
currencies_present_and_equal (present transaction) (present application) = bytes_equal transaction application

-- what the conditions of the CVM List's rules depend on: byte 2 of 9F33; cash, type 01 or 17, and cashback, type 09; an
-- ATM; the currency; the amount 9F02, and X and Y of the CVM List (8E)
unfoldable pub cvm_conditions_in : StoreBytes → CvmConditions
cvm_conditions_in store =
    record {
      capabilities = stored_byte store 0x9F33 2;
      cash = is_one_of (transaction_type store) 0x01 0x17;
      cashback = transaction_type store =? 0x09;
      atm = is_atm_type_with_cash_capability (terminal_type store) (object_value store 0x9F40);
      currency = currencies_present_and_equal (object_value store 0x5F2A) (object_value store 0x9F42);
      amount = amount_of (stored_bytes store 0x9F02);
      x = cvm_amount_x (stored_bytes store 0x8E);
      y = cvm_amount_y (stored_bytes store 0x8E);
    }

-- the CVM: with on-device CVM by the limit DF8126 alone, else by the AIP (82) and the CVM List (8E)
unfoldable pub cvm_result_in : StoreBytes → CvmResult
cvm_result_in store =
    when card_and_kernel_support_on_device_cvm store then on_device_cvm_result_by_above_limit
    (first_amount_is_above (stored_bytes store 0x9F02) (stored_bytes store 0xDF8126))
    else cvm_processing (stored_byte store 0x82 1) (object_value store 0x8E) (cvm_conditions_in store)

-- the five bytes of 95 with the bits that the verification adds
unfoldable pub tvr_with_cvm : StoreBytes → TvrBytes
tvr_with_cvm store = tvr_with_bits (tvr_before_cvm store) (cvm_tvr_bits (cvm_result_in store))

-- what is found before the choice: 9F34, 95 and the CVM
unfoldable pub findings_of : StoreBytes → AnalysisFindings
findings_of store =
    record { results = cvm_results_bytes (cvm_result_in store); bits = tvr_with_cvm store; cvm = (cvm_result_in store).cvm }

-- ---- the choice

-- the pairs of action codes, the card's and the terminal's: denial, online, default
unfoldable pub action_codes_of : StoreBytes → List ActionCodes
action_codes_of store =
    action_codes_at denial_stage (object_value store 0x9F0E) (stored_bytes store 0xDF8121)
    ∷ action_codes_at online_stage (object_value store 0x9F0F) (stored_bytes store 0xDF8122)
    ∷ action_codes_at default_stage (object_value store 0x9F0D) (stored_bytes store 0xDF8120)
    ∷ []

-- what is requested for a TVR
unfoldable pub choice_for_tvr : StoreBytes → TvrBytes → Choice
choice_for_tvr store result = terminal_action_analysis result (terminal_type store) (action_codes_of store)

-- ---- what holds of it, proved in proofs/VerificationStore

--   odd-byte-stored   of two stores alike but for an 8E that is even in the one and has one more byte in the other, the
--                     verification is the same

-- two stores are alike but for 82 and 8E
abbrev pub AlikeButAipAndCvmList : StoreBytes → StoreBytes → Type 0
AlikeButAipAndCvmList b c = (t : Tag) → (t ≡ 0x82 → ⊥) → (t ≡ 0x8E → ⊥) → object_value b t ≡ object_value c t

-- with on-device CVM the list and the other bits of the AIP do not matter; `action::findings_of` promises it
pub record OnDeviceCvmIgnoresCvmList : Type 0 where
  -- of two devices with on-device CVM alike but for 82 and 8E, 9F34, 95 and the CVM are the same
  pub same : (b c : StoreBytes) → card_and_kernel_support_on_device_cvm b ≡ true
      → card_and_kernel_support_on_device_cvm c ≡ true → AlikeButAipAndCvmList b c
      → findings_of b ≡ findings_of c
  -- the verification adds no bit to 95
  pub no_bits : (b : StoreBytes) → card_and_kernel_support_on_device_cvm b ≡ true → (findings_of b).bits ≡ tvr_before_cvm b
