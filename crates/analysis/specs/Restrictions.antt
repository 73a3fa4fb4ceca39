-- Restrictions, byte 2 of 95 (document 01, "Result bits and the choice"; Book C-2, 7.7): version, dates and usage.
-- What a session holds when the bits are made comes as its bytes, what may be missing as a `StoredValue`.
-- Assumes nothing.
use Rattle.std.specs.Prelude.{Bool, true, false, not, ◌+◌}
use Rattle.basics.specs.Types.{Byte, Value}
use Rattle.basics.specs.Choice.{when◌then◌else◌, ◌and◌, ◌or◌, ◌<?◌, ◌=?◌}
use Rattle.analysis.specs.Bits.{value_has_bit, bit_weight_if_set}
use Rattle.analysis.specs.Digits.{is_one_of, first_date_is_later, amount_of}
use Rattle.store.specs.Place.{StoredValue, absent, present}
use Rattle.basics.specs.Alike.{bytes_equal}
use Rattle.analysis.specs.declared.restrictions.IssuerCountryMatch.{IssuerCountryMatch}
use Rattle.analysis.specs.declared.restrictions.IssuerCountryMatch.TheVariants.{Home, Abroad, NotGiven}

-- b8: the card's application version 9F08 is present and differs from the reader's 9F09
unfoldable pub card_version_present_and_differs : StoredValue → Value → Bool
card_version_present_and_differs absent reader = false
card_version_present_and_differs (present card) reader = not (bytes_equal card reader)

-- b6: the effective date 5F25 is present and later than the transaction date 9A
unfoldable pub not_yet_effective : StoredValue → Value → Bool
not_yet_effective absent today = false
not_yet_effective (present effective) today = first_date_is_later effective today

-- ---- b5: usage

-- a terminal type, 9F35, of an ATM
abbrev pub is_atm_type : Byte → Bool
is_atm_type kind = kind =? 0x14 or kind =? 0x15 or kind =? 0x16

-- at an ATM: such a type, and the additional capabilities 9F40 present with byte 1 b8, cash
unfoldable pub is_atm_type_with_cash_capability : Byte → StoredValue → Bool
is_atm_type_with_cash_capability kind absent = false
is_atm_type_with_cash_capability kind (present capabilities) = is_atm_type kind and value_has_bit capabilities 1 8

-- home where the issuer's country 5F28 is the terminal's 9F1A, else abroad; not given where 5F28 is absent
unfoldable pub issuer_country_match : StoredValue → Value → IssuerCountryMatch
issuer_country_match absent terminal = NotGiven
issuer_country_match (present issuer) terminal = when bytes_equal issuer terminal then Home else Abroad

-- cashback is requested: the other amount 9F03 is present and not zero
unfoldable pub cashback_requested : StoredValue → Bool
cashback_requested absent = false
cashback_requested (present other) = 0 <? amount_of other

-- what is needed at home, and what abroad; nothing where the country is not given
abbrev pub requirement_by_country : IssuerCountryMatch → Bool → Bool → Bool
requirement_by_country Home home abroad = home
requirement_by_country Abroad home abroad = abroad
requirement_by_country NotGiven home abroad = true

-- the place: byte 1 b2 at an ATM, else b1
unfoldable pub auc_allows_atm_or_non_atm : Value → Bool → Bool
auc_allows_atm_or_non_atm usage atm = when atm then value_has_bit usage 1 2 else value_has_bit usage 1 1

-- cash, transaction type 9C of 01 or 17: byte 1 b8 at home, b7 abroad
unfoldable pub auc_allows_cash : Value → IssuerCountryMatch → Byte → Bool
auc_allows_cash usage country transaction =
    when is_one_of transaction 0x01 0x17 then requirement_by_country country (value_has_bit usage 1 8) (value_has_bit usage 1 7)
    else true

-- goods or services, type of 00 or 09: byte 1 b6 or b4 at home, b5 or b3 abroad
unfoldable pub auc_allows_goods_or_services : Value → IssuerCountryMatch → Byte → Bool
auc_allows_goods_or_services usage country transaction =
    when is_one_of transaction 0x00 0x09 then
    requirement_by_country country
    (value_has_bit usage 1 6 or value_has_bit usage 1 4) (value_has_bit usage 1 5 or value_has_bit usage 1 3)
    else true

-- cashback: byte 2 b8 at home, b7 abroad
unfoldable pub auc_allows_cashback : Value → IssuerCountryMatch → Bool → Bool
auc_allows_cashback usage country asked =
    when asked then requirement_by_country country (value_has_bit usage 2 8) (value_has_bit usage 2 7) else true

-- the application usage control 9F07 is present and something needed is not met
unfoldable pub auc_violated : StoredValue → Bool → IssuerCountryMatch → Byte → Bool → Bool
auc_violated absent atm country transaction asked = false
auc_violated (present usage) atm country transaction asked =
    not (auc_allows_atm_or_non_atm usage atm
    and auc_allows_cash usage country transaction
    and auc_allows_goods_or_services usage country transaction
    and auc_allows_cashback usage country asked)

-- ---- the byte of the four

-- byte 2: another version b8, expired b7, not yet effective b6, usage b5
abbrev pub tvr_byte2_version_expired_early_usage : Bool → Bool → Bool → Bool → Byte
tvr_byte2_version_expired_early_usage version expired not_yet usage =
    bit_weight_if_set 8 version + bit_weight_if_set 7 expired + bit_weight_if_set 6 not_yet + bit_weight_if_set 5 usage
