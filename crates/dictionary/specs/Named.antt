-- Written by bin/dictionary from dictionary.tsv: change that table, and run it again.
-- Numbers of rows, counted from 0: of the tags that code uses, of what a start must bring, and of the first row of
-- each part of the search. The proofs find each of them in the table: proofs/Named, proofs/Part, and
-- `required_numbers` in session_record/specs/Inner. The row of any tag, `row_number_of_tag_or_zero`, is passed on from
-- specs/Rows.
-- Assumes nothing.
use Rattle.std.specs.Prelude.{List, [], ◌∷◌}
use Rattle.basics.specs.Types.{TagList, RowNumber, Count}
pub use Rattle.dictionary.specs.Rows.{row_number_found_or_zero}
unfoldable pub use Rattle.dictionary.specs.Rows.{row_number_of_tag_or_zero}

-- the tags that code uses, in the order of the constants
unfoldable pub used_tags : TagList
used_tags =
    0x5A ∷ 0x82 ∷ 0x8C ∷ 0x8E ∷ 0x94 ∷ 0x95 ∷ 0x9A ∷ 0x9C ∷ 0x5F24 ∷ 0x5F25 ∷ 0x5F28 ∷ 0x5F2A ∷ 0x9F02 ∷ 0x9F03 ∷
    0x9F07 ∷ 0x9F08 ∷ 0x9F09 ∷ 0x9F0D ∷ 0x9F0E ∷ 0x9F0F ∷ 0x9F10 ∷ 0x9F1A ∷ 0x9F26 ∷ 0x9F27 ∷ 0x9F33 ∷ 0x9F34 ∷ 0x9F35 ∷
    0x9F36 ∷ 0x9F37 ∷ 0x9F38 ∷ 0x9F40 ∷ 0x9F42 ∷ 0x9F61 ∷ 0x9F65 ∷ 0x9F66 ∷ 0x9F67 ∷ 0x9F69 ∷ 0x9F6A ∷ 0x9F6B ∷
    0xDF811B ∷ 0xDF8120 ∷ 0xDF8121 ∷ 0xDF8122 ∷ 0xDF8123 ∷ 0xDF8124 ∷ 0xDF8125 ∷ 0xDF8126 ∷ []

-- ---- the rows of these tags

-- 5A Application PAN
abbrev pub row_pan : RowNumber
row_pan = 3

-- 82 Application Interchange Profile
abbrev pub row_aip : RowNumber
row_aip = 5

-- 8C CDOL1
abbrev pub row_cdol1 : RowNumber
row_cdol1 = 8

-- 8E CVM List
abbrev pub row_cvm_list : RowNumber
row_cvm_list = 9

-- 94 Application File Locator
abbrev pub row_afl : RowNumber
row_afl = 12

-- 95 Terminal Verification Results
abbrev pub row_tvr : RowNumber
row_tvr = 13

-- 9A Transaction Date
abbrev pub row_transaction_date : RowNumber
row_transaction_date = 14

-- 9C Transaction Type
abbrev pub row_transaction_type : RowNumber
row_transaction_type = 15

-- 5F24 Application Expiration Date
abbrev pub row_expiration_date : RowNumber
row_expiration_date = 16

-- 5F25 Application Effective Date
abbrev pub row_effective_date : RowNumber
row_effective_date = 17

-- 5F28 Issuer Country Code
abbrev pub row_issuer_country : RowNumber
row_issuer_country = 18

-- 5F2A Transaction Currency Code
abbrev pub row_transaction_currency : RowNumber
row_transaction_currency = 19

-- 9F02 Amount, Authorized (Numeric)
abbrev pub row_amount : RowNumber
row_amount = 26

-- 9F03 Amount, Other (Numeric)
abbrev pub row_amount_other : RowNumber
row_amount_other = 27

-- 9F07 Application Usage Control
abbrev pub row_auc : RowNumber
row_auc = 28

-- 9F08 Application Version Number (Card)
abbrev pub row_card_version : RowNumber
row_card_version = 29

-- 9F09 Application Version Number (Reader)
abbrev pub row_reader_version : RowNumber
row_reader_version = 30

-- 9F0D Issuer Action Code – Default
abbrev pub row_iac_default : RowNumber
row_iac_default = 31

-- 9F0E Issuer Action Code – Denial
abbrev pub row_iac_denial : RowNumber
row_iac_denial = 32

-- 9F0F Issuer Action Code – Online
abbrev pub row_iac_online : RowNumber
row_iac_online = 33

-- 9F10 Issuer Application Data
abbrev pub row_iad : RowNumber
row_iad = 34

-- 9F1A Terminal Country Code
abbrev pub row_terminal_country : RowNumber
row_terminal_country = 39

-- 9F26 Application Cryptogram
abbrev pub row_ac : RowNumber
row_ac = 47

-- 9F27 Cryptogram Information Data
abbrev pub row_cid : RowNumber
row_cid = 48

-- 9F33 Terminal Capabilities
abbrev pub row_terminal_capabilities : RowNumber
row_terminal_capabilities = 50

-- 9F34 CVM Results
abbrev pub row_cvm_results : RowNumber
row_cvm_results = 51

-- 9F35 Terminal Type
abbrev pub row_terminal_type : RowNumber
row_terminal_type = 52

-- 9F36 Application Transaction Counter
abbrev pub row_atc : RowNumber
row_atc = 53

-- 9F37 Unpredictable Number
abbrev pub row_un : RowNumber
row_un = 54

-- 9F38 PDOL
abbrev pub row_pdol : RowNumber
row_pdol = 55

-- 9F40 Additional Terminal Capabilities
abbrev pub row_additional_capabilities : RowNumber
row_additional_capabilities = 56

-- 9F42 Application Currency Code
abbrev pub row_application_currency : RowNumber
row_application_currency = 57

-- 9F61 CVC3 (Track2)
abbrev pub row_cvc3_track2 : RowNumber
row_cvc3_track2 = 74

-- 9F65 PCVC3(Track2)
abbrev pub row_pcvc3_track2 : RowNumber
row_pcvc3_track2 = 78

-- 9F66 PUNATC(Track2)
abbrev pub row_punatc_track2 : RowNumber
row_punatc_track2 = 79

-- 9F67 NATC(Track2)
abbrev pub row_natc_track2 : RowNumber
row_natc_track2 = 80

-- 9F69 UDOL
abbrev pub row_udol : RowNumber
row_udol = 81

-- 9F6A Unpredictable Number (Numeric)
abbrev pub row_un_numeric : RowNumber
row_un_numeric = 82

-- 9F6B Track 2 Data
abbrev pub row_track2_data : RowNumber
row_track2_data = 83

-- DF811B Kernel Configuration
abbrev pub row_kernel_configuration : RowNumber
row_kernel_configuration = 125

-- DF8120 Terminal Action Code – Default
abbrev pub row_tac_default : RowNumber
row_tac_default = 130

-- DF8121 Terminal Action Code – Denial
abbrev pub row_tac_denial : RowNumber
row_tac_denial = 131

-- DF8122 Terminal Action Code – Online
abbrev pub row_tac_online : RowNumber
row_tac_online = 132

-- DF8123 Reader Contactless Floor Limit
abbrev pub row_floor_limit : RowNumber
row_floor_limit = 133

-- DF8124 Reader Contactless Transaction Limit (No On-device CVM)
abbrev pub row_limit_no_on_device_cvm : RowNumber
row_limit_no_on_device_cvm = 134

-- DF8125 Reader Contactless Transaction Limit (On-device CVM)
abbrev pub row_limit_on_device_cvm : RowNumber
row_limit_on_device_cvm = 135

-- DF8126 Reader CVM Required Limit
abbrev pub row_cvm_required_limit : RowNumber
row_cvm_required_limit = 136

-- ---- what a start must bring

-- how many objects
abbrev pub required_at_start_count : Count
required_at_start_count = 17

-- their rows
unfoldable pub row_numbers_required_at_start : List RowNumber
row_numbers_required_at_start =
    row_transaction_date ∷ row_transaction_type ∷ row_amount ∷ row_reader_version ∷ row_terminal_country ∷
    row_terminal_capabilities ∷ row_terminal_type ∷ row_un ∷ row_un_numeric ∷ row_kernel_configuration ∷ row_tac_default ∷
    row_tac_denial ∷ row_tac_online ∷ row_floor_limit ∷ row_limit_no_on_device_cvm ∷ row_limit_on_device_cvm ∷ row_cvm_required_limit ∷ []

-- ---- the first row of each part of the search, after that of the tags of one byte (`search_part_number`, specs/Search)

-- tags of two bytes before 9F
abbrev pub first_row_of5f : RowNumber
first_row_of5f = 16

-- tags from 9F on
abbrev pub first_row_of9f : RowNumber
first_row_of9f = 25

-- tags from DF on
abbrev pub first_row_of_df : RowNumber
first_row_of_df = 101

-- tags of three bytes
abbrev pub first_row_of_three_byte_tags : RowNumber
first_row_of_three_byte_tags = 106
