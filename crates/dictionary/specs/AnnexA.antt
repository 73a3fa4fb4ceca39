-- Written by bin/dictionary from dictionary.tsv: change that table, and run it again.
-- Annex A of Book C-2 (document 01, "Dictionary"; document 02, Items 5, 8, 9 and 11): a row for each primitive tag
-- that has a greatest length, tags rising, by who sets the object (specs/Row): the tag, the least and the greatest
-- length, the form, of the card's the template; and the name. docs/DICTIONARY.md has each row's section.
-- Assumes nothing.
use Rattle.std.specs.Prelude.{List, [], ◌∷◌}
use Rattle.basics.specs.Types.{Count, Length}
use Rattle.dictionary.specs.Row.{Row, card_row, form_b, form_cn, form_n, in_ac_or_checksum_response, in_any_response}
use Rattle.dictionary.specs.Row.{in_checksum_response, in_generate_ac_response, in_no_template, in_template6f}
use Rattle.dictionary.specs.Row.{in_template70, in_template70or77, in_template70or_bf0c, in_template77, in_template_a5}
use Rattle.dictionary.specs.Row.{in_template_bf0c, optional_at_start, required_start_row, row, session_row, set_by_card}
use Rattle.dictionary.specs.Row.{set_by_start_or_card, start_row}

-- one row for each known tag
unfoldable pub dictionary_rows : List Row
dictionary_rows =
    card_row 0x50 0 16 form_b in_template_a5 ∷  -- Application Label
    card_row 0x56 0 76 form_b in_template70 ∷  -- Track 1 Data
    card_row 0x57 0 19 form_b in_template70 ∷  -- Track 2 Equivalent Data
    card_row 0x5A 0 10 form_cn in_template70 ∷  -- Application PAN
    card_row 0x80 0 253 form_b in_no_template ∷  -- Response Message Template Format 1
    card_row 0x82 2 2 form_b in_template77 ∷  -- Application Interchange Profile
    card_row 0x84 5 16 form_b in_template6f ∷  -- DF Name
    card_row 0x87 1 1 form_b in_template_a5 ∷  -- Application Priority Indicator
    card_row 0x8C 0 250 form_b in_template70 ∷  -- CDOL1
    card_row 0x8E 10 250 form_b in_template70 ∷  -- CVM List
    card_row 0x8F 1 1 form_b in_template70or77 ∷  -- CA Public Key Index (Card)
    card_row 0x90 0 248 form_b in_template70or77 ∷  -- Issuer Public Key Certificate
    card_row 0x94 4 248 form_b in_template77 ∷  -- Application File Locator
    session_row 0x95 5 5 form_b ∷  -- Terminal Verification Results
    required_start_row 0x9A 3 3 form_n ∷  -- Transaction Date
    required_start_row 0x9C 1 1 form_n ∷  -- Transaction Type
    card_row 0x5F24 3 3 form_n in_template70 ∷  -- Application Expiration Date
    card_row 0x5F25 3 3 form_n in_template70 ∷  -- Application Effective Date
    card_row 0x5F28 2 2 form_n in_template70 ∷  -- Issuer Country Code
    start_row 0x5F2A 2 2 form_n ∷  -- Transaction Currency Code
    card_row 0x5F2D 2 8 form_b in_template_a5 ∷  -- Language Preference
    card_row 0x5F30 2 2 form_n in_template70or77 ∷  -- Service Code
    card_row 0x5F34 1 1 form_n in_template70 ∷  -- Application PAN Sequence Number
    start_row 0x5F36 1 1 form_n ∷  -- Transaction Currency Exponent
    start_row 0x5F57 1 1 form_n ∷  -- Account Type
    session_row 0x9F01 6 6 form_n ∷  -- Acquirer Identifier
    required_start_row 0x9F02 6 6 form_n ∷  -- Amount, Authorized (Numeric)
    start_row 0x9F03 6 6 form_n ∷  -- Amount, Other (Numeric)
    card_row 0x9F07 2 2 form_b in_template70 ∷  -- Application Usage Control
    card_row 0x9F08 2 2 form_b in_template70 ∷  -- Application Version Number (Card)
    required_start_row 0x9F09 2 2 form_b ∷  -- Application Version Number (Reader)
    card_row 0x9F0D 5 5 form_b in_template70 ∷  -- Issuer Action Code – Default
    card_row 0x9F0E 5 5 form_b in_template70 ∷  -- Issuer Action Code – Denial
    card_row 0x9F0F 5 5 form_b in_template70 ∷  -- Issuer Action Code – Online
    -- Issuer Application Data
    row 0x9F10 0 32 form_b set_by_card in_template77 in_generate_ac_response optional_at_start ∷
    card_row 0x9F11 1 1 form_n in_template_a5 ∷  -- Issuer Code Table Index
    card_row 0x9F12 0 16 form_b in_template_a5 ∷  -- Application Preferred Name
    session_row 0x9F15 2 2 form_n ∷  -- Merchant Category Code
    session_row 0x9F16 15 15 form_b ∷  -- Merchant Identifier
    required_start_row 0x9F1A 2 2 form_n ∷  -- Terminal Country Code
    session_row 0x9F1C 8 8 form_b ∷  -- Terminal Identification
    session_row 0x9F1D 8 8 form_b ∷  -- Terminal Risk Management Data
    session_row 0x9F1E 8 8 form_b ∷  -- Interface Device Serial Number
    card_row 0x9F1F 0 54 form_b in_template70or77 ∷  -- Track 1 Discretionary Data
    card_row 0x9F20 0 16 form_cn in_template70or77 ∷  -- Track 2 Discretionary Data
    start_row 0x9F21 3 3 form_n ∷  -- Transaction Time
    card_row 0x9F24 29 29 form_b in_template70or77 ∷  -- Payment Account Reference
    -- Application Cryptogram
    row 0x9F26 8 8 form_b set_by_card in_template77 in_generate_ac_response optional_at_start ∷
    -- Cryptogram Information Data
    row 0x9F27 1 1 form_b set_by_card in_template77 in_generate_ac_response optional_at_start ∷
    card_row 0x9F32 1 3 form_b in_template70or77 ∷  -- Issuer Public Key Exponent
    required_start_row 0x9F33 3 3 form_b ∷  -- Terminal Capabilities
    session_row 0x9F34 3 3 form_b ∷  -- CVM Results
    required_start_row 0x9F35 1 1 form_n ∷  -- Terminal Type
    -- Application Transaction Counter
    row 0x9F36 2 2 form_b set_by_card in_template77 in_ac_or_checksum_response optional_at_start ∷
    required_start_row 0x9F37 4 4 form_b ∷  -- Unpredictable Number
    start_row 0x9F38 0 240 form_b ∷  -- PDOL
    start_row 0x9F40 5 5 form_b ∷  -- Additional Terminal Capabilities
    card_row 0x9F42 2 2 form_n in_template70 ∷  -- Application Currency Code
    card_row 0x9F44 1 1 form_n in_template70or77 ∷  -- Application Currency Exponent
    card_row 0x9F46 0 248 form_b in_template70or77 ∷  -- ICC Public Key Certificate
    card_row 0x9F47 1 3 form_b in_template70or77 ∷  -- ICC Public Key Exponent
    card_row 0x9F4A 0 250 form_b in_template70or77 ∷  -- Static Data Authentication Tag List
    card_row 0x9F4C 2 8 form_b in_no_template ∷  -- ICC Dynamic Number
    card_row 0x9F4D 2 2 form_b in_template_bf0c ∷  -- Log Entry
    card_row 0x9F50 6 6 form_n in_no_template ∷  -- Offline Accumulator Balance
    card_row 0x9F51 0 250 form_b in_template70 ∷  -- DRDOL
    start_row 0x9F53 1 1 form_b ∷  -- Transaction Category Code
    card_row 0x9F54 0 160 form_b in_template77 ∷  -- DS ODS Card
    card_row 0x9F5B 0 250 form_b in_template70 ∷  -- DSDOL
    start_row 0x9F5C 8 8 form_b ∷  -- DS Requested Operator ID
    card_row 0x9F5D 3 3 form_b in_template_bf0c ∷  -- Application Capabilities Information
    card_row 0x9F5E 8 11 form_n in_template_bf0c ∷  -- DS ID
    card_row 0x9F5F 1 1 form_b in_template77 ∷  -- DS Slot Availability
    card_row 0x9F60 2 2 form_b in_template77 ∷  -- CVC3 (Track1)
    -- CVC3 (Track2)
    row 0x9F61 2 2 form_b set_by_card in_template77 in_checksum_response optional_at_start ∷
    card_row 0x9F62 6 6 form_b in_template70 ∷  -- PCVC3(Track1)
    card_row 0x9F63 6 6 form_b in_template70 ∷  -- PUNATC(Track1)
    card_row 0x9F64 1 1 form_b in_template70 ∷  -- NATC(Track1)
    card_row 0x9F65 2 2 form_b in_template70 ∷  -- PCVC3(Track2)
    card_row 0x9F66 2 2 form_b in_template70 ∷  -- PUNATC(Track2)
    card_row 0x9F67 1 1 form_b in_template70 ∷  -- NATC(Track2)
    card_row 0x9F69 0 250 form_b in_template70 ∷  -- UDOL
    required_start_row 0x9F6A 4 4 form_n ∷  -- Unpredictable Number (Numeric)
    card_row 0x9F6B 0 19 form_b in_template70 ∷  -- Track 2 Data
    session_row 0x9F6D 2 2 form_b ∷  -- Mag-stripe Application Version Number (Reader)
    card_row 0x9F6E 5 32 form_b in_template70or_bf0c ∷  -- Third Party Data
    card_row 0x9F6F 1 1 form_b in_template77 ∷  -- DS Slot Management Control
    -- Protected Data Envelope 1
    row 0x9F70 0 192 form_b set_by_start_or_card in_no_template in_any_response optional_at_start ∷
    -- Protected Data Envelope 2
    row 0x9F71 0 192 form_b set_by_start_or_card in_no_template in_any_response optional_at_start ∷
    -- Protected Data Envelope 3
    row 0x9F72 0 192 form_b set_by_start_or_card in_no_template in_any_response optional_at_start ∷
    -- Protected Data Envelope 4
    row 0x9F73 0 192 form_b set_by_start_or_card in_no_template in_any_response optional_at_start ∷
    -- Protected Data Envelope 5
    row 0x9F74 0 192 form_b set_by_start_or_card in_no_template in_any_response optional_at_start ∷
    -- Unprotected Data Envelope 1
    row 0x9F75 0 192 form_b set_by_start_or_card in_no_template in_any_response optional_at_start ∷
    -- Unprotected Data Envelope 2
    row 0x9F76 0 192 form_b set_by_start_or_card in_no_template in_any_response optional_at_start ∷
    -- Unprotected Data Envelope 3
    row 0x9F77 0 192 form_b set_by_start_or_card in_no_template in_any_response optional_at_start ∷
    -- Unprotected Data Envelope 4
    row 0x9F78 0 192 form_b set_by_start_or_card in_no_template in_any_response optional_at_start ∷
    -- Unprotected Data Envelope 5
    row 0x9F79 0 192 form_b set_by_start_or_card in_no_template in_any_response optional_at_start ∷
    start_row 0x9F7C 20 20 form_b ∷  -- Merchant Custom Data
    card_row 0x9F7D 8 16 form_b in_template77 ∷  -- DS Summary 1
    session_row 0x9F7E 1 1 form_b ∷  -- Mobile Support Indicator
    card_row 0x9F7F 4 4 form_b in_template77 ∷  -- DS Unpredictable Number
    card_row 0xDF4B 3 3 form_b in_template77 ∷  -- POS Cardholder Interaction Information
    start_row 0xDF60 8 8 form_b ∷  -- DS Input (Card)
    session_row 0xDF61 8 8 form_b ∷  -- DS Digest H
    start_row 0xDF62 1 1 form_b ∷  -- DS ODS Info
    start_row 0xDF63 0 160 form_b ∷  -- DS ODS Term
    card_row 0xDF8101 8 16 form_b in_no_template ∷  -- DS Summary 2
    card_row 0xDF8102 8 16 form_b in_no_template ∷  -- DS Summary 3
    start_row 0xDF8104 6 6 form_n ∷  -- Balance Read Before Gen AC
    start_row 0xDF8105 6 6 form_n ∷  -- Balance Read After Gen AC
    start_row 0xDF8108 1 1 form_b ∷  -- DS AC Type
    start_row 0xDF8109 8 8 form_b ∷  -- DS Input (Term)
    start_row 0xDF810A 1 1 form_b ∷  -- DS ODS Info For Reader
    session_row 0xDF810B 1 1 form_b ∷  -- DS Summary Status
    session_row 0xDF810C 1 1 form_b ∷  -- Kernel ID
    session_row 0xDF810E 1 1 form_b ∷  -- Post-Gen AC Put Data Status
    session_row 0xDF810F 1 1 form_b ∷  -- Pre-Gen AC Put Data Status
    start_row 0xDF8110 1 1 form_b ∷  -- Proceed To First Write Flag
    session_row 0xDF8114 1 1 form_b ∷  -- Reference Control Parameter
    session_row 0xDF8115 6 6 form_b ∷  -- Error Indication
    session_row 0xDF8116 22 22 form_b ∷  -- User Interface Request Data
    session_row 0xDF8117 1 1 form_b ∷  -- Card Data Input Capability
    session_row 0xDF8118 1 1 form_b ∷  -- CVM Capability – CVM Required
    session_row 0xDF8119 1 1 form_b ∷  -- CVM Capability – No CVM Required
    session_row 0xDF811A 3 3 form_b ∷  -- Default UDOL
    required_start_row 0xDF811B 1 1 form_b ∷  -- Kernel Configuration
    session_row 0xDF811C 2 2 form_b ∷  -- Max Lifetime of Torn Transaction Log Record
    session_row 0xDF811D 1 1 form_b ∷  -- Max Number of Torn Transaction Log Records
    session_row 0xDF811E 1 1 form_b ∷  -- Mag-stripe CVM Capability – CVM Required
    session_row 0xDF811F 1 1 form_b ∷  -- Security Capability
    required_start_row 0xDF8120 5 5 form_b ∷  -- Terminal Action Code – Default
    required_start_row 0xDF8121 5 5 form_b ∷  -- Terminal Action Code – Denial
    required_start_row 0xDF8122 5 5 form_b ∷  -- Terminal Action Code – Online
    required_start_row 0xDF8123 6 6 form_n ∷  -- Reader Contactless Floor Limit
    -- Reader Contactless Transaction Limit (No On-device CVM)
    required_start_row 0xDF8124 6 6 form_n ∷
    -- Reader Contactless Transaction Limit (On-device CVM)
    required_start_row 0xDF8125 6 6 form_n ∷
    required_start_row 0xDF8126 6 6 form_n ∷  -- Reader CVM Required Limit
    session_row 0xDF8127 2 2 form_b ∷  -- Time Out Value
    session_row 0xDF8128 1 1 form_b ∷  -- IDS Status
    session_row 0xDF8129 8 8 form_b ∷  -- Outcome Parameter Set
    session_row 0xDF812A 0 56 form_b ∷  -- DD Card (Track1)
    session_row 0xDF812B 0 11 form_cn ∷  -- DD Card (Track2)
    session_row 0xDF812C 1 1 form_b ∷  -- Mag-stripe CVM Capability – No CVM Required
    session_row 0xDF812D 3 3 form_n ∷  -- Message Hold Time
    session_row 0xDF8130 1 1 form_b ∷  -- Hold Time Value
    session_row 0xDF8132 2 2 form_b ∷  -- Minimum Relay Resistance Grace Period
    session_row 0xDF8133 2 2 form_b ∷  -- Maximum Relay Resistance Grace Period
    -- Terminal Expected Transmission Time For Relay Resistance C-APDU
    session_row 0xDF8134 2 2 form_b ∷
    -- Terminal Expected Transmission Time For Relay Resistance R-APDU
    session_row 0xDF8135 2 2 form_b ∷
    session_row 0xDF8136 2 2 form_b ∷  -- Relay Resistance Accuracy Threshold
    -- Relay Resistance Transmission Time Mismatch Threshold
    session_row 0xDF8137 1 1 form_b ∷
    session_row 0xDF8301 4 4 form_b ∷  -- Terminal Relay Resistance Entropy
    card_row 0xDF8302 4 4 form_b in_no_template ∷  -- Device Relay Resistance Entropy
    card_row 0xDF8303 2 2 form_b in_no_template ∷  -- Min Time For Processing Relay Resistance APDU
    card_row 0xDF8304 2 2 form_b in_no_template ∷  -- Max Time For Processing Relay Resistance APDU
    -- Device Estimated Transmission Time For Relay Resistance R-APDU
    card_row 0xDF8305 2 2 form_b in_no_template ∷
    session_row 0xDF8306 2 2 form_b ∷  -- Measured Relay Resistance Processing Time
    session_row 0xDF8307 1 1 form_b ∷  -- RRP Counter
    []

-- how many rows there are (`rows_length` in the store's proofs)
abbrev pub row_count : Count
row_count = 158

-- the size of a store with room for every row at once, each at its greatest length and with a length byte
-- (`rows_size` in the store's proofs)
abbrev pub store_size : Length
store_size = 6008
