-- The sessions of the worked examples, each with its store by the objects that it holds: one that waits on each answer,
-- in EMV mode and in mag-stripe mode, and sessions out of their ranges. proofs/Ranges shows which keep their ranges.
-- Assumes nothing.
use Rattle.std.specs.Prelude.{List, [], ◌∷◌, ◌++◌, replicate}
use Rattle.basics.specs.Types.{Bytes, StoreBytes, Value, AflBytes, Byte, Tag, Count}
use Rattle.tlv.specs.Encoding.{object_bytes}
use Rattle.analysis.specs.declared.choice.Choice.{Choice}
use Rattle.analysis.specs.declared.cvm.Cvm.{Cvm}
use Rattle.session_record.specs.declared.Outcome.{Outcome}
use Rattle.session_record.specs.declared.AwaitedResponse.{AwaitedResponse}
use Rattle.session_record.specs.declared.Phase.{Phase}
use Rattle.session_record.specs.declared.Session.{Session}
use Rattle.session_record.specs.Session.{session_of, ending_of, fresh_session, store_bytes}
use Rattle.session_record.proofs.Stores.{storing}

-- ---- objects

-- a data object: its tag and its value
abbrev pub TagValue : Type 0
TagValue = Tag × Value

-- an amount of so many units, BCD, with no cents
abbrev pub amount_of_bcd_units : Byte → Value
amount_of_bcd_units n = 0 ∷ 0 ∷ 0 ∷ 0 ∷ n ∷ 0x00 ∷ []

-- what a start must bring, by the units of its amount and DF811B; every limit is 25.00
abbrev pub start_objects_of_units_and_configuration : Byte → Byte → List TagValue
start_objects_of_units_and_configuration amount configuration =
    (0x9A, 0x25 ∷ 0x12 ∷ 0x31 ∷ []) ∷ (0x9C, 0x00 ∷ [])
    ∷ (0x9F02, amount_of_bcd_units amount)
    ∷ (0x9F09, 0x00 ∷ 0x02 ∷ []) ∷ (0x9F1A, 0x08 ∷ 0x40 ∷ [])
    ∷ (0x9F33, 0xE0 ∷ 0x68 ∷ 0xC8 ∷ []) ∷ (0x9F35, 0x22 ∷ [])
    ∷ (0x9F37, 0x01 ∷ 0x02 ∷ 0x03 ∷ 0x04 ∷ []) ∷ (0x9F6A, 0x00 ∷ 0x00 ∷ 0x34 ∷ 0x56 ∷ [])
    ∷ (0xDF811B, configuration ∷ [])
    ∷ (0xDF8120, replicate 5 0) ∷ (0xDF8121, replicate 5 0) ∷ (0xDF8122, replicate 5 0)
    ∷ (0xDF8123, amount_of_bcd_units 0x25) ∷ (0xDF8124, amount_of_bcd_units 0x25) ∷ (0xDF8125, amount_of_bcd_units 0x25)
    ∷ (0xDF8126, amount_of_bcd_units 0x25)
    ∷ []

-- objects concatenated, as a start brings them
abbrev pub encoded_tag_values : List TagValue → Bytes
encoded_tag_values [] = []
encoded_tag_values ((t, v) ∷ more) = object_bytes t v ++ encoded_tag_values more

-- the amount is 10.00, within the limit, or 30.00, above it
abbrev pub bcd_units_below_limit : Byte
bcd_units_below_limit = 0x10

abbrev pub bcd_units_over_limit : Byte
bcd_units_over_limit = 0x30

-- DF811B: mag-stripe mode is carried, or off (byte 1 b8)
abbrev pub configuration_mag_stripe_on : Byte
configuration_mag_stripe_on = 0x00

abbrev pub configuration_mag_stripe_off : Byte
configuration_mag_stripe_off = 0x80

-- after a start the TVR is zero
abbrev pub objects_after_start : Byte → Byte → List TagValue
objects_after_start amount configuration =
    (0x95, replicate 5 0) ∷ start_objects_of_units_and_configuration amount configuration

-- 82 of EMV mode and of mag-stripe mode
abbrev pub emv_aip : Value
emv_aip = 0x00 ∷ 0x80 ∷ []

abbrev pub mag_stripe_aip : Value
mag_stripe_aip = 0x00 ∷ 0x00 ∷ []

-- an AFL of one record, one of two, and one of file 0, which breaks the rules
abbrev pub one_record_afl : AflBytes
one_record_afl = 0x08 ∷ 0x01 ∷ 0x01 ∷ 0x00 ∷ []

abbrev pub two_record_afl : AflBytes
two_record_afl = 0x08 ∷ 0x01 ∷ 0x02 ∷ 0x00 ∷ []

abbrev pub afl_of_file_zero : AflBytes
afl_of_file_zero = 0x00 ∷ 0x01 ∷ 0x01 ∷ 0x00 ∷ []

-- after GPO
abbrev pub objects_after_gpo : Value → AflBytes → Byte → List TagValue
objects_after_gpo aip afl amount = (0x82, aip) ∷ (0x94, afl) ∷ objects_after_start amount configuration_mag_stripe_on

-- expiry date, account number and a CDOL1 of 95, as the card's record has them
abbrev pub required_emv_record_objects : List TagValue
required_emv_record_objects =
    (0x5F24, 0x30 ∷ 0x12 ∷ 0x31 ∷ []) ∷ (0x5A, 0x54 ∷ 0x13 ∷ 0x33 ∷ 0x90 ∷ []) ∷ (0x8C, 0x95 ∷ 0x05 ∷ []) ∷ []

-- track 2, its bitmaps and the counter's digits; the track can take them only where it has a separator D
abbrev pub track_objects : Value → List TagValue
track_objects track =
    (0x9F6B, track) ∷ (0x9F65, 0x00 ∷ 0x0E ∷ []) ∷ (0x9F66, 0x0F ∷ 0xF0 ∷ []) ∷ (0x9F67, 0x04 ∷ []) ∷ []

abbrev pub track_with_separator : Value
track_with_separator =
    0x54 ∷ 0x13 ∷ 0x12 ∷ 0x34 ∷ 0x56 ∷ 0x78 ∷ 0x48 ∷ 0x00 ∷ 0xD2 ∷ 0x51 ∷ 0x21 ∷ 0x01
    ∷ 0x00 ∷ 0x00 ∷ 0x00 ∷ 0x00 ∷ 0x00 ∷ 0x00 ∷ 0x0F ∷ []

abbrev pub track_without_separator : Value
track_without_separator = 0x54 ∷ 0x13 ∷ []

-- ---- sessions

-- a session that awaits a response, with its count and its store
abbrev pub waits_on : AwaitedResponse → Count → StoreBytes → Session
waits_on w n b = session_of (Phase.Waiting w) n b

-- the store after a start, with mag-stripe mode off, and the session that waits on GPO with it
abbrev pub started_store : StoreBytes
started_store = storing (objects_after_start bcd_units_below_limit configuration_mag_stripe_off)

abbrev pub waits_on_gpo : Session
waits_on_gpo = waits_on AwaitedResponse.Gpo 1 started_store

-- waiting on record 1; the transaction limit is 25.00
abbrev pub waits_on_record : List TagValue → Session
waits_on_record objects = waits_on (AwaitedResponse.Record (record { number = 1; limit = 2500 })) 2 (storing objects)

-- the first of two; and the only one, by the mode and the amount
abbrev pub waits_on_first_of_two_records : Session
waits_on_first_of_two_records = waits_on_record (objects_after_gpo emv_aip two_record_afl bcd_units_below_limit)

abbrev pub waits_on_only_record : Value → Byte → Session
waits_on_only_record aip amount = waits_on_record (objects_after_gpo aip one_record_afl amount)

-- the same within the limit, with a PDOL of 9A in the store
abbrev pub waits_on_only_record_with_pdol : Value → Session
waits_on_only_record_with_pdol aip =
    waits_on_record ((0x9F38, 0x9A ∷ 0x03 ∷ []) ∷ objects_after_gpo aip one_record_afl bcd_units_below_limit)

-- waiting on the cryptogram that was requested by a choice; the CVM is an online PIN, number 2
abbrev pub waits_on_cryptogram : Choice → Session
waits_on_cryptogram choice =
    waits_on (AwaitedResponse.Cryptogram (record { choice = choice; cvm = Cvm.OnlinePin; limit = 2500 })) 3
    (storing ((0x9F34, 0x42 ∷ 0x03 ∷ 0x00 ∷ []) ∷ required_emv_record_objects ++ objects_after_gpo emv_aip one_record_afl
    bcd_units_below_limit))

-- waiting on the checksum, with a track
abbrev pub waits_on_checksum : Value → Session
waits_on_checksum track =
    waits_on (AwaitedResponse.Checksum (record { limit = 2500 })) 3
    (storing (track_objects track ++ objects_after_gpo mag_stripe_aip one_record_afl bcd_units_below_limit))

-- ended by the terminal
abbrev pub session_stopped : Session
session_stopped = session_of (Phase.Ended (ending_of Outcome.Ended 10)) 1 started_store

-- ---- sessions out of their ranges

-- fresh, with a command counted
abbrev pub fresh_out_of_ranges : Session
fresh_out_of_ranges = session_of Phase.Fresh 1 (store_bytes fresh_session)

-- waiting on GPO, and ended, with two commands and 131 counted
abbrev pub waits_on_gpo_out_of_ranges : Session
waits_on_gpo_out_of_ranges = waits_on AwaitedResponse.Gpo 2 started_store

abbrev pub ended_out_of_ranges : Session
ended_out_of_ranges = session_of (Phase.Ended (ending_of Outcome.Ended 10)) 131 started_store
