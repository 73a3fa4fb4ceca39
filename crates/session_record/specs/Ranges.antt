-- Session ranges (document 01, "Calls and their numbers"): the test that a session record passed in must pass. It
-- passes exactly when each of its clauses holds as a fact (`clauses` and `clauses_pass` in proofs/Laws).
-- Assumes nothing.
use Rattle.std.specs.Prelude.{Bool, true, not, [], ◌∷◌, ◌+◌, length}
use Rattle.basics.specs.Choice.{every, ◌and◌, ◌or◌, ◌≤?◌, ◌=?◌}
use Rattle.basics.specs.Number.{between}
use Rattle.basics.specs.Types.{StoreBytes, AflBytes, TvrBytes, TagList, Count}
use Rattle.dictionary.specs.Rows.{Row, dictionary_rows, optional_at_start, store_size}
use Rattle.dictionary.specs.Form.{length_and_digits_fit_row}
use Rattle.dictionary.specs.TerminalType.{listed_terminal_type}
use Rattle.store.specs.Place.{StoredValue, absent, present, object_value, row_size_in_store}
use Rattle.store.specs.Held.{has_object, lacks_object, has_non_empty_object, is_zero_byte, is_object_zero_or_absent}
use Rattle.store.specs.Held.{stored_bytes, stored_byte, stored_length_plus_one_or_zero}
use Rattle.afl.specs.Records.{accepts_afl, afl_record_count}
use Rattle.analysis.specs.Bits.{value_has_bit}
use Rattle.analysis.specs.Action.{transaction_limit}
use Rattle.session_record.specs.declared.AwaitedRecord.{AwaitedRecord}
use Rattle.session_record.specs.declared.RequestedCryptogram.{RequestedCryptogram}
use Rattle.session_record.specs.declared.AwaitedChecksum.{AwaitedChecksum}
use Rattle.session_record.specs.declared.Ending.{Ending}
use Rattle.session_record.specs.declared.AwaitedResponse.{AwaitedResponse}
use Rattle.session_record.specs.declared.Phase.{Phase}
use Rattle.session_record.specs.declared.Session.{Session}
use Rattle.session_record.specs.Numbers.{reason_matches_outcome}
use Rattle.session_record.specs.Session.{store_bytes}

-- ---- in every phase: what is stored fits its row

-- a value fits a row; absent is allowed
abbrev pub absent_or_length_and_digits_fit_row : Row → StoredValue → Bool
absent_or_length_and_digits_fit_row r absent = true
absent_or_length_and_digits_fit_row r (present v) = length_and_digits_fit_row r v

-- the object of a row: its length byte, length + 1, lies in the row's room, greatest + 1, and its value fits
unfoldable pub stored_object_absent_or_fits_row : StoreBytes → Row → Bool
stored_object_absent_or_fits_row b r =
    stored_length_plus_one_or_zero b r.tag ≤? row_size_in_store r
    and absent_or_length_and_digits_fit_row r (object_value b r.tag)

-- the objects of all rows
unfoldable pub all_stored_objects_fit_rows : StoreBytes → Bool
all_stored_objects_fit_rows b = every (stored_object_absent_or_fits_row b) dictionary_rows

-- ---- running: what a start brought is present, and nothing of the last answer

-- the object of a row is present if a start must bring it
unfoldable pub is_present_if_required_at_start : StoreBytes → Row → Bool
is_present_if_required_at_start b r = r.must =? optional_at_start or has_object b r.tag

-- and so for all rows
unfoldable pub all_required_at_start_present : StoreBytes → Bool
all_required_at_start_present b = every (is_present_if_required_at_start b) dictionary_rows

-- what only the answer to the cryptogram or to the checksum brings: issuer application data, cryptogram, cryptogram
-- information, transaction counter, and the code CVC3 (document 02, Item 9)
abbrev pub tags_only_in_last_response : TagList
tags_only_in_last_response = 0x9F10 ∷ 0x9F26 ∷ 0x9F27 ∷ 0x9F36 ∷ 0x9F61 ∷ []

-- none of them is present
unfoldable pub last_response_objects_absent : StoreBytes → Bool
last_response_objects_absent b = every (lacks_object b) tags_only_in_last_response

-- the TVR, the objects required of a start, a terminal type on the list, nothing of the last answer
unfoldable pub in_running_ranges : StoreBytes → Bool
in_running_ranges b =
    has_object b 0x95
    and all_required_at_start_present b
    and listed_terminal_type (stored_byte b 0x9F35 1)
    and last_response_objects_absent b

-- ---- after GPO

-- 82 is present with byte 2 b8 set; an absent one has no bit
abbrev pub emv_mode : StoreBytes → Bool
emv_mode b = value_has_bit (stored_bytes b 0x82) 2 8

-- mag-stripe mode (document 02, Item 9): 82 is present with byte 2 b8 clear, and the kernel configuration DF811B does
-- not indicate by byte 1 b8 that this mode is off
abbrev pub mag_stripe_mode : StoreBytes → Bool
mag_stripe_mode b =
    has_object b 0x82
    and not (emv_mode b)
    and not (value_has_bit (stored_bytes b 0xDF811B) 1 8)

-- one of the two modes
abbrev pub emv_or_mag_stripe_mode : StoreBytes → Bool
emv_or_mag_stripe_mode b = emv_mode b or mag_stripe_mode b

-- the stored AFL, and R
abbrev pub stored_afl : StoreBytes → AflBytes
stored_afl b = stored_bytes b 0x94

abbrev pub stored_afl_record_count : StoreBytes → Count
stored_afl_record_count b = afl_record_count (stored_afl b)

-- expiry date, account number and CDOL1
abbrev pub tags_needed_for_cryptogram : TagList
tags_needed_for_cryptogram = 0x5F24 ∷ 0x5A ∷ 0x8C ∷ []

-- they are present, none empty
unfoldable pub expiry_pan_and_cdol1_non_empty : StoreBytes → Bool
expiry_pan_and_cdol1_non_empty b = every (has_non_empty_object b) tags_needed_for_cryptogram

-- track 2, the bitmaps of the code and of number and counter, and the counter's digits
abbrev pub tags_needed_for_mag_stripe : TagList
tags_needed_for_mag_stripe = 0x9F6B ∷ 0x9F65 ∷ 0x9F66 ∷ 0x9F67 ∷ []

-- they are present, none empty
unfoldable pub track2_and_bitmaps_non_empty : StoreBytes → Bool
track2_and_bitmaps_non_empty b = every (has_non_empty_object b) tags_needed_for_mag_stripe

-- ---- phase by phase, for a count and a store

-- a TVR that is all zero
abbrev pub zero_tvr : TvrBytes
zero_tvr = 0 ∷ 0 ∷ 0 ∷ 0 ∷ 0 ∷ []

-- fresh: nothing was handed out, and every byte of the store is zero, not only every length byte
unfoldable pub in_fresh_ranges : Count → StoreBytes → Bool
in_fresh_ranges n b =
    n =? 0
    and every is_zero_byte b

-- on GPO: no 82 or 94 yet, 95 is zero, one command
unfoldable pub in_gpo_ranges : Count → StoreBytes → Bool
in_gpo_ranges n b =
    in_running_ranges b
    and lacks_object b 0x82
    and lacks_object b 0x94
    and is_object_zero_or_absent b 0x95
    and n =? 1

-- on the k-th record: one of the modes, 95 is zero, the transaction limit (document 02, Item 8), an accepted AFL, k is
-- 1 to R, 1 + k commands
unfoldable pub in_record_ranges : AwaitedRecord → Count → StoreBytes → Bool
in_record_ranges p n b =
    in_running_ranges b
    and emv_or_mag_stripe_mode b
    and is_object_zero_or_absent b 0x95
    and p.limit =? transaction_limit b
    and accepts_afl (stored_afl b)
    and between 1 p.number (stored_afl_record_count b)
    and n =? 1 + p.number

-- on the cryptogram: EMV mode, what it needs is present, the CVM Results 9F34, the transaction limit, an accepted AFL,
-- 2 + R commands; that it holds one of the three choices and a CVM is the phase's type
unfoldable pub in_cryptogram_ranges : RequestedCryptogram → Count → StoreBytes → Bool
in_cryptogram_ranges a n b =
    in_running_ranges b
    and emv_mode b
    and expiry_pan_and_cdol1_non_empty b
    and has_object b 0x9F34
    and a.limit =? transaction_limit b
    and accepts_afl (stored_afl b)
    and n =? 2 + stored_afl_record_count b

-- on the checksum: mag-stripe mode, 95 is zero, what its answer's digits need is present, the transaction limit, an
-- accepted AFL, 2 + R commands; the track need not be one that can take the digits
unfoldable pub in_checksum_ranges : AwaitedChecksum → Count → StoreBytes → Bool
in_checksum_ranges c n b =
    in_running_ranges b
    and mag_stripe_mode b
    and is_object_zero_or_absent b 0x95
    and track2_and_bitmaps_non_empty b
    and c.limit =? transaction_limit b
    and accepts_afl (stored_afl b)
    and n =? 2 + stored_afl_record_count b

-- the most commands: GPO, 128 records, the cryptogram or the checksum
abbrev pub most_commands : Count
most_commands = 130

-- ended: a count that a session can reach, and an outcome that goes with its reason
unfoldable pub in_ended_ranges : Ending → Count → Bool
in_ended_ranges e n =
    n ≤? most_commands
    and reason_matches_outcome e.outcome e.reason

-- ---- the test

-- running: by the response that is awaited
abbrev pub in_waiting_ranges : AwaitedResponse → Count → StoreBytes → Bool
in_waiting_ranges AwaitedResponse.Gpo n b = in_gpo_ranges n b
in_waiting_ranges (AwaitedResponse.Record p) n b = in_record_ranges p n b
in_waiting_ranges (AwaitedResponse.Cryptogram a) n b = in_cryptogram_ranges a n b
in_waiting_ranges (AwaitedResponse.Checksum c) n b = in_checksum_ranges c n b

-- the clauses of a phase
abbrev pub in_phase_ranges : Phase → Count → StoreBytes → Bool
in_phase_ranges Phase.Fresh n b = in_fresh_ranges n b
in_phase_ranges (Phase.Waiting w) n b = in_waiting_ranges w n b
in_phase_ranges (Phase.Ended e) n b = in_ended_ranges e n

-- a session record is in its ranges; the store's size is that of its type
unfoldable pub session_record_in_ranges : Session → Bool
session_record_in_ranges s =
    length (store_bytes s) =? store_size
    and all_stored_objects_fit_rows (store_bytes s)
    and in_phase_ranges s.phase s.count (store_bytes s)
