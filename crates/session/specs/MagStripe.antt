-- Mag-stripe mode (document 02, Item 9; Book C-2, 4.8, 5.2, S14.25 to S14.27): after the last record the checksum is
-- requested, and the digits of its answer go into track 2. Such a session makes no choice and verifies no cardholder.
-- Assumes nothing.
use Rattle.std.specs.Prelude.{Bool, not}
use Rattle.basics.specs.Types.{StoreBytes, Value, Response, Amount}
use Rattle.basics.specs.Choice.{when◌then◌else◌}
use Rattle.basics.specs.Reason.{reason_none, reason_object_not_allowed, reason_object_missing, reason_above_limit}
use Rattle.dictionary.specs.Rows.{dictionary_rows}
use Rattle.dictionary.specs.Named.{row_number_of_tag_or_zero}
use Rattle.store.specs.Place.{put_row}
use Rattle.store.specs.Held.{has_object, stored_bytes}
use Rattle.mag_stripe.specs.declared.Bitmaps.{Bitmaps}
use Rattle.mag_stripe.specs.declared.DigitValues.{DigitValues}
use Rattle.mag_stripe.specs.Bitmap.{bitmaps_of, track_can_take_digits}
use Rattle.mag_stripe.specs.Digits.{digit_values_of, track_with_digits_if_possible}
use Rattle.reading.specs.declared.Awaited.{Awaited}
use Rattle.command.specs.WithList.{compute_cryptographic_checksum}
use Rattle.analysis.specs.Action.{stored_amount_above_limit}
use Rattle.analysis.specs.Cvm.{cvm_number_not_applicable}
use Rattle.session_record.specs.declared.Outcome.{Outcome}
use Rattle.session_record.specs.declared.AwaitedResponse.{AwaitedResponse}
use Rattle.session_record.specs.Session.{ending_of}
use Rattle.session_record.specs.Ranges.{track2_and_bitmaps_non_empty}
use Rattle.session.specs.Steps.{NextAction, end, end_for_reason, request_command_or_end_for_dol, read_response_then}

-- ---- after the last record

-- waiting for the checksum, with the transaction limit l
abbrev pub awaited_checksum_with_limit : Amount → AwaitedResponse
awaited_checksum_with_limit l = AwaitedResponse.Checksum (record { limit = l })

-- COMPUTE CRYPTOGRAPHIC CHECKSUM carries the filled UDOL (9F69)
unfoldable pub request_checksum : Amount → StoreBytes → NextAction
request_checksum l b = request_command_or_end_for_dol (awaited_checksum_with_limit l) b (compute_cryptographic_checksum b)

-- the amount above the limit that the session holds (6), track, bitmaps or the counter's digits missing (4)
unfoldable pub next_after_records_in_mag_stripe_mode : Amount → StoreBytes → NextAction
next_after_records_in_mag_stripe_mode l b =
    when stored_amount_above_limit l b then end_for_reason reason_above_limit b
    else when not (track2_and_bitmaps_non_empty b) then end_for_reason reason_object_missing b
    else request_checksum l b

-- ---- the answer to the checksum

-- track 2, the bitmaps, and the values of the digits, as a store has them
abbrev pub stored_track2 : StoreBytes → Value
stored_track2 b = stored_bytes b 0x9F6B

abbrev pub stored_bitmaps : StoreBytes → Bitmaps
stored_bitmaps b = bitmaps_of (stored_bytes b 0x9F65) (stored_bytes b 0x9F66) (stored_bytes b 0x9F67)

abbrev pub stored_digit_values : StoreBytes → DigitValues
stored_digit_values b = digit_values_of (stored_bytes b 0x9F61) (stored_bytes b 0x9F6A) (stored_bytes b 0x9F36)

-- the stored track can take the digits
abbrev pub stored_track_can_take_digits : StoreBytes → Bool
stored_track_can_take_digits b = track_can_take_digits (stored_track2 b) (stored_bitmaps b)

-- the store with the digits in its track
unfoldable pub store_with_track_digits : StoreBytes → StoreBytes
store_with_track_digits b =
    put_row dictionary_rows b (row_number_of_tag_or_zero 0x9F6B)
    (track_with_digits_if_possible (stored_track2 b) (stored_bitmaps b) (stored_digit_values b))

-- once the answer is read: the counter missing (4), declined without the code, else the digits go in and the session
-- asks to go online
unfoldable pub next_after_checksum_read : StoreBytes → NextAction
next_after_checksum_read b =
    when not (has_object b 0x9F36) then end_for_reason reason_object_missing b
    else when not (has_object b 0x9F61) then end (ending_of Outcome.Declined reason_none) cvm_number_not_applicable b
    else end (ending_of Outcome.OnlineRequest reason_none) cvm_number_not_applicable (store_with_track_digits b)

-- the reading left the store d: where the stored track b cannot take the digits (3) nothing of the answer is kept. The
-- answer cannot change track and bitmaps: none is empty, and it may not bring one again, so that the digits can go in
unfoldable pub next_if_track_takes_digits : StoreBytes → StoreBytes → NextAction
next_if_track_takes_digits b d =
    when stored_track_can_take_digits b then next_after_checksum_read d
    else end_for_reason reason_object_not_allowed b

-- the answer to COMPUTE CRYPTOGRAPHIC CHECKSUM
unfoldable pub next_on_checksum_response : StoreBytes → Response → NextAction
next_on_checksum_response b card =
    read_response_then Awaited.Checksum cvm_number_not_applicable b card (next_if_track_takes_digits b)
