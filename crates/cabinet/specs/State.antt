-- The state of a cabinet in bytes (document 02, Item 14): the session's record, what remains of the cap (document 02:
-- left), the amount reserved (document 02: set aside); each of the two eight bytes, high byte first.
-- Assumes nothing.
use Rattle.std.specs.Prelude.{Bool, ◌++◌, ◌+◌, length, take, drop, Option, Some, None}
use Rattle.basics.specs.Choice.{when◌then◌else◌, ◌and◌, ◌≤?◌, ◌=?◌}
use Rattle.basics.specs.Number.{big_endian_number}
use Rattle.basics.specs.Types.{Bytes, StoreBytes, Length, Amount}
use Rattle.store.specs.Held.{stored_bytes}
use Rattle.analysis.specs.Digits.{amount_of}
use Rattle.session_record.specs.declared.Phase.{Phase}
use Rattle.session_record.specs.declared.Session.{Session}
use Rattle.session_record.specs.Session.{store_bytes}
use Rattle.session_record.specs.Ranges.{session_record_in_ranges}
use Rattle.layout.specs.Layout.{session_record_size, big_endian_bytes, encoded_session, decoded_session}
use Rattle.session_record.specs.Session.{is_running}

-- one session, what remains of the cap, and what is reserved
pub record Cabinet : Type 0 where
  pub session : Session
  pub remaining : Amount
  pub reserved : Amount

-- a cabinet of these parts
abbrev pub cabinet : Session → Amount → Amount → Cabinet
cabinet s n a = record { session = s; remaining = n; reserved = a }

-- the greatest amount of twelve digits
abbrev pub greatest_twelve_digit_amount : Amount
greatest_twelve_digit_amount = 999999999999

-- ---- in bytes

-- how many bytes a state takes: the record, and the two amounts after it in eight bytes each
abbrev pub cabinet_state_size : Length
cabinet_state_size = session_record_size + 16

-- a cabinet at the front of bytes that are enough, those after the state stay; every call checks this first
unfoldable pub cabinet_written_over_front : Cabinet → Bytes → Bytes
cabinet_written_over_front c l =
    encoded_session c.session
    ++ (big_endian_bytes 8 c.remaining ++ (big_endian_bytes 8 c.reserved ++ drop cabinet_state_size l))

-- what the bytes have for the two amounts
abbrev pub remaining_in_cabinet_state : Bytes → Amount
remaining_in_cabinet_state l = big_endian_number (take 8 (drop session_record_size l))

abbrev pub reserved_in_cabinet_state : Bytes → Amount
reserved_in_cabinet_state l = big_endian_number (take 8 (drop (session_record_size + 8) l))

-- ---- which bytes are refused with 25

-- the Amount, Authorized (Numeric) of a store, 9F02; 0 where it is absent, as in no running session in its ranges
abbrev pub stored_amount_authorized : StoreBytes → Amount
stored_amount_authorized b = amount_of (stored_bytes b 0x9F02)

-- what has to be reserved in a phase, by the store: the running session's amount, 0 where none runs
unfoldable pub running_session_amount_or_zero : Phase → StoreBytes → Amount
running_session_amount_or_zero p b = when is_running p then stored_amount_authorized b else 0

-- what is reserved is what the phase requires, and with what remains it is at most the greatest amount
unfoldable pub reserved_matches_session_and_sum_in_range : Cabinet → Bool
reserved_matches_session_and_sum_in_range c =
    c.reserved =? running_session_amount_or_zero c.session.phase (store_bytes c.session)
    and c.remaining + c.reserved ≤? greatest_twelve_digit_amount

-- the session is in its ranges, and the amounts fit
abbrev pub cabinet_session_and_amounts_valid : Cabinet → Bool
cabinet_session_and_amounts_valid c = session_record_in_ranges c.session and reserved_matches_session_and_sum_in_range c

-- the session that the record holds, with the bytes' amounts, where they are in order
abbrev pub decoded_cabinet_of_session : Bytes → Option Session → Option Cabinet
decoded_cabinet_of_session l None = None
decoded_cabinet_of_session l (Some s) =
    let c = cabinet s (remaining_in_cabinet_state l) (reserved_in_cabinet_state l) in
    when cabinet_session_and_amounts_valid c then Some c else None

-- the cabinet that bytes hold; none where they are too few, hold no record, or hold one that is not in order: 25
unfoldable pub decoded_cabinet_if_valid : Bytes → Option Cabinet
decoded_cabinet_if_valid l = when cabinet_state_size ≤? length l then decoded_cabinet_of_session l (decoded_session l) else None

-- ---- what holds of it, proved in proofs/State
--   state-read    a cabinet in order that was written is read back
