-- The session record as bytes (docs/HOST.md has the table by offset): a head of fourteen bytes, and after it the store
-- as it is. Bytes hold a record only where their head is that of a phase, byte for byte.
-- Assumes nothing.
use Rattle.std.specs.Prelude.{Option, Some, None}
use Rattle.layout.specs.declared.SessionRecordHead.{SessionRecordHead}
use Rattle.std.specs.Prelude.{◌≡◌, Bool, List, [], ◌∷◌, ◌++◌, ℕ, zero, suc, ◌+◌, ◌/◌, ◌%◌, length, get_or, take, drop}
use Rattle.basics.specs.Alike.{bytes_equal}
use Rattle.basics.specs.Choice.{when◌then◌else◌, ◌and◌, ◌≤?◌, ◌=?◌}
use Rattle.basics.specs.Front.{written_over_front}
use Rattle.basics.specs.Number.{big_endian_number}
use Rattle.basics.specs.Types.{Byte, Bytes, StoreBytes, Length, Count, Amount, Reason, CvmNumber}
use Rattle.dictionary.specs.Rows.{store_size}
use Rattle.analysis.specs.declared.choice.Choice.{Choice}
use Rattle.analysis.specs.Choice.{generate_ac_p1}
use Rattle.analysis.specs.declared.cvm.Cvm.{Cvm}
use Rattle.analysis.specs.Cvm.{cvm_number}
use Rattle.session_record.specs.declared.Outcome.{Outcome}
use Rattle.session_record.specs.declared.Outcome.TheVariants.{Approved, OnlineRequest, Declined, Ended, SelectNext}
use Rattle.session_record.specs.declared.AwaitedResponse.{AwaitedResponse}
use Rattle.session_record.specs.declared.Phase.{Phase}
use Rattle.session_record.specs.declared.Session.{Session}
use Rattle.session_record.specs.Numbers.{outcome_number}
use Rattle.session_record.specs.Session.{store_bytes, session_of, ending_of}
use Rattle.layout.specs.declared.PhaseFields.{PhaseFields}

-- the layout's version, the first byte of every record
abbrev pub layout_version : Byte
layout_version = 5

-- the bytes before the store, and of the whole record
abbrev pub record_head_size : Length
record_head_size = 14

abbrev pub session_record_size : Length
session_record_size = record_head_size + store_size

-- ---- the head

-- what the head reports: the phase's number, what the phase holds, the reason, the CVM's number, the transaction limit
abbrev pub phase_fields : Byte → Byte → Reason → CvmNumber → Amount → PhaseFields
phase_fields n d r m l = record { number = n; datum = d; reason = r; cvm = m; limit = l }

-- of an awaited response: its number from 1 to 3, and 5; the record's number or the P1 requested; 0 where there is none
abbrev pub phase_fields_of_awaited : AwaitedResponse → PhaseFields
phase_fields_of_awaited AwaitedResponse.Gpo = phase_fields 1 0 0 0 0
phase_fields_of_awaited (AwaitedResponse.Record p) = phase_fields 2 p.number 0 0 p.limit
phase_fields_of_awaited (AwaitedResponse.Cryptogram a) =
    phase_fields 3 (generate_ac_p1 a.choice) 0 (cvm_number a.cvm) a.limit
phase_fields_of_awaited (AwaitedResponse.Checksum c) = phase_fields 5 0 0 0 c.limit

-- of a phase: fresh is 0, ended is 4 with the outcome and its reason
abbrev pub phase_fields_of : Phase → PhaseFields
phase_fields_of Phase.Fresh = phase_fields 0 0 0 0 0
phase_fields_of (Phase.Waiting w) = phase_fields_of_awaited w
phase_fields_of (Phase.Ended e) = phase_fields 4 (outcome_number e.outcome) e.reason 0 0

-- a number in w bytes, high byte first; what the other bytes cannot hold is left in the first
unfoldable pub big_endian_bytes : Length → ℕ → Bytes
big_endian_bytes zero n = []
big_endian_bytes (suc zero) n = n ∷ []
big_endian_bytes (suc (suc w)) n = big_endian_bytes (suc w) (n / 256) ++ (n % 256 ∷ [])

-- the head: the version, the parts of the code with the count of commands handed out before the CVM, the limit last
abbrev pub record_head_bytes : PhaseFields → Count → Bytes
record_head_bytes c n = layout_version ∷ c.number ∷ c.datum ∷ c.reason ∷ n ∷ c.cvm ∷ big_endian_bytes 8 c.limit

-- ---- the way back: any code is read as some phase, and is that phase's only where a phase has it

-- the first of some values with this number, else a last one
unfoldable pub element_with_number : {A : Type 0} → (A → ℕ) → List A → A → ℕ → A
element_with_number number [] last n = last
element_with_number number (x ∷ xs) last n = when n =? number x then x else element_with_number number xs last n

-- the choice that a P1 requests, the CVM and the outcome of a number
abbrev pub choice_of_p1 : Byte → Choice
choice_of_p1 = element_with_number generate_ac_p1 (Choice.Offline ∷ Choice.Online ∷ []) Choice.Decline

abbrev pub cvm_of_number : CvmNumber → Cvm
cvm_of_number =
    element_with_number cvm_number (Cvm.NoCvm ∷ Cvm.Signature ∷ Cvm.OnlinePin ∷ Cvm.ConfirmationCode ∷ []) Cvm.OfflinePin

abbrev pub outcome_of_number : Byte → Outcome
outcome_of_number = element_with_number outcome_number (Approved ∷ OnlineRequest ∷ Declined ∷ Ended ∷ []) SelectNext

-- the awaited response and the phase of a code
unfoldable pub awaited_of_phase_fields : PhaseFields → AwaitedResponse
awaited_of_phase_fields c =
    when c.number =? 1 then AwaitedResponse.Gpo
    else when c.number =? 2 then AwaitedResponse.Record (record { number = c.datum; limit = c.limit })
    else when c.number =? 3 then
    AwaitedResponse.Cryptogram
    (record { choice = choice_of_p1 c.datum; cvm = cvm_of_number c.cvm; limit = c.limit })
    else AwaitedResponse.Checksum (record { limit = c.limit })

unfoldable pub phase_of_phase_fields : PhaseFields → Phase
phase_of_phase_fields c =
    when c.number =? 0 then Phase.Fresh
    else when c.number =? 4 then Phase.Ended (ending_of (outcome_of_number c.datum) c.reason)
    else Phase.Waiting (awaited_of_phase_fields c)

-- ---- the record

-- a session as bytes
unfoldable pub encoded_session : Session → Bytes
encoded_session s = record_head_bytes (phase_fields_of s.phase) s.count ++ store_bytes s

-- the bytes l with a record at the front: those after it stay, and so do all where they are too few
unfoldable pub session_written_over_front_if_room : Session → Bytes → Bytes
session_written_over_front_if_room s l =
    when session_record_size ≤? length l then encoded_session s ++ drop session_record_size l
    else l

-- the bytes l with a head at the front: those after it stay, and so do all where they are too few for a record
unfoldable pub record_head_written_over_front_if_room : Phase → Count → Bytes → Bytes
record_head_written_over_front_if_room p n l =
    when session_record_size ≤? length l then written_over_front (record_head_bytes (phase_fields_of p) n) l
    else l

-- the code, the phase and the count that a head has
abbrev pub phase_fields_in : Bytes → PhaseFields
phase_fields_in l = phase_fields (get_or l 1 0) (get_or l 2 0) (get_or l 3 0) (get_or l 5 0) (big_endian_number (take 8 (drop 6 l)))

abbrev pub phase_in_head : Bytes → Phase
phase_in_head l = phase_of_phase_fields (phase_fields_in l)

abbrev pub command_count_in_head : Bytes → Count
command_count_in_head l = get_or l 4 0

-- the bytes hold a record: enough of them, whose head is that of the phase and the count that are read from it
unfoldable pub has_at_least_record_length_and_canonical_head : Bytes → Bool
has_at_least_record_length_and_canonical_head l =
    session_record_size ≤? length l
    and bytes_equal (record_head_bytes (phase_fields_of (phase_in_head l)) (command_count_in_head l)) (take record_head_size l)

-- the session that bytes hold, with the store after the head; none where they hold no record
unfoldable pub decoded_session : Bytes → Option Session
decoded_session l =
    when has_at_least_record_length_and_canonical_head l
    then Some (session_of (phase_in_head l) (command_count_in_head l) (take store_size (drop record_head_size l)))
    else None

-- what holds of the two, proved in proofs/Laws:
--   decode-encode    the record at the front of any bytes is read back as it was
--   encode-decode    a session that was read is encoded as the bytes it was read from

-- ---- returned

-- writing reports whether the bytes were enough
pub record SessionRecordWrittenIfRoom (written : Session) (bytes_before : Bytes) (had_room : Bool) (bytes_after : Bytes) :
    Type 0 where
  pub enough : had_room ≡ (session_record_size ≤? length bytes_before)
  pub bytes : bytes_after ≡ session_written_over_front_if_room written bytes_before

-- what is reported of the bytes: the session's phase and count, or that there is no record
abbrev pub decoded_record_head : Option Session → Option SessionRecordHead
decoded_record_head None = None
decoded_record_head (Some s) = Some (record { phase = s.phase; count = s.count })

-- the caller's store: the session's, or as it was where there is no record
abbrev pub decoded_store_or_unchanged : Option Session → StoreBytes → StoreBytes
decoded_store_or_unchanged None b = b
decoded_store_or_unchanged (Some s) b = store_bytes s

-- what reading the bytes l reports, and what it leaves in the caller's store
pub record DecodesSessionRecord (result : Option SessionRecordHead) (record_bytes : Bytes)
    (store_before store_after : StoreBytes) : Type 0 where
  pub held : result ≡ decoded_record_head (decoded_session record_bytes)
  pub store : store_after ≡ decoded_store_or_unchanged (decoded_session record_bytes) store_before
