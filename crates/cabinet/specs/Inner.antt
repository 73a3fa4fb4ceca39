-- What private functions promise for their callers' proofs: a call's first tests as the code has them, which leaves the
-- session's ranges to the kernel's step, and the state as the code writes it after the store. This file states no rule:
-- a reader of the rules can skip it. proofs/Laws ties it to specs/State and specs/Calls.
-- Assumes nothing.
use Rattle.std.specs.Borrow.{MutBor}
use Rattle.std.specs.Prelude.{◌≡◌, ◌≤◌, false, ◌++◌, length, take, drop, Option, Some, None, Result, Err, ℕ}
use Rattle.std.specs.Option.{ok_or}
use Rattle.basics.specs.Choice.{when◌then◌else◌, ◌≤?◌, ◌<?◌}
use Rattle.basics.specs.Reason.{refusal_buffer_too_small, refusal_record_out_of_ranges}
use Rattle.basics.specs.Types.{Bytes, Buffer, StartBytes, Length, Amount}
use Rattle.dictionary.specs.Rows.{store_size}
use Rattle.session_record.specs.declared.CallResult.{CallResult}
use Rattle.session_record.specs.declared.Phase.{Phase}
use Rattle.session_record.specs.declared.Refusal.{Refusal}
use Rattle.session_record.specs.declared.Session.{Session}
use Rattle.session_record.specs.declared.Transition.{Transition}
use Rattle.session_record.specs.Session.{session_of, fresh_session}
use Rattle.session_record.specs.Ranges.{session_record_in_ranges}
use Rattle.session.specs.Steps.{Step, ReturnsTransition, least_buffer, refused_step}
use Rattle.session.specs.Start.{start_step}
use Rattle.layout.specs.Layout.{record_head_size, session_record_size, big_endian_bytes, decoded_session}
use Rattle.layout.specs.Layout.{record_head_written_over_front_if_room}
use Rattle.layout.specs.Word.{refusal_word}
use Rattle.cabinet.specs.declared.Amounts.{Amounts}
use Rattle.cabinet.specs.declared.CabinetWithoutStore.{CabinetWithoutStore}
use Rattle.cabinet.specs.State.{Cabinet, cabinet, cabinet_state_size, remaining_in_cabinet_state}
use Rattle.cabinet.specs.State.{reserved_in_cabinet_state, reserved_matches_session_and_sum_in_range}
use Rattle.cabinet.specs.Calls.{CabinetResult, cabinet_refusal, remaining_after_outcome, cabinet_start_by_result}

-- ---- the first tests

-- what a cabinet's state holds besides the store
abbrev pub cabinet_without_store : Cabinet → CabinetWithoutStore
cabinet_without_store c =
    record {
      phase = c.session.phase;
      count = c.session.count;
      amounts = record { remaining = c.remaining; reserved = c.reserved };
    }

-- a cabinet whose amounts fit, whatever its session's ranges
abbrev pub cabinet_admission_by_amounts_alone : Cabinet → Option CabinetWithoutStore
cabinet_admission_by_amounts_alone c =
    when reserved_matches_session_and_sum_in_range c then Some (cabinet_without_store c) else None

abbrev pub cabinet_admission_for_session : Bytes → Option Session → Option CabinetWithoutStore
cabinet_admission_for_session l None = None
cabinet_admission_for_session l (Some s) =
    cabinet_admission_by_amounts_alone (cabinet s (remaining_in_cabinet_state l) (reserved_in_cabinet_state l))

-- what a state reports; none where it is refused with 25
unfoldable pub admission_by_state_bytes : Bytes → Option CabinetWithoutStore
admission_by_state_bytes l =
    when cabinet_state_size ≤? length l then cabinet_admission_for_session l (decoded_session l) else None

-- the buffer's size comes first
unfoldable pub admission_by_state_and_buffer_size : Bytes → Length → Result CabinetWithoutStore ℕ
admission_by_state_and_buffer_size l size =
    when size <? least_buffer then Err (refusal_word refusal_buffer_too_small)
    else ok_or (admission_by_state_bytes l) (refusal_word refusal_record_out_of_ranges)

-- the cabinet of what a state reports, with the store that lies in the bytes
abbrev pub cabinet_with_store_in : CabinetWithoutStore → Bytes → Cabinet
cabinet_with_store_in h l =
    let s = session_of h.phase h.count (take store_size (drop record_head_size l)) in
    cabinet s h.amounts.remaining h.amounts.reserved

-- what a call does on a cabinet whose amounts fit: 25 where its session is out of its ranges
unfoldable pub cabinet_call_if_session_in_ranges : (Cabinet → CabinetResult) → Bytes → Buffer → Cabinet → CabinetResult
cabinet_call_if_session_in_ranges does l buf c =
    when session_record_in_ranges c.session then does c
    else cabinet_refusal refusal_record_out_of_ranges l buf

-- a start on a fresh session of its own
abbrev pub cabinet_start_on_fresh : StartBytes → Amount → Bytes → Buffer → CabinetResult
cabinet_start_on_fresh bytes remaining l buf =
    let st = start_step fresh_session bytes buf in
    cabinet_start_by_result st.reply.answer st remaining l buf

-- how many bytes of a buffer an answer's command takes
abbrev pub command_size_or_zero : CallResult → Length
command_size_or_zero (CallResult.Command x) = x.size
command_size_or_zero (CallResult.Outcome e) = 0
command_size_or_zero (CallResult.Refused r) = 0

-- the command at the front of one buffer, copied to the front of another
abbrev pub command_copied_to_buffer : CallResult → Buffer → Buffer → Buffer
command_copied_to_buffer (CallResult.Command x) first buf = take x.size first ++ drop x.size buf
command_copied_to_buffer (CallResult.Outcome e) first buf = buf
command_copied_to_buffer (CallResult.Refused r) first buf = buf

-- ---- a call but a start, by its step

-- the kernel's step refuses a session that is out of its ranges, and leaves what it refuses
pub record RefusesAsKernel (step : Session → Buffer → Step) : Type 0 where
  pub ranges : (s : Session) (buf : Buffer) → least_buffer ≤ length buf → session_record_in_ranges s ≡ false
      → step s buf ≡ refused_step s refusal_record_out_of_ranges buf
  pub refusal : (s : Session) (buf : Buffer) (r : Refusal) → (step s buf).reply.answer ≡ CallResult.Refused r
      → step s buf ≡ refused_step s r.number buf

-- what a call may give at a phase, a count, a store and a buffer is what the step on the session of these parts gives
abbrev pub TakesStep : (Phase → ℕ → MutBor Bytes → MutBor Buffer → Transition → MutBor Bytes → MutBor Buffer → Type 0)
    → (Session → Buffer → Step) → Type 0
TakesStep gives step =
    (p : Phase) (n : ℕ) (store : MutBor Bytes) (buf : MutBor Buffer) (t : Transition) (store' : MutBor Bytes)
    (buf' : MutBor Buffer) → gives p n store buf t store' buf'
    → ReturnsTransition t store'.now buf'.now (step (session_of p n store.now) buf.now)

-- ---- the state as it is written

-- the amounts after the record, whatever that is
abbrev pub state_with_amounts : Amounts → Bytes → Bytes
state_with_amounts a l =
    take session_record_size l
    ++ (big_endian_bytes 8 a.remaining ++ (big_endian_bytes 8 a.reserved ++ drop cabinet_state_size l))

-- the amounts after an answer
abbrev pub amounts_after_result : CallResult → Amounts → Amounts
amounts_after_result (CallResult.Command x) a = a
amounts_after_result (CallResult.Outcome e) a =
    record { remaining = remaining_after_outcome e.outcome a.remaining a.reserved; reserved = 0 }
amounts_after_result (CallResult.Refused r) a = a

-- the head and the amounts of a transition around the store that lies in its place; a refusal writes nothing
abbrev pub state_after_result : CallResult → Transition → Amounts → Bytes → Bytes
state_after_result (CallResult.Command x) t a l =
    state_with_amounts (amounts_after_result (CallResult.Command x) a)
    (record_head_written_over_front_if_room t.phase t.count l)
state_after_result (CallResult.Outcome e) t a l =
    state_with_amounts (amounts_after_result (CallResult.Outcome e) a)
    (record_head_written_over_front_if_room t.phase t.count l)
state_after_result (CallResult.Refused r) t a l = l

abbrev pub state_after_transition : Transition → Amounts → Bytes → Bytes
state_after_transition t a l = state_after_result t.answer t a l
