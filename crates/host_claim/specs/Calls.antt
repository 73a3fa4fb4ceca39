-- The calls that a host makes on the bytes of one session: `emv_open` and the four calls of a session (document 01,
-- "Calls and their numbers"), each on the bytes that the call before it left. What a call does is what its exported
-- function promises (host/specs/Hosted). Bytes are any numbers: what holds of all lists of numbers holds of lists of
-- bytes. `emv_wipe` writes, too: after it an `emv_open` comes first.
-- Assumes nothing.
use Rattle.std.specs.Prelude.{List, [], ◌∷◌}
use Rattle.basics.specs.Types.{Bytes, Buffer, ResultWord}
use Rattle.session_record.specs.Session.{fresh_session}
use Rattle.session.specs.Steps.{link_failed_step, stop_step}
use Rattle.layout.specs.Layout.{session_written_over_front_if_room}
use Rattle.session.specs.Calls.{Call, start, answer, link_failed, stop}
use Rattle.host.specs.Hosted.{HostResult, perform_host_call_if_admitted, host_start, host_answer, host_open_word}

-- ---- the calls

-- `emv_open`; or `emv_start`, `emv_answer`, `emv_link_failed`, `emv_stop`, with the bytes that come in and the caller's
-- command buffer, as a session's call has them
pub data HostCall : Type 0 where
  opening : HostCall
  on_session : Call → HostCall

-- what one of the four does on the session's bytes l: the promises of the exported functions
abbrev pub host_result_of_call : Bytes → Call → HostResult
host_result_of_call l (start bytes buf) = host_start bytes l buf
host_result_of_call l (answer card buf) = host_answer card l buf
host_result_of_call l (link_failed buf) = perform_host_call_if_admitted link_failed_step l buf
host_result_of_call l (stop buf) = perform_host_call_if_admitted stop_step l buf

-- what a call does; `emv_open` has no command buffer
abbrev pub host_step : Bytes → HostCall → HostResult
host_step l opening =
    record { word = host_open_word l; session = session_written_over_front_if_room fresh_session l; buffer = [] }
host_step l (on_session c) = host_result_of_call l c

-- ---- a list of calls

-- a call that was made, with its result word and the command buffer after it
pub record HostCallMade : Type 0 where
  pub call : HostCall
  pub word : ResultWord
  pub buffer : Buffer

-- the calls of a list, each on the bytes that the call before it left
unfoldable pub play_host_calls : Bytes → List HostCall → List HostCallMade
play_host_calls l [] = []
play_host_calls l (c ∷ cs) =
    let r = host_step l c in record { call = c; word = r.word; buffer = r.buffer } ∷ play_host_calls r.session cs

-- the bytes that the last call left
unfoldable pub final_session_bytes : Bytes → List HostCall → Bytes
final_session_bytes l [] = l
final_session_bytes l (c ∷ cs) = final_session_bytes (host_step l c).session cs
