-- What a call does (document 01, "Calls and their numbers"). What follows a call goes by the session's store and by
-- what the call brings; `step_of_effect` adds the count, the command buffer and the reply. `step_if_admitted` puts the
-- refusals first that every call checks.
-- Assumes nothing.
use Rattle.std.specs.Prelude.{◌≡◌, not, ◌+◌, length, Option, Some, None}
use Rattle.basics.specs.Types.{StoreBytes, Response, CommandBytes, Buffer, TvrBytes}
use Rattle.basics.specs.Types.{Count, Length, Reason, RefusalNumber, CvmNumber}
use Rattle.basics.specs.Choice.{when◌then◌else◌, ◌<?◌, ◌=?◌}
use Rattle.basics.specs.Front.{written_over_front}
use Rattle.basics.specs.Reason.{reason_none, reason_dol_broken_or_bad_length, reason_link, reason_stopped}
use Rattle.basics.specs.Reason.{refusal_buffer_too_small, refusal_record_out_of_ranges, refusal_wrong_phase}
use Rattle.dictionary.specs.Rows.{dictionary_rows}
use Rattle.dictionary.specs.Named.{row_number_of_tag_or_zero}
use Rattle.store.specs.Place.{put_row}
use Rattle.reading.specs.declared.Awaited.{Awaited}
use Rattle.reading.specs.Answer.{read_answer}
use Rattle.analysis.specs.declared.action.AnalysisFindings.{AnalysisFindings}
use Rattle.analysis.specs.Cvm.{cvm_number, cvm_number_not_applicable}
use Rattle.session_record.specs.declared.Ending.{Ending}
use Rattle.session_record.specs.declared.AwaitedResponse.{AwaitedResponse}
use Rattle.session_record.specs.declared.Phase.{Phase}
use Rattle.session_record.specs.declared.Session.{Session}
use Rattle.session_record.specs.declared.Reply.{Reply}
use Rattle.session_record.specs.declared.Transition.{Transition}
use Rattle.session_record.specs.Session.{store_bytes, ending_for_reason, refused_reply, reply_of}
use Rattle.session_record.specs.Session.{ending_transition, command_transition}
use Rattle.session.specs.declared.NextStep.{NextStep}
use Rattle.session_record.specs.Ranges.{session_record_in_ranges}

-- ---- what follows

-- a command, the response that is then awaited, and the store; or the session's end with its outcome and reason, the
-- CVM that it reports, and the store
pub data NextAction : Type 0 where
  ask : CommandBytes → AwaitedResponse → StoreBytes → NextAction
  end : Ending → CvmNumber → StoreBytes → NextAction

-- the session ends for a reason other than 0; before a choice is made no CVM is reported
abbrev pub end_for_reason : Reason → StoreBytes → NextAction
end_for_reason reason b = end (ending_for_reason reason) cvm_number_not_applicable b

-- the CVM of a running session by its number: one is held while the cryptogram is awaited
abbrev pub held_cvm : AwaitedResponse → CvmNumber
held_cvm AwaitedResponse.Gpo = cvm_number_not_applicable
held_cvm (AwaitedResponse.Record p) = cvm_number_not_applicable
held_cvm (AwaitedResponse.Cryptogram a) = cvm_number a.cvm
held_cvm (AwaitedResponse.Checksum c) = cvm_number_not_applicable

-- a command that carries a filled DOL; where the list is broken, or fills to a length no command can carry, reason 7,
-- with the CVM that would be held with that command: for CDOL1 (8C) it is chosen already
abbrev pub request_command_or_end_for_dol : AwaitedResponse → StoreBytes → Option CommandBytes → NextAction
request_command_or_end_for_dol w b None = end (ending_for_reason reason_dol_broken_or_bad_length) (held_cvm w) b
request_command_or_end_for_dol w b (Some c) = ask c w b

-- the reason that was met: none where a command follows
abbrev pub reason_of_next : NextAction → Reason
reason_of_next (ask c w b) = reason_none
reason_of_next (end e m b) = e.reason

-- a response is read into the store: a reason that the reading gives ends the session, which reports the CVM m, and
-- nothing of the response is stored; else what follows goes by the store with what was read. The first argument is the
-- reading's own kind of response: of a record it has the file alone
unfoldable pub read_response_then : Awaited → CvmNumber → StoreBytes → Response → (StoreBytes → NextAction) → NextAction
read_response_then a m b card next =
    let o = read_answer a b card in
    when o.reason =? reason_none then next o.store
    else end (ending_for_reason o.reason) m b

-- the store with this TVR in 95
unfoldable pub store_with_tvr : StoreBytes → TvrBytes → StoreBytes
store_with_tvr b v = put_row dictionary_rows b (row_number_of_tag_or_zero 0x95) v

-- the store with what the analysis found: the CVM Results in 9F34, over what is there, and 95
unfoldable pub store_with_findings : StoreBytes → AnalysisFindings → StoreBytes
store_with_findings b f = store_with_tvr (put_row dictionary_rows b (row_number_of_tag_or_zero 0x9F34) f.results) f.bits

-- ---- the step of a call

-- what is returned, and the contents of the caller's buffer afterwards
pub record Step : Type 0 where
  pub reply : Reply
  pub buffer : Buffer

-- the returned reply and the buffer afterwards are those of the expected step
pub record ReturnsStep (returned_reply : Reply) (buffer_after : Buffer) (expected : Step) : Type 0 where
  pub reply : returned_reply ≡ expected.reply
  pub buffer : buffer_after ≡ expected.buffer

-- the same of a transition r, with the store b that it left
abbrev pub ReturnsTransition : Transition → StoreBytes → Buffer → Step → Type 0
ReturnsTransition r b buf s = ReturnsStep (reply_of r b) buf s

-- a call is refused, by its number, or something follows
pub data CallEffect : Type 0 where
  refuse : RefusalNumber → CallEffect
  follow : NextAction → CallEffect

-- a session of count n: a command fills the front of the buffer and counts; at the end the count and the buffer stay
abbrev pub step_of_next : Count → Buffer → NextAction → Step
step_of_next n buf (ask c w b) =
    record { reply = reply_of (command_transition w (n + 1) (length c)) b; buffer = written_over_front c buf }
step_of_next n buf (end e m b) = record { reply = reply_of (ending_transition m n e) b; buffer = buf }

-- what the code returns of what follows: the command by its length, or the end with the CVM
abbrev pub next_step_of : NextAction → NextStep
next_step_of (ask c w b) = NextStep.Command w (length c)
next_step_of (end e m b) = NextStep.End e m

-- the store, and the contents of the buffer, afterwards
abbrev pub store_after_next : NextAction → StoreBytes
store_after_next (ask c w b) = b
store_after_next (end e m b) = b

abbrev pub buffer_after_next : Buffer → NextAction → Buffer
buffer_after_next buf (ask c w b) = written_over_front c buf
buffer_after_next buf (end e m b) = buf

-- what was returned, the store and the buffer afterwards are those of what follows; the buffer was the one before
pub record ReturnsNext (returned : NextStep) (store_after : StoreBytes) (before : Buffer) (buffer_after : Buffer) (x : NextAction) : Type 0 where
  pub next : returned ≡ next_step_of x
  pub store : store_after ≡ store_after_next x
  pub buffer : buffer_after ≡ buffer_after_next before x

-- the transition of a session of count n
abbrev pub transition_of_next : Count → NextStep → Transition
transition_of_next n (NextStep.Command w k) = command_transition w (n + 1) k
transition_of_next n (NextStep.End e m) = ending_transition m n e

-- a refusal leaves session and buffer
abbrev pub refused_step : Session → RefusalNumber → Buffer → Step
refused_step s n buf = record { reply = refused_reply s n; buffer = buf }

-- the step of a call on a session
abbrev pub step_of_effect : Session → Buffer → CallEffect → Step
step_of_effect s buf (refuse n) = refused_step s n buf
step_of_effect s buf (follow x) = step_of_next s.count buf x

-- ---- refusals that every call checks first

-- the least command buffer
abbrev pub least_buffer : Length
least_buffer = 261

-- a call is refused for the buffer's size (22), then for the session's ranges (25); else by its own rules
unfoldable pub step_if_admitted : Session → Buffer → CallEffect → Step
step_if_admitted s buf x =
    when length buf <? least_buffer then refused_step s refusal_buffer_too_small buf
    else when not (session_record_in_ranges s) then refused_step s refusal_record_out_of_ranges buf
    else step_of_effect s buf x

-- every call but start: one on a session that is not running is refused (21)
abbrev pub effect_if_running : Phase → (AwaitedResponse → NextAction) → CallEffect
effect_if_running Phase.Fresh next = refuse refusal_wrong_phase
effect_if_running (Phase.Waiting w) next = follow (next w)
effect_if_running (Phase.Ended e) next = refuse refusal_wrong_phase

-- ---- link failed and stop

-- the session ends for the reason, with its store untouched, and reports the CVM that it holds
abbrev pub abort_step : Session → Reason → Buffer → Step
abort_step s reason buf =
    step_if_admitted s buf (effect_if_running s.phase (λ w. end (ending_for_reason reason) (held_cvm w) (store_bytes s)))

-- the call link failed: reason 9
abbrev pub link_failed_step : Session → Buffer → Step
link_failed_step s buf = abort_step s reason_link buf

-- the call stop: reason 10
abbrev pub stop_step : Session → Buffer → Step
stop_step s buf = abort_step s reason_stopped buf
