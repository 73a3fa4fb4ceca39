-- The four calls on a session, what each does, and what it returns (document 01, "Calls and their numbers" and "What
-- demand 3 counts"). Bytes are any numbers: what holds of all lists of numbers holds of lists of bytes.
-- Assumes nothing.
use Rattle.std.specs.Prelude.{Bool, true, false, List, [], ◌∷◌, take}
use Rattle.basics.specs.Types.{Response, StartBytes, CommandBytes, Buffer}
use Rattle.session_record.specs.declared.Session.{Session}
use Rattle.session_record.specs.declared.CallResult.{CallResult}
use Rattle.session.specs.Steps.{Step, link_failed_step, stop_step}
use Rattle.session.specs.Start.{start_step}
use Rattle.session.specs.Answer.{answer_step}

-- ---- the calls and their steps

-- a call, with the bytes that come in and the caller's command buffer
pub data Call : Type 0 where
  start : StartBytes → Buffer → Call
  answer : Response → Buffer → Call
  link_failed : Buffer → Call
  stop : Buffer → Call

-- what a call does to a session
abbrev pub call_step : Session → Call → Step
call_step s (start bytes buf) = start_step s bytes buf
call_step s (answer card buf) = answer_step s card buf
call_step s (link_failed buf) = link_failed_step s buf
call_step s (stop buf) = stop_step s buf

-- a call that was made: the session before it, the call, and its step
pub record CallMade : Type 0 where
  pub before : Session
  pub call : Call
  pub step : Step

-- the same as a function of the three
abbrev pub call_made : Session → Call → Step → CallMade
call_made s c st = record { before = s; call = c; step = st }

-- the calls of a list, each on the session that the call before it returned
unfoldable pub play_calls : Session → List Call → List CallMade
play_calls s [] = []
play_calls s (c ∷ cs) = call_made s c (call_step s c) ∷ play_calls (call_step s c).reply.session cs

-- the session that the last call returned
unfoldable pub final_session : Session → List Call → Session
final_session s [] = s
final_session s (c ∷ cs) = final_session (call_step s c).reply.session cs

-- ---- what a call returned

-- a refusal, which leaves session and buffer as given
abbrev pub is_refusal : CallResult → Bool
is_refusal (CallResult.Command x) = false
is_refusal (CallResult.Outcome e) = false
is_refusal (CallResult.Refused r) = true

-- one of the three
abbrev pub call_result : CallMade → CallResult
call_result m = m.step.reply.answer

-- the call was refused
abbrev pub call_refused : CallMade → Bool
call_refused m = is_refusal (call_result m)

-- the command that a call hands out: as many bytes of its buffer's front as it says, read after the call
abbrev pub command_sent : CallResult → Buffer → List CommandBytes
command_sent (CallResult.Command x) buf = take x.size buf ∷ []
command_sent (CallResult.Outcome e) buf = []
command_sent (CallResult.Refused r) buf = []
