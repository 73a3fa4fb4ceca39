-- The session record and the reply of a call (document 01, "Calls and their numbers"), built anew only here: a new
-- field is added here.
-- Assumes nothing.
use Rattle.std.specs.Prelude.{Bool, true, false, replicate}
use Rattle.basics.specs.Types.{StoreBytes, Count, Length, Reason, RefusalNumber, CvmNumber}
use Rattle.dictionary.specs.Rows.{store_size}
use Rattle.store.specs.declared.Store.{Store}
use Rattle.session_record.specs.declared.Outcome.{Outcome}
use Rattle.session_record.specs.declared.Ending.{Ending}
use Rattle.session_record.specs.declared.OutcomeParameters.{OutcomeParameters}
use Rattle.session_record.specs.declared.AwaitedResponse.{AwaitedResponse}
use Rattle.session_record.specs.declared.Phase.{Phase}
use Rattle.session_record.specs.declared.Session.{Session}
use Rattle.session_record.specs.declared.CallResult.{CallResult}
use Rattle.session_record.specs.declared.Reply.{Reply}
use Rattle.session_record.specs.declared.Transition.{Transition}
use Rattle.session_record.specs.Numbers.{outcome_of_nonzero_reason}

-- ---- records

-- the bytes of a session's store
abbrev pub store_bytes : Session → StoreBytes
store_bytes s = s.store.bytes

-- a session of these parts
abbrev pub session_of : Phase → Count → StoreBytes → Session
session_of p n b = record { phase = p; count = n; store = record { bytes = b } }

-- the store that holds nothing
abbrev pub empty_store : Store
empty_store = record { bytes = replicate store_size 0 }

-- a session that nothing has happened to
abbrev pub fresh_session : Session
fresh_session = record { phase = Phase.Fresh; count = 0; store = empty_store }

-- the session in a phase, with a count
abbrev pub session_in_phase_with_count : Session → Phase → Count → Session
session_in_phase_with_count s p n = record { phase = p; count = n; store = s.store }

-- ---- the stage of a session

-- fresh: no call was taken yet; running: a response is awaited; ended: there is an outcome
pub data SessionStage : Type 0 where
  fresh : SessionStage
  running : SessionStage
  ended : SessionStage

-- by the phase
abbrev pub session_stage_of : Phase → SessionStage
session_stage_of Phase.Fresh = fresh
session_stage_of (Phase.Waiting w) = running
session_stage_of (Phase.Ended e) = ended

-- it runs
abbrev pub is_running : Phase → Bool
is_running Phase.Fresh = false
is_running (Phase.Waiting w) = true
is_running (Phase.Ended e) = false

-- it has an outcome
abbrev pub is_ended : Phase → Bool
is_ended Phase.Fresh = false
is_ended (Phase.Waiting w) = false
is_ended (Phase.Ended e) = true

-- ---- replies

-- an outcome with its reason
abbrev pub ending_of : Outcome → Reason → Ending
ending_of o n = record { outcome = o; reason = n }

-- a reason other than 0, with its outcome
abbrev pub ending_for_reason : Reason → Ending
ending_for_reason n = ending_of (outcome_of_nonzero_reason n) n

-- what an outcome reports: the outcome with its reason, and the CVM's number (document 02, Item 5)
abbrev pub outcome_parameters : Ending → CvmNumber → OutcomeParameters
outcome_parameters e m = record { outcome = e.outcome; reason = e.reason; cvm = m }

-- a refusal, by its number; the session is as it was
abbrev pub refused_reply : Session → RefusalNumber → Reply
refused_reply s n = record { session = s; answer = CallResult.Refused (record { number = n }) }

-- ---- transitions: a reply without the store

-- a transition with the store that it left
abbrev pub reply_of : Transition → StoreBytes → Reply
reply_of t b = record { session = session_of t.phase t.count b; answer = t.answer }

-- a refusal leaves the phase and the count
abbrev pub refused_transition : Phase → Count → RefusalNumber → Transition
refused_transition p k n = record { phase = p; count = k; answer = CallResult.Refused (record { number = n }) }

-- the session ends, and reports the CVM by its number m; the record keeps no CVM
abbrev pub ending_transition : CvmNumber → Count → Ending → Transition
ending_transition m k e =
    record { phase = Phase.Ended e; count = k; answer = CallResult.Outcome (outcome_parameters e m) }

-- the session ends for a reason other than 0
abbrev pub failing_transition : CvmNumber → Count → Reason → Transition
failing_transition m k n = ending_transition m k (ending_for_reason n)

-- a command of n bytes is handed out, and the session waits for the response to it
abbrev pub command_transition : AwaitedResponse → Count → Length → Transition
command_transition w k n =
    record { phase = Phase.Waiting w; count = k; answer = CallResult.Command (record { size = n }) }
