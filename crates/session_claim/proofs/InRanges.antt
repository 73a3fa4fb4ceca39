-- Calls on a session in its ranges, without the test of them: every call leaves a session in its ranges, so none after
-- it is refused for them. Computed examples go by this, since the test reads every row's place. Assumes nothing.
use mathlib.Core.Path.{◌≡◌, refl, ap, subst, ◌∙◌}
use mathlib.Core.Bool.{true, not}
use mathlib.Core.List.{List, [], ◌∷◌}
use Prim.Native.Nat.{ℕ}
use lib.Dec.{ltb}
use lib.ListN.{length}
use Rattle.basics.specs.Choice.{if}
use Rattle.basics.specs.Reason.{refusal_buffer_too_small, reason_link, reason_stopped}
use Rattle.basics.proofs.Laws.{if_no}
use Rattle.session_record.specs.declared.Session.{Session}
use Rattle.session_record.specs.Ranges.{session_record_in_ranges}
use Rattle.session_record.specs.declared.AwaitedResponse.{AwaitedResponse}
use Rattle.session_record.specs.Session.{store_bytes, ending_for_reason}
use Rattle.session.specs.Steps.{end, held_cvm, Step, CallEffect, refused_step, step_of_effect, least_buffer, step_if_admitted}
use Rattle.session.specs.Steps.{effect_if_running}
use Rattle.session.specs.Start.{start_effect}
use Rattle.session.specs.Answer.{next_on_response}
use Rattle.session.specs.Calls.{Call, start, answer, link_failed, stop, call_step, CallMade, call_made, play_calls}
use Rattle.session.specs.Calls.{final_session}
use Rattle.session_claim.proofs.Trace.{call_keeps}

-- the refusal for the buffer's size, then the step
abbrev pub sized : Session → List ℕ → CallEffect → Step
sized s buf x = if (ltb (length buf) least_buffer) (refused_step s refusal_buffer_too_small buf) (step_of_effect s buf x)

-- link failed and stop
abbrev pub abort_call : Session → ℕ → CallEffect
abort_call s reason = effect_if_running s.phase (λ (w : AwaitedResponse). end (ending_for_reason reason) (held_cvm w)
    (store_bytes s))

abbrev pub step_by_effect : Session → Call → Step
step_by_effect s (start bytes buf) = sized s buf (start_effect s.phase (store_bytes s) bytes)
step_by_effect s (answer card buf) = sized s buf (effect_if_running s.phase (next_on_response (store_bytes s) card))
step_by_effect s (link_failed buf) = sized s buf (abort_call s reason_link)
step_by_effect s (stop buf) = sized s buf (abort_call s reason_stopped)

-- the calls of a list, and the session after them
unfoldable pub play_in : Session → List Call → List CallMade
play_in s [] = []
play_in s (c ∷ cs) = call_made s c (step_by_effect s c) ∷ play_in (step_by_effect s c).reply.session cs

unfoldable pub final_in : Session → List Call → Session
final_in s [] = s
final_in s (c ∷ cs) = final_in (step_by_effect s c).reply.session cs

module _ (s : Session) (e : session_record_in_ranges s ≡ true) where
  tested : (buf : List ℕ) (x : CallEffect) → step_if_admitted s buf x ≡ sized s buf x
  unfolding step_if_admitted
  tested buf x = ap (if (ltb (length buf) least_buffer) (refused_step s refusal_buffer_too_small buf)) (if_no _ _ (ap not e))

  step_in : (c : Call) → call_step s c ≡ step_by_effect s c
  step_in (start bytes buf) = tested buf _
  step_in (answer card buf) = tested buf _
  step_in (link_failed buf) = tested buf _
  step_in (stop buf) = tested buf _

  after : (c : Call) → session_record_in_ranges (step_by_effect s c).reply.session ≡ true
  after c = subst (λ (st : Step). session_record_in_ranges st.reply.session ≡ true) (step_in c) (call_keeps s c e)

pub play_in_lem : (s : Session) → session_record_in_ranges s ≡ true → (cs : List Call) → play_calls s cs ≡ play_in s cs
unfolding play_calls play_in
play_in_lem s e [] = refl
play_in_lem s e (c ∷ cs) =
    ap (λ (st : Step). call_made s c st ∷ play_calls st.reply.session cs) (step_in s e c) ∙ ap
    (λ (ms : List CallMade). call_made s c (step_by_effect s c) ∷ ms) (play_in_lem (step_by_effect s c).reply.session (after s e c) cs)

pub final_in_lem : (s : Session) → session_record_in_ranges s ≡ true → (cs : List Call) → final_session s cs ≡ final_in s cs
unfolding final_session final_in
final_in_lem s e [] = refl
final_in_lem s e (c ∷ cs) = ap (λ (st : Step). final_session st.reply.session cs) (step_in s e c)
    ∙ final_in_lem (step_by_effect s c).reply.session (after s e c) cs
