-- The accepted AFL: the first answer taken comes while the answer to GPO is awaited, and there a command is handed out
-- exactly where the rules give no reason. So the word of that answer reports whether its AFL is accepted.
-- Assumes nothing.
use Rattle.std.specs.Prelude.{Option, Some, None}
use mathlib.Core.Path.{◌≡◌, refl, sym, ap, subst, ◌∙◌}
use mathlib.Core.Bool.{Bool, true, false}
use mathlib.Core.List.{List, map}
use Prim.Native.Nat.{ℕ}
use lib.Dec.{eqb}
use Rattle.basics.specs.Choice.{if}
use Rattle.basics.proofs.Laws.{if_ind}
use Rattle.session_record.specs.declared.AwaitedResponse.{AwaitedResponse}
use Rattle.session_record.specs.declared.Phase.{Phase}
use Rattle.session_record.specs.declared.Session.{Session}
use Rattle.session_record.specs.Session.{store_bytes, fresh_session}
use Rattle.session.specs.Steps.{Step, step_of_effect, step_if_admitted, effect_if_running}
use Rattle.session.specs.Answer.{gpo_reason, next_on_response, answer_step}
use Rattle.session.proofs.Results.{is_command}
use Rattle.session_claim.specs.Calls.{is_answer, calls_accepted}
use Rattle.session.specs.Calls.{Call, start, answer, link_failed, stop, call_step, CallMade, call_made, play_calls}
use Rattle.session.specs.Calls.{is_refusal, call_refused}
use Rattle.session_claim.specs.Order.{afl_in_gpo_response, first_answer, afl_accepted_from_gpo_answer}
use Rattle.session_claim.proofs.Rules.{hands_by_rules, first_on_gpo}
use Rattle.basics.proofs.Laws.{no}
use Rattle.host.proofs.Sizes.{Small}
use Rattle.host_claim.specs.Words.{host_calls_not_refused, first_answer_call, host_afl_accepted_from_gpo_answer}
use Rattle.host_claim.specs.Claim.{host_view_of_call}
use Rattle.host_claim.proofs.Read.{word_command, Known, play_known, taken_all, first_all, as_read, first_answers}
use Rattle.host_claim.proofs.Read.{read_first_taken}

-- an answer that is taken while the answer to GPO is awaited
module _ (s : Session) (card buf : List ℕ) (q : s.phase ≡ Phase.Waiting AwaitedResponse.Gpo) where
  command_by_rules : is_refusal (answer_step s card buf).reply.answer ≡ false
      → is_command (answer_step s card buf).reply.answer ≡ eqb (gpo_reason (store_bytes s) card) 0
  unfolding step_if_admitted
  command_by_rules =
      if_ind P _ _ _ (λ e h. no (sym h))
      (λ e. if_ind P _ _ _ (λ r h. no (sym h))
      (λ r. subst (λ (p : Phase). P (step_of_effect s buf (effect_if_running p (next_on_response (store_bytes s) card))))
      (sym q)
      (λ h. hands_by_rules s.count (store_bytes s) card buf)))
    where
      P : Step → Type 0
      P st =
          is_refusal st.reply.answer ≡ false
          → is_command st.reply.answer ≡ eqb (gpo_reason (store_bytes s) card) 0

-- an answer, and no other call
afl_of : (s : Session) (c : Call) (st : Step) → is_answer c ≡ true → st ≡ call_step s c → Small st.reply.answer
    → is_refusal st.reply.answer ≡ false → s.phase ≡ Phase.Waiting AwaitedResponse.Gpo
    → host_afl_accepted_from_gpo_answer (Some (host_view_of_call (call_made s c st))) ≡ afl_accepted_from_gpo_answer
    (Some (call_made s c st))
afl_of s (start bytes buf) st a e h t q = no a
afl_of s (answer card buf) st a e h t q =
    let r = sym (ap (λ (x : Step). is_refusal x.reply.answer) e) ∙ t in
    ap (λ (b : Bool). if b (afl_in_gpo_response card) None)
    (word_command st.reply.answer h ∙ ap (λ (x : Step). is_command x.reply.answer) e
    ∙ command_by_rules s card buf q r)
afl_of s (link_failed buf) st a e h t q = no a
afl_of s (stop buf) st a e h t q = no a

pub read_afl : (cs : List Call)
    → host_afl_accepted_from_gpo_answer
    (first_answer_call (host_calls_not_refused (map host_view_of_call (play_calls fresh_session cs)))) ≡ afl_accepted_from_gpo_answer
    (first_answer (calls_accepted (play_calls fresh_session cs)))
read_afl cs = ap host_afl_accepted_from_gpo_answer (read_first_taken ms (play_known fresh_session cs)) ∙ go
    (first_answer (calls_accepted ms)) refl
  where
    ms : List CallMade
    ms = play_calls fresh_session cs

    go : (x : Option CallMade) → first_answer (calls_accepted ms) ≡ x → host_afl_accepted_from_gpo_answer (as_read x)
        ≡ afl_accepted_from_gpo_answer x
    go None e = refl
    go (Some m) e =
        let known = taken_all Known ms (play_known fresh_session cs) in
        let k = first_all (λ x. Known x × (call_refused x ≡ false)) (calls_accepted ms) m known e in
        afl_of m.before m.call m.step (first_answers (calls_accepted ms) m e) k.0.is_step k.0.small
        k.1
        (first_on_gpo fresh_session cs m refl e)
