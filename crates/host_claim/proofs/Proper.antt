-- Demand 3 of session's calls, read off their words and buffers: the claim of session_claim, each part by the reading
-- that is the
-- same.
-- Assumes nothing.
use Rattle.std.specs.Prelude.{Some}
use mathlib.Core.Path.{◌≡◌, refl, sym, ap, ◌∙◌}
use mathlib.Core.List.{List, map}
use Prim.Native.Nat.{ℕ}
use native.Mathlib.Omega.{arith}
use lib.ListN.{length, take, length-map}
use Rattle.session_record.specs.declared.Session.{Session}
use Rattle.session_record.specs.Session.{fresh_session}
use Rattle.session_record.proofs.Phases.{fresh_keeps}
use Rattle.layout.specs.Layout.{decoded_session}
use Rattle.session_claim.specs.Calls.{commands_sent, calls_accepted, unanswered_commands, last_element}
use Rattle.session.specs.Calls.{Call, CallMade, play_calls, final_session}
use Rattle.session_claim.specs.Order.{command_kind, first_answer, published_order, final_command_kind_by_gpo_answer}
use Rattle.session_claim.specs.Order.{afl_accepted_from_gpo_answer}
use Rattle.session_claim.specs.Claim.{most_commands_for_accepted_afl, CallsAndSessionAfterInPublishedOrder}
use Rattle.session_claim.proofs.Trace.{always}
use Rattle.host.specs.Hosted.{command_count_or_all_ones}
use Rattle.host_claim.specs.Calls.{HostCallMade}
use Rattle.host_claim.specs.Words.{host_commands_handed_out, host_calls_not_refused, host_unanswered_commands}
use Rattle.host_claim.specs.Words.{first_answer_call, host_afl_accepted_from_gpo_answer, host_final_command_kind_by_gpo_answer}
use Rattle.host_claim.specs.Claim.{HostCallsAndBytesAfterInPublishedOrder, host_view_of_call}
use Rattle.host_claim.proofs.Read.{All, Known, play_known, read_commands, read_taken, read_unanswered}
use Rattle.host_claim.proofs.Read.{read_last_kind, read_stage}
use Rattle.host_claim.proofs.Afl.{read_afl}

module _ (cs : List Call) where
  abbrev ms : List CallMade
  ms = play_calls fresh_session cs

  abbrev hs : List HostCallMade
  hs = map host_view_of_call ms

  abbrev last : Session
  last = final_session fresh_session cs

  known : All Known ms
  known = play_known fresh_session cs

  pub session_proper : CallsAndSessionAfterInPublishedOrder ms last
  session_proper = always fresh_session cs refl fresh_keeps

  pub commands_same : host_commands_handed_out hs ≡ commands_sent ms
  commands_same = read_commands ms known

  pub taken_same : host_calls_not_refused hs ≡ map host_view_of_call (calls_accepted ms)
  taken_same = read_taken ms known

  pub unanswered_same : host_unanswered_commands hs ≡ unanswered_commands ms
  unanswered_same = read_unanswered ms known

  pub afl_same : host_afl_accepted_from_gpo_answer (first_answer_call (host_calls_not_refused hs)) ≡ afl_accepted_from_gpo_answer
      (first_answer (calls_accepted ms))
  afl_same = read_afl cs

  pub last_kind_same : host_final_command_kind_by_gpo_answer (first_answer_call (host_calls_not_refused hs))
      ≡ final_command_kind_by_gpo_answer (first_answer (calls_accepted ms))
  last_kind_same = read_last_kind ms known

  taken_number : length (host_calls_not_refused hs) ≡ length (calls_accepted ms)
  taken_number = ap length taken_same ∙ length-map (calls_accepted ms) host_view_of_call

  number : length (host_commands_handed_out hs) ≡ length (commands_sent ms)
  number = ap length commands_same

  pub words_proper : (l : List ℕ) → decoded_session l ≡ Some last → HostCallsAndBytesAfterInPublishedOrder hs l
  words_proper l e =
      let p = session_proper in
      record {
        session = last;
        held = e;
        order = ap (map command_kind) commands_same ∙ p.order
            ∙ (λ i. take (length (sym commands_same i)) (published_order (sym last_kind_same i) (sym afl_same i)));
        count = ap command_count_or_all_ones e ∙ p.count ∙ sym number;
        bound = omega (arith, p.bound, number, ap most_commands_for_accepted_afl afl_same);
        never_over = omega (arith, p.never_over, number);
        stage = p.stage ∙ sym (read_stage ms known);
        one_unanswered = λ w. ap length unanswered_same ∙ p.one_unanswered w;
        last_unanswered = λ w. ap last_element unanswered_same ∙ p.last_unanswered w ∙ sym
            (ap last_element commands_same);
        calls = omega (arith, p.calls, number, taken_number);
        never_over_131 = omega (arith, p.never_over_131, taken_number);
      }
