-- `choice::terminal_action_analysis` meets its contract: the first stage that is consulted and holds a bit decides
-- (`choice_by_stage`), and after the last the type alone (`choice_by_type`); the number follows (`asks`).
-- Assumes nothing.
use mathlib.Core.Path.{sym, ◌∙◌}
use native.Mathlib.Omega.{arith}
use borrow.Author.Count.{below_more}
use Rattle.basics.proofs.Laws.{both_no_left, both_no_right}
use Rattle.analysis.proofs.Laws.{asks}
use Rattle.analysis.proofs.Stages.{choice_by_stage, choice_by_type, stage_test}
use Rattle.analysis.proofs.choice.terminal_action_analysis.Goals as goal
use Rattle.analysis.proofs.choice.terminal_action_analysis.Goals.{else-consulted-via-then-consulted+else-is_some, else-consulted-via-else-consulted}

pub returns-then-is_some : goal.returns-then-is_some
returns-then-is_some c =
    let lp = c.loop-stage in
    let rc = c.online_capability_of_type-capability in
    let holds = stage_test _ c.args.pairs lp.stage _ _ c.lowest_tvr_bit_in_codes.ensures c.is_some.ensures ∙ c.if-is_some.true in
    let r = asks _ _ _
    (c.forced.ensures
    ∙ sym (choice_by_stage _ _ _ rc.result rc.ensures lp.stage (omega arith)
    (sym c.consulted.ensures ∙ c.if-consulted.true) holds lp.invariant)) in
    record { choice = r.0; number = r.1 }

pub loop-stage-preserved : goal.loop-stage-preserved
loop-stage-preserved c =
    below_more _ _ c.loop-stage.invariant
    (elim c.else-consulted.branch [
      | else-consulted-via-then-consulted+else-is_some w ↦ both_no_right _ _
          (stage_test _ c.args.pairs c.loop-stage.stage _ _ w.lowest_tvr_bit_in_codes.ensures w.is_some.ensures ∙ w.if-is_some.false)
      | else-consulted-via-else-consulted w ↦ both_no_left _ _ (sym c.consulted.ensures ∙ w.if-consulted.false)
    ])

pub returns : goal.returns
returns c =
    let rc = c.online_capability_of_type-capability in
    let r = asks _ _ _
    (c.unforced.ensures
    ∙ sym (choice_by_type _ _ _ rc.result rc.ensures (λ m h. c.loop-stage.invariant m (omega arith)))) in
    record { choice = r.0; number = r.1 }
