-- `make`: by the kind; each call's promise is the step's.
-- Assumes nothing.
use mathlib.Core.Path.{ap, ◌∙◌}
use native.Mathlib.Omega.{arith}
use borrow.Author.Tests.{ne_eqb}
use Rattle.basics.specs.Choice.{if}
use Rattle.basics.proofs.Laws.{if_no}
use Rattle.session.proofs.Laws.{did_as}
use Rattle.session.specs.Calls.{call_step}
use Rattle.call_list.specs.Encoding.{call_of_kind}
use Rattle.call_list.proofs.make.Goals as goal

pub returns-in-1 : goal.returns-in-1
unfolding call_of_kind if
returns-in-1 c = rw c.in-1.is c.start.ensures

pub returns-in-2 : goal.returns-in-2
unfolding call_of_kind if
returns-in-2 c = rw c.in-2.is c.answer.ensures

pub returns-in-3 : goal.returns-in-3
unfolding call_of_kind if
returns-in-3 c = rw c.in-3.is c.link_failed.ensures

pub returns-in_default : goal.returns-in_default
unfolding call_of_kind
returns-in_default c =
    let kind = c.args.kind in
    did_as (ap (call_step _) (if_no _ _ (ne_eqb kind 1 (omega arith)) ∙ if_no _ _ (ne_eqb kind 2 (omega arith)) ∙ if_no _ _
    (ne_eqb kind 3 (omega arith)))) c.stop.ensures
