-- `layout::outcome_from` meets its contract: at each number the definition computes, and past them each of its
-- tests fails.
-- Assumes nothing.
use borrow.Author.Tests.{ne_eqb}
use mathlib.Core.Path.{sym, ap, ◌∙◌}
use native.Mathlib.Omega.{arith}
use Rattle.basics.specs.Choice.{if}
use Rattle.basics.proofs.Laws.{if_no}
use Rattle.layout.specs.Layout.{element_with_number, outcome_of_number}
use Rattle.layout.proofs.outcome_from.Goals as goal

pub returns-in-0 : goal.returns-in-0
unfolding element_with_number if
returns-in-0 c = sym (ap outcome_of_number c.in-0.is)

pub returns-in-1 : goal.returns-in-1
unfolding element_with_number if
returns-in-1 c = sym (ap outcome_of_number c.in-1.is)

pub returns-in-2 : goal.returns-in-2
unfolding element_with_number if
returns-in-2 c = sym (ap outcome_of_number c.in-2.is)

pub returns-in-3 : goal.returns-in-3
unfolding element_with_number if
returns-in-3 c = sym (ap outcome_of_number c.in-3.is)

pub returns-in_default : goal.returns-in_default
unfolding element_with_number
returns-in_default c =
    sym
    (if_no _ _ (ne_eqb _ _ (omega arith)) ∙
    (if_no _ _ (ne_eqb _ _ (omega arith)) ∙ (if_no _ _ (ne_eqb _ _ (omega arith)) ∙ if_no _ _ (ne_eqb _ _ (omega arith)))))
