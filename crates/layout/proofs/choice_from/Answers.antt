-- `layout::choice_from` meets its contract: at each P1 the definition computes, and past them each of its tests fails.
-- Assumes nothing.
use borrow.Author.Tests.{ne_eqb}
use mathlib.Core.Path.{sym, ap, ◌∙◌}
use native.Mathlib.Omega.{arith}
use Rattle.basics.specs.Choice.{if}
use Rattle.basics.proofs.Laws.{if_no}
use Rattle.layout.specs.Layout.{element_with_number, choice_of_p1}
use Rattle.layout.proofs.choice_from.Goals as goal

pub returns-in-64 : goal.returns-in-64
unfolding element_with_number if
returns-in-64 c = sym (ap choice_of_p1 c.in-64.is)

pub returns-in-128 : goal.returns-in-128
unfolding element_with_number if
returns-in-128 c = sym (ap choice_of_p1 c.in-128.is)

pub returns-in_default : goal.returns-in_default
unfolding element_with_number
returns-in_default c = sym (if_no _ _ (ne_eqb _ _ (omega arith)) ∙ if_no _ _ (ne_eqb _ _ (omega arith)))
