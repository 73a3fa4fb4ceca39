-- `layout::phase_of` meets its contract: by the tests of the phase's number.
-- Assumes nothing.
use borrow.Author.Tests.{eq-eqb, ne_eqb}
use mathlib.Core.Path.{sym, ◌∙◌}
use native.Mathlib.Omega.{arith}
use Rattle.basics.proofs.Laws.{if_yes, if_no}
use Rattle.layout.specs.Layout.{phase_of_phase_fields}
use Rattle.layout.proofs.phase_of.Goals as goal

pub returns-in-0 : goal.returns-in-0
unfolding phase_of_phase_fields
returns-in-0 c = sym (if_yes _ _ (eq-eqb _ _ c.in-0.is))

pub returns-in-4 : goal.returns-in-4
unfolding phase_of_phase_fields
returns-in-4 c =
    rw c.outcome_from.ensures
    (sym (if_no _ _ (ne_eqb _ _ (omega (arith, c.in-4.is))) ∙ if_yes _ _ (eq-eqb _ _ c.in-4.is)))

pub returns-in_default : goal.returns-in_default
unfolding phase_of_phase_fields
returns-in_default c =
    rw c.awaited_of.ensures (sym (if_no _ _ (ne_eqb _ _ (omega arith)) ∙ if_no _ _ (ne_eqb _ _ (omega arith))))
