-- `layout::awaited_of` meets its contract: by the tests of the code's number.
-- Assumes nothing.
use borrow.Author.Tests.{eq-eqb, ne_eqb}
use mathlib.Core.Path.{sym, ◌∙◌}
use native.Mathlib.Omega.{arith}
use Rattle.basics.proofs.Laws.{if_yes, if_no}
use Rattle.layout.specs.Layout.{awaited_of_phase_fields}
use Rattle.layout.proofs.awaited_of.Goals as goal

pub returns-in-1 : goal.returns-in-1
unfolding awaited_of_phase_fields
returns-in-1 c = sym (if_yes _ _ (eq-eqb _ _ c.in-1.is))

pub returns-in-2 : goal.returns-in-2
unfolding awaited_of_phase_fields
returns-in-2 c = sym (if_no _ _ (ne_eqb _ _ (omega (arith, c.in-2.is))) ∙ if_yes _ _ (eq-eqb _ _ c.in-2.is))

pub returns-in-3 : goal.returns-in-3
unfolding awaited_of_phase_fields
returns-in-3 c =
    rw (c.choice_from.ensures, c.cvm_from.ensures)
    (sym (if_no _ _ (ne_eqb _ _ (omega (arith, c.in-3.is))) ∙ (if_no _ _ (ne_eqb _ _ (omega (arith, c.in-3.is)))
    ∙ if_yes _ _ (eq-eqb _ _ c.in-3.is))))

pub returns-in_default : goal.returns-in_default
unfolding awaited_of_phase_fields
returns-in_default c =
    sym (if_no _ _ (ne_eqb _ _ (omega arith)) ∙ (if_no _ _ (ne_eqb _ _ (omega arith))
    ∙ if_no _ _ (ne_eqb _ _ (omega arith))))
