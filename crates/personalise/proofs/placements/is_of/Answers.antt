-- Assumes nothing.
use mathlib.Core.Path.{sym, ◌∙◌}
use borrow.Author.Tests.{eq-eqb, ne_eqb}
use Rattle.basics.proofs.Laws.{both_true, both_no_left}
use Rattle.personalise.proofs.placements.is_of.Goals as goal

pub returns-then-from-into : goal.returns-then-from-into
returns-then-from-into c = rw c.from-then-from-into.ensures (sym (both_true _ (eq-eqb _ _ (sym c.from.ensures ∙ c.if-from-into.true))))

pub returns-else-from-into : goal.returns-else-from-into
returns-else-from-into c = ne_eqb _ _ c.if-from-into.false ∙ sym (both_no_left _ _ (ne_eqb _ _ (λ e. c.if-from-into.false (c.from.ensures ∙ e))))
