-- `text_line::count_of` meets its contract. By the test for a problem.
-- Assumes nothing.
use mathlib.Core.Path.{sym}
use borrow.Author.Tests.{eq-eqb, ne_eqb}
use Rattle.basics.proofs.Laws.{if_yes, if_no}
use Rattle.text_line.specs.Inner.{hex_decoded_count}
use Rattle.text_line.proofs.count_of.Goals as goal

pub returns-then-d-eq0 : goal.returns-then-d-eq0
unfolding hex_decoded_count
returns-then-d-eq0 c = sym (if_yes _ _ (eq-eqb _ _ c.if-d-eq0.true))

pub returns-else-d-eq0 : goal.returns-else-d-eq0
unfolding hex_decoded_count
returns-else-d-eq0 c = sym (if_no _ _ (ne_eqb _ _ c.if-d-eq0.false))
