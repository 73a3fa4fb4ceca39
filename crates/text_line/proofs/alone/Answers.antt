-- `text_line::alone` meets its contract. By what is left past the blanks.
-- Assumes nothing.
use mathlib.Core.Path.{sym}
use borrow.Author.Tests.{eq-eqb, ne_eqb}
use Rattle.basics.proofs.Laws.{if_yes, if_no}
use Rattle.text_line.specs.Line.{line_if_only_blanks_follow}
use Rattle.text_line.proofs.alone.Goals as goal

pub returns-then-past_blanks-eq0 : goal.returns-then-past_blanks-eq0
unfolding line_if_only_blanks_follow
returns-then-past_blanks-eq0 c = sym (rw (← c.past_blanks.ensures) (if_yes _ _ (eq-eqb _ _ c.if-past_blanks-eq0.true)))

pub returns-else-past_blanks-eq0 : goal.returns-else-past_blanks-eq0
unfolding line_if_only_blanks_follow
returns-else-past_blanks-eq0 c = sym (rw (← c.past_blanks.ensures) (if_no _ _ (ne_eqb _ _ c.if-past_blanks-eq0.false)))
