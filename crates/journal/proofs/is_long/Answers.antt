-- `journal::is_long` meets its contract: the length, then the body.
-- Assumes nothing.
use mathlib.Core.Path.{sym, ◌∙◌}
use borrow.Author.Tests.{ne_eqb}
use Rattle.journal.proofs.Reading.{long_no, long_tail}
use Rattle.journal.proofs.is_long.Goals as goal

pub returns-then-length_in-eq65535 : goal.returns-then-length_in-eq65535
returns-then-length_in-eq65535 c = c.is_zero.ensures ∙ long_tail _ (sym c.length_in.ensures.0 ∙ c.if-length_in-eq65535.true)

pub returns-else-length_in-eq65535 : goal.returns-else-length_in-eq65535
returns-else-length_in-eq65535 c = ne_eqb _ _ c.if-length_in-eq65535.false ∙ sym (long_no _ (λ z. c.if-length_in-eq65535.false (c.length_in.ensures.0 ∙ z)))
