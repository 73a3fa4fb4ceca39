-- `test_journal::word` meets its contract: by the verdict.
-- Assumes nothing.
use mathlib.Core.Path.{sym, ap}
use Rattle.test_journal.specs.Word.{verdict_word}
use Rattle.test_journal.proofs.word.Goals as goal

pub returns-in-Accepted : goal.returns-in-Accepted
returns-in-Accepted c = sym (ap verdict_word c.in-Accepted.is)

pub returns-in-Mismatch : goal.returns-in-Mismatch
returns-in-Mismatch c = sym (ap verdict_word c.in-Mismatch.is)

pub returns-in-Truncated : goal.returns-in-Truncated
returns-in-Truncated c = sym (ap verdict_word c.in-Truncated.is)
