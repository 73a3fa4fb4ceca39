-- `session::take_cryptogram` meets its contract: the reading is accepted or not, and each has its law.
-- Assumes nothing.
use mathlib.Core.Path.{ap, ◌∙◌}
use Rattle.reading.specs.declared.Awaited.{Awaited}
use Rattle.reading.specs.Answer.{verdict_number}
use Rattle.analysis.specs.Cvm.{cvm_number}
use Rattle.session_record.specs.Session.{ending_for_reason}
use Rattle.session.specs.declared.NextStep.{NextStep}
use Rattle.session.specs.Answer.{next_after_cryptogram_read, next_on_cryptogram_response}
use Rattle.session.proofs.Laws.{did_next, did_end, read_goes, read_ends}
use Rattle.session.proofs.take_cryptogram.Goals as goal

pub returns-in_default : goal.returns-in_default
unfolding next_on_cryptogram_response
returns-in_default c buf =
    let a = c.args in
    did_end (c.fail_reading.ensures ∙ ap (NextStep.End (ending_for_reason (verdict_number c.read_answer-verdict.result.verdict))) c.cvm_number.ensures)
    (read_ends Awaited.Cryptogram (cvm_number a.asked.cvm) a.store.now a.card.now
    (next_after_cryptogram_read a.asked) c.read_answer-verdict.ensures.given
    c.in_default.not-Accepted)

pub returns : goal.returns
unfolding next_on_cryptogram_response
returns c buf =
    let a = c.args in
    did_next
    (read_goes Awaited.Cryptogram (cvm_number a.asked.cvm) a.store.now a.card.now
    (next_after_cryptogram_read a.asked) c.read_answer-verdict.ensures.given
    c.in-Accepted.is)
    (c.cryptogram_outcome.ensures buf)
