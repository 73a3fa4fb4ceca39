-- `session::take_gpo` meets its contract: the reading is accepted or not, and each has its law.
-- Assumes nothing.
use Rattle.reading.specs.declared.Awaited.{Awaited}
use Rattle.analysis.specs.Cvm.{cvm_number_not_applicable}
use Rattle.session.specs.Answer.{next_after_gpo_read, next_on_gpo_response}
use Rattle.session.proofs.Laws.{did_next, did_end, read_goes, read_ends}
use Rattle.session.proofs.take_gpo.Goals as goal

pub returns-in_default : goal.returns-in_default
unfolding next_on_gpo_response
returns-in_default c =
    let a = c.args in
    did_end c.fail_reading.ensures
    (read_ends Awaited.Gpo cvm_number_not_applicable a.store.now a.card.now next_after_gpo_read
    c.read_answer-verdict.ensures.given c.in_default.not-Accepted)

pub returns : goal.returns
unfolding next_on_gpo_response
returns c =
    let a =
    c.args in
    did_next
    (read_goes Awaited.Gpo cvm_number_not_applicable a.store.now a.card.now next_after_gpo_read
    c.read_answer-verdict.ensures.given
    c.in-Accepted.is)
    c.after_gpo.ensures
