-- `cabinet::cabinet_answer` meets its contract: `perform`'s, with the step that the closure takes.
-- Assumes nothing.
use borrow.Author.Rules.{rules}
use Rattle.session.specs.Answer.{answer_step}
use Rattle.session.proofs.Laws.{admitted_ranges}
use Rattle.step_laws.proofs.EveryCall.{answer_came, refused_nothing}
use Rattle.cabinet.proofs.cabinet_answer.Goals as goal

pub returns : goal.returns
returns c =
    c.perform.ensures (λ s b. answer_step s c.args.card.now b)
    (record { ranges = λ s b h e. admitted_ranges s b _ h e; refusal = λ s b. refused_nothing (answer_came s c.args.card.now b) })
    (search rules)
