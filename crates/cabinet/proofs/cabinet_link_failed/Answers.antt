-- `cabinet::cabinet_link_failed` meets its contract: `perform`'s, with the step that the closure takes.
-- Assumes nothing.
use borrow.Author.Rules.{rules}
use Rattle.session.specs.Steps.{link_failed_step}
use Rattle.session.proofs.Laws.{admitted_ranges}
use Rattle.step_laws.proofs.EveryCall.{link_came, refused_nothing}
use Rattle.cabinet.proofs.cabinet_link_failed.Goals as goal

pub returns : goal.returns
returns c =
    c.perform.ensures link_failed_step
    (record { ranges = λ s b h e. admitted_ranges s b _ h e; refusal = λ s b. refused_nothing (link_came s b) })
    (search rules)
