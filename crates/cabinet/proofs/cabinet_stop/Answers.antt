-- `cabinet::cabinet_stop` meets its contract: `perform`'s, with the step that the closure takes.
-- Assumes nothing.
use borrow.Author.Rules.{rules}
use Rattle.session.specs.Steps.{stop_step}
use Rattle.session.proofs.Laws.{admitted_ranges}
use Rattle.step_laws.proofs.EveryCall.{stop_came, refused_nothing}
use Rattle.cabinet.proofs.cabinet_stop.Goals as goal

pub returns : goal.returns
returns c =
    c.perform.ensures stop_step
    (record { ranges = λ s b h e. admitted_ranges s b _ h e; refusal = λ s b. refused_nothing (stop_came s b) })
    (search rules)
