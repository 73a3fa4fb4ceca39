-- `placements::is_placed` meets its contract: the test at each placement.
-- Assumes nothing.
use mathlib.Core.Path.{refl, ◌∙◌}
use borrow.Author.Rules.{rules}
use Rattle.std.proofs.lemmas.Iterator.Consumers.{YieldsList-from_first}
use Rattle.std.proofs.lemmas.Iterator.Search.{any_from_yields_List}
use Rattle.personalise.specs.Placements.{placements_in, puts_object_into}
use Rattle.personalise.proofs.Placed.{any_is}
use Rattle.personalise.proofs.placements.is_placed.Goals as goal

pub returns : goal.returns
returns c =
    any_from_yields_List (puts_object_into c.args.into c.args.object) c.any.new.self _ _ c.any.ensures.ran
    (YieldsList-from_first (λ x. x) (λ s. placements_in s.0.now) {s = record { 0 = c.args.placements }} _ refl) (λ x b q k. search rules)
    ∙ any_is _ (placements_in c.args.placements.now)
