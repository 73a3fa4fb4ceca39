-- `placements::count_named` meets its contract: how many placements pass the test.
-- Assumes nothing.
use mathlib.Core.Path.{ap, ◌∙◌}
use mathlib.Core.Logic.{inl}
use native.Mathlib.Omega.{arith}
use borrow.Author.Rules.{rules}
use borrow.Author.Tests.{tests}
use lib.ListN.{length}
use Rattle.std.proofs.lemmas.Iterator.Consumers.{YieldsList-from_first, YieldsList-from_filter, count_from_yields_List}
use Rattle.personalise.specs.Placements.{placements_in, places_object_number}
use Rattle.personalise.proofs.Placed.{placements_most, count_is}
use Rattle.personalise.proofs.placements.count_named.Goals as goal

pub count-requires-clause-fits : goal.count-requires-clause-fits
count-requires-clause-fits c =
    let m = placements_most c.args.placements.now in
    let e = ap (λ s. length (placements_in s.0.now)) c.filter.ensures.source in
    inl (omega arith)

pub returns : goal.returns
returns c =
    count_from_yields_List c.filter.result _ c.count.ensures.ran
    (YieldsList-from_filter _ (places_object_number c.args.object)
    (YieldsList-from_first (λ x. x) (λ s. placements_in s.0.now) {s = c.filter.result.iter} (placements_in c.args.placements.now)
    (ap (λ s. placements_in s.0.now) c.filter.ensures.source))
    c.filter.ensures.closure (λ x r q k. search (rules, tests)))
    ∙ count_is _ (placements_in c.args.placements.now)
