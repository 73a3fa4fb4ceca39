-- `entries::is_apart` meets its contract: the test at each entry before.
-- Assumes nothing.
use mathlib.Core.Path.{refl, ◌∙◌}
use borrow.Author.Rules.{rules}
use borrow.Author.Tests.{tests}
use mathlib.Core.Bool.{not}
use Rattle.std.proofs.lemmas.Iterator.Consumers.{YieldsList-from_first}
use Rattle.std.proofs.lemmas.Iterator.Search.{all_from_yields_List}
use Rattle.afl.specs.Records.{afl_entries}
use Rattle.personalise.specs.Entries.{entries_overlap}
use Rattle.personalise.proofs.Proposed.{apart_is}
use Rattle.personalise.proofs.entries.is_apart.Goals as goal

pub returns : goal.returns
returns c =
    all_from_yields_List (λ f. not (entries_overlap f c.args.e)) c.all.new.self _ _ c.all.ensures.ran
    (YieldsList-from_first (λ x. x) (λ s. afl_entries s.0.now) {s = record { 0 = c.args.before }} _ refl)
    (λ x b q k. search (rules, tests))
    ∙ apart_is (afl_entries c.args.before.now) c.args.e
