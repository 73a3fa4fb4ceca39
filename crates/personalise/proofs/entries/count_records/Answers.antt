-- `entries::count_records` meets its contract: the sum of the entries' counts, each at most 256.
-- Assumes nothing.
use mathlib.Core.Path.{ap, ◌∙◌}
use native.Mathlib.Omega.{arith}
use borrow.Author.Rules.{rules}
use Rattle.std.proofs.lemmas.Iterator.{YieldsList-from_map}
use Rattle.std.proofs.lemmas.Iterator.Consumers.{YieldsList-from_first, sum_by_from_yields_List, fits_by_from_yields_list}
use Rattle.afl.specs.Entry.{entry_record_count}
use Rattle.afl.specs.Records.{afl_entries}
use Rattle.personalise.proofs.Proposed.{total_is, total_bound}
use Rattle.personalise.proofs.entries.count_records.Goals as goal

pub sum-requires-clause-fits : goal.sum-requires-clause-fits
sum-requires-clause-fits c =
    let b = total_bound c.args.entries.now (λ i. omega (arith, c.type_inv.entries i)) in
    let t = total_is c.args.entries.now in
    fits_by_from_yields_list entry_record_count (afl_entries c.args.entries.now) c.map.result _
    (YieldsList-from_map _ entry_record_count
    (YieldsList-from_first (λ x. x) (λ s. afl_entries s.0.now) {s = c.map.result.iter} (afl_entries c.args.entries.now)
    (ap (λ s. afl_entries s.0.now) c.map.ensures.source))
    c.map.ensures.closure (λ x r q k. search rules)) (omega arith)

pub returns : goal.returns
returns c =
    let b = total_bound c.args.entries.now (λ i. omega (arith, c.type_inv.entries i)) in
    let e = sum_by_from_yields_List entry_record_count (afl_entries c.args.entries.now) c.map.result _ c.sum.ensures.ran
    (YieldsList-from_map _ entry_record_count
    (YieldsList-from_first (λ x. x) (λ s. afl_entries s.0.now) {s = c.map.result.iter} (afl_entries c.args.entries.now)
    (ap (λ s. afl_entries s.0.now) c.map.ensures.source))
    c.map.ensures.closure (λ x r q k. search rules)) ∙ total_is c.args.entries.now in (e, omega arith)
