-- `choice::byte_bit` meets its contract: a zero byte holds nothing (`zero_byte`), and what `find` gives is the lowest bit
-- that is held (`lowest_first`).
-- Assumes nothing.
use Rattle.std.proofs.Common.{◌≡◌, true, false, ℕ, rules}
use borrow.Author.Tests.{tests}
use mathlib.Core.Path.{sym, ap, ◌∙◌}
use Rattle.std.proofs.lemmas.Iterator.{first_from_Range}
use Rattle.analysis.specs.Choice.{lowest_bit_from_start_within_count}
use Rattle.analysis.specs.Inner.{tvr_byte_bit_in_codes}
use Rattle.analysis.proofs.Lowest.{lowest_first}
use Rattle.analysis.proofs.Stages.{zero_byte}
use Rattle.analysis.proofs.choice.byte_bit.Goals as goal

pub returns-then-res-eq0 : goal.returns-then-res-eq0
returns-then-res-eq0 c =
    sym (ap (λ (x : ℕ). lowest_bit_from_start_within_count (tvr_byte_bit_in_codes x c.args.card c.args.terminal) 0 8)
    c.if-res-eq0.true ∙ zero_byte c.args.card c.args.terminal)

pub returns : goal.returns
returns c =
    let f : ℕ → _ = tvr_byte_bit_in_codes c.args.res c.args.card c.args.terminal in
    lowest_first f 8 _
    (first_from_Range _ _ _ _ (λ k. f k ≡ true) (λ k. f k ≡ false) c.find.ensures.ran (λ x q k. search (rules, tests))
    (λ x q k. search (rules, tests)))
