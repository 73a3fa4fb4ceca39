-- `placements::is_number_of` meets its contract: the lower bound first.
-- Assumes nothing.
use mathlib.Core.Path.{sym, ◌∙◌}
use borrow.Author.Tests.{le-leb, lt-leb}
use native.Mathlib.Omega.{arith}
use Rattle.basics.proofs.Laws.{both_true, both_no_left}
use Rattle.personalise.proofs.placements.is_number_of.Goals as goal

pub returns-then-number-ge1 : goal.returns-then-number-ge1
returns-then-number-ge1 c = sym (both_true _ (le-leb 1 _ c.if-number-ge1.true))

pub returns-else-number-ge1 : goal.returns-else-number-ge1
returns-else-number-ge1 c = let e = lt-leb 1 c.args.number (omega arith) in e ∙ sym (both_no_left _ _ e)
