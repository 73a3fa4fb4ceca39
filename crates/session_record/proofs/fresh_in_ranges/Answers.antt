-- `session_record::fresh_in_ranges` meets its contract: the count, then the bytes; where all are zero, every
-- object fits.
-- Assumes nothing.
use native.Mathlib.Omega.{arith}
use Rattle.basics.specs.Choice.{both}
use Rattle.session_record.specs.Ranges.{in_fresh_ranges}
use Rattle.session_record.proofs.Tests.{both_implied}
use Rattle.session_record.proofs.Stored.{zeros_fit}
use Rattle.session_record.proofs.fresh_in_ranges.Goals as goal

pub returns-then-count-eq0 : goal.returns-then-count-eq0
unfolding in_fresh_ranges both
returns-then-count-eq0 c =
    let implied = both_implied _ _ (zeros_fit c.args.bytes.now (omega arith)) in
    grind (arith, implied)

pub returns-else-count-eq0 : goal.returns-else-count-eq0
unfolding in_fresh_ranges both
returns-else-count-eq0 c = grind arith
