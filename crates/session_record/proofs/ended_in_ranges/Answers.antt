-- `session_record::ended_in_ranges` meets its contract: the objects, the count, the reason.
-- Assumes nothing.
use native.Mathlib.Omega.{arith}
use Rattle.basics.specs.Choice.{both, either}
use Rattle.session_record.specs.Ranges.{in_ended_ranges}
use Rattle.session_record.proofs.ended_in_ranges.Goals as goal

pub returns-then-count-le-MOST : goal.returns-then-count-le-MOST
unfolding in_ended_ranges both either
returns-then-count-le-MOST c = grind arith

pub returns-else-count-le-MOST : goal.returns-else-count-le-MOST
unfolding in_ended_ranges both either
returns-else-count-le-MOST c = grind arith
