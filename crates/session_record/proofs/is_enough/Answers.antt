-- `session_record::is_enough` meets its contract: by whether it is asked.
-- Assumes nothing.
use native.Mathlib.Omega.{arith}
use Rattle.basics.specs.Choice.{either}
use Rattle.session_record.proofs.is_enough.Goals as goal

pub returns-then-not-asked : goal.returns-then-not-asked
unfolding either
returns-then-not-asked c = grind arith

pub returns-else-not-asked : goal.returns-else-not-asked
unfolding either
returns-else-not-asked c = grind arith
