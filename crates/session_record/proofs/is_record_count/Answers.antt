-- `session_record::is_record_count` meets its contract: by the records of the stored AFL.
-- Assumes nothing.
use native.Mathlib.Omega.{arith}
use Rattle.basics.specs.Choice.{if, both}
use Rattle.session_record.specs.Inner.{record_count_of_stored_afl}
use Rattle.session_record.proofs.is_record_count.Goals as goal

pub returns-in_default : goal.returns-in_default
unfolding record_count_of_stored_afl if both
returns-in_default c = grind arith

pub returns-then-k-records : goal.returns-then-k-records
unfolding record_count_of_stored_afl if both
returns-then-k-records c = grind arith

pub returns-else-k-records : goal.returns-else-k-records
unfolding record_count_of_stored_afl if both
returns-else-k-records c = grind arith
