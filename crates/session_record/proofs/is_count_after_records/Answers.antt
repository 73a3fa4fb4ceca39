-- `session_record::is_count_after_records` meets its contract: by the records of the stored AFL.
-- Assumes nothing.
use native.Mathlib.Omega.{arith}
use Rattle.basics.specs.Choice.{if, both}
use Rattle.session_record.specs.Inner.{record_count_of_stored_afl}
use Rattle.session_record.proofs.is_count_after_records.Goals as goal

pub returns-in_default : goal.returns-in_default
unfolding record_count_of_stored_afl if both
returns-in_default c = grind arith

pub returns-then-n-ge2 : goal.returns-then-n-ge2
unfolding record_count_of_stored_afl if both
returns-then-n-ge2 c = grind arith

pub returns-else-n-ge2 : goal.returns-else-n-ge2
unfolding record_count_of_stored_afl if both
returns-else-n-ge2 c = grind arith
