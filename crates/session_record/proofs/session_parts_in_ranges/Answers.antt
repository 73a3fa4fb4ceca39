-- `session_record::session_parts_in_ranges` meets its contract: the store's size, then what the phase keeps, the stored
-- objects among it.
-- Assumes nothing.
use native.Mathlib.Omega.{arith}
use Rattle.basics.specs.Choice.{both}
use Rattle.session_record.specs.Ranges.{session_record_in_ranges}
use Rattle.session_record.proofs.session_parts_in_ranges.Goals as goal

pub returns-in_default : goal.returns-in_default
unfolding session_record_in_ranges both
returns-in_default c = grind (arith, c.in_default.ensures.cases)

pub returns-in-Fresh : goal.returns-in-Fresh
unfolding session_record_in_ranges both
returns-in-Fresh c = grind (arith, c.in-Some.ensures.cases)

pub returns-in-Waiting : goal.returns-in-Waiting
unfolding session_record_in_ranges both
returns-in-Waiting c = grind (arith, c.in-Some.ensures.cases)

pub returns-in-Ended : goal.returns-in-Ended
unfolding session_record_in_ranges both
returns-in-Ended c = grind (arith, c.in-Some.ensures.cases)
