-- `session_record::ends_session` meets its contract: 1 to 11, and not 6.
-- Assumes nothing.
use native.Mathlib.Omega.{arith}
use Rattle.session_record.specs.Numbers.{reason_matches_outcome}
use Rattle.basics.specs.Choice.{both}
use Rattle.session_record.proofs.ends_session.Goals as goal

pub returns-then-reason-le-REASON_MODE : goal.returns-then-reason-le-REASON_MODE
unfolding reason_matches_outcome both
returns-then-reason-le-REASON_MODE c = grind arith

pub returns-else-reason-le-REASON_MODE : goal.returns-else-reason-le-REASON_MODE
unfolding reason_matches_outcome both
returns-else-reason-le-REASON_MODE c = grind arith
