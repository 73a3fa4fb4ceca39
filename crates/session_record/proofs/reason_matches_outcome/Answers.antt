-- `session_record::reason_matches_outcome` meets its contract: case by case.
-- Assumes nothing.
use native.Mathlib.Omega.{arith}
use Rattle.session_record.specs.Numbers.{reason_matches_outcome}
use Rattle.session_record.proofs.reason_matches_outcome.Goals as goal

pub returns-in-Approved : goal.returns-in-Approved
unfolding reason_matches_outcome
returns-in-Approved c = grind arith

pub returns-in-OnlineRequest : goal.returns-in-OnlineRequest
unfolding reason_matches_outcome
returns-in-OnlineRequest c = grind arith

pub returns-in-Declined : goal.returns-in-Declined
unfolding reason_matches_outcome
returns-in-Declined c = grind arith

pub returns-in-SelectNext : goal.returns-in-SelectNext
unfolding reason_matches_outcome
returns-in-SelectNext c = grind arith
