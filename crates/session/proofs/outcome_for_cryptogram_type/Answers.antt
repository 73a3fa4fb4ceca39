-- `session::outcome_for_cryptogram_type` meets its contract: type by type, and then by what was requested.
-- Assumes nothing.
use native.Mathlib.Omega.{arith}
use Rattle.basics.specs.Choice.{if}
use Rattle.session.specs.Answer.{outcome_for_cryptogram_type}
use Rattle.session.proofs.outcome_for_cryptogram_type.Goals as goal

pub returns-in-0-default : goal.returns-in-0-default
unfolding outcome_for_cryptogram_type if
returns-in-0-default c = grind arith

pub returns-in-2-Online : goal.returns-in-2-Online
unfolding outcome_for_cryptogram_type if
returns-in-2-Online c = grind arith

pub returns-in-1-Offline : goal.returns-in-1-Offline
unfolding outcome_for_cryptogram_type if
returns-in-1-Offline c = grind arith

pub returns-in_default : goal.returns-in_default
unfolding outcome_for_cryptogram_type if
returns-in_default c = grind arith

pub returns-in_default-2 : goal.returns-in_default-2
unfolding outcome_for_cryptogram_type if
returns-in_default-2 c = grind arith

pub returns-in_default-3 : goal.returns-in_default-3
unfolding outcome_for_cryptogram_type if
returns-in_default-3 c = grind (arith, c.in_default.is-0)
