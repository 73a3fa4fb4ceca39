-- `explain::pair_at` meets its contract: stage by stage. Assumes nothing.
use native.Mathlib.Omega.{arith}
use Rattle.explain.specs.Explain.{action_codes_of_stage}
use Rattle.explain.proofs.pair_at.Goals as goal

pub returns-in-Denial : goal.returns-in-Denial
unfolding action_codes_of_stage
returns-in-Denial c = grind arith

pub returns-in-OnlineOnly : goal.returns-in-OnlineOnly
unfolding action_codes_of_stage
returns-in-OnlineOnly c = grind arith

pub returns-in-Default : goal.returns-in-Default
unfolding action_codes_of_stage
returns-in-Default c = grind arith

pub returns-in-Online : goal.returns-in-Online
unfolding action_codes_of_stage
returns-in-Online c = grind arith
