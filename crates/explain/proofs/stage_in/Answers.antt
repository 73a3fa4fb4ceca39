-- `explain::stage_in` meets its contract: denial where it holds a bit, else by the type. Assumes nothing.
use native.Mathlib.Omega.{arith}
use Rattle.analysis.specs.Choice.{some_tvr_bit_in_codes_of_stage}
use Rattle.explain.specs.Explain.{deciding_stage_in, action_codes_of_stage}
use Rattle.explain.proofs.stage_in.Goals as goal

pub returns-then-is_some : goal.returns-then-is_some
unfolding deciding_stage_in action_codes_of_stage some_tvr_bit_in_codes_of_stage
returns-then-is_some c = grind arith

pub returns-in-OnlineOnly : goal.returns-in-OnlineOnly
unfolding deciding_stage_in action_codes_of_stage some_tvr_bit_in_codes_of_stage
returns-in-OnlineOnly c = grind arith

pub returns-in-OfflineOnly : goal.returns-in-OfflineOnly
unfolding deciding_stage_in action_codes_of_stage some_tvr_bit_in_codes_of_stage
returns-in-OfflineOnly c = grind arith

pub returns-in-OnlineCapable : goal.returns-in-OnlineCapable
unfolding deciding_stage_in action_codes_of_stage some_tvr_bit_in_codes_of_stage
returns-in-OnlineCapable c = grind arith

pub returns-in-Unlisted : goal.returns-in-Unlisted
unfolding deciding_stage_in action_codes_of_stage some_tvr_bit_in_codes_of_stage
returns-in-Unlisted c = grind arith
