-- `explain::deciding_in` meets its contract: the stage, and then what it needs. Assumes nothing.
use native.Mathlib.Omega.{arith}
use Rattle.basics.specs.Choice.{if}
use Rattle.explain.specs.Explain.{deciding_stage_if_its_data_present}
use Rattle.explain.proofs.deciding_in.Goals as goal

pub returns-in_err-stage : goal.returns-in_err-stage
unfolding deciding_stage_if_its_data_present if
returns-in_err-stage c = grind arith

pub returns : goal.returns
unfolding deciding_stage_if_its_data_present if
returns c = grind arith
