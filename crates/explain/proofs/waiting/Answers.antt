-- `explain::waiting` meets its contract: the stage, and then the two choices by their P1. Assumes nothing.
use native.Mathlib.Omega.{arith}
use Rattle.basics.specs.Choice.{if}
use Rattle.explain.proofs.waiting.Goals as goal

pub returns-then-generate_ac_p1 : goal.returns-then-generate_ac_p1
unfolding if
returns-then-generate_ac_p1 c = grind arith

pub returns : goal.returns
unfolding if
returns c = grind arith
