-- `explain::cryptogram_rank` meets its contract: number by number. Assumes nothing.
use native.Mathlib.Omega.{arith}
use Rattle.basics.specs.Choice.{if}
use Rattle.explain.specs.Explain.{rank_of_cryptogram_type}
use Rattle.explain.proofs.cryptogram_rank.Goals as goal

pub returns-in-1 : goal.returns-in-1
unfolding rank_of_cryptogram_type if
returns-in-1 c = grind arith

pub returns-in-2 : goal.returns-in-2
unfolding rank_of_cryptogram_type if
returns-in-2 c = grind arith

pub returns-in_default : goal.returns-in_default
unfolding rank_of_cryptogram_type if
returns-in_default c = grind arith
