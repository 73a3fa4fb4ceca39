-- `explain::holder_of` meets its contract: by the bit in each code. Assumes nothing.
use native.Mathlib.Omega.{arith}
use Rattle.explain.specs.Explain.{action_code_holder_of_bit}
use Rattle.explain.proofs.holder_of.Goals as goal

pub returns : goal.returns
unfolding action_code_holder_of_bit
returns c = grind arith
