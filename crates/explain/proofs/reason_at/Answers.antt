-- `explain::reason_at` meets its contract: the lowest bit that the stage's codes hold, which is below 40, or none. Assumes nothing.
use native.Mathlib.Omega.{arith}
use Rattle.explain.proofs.Laws.{bit_within}
use Rattle.explain.specs.Explain.{explanation_at_stage}
use Rattle.explain.proofs.reason_at.Goals as goal

pub returns-in_default : goal.returns-in_default
unfolding explanation_at_stage
returns-in_default c = grind arith

pub overflow_cast-bit : goal.overflow_cast-bit
overflow_cast-bit c = omega (arith, bit_within _ _ c.lowest_tvr_bit_in_codes.ensures c.in-Some.is)

pub returns : goal.returns
unfolding explanation_at_stage
returns c = grind arith
