-- `explain::ended_by` meets its contract: by the reason, and then by the mode. Assumes nothing.
use native.Mathlib.Omega.{arith}
use Rattle.basics.specs.Choice.{both, if}
use Rattle.explain.specs.Explain.{explanation_of_ending_by_mode}
use Rattle.explain.proofs.ended_by.Goals as goal

pub returns-then-card_asks_mag_stripe : goal.returns-then-card_asks_mag_stripe
unfolding explanation_of_ending_by_mode both if
returns-then-card_asks_mag_stripe c = grind arith

pub returns : goal.returns
unfolding explanation_of_ending_by_mode both if
returns c = grind arith
