-- `session_record::is_emv_or_mag_stripe_mode` meets its contract: either of the two.
-- Assumes nothing.
use native.Mathlib.Omega.{arith}
use Rattle.basics.specs.Choice.{either}
use Rattle.session_record.proofs.is_emv_or_mag_stripe_mode.Goals as goal

pub returns-then-is_emv_mode : goal.returns-then-is_emv_mode
unfolding either
returns-then-is_emv_mode c = grind arith

pub returns-else-is_emv_mode : goal.returns-else-is_emv_mode
unfolding either
returns-else-is_emv_mode c = grind arith
