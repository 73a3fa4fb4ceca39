-- `session::mag_stripe_checks` meets its contract: two tests in turn.
-- Assumes nothing.
use native.Mathlib.Omega.{arith}
use Rattle.basics.specs.Choice.{if}
use Rattle.session.specs.MagStripe.{next_after_records_in_mag_stripe_mode}
use Rattle.session.proofs.mag_stripe_checks.Goals as goal

pub returns-in_default : goal.returns-in_default
unfolding next_after_records_in_mag_stripe_mode if
returns-in_default c = grind arith

pub returns-in_default-track2_and_bitmaps_non_empty : goal.returns-in_default-track2_and_bitmaps_non_empty
unfolding next_after_records_in_mag_stripe_mode if
returns-in_default-track2_and_bitmaps_non_empty c = grind arith

pub returns : goal.returns
unfolding next_after_records_in_mag_stripe_mode if
returns c = grind arith
