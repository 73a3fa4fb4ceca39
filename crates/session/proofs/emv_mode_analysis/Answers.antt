-- `session::emv_mode_analysis` meets its contract: two tests in turn.
-- Assumes nothing.
use native.Mathlib.Omega.{arith}
use Rattle.basics.specs.Choice.{if}
use Rattle.session.specs.Answer.{next_after_records_in_emv_mode}
use Rattle.session.proofs.emv_mode_analysis.Goals as goal

pub returns-in_default : goal.returns-in_default
unfolding next_after_records_in_emv_mode if
returns-in_default c = grind arith

pub returns-in_default-expiry_pan_and_cdol1_non_empty : goal.returns-in_default-expiry_pan_and_cdol1_non_empty
unfolding next_after_records_in_emv_mode if
returns-in_default-expiry_pan_and_cdol1_non_empty c = grind arith

pub returns : goal.returns
unfolding next_after_records_in_emv_mode if
returns c = grind arith
