-- `session_record::is_mag_stripe_mode` meets its contract: b8 of a byte is its weight 128.
-- Assumes nothing.
use native.Mathlib.Omega.{arith}
use Rattle.basics.specs.Choice.{both}
use Rattle.dictionary.proofs.Named.{at_82, at_df811b}
use Rattle.session_record.proofs.Tags.{value-is, bytes_are}
use Rattle.session_record.proofs.is_mag_stripe_mode.Goals as goal

pub returns-then-not-is_emv_mode : goal.returns-then-not-is_emv_mode
unfolding both
returns-then-not-is_emv_mode c = let b = c.args.bytes.now in grind (arith, value-is b _ _ at_82, bytes_are b _ _ at_df811b)

pub returns-else-not-is_emv_mode : goal.returns-else-not-is_emv_mode
unfolding both
returns-else-not-is_emv_mode c = let b = c.args.bytes.now in grind (arith, value-is b _ _ at_82, bytes_are b _ _ at_df811b)
