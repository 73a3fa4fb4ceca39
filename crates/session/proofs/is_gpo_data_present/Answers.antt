-- `session::is_gpo_data_present` meets its contract: each row is one tag.
-- Assumes nothing.
use native.Mathlib.Omega.{arith}
use Rattle.basics.specs.Choice.{both}
use Rattle.dictionary.proofs.Named.{at_82, at_94}
use Rattle.session_record.proofs.Tags.{value-is}
use Rattle.session.proofs.is_gpo_data_present.Goals as goal

pub returns-then-is_present : goal.returns-then-is_present
unfolding both
returns-then-is_present c = let b = c.args.bytes.now in grind (arith, value-is b _ _ at_82, value-is b _ _ at_94)

pub returns-else-is_present : goal.returns-else-is_present
unfolding both
returns-else-is_present c = let b = c.args.bytes.now in grind (arith, value-is b _ _ at_82)
