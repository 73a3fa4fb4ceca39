-- `session_record::gpo_in_ranges` meets its contract: clause by clause.
-- Assumes nothing.
use native.Mathlib.Omega.{arith}
use Rattle.basics.specs.Choice.{both}
use Rattle.dictionary.proofs.Named.{at_82, at_94, at_95}
use Rattle.session_record.specs.Ranges.{in_gpo_ranges}
use Rattle.session_record.proofs.Tags.{value-is, bytes_are}
use Rattle.session_record.proofs.gpo_in_ranges.Goals as goal

pub returns-then-all_zero : goal.returns-then-all_zero
unfolding in_gpo_ranges both
returns-then-all_zero c = let b = c.args.bytes.now in grind (arith, value-is b _ _ at_82, value-is b _ _ at_94, bytes_are b _ _ at_95)

pub returns-else-all_zero : goal.returns-else-all_zero
unfolding in_gpo_ranges both
returns-else-all_zero c = let b = c.args.bytes.now in grind (arith, value-is b _ _ at_82, value-is b _ _ at_94, bytes_are b _ _ at_95)
