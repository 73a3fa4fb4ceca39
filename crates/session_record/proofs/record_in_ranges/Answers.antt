-- `session_record::record_in_ranges` meets its contract: clause by clause.
-- Assumes nothing.
use native.Mathlib.Omega.{arith}
use Rattle.basics.specs.Choice.{both}
use Rattle.dictionary.proofs.Named.{at_95}
use Rattle.session_record.specs.Ranges.{in_record_ranges}
use Rattle.session_record.proofs.Tags.{bytes_are}
use Rattle.session_record.proofs.record_in_ranges.Goals as goal

pub returns-then-place-transaction_limit : goal.returns-then-place-transaction_limit
unfolding in_record_ranges both
returns-then-place-transaction_limit c = let b = c.args.bytes.now in grind (arith, bytes_are b _ _ at_95)

pub returns-else-place-transaction_limit : goal.returns-else-place-transaction_limit
unfolding in_record_ranges both
returns-else-place-transaction_limit c = let b = c.args.bytes.now in grind (arith, bytes_are b _ _ at_95)
