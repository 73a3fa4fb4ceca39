-- `session_record::checksum_in_ranges` meets its contract: clause by clause.
-- Assumes nothing.
use native.Mathlib.Omega.{arith}
use Rattle.basics.specs.Choice.{both}
use Rattle.dictionary.proofs.Named.{at_95}
use Rattle.session_record.specs.Ranges.{in_checksum_ranges}
use Rattle.session_record.proofs.Tags.{bytes_are}
use Rattle.session_record.proofs.checksum_in_ranges.Goals as goal

pub returns-then-checksum-transaction_limit : goal.returns-then-checksum-transaction_limit
unfolding in_checksum_ranges both
returns-then-checksum-transaction_limit c = let b = c.args.bytes.now in grind (arith, bytes_are b _ _ at_95)

pub returns-else-checksum-transaction_limit : goal.returns-else-checksum-transaction_limit
unfolding in_checksum_ranges both
returns-else-checksum-transaction_limit c = let b = c.args.bytes.now in grind (arith, bytes_are b _ _ at_95)
