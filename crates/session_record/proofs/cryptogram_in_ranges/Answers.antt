-- `session_record::cryptogram_in_ranges` meets its contract: clause by clause.
-- Assumes nothing.
use native.Mathlib.Omega.{arith}
use Rattle.basics.specs.Choice.{both}
use Rattle.dictionary.proofs.Named.{at_9f34}
use Rattle.session_record.specs.Ranges.{in_cryptogram_ranges}
use Rattle.session_record.proofs.Tags.{value-is}
use Rattle.session_record.proofs.cryptogram_in_ranges.Goals as goal

pub returns-then-asked-transaction_limit : goal.returns-then-asked-transaction_limit
unfolding in_cryptogram_ranges both
returns-then-asked-transaction_limit c = let b = c.args.bytes.now in grind (arith, value-is b _ _ at_9f34)

pub returns-else-asked-transaction_limit : goal.returns-else-asked-transaction_limit
unfolding in_cryptogram_ranges both
returns-else-asked-transaction_limit c = let b = c.args.bytes.now in grind (arith, value-is b _ _ at_9f34)
