-- `session::checksum_outcome` meets its contract: counter and code are present or not.
-- Assumes nothing.
use native.Mathlib.Omega.{arith}
use Rattle.basics.specs.Choice.{if}
use Rattle.dictionary.proofs.Named.{at_9f36, at_9f61}
use Rattle.session_record.proofs.Tags.{value-is}
use Rattle.session.specs.MagStripe.{next_after_checksum_read}
use Rattle.session.proofs.checksum_outcome.Goals as goal

pub returns-in_default : goal.returns-in_default
unfolding next_after_checksum_read if
returns-in_default c buf = grind (arith, value-is c.args.store.now _ _ at_9f36)

pub returns-then-not-is_present : goal.returns-then-not-is_present
unfolding next_after_checksum_read if
returns-then-not-is_present c buf =
    let b = c.args.store.now in grind (arith, value-is b _ _ at_9f36, value-is b _ _ at_9f61)

pub returns : goal.returns
unfolding next_after_checksum_read if
returns c buf = let b = c.args.store.now in grind (arith, value-is b _ _ at_9f36, value-is b _ _ at_9f61)
