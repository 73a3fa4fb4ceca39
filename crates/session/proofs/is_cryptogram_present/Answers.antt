-- `session::is_cryptogram_present` meets its contract: each row is one tag.
-- Assumes nothing.
use native.Mathlib.Omega.{arith}
use Rattle.basics.specs.Choice.{both}
use Rattle.dictionary.proofs.Named.{at_9f26, at_9f27, at_9f36}
use Rattle.session_record.proofs.Tags.{value-is}
use Rattle.session.proofs.is_cryptogram_present.Goals as goal

pub returns-then-is_present-2 : goal.returns-then-is_present-2
unfolding both
returns-then-is_present-2 c =
    let b = c.args.bytes.now in
    grind (arith, value-is b _ _ at_9f27, value-is b _ _ at_9f36, value-is b _ _ at_9f26)

pub returns-else-is_present-2 : goal.returns-else-is_present-2
unfolding both
returns-else-is_present-2 c =
    let b = c.args.bytes.now in
    grind (arith, value-is b _ _ at_9f27, value-is b _ _ at_9f36)
