-- `session_record::is_last_absent` meets its contract: each row is one tag.
-- Assumes nothing.
use native.Mathlib.Omega.{arith}
use Rattle.basics.specs.Choice.{every, both}
use Rattle.dictionary.proofs.Named.{at_9f10, at_9f26, at_9f27, at_9f36, at_9f61}
use Rattle.session_record.specs.Ranges.{last_response_objects_absent}
use Rattle.session_record.proofs.Tags.{value-is}
use Rattle.session_record.proofs.is_last_absent.Goals as goal

pub returns-then-not-is_present-4 : goal.returns-then-not-is_present-4
unfolding last_response_objects_absent every both
returns-then-not-is_present-4 c = let b = c.args.bytes.now in grind (arith, value-is b _ _ at_9f10, value-is b _ _ at_9f26, value-is b _ _ at_9f27, value-is b _ _ at_9f36, value-is b _ _ at_9f61)

pub returns-else-not-is_present-4 : goal.returns-else-not-is_present-4
unfolding last_response_objects_absent every both
returns-else-not-is_present-4 c = let b = c.args.bytes.now in grind (arith, value-is b _ _ at_9f10, value-is b _ _ at_9f26, value-is b _ _ at_9f27, value-is b _ _ at_9f36, value-is b _ _ at_9f61)
