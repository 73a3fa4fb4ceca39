-- `session_record::expiry_pan_and_cdol1_non_empty` meets its contract: each row is one tag.
-- Assumes nothing.
use native.Mathlib.Omega.{arith}
use Rattle.basics.specs.Choice.{every, both}
use Rattle.dictionary.proofs.Named.{at_5a, at_5f24, at_8c}
use Rattle.session_record.specs.Ranges.{expiry_pan_and_cdol1_non_empty}
use Rattle.session_record.proofs.Tags.{bytes_are}
use Rattle.session_record.proofs.expiry_pan_and_cdol1_non_empty.Goals as goal

pub returns-then-has_bytes-2 : goal.returns-then-has_bytes-2
unfolding expiry_pan_and_cdol1_non_empty every both
returns-then-has_bytes-2 c = let b = c.args.bytes.now in grind (arith, bytes_are b _ _ at_5f24, bytes_are b _ _ at_5a, bytes_are b _ _ at_8c)

pub returns-else-has_bytes-2 : goal.returns-else-has_bytes-2
unfolding expiry_pan_and_cdol1_non_empty every both
returns-else-has_bytes-2 c = let b = c.args.bytes.now in grind (arith, bytes_are b _ _ at_5f24, bytes_are b _ _ at_5a, bytes_are b _ _ at_8c)
