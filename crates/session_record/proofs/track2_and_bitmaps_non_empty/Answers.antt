-- `session_record::track2_and_bitmaps_non_empty` meets its contract: each row is one tag.
-- Assumes nothing.
use native.Mathlib.Omega.{arith}
use Rattle.basics.specs.Choice.{every, both}
use Rattle.dictionary.proofs.Named.{at_9f65, at_9f66, at_9f67, at_9f6b}
use Rattle.session_record.specs.Ranges.{track2_and_bitmaps_non_empty}
use Rattle.session_record.proofs.Tags.{bytes_are}
use Rattle.session_record.proofs.track2_and_bitmaps_non_empty.Goals as goal

pub returns-then-has_bytes-3 : goal.returns-then-has_bytes-3
unfolding track2_and_bitmaps_non_empty every both
returns-then-has_bytes-3 c = let b = c.args.bytes.now in grind (arith, bytes_are b _ _ at_9f6b, bytes_are b _ _ at_9f65, bytes_are b _ _ at_9f66, bytes_are b _ _ at_9f67)

pub returns-else-has_bytes-3 : goal.returns-else-has_bytes-3
unfolding track2_and_bitmaps_non_empty every both
returns-else-has_bytes-3 c = let b = c.args.bytes.now in grind (arith, bytes_are b _ _ at_9f6b, bytes_are b _ _ at_9f65, bytes_are b _ _ at_9f66, bytes_are b _ _ at_9f67)
