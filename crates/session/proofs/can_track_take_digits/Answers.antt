-- `session::can_track_take_digits` meets its contract: the test of the stored track and bitmaps.
-- Assumes nothing.
use native.Mathlib.Omega.{arith}
use Rattle.dictionary.proofs.Named.{at_9f6b}
use Rattle.session_record.proofs.Tags.{bytes_are}
use Rattle.session.proofs.can_track_take_digits.Goals as goal

pub returns : goal.returns
returns c = grind (arith, bytes_are c.args.bytes.now _ _ at_9f6b)
