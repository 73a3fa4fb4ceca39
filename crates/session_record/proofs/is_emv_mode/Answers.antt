-- `session_record::is_emv_mode` meets its contract: b8 of a byte is its weight 128.
-- Assumes nothing.
use native.Mathlib.Omega.{arith}
use Rattle.dictionary.proofs.Named.{at_82}
use Rattle.session_record.proofs.Tags.{bytes_are}
use Rattle.session_record.proofs.is_emv_mode.Goals as goal

pub returns : goal.returns
returns c = let b = c.args.bytes.now in grind (arith, bytes_are b _ _ at_82)
