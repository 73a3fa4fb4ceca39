-- `session_record::stored_record_count` meets its contract: by the check of the stored AFL.
-- Assumes nothing.
use native.Mathlib.Omega.{arith}
use Rattle.basics.specs.Choice.{if}
use Rattle.dictionary.proofs.Named.{at_94}
use Rattle.afl.specs.Records.{afl_checked}
use Rattle.session_record.specs.Inner.{record_count_of_stored_afl}
use Rattle.session_record.proofs.Tags.{bytes_are}
use Rattle.session_record.proofs.stored_record_count.Goals as goal

pub returns : goal.returns
unfolding record_count_of_stored_afl afl_checked if
returns c = let b = c.args.bytes.now in grind (arith, bytes_are b _ _ at_94)

pub returns-in_err-extent : goal.returns-in_err-extent
unfolding record_count_of_stored_afl afl_checked if
returns-in_err-extent c = let b = c.args.bytes.now in grind (arith, bytes_are b _ _ at_94)
