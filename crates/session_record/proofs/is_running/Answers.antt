-- `session_record::is_running` meets its contract: what the walk finds, then clause by clause.
-- Assumes nothing.
use native.Mathlib.Omega.{arith}
use Rattle.basics.specs.Choice.{both, either}
use Rattle.dictionary.proofs.Named.{at_95, at_9f35}
use Rattle.session_record.specs.Ranges.{in_running_ranges}
use Rattle.session_record.proofs.Tags.{value-is, bytes_are}
use Rattle.session_record.proofs.is_running.Goals as goal

pub returns-then-is_listed_terminal_type : goal.returns-then-is_listed_terminal_type
unfolding in_running_ranges both either
returns-then-is_listed_terminal_type c = let b = c.args.bytes.now in grind (arith, value-is b _ _ at_95, bytes_are b _ _ at_9f35)

pub returns-else-is_listed_terminal_type : goal.returns-else-is_listed_terminal_type
unfolding in_running_ranges both either
returns-else-is_listed_terminal_type c = let b = c.args.bytes.now in grind (arith, value-is b _ _ at_95, bytes_are b _ _ at_9f35)
