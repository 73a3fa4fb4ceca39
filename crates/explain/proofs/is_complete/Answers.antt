-- `explain::is_complete` meets its contract: object by object; past the first two the stage says what is left. Assumes nothing.
use native.Mathlib.Omega.{arith}
use Rattle.basics.specs.Choice.{every, both}
use Rattle.dictionary.proofs.Named.{at_95, at_df8120, at_df8121, at_df8122}
use Rattle.session_record.proofs.Tags.{value-is}
use Rattle.explain.proofs.is_complete.Goals as goal

pub returns-in-Denial : goal.returns-in-Denial
unfolding every both
returns-in-Denial c = let b = c.args.bytes.now in grind (arith, value-is b _ _ at_95, value-is b _ _ at_df8121, value-is b _ _ at_df8120, value-is b _ _ at_df8122)

pub returns-in-Default : goal.returns-in-Default
unfolding every both
returns-in-Default c = let b = c.args.bytes.now in grind (arith, value-is b _ _ at_95, value-is b _ _ at_df8121, value-is b _ _ at_df8120, value-is b _ _ at_df8122)

pub returns-in-Online : goal.returns-in-Online
unfolding every both
returns-in-Online c = let b = c.args.bytes.now in grind (arith, value-is b _ _ at_95, value-is b _ _ at_df8121, value-is b _ _ at_df8120, value-is b _ _ at_df8122)

pub returns-else-is_present-2 : goal.returns-else-is_present-2
unfolding every both
returns-else-is_present-2 c = let b = c.args.bytes.now in grind (arith, value-is b _ _ at_95, value-is b _ _ at_df8121, value-is b _ _ at_df8120, value-is b _ _ at_df8122)
