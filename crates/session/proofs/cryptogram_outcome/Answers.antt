-- `session::cryptogram_outcome` meets its contract: the objects are present, and the type that was read decides.
-- Assumes nothing.
use native.Mathlib.Omega.{arith}
use Rattle.basics.specs.Choice.{if}
use Rattle.dictionary.proofs.Named.{at_9f27}
use Rattle.session_record.proofs.Tags.{bytes_are}
use Rattle.session.specs.Answer.{cryptogram_ending}
use Rattle.session.proofs.cryptogram_outcome.Goals as goal

pub returns-in_default : goal.returns-in_default
unfolding cryptogram_ending if
returns-in_default c buf = grind arith

pub returns-in_default-outcome_for_cryptogram_type : goal.returns-in_default-outcome_for_cryptogram_type
unfolding cryptogram_ending if
returns-in_default-outcome_for_cryptogram_type c buf = grind (arith, bytes_are c.args.bytes.now _ _ at_9f27)

pub returns : goal.returns
unfolding cryptogram_ending if
returns c buf = grind (arith, bytes_are c.args.bytes.now _ _ at_9f27)
