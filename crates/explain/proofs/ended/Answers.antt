-- `explain::ended` meets its contract: the reason, or the decision, clause by clause. Assumes nothing.
use native.Mathlib.Omega.{arith}
use Rattle.basics.specs.Choice.{if}
use Rattle.dictionary.proofs.Named.{at_9f27}
use Rattle.session_record.proofs.Tags.{value-is, bytes_are}
use Rattle.explain.specs.Explain.{explanation_of_ending}
use Rattle.explain.proofs.ended.Goals as goal

pub returns-then-end-ne-REASON_NONE : goal.returns-then-end-ne-REASON_NONE
unfolding explanation_of_ending if
returns-then-end-ne-REASON_NONE c = let b = c.args.bytes.now in grind (arith, value-is b _ _ at_9f27, bytes_are b _ _ at_9f27)

pub returns-in_default : goal.returns-in_default
unfolding explanation_of_ending if
returns-in_default c = let b = c.args.bytes.now in grind (arith, value-is b _ _ at_9f27, bytes_are b _ _ at_9f27)

pub returns-then-not-is_present : goal.returns-then-not-is_present
unfolding explanation_of_ending if
returns-then-not-is_present c = let b = c.args.bytes.now in grind (arith, value-is b _ _ at_9f27, bytes_are b _ _ at_9f27)

pub returns-then-not-decides : goal.returns-then-not-decides
unfolding explanation_of_ending if
returns-then-not-decides c = let b = c.args.bytes.now in grind (arith, value-is b _ _ at_9f27, bytes_are b _ _ at_9f27)

pub returns-then-cryptogram_rank : goal.returns-then-cryptogram_rank
unfolding explanation_of_ending if
returns-then-cryptogram_rank c = let b = c.args.bytes.now in grind (arith, value-is b _ _ at_9f27, bytes_are b _ _ at_9f27)

pub returns : goal.returns
unfolding explanation_of_ending if
returns c = let b = c.args.bytes.now in grind (arith, value-is b _ _ at_9f27, bytes_are b _ _ at_9f27)
