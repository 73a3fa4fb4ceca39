-- `explain::card_asks_mag_stripe` meets its contract: 82 is present, and then its bit decides. Assumes nothing.
use native.Mathlib.Omega.{arith}
use Rattle.basics.specs.Choice.{both}
use Rattle.dictionary.proofs.Named.{at_82}
use Rattle.session_record.proofs.Tags.{value-is}
use Rattle.explain.proofs.card_asks_mag_stripe.Goals as goal

pub returns-then-is_present : goal.returns-then-is_present
unfolding both
returns-then-is_present c = let b = c.args.bytes.now in grind (arith, value-is b _ _ at_82)

pub returns-else-is_present : goal.returns-else-is_present
unfolding both
returns-else-is_present c = let b = c.args.bytes.now in grind (arith, value-is b _ _ at_82)
