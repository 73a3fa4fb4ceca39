-- `explain::has_bit` meets its contract: it is the definition of a bit by its number. Assumes nothing.
use Rattle.analysis.specs.Bits.{has_bit_counted_from_zero_at_byte1b8}
use Rattle.explain.proofs.has_bit.Goals as goal

pub returns : goal.returns
unfolding has_bit_counted_from_zero_at_byte1b8
returns c = c.value_has_bit.ensures
