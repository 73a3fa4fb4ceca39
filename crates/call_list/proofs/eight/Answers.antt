-- `eight`: the bytes of a slice of eight as a number.
-- Assumes nothing.
use native.Mathlib.Omega.{arith}
use Rattle.call_list.proofs.Number.{eight_from}
use Rattle.call_list.proofs.eight.Goals as goal

pub returns : goal.returns
returns c = omega (arith, eight_from c.args.s.now c.requires)
