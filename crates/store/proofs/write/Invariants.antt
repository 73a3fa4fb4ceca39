-- `store::write` meets its contract. The invariant: the length byte and the first i bytes of the value are written, the
-- rest is as it was.
-- Assumes nothing.
use mathlib.Core.Path.{◌≡◌}
use lib.Seq.{paste}
use Rattle.store.proofs.write.Given as goal

abbrev pub invariant-loop-i : goal.invariant-loop-i
invariant-loop-i l = l.bytes ≡ paste l.initial.bytes l.start l.v l.i
