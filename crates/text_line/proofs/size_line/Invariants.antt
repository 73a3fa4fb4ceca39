-- `text_line::size_line` meets its contract. The invariant: the digits before place i are read as n.
-- Assumes nothing.
use Prim.Native.Nat.{◌<◌}
use lib.ListN.{length}
use Rattle.text_line.proofs.Digits.{Reading}
use Rattle.text_line.proofs.size_line.Given as goal

abbrev pub invariant-loop-c : goal.invariant-loop-c
invariant-loop-c l = (0 < length l.w) × Reading l.w l.n l.c-index
