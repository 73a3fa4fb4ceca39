-- The loop's invariant: no bit of the bytes before byte i is held (`Clear`).
-- Assumes nothing.
use Prim.Native.Nat.{◌*◌}
use Rattle.analysis.proofs.Stages.{Clear}
use Rattle.analysis.proofs.choice.lowest_tvr_bit_in_codes.Given as goal

abbrev pub invariant-loop-i : goal.invariant-loop-i
invariant-loop-i l = Clear l.bits (record { card = l.pair.card; terminal = l.pair.terminal }) (l.i * 8)
