-- `cabinet_lookup::first` meets its contract. The invariant is `Reached` (proofs/Laws), which has a law for each way
-- through an iteration. The measure is what remains: an object takes two bytes at least.
-- Assumes nothing.
use Prim.Native.Nat.{◌-◌}
use lib.ListN.{length}
use Rattle.cabinet_lookup.proofs.Laws.{Reached}
use Rattle.cabinet_lookup.proofs.first.Given as goal

abbrev pub invariant-loop-h : goal.invariant-loop-h
invariant-loop-h l = Reached l.tag l.bytes l.at

abbrev pub decreases-loop-h : goal.decreases-loop-h
decreases-loop-h l = length l.bytes - l.at
