-- One object to an iteration of the loop: the place goes on, and stays inside the bytes.
use Rattle.std.proofs.Common.{◌≤◌, ◌-◌, length}
use Rattle.replay.proofs.why.refused.Given as goal

abbrev pub invariant-loop-at : goal.invariant-loop-at
invariant-loop-at g l = l.at ≤ length l.start

abbrev pub decreases-loop-at : goal.decreases-loop-at
decreases-loop-at g l = length l.start - l.at
