-- `count_calls`: the calls counted so far, with those of the rest, are those of the whole. The rest shrinks.
-- Assumes nothing.
use mathlib.Core.Path.{◌≡◌}
use Prim.Native.Nat.{◌+◌, ◌≤◌}
use lib.ListN.{length}
use Rattle.call_list.specs.Encoding.{parsed_calls}
use Rattle.call_list.specs.Inner.{calls_counted_in}
use Rattle.call_list.proofs.Read.{more}
use Rattle.call_list.proofs.count_calls.Given as goal

abbrev pub invariant-loop-rest : goal.invariant-loop-rest
invariant-loop-rest l = (calls_counted_in (parsed_calls l.calls) ≡ more l.n (calls_counted_in (parsed_calls l.rest)))
    × (l.n + length l.rest ≤ length l.calls)

abbrev pub decreases-loop-rest : goal.decreases-loop-rest
decreases-loop-rest l = length l.rest
