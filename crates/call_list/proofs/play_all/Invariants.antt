-- `play_all`: playing the calls left from the two places gives what playing all gives (`Going`). What is left of the
-- slice shrinks.
-- Assumes nothing.
use mathlib.Core.Path.{◌≡◌}
use Prim.Native.Nat.{◌-◌}
use lib.ListN.{length}
use Rattle.call_list.specs.Encoding.{parsed_calls}
use Rattle.call_list.specs.Inner.{calls_or_empty}
use Rattle.call_list.proofs.Loop.{Going}
use Rattle.call_list.proofs.play_all.Given as goal

abbrev pub invariant-loop-at : goal.invariant-loop-at
invariant-loop-at l =
    Going l.initial.calls l.initial.replies (calls_or_empty (parsed_calls l.initial.calls)) l.calls l.replies l.session l.at l.out
    × (length l.calls ≡ length l.initial.calls) × (length l.replies ≡ length l.initial.replies)

abbrev pub decreases-loop-at : goal.decreases-loop-at
decreases-loop-at l = length l.calls - l.at
