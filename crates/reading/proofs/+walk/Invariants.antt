-- `walk` meets its contract. The recursion falls with the levels, the loop with what is left of the contents.
-- The invariant is `Run` (proofs/Runs), which has a law for each way through an iteration: what follows is the end.
-- Assumes nothing.
use Rattle.std.specs.Prelude.{Option}
use Rattle.reading.specs.declared.VisitTally.{VisitTally}
use mathlib.Core.List.{List}
use Prim.Native.Nat.{◌-◌}
use Rattle.tlv.specs.Tree.{parse_tree}
use Prim.Native.Nat.{ℕ}
use Rattle.reading.specs.InnerItems.{WalkListedItems, WalkListsTree}
use Rattle.reading.proofs.Items.{part}
use Rattle.reading.proofs.Runs.{Run}
use Rattle.reading.proofs.+walk.Given as goal

abbrev pub decreases-walk : goal.decreases-walk
decreases-walk l = l.levels

abbrev pub invariant-loop-at : goal.invariant-loop-at
invariant-loop-at l =
    Run l.bytes l.end l.end l.levels l.around (λ (r : Option VisitTally) (is : List ℕ). WalkListedItems l.bytes is r)
    (WalkListsTree l.bytes l.around (parse_tree l.levels (part l.bytes l.initial.at l.end)) l.initial.so_far.objects
    l.initial.so_far.items l.initial.items)
    l.at l.so_far.objects l.so_far.items l.items

abbrev pub decreases-loop-at : goal.decreases-loop-at
decreases-loop-at l = l.end - l.at
