-- `objects::keeps` meets its contract. The invariant: what is left satisfies the rules, from the next number on,
-- exactly where the whole does. The measure is the length of what is left. Assumes nothing.
use mathlib.Core.Path.{◌≡◌}
use Prim.Native.Nat.{◌+◌, ◌≤◌}
use lib.ListN.{length}
use Rattle.tlv.specs.Primitives.{primitive_objects}
use Rattle.personalise.specs.Placements.{placements_in}
use Rattle.personalise.specs.Inner.{parsed_objects_valid_and_placed_once}
use Rattle.personalise.proofs.objects.keeps.Given as goal

abbrev pub invariant-loop-s : goal.invariant-loop-s
invariant-loop-s l =
    (parsed_objects_valid_and_placed_once (placements_in l.placements) l.initial.number (primitive_objects l.initial.s)
    ≡ parsed_objects_valid_and_placed_once (placements_in l.placements) l.number (primitive_objects l.s))
    × (l.number + length l.s ≤ 1 + length l.initial.s)

abbrev pub decreases-loop-s : goal.decreases-loop-s
decreases-loop-s l = length l.s
