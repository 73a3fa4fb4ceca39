-- `objects::lacks_tag` meets its contract. The invariant: what is left is a run without the tag exactly where the whole
-- is. The measure is the length of what is left. Assumes nothing.
use mathlib.Core.Path.{◌≡◌}
use Prim.Native.Nat.{◌≤◌}
use lib.ListN.{length}
use Rattle.tlv.specs.Primitives.{primitive_objects}
use Rattle.personalise.specs.Inner.{list_parsed_and_lacks_tag}
use Rattle.personalise.proofs.objects.lacks_tag.Given as goal

abbrev pub invariant-loop-s : goal.invariant-loop-s
invariant-loop-s l = (list_parsed_and_lacks_tag l.tag (primitive_objects l.initial.s) ≡ list_parsed_and_lacks_tag l.tag
    (primitive_objects l.s)) × (length l.s ≤ length l.initial.s)

abbrev pub decreases-loop-s : goal.decreases-loop-s
decreases-loop-s l = length l.s
