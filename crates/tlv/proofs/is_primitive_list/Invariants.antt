-- `tlv::is_primitive_list` meets its contract. The invariant: what is left is a run exactly where the whole is. The
-- measure is its length.
-- Assumes nothing.
use mathlib.Core.Path.{◌≡◌}
use Prim.Native.Nat.{◌≤◌}
use lib.ListN.{length}
use Rattle.tlv.specs.Primitives.{primitive_objects, are_primitive_objects_parsed}
use Rattle.tlv.proofs.is_primitive_list.Given as goal

abbrev pub invariant-loop-h : goal.invariant-loop-h
invariant-loop-h l = (are_primitive_objects_parsed (primitive_objects l.initial.s) ≡ are_primitive_objects_parsed (primitive_objects l.s))
    × (length l.s ≤ length l.initial.s)

abbrev pub decreases-loop-h : goal.decreases-loop-h
decreases-loop-h l = length l.s
