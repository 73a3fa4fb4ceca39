-- `contents::size` meets its contract. The invariant: the size so far, at most 253, and that of the objects that are left
-- are that of all, up to the bound. Assumes nothing.
use mathlib.Core.Path.{◌≡◌}
use Prim.Native.Nat.{◌+◌, ◌≤◌}
use lib.ListN.{length, drop}
use Rattle.tlv.specs.Primitives.{leading_primitive_objects}
use Rattle.personalise.specs.Placements.{placements_in}
use Rattle.personalise.specs.Inner.{size_capped_at254}
use Rattle.personalise.proofs.Filled.{content}
use Rattle.personalise.proofs.contents.size.Given as goal

abbrev pub invariant-loop-i : goal.invariant-loop-i
invariant-loop-i l =
    (size_capped_at254 (length (content (placements_in l.placements) l.k 1 (leading_primitive_objects l.objects.bytes.now)))
    ≡ size_capped_at254 (l.total + length (content (placements_in l.placements) l.k (length l.yielded + 1)
    (drop (length l.yielded) (leading_primitive_objects l.objects.bytes.now)))))
    × (l.total ≤ 253)
