-- `writing::put_content` meets its contract. The invariant: what is written, with the content of the objects that are left
-- still to be written after it, is the content of all; those that are left may be set. Assumes nothing.
use mathlib.Core.Path.{◌≡◌}
use mathlib.Core.Bool.{true}
use Prim.Native.Nat.{◌+◌}
use lib.ListN.{length, drop}
use Rattle.basics.specs.Choice.{every}
use Rattle.tlv.specs.Primitives.{leading_primitive_objects}
use Rattle.personalise.specs.Objects.{tag_and_value_allowed_in_record}
use Rattle.personalise.specs.Placements.{placements_in}
use Rattle.personalise.specs.Inner.{bytes_written_over}
use Rattle.personalise.proofs.Filled.{content}
use Rattle.personalise.proofs.writing.put_content.Given as goal

abbrev pub invariant-loop-i : goal.invariant-loop-i
invariant-loop-i l =
    (bytes_written_over l.initial.out l.initial.to (content (placements_in l.placements) l.k 1 (leading_primitive_objects l.objects.bytes.now))
    ≡ bytes_written_over l.out l.to (content (placements_in l.placements) l.k (length l.yielded + 1)
    (drop (length l.yielded) (leading_primitive_objects l.objects.bytes.now))))
    × (l.initial.to + length (content (placements_in l.placements) l.k 1 (leading_primitive_objects l.objects.bytes.now))
    ≡ l.to + length (content (placements_in l.placements) l.k (length l.yielded + 1)
    (drop (length l.yielded) (leading_primitive_objects l.objects.bytes.now))))
    × (length l.out ≡ length l.initial.out)
    × (every tag_and_value_allowed_in_record (drop (length l.yielded) (leading_primitive_objects l.objects.bytes.now)) ≡ true)
