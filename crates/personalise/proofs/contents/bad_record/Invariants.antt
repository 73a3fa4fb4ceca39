-- `contents::bad_record` meets its contract. The invariant: the least bad record is the first bad one from k on. The
-- measure is 256 - k.
-- Assumes nothing.
use mathlib.Core.Path.{◌≡◌}
use Prim.Native.Nat.{◌-◌, ◌≤◌}
use Rattle.personalise.specs.Placements.{placements_in}
use Rattle.personalise.specs.Records.{has_bad_placement_or_over253_bytes, first_bad_number_from, first_bad_record}
use Rattle.personalise.specs.Objects.{parsed_objects_or_empty}
use Rattle.personalise.proofs.contents.bad_record.Given as goal

abbrev pub invariant-loop-k : goal.invariant-loop-k
invariant-loop-k l =
    (first_bad_record (parsed_objects_or_empty l.objects.bytes.now) (placements_in l.placements) l.records ≡ first_bad_number_from
    (has_bad_placement_or_over253_bytes (parsed_objects_or_empty l.objects.bytes.now) (placements_in l.placements) l.records) l.k (256 - l.k))
    × (l.k ≤ 256)

abbrev pub decreases-loop-k : goal.decreases-loop-k
decreases-loop-k l = 256 - l.k
