-- `writing::put_records` meets its contract. The invariant: what is written, with the records from k on still to be
-- written after it, is all records; each of them takes at most 256 bytes. The measure is how many are left.
-- Assumes nothing.
use mathlib.Core.Path.{◌≡◌}
use mathlib.Core.List.{List}
use Prim.Native.Nat.{ℕ, ◌+◌, ◌-◌, ◌*◌, ◌≤◌}
use lib.ListN.{length}
use Rattle.personalise.specs.Placements.{placements_in}
use Rattle.personalise.specs.Objects.{parsed_objects_or_empty}
use Rattle.personalise.specs.Inner.{bytes_written_over}
use Rattle.personalise.proofs.Filled.{records_left}
use Rattle.personalise.proofs.writing.put_records.Given as goal

abbrev left : List ℕ → List ℕ → ℕ → ℕ → List ℕ
left objects placements n k = records_left (parsed_objects_or_empty objects) (placements_in placements) n k

abbrev pub invariant-loop-k : goal.invariant-loop-k
invariant-loop-k l =
    (bytes_written_over l.initial.out l.initial.at (left l.objects.bytes.now l.placements l.records l.initial.k) ≡ bytes_written_over l.out l.at
    (left l.objects.bytes.now l.placements l.records l.k))
    × (l.initial.at + length (left l.objects.bytes.now l.placements l.records l.initial.k) ≡ l.at + length (left l.objects.bytes.now l.placements l.records l.k))
    × (length l.out ≡ length l.initial.out) × (1 ≤ l.k) × (l.k ≤ l.records + 1) × (l.at + 256 * (l.records + 1 - l.k) ≤ 256 * l.records)

abbrev pub decreases-loop-k : goal.decreases-loop-k
decreases-loop-k l = l.records + 1 - l.k
