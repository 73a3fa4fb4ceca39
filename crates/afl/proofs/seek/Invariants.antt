-- `afl::seek` meets its contract. The loop's invariant: the record at the place sought is that of the rest at the place
-- left, what the entries passed named being taken off.
-- Assumes nothing.
use mathlib.Core.Path.{◌≡◌}
use Rattle.std.specs.Slice.Iter.{chunks_exact_rest, chunks_exact_size}
use Rattle.afl.specs.Records.{afl_records, record_at_index}
use Rattle.afl.proofs.seek.Given as goal

abbrev pub invariant-loop-bytes : goal.invariant-loop-bytes
invariant-loop-bytes l =
    (goal.iterator-loop-bytes).can_next l.bytes-iterator × (goal.iterator-loop-bytes).is_finite l.bytes-iterator
    × (chunks_exact_size l.bytes-iterator ≡ 4)
    × (record_at_index l.fn.place (afl_records l.afl)
    ≡ record_at_index l.left (afl_records (chunks_exact_rest l.bytes-iterator)))
