-- `afl::check_afl` meets its contract. The loop's invariant: what a check reports of the whole is what it says of the
-- rest, with the records counted so far, which are at most 128.
-- Assumes nothing.
use mathlib.Core.Path.{◌≡◌}
use Prim.Native.Nat.{◌≤◌}
use Rattle.std.specs.Slice.Iter.{chunks_exact_rest, chunks_exact_size}
use Rattle.afl.specs.Records.{afl_checked}
use Rattle.afl.proofs.Walk.{onwards}
use Rattle.afl.proofs.check_afl.Given as goal

abbrev pub invariant-loop-bytes : goal.invariant-loop-bytes
invariant-loop-bytes l =
    (goal.iterator-loop-bytes).can_next l.bytes-iterator × (goal.iterator-loop-bytes).is_finite l.bytes-iterator
    × (chunks_exact_size l.bytes-iterator ≡ 4)
    × (afl_checked l.afl ≡ onwards l.records (chunks_exact_rest l.bytes-iterator))
    × (l.records ≤ 128)
