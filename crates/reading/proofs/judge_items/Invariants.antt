-- `reading::judge_items` meets its contract. The invariant is `Judging` (proofs/Pending), which has a law for each way
-- through an iteration.
-- Assumes nothing.
use Rattle.reading.proofs.Pending.{Judging}
use Rattle.reading.proofs.judge_items.Given as goal

abbrev pub invariant-loop-i : goal.invariant-loop-i
invariant-loop-i l =
    Judging l.answer l.bytes l.store l.initial.items l.n l.items l.filled l.pending l.i
