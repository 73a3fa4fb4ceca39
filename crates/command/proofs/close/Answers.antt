-- `close`: the header's bytes at the front; the data between stays, and 00 goes after it.
-- Assumes nothing.
use native.Mathlib.Omega.{arith}
use Rattle.command.proofs.Parts.{closed}
use Rattle.command.proofs.close.Goals as goal

pub returns-clause-kept : goal.returns-clause-kept
returns-clause-kept c = let a = c.args in
    rw c.copy_from_slice.ensures.after (closed a.ins a.p1 a.p2 a.buffer.now a.end c.requires.0 (omega arith))
