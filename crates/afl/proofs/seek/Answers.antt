-- `afl::seek` meets its contract. The loop's invariant: the record at the place sought is that of the rest at the place
-- left, what the entries passed named being taken off.
-- Assumes nothing.
use mathlib.Core.Path.{sym, ◌∙◌}
use native.Mathlib.Omega.{arith}
use Rattle.afl.proofs.Walk.{seek_here, seek_past, seek_end}
use Rattle.afl.proofs.seek.Goals as goal

pub returns-then-left-n : goal.returns-then-left-n
returns-then-left-n c =
    let lp = c.loop-bytes in
    let t = c.in-Some.ensures.steps in
    rw c.sfi.ensures (sym (lp.invariant.3 ∙ seek_here _ _ _ t.1.0 (t.1.1 ∙ lp.invariant.2) _ c.at_front-e.ensures lp.left
    (omega arith)))

pub loop-bytes-preserved : goal.loop-bytes-preserved
loop-bytes-preserved c =
    let lp = c.loop-bytes in
    let t = c.in-Some.ensures.steps in
    let e = lp.invariant.3 ∙ seek_past _ _ _ t.1.0 (t.1.1 ∙ lp.invariant.2) _ c.at_front-e.ensures lp.left (omega arith) in
    (omega arith, tt, t.0 ∙ lp.invariant.2, rw c.record_count-n.ensures.0 e)

pub returns : goal.returns
returns c =
    let lp = c.loop-bytes in
    let t = c.in-None.ensures.steps in
    sym (lp.invariant.3 ∙ seek_end _ _ (omega arith))
