-- `journal::feed` meets its contract: after a mismatching record nothing changes; else the checker after the first i
-- bytes of the part.
-- Assumes nothing.
use mathlib.Core.Path.{refl}
use borrow.Author.Tests.{not-true}
use lib.Seq.{take_all}
use Rattle.journal.proofs.Follow.{pushed_none, pushed_more, stays_all, fed}
use Rattle.journal.proofs.feed.Goals as goal

pub returns-then-not-checker : goal.returns-then-not-checker
returns-then-not-checker c = let v = c.args.part.now in
    let r = fed _ _ v v (stays_all _ v (not-true _ c.if-not-checker.true)) refl in
    record { checker = r.0; follows = r.1 }

pub loop-byte-init : goal.loop-byte-init
loop-byte-init c = pushed_none c.args.checker c.args.part.now

pub loop-byte-preserved : goal.loop-byte-preserved
loop-byte-preserved c = let lp = c.loop-byte in
    pushed_more _ lp.next _ _ lp.byte-index _ lp.invariant c.loop-byte-test.true refl c.push-next.ensures

pub returns-clause-follows : goal.returns-clause-follows
returns-clause-follows c = let v = c.args.part.now in
    (fed _ _ _ v c.loop-byte.invariant (take_all c.loop-byte.byte-index v c.loop-byte-test.false)).1
