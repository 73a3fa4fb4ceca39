-- `store::write` meets its contract. The invariant: the length byte and the first i bytes of the value are written, the
-- rest is as it was.
-- Assumes nothing.
use mathlib.Core.Path.{◌≡◌, ◌∙◌}
use Prim.Native.Nat.{◌+◌, ◌<◌}
use native.Mathlib.Numerals.{add-one}
use native.Mathlib.Omega.{arith}
use lib.ListN.{length, set, length-set}
use lib.Seq.{paste-zero, paste-suc}
use Rattle.store.proofs.Laws.{paste_written}
use Rattle.store.proofs.write.Goals as goal

pub loop-i-init : goal.loop-i-init
loop-i-init c = paste-zero _ (c.args.at + 1) c.args.v.now

pub loop-i-preserved : goal.loop-i-preserved
loop-i-preserved c =
    let lp = c.loop-i in
    let d = set c.args.bytes.now c.args.at (length c.args.v.now + 1) in
    let l : length d ≡ length c.args.bytes.now = simp length-set in
    let hd : c.args.at + 1 + lp.i < length d = omega arith in
    let hs : lp.i < length c.args.v.now = omega arith in
    rw (lp.invariant, add-one lp.i) (paste-suc d (c.args.at + 1) c.args.v.now lp.i 0 hd hs)

pub returns : goal.returns
returns c =
    let lp = c.loop-i in
    let e : lp.i ≡ length c.args.v.now = omega arith in
    lp.invariant ∙ rw e (paste_written c.args.bytes.now c.args.at c.args.v.now c.requires.0)
