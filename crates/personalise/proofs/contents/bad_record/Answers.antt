-- `contents::bad_record` meets its contract. The invariant: the least bad record is the first bad one from k on. The
-- measure is 256 - k.
-- Assumes nothing.
use mathlib.Core.Path.{sym, ◌∙◌}
use native.Mathlib.Omega.{arith}
use Rattle.personalise.proofs.Least.{first-start, first_yes, first_on, first-none}
use Rattle.personalise.proofs.contents.bad_record.Goals as goal

pub loop-k-init : goal.loop-k-init
loop-k-init c = (first-start _ _ _, omega arith)

pub returns-then-is_bad : goal.returns-then-is_bad
returns-then-is_bad c =
    let lp = c.loop-k in
    sym (lp.invariant.0 ∙ first_yes _ lp.k c.loop-k-test.true (sym c.is_bad.ensures ∙ c.if-is_bad.true))

pub loop-k-preserved : goal.loop-k-preserved
loop-k-preserved c =
    let lp = c.loop-k in (
      lp.invariant.0 ∙ first_on _ lp.k c.loop-k-test.true (sym c.is_bad.ensures ∙ c.if-is_bad.false),
      omega
          arith,
    )

pub returns : goal.returns
returns c = sym (c.loop-k.invariant.0 ∙ first-none _ c.loop-k.k c.loop-k-test.false)
