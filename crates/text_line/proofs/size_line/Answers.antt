-- `text_line::size_line` meets its contract. The invariant: the digits before place i are read as n.
-- Assumes nothing.
use mathlib.Core.Path.{sym, ◌∙◌}
use native.Mathlib.Omega.{arith}
use Rattle.text_line.proofs.Digits.{reading_on, not_digit, too_large, sized_none}
use Rattle.text_line.proofs.Digits.{sized_is}
use Rattle.text_line.proofs.size_line.Goals as goal

pub returns-then-w-eq0 : goal.returns-then-w-eq0
returns-then-w-eq0 c = sym (sized_none _ c.if-w-eq0.true)

pub returns-then-d-ge10 : goal.returns-then-d-ge10
returns-then-d-ge10 c =
    let lp = c.loop-c in
    sym
    (not_digit _ _ _ lp.invariant.1 (omega arith) _ (c.from-d.ensures ∙ c.digit.ensures.0)
    c.if-d-ge10.true)

pub returns-then-n-gt-LONGEST : goal.returns-then-n-gt-LONGEST
returns-then-n-gt-LONGEST c =
    let lp = c.loop-c in
    sym
    (too_large _ _ _ lp.invariant.1 (omega arith) _
    (c.from-d.ensures ∙ c.digit.ensures.0) c.if-n-gt-LONGEST.true)

pub loop-c-preserved : goal.loop-c-preserved
loop-c-preserved c =
    let lp = c.loop-c in (
      lp.invariant.0,
      reading_on _ _ _ lp.invariant.1 (omega arith) _
          (c.from-d.ensures ∙ c.digit.ensures.0) c.if-d-ge10.false
          c.if-n-gt-LONGEST.false,
    )

pub returns : goal.returns
returns c =
    let lp = c.loop-c in
    sym (sized_is _ _ _ lp.invariant.1 lp.invariant.0 (omega arith))
