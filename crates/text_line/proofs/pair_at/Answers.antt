-- `text_line::pair_at` meets its contract. By the length and the two digits.
-- Assumes nothing.
use mathlib.Core.Path.{sym, ◌∙◌}
use borrow.Author.Tests.{lt-ltb, le-ltb}
use Rattle.basics.proofs.Laws.{if_yes, if_no, both_yes, both_no_left, both_no_right}
use Rattle.text_line.proofs.Digits.{pair_short, pair_is}
use Rattle.text_line.proofs.pair_at.Goals as goal
use Rattle.text_line.proofs.pair_at.Goals.{else-high-lt16-via-then-high-lt16+else-low-lt16, else-high-lt16-via-else-high-lt16}

pub returns-in_default : goal.returns-in_default
returns-in_default c = sym (pair_short _ c.in_default.len_below)

pub returns-then-low-lt16 : goal.returns-then-low-lt16
returns-then-low-lt16 c =
    let d = c.digit-high in
    let e = c.digit-low in
    rw (d.ensures.0, e.ensures.0)
    (sym (pair_is _ c.in-len2-up.len_at_least
    ∙ if_yes _ _ (both_yes _ _ (rw (← d.ensures.0) (lt-ltb _ 16 c.if-high-lt16.true))
    (rw (← e.ensures.0) (lt-ltb _ 16 c.if-low-lt16.true)))))

pub returns-else-high-lt16 : goal.returns-else-high-lt16
returns-else-high-lt16 c =
    let d = c.digit-high in
    let e = c.digit-low in
    elim c.else-high-lt16.branch [
      | else-high-lt16-via-then-high-lt16+else-low-lt16 w ↦ sym (pair_is _ c.in-len2-up.len_at_least
          ∙ if_no _ _ (both_no_right _ _ (rw (← e.ensures.0) (le-ltb _ 16 w.if-low-lt16.false))))
      | else-high-lt16-via-else-high-lt16 w ↦ sym (pair_is _ c.in-len2-up.len_at_least
          ∙ if_no _ _ (both_no_left _ _ (rw (← d.ensures.0) (le-ltb _ 16 w.if-high-lt16.false))))
    ]
