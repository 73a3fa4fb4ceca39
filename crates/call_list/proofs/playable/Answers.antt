-- `playable`: what counting the calls reports, and the room.
-- Assumes nothing.
use mathlib.Core.Path.{sym, ◌∙◌}
use native.Mathlib.Omega.{arith}
use Rattle.call_list.proofs.Whole.{says_short, says_played}
use Rattle.call_list.proofs.playable.Goals as goal

pub returns-then-replies-n : goal.returns-then-replies-n
returns-then-replies-n c =
    sym (says_short _ _ _ (sym c.count_calls.ensures ∙ c.in_ok-n.ensures.ok_part) (omega (arith, c.if-replies-n.true)))

pub returns : goal.returns
returns c =
    sym (says_played _ _ _ (sym c.count_calls.ensures ∙ c.in_ok-n.ensures.ok_part) (omega (arith, c.if-replies-n.false)))
