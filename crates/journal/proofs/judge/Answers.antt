-- `journal::judge` meets its contract: a call where none is due, else the bytes that are due.
-- Assumes nothing.
use mathlib.Core.Path.{sym, ◌∙◌}
use native.Mathlib.Omega.{arith}
use lib.ListN.{take}
use lib.Seq.{length-take-le}
use Rattle.basics.proofs.Laws.{if_yes, if_no}
use Rattle.journal.proofs.Due.{stands_as, reply_due, same_bytes}
use Rattle.journal.proofs.judge.Goals as goal

pub returns-then-eq : goal.returns-then-eq
returns-then-eq c = let a = c.args in
    let n = length-take-le a.standing.size a.standing.due (omega (arith, c.requires.1)) in
    stands_as a.standing (sym (reply_due _ (take a.standing.size a.standing.due) a.whole.now
    (omega (arith, c.if-standing-eq0.false)) ∙ if_yes _ _ (sym (same_bytes _ _) ∙ sym c.if-eq.ensures))) c.waiting.ensures

pub returns : goal.returns
returns c = let a = c.args in
    let n = length-take-le a.standing.size a.standing.due (omega (arith, c.requires.1)) in
    stands_as a.standing (sym (reply_due _ (take a.standing.size a.standing.due) a.whole.now
    (omega (arith, c.if-standing-eq0.false)) ∙ if_no _ _ (sym (same_bytes _ _) ∙ sym c.if-eq.ensures))) c.wrong.ensures
