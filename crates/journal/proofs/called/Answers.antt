-- `journal::called` meets its contract: by the kind.
-- Assumes nothing.
use native.Mathlib.Omega.{arith}
use mathlib.Core.Path.{sym, ap, ◌∙◌}
use Rattle.journal.proofs.Due.{stands_as}
use Rattle.journal.proofs.Reading.{size_start, size_answer, kind_start, kind_answer, kind_link, kind_stop}
use Rattle.journal.proofs.Reading.{kind_none}
use Rattle.journal.specs.Verdict.{judge_call}
use Rattle.journal.proofs.called.Goals as goal

pub started-requires : goal.started-requires
started-requires c = c.requires ∙ size_start _ (sym c.byte_at.ensures ∙ c.in-1.is)

pub answered-requires : goal.answered-requires
answered-requires c = c.requires ∙ size_answer _ (sym c.byte_at.ensures ∙ c.in-2.is)

pub returns-in-1 : goal.returns-in-1
returns-in-1 c = stands_as c.args.standing (ap (judge_call _) (sym (kind_start _ (sym c.byte_at.ensures ∙ c.in-1.is))))
    c.started.ensures

pub returns-in-2 : goal.returns-in-2
returns-in-2 c = stands_as c.args.standing (ap (judge_call _) (sym (kind_answer _ (sym c.byte_at.ensures ∙ c.in-2.is))))
    c.answered.ensures

pub returns-in-3 : goal.returns-in-3
returns-in-3 c = stands_as c.args.standing (ap (judge_call _) (sym (kind_link _ (sym c.byte_at.ensures ∙ c.in-3.is))))
    c.link_failed.ensures

pub returns-in-4 : goal.returns-in-4
returns-in-4 c = stands_as c.args.standing (ap (judge_call _) (sym (kind_stop _ (sym c.byte_at.ensures ∙ c.in-4.is))))
    c.stopped.ensures

pub returns-in_default : goal.returns-in_default
returns-in_default c = let k = c.byte_at.ensures in
    stands_as c.args.standing (ap (judge_call _) (sym (kind_none _ (omega arith) (omega arith) (omega arith) (omega arith))))
    c.wrong.ensures
