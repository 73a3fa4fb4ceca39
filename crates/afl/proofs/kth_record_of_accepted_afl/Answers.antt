-- `afl::kth_record_of_accepted_afl` meets its contract: what `check_afl` said is whether the AFL is accepted, and
-- `seek` finds at place k - 1.
-- Assumes nothing.
use mathlib.Core.Path.{sym, ◌∙◌}
use native.Mathlib.Omega.{arith}
use Rattle.afl.proofs.Laws.{is_accepted, is_rejected, record_yes, record_no, kth_nth, kth_zero}
use Rattle.afl.proofs.kth_record_of_accepted_afl.Goals as goal

pub returns-in_err-check_afl : goal.returns-in_err-check_afl
returns-in_err-check_afl c =
    c.from_residual.ensures ∙ sym (record_no _ _ (is_rejected _ (sym c.check_afl.ensures.said ∙ c.in_err-check_afl.was)))

pub returns-in_err-checked_sub : goal.returns-in_err-checked_sub
returns-in_err-checked_sub c =
    let a = (is_accepted _ _ (sym c.check_afl.ensures.said ∙ c.in_ok-check_afl.was)).0 in
    c.from_residual-in_err-checked_sub.ensures ∙ sym (record_yes _ _ a ∙ kth_zero _ _ (omega arith))

pub returns : goal.returns
returns c =
    let a = (is_accepted _ _ (sym c.check_afl.ensures.said ∙ c.in_ok-check_afl.was)).0 in
    c.seek.ensures ∙ rw c.in_ok-checked_sub.ensures.1 (sym (record_yes _ _ a ∙ kth_nth _ _ (omega arith)))
