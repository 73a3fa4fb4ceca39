-- `cabinet::due` meets its contract: by whether the session runs.
-- Assumes nothing.
use mathlib.Core.Path.{sym, ◌∙◌}
use Rattle.basics.proofs.Laws.{if_yes, if_no}
use Rattle.cabinet.specs.State.{running_session_amount_or_zero}
use Rattle.cabinet.proofs.due.Goals as goal

pub returns-then-is_running : goal.returns-then-is_running
unfolding running_session_amount_or_zero
returns-then-is_running c = c.amount_in.ensures ∙ sym
    (if_yes _ _ (sym c.is_running.ensures ∙ c.if-is_running.true))

pub returns : goal.returns
unfolding running_session_amount_or_zero
returns c = sym (if_no _ _ (sym c.is_running.ensures ∙ c.if-is_running.false))
