-- `host::perform` meets its contract: the two refusals of a call; else the step on the record's session, whose store is
-- borrowed in its place.
-- Assumes nothing.
use borrow.Author.Rules.{rules}
use mathlib.Core.Path.{sym, ◌∙◌}
use Rattle.layout.proofs.Laws.{held_some}
use Rattle.host.proofs.Laws.{over_short, over_none, over-step}
use Rattle.host.proofs.perform.Goals as goal

pub returns-then-command-lt-LEAST_BUFFER : goal.returns-then-command-lt-LEAST_BUFFER
returns-then-command-lt-LEAST_BUFFER g c s t = over_short s _ _ c.if-command-lt-LEAST_BUFFER.true _ c.refusal_word.ensures

pub returns-in_default : goal.returns-in_default
returns-in_default g c s t =
    over_none s _ _ c.if-command-lt-LEAST_BUFFER.false (sym c.decode_record_head.ensures ∙ c.in_default.is) _
    c.refusal_word-in_default.ensures

pub slice_bounds-step-end : goal.slice_bounds-step-end
slice_bounds-step-end g c = (held_some _ _ (sym c.decode_record_head.ensures ∙ c.in-Some.is)).0

pub returns : goal.returns
returns g c s t =
    over-step s _ _ c.if-command-lt-LEAST_BUFFER.false c.in-Some.head (sym c.decode_record_head.ensures ∙ c.in-Some.is) _
    _ _ c.step-transition.new.arg4 c.step-transition.result (t _ _ _ _ _ _ _ c.step-transition.ensures) (search rules)
    c.result_word.ensures c.write_record_head.ensures
