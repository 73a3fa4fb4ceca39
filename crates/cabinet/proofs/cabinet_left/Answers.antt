-- `cabinet::cabinet_left` meets its contract: the tests of a state, then the session's ranges.
-- Assumes nothing.
use mathlib.Core.Path.{sym, ap, ◌∙◌}
use native.Mathlib.Omega.{arith}
use Rattle.basics.proofs.Laws.{if_yes, if_no}
use Rattle.cabinet.specs.Calls.{remaining_amount_or_all_ones}
use Rattle.cabinet.proofs.Laws.{state_refused, state_taken}
use Rattle.cabinet.proofs.cabinet_left.Goals as goal

pub returns-in_default : goal.returns-in_default
returns-in_default c = sym (ap remaining_amount_or_all_ones (state_refused _ (sym c.holding_in.ensures ∙ c.in_default.is)))

pub slice_bounds-store-end : goal.slice_bounds-store-end
slice_bounds-store-end c = omega (arith, (state_taken _ _ (sym c.holding_in.ensures ∙ c.in-Some.is)).enough)

pub returns-then-not-session_parts_in_ranges : goal.returns-then-not-session_parts_in_ranges
returns-then-not-session_parts_in_ranges c =
    sym
    (ap remaining_amount_or_all_ones
    ((state_taken _ _ (sym c.holding_in.ensures ∙ c.in-Some.is)).held
    ∙ if_no _ _ (sym c.session_parts_in_ranges.ensures ∙ c.if-not-session_parts_in_ranges.true)))

pub returns : goal.returns
returns c =
    sym
    (ap remaining_amount_or_all_ones
    ((state_taken _ _ (sym c.holding_in.ensures ∙ c.in-Some.is)).held
    ∙ if_yes _ _ (sym c.session_parts_in_ranges.ensures ∙ c.if-not-session_parts_in_ranges.false)))
