-- `cabinet::cabinet_start` meets its contract: a call that is not taken by its law; else the ranges, then a session that
-- runs; else a start on a fresh one.
-- Assumes nothing.
use mathlib.Core.Path.{sym, subst, ◌∙◌}
use native.Mathlib.Omega.{arith}
use Rattle.basics.specs.Reason.{refusal_record_out_of_ranges, refusal_wrong_phase}
use Rattle.cabinet.specs.Calls.{ReturnsCabinetResult, start_on_cabinet}
use Rattle.cabinet.proofs.Laws.{over_refused, over_taken, over_ranged, ranged_in, ranged_out, did_refuse}
use Rattle.cabinet.proofs.Laws.{start_running, start_idle}
use Rattle.cabinet.proofs.cabinet_start.Goals as goal

pub returns-in-Err : goal.returns-in-Err
returns-in-Err c =
    let a = c.args in
    over_refused _ _ (start_on_cabinet a.terminal.now a.state.now a.command.now) _ c.admit.ensures c.in-Err.is

pub slice_bounds-session_parts_in_ranges-end : goal.slice_bounds-session_parts_in_ranges-end
slice_bounds-session_parts_in_ranges-end c = omega (arith, (over_taken _ _ _ c.admit.ensures c.in-Ok.is).told.enough)

pub returns-then-not-session_parts_in_ranges : goal.returns-then-not-session_parts_in_ranges
returns-then-not-session_parts_in_ranges c =
    let a = c.args in
    let does = start_on_cabinet a.terminal.now a.state.now a.command.now in
    did_refuse refusal_record_out_of_ranges c.refusal_word.ensures
    (over_ranged _ _ does _ (over_taken _ _ _ c.admit.ensures c.in-Ok.is)
    ∙ ranged_out does _ _ _ (sym c.session_parts_in_ranges.ensures ∙ c.if-not-session_parts_in_ranges.true))

pub returns-then-is_running : goal.returns-then-is_running
returns-then-is_running c =
    let a = c.args in
    let does = start_on_cabinet a.terminal.now a.state.now a.command.now in
    let k = over_taken _ _ _ c.admit.ensures c.in-Ok.is in
    let kept = sym c.session_parts_in_ranges.ensures ∙ c.if-not-session_parts_in_ranges.false in
    did_refuse refusal_wrong_phase c.refusal_word-then-is_running.ensures
    (over_ranged _ _ does _ k ∙ ranged_in does _ _ _ kept
    ∙ start_running _ a.terminal.now a.state.now a.command.now k.room kept c.in-Ok.holding.amounts.remaining c.in-Ok.holding.amounts.reserved
    (sym c.is_running.ensures ∙ c.if-is_running.true))

pub start_fresh-requires : goal.start_fresh-requires
start_fresh-requires c =
    let k = over_taken _ _ _ c.admit.ensures c.in-Ok.is in
    record {
      cabinet_state_size_in_bounds = k.told.enough;
      least_buffer_in_bounds = k.room;
      remaining_le_greatest_twelve_digit_amount = omega (arith, k.told.fits);
    }

pub returns : goal.returns
returns c =
    let a = c.args in
    let does = start_on_cabinet a.terminal.now a.state.now a.command.now in
    let k = over_taken _ _ _ c.admit.ensures c.in-Ok.is in
    let kept = sym c.session_parts_in_ranges.ensures ∙ c.if-not-session_parts_in_ranges.false in
    subst (ReturnsCabinetResult _ _ _)
    (sym
    (over_ranged _ _ does _ k ∙ ranged_in does _ _ _ kept
    ∙ start_idle _ a.terminal.now a.state.now a.command.now k.room kept c.in-Ok.holding.amounts.remaining c.in-Ok.holding.amounts.reserved
    (sym c.is_running.ensures ∙ c.if-is_running.false)))
    c.start_fresh.ensures
