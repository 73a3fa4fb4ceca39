-- `measure`: what is requested so far, with what the rest requests, is what the list requests. The rest shrinks.
-- Assumes nothing.
use mathlib.Core.Path.{sym, ◌∙◌}
use native.Mathlib.Omega.{arith}
use lib.ListN.{length-take, length-drop}
use borrow.Author.Tests.{eqb-true, eqb-false}
use Rattle.dol.proofs.Entries.{entry_inside, measured_from_lem, measured_end, measured_broken}
use Rattle.dol.proofs.Entries.{measured_next, measured_long}
use Rattle.dol.proofs.measure.Goals as goal

pub loop-rest-init : goal.loop-rest-init
loop-rest-init c = (measured_from_lem _, omega arith)

pub returns-in_err-entry : goal.returns-in_err-entry
returns-in_err-entry c =
    let lp = c.loop-rest in
    c.from_residual.ensures ∙ sym (lp.invariant.0 ∙ measured_broken lp.total lp.rest.now (eqb-false _ _ (sym c.loop-rest-test.ensures))
    (sym c.entry_at.ensures ∙ c.in_err-entry.was))

pub returns-then-total-gt255 : goal.returns-then-total-gt255
returns-then-total-gt255 c =
    let lp = c.loop-rest in
    sym (lp.invariant.0 ∙ measured_next _ _ c.entry_at.ensures c.in_ok-entry.was c.from-total.ensures ∙ measured_long _ _ c.if-total-gt255.true)

pub slice_bounds-rest-count : goal.slice_bounds-rest-count
slice_bounds-rest-count c =
    let i = entry_inside _ _ _ (sym c.entry_at.ensures ∙ c.in_ok-entry.was) in omega arith

pub slice_bounds-rest-start : goal.slice_bounds-rest-start
slice_bounds-rest-start c =
    let i = entry_inside _ _ _ (sym c.entry_at.ensures ∙ c.in_ok-entry.was) in omega arith

pub slice_bounds-rest-end : goal.slice_bounds-rest-end
slice_bounds-rest-end c =
    let i = entry_inside _ _ _ (sym c.entry_at.ensures ∙ c.in_ok-entry.was) in omega arith

pub loop-rest-smaller : goal.loop-rest-smaller
loop-rest-smaller c =
    let i = entry_inside _ _ _ (sym c.entry_at.ensures ∙ c.in_ok-entry.was) in simp (length-take, length-drop) (omega arith)

pub loop-rest-preserved : goal.loop-rest-preserved
loop-rest-preserved c =
    let lp = c.loop-rest in
    (lp.invariant.0 ∙ measured_next _ _ c.entry_at.ensures c.in_ok-entry.was c.from-total.ensures, c.if-total-gt255.false)

pub returns : goal.returns
returns c =
    let lp = c.loop-rest in
    sym (lp.invariant.0 ∙ measured_end lp.total lp.rest.now (eqb-true _ _ (sym c.loop-rest-test.ensures)) lp.invariant.1)
