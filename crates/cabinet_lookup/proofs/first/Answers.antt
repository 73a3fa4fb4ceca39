-- `cabinet_lookup::first` meets its contract. The invariant is `Reached` (proofs/Laws), which has a law for each way
-- through an iteration. The measure is what remains: an object takes two bytes at least.
-- Assumes nothing.
use mathlib.Core.Path.{sym, ◌∙◌}
use native.Mathlib.Omega.{arith}
use Rattle.cabinet_lookup.proofs.Laws.{begin, stopped, bounds, met, passed}
use Rattle.cabinet_lookup.proofs.first.Goals as goal

pub loop-h-init : goal.loop-h-init
loop-h-init c = begin _ _

pub returns-in_err-h : goal.returns-in_err-h
returns-in_err-h c =
    c.from_residual.ensures ∙ sym (stopped _ _ c.loop-h.invariant (sym c.primitive_at_front.ensures ∙ c.in_err-h.was))

pub overflow_add-start : goal.overflow_add-start
overflow_add-start c =
    let i = bounds _ _ c.loop-h.invariant c.in_ok-h.h (sym c.primitive_at_front.ensures ∙ c.in_ok-h.was) in omega arith

pub returns-then-h-tag : goal.returns-then-h-tag
returns-then-h-tag c =
    sym (met _ _ c.loop-h.invariant c.in_ok-h.h (sym c.primitive_at_front.ensures ∙ c.in_ok-h.was) c.if-h-tag.true)

pub overflow_add-at : goal.overflow_add-at
overflow_add-at c =
    let i = bounds _ _ c.loop-h.invariant c.in_ok-h.h (sym c.primitive_at_front.ensures ∙ c.in_ok-h.was) in omega arith

pub loop-h-smaller : goal.loop-h-smaller
loop-h-smaller c =
    let i = bounds _ _ c.loop-h.invariant c.in_ok-h.h (sym c.primitive_at_front.ensures ∙ c.in_ok-h.was) in omega arith

pub loop-h-preserved : goal.loop-h-preserved
loop-h-preserved c =
    passed _ _ c.loop-h.invariant c.in_ok-h.h (sym c.primitive_at_front.ensures ∙ c.in_ok-h.was) c.if-h-tag.false
