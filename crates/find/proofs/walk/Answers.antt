-- `find::walk` meets its contract. The invariant is `Reached` (proofs/Steps), which has a law for each way through an
-- iteration. The measure counts what is left twice and each open template once: an object takes two bytes at least, and
-- an end closes a template.
-- Assumes nothing.
use mathlib.Core.Path.{sym, ap, ◌∙◌}
use native.Mathlib.Omega.{arith}
use mathlib.Core.List.{[], ◌∷◌}
use lib.ListN.{length}
use Rattle.find.proofs.Steps.{ends_none, begin, done, failed, close, deep, leaf, push, bounds}
use Rattle.find.proofs.walk.Goals as goal

pub objects-init : goal.objects-init
objects-init c = rw (ends_none (0 ∷ 0 ∷ 0 ∷ 0 ∷ [])) (begin _ _)

pub returns-in-Malformed : goal.returns-in-Malformed
returns-in-Malformed c = failed c.objects.invariant (sym c.next_behind_padding.ensures ∙ c.in-Malformed.is)

pub returns-in_default : goal.returns-in_default
returns-in_default c =
    done c.objects.invariant (sym c.next_behind_padding.ensures ∙ c.in-End.is) c.in_default.ensures

pub objects-preserved-in-End : goal.objects-preserved-in-End
objects-preserved-in-End c =
    close c.objects.invariant (sym c.next_behind_padding.ensures ∙ c.in-End.is) _ _ c.in-Some.ensures

pub overflow_add-start : goal.overflow_add-start
overflow_add-start c =
    let i = bounds c.objects.invariant c.in-Inner.h (sym c.next_behind_padding.ensures ∙ c.in-Inner.is) in omega arith

pub overflow_add-e : goal.overflow_add-e
overflow_add-e c =
    let i = bounds c.objects.invariant c.in-Inner.h (sym c.next_behind_padding.ensures ∙ c.in-Inner.is) in omega arith

pub returns-then-not-push : goal.returns-then-not-push
returns-then-not-push c =
    deep c.objects.invariant c.in-Inner.h (sym c.next_behind_padding.ensures ∙ c.in-Inner.is) c.if-h.true
    c.if-not-push.ensures

pub objects-smaller-then-h : goal.objects-smaller-then-h
objects-smaller-then-h c =
    let i = bounds c.objects.invariant c.in-Inner.h (sym c.next_behind_padding.ensures ∙ c.in-Inner.is) in
    let l = ap length c.if-not-push.ensures.1 in
    omega arith

pub objects-preserved-then-h : goal.objects-preserved-then-h
objects-preserved-then-h c =
    rw c.if-not-push.ensures.1
    (push c.objects.invariant c.in-Inner.h (sym c.next_behind_padding.ensures ∙ c.in-Inner.is) _ c.first-found.ensures
    c.if-h.true c.if-not-push.ensures.0)

pub objects-smaller : goal.objects-smaller
objects-smaller c =
    let i = bounds c.objects.invariant c.in-Inner.h (sym c.next_behind_padding.ensures ∙ c.in-Inner.is) in omega arith

pub objects-preserved : goal.objects-preserved
objects-preserved c =
    leaf c.objects.invariant c.in-Inner.h (sym c.next_behind_padding.ensures ∙ c.in-Inner.is) _ c.first-found.ensures
    c.if-h.false
