-- `objects::keeps` meets its contract. The invariant: what is left satisfies the rules, from the next number on,
-- exactly where the whole does. The measure is the length of what is left. Assumes nothing.
use mathlib.Core.Path.{sym, ◌∙◌}
use native.Mathlib.Omega.{arith}
use borrow.Author.Tests.{eqb-true, eqb-false}
use Rattle.personalise.proofs.Listed.{keeps_end, keeps_broken, run_not_set, run_twice, run_not_once, run_next, rest_less}
use Rattle.personalise.proofs.objects.keeps.Goals as goal

pub returns-in_default : goal.returns-in_default
returns-in_default c =
    sym (c.loop-s.invariant.0 ∙ keeps_broken _ (eqb-false _ _ (sym c.is_empty.ensures ∙ c.loop-s-test.true)) _ _
    (sym c.primitive_at_front.ensures ∙ c.in_default.is))

pub returns-then-not-is_settable : goal.returns-then-not-is_settable
returns-then-not-is_settable c =
    let e = sym c.primitive_at_front.ensures ∙ c.in-Some.is in
    sym (c.loop-s.invariant.0 ∙ run_not_set _ _ e _ _ (sym c.is_settable.ensures ∙ c.if-not-is_settable.true))

pub returns-then-not-lacks_tag : goal.returns-then-not-lacks_tag
returns-then-not-lacks_tag c =
    let e = sym c.primitive_at_front.ensures ∙ c.in-Some.is in
    sym (c.loop-s.invariant.0 ∙ run_twice _ _ e _ _ (sym c.lacks_tag.ensures ∙ c.if-not-lacks_tag.true))

pub returns-then-count_named-ne1 : goal.returns-then-count_named-ne1
returns-then-count_named-ne1 c =
    let e = sym c.primitive_at_front.ensures ∙ c.in-Some.is in
    sym (c.loop-s.invariant.0 ∙ run_not_once _ _ e _ _
    (λ q. c.if-count_named-ne1.true (c.count_named.ensures ∙ q)))

pub loop-s-smaller : goal.loop-s-smaller
loop-s-smaller c =
    let e = sym c.primitive_at_front.ensures ∙ c.in-Some.is in
    rest_less _ _ e

pub loop-s-preserved : goal.loop-s-preserved
loop-s-preserved c =
    let e = sym c.primitive_at_front.ensures ∙ c.in-Some.is in
    let l = rest_less _ _ e in (
      c.loop-s.invariant.0
          ∙ run_next _ _ e _ _ (sym c.is_settable.ensures ∙ c.if-not-is_settable.false)
          (sym c.lacks_tag.ensures ∙ c.if-not-lacks_tag.false)
          (sym c.count_named.ensures ∙ c.if-count_named-ne1.false),
      omega (arith, c.loop-s.invariant.1),
    )

pub returns : goal.returns
returns c = sym (c.loop-s.invariant.0 ∙ keeps_end _ _ _ (eqb-true _ _ (sym c.is_empty.ensures ∙ c.loop-s-test.false)))
