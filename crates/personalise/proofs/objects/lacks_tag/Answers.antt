-- `objects::lacks_tag` meets its contract. The invariant: what is left is a run without the tag exactly where the whole
-- is. The measure is the length of what is left. Assumes nothing.
use mathlib.Core.Path.{sym, ◌∙◌}
use native.Mathlib.Omega.{arith}
use borrow.Author.Tests.{eqb-true, eqb-false}
use Rattle.personalise.proofs.Listed.{lacks_end, lacks_broken, lacks_here, lacks_on, rest_less}
use Rattle.personalise.proofs.objects.lacks_tag.Goals as goal

pub returns-in_default : goal.returns-in_default
returns-in_default c =
    sym (c.loop-s.invariant.0 ∙ lacks_broken _ (eqb-false _ _ (sym c.is_empty.ensures ∙ c.loop-s-test.true)) _
    (sym c.primitive_at_front.ensures ∙ c.in_default.is))

pub returns-then-h-tag : goal.returns-then-h-tag
returns-then-h-tag c =
    let e = sym c.primitive_at_front.ensures ∙ c.in-Some.is in
    sym (c.loop-s.invariant.0 ∙ lacks_here _ _ e _ c.if-h-tag.true)

pub loop-s-smaller : goal.loop-s-smaller
loop-s-smaller c =
    let e = sym c.primitive_at_front.ensures ∙ c.in-Some.is in
    rest_less _ _ e

pub loop-s-preserved : goal.loop-s-preserved
loop-s-preserved c =
    let e = sym c.primitive_at_front.ensures ∙ c.in-Some.is in
    let l = rest_less _ _ e in (
      c.loop-s.invariant.0 ∙ lacks_on _ _ e _ c.if-h-tag.false,
      omega (arith, c.loop-s.invariant.1),
    )

pub returns : goal.returns
returns c = sym (c.loop-s.invariant.0 ∙ lacks_end _ _ (eqb-true _ _ (sym c.is_empty.ensures ∙ c.loop-s-test.false)))
