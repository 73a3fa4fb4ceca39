-- `object_header`: what `tag_at` and `length_at` reported is the definition's, and fits, so the sums do; the tag's
-- number begins with the first byte.
-- Assumes nothing.
use Rattle.std.specs.Prelude.{None}
use mathlib.Core.Path.{sym, ◌∙◌}
use native.Mathlib.Omega.{arith}
use Rattle.tlv.proofs.Laws.{tag_fits, header_untagged, header_with, header_read, header_whole, header_short}
use Rattle.tlv.proofs.object_header.Goals as goal

pub returns-in_err-t : goal.returns-in_err-t
returns-in_err-t c =
    c.from_residual.ensures ∙ sym (header_untagged _ (sym c.tag_at.ensures ∙ c.in_err-t.was))

pub slice_bounds-length_at-count : goal.slice_bounds-length_at-count
slice_bounds-length_at-count c = (tag_fits _ c.in_ok-t.t (sym c.tag_at.ensures ∙ c.in_ok-t.was)).inside

pub slice_bounds-length_at-start : goal.slice_bounds-length_at-start
slice_bounds-length_at-start c = let f = slice_bounds-length_at-count c in omega arith

pub returns-in_err-e : goal.returns-in_err-e
returns-in_err-e c =
    c.from_residual-in_err-e.ensures ∙ sym (header_with _ c.in_ok-t.t (sym c.tag_at.ensures ∙ c.in_ok-t.was) None
    (sym c.length_at.ensures ∙ c.in_err-e.was))

pub overflow_add-start : goal.overflow_add-start
overflow_add-start c =
    let r = header_read _ c.in_ok-t.t (sym c.tag_at.ensures ∙ c.in_ok-t.was) (λ i. omega (arith, c.type_inv.s i)) c.in_ok-e.e
    (sym c.length_at.ensures ∙ c.in_ok-e.was) in
    omega arith

pub overflow_add-end : goal.overflow_add-end
overflow_add-end c =
    let r = header_read _ c.in_ok-t.t (sym c.tag_at.ensures ∙ c.in_ok-t.was) (λ i. omega (arith, c.type_inv.s i)) c.in_ok-e.e
    (sym c.length_at.ensures ∙ c.in_ok-e.was) in
    omega arith

pub returns-then-s-end : goal.returns-then-s-end
returns-then-s-end c =
    let r = header_read _ c.in_ok-t.t (sym c.tag_at.ensures ∙ c.in_ok-t.was) (λ i. omega (arith, c.type_inv.s i)) c.in_ok-e.e
    (sym c.length_at.ensures ∙ c.in_ok-e.was) in
    sym (header_short r c.if-s-end.true)

pub bounds-s-0 : goal.bounds-s-0
bounds-s-0 c = let f = tag_fits _ c.in_ok-t.t (sym c.tag_at.ensures ∙ c.in_ok-t.was) in omega arith

pub returns : goal.returns
returns c =
    let r = header_read _ c.in_ok-t.t (sym c.tag_at.ensures ∙ c.in_ok-t.was) (λ i. omega (arith, c.type_inv.s i)) c.in_ok-e.e
    (sym c.length_at.ensures ∙ c.in_ok-e.was) in
    sym (header_whole r c.if-s-end.false)
