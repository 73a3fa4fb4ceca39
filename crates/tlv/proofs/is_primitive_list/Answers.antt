-- `tlv::is_primitive_list` meets its contract. The invariant: what is left is a run exactly where the whole is. The
-- measure is its length.
-- Assumes nothing.
use mathlib.Core.Path.{sym, ◌∙◌}
use native.Mathlib.Omega.{arith}
use lib.ListN.{length-take, length-drop}
use Rattle.tlv.proofs.Primitives.{primitive_fits, is_run_stopped, is_run_on}
use Rattle.tlv.proofs.is_primitive_list.Goals as goal

pub loop-h-smaller : goal.loop-h-smaller
loop-h-smaller c =
    let f = primitive_fits _ _ (sym c.primitive_at_front.ensures ∙ c.in-Some.is) in
    simp (length-take, length-drop) (omega arith)

pub loop-h-preserved : goal.loop-h-preserved
loop-h-preserved c =
    let e = sym c.primitive_at_front.ensures ∙ c.in-Some.is in
    let f = primitive_fits _ _ e in (
      c.loop-h.invariant.0 ∙ is_run_on _ (λ z. omega arith) _ e,
      simp (length-take, length-drop) (omega arith),
    )

pub returns : goal.returns
returns c =
    c.is_empty.ensures
    ∙ sym (c.loop-h.invariant.0 ∙ is_run_stopped _ (sym c.primitive_at_front.ensures ∙ c.in_default.is))
