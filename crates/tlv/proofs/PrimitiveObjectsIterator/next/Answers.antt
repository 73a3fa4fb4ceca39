-- `PrimitiveObjects` gives the objects at the front of its bytes in order: by whether one is at the front.
-- Assumes nothing.
use mathlib.Core.Path.{sym, ap, ◌∙◌}
use native.Mathlib.Omega.{arith}
use lib.ListN.{length}
use Rattle.tlv.proofs.Primitives.{leading_broken, leading_object}
use Rattle.tlv.proofs.PrimitiveObjectsIterator.next.Goals as goal

pub returns-in_err-h-clause-steps : goal.returns-in_err-h-clause-steps
returns-in_err-h-clause-steps c =
    let n = leading_broken _ (sym c.primitive_at_front.ensures ∙ c.in_err-h.was) in
    rw c.from_residual.ensures (n, n)

pub returns : goal.returns
returns c =
    let e = leading_object _ _ (sym c.primitive_at_front.ensures ∙ c.in_ok-h.was) in
    let l = ap length e in
    record { steps = e; goes = record { on = λ f. (tt, tt, omega arith); keeps = tt; rests = λ f. tt } }
