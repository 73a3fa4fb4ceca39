-- The object lies inside the bytes.
use Rattle.std.proofs.Common.{arith, sym, ◌∙◌}
use Rattle.tlv.proofs.Primitives.{primitive_fits}
use Rattle.replay.proofs.why.first_of.Goals as goal

pub overflow_add-result : goal.overflow_add-result
overflow_add-result c =
    let fits = primitive_fits _ _ (sym c.primitive_at_front.ensures ∙ c.in-Some.is) in
    omega arith

pub returns : goal.returns
returns c =
    let fits = primitive_fits _ _ (sym c.primitive_at_front.ensures ∙ c.in-Some.is) in
    omega arith
