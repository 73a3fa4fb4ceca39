-- `reading::open` meets its contract: decided by how the answer begins, or by the body's one object (proofs/Stages).
-- Assumes nothing.
use mathlib.Core.Path.{sym, ◌∙◌}
use native.Mathlib.Omega.{arith}
use Rattle.reading.proofs.Stages.{body_length, begin_opened, object_opened}
use Rattle.reading.proofs.open.Goals as goal

pub slice_bounds-outer_of-end : goal.slice_bounds-outer_of-end
slice_bounds-outer_of-end c = sym (body_length _ _ _ (sym c.begin.ensures ∙ c.in-Ok.is))

pub returns-in-Err : goal.returns-in-Err
returns-in-Err c = begin_opened _ _ _ (sym c.begin.ensures ∙ c.in-Err.is)

pub returns-in-Ok : goal.returns-in-Ok
returns-in-Ok c =
    object_opened _ _ _ (sym c.begin.ensures ∙ c.in-Ok.is) (λ i. omega (arith, c.type_inv.answer i)) c.outer_of.ensures c.malformed.ensures
    c.ok_or.ensures.value
