-- `host::object_in` meets its contract: each way out is one of the four of an object read back.
-- Assumes nothing.
use mathlib.Core.Path.{sym, ◌∙◌}
use native.Mathlib.Omega.{arith}
use Rattle.host.proofs.Objects.{value_small, object_unknown, object_absent, object_needed, object_copied}
use Rattle.host.proofs.object_in.Goals as goal

pub returns-in_default : goal.returns-in_default
returns-in_default c = object_unknown _ _ _ (sym c.lookup_row.ensures.found ∙ c.in_default.is)

pub returns-then-not-is_present : goal.returns-then-not-is_present
returns-then-not-is_present c =
    object_absent _ _ _ _ (sym c.lookup_row.ensures.found ∙ c.in-Some.is)
    (sym c.is_present.ensures ∙ c.if-not-is_present.true)

pub overflow_cast-size : goal.overflow_cast-size
overflow_cast-size c =
    omega (arith, value_small _ _ _ _ (sym c.lookup_row.ensures.found ∙ c.in-Some.is) c.value-v.ensures)

pub overflow_add-result : goal.overflow_add-result
overflow_add-result c =
    omega (arith, value_small _ _ _ _ (sym c.lookup_row.ensures.found ∙ c.in-Some.is) c.value-v.ensures)

pub returns-then-value-v : goal.returns-then-value-v
returns-then-value-v c =
    object_needed _ _ _ _ (sym c.lookup_row.ensures.found ∙ c.in-Some.is)
    (sym c.is_present.ensures ∙ c.if-not-is_present.false) _ c.value-v.ensures c.if-value-v.true

pub returns : goal.returns
returns c =
    object_copied _ _ _ _ (sym c.lookup_row.ensures.found ∙ c.in-Some.is)
    (sym c.is_present.ensures ∙ c.if-not-is_present.false) _ c.value-v.ensures _ c.if-value-v.false
    c.copy_from_slice.ensures.after
