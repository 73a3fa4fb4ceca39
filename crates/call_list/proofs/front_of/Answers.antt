-- `front_of`: one law of the front for each way out.
-- Assumes nothing.
use mathlib.Core.Path.{sym, ◌∙◌}
use Rattle.call_list.proofs.Read.{front_short, front_kind, front_outside, front_call}
use Rattle.call_list.proofs.front_of.Goals as goal
use Rattle.call_list.proofs.front_of.Goals.{else-is_kind-via-then-is_kind+else-is_inside, else-is_kind-via-else-is_kind}

pub returns-then-s-lt-HEADER : goal.returns-then-s-lt-HEADER
returns-then-s-lt-HEADER c = sym (front_short _ c.if-s-lt-HEADER.true)

pub returns-then-is_inside : goal.returns-then-is_inside
returns-then-is_inside c = sym (front_call _ _ c.header_of-header.ensures c.if-s-lt-HEADER.false (sym c.if-is_kind.ensures)
    (sym c.if-is_inside.ensures))

pub returns : goal.returns
returns c = elim c.else-is_kind.branch [
  | else-is_kind-via-then-is_kind+else-is_inside w ↦ sym (front_outside _ _ c.header_of-header.ensures
      (sym w.is_inside.ensures ∙ w.if-is_inside.false))
  | else-is_kind-via-else-is_kind w ↦ sym (front_kind _ _ c.header_of-header.ensures
      (sym c.is_kind.ensures ∙ w.if-is_kind.false))
]
