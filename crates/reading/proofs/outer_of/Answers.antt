-- `reading::outer_of` meets its contract: an object's value lies in its bytes.
-- Assumes nothing.
use mathlib.Core.Path.{sym, ◌∙◌}
use native.Mathlib.Omega.{arith}
use Rattle.tlv.proofs.Laws.{header_fits}
use Rattle.reading.proofs.outer_of.Goals as goal

pub overflow_add-h : goal.overflow_add-h
overflow_add-h c = omega (arith, (header_fits _ _ (sym c.object_header.ensures ∙ c.in_ok-h.was)).inside)
