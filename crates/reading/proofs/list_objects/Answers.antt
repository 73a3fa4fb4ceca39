-- `reading::list_objects` meets its contract: what opens the answer, and the laws of its parts and of a template's
-- objects (proofs/Stages).
-- Assumes nothing.
use Rattle.reading.specs.InnerItems.{unpacked_items}
use Rattle.reading.proofs.Stages.{parts_listed, template_listed}
use Rattle.reading.proofs.list_objects.Goals as goal

pub returns-else-h : goal.returns-else-h
returns-else-h g c = parts_listed _ _ _ _ c.in_ok-h.ensures c.if-h.false c.list_parts.ensures

pub returns-then-h : goal.returns-then-h
unfolding unpacked_items
returns-then-h g c = template_listed _ _ _ _ c.in_ok-h.ensures c.if-h.true _ c.walk.ensures c.close.ensures
