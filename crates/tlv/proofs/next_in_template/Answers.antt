-- `tlv::next_in_template` meets its contract: what follows the padding. That padding changes no tree holds of all
-- bytes.
-- Assumes nothing.
use Rattle.tlv.proofs.Encoding.{passes_over}
use Rattle.tlv.proofs.next_in_template.Goals as goal

pub returns : goal.returns
returns c = record { next = c.object_behind.ensures; padding = passes_over _ }
