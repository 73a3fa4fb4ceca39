-- `text_line::uncommented` meets its contract. The front part that has no comment sign.
-- Assumes nothing.
use Rattle.text_line.proofs.Text.{front_is}
use Rattle.text_line.proofs.uncommented.Goals as goal

pub returns : goal.returns
returns c = front_is _ _ _ c.front_length-n.ensures.0
