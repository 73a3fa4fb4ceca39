-- `session::start` meets its contract: that of `start_on_parts`, with the store that it left.
-- Assumes nothing.
use mathlib.Core.Path.{◌∙◌}
use Rattle.session.proofs.start.Goals as goal

pub returns : goal.returns
returns c =
    let d = c.start_on_parts-transition.ensures in
    record { reply = c.reply_of.ensures ∙ d.reply; buffer = d.buffer }
