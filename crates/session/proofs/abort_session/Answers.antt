-- `session::abort_session` meets its contract: that of `abort`, with the store that it left.
-- Assumes nothing.
use mathlib.Core.Path.{◌∙◌}
use Rattle.session.proofs.abort_session.Goals as goal

pub returns : goal.returns
returns c =
    let d = c.abort-transition.ensures in
    record { reply = c.reply_of.ensures ∙ d.reply; buffer = d.buffer }
