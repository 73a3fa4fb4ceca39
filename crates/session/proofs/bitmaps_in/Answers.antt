-- `session::bitmaps_in` meets its contract: each part is the bytes of its row.
-- Assumes nothing.
use mathlib.Core.Path.{◌∙◌}
use Rattle.dictionary.proofs.Named.{at_9f65, at_9f66, at_9f67}
use Rattle.session_record.proofs.Tags.{bytes_are}
use Rattle.mag_stripe.specs.Bitmap.{bitmaps_of}
use Rattle.session.proofs.Laws.{three}
use Rattle.session.proofs.bitmaps_in.Goals as goal

pub returns : goal.returns
returns c =
    c.bitmaps_of.ensures
    ∙ three bitmaps_of (c.value-pcvc3.ensures ∙ bytes_are _ _ _ at_9f65)
    (c.value-punatc.ensures ∙ bytes_are _ _ _ at_9f66)
    (c.value.ensures ∙ bytes_are _ _ _ at_9f67)
