-- `session::values_in` meets its contract: each part is the bytes of its row.
-- Assumes nothing.
use mathlib.Core.Path.{◌∙◌}
use Rattle.dictionary.proofs.Named.{at_9f36, at_9f61, at_9f6a}
use Rattle.session_record.proofs.Tags.{bytes_are}
use Rattle.mag_stripe.specs.Digits.{digit_values_of}
use Rattle.session.proofs.Laws.{three}
use Rattle.session.proofs.values_in.Goals as goal

pub returns : goal.returns
returns c =
    c.digit_values_of.ensures
    ∙ three digit_values_of (c.value-code.ensures ∙ bytes_are _ _ _ at_9f61)
    (c.value-number.ensures ∙ bytes_are _ _ _ at_9f6a)
    (c.value.ensures ∙ bytes_are _ _ _ at_9f36)
