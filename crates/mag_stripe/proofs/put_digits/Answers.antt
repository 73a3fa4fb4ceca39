-- `mag_stripe::put_digits` meets its contract: of a track that can take the digits by the laws of a filled one, and any
-- other stays.
-- Assumes nothing.
use mathlib.Core.Path.{sym, ◌∙◌}
use Rattle.mag_stripe.proofs.Laws.{filled_sound, filled_unsound, kept_sound, kept_unsound, twice_sound}
use Rattle.mag_stripe.proofs.put_digits.Goals as goal

pub returns-then-can_take_digits : goal.returns-then-can_take_digits
returns-then-can_take_digits c = let a = c.args in
    let s = sym c.can_take_digits.ensures ∙
    c.if-can_take_digits.true in
    let e = c.write_digits.ensures in record { digits = filled_sound _ _ _ _ s e; kept = kept_sound a.track.now _ _ _ s c.write_digits.auto.track e; twice = twice_sound a.track.now _ _ _ s e }

pub returns-else-can_take_digits : goal.returns-else-can_take_digits
returns-else-can_take_digits c = let a = c.args in
    let s = sym c.can_take_digits.ensures ∙ c.if-can_take_digits.false in record { digits = filled_unsound _ _ _ s; kept = kept_unsound _ _; twice = λ h. sym (filled_unsound a.track.now _ _ s) }
