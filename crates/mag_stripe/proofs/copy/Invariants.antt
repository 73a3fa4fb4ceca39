-- `mag_stripe::copy` meets its contract. The invariant, `Copying`: the digits that are left, written into the track as
-- it is, give the track of all digits.
-- Assumes nothing.
use mathlib.Core.Path.{◌≡◌}
use lib.ListN.{length}
use Rattle.basics.specs.Number.{nibbles}
use Rattle.mag_stripe.specs.Bitmap.{bitmap_places_from_one}
use Rattle.mag_stripe.proofs.Writing.{Copying}
use Rattle.mag_stripe.proofs.copy.Given as goal

abbrev pub invariant-loop-copied : goal.invariant-loop-copied
invariant-loop-copied l =
    (length l.track ≡ length l.initial.track) × Copying l.end l.base l.number l.count (bitmap_places_from_one l.bitmap) (nibbles l.initial.track) l._copied
    l.left (bitmap_places_from_one l.rest) (nibbles l.track)
