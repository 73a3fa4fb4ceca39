-- What the digits leave as it was, and digits that can be put in again (laws of `track_with_digits_if_possible`).
-- Assumes nothing.
use Rattle.std.specs.Prelude.{◌≡◌, Bool, true, false, List, [], ◌∷◌, ℕ, zero, suc, ◌-◌, ◌/◌, ◌%◌, length, get_or}
use Rattle.basics.specs.Types.{Count, Value}
use Rattle.basics.specs.Number.{nibbles}
use Rattle.basics.specs.Choice.{◌or◌, ◌=?◌, when◌then◌else◌}
use Rattle.mag_stripe.specs.declared.Bitmaps.{Bitmaps}
use Rattle.mag_stripe.specs.Track.{discretionary_data_of, track_padding}
use Rattle.mag_stripe.specs.Bitmap.{bitmap_places_from_one}

-- a place is one of some places
unfoldable pub is_place_among : ℕ → List ℕ → Bool
is_place_among p [] = false
is_place_among p (q ∷ ps) = p =? q or is_place_among p ps

-- a place is named: it is the last digit's, or one of the bitmaps sets it
unfoldable pub is_last_or_in_pcvc3_or_punatc : Bitmaps → ℕ → Bool
is_last_or_in_pcvc3_or_punatc b p =
    p =? 1 or is_place_among p (bitmap_places_from_one b.pcvc3) or is_place_among p (bitmap_places_from_one b.punatc)

-- the track u is t but for the named places of t: as long, and every other nibble as it was
pub record OtherDigitsKept (bitmaps : Bitmaps) (track_before track_after : Value) : Type 0 where
  pub size : length track_after ≡ length track_before
  pub others : (i : ℕ) → is_last_or_in_pcvc3_or_punatc bitmaps ((discretionary_data_of track_before).end - i) ≡ false
      → get_or (nibbles track_after) i 0 ≡ get_or (nibbles track_before) i 0

-- none of the n lowest nibbles of a number is the padding F; the digits of a stored 9F6A are 0 to 9
unfoldable pub none_of_lowest_nibbles_is_f : Count → ℕ → Bool
none_of_lowest_nibbles_is_f zero number = true
none_of_lowest_nibbles_is_f (suc n) number =
    when number % 16 =? track_padding then false else none_of_lowest_nibbles_is_f n (number / 16)
