-- The digits that go into the discretionary data of track 2 (document 02, Item 9; Book C-2, S14.25 to S14.27).
-- Assumes nothing.
use Rattle.std.specs.Prelude.{List, [], ◌∷◌, ◌++◌, ℕ, ◌+◌, ◌-◌, ◌*◌, ◌/◌, ◌%◌, take, drop, set}
use Rattle.basics.specs.Types.{Digits, Offset, Value}
use Rattle.basics.specs.Number.{nibbles}
use Rattle.basics.specs.Choice.{when◌then◌else◌}
use Rattle.mag_stripe.specs.declared.Bitmaps.{Bitmaps}
use Rattle.mag_stripe.specs.declared.DigitValues.{DigitValues}
use Rattle.mag_stripe.specs.Track.{discretionary_data_of, packed_nibbles}
use Rattle.mag_stripe.specs.Bitmap.{two_byte_number, bitmap_places_from_one, un_digit_count, track_can_take_digits}

-- the values by the bytes of 9F61, 9F6A and 9F36: the code and the counter are numbers, of 9F6A each nibble is a digit
abbrev pub digit_values_of : Value → Value → Value → DigitValues
digit_values_of cvc3 un atc =
    let digits = two_byte_number un * 65536 + two_byte_number (drop 2 un) in
    record { cvc3 = two_byte_number cvc3; un = digits; atc = two_byte_number atc }

-- a digit and its place, counted from the right, from 1
pub record PlacedDigit : Type 0 where
  pub place : ℕ
  pub digit : ℕ

abbrev pub placed_digit : ℕ → ℕ → PlacedDigit
placed_digit place digit = record { place = place; digit = digit }

-- the lowest digits of a number in a base, one for each place, lowest to lowest: zeros where the number has no more
unfoldable pub lowest_digits_at_places : ℕ → ℕ → List ℕ → List PlacedDigit
lowest_digits_at_places base n [] = []
lowest_digits_at_places base n (p ∷ ps) = placed_digit p (n % base) ∷ lowest_digits_at_places base (n / base) ps

-- S14.26, CVC3 in base 10: its q lowest digits, q the non-zero bits of PCVC3, at the places that PCVC3 sets
abbrev pub cvc3_digits : Bitmaps → DigitValues → List PlacedDigit
cvc3_digits b v = lowest_digits_at_places 10 v.cvc3 (bitmap_places_from_one b.pcvc3)

-- S14.26, the unpredictable number, whose digits are its nibbles: the nUN lowest at the nUN lowest places of PUNATC
abbrev pub un_digits : Bitmaps → DigitValues → List PlacedDigit
un_digits b v = lowest_digits_at_places 16 v.un (take (un_digit_count b) (bitmap_places_from_one b.punatc))

-- S14.26, the counter in base 10: its t lowest digits, t = NATC, at the t highest places of PUNATC, all but nUN
abbrev pub atc_digits : Bitmaps → DigitValues → List PlacedDigit
atc_digits b v = lowest_digits_at_places 10 v.atc (drop (un_digit_count b) (bitmap_places_from_one b.punatc))

-- all of them in the order in which they are written; S14.27, nUN goes to the last digit
unfoldable pub track_digits : Bitmaps → DigitValues → List PlacedDigit
track_digits b v = cvc3_digits b v ++ un_digits b v ++ atc_digits b v ++ placed_digit 1 (un_digit_count b) ∷ []

-- digits written one after the other into nibbles whose discretionary data end at `end`: a later one takes the place
unfoldable pub placed_digits_written_before_end : Offset → List PlacedDigit → Digits → Digits
placed_digits_written_before_end end [] s = s
placed_digits_written_before_end end (d ∷ ds) s = placed_digits_written_before_end end ds (set s (end - d.place) d.digit)

-- the nibbles of a track with the digits in them
abbrev pub track_nibbles_with_digits : Value → Bitmaps → DigitValues → Digits
track_nibbles_with_digits t b v = placed_digits_written_before_end (discretionary_data_of t).end (track_digits b v) (nibbles t)

-- the track with the digits in it; one that cannot take them stays
unfoldable pub track_with_digits_if_possible : Value → Bitmaps → DigitValues → Value
track_with_digits_if_possible t b v = when track_can_take_digits t b then packed_nibbles (track_nibbles_with_digits t b v) else t
