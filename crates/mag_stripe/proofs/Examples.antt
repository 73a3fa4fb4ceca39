-- Worked tracks, by computation: digits that meet, a code and a counter with fewer digits than places, the whole of the
-- discretionary data, and each rule of a sound track at its edge.
-- Assumes nothing.
use mathlib.Core.Path.{◌≡◌, refl}
use mathlib.Core.Bool.{true, false}
use mathlib.Core.List.{List, [], ◌∷◌, ◌++◌, map}
use Prim.Native.Nat.{ℕ, zero, suc, ◌/◌, ◌%◌}
use Rattle.basics.specs.Choice.{if, both, every}
use Rattle.basics.specs.Number.{nibbles}
use Rattle.mag_stripe.specs.declared.Bitmaps.{Bitmaps}
use Rattle.mag_stripe.specs.declared.DigitValues.{DigitValues}
use Rattle.mag_stripe.specs.Track.{nibbles_before, discretionary_data_in_nibbles, packed_nibbles}
use Rattle.mag_stripe.specs.Bitmap.{bitmaps_of, bitmap_places_counted_from, bitmap_places_from_one, bitmap_within}
use Rattle.mag_stripe.specs.Bitmap.{track_can_take_digits}
use Rattle.mag_stripe.specs.Digits.{digit_values_of, lowest_digits_at_places, track_digits}
use Rattle.mag_stripe.specs.Digits.{placed_digits_written_before_end, track_with_digits_if_possible}

-- the n bytes of a number, high one first
abbrev bytes : ℕ → ℕ → List ℕ
bytes zero number = []
bytes (suc n) number = bytes n (number / 256) ++ number % 256 ∷ []

-- 9F65, 9F66, 9F67 and 9F61, 9F6A, 9F36
abbrev bitmaps : ℕ → ℕ → ℕ → Bitmaps
bitmaps p u n = record { pcvc3 = p; punatc = u; natc = n }

abbrev values : ℕ → ℕ → ℕ → DigitValues
values c u a = record { cvc3 = c; un = u; atc = a }

-- thirteen discretionary digits and an F; fourteen and no F; six, with an F before the D and digits after the F
abbrev thirteen : List ℕ
thirteen = bytes 19 0x5413123456784800D25121010000000000000F

abbrev fourteen : List ℕ
fourteen = bytes 19 0x5413123456784800D251210100000000000000

abbrev short : List ℕ
short = bytes 11 0x541FD2512101987654F123

-- b1 is for place 1, the last digit
lowest_first : map bitmap_places_from_one (0x000E ∷ 0x8001 ∷ 0x0000 ∷ []) ≡ (2 ∷ 3 ∷ 4 ∷ []) ∷ (1 ∷ 16 ∷ []) ∷ [] ∷ []
unfolding bitmap_places_from_one bitmap_places_counted_from if
lowest_first = refl

-- from the bytes of the data objects
from_bytes :
    digit_values_of (0x1F ∷ 0x35 ∷ []) (0x98 ∷ 0x76 ∷ 0x54 ∷ 0x32 ∷ []) (0x00 ∷ 0x2A ∷ []) ≡ values 0x1F35 0x98765432
    0x002A
from_bytes = refl

bitmaps_from_bytes : bitmaps_of (0x00 ∷ 0x0E ∷ []) (0x0F ∷ 0xF0 ∷ []) (0x04 ∷ []) ≡ bitmaps 0x000E 0x0FF0 4
bitmaps_from_bytes = refl

-- three digits of the code 7989, four of the number, and four of the counter 42, which has two;
-- number and counter over the code;
-- a code of five digits at twelve places, and no number: nUN, 0, over its lowest digit;
-- six digits of the counter 65535;
-- all eight digits of the number, and no counter
one_padded :
    track_with_digits_if_possible thirteen (bitmaps 0x000E 0x0FF0 4) (values 0x1F35 0x00003456 0x002A)
    ∷ track_with_digits_if_possible thirteen (bitmaps 0x00FF 0x00FF 3) (values 0xFFFF 0x98765432 0xFFFF)
    ∷ track_with_digits_if_possible thirteen (bitmaps 0x0FFF 0x0000 0) (values 0xFFFF 0x00000000 0x0001)
    ∷ track_with_digits_if_possible thirteen (bitmaps 0x0000 0x1FFE 6) (values 0x0000 0x98765432 0xFFFF)
    ∷ track_with_digits_if_possible thirteen (bitmaps 0x1E00 0x01FE 0) (values 0x0007 0x98765432 0xFFFF)
    ∷ []
    ≡ bytes 19 0x5413123456784800D25121010004234569894F
    ∷ bytes 19 0x5413123456784800D25121010000053565435F
    ∷ bytes 19 0x5413123456784800D25121010000000065530F
    ∷ bytes 19 0x5413123456784800D25121010655357654326F
    ∷ bytes 19 0x5413123456784800D25121010007987654328F
    ∷ []
unfolding track_with_digits_if_possible placed_digits_written_before_end track_digits lowest_digits_at_places track_can_take_digits
    bitmap_within bitmap_places_from_one bitmap_places_counted_from discretionary_data_in_nibbles nibbles_before packed_nibbles
    nibbles every both if
one_padded = refl

-- an F before the D is no end, and what is after the first F stays; no F at all: the digits go up to the track's end
other_ends :
    track_with_digits_if_possible short (bitmaps 0x0008 0x0006 1) (values 0x0009 0x00000007 0x0003)
    ∷ track_with_digits_if_possible fourteen (bitmaps 0x0000 0x3FFE 5) (values 0x0000 0x98765432 0xFFFF)
    ∷ []
    ≡ bytes 11 0x541FD2512101989371F123
    ∷ bytes 19 0x5413123456784800D251210165535987654328
    ∷ []
unfolding track_with_digits_if_possible placed_digits_written_before_end track_digits lowest_digits_at_places track_can_take_digits
    bitmap_within bitmap_places_from_one bitmap_places_counted_from discretionary_data_in_nibbles nibbles_before packed_nibbles
    nibbles every both if
other_ends = refl

-- a bitmap past the digits: the track stays
stays : track_with_digits_if_possible thirteen (bitmaps 0x000E 0x2FF0 5) (values 0x1F35 0x00003456 0x002A) ≡ thirteen
unfolding track_with_digits_if_possible track_can_take_digits bitmap_within bitmap_places_from_one bitmap_places_counted_from
    discretionary_data_in_nibbles nibbles_before nibbles every both if
stays = refl

-- a number with a nibble F, which no stored 9F6A has, ends the data: put in again, the digits go elsewhere
padding_in_number :
    track_with_digits_if_possible short (bitmaps 0x0000 0x0006 0) (values 0x0000 0x0000000F 0x0000)
    ∷ track_with_digits_if_possible (track_with_digits_if_possible short (bitmaps 0x0000 0x0006 0)
    (values 0x0000 0x0000000F 0x0000)) (bitmaps 0x0000 0x0006 0) (values 0x0000 0x0000000F 0x0000)
    ∷ []
    ≡ bytes 11 0x541FD25121019870F2F123
    ∷ bytes 11 0x541FD251210190F2F2F123
    ∷ []
unfolding track_with_digits_if_possible placed_digits_written_before_end track_digits lowest_digits_at_places track_can_take_digits
    bitmap_within bitmap_places_from_one bitmap_places_counted_from discretionary_data_in_nibbles nibbles_before packed_nibbles
    nibbles every both if
padding_in_number = refl

-- nUN is 9; NATC is one more than the places; a place past the thirteenth in PUNATC, and in PCVC3
bitmaps_outside : map (track_can_take_digits thirteen)
    (bitmaps 0x0000 0x1FF0 0 ∷ bitmaps 0x0000 0x0FF0 9 ∷ bitmaps 0x000E 0x2FF0 5 ∷ bitmaps 0x2000 0x0000 0 ∷ [])
    ≡ false ∷ false ∷ false ∷ false ∷ []
unfolding track_can_take_digits bitmap_within bitmap_places_from_one bitmap_places_counted_from discretionary_data_in_nibbles
    nibbles_before nibbles every both if
bitmaps_outside = refl

-- nUN is 8, and 0; the thirteenth place in each; no place at all
bitmaps_inside : map (track_can_take_digits thirteen)
    (bitmaps 0x0000 0x0FF0 0 ∷ bitmaps 0x0000 0x0FF0 8 ∷ bitmaps 0x0000 0x1FF0 1 ∷ bitmaps 0x1000 0x0000 0
    ∷ bitmaps 0x0000 0x0000 0 ∷ [])
    ≡ true ∷ true ∷ true ∷ true ∷ true ∷ []
unfolding track_can_take_digits bitmap_within bitmap_places_from_one bitmap_places_counted_from discretionary_data_in_nibbles
    nibbles_before nibbles every both if
bitmaps_inside = refl

-- no bitmap will do: an F among the seven nibbles after the D; no D; the seven alone, before an F and at the end; fewer
-- than seven; no byte
tracks_outside : map (λ t. track_can_take_digits t (bitmaps 0x0000 0x0000 0))
    (bytes 19 0x5413123456784800D251F10112345678901234
    ∷ bytes 19 0x5413123456784800025121010000000000000F
    ∷ bytes 6 0x54D2512101F1
    ∷ bytes 5 0x41D2512101
    ∷ bytes 5 0x541DD25121
    ∷ []
    ∷ [])
    ≡ false ∷ false ∷ false ∷ false ∷ false ∷ false ∷ []
unfolding track_can_take_digits bitmap_within bitmap_places_from_one bitmap_places_counted_from discretionary_data_in_nibbles
    nibbles_before nibbles every both if
tracks_outside = refl

-- one digit before an F, and at the end; a second F does not matter; a second D and nibbles A to E are
-- digits like others
tracks_inside : map (λ t. discretionary_data_in_nibbles (nibbles t))
    (bytes 6 0x41D25121010F ∷ bytes 5 0x4D25121017 ∷ bytes 8 0x1D25121019F8F123 ∷ bytes 8 0x1D2512101DABCE2F ∷ [])
    ≡ record { end = 11; count = 1 } ∷ record { end = 10; count = 1 } ∷ record { end = 10; count = 1 }
    ∷ record { end = 15; count = 6 } ∷ []
unfolding discretionary_data_in_nibbles nibbles_before nibbles if
tracks_inside = refl
