-- The card's bitmaps (Book C-2, 4.8, A.1.112, A.1.120, A.1.135), and when a track can take the digits (document 02,
-- Item 9). Places are counted from the right, from 1: bit b1 of a bitmap, its lowest, is for place 1, the last digit.
-- Assumes nothing.
use Rattle.std.specs.Prelude.{Bool, List, [], ◌∷◌, ℕ, zero, suc, ◌+◌, ◌-◌, ◌*◌, ◌/◌, ◌%◌, length, get_or}
use Rattle.basics.specs.Types.{Count, Value}
use Rattle.basics.specs.Choice.{when◌then◌else◌, ◌and◌, ◌≤?◌, ◌=?◌, every}
use Rattle.mag_stripe.specs.declared.Bitmaps.{Bitmaps}
use Rattle.mag_stripe.specs.Track.{discretionary_data_of}

-- two bytes as a number, byte 1 the high one; an absent byte counts as 0
abbrev pub two_byte_number : Value → ℕ
two_byte_number s = get_or s 0 0 * 256 + get_or s 1 0

-- the bitmaps by the bytes of 9F65, 9F66 and 9F67
abbrev pub bitmaps_of : Value → Value → Value → Bitmaps
bitmaps_of pcvc3 punatc natc =
    record { pcvc3 = two_byte_number pcvc3; punatc = two_byte_number punatc; natc = get_or natc 0 0 }

-- the places that so many bits of a bitmap set, from the lowest, where the lowest bit is for place p
unfoldable pub bitmap_places_counted_from : ℕ → ℕ → ℕ → List ℕ
bitmap_places_counted_from zero p bitmap = []
bitmap_places_counted_from (suc bits) p bitmap =
    when bitmap % 2 =? 1 then p ∷ bitmap_places_counted_from bits (p + 1) (bitmap / 2)
    else bitmap_places_counted_from bits (p + 1) (bitmap / 2)

-- the places that a bitmap of two bytes sets, lowest first
unfoldable pub bitmap_places_from_one : ℕ → List ℕ
bitmap_places_from_one bitmap = bitmap_places_counted_from 16 1 bitmap

-- the number of non-zero bits of a bitmap
abbrev pub set_bit_count : ℕ → Count
set_bit_count bitmap = length (bitmap_places_from_one bitmap)

-- nUN (S7.22): the places of PUNATC that are not the counter's; subtraction stops at 0, so `track_can_take_digits`
-- tests NATC apart
abbrev pub un_digit_count : Bitmaps → Count
un_digit_count b = set_bit_count b.punatc - b.natc

-- a bitmap sets no place past the last of m digits
unfoldable pub bitmap_within : Count → ℕ → Bool
bitmap_within m bitmap = every (λ p. p ≤? m) (bitmap_places_from_one bitmap)

-- a track can take the digits: it has discretionary digits, no bitmap sets a place past them, and nUN is 0 to 8
unfoldable pub track_can_take_digits : Value → Bitmaps → Bool
track_can_take_digits t b =
    let m = (discretionary_data_of t).count in
    1 ≤? m
    and bitmap_within m b.pcvc3
    and bitmap_within m b.punatc
    and b.natc ≤? set_bit_count b.punatc
    and un_digit_count b ≤? 8
