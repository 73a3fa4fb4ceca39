-- The discretionary data by two searches, their bounds, and each way out of the test of a track.
-- Assumes nothing.
use mathlib.Core.Path.{◌≡◌, ap}
use mathlib.Core.Bool.{Bool, true}
use mathlib.Core.List.{List, [], ◌∷◌}
use Prim.Native.Nat.{ℕ, suc, ◌+◌, ◌-◌, ◌≤◌}
use native.Mathlib.Omega.{arith}
use lib.Dec.{leb, eqb}
use lib.ListN.{length, drop, length-drop}
use borrow.Author.Tests.{leb-true}
use Rattle.basics.specs.Number.{nibbles}
use Rattle.basics.specs.Choice.{both}
use Rattle.basics.proofs.Laws.{if_ind, both_no_left, both_true, both_left, both_right}
use Rattle.mag_stripe.specs.declared.Bitmaps.{Bitmaps}
use Rattle.mag_stripe.specs.declared.DiscretionaryData.{DiscretionaryData}
use Rattle.mag_stripe.specs.Track.{track_separator, track_padding, nibbles_before, discretionary_data_in_nibbles}
use Rattle.mag_stripe.specs.Track.{discretionary_data_of}
use Rattle.mag_stripe.specs.Bitmap.{bitmap_places_from_one, set_bit_count, un_digit_count, bitmap_within}
use Rattle.mag_stripe.specs.Bitmap.{track_can_take_digits}
use Rattle.mag_stripe.proofs.Writing.{up_to, up_to_more}

pub before_le : (x : ℕ) (s : List ℕ) → nibbles_before x s ≤ length s
unfolding nibbles_before
before_le x [] = omega arith
before_le x (n ∷ s) = if_ind (λ (k : ℕ). k ≤ suc (length s)) (eqb n x) 0 (suc (nibbles_before x s)) (λ e. omega arith)
    (λ e. omega (arith, before_le x s))

-- where there are digits the data end in the track
pub end_inside : (s : List ℕ) → 1 ≤ (discretionary_data_in_nibbles s).count → (discretionary_data_in_nibbles s).end ≤ length s
unfolding discretionary_data_in_nibbles
end_inside s h =
    omega (
      arith,
      before_le track_padding (drop (nibbles_before track_separator s + 1) s),
      length-drop
          (nibbles_before track_separator s + 1) s,
    )

-- ---- the test of a track, by what it finds

abbrev pub sound_for : ℕ → Bitmaps → Bool
sound_for m b =
    both (leb 1 m)
    (both (bitmap_within m b.pcvc3)
    (both (bitmap_within m b.punatc)
    (both (leb b.natc (set_bit_count b.punatc))
    (leb (un_digit_count b) 8))))

module _ (t : List ℕ) (b : Bitmaps) (d : DiscretionaryData) (e : d ≡ discretionary_data_of t) where
  pub by_count : sound_for d.count b ≡ track_can_take_digits t b
  unfolding track_can_take_digits
  by_count = ap (λ (x : DiscretionaryData). sound_for x.count b) e

-- what a sound track gives
pub record Sound (t : List ℕ) (b : Bitmaps) : Type 0 where
  pub some : 1 ≤ (discretionary_data_of t).count
  pub code : bitmap_within (discretionary_data_of t).count b.pcvc3 ≡ true
  pub number : bitmap_within (discretionary_data_of t).count b.punatc ≡ true
  pub counter : b.natc ≤ set_bit_count b.punatc
  pub few : un_digit_count b ≤ 8

pub sound_gives : (t : List ℕ) (b : Bitmaps) → track_can_take_digits t b ≡ true → Sound t b
unfolding track_can_take_digits
sound_gives t b h =
    let r₁ = both_right _ _ h in
    let r₂ = both_right _ _ r₁ in
    let r₃ = both_right _ _ r₂ in
    record {
      some = leb-true _ _ (both_left _ _ h);
      code = both_left _ _ r₁;
      number = both_left _ _ r₂;
      counter = leb-true _ _ (both_left _ _ r₃);
      few = leb-true _ _ (both_right _ _ r₃);
    }

-- as many digits as are before the end, but for eight nibbles
pub digits_end : (s : List ℕ) → 1 ≤ (discretionary_data_in_nibbles s).count → (discretionary_data_in_nibbles s).end
    ≡ nibbles_before track_separator s + 8 + (discretionary_data_in_nibbles s).count
unfolding discretionary_data_in_nibbles
digits_end s h = omega arith

-- the room that it has: the data end in it, and every place of a bitmap is before their end
pub record Room (end : ℕ) (t : List ℕ) (b : Bitmaps) : Type 0 where
  pub inside : end ≤ length (nibbles t)
  pub some : 1 ≤ end
  pub code : up_to end (bitmap_places_from_one b.pcvc3) ≡ true
  pub number : up_to end (bitmap_places_from_one b.punatc) ≡ true

pub room : (t : List ℕ) (b : Bitmaps) (d : DiscretionaryData) → d ≡ discretionary_data_of t → Sound t b
    → Room d.end t b
unfolding bitmap_within
room t b d e s =
    let f = digits_end (nibbles t) s.some in
    rw e record {
      inside = end_inside (nibbles t) s.some;
      some = omega arith;
      code = up_to_more _ _ _ (omega arith) s.code;
      number = up_to_more _ _ _ (omega arith) s.number;
    }

-- tests joined, for `grind`
pub ruleset tests = (both_true, both_no_left)
