-- The laws of a filled track. Every digit goes to one of the m discretionary digits, so the nibbles before them and
-- after them stay, the first D and the first F after it are where they were, and the digits put in again go to the
-- same places.
-- Assumes nothing.
use mathlib.Core.Path.{◌≡◌, refl, sym, ap, ◌∙◌}
use mathlib.Core.Bool.{true, false}
use mathlib.Core.List.{List, [], ◌∷◌, ◌++◌, map}
use mathlib.Core.Logic.{◌⊎◌, ◌≢◌, inl, inr}
use Prim.Native.Nat.{ℕ, zero, suc, ◌+◌, ◌-◌, ◌/◌, ◌%◌, ◌≤◌, ◌<◌}
use native.Mathlib.Omega.{arith}
use lib.Dec.{eqb}
use lib.ListN.{length, get_or, take, drop, length-drop}
use lib.Seq.{get_or-drop}
use borrow.Author.Tests.{eq-eqb, ne_eqb, eqb-false}
use Rattle.basics.specs.Number.{nibbles}
use Rattle.basics.proofs.Laws.{if_yes, if_no, if_ind, bool_cases}
use Rattle.basics.proofs.Order.{equal_or_not}
use Rattle.mag_stripe.specs.declared.Bitmaps.{Bitmaps}
use Rattle.mag_stripe.specs.declared.DigitValues.{DigitValues}
use Rattle.mag_stripe.specs.Track.{track_separator, track_padding, nibbles_before, discretionary_data_in_nibbles}
use Rattle.mag_stripe.specs.Track.{discretionary_data_of, packed_nibbles}
use Rattle.mag_stripe.specs.Bitmap.{bitmap_places_counted_from, bitmap_places_from_one, un_digit_count, bitmap_within}
use Rattle.mag_stripe.specs.Bitmap.{track_can_take_digits}
use Rattle.mag_stripe.specs.Digits.{PlacedDigit, placed_digit, lowest_digits_at_places, cvc3_digits, un_digits}
use Rattle.mag_stripe.specs.Digits.{atc_digits, track_digits, track_nibbles_with_digits, track_with_digits_if_possible}
use Rattle.mag_stripe.specs.OtherDigits.{is_place_among, is_last_or_in_pcvc3_or_punatc, OtherDigitsKept}
use Rattle.mag_stripe.specs.OtherDigits.{none_of_lowest_nibbles_is_f}
use Rattle.mag_stripe.proofs.Nibbles.{length_nibbles, length_packed, packed_nibbles_lem}
use Rattle.mag_stripe.proofs.Places.{bit_cases, places_odd, places_even}
use Rattle.mag_stripe.proofs.Sound.{by_count, Sound, sound_gives, digits_end}
use Rattle.mag_stripe.proofs.Writing.{written_length, up_to, up_to_head, up_to_tail}
use Rattle.mag_stripe.proofs.Others.{neither, not_head, not_tail, not_cons, not_append, not_taken, not_left}
use Rattle.mag_stripe.proofs.Others.{indices, written_other, written_twice, Without, without_append}
use Rattle.mag_stripe.proofs.Others.{written_without}

-- ---- places from 1 to m

abbrev Inside : ℕ → List ℕ → Type 0
Inside m [] = Unit
Inside m (p ∷ ps) = (1 ≤ p) × (p ≤ m) × Inside m ps

inside_append : (m : ℕ) (ps qs : List ℕ) → Inside m ps → Inside m qs → Inside m (ps ++ qs)
inside_append m [] qs h k = k
inside_append m (p ∷ ps) qs h k = (h.0, h.1, inside_append m ps qs h.2 k)

inside_take : (m n : ℕ) (ps : List ℕ) → Inside m ps → Inside m (take n ps)
inside_take m zero ps h = tt
inside_take m (suc n) [] h = tt
inside_take m (suc n) (p ∷ ps) h = (h.0, h.1, inside_take m n ps h.2)

inside_drop : (m n : ℕ) (ps : List ℕ) → Inside m ps → Inside m (drop n ps)
inside_drop m zero ps h = h
inside_drop m (suc n) [] h = tt
inside_drop m (suc n) (p ∷ ps) h = inside_drop m n ps h.2

inside_from : (m k p n : ℕ) → 1 ≤ p → up_to m (bitmap_places_counted_from k p n) ≡ true
    → Inside m (bitmap_places_counted_from k p n)
unfolding bitmap_places_counted_from
inside_from m zero p n q h = tt
inside_from m (suc k) p n q h =
    elim (bit_cases n) [
      | inl e ↦
          let g = rw (places_odd k p n e) at h in
          rw (places_odd k p n e) (
            q,
            up_to_head m p _ g,
            inside_from m k (p + 1) (n / 2) (omega arith)
                (up_to_tail m p _ g),
          )
      | inr e ↦ rw (places_even k p n e) (inside_from m k (p + 1) (n / 2) (omega arith) (rw (places_even k p n e) at h))
    ]

within_inside : (m n : ℕ) → bitmap_within m n ≡ true → Inside m (bitmap_places_from_one n)
unfolding bitmap_within bitmap_places_from_one
within_inside m n h = inside_from m 16 1 n (omega arith) h

-- ---- the places of all digits

abbrev places_in : List PlacedDigit → List ℕ
places_in ds = map (λ (d : PlacedDigit). d.place) ds

lowest_places : (base n : ℕ) (ps : List ℕ) → places_in (lowest_digits_at_places base n ps) ≡ ps
unfolding lowest_digits_at_places
lowest_places base n [] = refl
lowest_places base n (p ∷ ps) = ap (λ (l : List ℕ). p ∷ l) (lowest_places base (n / base) ps)

joined : (ds es : List PlacedDigit) → places_in (ds ++ es) ≡ places_in ds ++ places_in es
joined [] es = refl
joined (d ∷ ds) es = ap (λ (l : List ℕ). d.place ∷ l) (joined ds es)

all_places : (b : Bitmaps) (v : DigitValues)
    → places_in (track_digits b v) ≡ bitmap_places_from_one b.pcvc3 ++ take (un_digit_count b)
    (bitmap_places_from_one b.punatc) ++ drop (un_digit_count b) (bitmap_places_from_one b.punatc) ++ 1 ∷ []
unfolding track_digits
all_places b v =
    joined (cvc3_digits b v ++ un_digits b v ++ atc_digits b v) (placed_digit 1 (un_digit_count b) ∷ [])
    ∙ rw (
      joined (cvc3_digits b v ++ un_digits b v) (atc_digits b v),
      joined (cvc3_digits b v) (un_digits b v),
      lowest_places 10 v.cvc3 (bitmap_places_from_one b.pcvc3),
      lowest_places 16 v.un (take (un_digit_count b) (bitmap_places_from_one b.punatc)),
      lowest_places 10 v.atc (drop (un_digit_count b) (bitmap_places_from_one b.punatc)),
    )

-- each is one of the m digits
places_inside : (t : List ℕ) (b : Bitmaps) (v : DigitValues) → Sound t b
    → Inside (discretionary_data_of t).count (places_in (track_digits b v))
places_inside t b v s =
    let m = (discretionary_data_of t).count in
    let code = bitmap_places_from_one b.pcvc3 in
    let low = take (un_digit_count b) (bitmap_places_from_one b.punatc) in
    let high = drop (un_digit_count b) (bitmap_places_from_one b.punatc) in
    let u = within_inside m b.punatc s.number in
    rw (all_places b v)
    (inside_append m (code ++ low ++ high) (1 ∷ [])
    (inside_append m (code ++ low) high
    (inside_append m code low (within_inside m b.pcvc3 s.code)
    (inside_take m (un_digit_count b) (bitmap_places_from_one b.punatc) u))
    (inside_drop m (un_digit_count b) (bitmap_places_from_one b.punatc) u))
    (omega arith, s.some, tt))

-- what is not named is none of them
named_only : (b : Bitmaps) (v : DigitValues) (p : ℕ) → is_last_or_in_pcvc3_or_punatc b p ≡ false
    → is_place_among p (places_in (track_digits b v)) ≡ false
unfolding is_last_or_in_pcvc3_or_punatc is_place_among
named_only b v p h =
    let code = bitmap_places_from_one b.pcvc3 in
    let low = take (un_digit_count b) (bitmap_places_from_one b.punatc) in
    let high = drop (un_digit_count b) (bitmap_places_from_one b.punatc) in
    let one = neither _ _ h in
    let two = neither _ _ one.1 in
    rw (all_places b v)
    (not_append p (code ++ low ++ high) (1 ∷ [])
    (not_append p (code ++ low) high
    (not_append p code low two.0 (not_taken p (un_digit_count b) (bitmap_places_from_one b.punatc) two.1))
    (not_left p (un_digit_count b) (bitmap_places_from_one b.punatc) two.1))
    (not_cons p 1 [] (eqb-false p 1 one.0) refl))

-- ---- the nibbles of the digits

-- a nibble whose place none of them has
spared : (m end i : ℕ) (ds : List PlacedDigit) → Inside m (places_in ds) → m ≤ end → is_place_among (end - i) (places_in ds)
    ≡ false → is_place_among i (indices end ds) ≡ false
unfolding is_place_among
spared m end i [] h b k = refl
spared m end i (d ∷ ds) h b k =
    not_cons i (end - d.place) (indices end ds)
    (λ e. not_head (end - i) d.place (places_in ds) k (omega arith))
    (spared m end i ds h.2 b (not_tail (end - i) d.place (places_in ds) k))

-- a nibble before the m digits, or after them
outside : (m end i : ℕ) (ds : List PlacedDigit) → Inside m (places_in ds) → m ≤ end → (i + m < end) ⊎ (end ≤ i)
    → is_place_among i (indices end ds) ≡ false
unfolding is_place_among
outside m end i [] h b k = refl
outside m end i (d ∷ ds) h b k =
    not_cons i (end - d.place) (indices end ds)
    (λ e. elim k [ inl f ↦ omega arith | inr f ↦ omega arith ])
    (outside m end i ds h.2 b k)

-- ---- the first nibble x of two lists

before_least : (x : ℕ) (s : List ℕ) (i : ℕ) → i < nibbles_before x s → get_or s i 0 ≢ x
unfolding nibbles_before
before_least x [] i h = absurd (omega arith)
before_least x (n ∷ s) zero h = λ e. omega (arith, if_yes 0 (suc (nibbles_before x s)) (eq-eqb n x e))
before_least x (n ∷ s) (suc i) h =
    elim (equal_or_not n x) [
      | inl e ↦ absurd (omega (arith, if_yes 0 (suc (nibbles_before x s)) (eq-eqb n x e)))
      | inr ne ↦ before_least x s i (omega (arith, if_no 0 (suc (nibbles_before x s)) (ne_eqb n x ne)))
    ]

-- it stays where it is if none comes before it and it is still there
before_same : (x : ℕ) (s u : List ℕ) → length s ≡ length u → ((i : ℕ) → i < nibbles_before x s → get_or u i 0 ≢ x)
    → get_or u (nibbles_before x s) 0 ≡ get_or s (nibbles_before x s) 0 → nibbles_before x u ≡ nibbles_before x s
unfolding nibbles_before
before_same x [] [] n h e = refl
before_same x [] (b ∷ u) n h e = absurd (omega arith)
before_same x (a ∷ s) [] n h e = absurd (omega arith)
before_same x (a ∷ s) (b ∷ u) n h e =
    elim (equal_or_not a x) [
      | inl q ↦
          let z : nibbles_before x (a ∷ s) ≡ 0 = if_yes 0 (suc (nibbles_before x s)) (eq-eqb a x q) in
          let f : b ≡ a = rw z at e in
          if_yes 0 (suc (nibbles_before x u)) (eq-eqb b x (f ∙ q)) ∙ sym z
      | inr q ↦
          let z : nibbles_before x (a ∷ s) ≡ suc (nibbles_before x s) = if_no 0 (suc (nibbles_before x s)) (ne_eqb a x q)
          in
          if_no 0 (suc (nibbles_before x u)) (ne_eqb b x (h 0 (omega arith)))
          ∙ ap suc (before_same x s u (omega arith) (λ i k. h (suc i) (omega arith)) (rw z at e))
          ∙ sym z
    ]

-- ---- a track with the digits in it has its discretionary data where they were

-- no digit is the padding
base_ten : (n : ℕ) (ps : List ℕ) → Without track_padding (lowest_digits_at_places 10 n ps)
unfolding lowest_digits_at_places
base_ten n [] = tt
base_ten n (p ∷ ps) = ((λ e. omega arith), base_ten (n / 10) ps)

base_sixteen : (n number : ℕ) (ps : List ℕ) → none_of_lowest_nibbles_is_f n number ≡ true
    → Without track_padding (lowest_digits_at_places 16 number (take n ps))
unfolding lowest_digits_at_places none_of_lowest_nibbles_is_f
base_sixteen zero number ps h = tt
base_sixteen (suc n) number [] h = tt
base_sixteen (suc n) number (p ∷ ps) h =
    elim (bool_cases (eqb (number % 16) track_padding)) [
      | inl e ↦ absurd (let z : ◌≡◌ {A = ℕ} 0 1 = cc (if_yes false (none_of_lowest_nibbles_is_f n (number / 16)) e) in
          omega arith)
      | inr e ↦ (
        eqb-false (number % 16) track_padding e,
        base_sixteen n (number / 16) ps
            (sym (if_no false (none_of_lowest_nibbles_is_f n (number / 16)) e) ∙ h),
      )
    ]

unpadded_digits : (t : List ℕ) (b : Bitmaps) (v : DigitValues) → Sound t b
    → none_of_lowest_nibbles_is_f (un_digit_count b) v.un ≡ true → Without track_padding (track_digits b v)
unfolding track_digits
unpadded_digits t b v s h =
    without_append track_padding (cvc3_digits b v ++ un_digits b v ++ atc_digits b v) (placed_digit 1 (un_digit_count b) ∷ [])
    (without_append track_padding (cvc3_digits b v ++ un_digits b v) (atc_digits b v)
    (without_append track_padding (cvc3_digits b v) (un_digits b v)
    (base_ten v.cvc3 (bitmap_places_from_one b.pcvc3))
    (base_sixteen (un_digit_count b) v.un (bitmap_places_from_one b.punatc) h))
    (base_ten v.atc (drop (un_digit_count b) (bitmap_places_from_one b.punatc))))
    ((λ e. omega (arith, s.few)), tt)

data_same : (s u : List ℕ) → nibbles_before track_separator u ≡ nibbles_before track_separator s
    → nibbles_before track_padding (drop (nibbles_before track_separator s + 1) u) ≡ nibbles_before track_padding
    (drop (nibbles_before track_separator s + 1) s) → discretionary_data_in_nibbles u ≡ discretionary_data_in_nibbles s
unfolding discretionary_data_in_nibbles
data_same s u d f = rw (d, f)

module _ (t : List ℕ) (b : Bitmaps) (v : DigitValues) (s : Sound t b) where
  stays : (i : ℕ) → (i + (discretionary_data_of t).count < (discretionary_data_of t).end) ⊎ ((discretionary_data_of t).end ≤ i)
      → get_or (track_nibbles_with_digits t b v) i 0 ≡ get_or (nibbles t) i 0
  stays i h =
      written_other (discretionary_data_of t).end (track_digits b v) (nibbles t) i
      (outside (discretionary_data_of t).count (discretionary_data_of t).end i (track_digits b v) (places_inside t b v s)
      (omega (arith, digits_end (nibbles t) s.some)) h)

  same_length : length (nibbles t) ≡ length (track_nibbles_with_digits t b v)
  same_length = sym (written_length (discretionary_data_of t).end (track_digits b v) (nibbles t))

  same_separator : nibbles_before track_separator (track_nibbles_with_digits t b v) ≡ nibbles_before track_separator
      (nibbles t)
  same_separator =
      let e = digits_end (nibbles t) s.some in
      before_same track_separator (nibbles t) (track_nibbles_with_digits t b v) same_length
      (λ i k q. before_least track_separator (nibbles t) i k (sym (stays i (inl (omega arith))) ∙ q))
      (stays (nibbles_before track_separator (nibbles t)) (inl (omega arith)))

  module _ (h : none_of_lowest_nibbles_is_f (un_digit_count b) v.un ≡ true) where
    same_padding : nibbles_before track_padding
        (drop (nibbles_before track_separator (nibbles t) + 1) (track_nibbles_with_digits t b v))
        ≡ nibbles_before track_padding (drop (nibbles_before track_separator (nibbles t) + 1) (nibbles t))
    unfolding discretionary_data_in_nibbles
    same_padding =
        let d = nibbles_before track_separator (nibbles t) in
        let f = nibbles_before track_padding (drop (d + 1) (nibbles t)) in
        before_same track_padding (drop (d + 1) (nibbles t)) (drop (d + 1) (track_nibbles_with_digits t b v))
        (length-drop (d + 1) (nibbles t) ∙ ap (λ (n : ℕ). n - (d + 1)) same_length ∙ sym
        (length-drop (d + 1) (track_nibbles_with_digits t b v)))
        (λ i k q.
        written_without (discretionary_data_of t).end track_padding (track_digits b v) (nibbles t) (d + 1 + i)
        (unpadded_digits t b v s h)
        (λ r. before_least track_padding (drop (d + 1) (nibbles t)) i k (get_or-drop (d + 1) (nibbles t) i 0 ∙ r))
        (sym (get_or-drop (d + 1) (track_nibbles_with_digits t b v) i 0) ∙ q))
        (get_or-drop (d + 1) (track_nibbles_with_digits t b v) f 0 ∙ stays (d + 1 + f) (inr (omega arith)) ∙ sym
        (get_or-drop (d + 1) (nibbles t) f 0))

    same_data : discretionary_data_in_nibbles (track_nibbles_with_digits t b v) ≡ discretionary_data_in_nibbles (nibbles t)
    same_data = data_same (nibbles t) (track_nibbles_with_digits t b v) same_separator same_padding

-- ---- the promises of `put_digits`

pub filled_sound : (t u : List ℕ) (b : Bitmaps) (v : DigitValues) → track_can_take_digits t b ≡ true
    → nibbles u ≡ track_nibbles_with_digits t b v → u ≡ track_with_digits_if_possible t b v
unfolding track_with_digits_if_possible
filled_sound t u b v s e = sym (packed_nibbles_lem u) ∙ ap packed_nibbles e ∙ sym
    (if_yes (packed_nibbles (track_nibbles_with_digits t b v)) t s)

pub length-filled : (t : List ℕ) (b : Bitmaps) (v : DigitValues) → length (track_with_digits_if_possible t b v) ≡ length t
unfolding track_with_digits_if_possible
length-filled t b v =
    if_ind (λ (u : List ℕ). length u ≡ length t) (track_can_take_digits t b) (packed_nibbles (track_nibbles_with_digits t b v))
    t
    (λ s. omega (
      arith,
      length_packed (track_nibbles_with_digits t b v),
      written_length (discretionary_data_of t).end
          (track_digits b v) (nibbles t),
      length_nibbles t,
    ))
    (λ s. refl)

pub filled_unsound : (t : List ℕ) (b : Bitmaps) (v : DigitValues) → track_can_take_digits t b ≡ false
    → t ≡ track_with_digits_if_possible t b v
unfolding track_with_digits_if_possible
filled_unsound t b v s = sym (if_no (packed_nibbles (track_nibbles_with_digits t b v)) t s)

pub kept_unsound : (t : List ℕ) (b : Bitmaps) → OtherDigitsKept b t t
kept_unsound t b = record { size = refl; others = λ i h. refl }

pub kept_sound : (t u : List ℕ) (b : Bitmaps) (v : DigitValues) → track_can_take_digits t b ≡ true → length u ≡ length t
    → nibbles u ≡ track_nibbles_with_digits t b v → OtherDigitsKept b t u
kept_sound t u b v h n e =
    let s = sound_gives t b h in
    record {
      size = n;
      others = λ i k.
          ap (λ (l : List ℕ). get_or l i 0) e
          ∙ written_other (discretionary_data_of t).end (track_digits b v) (nibbles t) i
          (spared (discretionary_data_of t).count (discretionary_data_of t).end i (track_digits b v)
          (places_inside t b v s)
          (omega (arith, digits_end (nibbles t) s.some)) (named_only b v _ k));
    }

pub twice_sound : (t u : List ℕ) (b : Bitmaps) (v : DigitValues) → track_can_take_digits t b ≡ true
    → nibbles u ≡ track_nibbles_with_digits t b v
    → none_of_lowest_nibbles_is_f (un_digit_count b) v.un ≡ true → track_with_digits_if_possible u b v ≡ u
twice_sound t u b v h e k =
    let s = sound_gives t b h in
    let same : discretionary_data_of u ≡ discretionary_data_of t = ap discretionary_data_in_nibbles e ∙ same_data t b v s k in
    sym
    (filled_sound u u b v (sym (by_count u b (discretionary_data_of t) (sym same)) ∙ by_count t b (discretionary_data_of t)
    refl ∙ h)
    (e ∙ sym (written_twice (discretionary_data_of t).end (track_digits b v) (nibbles t)) ∙ rw (same, e)))
