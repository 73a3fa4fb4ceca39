-- Digits written into nibbles, by index: a nibble that no digit goes to stays, so writing the same digits again changes
-- nothing; and no nibble becomes x where no digit is x.
-- Assumes nothing.
use mathlib.Core.Path.{◌≡◌, refl, sym, ap, ◌∙◌}
use mathlib.Core.Bool.{Bool, true, false}
use mathlib.Core.List.{List, [], ◌∷◌, ◌++◌, map}
use mathlib.Core.Logic.{◌⊎◌, ◌≢◌, inl, inr}
use Prim.Native.Nat.{ℕ, zero, suc, ◌-◌}
use native.Mathlib.Omega.{arith}
use lib.ListN.{length, get_or, take, drop, set, length-set, get_or-eq_default}
use lib.Seq.{ext_get_or, get_or-set_same, get_or-set_other, set_out}
use borrow.Author.Tests.{ne_eqb, eqb-false}
use Rattle.basics.specs.Choice.{either}
use Rattle.basics.proofs.Laws.{either_no}
use Rattle.basics.proofs.Order.{le-or-gt, equal_or_not}
use Rattle.mag_stripe.specs.Digits.{PlacedDigit, placed_digits_written_before_end}
use Rattle.mag_stripe.specs.OtherDigits.{is_place_among}
use Rattle.mag_stripe.proofs.Writing.{written_length}

-- ---- one of some numbers, or none

pub neither : (a b : Bool) → either a b ≡ false → (a ≡ false) × (b ≡ false)
unfolding either
neither true b e = (e, cc)
neither false b e = (refl, e)

module _ (p q : ℕ) (ps : List ℕ) (h : is_place_among p (q ∷ ps) ≡ false) where
  pub not_head : p ≢ q
  unfolding is_place_among
  not_head = eqb-false p q (neither _ _ h).0

  pub not_tail : is_place_among p ps ≡ false
  unfolding is_place_among
  not_tail = (neither _ _ h).1

pub not_cons : (p q : ℕ) (ps : List ℕ) → p ≢ q → is_place_among p ps ≡ false → is_place_among p (q ∷ ps) ≡ false
unfolding is_place_among
not_cons p q ps e h = either_no _ _ (ne_eqb p q e) h

pub not_append : (p : ℕ) (ps qs : List ℕ) → is_place_among p ps ≡ false → is_place_among p qs ≡ false
    → is_place_among p (ps ++ qs) ≡ false
not_append p [] qs h k = k
not_append p (q ∷ ps) qs h k = not_cons p q (ps ++ qs) (not_head p q ps h) (not_append p ps qs (not_tail p q ps h) k)

pub not_taken : (p n : ℕ) (ps : List ℕ) → is_place_among p ps ≡ false → is_place_among p (take n ps) ≡ false
unfolding is_place_among
not_taken p zero ps h = refl
not_taken p (suc n) [] h = refl
not_taken p (suc n) (q ∷ ps) h = not_cons p q (take n ps) (not_head p q ps h) (not_taken p n ps (not_tail p q ps h))

pub not_left : (p n : ℕ) (ps : List ℕ) → is_place_among p ps ≡ false → is_place_among p (drop n ps) ≡ false
not_left p zero ps h = h
not_left p (suc n) [] h = h
not_left p (suc n) (q ∷ ps) h = not_left p n ps (not_tail p q ps h)

-- ---- the nibbles that digits go to

abbrev pub indices : ℕ → List PlacedDigit → List ℕ
indices end ds = map (λ (d : PlacedDigit). end - d.place) ds

pub written_other : (end : ℕ) (ds : List PlacedDigit) (s : List ℕ) (i : ℕ) → is_place_among i (indices end ds) ≡ false
    → get_or (placed_digits_written_before_end end ds s) i 0 ≡ get_or s i 0
unfolding placed_digits_written_before_end
written_other end [] s i h = refl
written_other end (d ∷ ds) s i h =
    written_other end ds (set s (end - d.place) d.digit) i (not_tail i _ _ h)
    ∙ get_or-set_other s (end - d.place) i d.digit 0 (not_head i (end - d.place) (indices end ds) h)

-- a nibble of a list in which one was written: that one, or as it was
set_cases : (s : List ℕ) (j x i : ℕ) → (get_or (set s j x) i 0 ≡ x) ⊎ (get_or (set s j x) i 0 ≡ get_or s i 0)
set_cases s j x i =
    elim (equal_or_not i j) [
      | inl e ↦
          elim (le-or-gt (length s) j) [
            | inl out ↦ inr (ap (λ (l : List ℕ). get_or l i 0) (set_out s j x out))
            | inr in' ↦ inl (rw e (get_or-set_same s j x 0 in'))
          ]
      | inr ne ↦ inr (get_or-set_other s j i x 0 ne)
    ]

-- two lists that differ only where digits go come to the same
set_agree : (s u : List ℕ) (j x i : ℕ) → length s ≡ length u → (i ≢ j → get_or s i 0 ≡ get_or u i 0)
    → get_or (set s j x) i 0 ≡ get_or (set u j x) i 0
set_agree s u j x i n h =
    elim (equal_or_not i j) [
      | inl e ↦
          elim (le-or-gt (length s) j) [
            | inl out ↦
                ap (λ (l : List ℕ). get_or l i 0) (set_out s j x out) ∙ get_or-eq_default s 0 (omega arith)
                ∙ sym (ap (λ (l : List ℕ). get_or l i 0) (set_out u j x (omega arith)) ∙ get_or-eq_default u 0
                (omega arith))
            | inr in' ↦ rw e (get_or-set_same s j x 0 in' ∙ sym (get_or-set_same u j x 0 (omega arith)))
          ]
      | inr ne ↦ get_or-set_other s j i x 0 ne ∙ h ne ∙ sym (get_or-set_other u j i x 0 ne)
    ]

written_agree : (end : ℕ) (ds : List PlacedDigit) (s u : List ℕ) → length s ≡ length u
    → ((i : ℕ) → is_place_among i (indices end ds) ≡ false → get_or s i 0 ≡ get_or u i 0)
    → placed_digits_written_before_end end ds s ≡ placed_digits_written_before_end end ds u
unfolding placed_digits_written_before_end is_place_among
written_agree end [] s u n h = ext_get_or 0 s u n (λ i _. h i refl)
written_agree end (d ∷ ds) s u n h =
    let j = end - d.place in
    written_agree end ds (set s j d.digit) (set u j d.digit)
    (length-set s j d.digit ∙ n ∙ sym (length-set u j d.digit))
    (λ i k. set_agree s u j d.digit i n (λ ne. h i (not_cons i j (indices end ds) ne k)))

pub written_twice : (end : ℕ) (ds : List PlacedDigit) (s : List ℕ)
    → placed_digits_written_before_end end ds (placed_digits_written_before_end end ds s) ≡ placed_digits_written_before_end end ds
    s
written_twice end ds s = written_agree end ds (placed_digits_written_before_end end ds s) s (written_length end ds s)
    (written_other end ds s)

-- ---- digits that are not x

abbrev pub Without : ℕ → List PlacedDigit → Type 0
Without x [] = Unit
Without x (d ∷ ds) = (d.digit ≢ x) × Without x ds

pub without_append : (x : ℕ) (ds es : List PlacedDigit) → Without x ds → Without x es → Without x (ds ++ es)
without_append x [] es h k = k
without_append x (d ∷ ds) es h k = (h.0, without_append x ds es h.1 k)

pub written_without : (end x : ℕ) (ds : List PlacedDigit) (s : List ℕ) (i : ℕ) → Without x ds → get_or s i 0 ≢ x
    → get_or (placed_digits_written_before_end end ds s) i 0 ≢ x
unfolding placed_digits_written_before_end
written_without end x [] s i w h = h
written_without end x (d ∷ ds) s i w h =
    let j = end - d.place in
    written_without end x ds (set s j d.digit) i w.1
    (elim (set_cases s j d.digit i) [ inl e ↦ λ q. w.0 (sym e ∙ q) | inr e ↦ λ q. h (sym e ∙ q) ])
