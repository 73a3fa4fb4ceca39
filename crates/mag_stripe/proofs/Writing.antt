-- Digits written into nibbles, one after the other: what is left to write after some, in one loop and over all parts.
-- Assumes nothing.
use mathlib.Core.Path.{◌≡◌, refl, sym, ap, ◌∙◌}
use mathlib.Core.Bool.{Bool, true}
use mathlib.Core.List.{List, [], ◌∷◌, ◌++◌}
use Prim.Native.Nat.{ℕ, zero, suc, ◌+◌, ◌-◌, ◌/◌, ◌%◌, ◌≤◌, ◌<◌}
use native.Mathlib.Omega.{arith}
use lib.Dec.{leb}
use lib.ListN.{length, take, drop, set, length-set, length-drop}
use lib.Seq.{drop-drop, take_all, take-length}
use borrow.Author.Tests.{le-leb, leb-true}
use Rattle.basics.specs.Choice.{every}
use Rattle.basics.proofs.Laws.{both_yes, both_left, both_right}
use Rattle.mag_stripe.specs.declared.Bitmaps.{Bitmaps}
use Rattle.mag_stripe.specs.declared.DigitValues.{DigitValues}
use Rattle.mag_stripe.specs.Bitmap.{bitmap_places_from_one, set_bit_count, un_digit_count}
use Rattle.mag_stripe.specs.Digits.{PlacedDigit, placed_digit, lowest_digits_at_places, cvc3_digits, un_digits}
use Rattle.mag_stripe.specs.Digits.{atc_digits, track_digits, placed_digits_written_before_end}

pub written_length : (end : ℕ) (ds : List PlacedDigit) (s : List ℕ) → length (placed_digits_written_before_end end ds s)
    ≡ length s
unfolding placed_digits_written_before_end
written_length end [] s = refl
written_length end (d ∷ ds) s = written_length end ds (set s (end - d.place) d.digit) ∙ length-set s
    (end - d.place) d.digit

pub written_append : (end : ℕ) (ds es : List PlacedDigit) (s : List ℕ) → placed_digits_written_before_end end (ds ++ es) s
    ≡ placed_digits_written_before_end end es (placed_digits_written_before_end end ds s)
unfolding placed_digits_written_before_end
written_append end [] es s = refl
written_append end (d ∷ ds) es s = written_append end ds es (set s (end - d.place) d.digit)

-- ---- a loop over places: the lowest of those left gets the lowest digit of the number left

-- what is still to be written: n digits at the places of a bitmap
abbrev pub left : ℕ → ℕ → ℕ → ℕ → List ℕ → List ℕ → List ℕ
left end base number n ps s = placed_digits_written_before_end end (lowest_digits_at_places base number (take n ps)) s

pub one_written : (end base number n p : ℕ) (ps s : List ℕ)
    → left end base number (suc n) (p ∷ ps) s ≡ left end base (number / base) n ps (set s (end - p) (number % base))
unfolding placed_digits_written_before_end lowest_digits_at_places
one_written end base number n p ps s = refl

pub none_left : (end base number : ℕ) (ps s : List ℕ) → left end base number 0 ps s ≡ s
unfolding placed_digits_written_before_end lowest_digits_at_places
none_left end base number ps s = refl

-- places in a list are at most so much
abbrev pub up_to : ℕ → List ℕ → Bool
up_to m ps = every (λ p. leb p m) ps

pub up_to_head : (m p : ℕ) (ps : List ℕ) → up_to m (p ∷ ps) ≡ true → p ≤ m
unfolding every
up_to_head m p ps h = leb-true p m (both_left _ _ h)

pub up_to_tail : (m p : ℕ) (ps : List ℕ) → up_to m (p ∷ ps) ≡ true → up_to m ps ≡ true
unfolding every
up_to_tail m p ps h = both_right _ _ h

pub up_to_more : (m n : ℕ) (ps : List ℕ) → m ≤ n → up_to m ps ≡ true → up_to n ps ≡ true
unfolding every
up_to_more m n [] b h = refl
up_to_more m n (p ∷ ps) b h = both_yes _ _ (le-leb p n (omega (arith, up_to_head m p ps h)))
    (up_to_more m n ps b (up_to_tail m p ps h))

pub up_to_take : (m n : ℕ) (ps : List ℕ) → up_to m ps ≡ true → up_to m (take n ps) ≡ true
unfolding every
up_to_take m zero ps h = refl
up_to_take m (suc n) [] h = refl
up_to_take m (suc n) (p ∷ ps) h = both_yes _ _ (both_left _ _ h) (up_to_take m n ps (up_to_tail m p ps h))

pub up_to_drop : (m n : ℕ) (ps : List ℕ) → up_to m ps ≡ true → up_to m (drop n ps) ≡ true
unfolding every
up_to_drop m zero ps h = h
up_to_drop m (suc n) [] h = h
up_to_drop m (suc n) (p ∷ ps) h = up_to_drop m n ps (up_to_tail m p ps h)

-- the state of the loop after some digits: `rest` has the places that are left
pub record Copying (end base number count : ℕ) (ps s : List ℕ) (copied left_number : ℕ) (qs u : List ℕ) : Type 0 where
  pub few : copied ≤ count
  pub rest : qs ≡ drop copied ps
  pub enough : count ≤ copied + length qs
  pub inside : up_to end qs ≡ true
  pub same : left end base number count ps s ≡ left end base left_number (count - copied) qs u

pub copying_start : (end base number count : ℕ) (ps s : List ℕ) → count ≤ length ps → up_to end ps ≡ true
    → Copying end base number count ps s 0 number ps s
copying_start end base number count ps s h k =
    let z : count - 0 ≡ count = omega arith in
    record { few = omega arith; rest = refl; enough = omega arith; inside = k; same = rw z }

module _ {end base number count : ℕ} {ps s : List ℕ} {copied m : ℕ} {qs u : List ℕ}
    (c : Copying end base number count ps s copied m qs u) where
  -- one more: at the first place that is left
  pub copying_one : (p : ℕ) (rs v : List ℕ) → copied < count → qs ≡ p ∷ rs → v ≡ set u (end - p) (m % base)
      → Copying end base number count ps s (copied + 1) (m / base) rs v
  copying_one p rs v h e f =
      let k : count - copied ≡ suc (count - (copied + 1)) = omega arith in
      record {
        few = omega arith;
        rest = ap (drop 1) (sym e ∙ c.rest) ∙ drop-drop 1 copied ps;
        enough = omega (arith, ap length e, c.enough);
        inside = up_to_tail end p rs (rw e at c.inside);
        same = c.same ∙ rw (k, e, f) (one_written end base m (count - (copied + 1)) p rs u);
      }

  pub copying_some : copied < count → 1 ≤ length qs
  copying_some h = omega (arith, c.enough)

  pub copying_place : (p : ℕ) (rs : List ℕ) → qs ≡ p ∷ rs → p ≤ end
  copying_place p rs e = up_to_head end p rs (rw e at c.inside)

  pub copying_end : count ≤ copied
      → (qs ≡ drop count ps) × (u ≡ placed_digits_written_before_end end (lowest_digits_at_places base number (take count ps))
      s)
  copying_end h =
      let k : copied ≡ count = omega (arith, c.few) in
      let z : count - copied ≡ 0 = omega arith in
      (c.rest ∙ ap (λ (n : ℕ). drop n ps) k, sym (c.same ∙ rw z (none_left end base m qs u)))

-- ---- all parts, concatenated

module _ (b : Bitmaps) (v : DigitValues) (end q n k : ℕ) (s s₁ s₂ s₃ s₄ rest : List ℕ) where
  pub all_written :
      q ≡ set_bit_count b.pcvc3
      → n ≡ un_digit_count b
      → k ≡ b.natc
      → b.natc ≤ set_bit_count b.punatc
      → s₁ ≡ placed_digits_written_before_end end
      (lowest_digits_at_places 10 v.cvc3 (take q (bitmap_places_from_one b.pcvc3))) s
      → s₂ ≡ placed_digits_written_before_end end
      (lowest_digits_at_places 16 v.un (take n (bitmap_places_from_one b.punatc))) s₁
      → rest ≡ drop n (bitmap_places_from_one b.punatc)
      → s₃ ≡ placed_digits_written_before_end end (lowest_digits_at_places 10 v.atc (take k rest)) s₂
      → s₄ ≡ set s₃ (end - 1) n
      → s₄ ≡ placed_digits_written_before_end end (track_digits b v) s
  unfolding track_digits placed_digits_written_before_end
  all_written eq en ek counter h₁ h₂ r h₃ h₄ =
      let few : length rest ≤ k = omega (arith, ap length r ∙ length-drop n (bitmap_places_from_one b.punatc)) in
      let code : s₁ ≡ placed_digits_written_before_end end (cvc3_digits b v) s =
      h₁ ∙ rw (eq, take-length (bitmap_places_from_one b.pcvc3)) in
      let number : s₂ ≡ placed_digits_written_before_end end (un_digits b v) s₁ = h₂ ∙ rw en in
      let count : s₃ ≡ placed_digits_written_before_end end (atc_digits b v) s₂ = h₃ ∙ rw (take_all k rest few, r, en) in
      h₄
      ∙ sym (written_append end (cvc3_digits b v ++ un_digits b v ++ atc_digits b v) (placed_digit 1 (un_digit_count b) ∷ [])
      s
      ∙ rw (
        written_append end (cvc3_digits b v ++ un_digits b v) (atc_digits b v) s,
        written_append end (cvc3_digits b v)
            (un_digits b v) s,
        ← code,
        ← number,
        ← count,
        ← en,
      ))
