-- The places of a bitmap: how many, the lowest, and which stand past so many digits. Each by its bits, lowest first.
-- Assumes nothing.
use mathlib.Core.Path.{◌≡◌, refl, sym, ap, ap₂, ◌∙◌}
use mathlib.Core.Bool.{true}
use mathlib.Core.List.{List, [], ◌∷◌}
use mathlib.Core.Logic.{◌⊎◌, inl, inr}
use Prim.Native.Nat.{ℕ, zero, suc, ◌+◌, ◌-◌, ◌/◌, ◌%◌, ◌^◌, ◌≤◌, ◌<◌}
use native.Mathlib.Omega.{arith}
use native.Mathlib.Nat.{two-pow-succ}
use lib.ListN.{length}
use lib.Dec.{leb}
use lib.Pow.{pow_pos, pow_mono}
use lib.Count.{ones, ones_step, ones-le, count_trailing_zeros, count_leading_zeros, leading_length}
use borrow.Author.Tests.{eq-eqb, ne_eqb, le-leb, lt-leb, leb-true}
use Rattle.basics.specs.Choice.{every}
use Rattle.basics.proofs.Laws.{if_yes, if_no, bool_cases, both_yes, both_left, both_right}
use Rattle.basics.proofs.Order.{le-or-gt}
use Rattle.mag_stripe.specs.Bitmap.{bitmap_places_counted_from, bitmap_places_from_one, set_bit_count, bitmap_within}

-- the lowest bit is set, or not
pub bit_cases : (n : ℕ) → (n % 2 ≡ 1) ⊎ (n % 2 ≡ 0)
bit_cases n = elim (le-or-gt 1 (n % 2)) [ inl h ↦ inl (omega arith) | inr h ↦ inr (omega arith) ]

module _ (k p n : ℕ) where
  pub places_odd : n % 2 ≡ 1 → bitmap_places_counted_from (suc k) p n ≡ p ∷ bitmap_places_counted_from k (p + 1) (n / 2)
  unfolding bitmap_places_counted_from
  places_odd e = if_yes _ _ (eq-eqb (n % 2) 1 e)

  pub places_even : n % 2 ≡ 0 → bitmap_places_counted_from (suc k) p n ≡ bitmap_places_counted_from k (p + 1) (n / 2)
  unfolding bitmap_places_counted_from
  places_even e = if_no _ _ (ne_eqb (n % 2) 1 (λ f. omega arith))

-- a bound on the bits
halved : (k n : ℕ) → n < 2 ^ suc k → n / 2 < 2 ^ k
halved k n h = let e = two-pow-succ k in omega arith

length_from : (k p n : ℕ) → n < 2 ^ k → length (bitmap_places_counted_from k p n) ≡ ones n
unfolding bitmap_places_counted_from ones
length_from zero p n h = let e : n ≡ 0 = omega arith in rw e
length_from (suc k) p n h =
    let ih = length_from k (p + 1) (n / 2) (halved k n h) in
    elim (bit_cases n) [
      | inl e ↦ ap length (places_odd k p n e) ∙ omega (arith, ones_step n)
      | inr e ↦ ap length (places_even k p n e) ∙ omega (arith, ones_step n)
    ]

pub bits_counted : (n : ℕ) → n < 2 ^ 16 → (ones n ≡ set_bit_count n) × (ones n ≤ 16)
unfolding bitmap_places_from_one
bits_counted n h = (sym (length_from 16 1 n h), ones-le 16 n h)

-- ---- the lowest place

module _ (k n : ℕ) where
  zeros_odd : n % 2 ≡ 1 → count_trailing_zeros (suc k) n ≡ 0
  unfolding count_trailing_zeros
  zeros_odd e = rw e

  zeros_even : n % 2 ≡ 0 → count_trailing_zeros (suc k) n ≡ suc (count_trailing_zeros k (n / 2))
  unfolding count_trailing_zeros
  zeros_even e = rw e

-- the lowest bit that is set is one of k, and its weight is at most the number
lowest_bit : (k n : ℕ) → 0 < n → n < 2 ^ k → (count_trailing_zeros k n < k) × (2 ^ count_trailing_zeros k n ≤ n)
lowest_bit zero n p h = absurd (omega arith)
lowest_bit (suc k) n p h =
    elim (bit_cases n) [
      | inl e ↦ rw (zeros_odd k n e) (omega arith, omega arith)
      | inr e ↦
          let ih = lowest_bit k (n / 2) (omega arith) (halved k n h) in
          let w = two-pow-succ (count_trailing_zeros k (n / 2)) in
          rw (zeros_even k n e) (omega arith, omega arith)
    ]

lowest_from : (k p n : ℕ) → 0 < n → n < 2 ^ k → bitmap_places_counted_from k p n ≡ (count_trailing_zeros k n + p)
    ∷ bitmap_places_counted_from k p (n - 2 ^ count_trailing_zeros k n)
lowest_from zero p n q h = absurd (omega arith)
lowest_from (suc k) p n q h =
    elim (bit_cases n) [
      | inl e ↦
          let d : (n - 1) / 2 ≡ n / 2 = omega arith in
          let f : p ≡ 0 + p = omega arith in
          rw (zeros_odd k n e)
          (places_odd k p n e ∙ ap₂ (λ (x : ℕ) (l : List ℕ). x ∷ l) f
          (sym (places_even k p (n - 1) (omega arith) ∙ ap (bitmap_places_counted_from k (p + 1)) d)))
      | inr e ↦
          let z = count_trailing_zeros k (n / 2) in
          let w = two-pow-succ z in
          let d : (n - 2 ^ suc z) / 2 ≡ n / 2 - 2 ^ z = omega arith in
          let f : z + (p + 1) ≡ suc z + p = omega arith in
          rw (zeros_even k n e)
          (places_even k p n e ∙ lowest_from k (p + 1) (n / 2) (omega arith) (halved k n h)
          ∙ ap₂ (λ (x : ℕ) (l : List ℕ). x ∷ l) f
          (sym (places_even k p (n - 2 ^ suc z) (omega arith) ∙ ap (bitmap_places_counted_from k (p + 1)) d)))
    ]

-- ---- places past so many digits

places_zero : (k p : ℕ) → bitmap_places_counted_from k p 0 ≡ []
unfolding bitmap_places_counted_from
places_zero zero p = refl
places_zero (suc k) p = places_even k p 0 refl ∙ places_zero k (p + 1)

low_within : (m k p n j : ℕ) → n < 2 ^ j → p + j ≤ m + 1 → every (λ q. leb q m) (bitmap_places_counted_from k p n) ≡ true
unfolding every bitmap_places_counted_from
low_within m zero p n j h b = refl
low_within m (suc k) p n zero h b =
    let e : n ≡ 0 = omega arith in rw (e, places_zero (suc k) p)
low_within m (suc k) p n (suc j) h b =
    let ih = low_within m k (p + 1) (n / 2) j (halved j n h) (omega arith) in
    elim (bit_cases n) [
      | inl e ↦ rw (places_odd k p n e) (both_yes _ _ (le-leb p m (omega arith)) ih)
      | inr e ↦ rw (places_even k p n e) ih
    ]

grown : {n a b : ℕ} (j : ℕ) → a ≡ j → b ≡ suc j → n / 2 < 2 ^ a → n < 2 ^ b
grown {n} {a} {b} j e f h =
    let w = two-pow-succ j in
    let i : n / 2 < 2 ^ j = rw e at h in
    rw f (omega arith)

within_low : (m k p n : ℕ) → n < 2 ^ k → every (λ q. leb q m) (bitmap_places_counted_from k p n) ≡ true
    → n < 2 ^ (m + 1 - p)
unfolding every bitmap_places_counted_from
within_low m zero p n h t = let w = pow_pos (m + 1 - p) in omega arith
within_low m (suc k) p n h t =
    elim (bit_cases n) [
      | inl e ↦
          let here : p ≤ m = leb-true p m (both_left _ _ (rw (places_odd k p n e) at t)) in
          let ih = within_low m k (p + 1) (n / 2) (halved k n h) (both_right _ _ (rw (places_odd k p n e) at t)) in
          grown (m - p) (omega arith) (omega arith) ih
      | inr e ↦
          let ih = within_low m k (p + 1) (n / 2) (halved k n h) (rw (places_even k p n e) at t) in
          elim (le-or-gt p m) [
            | inl here ↦ grown (m - p) (omega arith) (omega arith) ih
            | inr past ↦
                let z : m + 1 - (p + 1) ≡ 0 = omega arith in
                let z' : m + 1 - p ≡ 0 = omega arith in
                let i : n / 2 < 2 ^ 0 = rw z at ih in
                rw z' (omega arith)
          ]
    ]

-- no place past so many digits, by the highest bit that is set
pub within_by_highest : (n m : ℕ) → n < 2 ^ 16 → leb (16 - count_leading_zeros 16 n) m ≡ bitmap_within m n
unfolding bitmap_within bitmap_places_from_one
within_by_highest n m h =
    let top = leading_length 16 n h in
    let j = top.0 in
    let high : 16 - count_leading_zeros 16 n ≡ j = omega (arith, top.1) in
    rw high
    (elim (le-or-gt j m) [
      | inl fits ↦ le-leb j m fits ∙ sym (low_within m 16 1 n j top.2 (omega arith))
      | inr past ↦
          lt-leb j m past
          ∙ elim (bool_cases (every (λ q. leb q m) (bitmap_places_counted_from 16 1 n))) [
            | inl t ↦
                let e : m + 1 - 1 ≡ m = omega arith in
                let low : n < 2 ^ m = rw e at (within_low m 16 1 n h t) in
                let w = two-pow-succ m in
                let up : 2 ^ suc m ≤ 2 ^ j = pow_mono past in
                absurd (omega (arith, top.3))
            | inr f ↦ sym f
          ]
    ])

-- the lowest place of a bitmap that sets one, and the bitmap without it
module _ (n : ℕ) (h : n < 2 ^ 16) (some : 1 ≤ set_bit_count n) where
  not-zero : 0 < n
  unfolding bitmap_places_from_one
  not-zero = elim (le-or-gt 1 n) [
    | inl p ↦ p
    | inr z ↦ let e : n ≡ 0 = omega arith in
        absurd (omega (arith, rw (e, places_zero 16 1) at some))
  ]

  pub zeros_small : (count_trailing_zeros 16 n < 16) × (2 ^ count_trailing_zeros 16 n ≤ n)
  zeros_small = lowest_bit 16 n not-zero h

  pub lowest_place : bitmap_places_from_one n ≡ (count_trailing_zeros 16 n + 1) ∷ bitmap_places_from_one (n - 2 ^ count_trailing_zeros 16 n)
  unfolding bitmap_places_from_one
  lowest_place = lowest_from 16 1 n not-zero h
