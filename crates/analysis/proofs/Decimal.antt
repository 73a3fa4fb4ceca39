-- Decimal numbers of three bytes, of six from two of three, whole amounts, dates by their digits, and the order of
-- dates of one century.
-- Assumes nothing.
use mathlib.Core.Bool.{true, false}
use mathlib.Core.List.{List, [], ◌∷◌}
use mathlib.Core.Logic.{◌⊎◌, inl, inr}
use mathlib.Core.Path.{◌≡◌, sym, ap, ap₂, ◌∙◌}
use Prim.Native.Nat.{ℕ, ◌+◌, ◌*◌}
use native.Mathlib.Omega.{arith}
use lib.Dec.{ltb}
use lib.ListN.{length, get_or, drop}
use borrow.Author.Tests.{ltb-true, ltb-false, lt-ltb, le-ltb}
use Rattle.basics.specs.Number.{nibbles}
use Rattle.basics.proofs.Laws.{if_yes, if_no, bool_cases}
use Rattle.analysis.specs.Digits.{append_decimal_digits, bcd_number, date_year_two_digits, four_digit_year, date_as_number}
use Rattle.analysis.specs.Digits.{first_date_is_later, amount_of}
use Rattle.analysis.specs.Inner.{bcd_byte}
use Rattle.analysis.specs.Value.{first_bytes_zero_padded}
use Rattle.analysis.proofs.Value.{front_whole, front_one, front_three}

pub decimal_one : (a : ℕ) → bcd_number (a ∷ []) ≡ bcd_byte a
unfolding append_decimal_digits nibbles bcd_byte
decimal_one a = omega arith

pub decimal_two : (a b : ℕ) → bcd_number (a ∷ b ∷ []) ≡ bcd_byte a * 100 + bcd_byte b
unfolding append_decimal_digits nibbles bcd_byte
decimal_two a b = omega arith

pub decimal_three : (a b c : ℕ) → bcd_number (a ∷ b ∷ c ∷ []) ≡ bcd_byte a * 10000 + bcd_byte b * 100 + bcd_byte c
unfolding append_decimal_digits nibbles bcd_byte
decimal_three a b c = omega arith

pub decimal_six : (a b c d e f : ℕ) → bcd_number (a ∷ b ∷ c ∷ d ∷ e ∷ f ∷ []) ≡ bcd_number (a ∷ b ∷ c ∷ []) * 1000000
    + bcd_number (d ∷ e ∷ f ∷ [])
unfolding append_decimal_digits nibbles
decimal_six a b c d e f = omega arith

-- of a whole amount every digit counts
pub whole_amount : (s : List ℕ) → length s ≡ 6 → amount_of s ≡ bcd_number s
unfolding amount_of
whole_amount s e = ap bcd_number (front_whole 6 s e)

-- ---- dates

pub year_digits : (s : List ℕ) → date_year_two_digits s ≡ bcd_byte (get_or s 0 0)
year_digits s = ap bcd_number (front_one s) ∙ decimal_one (get_or s 0 0)

pub month_and_day : (s : List ℕ) → bcd_number (drop 1 (first_bytes_zero_padded 3 s)) ≡ bcd_byte (get_or s 1 0) * 100
    + bcd_byte (get_or s 2 0)
month_and_day s = ap (λ (t : List ℕ). bcd_number (drop 1 t)) (front_three s) ∙ decimal_two (get_or s 1 0) (get_or s 2 0)

six_digits : (s : List ℕ) → bcd_number (first_bytes_zero_padded 3 s) ≡ date_year_two_digits s * 10000
    + bcd_number (drop 1 (first_bytes_zero_padded 3 s))
six_digits s =
    let e = ap bcd_number (front_three s) ∙ decimal_three (get_or s 0 0) (get_or s 1 0) (get_or s 2 0) in
    let y = year_digits s in
    let m = month_and_day s in
    omega (arith, e, y, m)

-- years 2000 to 2049 add a constant to the six digits, and so do 1950 to 1999
recent : (s : List ℕ) → ltb (date_year_two_digits s) 50 ≡ true
    → date_as_number s ≡ 20000000 + bcd_number (first_bytes_zero_padded 3 s)
unfolding date_as_number four_digit_year
recent s e =
    let y = if_yes (2000 + date_year_two_digits s) (1900 + date_year_two_digits s) e in
    let d = six_digits s in
    omega (arith, y, d)

former : (s : List ℕ) → ltb (date_year_two_digits s) 50 ≡ false
    → date_as_number s ≡ 19000000 + bcd_number (first_bytes_zero_padded 3 s)
unfolding date_as_number four_digit_year
former s e =
    let y = if_no (2000 + date_year_two_digits s) (1900 + date_year_two_digits s) e in
    let d = six_digits s in
    omega (arith, y, d)

shifted : (k m n : ℕ) → ltb (k + m) (k + n) ≡ ltb m n
shifted k m n = by (bool_cases (ltb m n))
  where
    by : (ltb m n ≡ true) ⊎ (ltb m n ≡ false) → ltb (k + m) (k + n) ≡ ltb m n
    by (inl e) = let h = ltb-true m n e in lt-ltb (k + m) (k + n) (omega arith) ∙ sym e
    by (inr e) = let h = ltb-false m n e in le-ltb (k + m) (k + n) (omega arith) ∙ sym e

-- on dates of one century the order is that of their six digits
pub one_century : (a b : List ℕ) → ltb (date_year_two_digits a) 50 ≡ ltb (date_year_two_digits b) 50
    → first_date_is_later a b ≡ ltb (bcd_number (first_bytes_zero_padded 3 b)) (bcd_number (first_bytes_zero_padded 3 a))
unfolding first_date_is_later
one_century a b q = by (bool_cases (ltb (date_year_two_digits a) 50))
  where
    by : (ltb (date_year_two_digits a) 50 ≡ true) ⊎ (ltb (date_year_two_digits a) 50 ≡ false)
        → ltb (date_as_number b) (date_as_number a) ≡ ltb (bcd_number (first_bytes_zero_padded 3 b))
        (bcd_number (first_bytes_zero_padded 3 a))
    by (inl e) = ap₂ ltb (recent b (sym q ∙ e)) (recent a e) ∙ shifted 20000000 (bcd_number (first_bytes_zero_padded 3 b))
        (bcd_number (first_bytes_zero_padded 3 a))
    by (inr e) = ap₂ ltb (former b (sym q ∙ e)) (former a e) ∙ shifted 19000000 (bcd_number (first_bytes_zero_padded 3 b))
        (bcd_number (first_bytes_zero_padded 3 a))
