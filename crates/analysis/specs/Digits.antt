-- Digits, dates and amounts (document 01, "Result bits and the choice"; the century: document 02, Item 2): bytes of two
-- digits each, compared as decimal numbers.
-- Assumes nothing.
use Rattle.std.specs.Prelude.{Bool, [], ◌∷◌, ℕ, ◌+◌, ◌*◌, drop}
use Rattle.basics.specs.Types.{Amount, Bytes, Digits, Value}
use Rattle.basics.specs.Choice.{when◌then◌else◌, ◌or◌, ◌<?◌, ◌=?◌}
use Rattle.basics.specs.Number.{nibbles}
use Rattle.analysis.specs.Value.{first_bytes_zero_padded}

-- a digit, or a type written in digits, is one of two
abbrev pub is_one_of : ℕ → ℕ → ℕ → Bool
is_one_of x a b = x =? a or x =? b

-- the digits s appended to the number n
unfoldable pub append_decimal_digits : ℕ → Digits → ℕ
append_decimal_digits n [] = n
append_decimal_digits n (d ∷ s) = append_decimal_digits (n * 10 + d) s

-- bytes of two digits each as one decimal number, the first digit the highest
abbrev pub bcd_number : Bytes → ℕ
bcd_number s = append_decimal_digits 0 (nibbles s)

-- the two digits of a date's year
abbrev pub date_year_two_digits : Value → ℕ
date_year_two_digits s = bcd_number (first_bytes_zero_padded 1 s)

-- the year of two digits: 00 to 49 are 2000 to 2049, 50 to 99 are 1950 to 1999
unfoldable pub four_digit_year : ℕ → ℕ
four_digit_year yy = when yy <? 50 then 2000 + yy else 1900 + yy

-- a date, three bytes YYMMDD, as a number of eight digits, YYYYMMDD; month and day are not checked
unfoldable pub date_as_number : Value → ℕ
date_as_number s = four_digit_year (date_year_two_digits s) * 10000 + bcd_number (drop 1 (first_bytes_zero_padded 3 s))

-- date a is later than date b; an equal one is not
unfoldable pub first_date_is_later : Value → Value → Bool
first_date_is_later a b = date_as_number b <? date_as_number a

-- an amount, six bytes, as a number of twelve digits
unfoldable pub amount_of : Value → Amount
amount_of s = bcd_number (first_bytes_zero_padded 6 s)

-- amount a is above amount b; an equal one is not
unfoldable pub first_amount_is_above : Value → Value → Bool
first_amount_is_above a b = amount_of b <? amount_of a

-- ---- what holds of it, proved in proofs/Decimal
--   one-century    on dates whose years are both 00 to 49, or both not, the later one has the greater six digits:
--                  there the rule is that of document 01
