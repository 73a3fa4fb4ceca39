-- Does a value fit its row (document 01, "Dictionary"): the length in bytes, and the digits that its form requires.
-- Assumes nothing.
use Rattle.std.specs.Prelude.{Bool, true, [], ◌∷◌, ℕ, length}
use Rattle.basics.specs.Choice.{when◌then◌else◌, ◌and◌, ◌≤?◌, ◌<?◌, ◌=?◌, every}
use Rattle.basics.specs.Number.{nibbles}
use Rattle.basics.specs.Types.{Value, Digits}
use Rattle.dictionary.specs.Rows.{Row, form_n, form_cn}

-- a four-bit digit is decimal
abbrev pub is_decimal_nibble : ℕ → Bool
is_decimal_nibble d = d <? 10

-- a four-bit digit is F
abbrev pub is_nibble_f : ℕ → Bool
is_nibble_f d = d =? 15

-- n: every digit is 0 to 9
unfoldable pub is_numeric : Value → Bool
is_numeric v = every is_decimal_nibble (nibbles v)

-- digits 0 to 9, and from the first that is none only Fs to the end
unfoldable pub is_digits_then_fs : Digits → Bool
is_digits_then_fs [] = true
is_digits_then_fs (d ∷ s) =
    when is_decimal_nibble d then is_digits_then_fs s
    else every is_nibble_f (d ∷ s)

-- cn: any digits and then any Fs
unfoldable pub is_compressed_numeric : Value → Bool
is_compressed_numeric v = is_digits_then_fs (nibbles v)

-- what the form requires of the digits; b requires nothing
unfoldable pub digits_match_form : ℕ → Value → Bool
digits_match_form form v =
    when form =? form_n then is_numeric v
    else when form =? form_cn then is_compressed_numeric v
    else true

-- the length is in range and the digits fit
unfoldable pub length_and_digits_fit_row : Row → Value → Bool
length_and_digits_fit_row r v =
    r.least ≤? length v
    and length v ≤? r.greatest
    and digits_match_form r.form v
