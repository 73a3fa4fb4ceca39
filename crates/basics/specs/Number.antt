-- Bytes read as numbers: high byte first, and as pairs of four-bit digits.
-- Assumes nothing.
use Rattle.std.specs.Prelude.{Bool, List, [], ◌∷◌, ℕ, ◌+◌, ◌*◌, ◌/◌, ◌%◌}
use Rattle.basics.specs.Choice.{◌and◌, ◌≤?◌, ◌=?◌}

-- the bytes s appended to the number n, high byte first
unfoldable pub append_big_endian_bytes : ℕ → List ℕ → ℕ
append_big_endian_bytes n [] = n
append_big_endian_bytes n (b ∷ s) = append_big_endian_bytes (n * 256 + b) s

-- bytes as one number, high byte first
abbrev pub big_endian_number : List ℕ → ℕ
big_endian_number s = append_big_endian_bytes 0 s

-- each byte's high digit and then its low one
unfoldable pub nibbles : List ℕ → List ℕ
nibbles [] = []
nibbles (b ∷ s) = b / 16 ∷ b % 16 ∷ nibbles s

-- the bit of weight 1, 2, 4, .. 128 of a byte is set
abbrev pub has_bit_of_weight : ℕ → ℕ → Bool
has_bit_of_weight b weight = b / weight % 2 =? 1

-- a number lies between two others, inclusive
abbrev pub between : ℕ → ℕ → ℕ → Bool
between low n high = low ≤? n and n ≤? high
