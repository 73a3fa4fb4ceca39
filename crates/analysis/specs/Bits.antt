-- Bits of a value (document 01, "Result bits and the choice"): by byte and b8 to b1, as the rules name them, and by
-- one number.
-- Assumes nothing.
use Rattle.std.specs.Prelude.{Bool, ℕ, ◌+◌, ◌-◌, ◌/◌, ◌%◌, ◌^◌, get_or}
use Rattle.basics.specs.Types.{Byte, Value}
use Rattle.basics.specs.Choice.{when◌then◌else◌}
use Rattle.basics.specs.Number.{has_bit_of_weight}

-- bit b of a byte is set: b8 is the highest, b1 the lowest
abbrev pub byte_has_bit : Byte → ℕ → Bool
byte_has_bit x b = has_bit_of_weight x (2 ^ (b - 1))

-- what bit b adds to a byte where a test sets it
abbrev pub bit_weight_if_set : ℕ → Bool → Byte
bit_weight_if_set b set = when set then 2 ^ (b - 1) else 0

-- bit b of byte n of a value is set: the first byte is byte 1; past the end no bit is set
abbrev pub value_has_bit : Value → ℕ → ℕ → Bool
value_has_bit s n b = byte_has_bit (get_or s (n - 1) 0) b

-- bit i is set, counted from byte 1 b8 as bit 0: byte 5 b1 is bit 39
unfoldable pub has_bit_counted_from_zero_at_byte1b8 : Value → ℕ → Bool
has_bit_counted_from_zero_at_byte1b8 s i = value_has_bit s (i / 8 + 1) (8 - i % 8)
