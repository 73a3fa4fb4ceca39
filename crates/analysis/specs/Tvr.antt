-- The TVR, tag 95 (document 01, "Result bits and the choice"): the floor limit's byte, the five bytes put together, and
-- bits added to them.
-- Assumes nothing.
use Rattle.std.specs.Prelude.{[], ◌∷◌, ◌+◌}
use Rattle.basics.specs.Types.{Byte, TvrBytes, Value}
use Rattle.analysis.specs.Bits.{bit_weight_if_set}
use Rattle.analysis.specs.Digits.{first_amount_is_above}

-- byte 4: b8, the amount 9F02 is above the floor limit DF8123
abbrev pub tvr_byte4_amount_above_floor_limit : Value → Value → Byte
tvr_byte4_amount_above_floor_limit amount limit = bit_weight_if_set 8 (first_amount_is_above amount limit)

-- byte 1 has b8 alone, byte 2 the restrictions, byte 4 the floor limit
abbrev pub tvr_from_bytes2_and4 : Byte → Byte → TvrBytes
tvr_from_bytes2_and4 restrictions floor = 0x80 ∷ restrictions ∷ 0 ∷ floor ∷ 0 ∷ []

-- bits added to a TVR that has none of them, byte by byte
unfoldable pub tvr_with_bits : TvrBytes → TvrBytes → TvrBytes
tvr_with_bits [] t = []
tvr_with_bits (x ∷ s) [] = x ∷ s
tvr_with_bits (x ∷ s) (y ∷ t) = (x + y) ∷ tvr_with_bits s t
