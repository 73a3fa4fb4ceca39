-- What private functions promise for their callers' proofs: the first two characters of a text as a byte, and a count. This file
-- states no rule: a reader can skip it. `spelled_broken` and `spelled_byte` in proofs/Digits tie it to `hex_decoding_of`.
-- Assumes nothing.
use Rattle.std.specs.Prelude.{[], ◌∷◌, Option, Some, None, Result, Ok, Err}
use Rattle.text_line.specs.declared.HexDecoded.{HexDecoded}
use Rattle.text_line.specs.declared.LineByteCount.{LineByteCount}
use Rattle.text_line.specs.declared.LineProblem.{LineProblem}
use Rattle.basics.specs.Choice.{when◌then◌else◌, ◌=?◌}
use Rattle.basics.specs.Types.{Byte, Bytes}
use Rattle.text_line.specs.Digits.{is_hex_pair, hex_pair_byte}

-- the first two characters as a byte
unfoldable pub hex_pair_at_front : Bytes → Option Byte
hex_pair_at_front [] = None
hex_pair_at_front (a ∷ []) = None
hex_pair_at_front (a ∷ b ∷ s) =
    when is_hex_pair a b then Some (hex_pair_byte a b)
    else None

-- how many bytes were decoded, unless a problem stopped it
unfoldable pub hex_decoded_count : HexDecoded → Result LineByteCount LineProblem
hex_decoded_count d =
    when d.problem =? 0 then Ok (record { size = d.size })
    else Err (record { number = d.problem })
