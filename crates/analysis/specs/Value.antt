-- Values as the rules take them: the first bytes of one.
-- Assumes nothing.
use Rattle.std.specs.Prelude.{[], ◌∷◌, zero, suc}
use Rattle.basics.specs.Types.{Bytes, Length, Value}

-- the first n bytes, with zeros past the end
unfoldable pub first_bytes_zero_padded : Length → Value → Bytes
first_bytes_zero_padded zero s = []
first_bytes_zero_padded (suc n) [] = 0 ∷ first_bytes_zero_padded n []
first_bytes_zero_padded (suc n) (x ∷ s) = x ∷ first_bytes_zero_padded n s
