-- Length of a data object (document 01, "Reading an answer"; Book 3, annex B): one to three bytes, any value in them.
-- Assumes nothing.
use Rattle.tlv.specs.declared.TlvLength.{TlvLength}
use Rattle.std.specs.Prelude.{List, [], ◌∷◌, ℕ, ◌+◌, ◌*◌, Option, Some, None}
use Rattle.basics.specs.Choice.{when◌then◌else◌, ◌<?◌, ◌=?◌}

-- a length n that takes k bytes
abbrev pub length_parsed : ℕ → ℕ → Option TlvLength
length_parsed n k = Some (record { len = n; size = k })

-- after 81: one byte
unfoldable pub length_after81 : List ℕ → Option TlvLength
length_after81 [] = None
length_after81 (a ∷ s) = length_parsed a 2

-- after 82: two bytes, high first
unfoldable pub length_after82 : List ℕ → Option TlvLength
length_after82 [] = None
length_after82 (a ∷ []) = None
length_after82 (a ∷ b ∷ s) = length_parsed (a * 256 + b) 3

-- 00 to 7F is the length itself, 81 has one more byte, 82 two; 80 and 83 up are refused
unfoldable pub length_at : List ℕ → Option TlvLength
length_at [] = None
length_at (a ∷ s) =
    when a <? 0x80 then length_parsed a 1
    else when a =? 0x81 then length_after81 s
    else when a =? 0x82 then length_after82 s
    else None
