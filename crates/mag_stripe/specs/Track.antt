-- Track 2 Data, 9F6B (document 02, Item 9; Book C-2, A.1.178): where its discretionary data are. A track is any list of
-- bytes, read as nibbles, high one first. After the account number come the separator D, four nibbles of the expiry
-- date, three of the service code, the discretionary digits, and F as padding.
-- Assumes nothing.
use Rattle.std.specs.Prelude.{[], ◌∷◌, ℕ, suc, ◌+◌, ◌-◌, ◌*◌, drop}
use Rattle.basics.specs.Types.{Bytes, Count, Digits, Value}
use Rattle.basics.specs.Number.{nibbles}
use Rattle.basics.specs.Choice.{when◌then◌else◌, ◌=?◌}
use Rattle.mag_stripe.specs.declared.DiscretionaryData.{DiscretionaryData}

-- the field separator and the padding
abbrev pub track_separator : ℕ
track_separator = 0xD

abbrev pub track_padding : ℕ
track_padding = 0xF

-- how many nibbles are before the first x, all of them where there is none
unfoldable pub nibbles_before : ℕ → Digits → Count
nibbles_before x [] = 0
nibbles_before x (n ∷ s) = when n =? x then 0 else suc (nibbles_before x s)

-- the discretionary data of a track's nibbles: where they end, which is the first F after the first D or the end of the
-- track, and how many digits they have: those after the first seven, expiry date and service code
unfoldable pub discretionary_data_in_nibbles : Digits → DiscretionaryData
discretionary_data_in_nibbles s =
    let start = nibbles_before track_separator s + 1 in
    let count = nibbles_before track_padding (drop start s) in
    record { end = start + count; count = count - 7 }

-- the same of a track's bytes
abbrev pub discretionary_data_of : Value → DiscretionaryData
discretionary_data_of t = discretionary_data_in_nibbles (nibbles t)

-- nibbles two by two as bytes, high one first: `nibbles` undone
unfoldable pub packed_nibbles : Digits → Bytes
packed_nibbles [] = []
packed_nibbles (n ∷ []) = []
packed_nibbles (h ∷ l ∷ s) = (h * 16 + l) ∷ packed_nibbles s
