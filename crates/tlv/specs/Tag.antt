-- Tag of a data object (document 01, "Reading an answer"; Book 3, annex B): one to three bytes.
-- Assumes nothing.
use Rattle.tlv.specs.declared.Tag.{Tag}
use Rattle.std.specs.Prelude.{Bool, List, [], ◌∷◌, ℕ, ◌/◌, ◌%◌, take, Option, Some, None}
use Rattle.basics.specs.Choice.{when◌then◌else◌, ◌≤?◌, ◌<?◌, ◌=?◌}
use Rattle.basics.specs.Number.{big_endian_number, has_bit_of_weight}

-- the low five bits of a first byte, all set, indicate that another byte follows
abbrev pub tag_first_byte_continues : ℕ → Bool
tag_first_byte_continues b = b % 32 =? 31

-- a later byte with its top bit set is followed by another
abbrev pub tag_later_byte_continues : ℕ → Bool
tag_later_byte_continues b = 0x80 ≤? b

-- with a third byte the tag ends: 3 bytes, or 0 where that byte requires a fourth or is missing
unfoldable pub tag_size_from_third_byte : List ℕ → ℕ
tag_size_from_third_byte [] = 0
tag_size_from_third_byte (b ∷ s) =
    when tag_later_byte_continues b then 0
    else 3

-- with a second byte, which is not 80
unfoldable pub tag_size_from_second_byte : List ℕ → ℕ
tag_size_from_second_byte [] = 0
tag_size_from_second_byte (b ∷ s) =
    when b =? 0x80 then 0
    else when tag_later_byte_continues b then tag_size_from_third_byte s
    else 2

-- how many bytes at the front are a tag, 0 where no whole tag is there; the first byte is not 00
unfoldable pub tag_size : List ℕ → ℕ
tag_size [] = 0
tag_size (b ∷ s) =
    when b =? 0 then 0
    else when tag_first_byte_continues b then tag_size_from_second_byte s
    else 1

-- a tag of k bytes that are the number n
abbrev pub tag_parsed : ℕ → ℕ → Option Tag
tag_parsed n k = Some (record { number = n; size = k })

-- the tag at the front: its bytes as one number, and their count
unfoldable pub tag_at : List ℕ → Option Tag
tag_at s =
    when tag_size s =? 0 then None
    else tag_parsed (big_endian_number (take (tag_size s) s)) (tag_size s)

-- the first byte of a tag that is given as a number
unfoldable pub tag_first_byte : ℕ → ℕ
tag_first_byte t =
    when t <? 0x100 then t
    else when t <? 0x10000 then t / 0x100
    else t / 0x10000

-- a template has bit b6 set in its first byte
unfoldable pub is_template : ℕ → Bool
is_template t = has_bit_of_weight (tag_first_byte t) 32

-- the two top bits of the first byte mark the private class
unfoldable pub is_private : ℕ → Bool
is_private t = tag_first_byte t / 64 =? 3

-- ---- what holds of it, proved in proofs/Laws and proofs/Prefix for all lists
--   tag-fits         a tag has 1 to 3 bytes, all inside the list
--   first-byte-is    of bytes, the first byte of a tag's number is the list's first: template-is, private-is
--   tag-kept         bytes after the list do not change its tag
