-- Worked searches, by computation: each rule on both sides of its edge, as the word that a host gets (place,
-- then length).
-- Assumes nothing.
use mathlib.Core.Path.{◌≡◌, refl}
use mathlib.Core.List.{List, [], ◌∷◌, map}
use Prim.Native.Nat.{ℕ}
use lib.ListN.{replicate}
use Rattle.basics.specs.Choice.{if}
use Rattle.basics.specs.Number.{append_big_endian_bytes}
use Rattle.basics.specs.Recursion.{recurse_with_fuel, recurse_with_fuel_from_length}
use Rattle.tlv.specs.Tag.{tag_size, tag_size_from_second_byte, tag_at, tag_first_byte, is_template, is_private}
use Rattle.tlv.specs.Length.{length_at, length_after82}
use Rattle.tlv.specs.Object.{header_of}
use Rattle.tlv.specs.Tree.{next_in_template}
use Rattle.find.specs.Find.{first_found_unless_malformed, found_shifted, find_tag_within_levels, find_tag}
use Rattle.find.specs.Word.{find_word}

abbrev word : List ℕ → ℕ → ℕ
word bytes tag = find_word (find_tag tag bytes)

abbrev none : ℕ
none = 0xFFFFFFFFFFFFFFFF

abbrev malformed : ℕ
malformed = 0xFFFFFFFFFFFFFFFE

-- an answer to SELECT: 6F with 84 and, in A5, 9F38; a template's own tag, one in it, one two levels deep, and one that
-- is not present
abbrev selected : List ℕ
selected = 0x6F ∷ 0x0A ∷ 0x84 ∷ 0x02 ∷ 0xA0 ∷ 0x00 ∷ 0xA5 ∷ 0x04 ∷ 0x9F ∷ 0x38 ∷ 0x01 ∷ 0xAA ∷ []

places : map (word selected) (0x6F ∷ 0x84 ∷ 0xA5 ∷ 0x9F38 ∷ 0x4F ∷ [])
    ≡ 0x000000020000000A ∷ 0x0000000400000002 ∷ 0x0000000800000004 ∷ 0x0000000B00000001 ∷ none ∷ []
unfolding find_tag find_tag_within_levels recurse_with_fuel_from_length recurse_with_fuel next_in_template header_of tag_at tag_size
    tag_size_from_second_byte length_at tag_first_byte is_template is_private append_big_endian_bytes if first_found_unless_malformed
    found_shifted
places = refl

-- no bytes; the first of two; one in a template before the one after it; an empty one
abbrev firsts : List (List ℕ)
firsts =
    []
    ∷ (0x84 ∷ 0x01 ∷ 0x11 ∷ 0x84 ∷ 0x02 ∷ 0x22 ∷ 0x22 ∷ [])
    ∷ (0xE1 ∷ 0x03 ∷ 0x84 ∷ 0x01 ∷ 0x11 ∷ 0x84 ∷ 0x02 ∷ 0x22 ∷ 0x22 ∷ [])
    ∷ (0xE1 ∷ 0x00 ∷ 0x84 ∷ 0x00 ∷ [])
    ∷ []

orders : map (λ s. word s 0x84) firsts ≡ none ∷ 0x0000000200000001 ∷ 0x0000000400000001 ∷ 0x0000000400000000 ∷ []
unfolding find_tag find_tag_within_levels recurse_with_fuel_from_length recurse_with_fuel next_in_template header_of tag_at tag_size
    length_at tag_first_byte is_template is_private append_big_endian_bytes if first_found_unless_malformed found_shifted
orders = refl

-- four levels, and a fifth: 84 in the innermost, found first and then not
abbrev nests : List (List ℕ)
nests =
    (0xE1 ∷ 0x08 ∷ 0xE1 ∷ 0x06 ∷ 0xE1 ∷ 0x04 ∷ 0xE1 ∷ 0x02 ∷ 0x84 ∷ 0x00 ∷ [])
    ∷ (0xE1 ∷ 0x08 ∷ 0xE1 ∷ 0x06 ∷ 0xE1 ∷ 0x04 ∷ 0xE1 ∷ 0x02 ∷ 0xE1 ∷ 0x00 ∷ [])
    ∷ (0x84 ∷ 0x00 ∷ 0xE1 ∷ 0x08 ∷ 0xE1 ∷ 0x06 ∷ 0xE1 ∷ 0x04 ∷ 0xE1 ∷ 0x02 ∷ 0xE1 ∷ 0x00 ∷ [])
    ∷ []

levels : map (λ s. word s 0x84) nests ≡ 0x0000000A00000000 ∷ malformed ∷ malformed ∷ []
unfolding find_tag find_tag_within_levels recurse_with_fuel_from_length recurse_with_fuel next_in_template header_of tag_at tag_size
    length_at tag_first_byte is_template is_private append_big_endian_bytes if first_found_unless_malformed found_shifted
levels = refl

-- malformed after the object that is found, in a template after it, and within the template that is found
abbrev tails : List (List ℕ)
tails =
    (0x84 ∷ 0x01 ∷ 0x11 ∷ 0x85 ∷ [])
    ∷ (0x84 ∷ 0x00 ∷ 0xE1 ∷ 0x02 ∷ 0x85 ∷ 0x01 ∷ [])
    ∷ (0xE1 ∷ 0x03 ∷ 0x84 ∷ 0x00 ∷ 0x85 ∷ [])
    ∷ []

broken : map (λ s. map (word s) (0x84 ∷ 0xE1 ∷ 0x4F ∷ [])) tails
    ≡ (malformed ∷ malformed ∷ malformed ∷ []) ∷ (malformed ∷ malformed ∷ malformed ∷ [])
    ∷ (malformed ∷ malformed ∷ malformed ∷ []) ∷ []
unfolding find_tag find_tag_within_levels recurse_with_fuel_from_length recurse_with_fuel next_in_template header_of tag_at tag_size
    length_at tag_first_byte is_template is_private append_big_endian_bytes if first_found_unless_malformed found_shifted
broken = refl

-- one object that takes 65,535 bytes, and one that takes 65,536
abbrev longest : List (List ℕ)
longest = (0x84 ∷ 0x82 ∷ 0xFF ∷ 0xFB ∷ replicate 0xFFFB 0) ∷ (0x84 ∷ 0x82 ∷ 0xFF ∷ 0xFC ∷ replicate 0xFFFC 0) ∷ []

lengths : map (λ s. word s 0x84) longest ≡ 0x000000040000FFFB ∷ malformed ∷ []
unfolding find_tag find_tag_within_levels recurse_with_fuel_from_length recurse_with_fuel next_in_template header_of tag_at tag_size
    length_at length_after82 tag_first_byte is_template is_private append_big_endian_bytes if first_found_unless_malformed
    found_shifted
lengths = refl

-- padding: before 6F, before 84, in A5 and after all; places count it. A value of a template begins with its padding
abbrev spaced : List ℕ
spaced = 0x00 ∷ 0x6F ∷ 0x0C ∷ 0x00 ∷ 0x84 ∷ 0x02 ∷ 0xA0 ∷ 0x00 ∷ 0xA5 ∷ 0x05 ∷ 0x00 ∷ 0x9F ∷ 0x38 ∷ 0x01 ∷ 0xAA ∷ 0x00
    ∷ []

spaces : map (word spaced) (0x6F ∷ 0x84 ∷ 0xA5 ∷ 0x9F38 ∷ 0x00 ∷ 0x4F ∷ [])
    ≡ 0x000000030000000C ∷ 0x0000000600000002 ∷ 0x0000000A00000005 ∷ 0x0000000E00000001 ∷ none ∷ none ∷ []
unfolding find_tag find_tag_within_levels recurse_with_fuel_from_length recurse_with_fuel next_in_template header_of tag_at tag_size
    tag_size_from_second_byte length_at tag_first_byte is_template is_private append_big_endian_bytes if first_found_unless_malformed
    found_shifted
spaces = refl
