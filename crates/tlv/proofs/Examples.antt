-- Worked contents of templates, by computation: what is next after padding, and the trees of padded bytes.
-- Assumes nothing.
use Rattle.std.specs.Prelude.{None, Some}
use mathlib.Core.Path.{◌≡◌, refl}
use mathlib.Core.List.{[], ◌∷◌, map}
use Rattle.basics.specs.Choice.{if}
use Rattle.basics.specs.Number.{append_big_endian_bytes}
use Rattle.basics.specs.Recursion.{recurse_with_fuel_from_length, recurse_with_fuel}
use Rattle.tlv.specs.declared.NextInTemplate.TheVariants.{End, Inner, Malformed}
use Rattle.tlv.specs.Tag.{tag_size, tag_size_from_second_byte, tag_size_from_third_byte, tag_at, tag_first_byte, is_template}
use Rattle.tlv.specs.Tag.{is_private}
use Rattle.tlv.specs.Length.{length_at}
use Rattle.tlv.specs.Object.{tlv_header, header_of}
use Rattle.tlv.specs.Tree.{Forest, end, leaf, node, next_in_template, prepend_leaf, prepend_node, parse_tree}

-- no bytes; padding alone; an object, at once and after two bytes of padding, which its value's start counts; FF,
-- and FF after 00
next : map next_in_template
    ([]
    ∷ (0x00 ∷ 0x00 ∷ [])
    ∷ (0x9F ∷ 0x08 ∷ 0x01 ∷ 0x02 ∷ 0x00 ∷ [])
    ∷ (0x00 ∷ 0x00 ∷ 0x9F ∷ 0x08 ∷ 0x01 ∷ 0x02 ∷ 0x00 ∷ [])
    ∷ (0xFF ∷ 0x95 ∷ 0x00 ∷ [])
    ∷ (0x00 ∷ 0xFF ∷ 0x00 ∷ [])
    ∷ [])
    ≡ End ∷ End ∷ Inner (tlv_header 0x9F08 3 1) ∷ Inner (tlv_header 0x9F08 5 1) ∷ Malformed ∷ Malformed ∷ []
unfolding next_in_template header_of tag_at tag_size tag_size_from_second_byte tag_size_from_third_byte length_at tag_first_byte
    is_template is_private append_big_endian_bytes if
next = refl

-- the object at the front of bytes is none after padding
front : header_of (0x00 ∷ 0x95 ∷ 0x00 ∷ []) ≡ None
unfolding header_of tag_at tag_size if
front = refl

abbrev one : Forest
one = leaf 0x95 (0x00 ∷ []) end

-- padding before, after and between, and within a template; a value of 00 and a length of 00 are no padding
trees : map (parse_tree 1)
    ((0x00 ∷ 0x95 ∷ 0x01 ∷ 0x00 ∷ [])
    ∷ (0x95 ∷ 0x01 ∷ 0x00 ∷ 0x00 ∷ 0x00 ∷ [])
    ∷ (0x9C ∷ 0x00 ∷ 0x00 ∷ 0x95 ∷ 0x01 ∷ 0x00 ∷ [])
    ∷ (0xE1 ∷ 0x02 ∷ 0x00 ∷ 0x00 ∷ 0x00 ∷ [])
    ∷ (0xE1 ∷ 0x06 ∷ 0x00 ∷ 0x95 ∷ 0x01 ∷ 0x00 ∷ 0x00 ∷ 0x00 ∷ 0x00 ∷ 0x95 ∷ 0x01 ∷ 0x00 ∷ [])
    ∷ [])
    ≡ Some one ∷ Some one ∷ Some (leaf 0x9C [] one) ∷ Some (node 0xE1 end end) ∷ Some (node 0xE1 one one) ∷ []
unfolding parse_tree recurse_with_fuel_from_length recurse_with_fuel next_in_template prepend_leaf prepend_node header_of tag_at
    tag_size length_at tag_first_byte is_template is_private append_big_endian_bytes if
trees = refl

-- inside a tag, between tag and length, and in place of the value's end: read as they are
inside : map (parse_tree 1)
    ((0x9F ∷ 0x00 ∷ 0x08 ∷ 0x02 ∷ 0x00 ∷ 0x02 ∷ [])
    ∷ (0x95 ∷ 0x00 ∷ 0x01 ∷ 0x00 ∷ [])
    ∷ (0x95 ∷ 0x02 ∷ 0x00 ∷ [])
    ∷ [])
    ≡ None ∷ Some (leaf 0x95 [] (leaf 0x01 [] end)) ∷ None ∷ []
unfolding parse_tree recurse_with_fuel_from_length recurse_with_fuel next_in_template prepend_leaf prepend_node header_of tag_at
    tag_size tag_size_from_second_byte length_at tag_first_byte is_template is_private append_big_endian_bytes if
inside = refl
