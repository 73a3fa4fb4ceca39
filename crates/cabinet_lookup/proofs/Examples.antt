-- Worked lookups, by computation: each rule on both sides of its edge, as the value and as the word that a host gets
-- (start, source, length).
-- Assumes nothing.
use mathlib.Core.Path.{◌≡◌, refl, ap}
use mathlib.Core.List.{List, [], ◌∷◌, map}
use Prim.Native.Nat.{ℕ}
use Rattle.basics.specs.Choice.{if}
use Rattle.basics.specs.Number.{append_big_endian_bytes}
use Rattle.basics.specs.Recursion.{recurse_with_fuel, recurse_with_fuel_from_length}
use Rattle.tlv.specs.Tag.{tag_size, tag_size_from_second_byte, tag_size_from_third_byte, tag_at, tag_first_byte, is_template}
use Rattle.tlv.specs.Tag.{is_private}
use Rattle.tlv.specs.Length.{length_at, length_after81}
use Rattle.tlv.specs.Object.{header_of}
use Rattle.tlv.specs.Primitives.{primitive_at_front}
use Rattle.cabinet_lookup.specs.Value.{leading_primitive_objects, first_value_of_tag, value_or_default, lookup_value}
use Rattle.cabinet_lookup.specs.Place.{lookup_shifted, lookup_first, span_by_site_or_defaults}
use Rattle.cabinet_lookup.specs.Word.{source_by_values, lookup_word, lookup_word_start, lookup_word_source}
use Rattle.cabinet_lookup.specs.Word.{lookup_word_length}

-- ---- the site's list has 9A and 9C, the defaults 9C and 9F1A; 9F35 is in neither

abbrev site : List ℕ
site = 0x9A ∷ 0x03 ∷ 0x25 ∷ 0x06 ∷ 0x15 ∷ 0x9C ∷ 0x01 ∷ 0x00 ∷ []

abbrev defaults : List ℕ
defaults = 0x9C ∷ 0x01 ∷ 0x20 ∷ 0x9F ∷ 0x1A ∷ 0x02 ∷ 0x00 ∷ 0x56 ∷ []

abbrev tags : List ℕ
tags = 0x9C ∷ 0x9F1A ∷ 0x9F35 ∷ []

values : map (λ t. lookup_value t site defaults) tags ≡ (0x00 ∷ []) ∷ (0x00 ∷ 0x56 ∷ []) ∷ [] ∷ []
unfolding leading_primitive_objects first_value_of_tag value_or_default recurse_with_fuel_from_length recurse_with_fuel
    primitive_at_front header_of tag_at tag_size tag_size_from_second_byte length_at tag_first_byte is_template is_private
    append_big_endian_bytes if
values = refl

-- at 7 of the site; at 6 of the defaults, which is 14 over both; no bytes at the front of the defaults
places : map (λ t. lookup_word t site defaults) tags ≡ 0x0000000700010001 ∷ 0x0000000E00020002 ∷ 0x0000000800000000 ∷ []
unfolding lookup_word source_by_values leading_primitive_objects first_value_of_tag lookup_first lookup_shifted
    span_by_site_or_defaults recurse_with_fuel_from_length recurse_with_fuel primitive_at_front header_of tag_at tag_size
    tag_size_from_second_byte length_at tag_first_byte is_template is_private append_big_endian_bytes if
places = refl

-- ---- 9C by the site's list: empty there; after a template; after 00; twice; no list

abbrev sites : List (List ℕ)
sites =
    (0x9C ∷ 0x00 ∷ [])
    ∷ (0x9F ∷ 0x1A ∷ 0x02 ∷ 0x08 ∷ 0x40 ∷ 0x70 ∷ 0x00 ∷ 0x9C ∷ 0x01 ∷ 0x01 ∷ [])
    ∷ (0x00 ∷ 0x9C ∷ 0x01 ∷ 0x01 ∷ [])
    ∷ (0x9C ∷ 0x01 ∷ 0x01 ∷ 0x9C ∷ 0x01 ∷ 0x02 ∷ [])
    ∷ []
    ∷ []

site_values : map (λ s. lookup_value 0x9C s defaults) sites ≡ [] ∷ (0x20 ∷ []) ∷ (0x20 ∷ []) ∷ (0x01 ∷ []) ∷ (0x20 ∷ [])
    ∷ []
unfolding leading_primitive_objects first_value_of_tag value_or_default recurse_with_fuel_from_length recurse_with_fuel
    primitive_at_front header_of tag_at tag_size tag_size_from_second_byte length_at tag_first_byte is_template is_private
    append_big_endian_bytes if
site_values = refl

site_places : map (λ s. lookup_word 0x9C s defaults) sites
    ≡ 0x0000000200010000 ∷ 0x0000000C00020001 ∷ 0x0000000600020001 ∷ 0x0000000200010001 ∷ 0x0000000200020001 ∷ []
unfolding lookup_word source_by_values leading_primitive_objects first_value_of_tag lookup_first lookup_shifted
    span_by_site_or_defaults recurse_with_fuel_from_length recurse_with_fuel primitive_at_front header_of tag_at tag_size
    tag_size_from_second_byte length_at tag_first_byte is_template is_private append_big_endian_bytes if
site_places = refl

-- ---- empty values at the end of each list, and a tag in neither: 9C, 9F1A and 9F35

abbrev ends : List ℕ
ends = map (λ t. lookup_word t (0x9C ∷ 0x00 ∷ []) (0x9F ∷ 0x1A ∷ 0x00 ∷ [])) tags

ends_words : ends ≡ 0x0000000200010000 ∷ 0x0000000500020000 ∷ 0x0000000200000000 ∷ []
unfolding lookup_word source_by_values leading_primitive_objects first_value_of_tag lookup_first lookup_shifted
    span_by_site_or_defaults recurse_with_fuel_from_length recurse_with_fuel primitive_at_front header_of tag_at tag_size
    tag_size_from_second_byte length_at tag_first_byte is_template is_private append_big_endian_bytes if
ends_words = refl

-- a word taken apart
word_apart : map lookup_word_start ends ≡ 2 ∷ 5 ∷ 2 ∷ []
word_apart = ap (map lookup_word_start) ends_words

sources_apart : map lookup_word_source ends ≡ 1 ∷ 2 ∷ 0 ∷ []
sources_apart = ap (map lookup_word_source) ends_words

lengths_apart : map lookup_word_length (0x0000000500010000 ∷ 0x000000050002FFFF ∷ []) ≡ 0 ∷ 65535 ∷ []
lengths_apart = refl

-- ---- a list that is truncated: objects before the broken one still count, the broken one is that of the defaults

abbrev cut : List ℕ
cut = 0x9C ∷ 0x01 ∷ 0x01 ∷ 0x9F ∷ 0x02 ∷ 0x06 ∷ 0x00 ∷ 0x00 ∷ []

abbrev amounts : List ℕ
amounts = 0x9C ∷ 0x01 ∷ 0x20 ∷ 0x9F ∷ 0x02 ∷ 0x06 ∷ 0x00 ∷ 0x00 ∷ 0x00 ∷ 0x00 ∷ 0x12 ∷ 0x34 ∷ []

cut_values : map (λ t. lookup_value t cut amounts) (0x9C ∷ 0x9F02 ∷ []) ≡ (0x01 ∷ [])
    ∷ (0x00 ∷ 0x00 ∷ 0x00 ∷ 0x00 ∷ 0x12 ∷ 0x34 ∷ []) ∷ []
unfolding leading_primitive_objects first_value_of_tag value_or_default recurse_with_fuel_from_length recurse_with_fuel
    primitive_at_front header_of tag_at tag_size tag_size_from_second_byte length_at tag_first_byte is_template is_private
    append_big_endian_bytes if
cut_values = refl

cut_places : map (λ t. lookup_word t cut amounts) (0x9C ∷ 0x9F02 ∷ []) ≡ 0x0000000200010001 ∷ 0x0000000E00020006 ∷ []
unfolding lookup_word source_by_values leading_primitive_objects first_value_of_tag lookup_first lookup_shifted
    span_by_site_or_defaults recurse_with_fuel_from_length recurse_with_fuel primitive_at_front header_of tag_at tag_size
    tag_size_from_second_byte length_at tag_first_byte is_template is_private append_big_endian_bytes if
cut_places = refl

-- ---- a template of the tag is no object; tags of three bytes and lengths after 81; numbers that are no tag

abbrev odd : List ℕ
odd = 0xDF ∷ 0x81 ∷ 0x1B ∷ 0x81 ∷ 0x01 ∷ 0x7F ∷ 0x70 ∷ 0x03 ∷ 0x9C ∷ 0x01 ∷ 0x01 ∷ []

odd_values : map (λ t. lookup_value t odd defaults) (0xDF811B ∷ 0x70 ∷ 0x9C ∷ 0 ∷ 0x1DF811B ∷ []) ≡ (0x7F ∷ []) ∷ []
    ∷ (0x20 ∷ []) ∷ [] ∷ [] ∷ []
unfolding leading_primitive_objects first_value_of_tag value_or_default recurse_with_fuel_from_length recurse_with_fuel
    primitive_at_front header_of tag_at tag_size tag_size_from_second_byte tag_size_from_third_byte length_at length_after81
    tag_first_byte is_template is_private append_big_endian_bytes if
odd_values = refl
