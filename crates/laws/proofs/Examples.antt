-- Instances of the laws, computed with the stores that they come to; and for each law a case that lacks its hypothesis,
-- where it is false.
-- Assumes nothing.
use Rattle.std.specs.Prelude.{Option, Some, None}
use mathlib.Core.Path.{◌≡◌, refl}
use mathlib.Core.Bool.{true, false}
use mathlib.Core.List.{List, [], ◌∷◌, ◌++◌, map}
use Prim.Native.Nat.{ℕ}
use lib.ListN.{replicate}
use Rattle.basics.specs.Recursion.{recurse_with_fuel_from_length, recurse_with_fuel}
use Rattle.basics.specs.Choice.{if, both, either, every}
use Rattle.basics.specs.Number.{append_big_endian_bytes, nibbles}
use Rattle.tlv.specs.Tag.{tag_size, tag_size_from_second_byte, tag_at, tag_first_byte, is_template, is_private}
use Rattle.tlv.specs.Length.{length_at, length_after81}
use Rattle.tlv.specs.Object.{header_of}
use Rattle.tlv.specs.Tree.{object_count, next_in_template, prepend_leaf, prepend_node, parse_tree}
use Rattle.tlv.specs.Encoding.{tag_bytes, length_bytes}
use Rattle.dictionary.specs.Rows.{dictionary_rows, store_size, row_found_shifted, find_row, form_b, form_n, form_cn}
use Rattle.dictionary.specs.Form.{is_numeric, digits_match_form, length_and_digits_fit_row}
use Rattle.store.specs.Place.{row_offset, row_place_bytes, value_in_place, row_value, put_row}
use Rattle.reading.specs.declared.Sfi.{Sfi}
use Rattle.reading.specs.Taking.{primitive_items, allowed_in_template, row_allows_value_from_card}
use Rattle.reading.specs.Taking.{row_allows_value_and_absent_or_empty, store_item, store_next_item, store_all_items}
use Rattle.reading.specs.Answer.{ReadingOutcome, parse_response_body, template_body_items, read_body, is_body_to_be_read}
use Rattle.reading.specs.Answer.{is_status9000, response_length_is2_to258, read_answer}
use Rattle.dol.specs.Entries.{dol_entry_with_length, dol_entry_at, prepend_dol_entry, dol_entries_step, dol_entries}
use Rattle.dol.specs.Filling.{truncated_to_length, padding_byte, padded_to_length, fitted_to_length, dol_entry_bytes, dol_data}
use Rattle.dol.specs.Filling.{dol_data_if_parsed, dol_filled}
use Rattle.laws.specs.Records.{tree_has_primitive_tag, parsed_tree_has_primitive_tag, record_contents_tree}
use Rattle.laws.specs.Records.{read_record_contents, read_record_answer, outer_object_contents}
use Rattle.laws.specs.Records.{is_successful_record_answer_in70, shortest_record_answer}

-- ---- stores

abbrev empty : List ℕ
empty = replicate store_size 0

-- the store with a value in the row of a tag
abbrev put_found : List ℕ → List ℕ → Option ℕ → List ℕ
put_found b v None = b
put_found b v (Some k) = put_row dictionary_rows b k v

abbrev with : List ℕ → ℕ → List ℕ → List ℕ
with b t v = put_found b v (find_row dictionary_rows t)

-- ---- filling

abbrev amounts : List ℕ
amounts = with (with empty 0x9F02 (0 ∷ 0 ∷ 0 ∷ 0 ∷ 0x12 ∷ 0x34 ∷ [])) 0x95 (0x80 ∷ 0 ∷ 0 ∷ 0x80 ∷ 0 ∷ [])

-- 9F0202 and 9505: each alone, and joined
amount_joined : map (dol_filled dictionary_rows amounts) ((0x9F ∷ 0x02 ∷ 2 ∷ []) ∷ (0x95 ∷ 5 ∷ [])
    ∷ (0x9F ∷ 0x02 ∷ 2 ∷ 0x95 ∷ 5 ∷ []) ∷ [])
    ≡ Some (0x12 ∷ 0x34 ∷ []) ∷ Some (0x80 ∷ 0 ∷ 0 ∷ 0x80 ∷ 0 ∷ []) ∷ Some (0x12 ∷ 0x34 ∷ 0x80 ∷ 0 ∷ 0 ∷ 0x80 ∷ 0 ∷ [])
    ∷ []
unfolding dol_data_if_parsed dol_data dol_entry_bytes truncated_to_length padding_byte padded_to_length fitted_to_length dol_entries
    recurse_with_fuel_from_length recurse_with_fuel dol_entries_step dol_entry_at dol_entry_with_length prepend_dol_entry tag_at tag_size
    tag_size_from_second_byte
    tag_first_byte is_template append_big_endian_bytes if dictionary_rows row_found_shifted find_row row_offset row_place_bytes
    value_in_place row_value put_row
amount_joined = refl

-- 5A03 and 5A01: padded in the one, truncated in the other
number_joined : map (dol_filled dictionary_rows (with empty 0x5A (0x12 ∷ 0x34 ∷ [])))
    ((0x5A ∷ 3 ∷ []) ∷ (0x5A ∷ 1 ∷ []) ∷ (0x5A ∷ 3 ∷ 0x5A ∷ 1 ∷ []) ∷ [])
    ≡ Some (0x12 ∷ 0x34 ∷ 0xFF ∷ []) ∷ Some (0x12 ∷ []) ∷ Some (0x12 ∷ 0x34 ∷ 0xFF ∷ 0x12 ∷ []) ∷ []
unfolding dol_data_if_parsed dol_data dol_entry_bytes truncated_to_length padding_byte padded_to_length fitted_to_length dol_entries
    recurse_with_fuel_from_length recurse_with_fuel dol_entries_step dol_entry_at dol_entry_with_length prepend_dol_entry tag_at tag_size
    tag_first_byte is_template append_big_endian_bytes if dictionary_rows row_found_shifted find_row row_offset row_place_bytes
    value_in_place row_value put_row
number_joined = refl

-- a first list that is not whole: 9F is broken and 0202 fills to zeros, but joined they request 9F02
first_broken : map (dol_filled dictionary_rows amounts) ((0x9F ∷ []) ∷ (0x02 ∷ 2 ∷ []) ∷ (0x9F ∷ 0x02 ∷ 2 ∷ []) ∷ [])
    ≡ None ∷ Some (0 ∷ 0 ∷ []) ∷ Some (0x12 ∷ 0x34 ∷ []) ∷ []
unfolding dol_data_if_parsed dol_data dol_entry_bytes truncated_to_length padding_byte padded_to_length fitted_to_length dol_entries
    recurse_with_fuel_from_length recurse_with_fuel dol_entries_step dol_entry_at dol_entry_with_length prepend_dol_entry tag_at tag_size
    tag_size_from_second_byte
    tag_first_byte is_template append_big_endian_bytes if dictionary_rows row_found_shifted find_row row_offset row_place_bytes
    value_in_place row_value put_row
first_broken = refl

-- ---- contents

-- the reasons and the stores of two contents: c and then d, d and then c, and joined in both ways
abbrev ways : List ℕ → List ℕ → List ℕ → List ReadingOutcome
ways b c d =
    read_record_contents d (read_record_contents c b).store
    ∷ read_record_contents c (read_record_contents d b).store
    ∷ read_record_contents (c ++ d) b
    ∷ read_record_contents (d ++ c) b
    ∷ []

abbrev reasons : List ReadingOutcome → List ℕ
reasons os = map (λ o. o.reason) os

abbrev stores : List ReadingOutcome → List (List ℕ)
stores os = map (λ o. o.store) os

-- on a store b, c and d alone and in all ways: no reason, and one store
pub record Agree (b c d store : List ℕ) : Type 0 where
  alone : reasons (read_record_contents c b ∷ read_record_contents d b ∷ []) ≡ 0 ∷ 0 ∷ []
  accepted : reasons (ways b c d) ≡ 0 ∷ 0 ∷ 0 ∷ 0 ∷ []
  same : stores (ways b c d) ≡ replicate 4 store

-- 5F340101 and 8C039F3704
abbrev sequence_and_list : List ℕ
sequence_and_list = with (with empty 0x5F34 (0x01 ∷ [])) 0x8C (0x9F ∷ 0x37 ∷ 0x04 ∷ [])

plain : Agree empty (0x5F ∷ 0x34 ∷ 0x01 ∷ 0x01 ∷ []) (0x8C ∷ 0x03 ∷ 0x9F ∷ 0x37 ∷ 0x04 ∷ []) sequence_and_list
unfolding parse_tree recurse_with_fuel_from_length recurse_with_fuel next_in_template header_of tag_at tag_size
    tag_size_from_second_byte length_at tag_first_byte is_template is_private append_big_endian_bytes if both every prepend_leaf
    prepend_node object_count
    template_body_items primitive_items store_all_items store_next_item store_item dictionary_rows row_found_shifted find_row
    row_allows_value_and_absent_or_empty row_allows_value_from_card allowed_in_template length_and_digits_fit_row digits_match_form
    is_numeric nibbles row_offset row_place_bytes value_in_place row_value put_row
plain = record { alone = refl; accepted = refl; same = refl }

-- E1 in both, with a 70 in the one, an object that no row has in the other: E10670045F340101 and E103420141 8C039F3704
nested : Agree empty (0xE1 ∷ 0x06 ∷ 0x70 ∷ 0x04 ∷ 0x5F ∷ 0x34 ∷ 0x01 ∷ 0x01 ∷ [])
    (0xE1 ∷ 0x03 ∷ 0x42 ∷ 0x01 ∷ 0x41 ∷ 0x8C ∷ 0x03 ∷ 0x9F ∷ 0x37 ∷ 0x04 ∷ [])
    sequence_and_list
unfolding parse_tree recurse_with_fuel_from_length recurse_with_fuel next_in_template header_of tag_at tag_size
    tag_size_from_second_byte length_at tag_first_byte is_template is_private append_big_endian_bytes if both every prepend_leaf
    prepend_node object_count
    template_body_items primitive_items store_all_items store_next_item store_item dictionary_rows row_found_shifted find_row
    row_allows_value_and_absent_or_empty row_allows_value_from_card allowed_in_template length_and_digits_fit_row digits_match_form
    is_numeric nibbles row_offset row_place_bytes value_in_place row_value put_row
nested = record { alone = refl; accepted = refl; same = refl }

-- 57 there and empty: 5701AA and 9F08020002
abbrev empty_track : List ℕ
empty_track = with empty 0x57 []

empty_there : Agree empty_track (0x57 ∷ 0x01 ∷ 0xAA ∷ []) (0x9F ∷ 0x08 ∷ 0x02 ∷ 0x00 ∷ 0x02 ∷ [])
    (with (with empty_track 0x57 (0xAA ∷ [])) 0x9F08 (0x00 ∷ 0x02 ∷ []))
unfolding parse_tree recurse_with_fuel_from_length recurse_with_fuel next_in_template header_of tag_at tag_size
    tag_size_from_second_byte length_at tag_first_byte is_template is_private append_big_endian_bytes if both every prepend_leaf
    prepend_node object_count
    template_body_items primitive_items store_all_items store_next_item store_item dictionary_rows row_found_shifted find_row
    row_allows_value_and_absent_or_empty row_allows_value_from_card allowed_in_template length_and_digits_fit_row digits_match_form
    is_numeric nibbles row_offset row_place_bytes value_in_place row_value put_row
empty_there = record { alone = refl; accepted = refl; same = refl }

-- a tag in both: 5700 and 5701AA are accepted alone, but the empty one not after the other
pub record Shared (b c d : List ℕ) (t : ℕ) : Type 0 where
  first : parsed_tree_has_primitive_tag t (record_contents_tree c) ≡ true
  second : parsed_tree_has_primitive_tag t (record_contents_tree d) ≡ true
  alone : reasons (read_record_contents c b ∷ read_record_contents d b ∷ []) ≡ 0 ∷ 0 ∷ []
  ordered : reasons (ways b c d) ≡ 0 ∷ 3 ∷ 0 ∷ 3 ∷ []

shared : Shared empty (0x57 ∷ 0x00 ∷ []) (0x57 ∷ 0x01 ∷ 0xAA ∷ []) 0x57
unfolding tree_has_primitive_tag either parse_tree recurse_with_fuel_from_length recurse_with_fuel next_in_template header_of tag_at
    tag_size tag_size_from_second_byte length_at tag_first_byte is_template is_private append_big_endian_bytes if both every
    prepend_leaf prepend_node object_count
    template_body_items primitive_items store_all_items store_next_item store_item dictionary_rows row_found_shifted find_row
    row_allows_value_and_absent_or_empty row_allows_value_from_card allowed_in_template length_and_digits_fit_row digits_match_form
    is_numeric nibbles row_offset row_place_bytes value_in_place row_value put_row
shared = record { first = refl; second = refl; alone = refl; ordered = refl }

-- the same with one of them inside a template: 70025700 and 5701AA
shared_inside : Shared empty (0x70 ∷ 0x02 ∷ 0x57 ∷ 0x00 ∷ []) (0x57 ∷ 0x01 ∷ 0xAA ∷ []) 0x57
unfolding tree_has_primitive_tag either parse_tree recurse_with_fuel_from_length recurse_with_fuel next_in_template header_of tag_at
    tag_size tag_size_from_second_byte length_at tag_first_byte is_template is_private append_big_endian_bytes if both every
    prepend_leaf prepend_node object_count
    template_body_items primitive_items store_all_items store_next_item store_item dictionary_rows row_found_shifted find_row
    row_allows_value_and_absent_or_empty row_allows_value_from_card allowed_in_template length_and_digits_fit_row digits_match_form
    is_numeric nibbles row_offset row_place_bytes value_in_place row_value put_row
shared_inside = record { first = refl; second = refl; alone = refl; ordered = refl }

-- ---- whole answers

abbrev sfi : ℕ → Sfi
sfi n = record { number = n }

-- a record of file 1 and one of file 10, whose length is after 81, and both in one of file 2
abbrev one : List ℕ
one = 0x70 ∷ 0x04 ∷ 0x5F ∷ 0x34 ∷ 0x01 ∷ 0x01 ∷ 0x90 ∷ 0x00 ∷ []

abbrev other : List ℕ
other = 0x70 ∷ 0x81 ∷ 0x05 ∷ 0x8C ∷ 0x03 ∷ 0x9F ∷ 0x37 ∷ 0x04 ∷ 0x90 ∷ 0x00 ∷ []

abbrev in_one : List ℕ
in_one = 0x70 ∷ 0x09 ∷ 0x5F ∷ 0x34 ∷ 0x01 ∷ 0x01 ∷ 0x8C ∷ 0x03 ∷ 0x9F ∷ 0x37 ∷ 0x04 ∷ 0x90 ∷ 0x00 ∷ []

abbrev answers : List ReadingOutcome
answers =
    read_record_answer (sfi 10) other (read_record_answer (sfi 1) one empty).store
    ∷ read_record_answer (sfi 1) one (read_record_answer (sfi 10) other empty).store
    ∷ read_record_answer (sfi 2) in_one empty
    ∷ []

pub record Answered : Type 0 where
  contents : map outer_object_contents (one ∷ other ∷ in_one ∷ [])
      ≡ (0x5F ∷ 0x34 ∷ 0x01 ∷ 0x01 ∷ []) ∷ (0x8C ∷ 0x03 ∷ 0x9F ∷ 0x37 ∷ 0x04 ∷ [])
      ∷ (0x5F ∷ 0x34 ∷ 0x01 ∷ 0x01 ∷ 0x8C ∷ 0x03 ∷ 0x9F ∷ 0x37 ∷ 0x04 ∷ []) ∷ []
  accepted : reasons answers ≡ 0 ∷ 0 ∷ 0 ∷ []
  same : stores answers ≡ replicate 3 sequence_and_list

answered : Answered
unfolding outer_object_contents read_answer response_length_is2_to258 is_status9000 is_body_to_be_read read_body parse_response_body
    length_at length_after81 parse_tree recurse_with_fuel_from_length recurse_with_fuel next_in_template header_of tag_at tag_size
    tag_size_from_second_byte tag_first_byte is_template is_private
    append_big_endian_bytes if both every prepend_leaf prepend_node object_count template_body_items primitive_items
    store_all_items store_next_item store_item dictionary_rows row_found_shifted find_row row_allows_value_and_absent_or_empty
    row_allows_value_from_card allowed_in_template length_and_digits_fit_row digits_match_form is_numeric nibbles row_offset
    row_place_bytes value_in_place
    row_value put_row
answered = record { contents = refl; accepted = refl; same = refl }

-- 253 bytes of contents, here padding, are an answer of 258 bytes; 254 are no answer
edges : map (λ n. is_successful_record_answer_in70 (shortest_record_answer (replicate n 0))) (253 ∷ 254 ∷ []) ≡ true ∷ false
    ∷ []
unfolding is_successful_record_answer_in70 outer_object_contents response_length_is2_to258 is_status9000 header_of tag_at tag_size
    length_at length_after81 tag_first_byte is_template is_private append_big_endian_bytes if both tag_bytes length_bytes
edges = refl

-- ---- padding

abbrev forms : List ℕ
forms = form_n ∷ form_cn ∷ form_b ∷ []

-- 12 to two bytes and then to four, and at once
pub record Twice : Type 0 where
  twice : map (λ form. fitted_to_length form 4 (fitted_to_length form 2 (0x12 ∷ []))) forms ≡ (0 ∷ 0 ∷ 0 ∷ 0x12 ∷ [])
      ∷ (0x12 ∷ 0xFF ∷ 0xFF ∷ 0xFF ∷ []) ∷ (0x12 ∷ 0 ∷ 0 ∷ 0 ∷ []) ∷ []
  once : map (λ form. fitted_to_length form 4 (0x12 ∷ [])) forms ≡ (0 ∷ 0 ∷ 0 ∷ 0x12 ∷ [])
      ∷ (0x12 ∷ 0xFF ∷ 0xFF ∷ 0xFF ∷ []) ∷ (0x12 ∷ 0 ∷ 0 ∷ 0 ∷ []) ∷ []

twice : Twice
unfolding fitted_to_length truncated_to_length padded_to_length padding_byte if
twice = record { twice = refl; once = refl }

-- a first length below the value's: 1234 to one byte and then to two loses a byte, at once it stays
pub record CutFirst : Type 0 where
  twice : map (λ form. fitted_to_length form 2 (fitted_to_length form 1 (0x12 ∷ 0x34 ∷ []))) forms ≡ (0 ∷ 0x34 ∷ [])
      ∷ (0x12 ∷ 0xFF ∷ []) ∷ (0x12 ∷ 0 ∷ []) ∷ []
  once : map (λ form. fitted_to_length form 2 (0x12 ∷ 0x34 ∷ [])) forms ≡ replicate 3 (0x12 ∷ 0x34 ∷ [])

cut_first : CutFirst
unfolding fitted_to_length truncated_to_length padded_to_length padding_byte if
cut_first = record { twice = refl; once = refl }
