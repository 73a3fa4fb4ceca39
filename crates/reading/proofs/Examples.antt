-- Worked answers, by computation: each rule of a reading on both sides of its edge, the reason's number first and then
-- the object count.
-- Assumes nothing.
use mathlib.Core.Path.{◌≡◌, refl}
use mathlib.Core.List.{List, [], ◌∷◌, ◌++◌, map}
use Prim.Native.Nat.{ℕ}
use lib.ListN.{replicate}
use Rattle.basics.specs.Recursion.{recurse_with_fuel_from_length, recurse_with_fuel}
use Rattle.basics.specs.Choice.{if, both, every}
use Rattle.basics.specs.Number.{append_big_endian_bytes, nibbles}
use Rattle.tlv.specs.Tag.{tag_size, tag_size_from_second_byte, tag_at, tag_first_byte, is_template, is_private}
use Rattle.tlv.specs.Length.{length_at, length_after81}
use Rattle.tlv.specs.Object.{header_of}
use Rattle.tlv.specs.Tree.{object_count, next_in_template, prepend_leaf, prepend_node, parse_tree}
use Rattle.dictionary.specs.Rows.{dictionary_rows, store_size, row_found_shifted, find_row}
use Rattle.dictionary.specs.Form.{is_numeric, digits_match_form, length_and_digits_fit_row}
use Rattle.store.specs.Place.{row_offset, row_place_bytes, value_in_place, row_value, put_row, object_value_in}
use Rattle.reading.specs.declared.Awaited.{Awaited}
use Rattle.reading.specs.declared.Awaited.TheVariants.{Gpo, Record, Cryptogram}
use Rattle.reading.specs.Taking.{primitive_items, allowed_in_template, row_allows_value_from_card}
use Rattle.reading.specs.Taking.{row_allows_value_and_absent_or_empty, store_item}
use Rattle.reading.specs.Taking.{store_next_item, store_all_items}
use Rattle.reading.specs.Answer.{ReadingOutcome, parse_response_body, gpo_items_under80, iad_item_if_any}
use Rattle.reading.specs.Answer.{cryptogram_items_under80, primitive_body_items}
use Rattle.reading.specs.Answer.{template_body_items, read_body, is_body_to_be_read, is_status9000}
use Rattle.reading.specs.Answer.{response_length_is2_to258, read_answer}

-- the reason's number and the object count
abbrev said : ReadingOutcome → List ℕ
said o = o.reason ∷ o.objects ∷ []

-- an answer, and a body, read into a store that holds nothing
abbrev answer : Awaited → List ℕ → List ℕ
answer a s = said (read_answer a (replicate store_size 0) s)

abbrev body : Awaited → List ℕ → List ℕ
body a s = said (read_body a (replicate store_size 0) s)

-- a record of this file
abbrev sfi : ℕ → Awaited
sfi n = Record (record { number = n })

-- n bytes of 00 under the tag 80
abbrev under80 : ℕ → List ℕ
under80 n = 0x80 ∷ 0x81 ∷ n ∷ replicate n 0

-- 1, 2, 258 and 259 bytes, none of them 90 00 at the end
lengths : map (λ n. answer Gpo (replicate n 0)) (1 ∷ 2 ∷ 258 ∷ 259 ∷ []) ≡ (2 ∷ 0 ∷ []) ∷ (1 ∷ 0 ∷ []) ∷ (1 ∷ 0 ∷ []) ∷
    (2 ∷ 0 ∷ []) ∷ []
unfolding read_answer response_length_is2_to258 is_status9000 if both
lengths = refl

-- 90 00, 90 01 and 91 00 after no body, for the last file that is read and the first that is not
statuses : map (answer (sfi 10)) ((0x90 ∷ 0x00 ∷ []) ∷ (0x90 ∷ 0x01 ∷ []) ∷ (0x91 ∷ 0x00 ∷ []) ∷ []) ≡ (2 ∷ 0 ∷ []) ∷
    (1 ∷ 0 ∷ []) ∷ (1 ∷ 0 ∷ []) ∷ []
unfolding read_answer response_length_is2_to258 is_status9000 is_body_to_be_read read_body parse_response_body header_of tag_at
    tag_size if both
statuses = refl

unread : map (answer (sfi 11)) ((0x90 ∷ 0x00 ∷ []) ∷ (0x90 ∷ 0x01 ∷ []) ∷ (0x70 ∷ 0x00 ∷ 0x90 ∷ 0x00 ∷ []) ∷ []) ≡
    (0 ∷ 0 ∷ []) ∷ (1 ∷ 0 ∷ []) ∷ (0 ∷ 0 ∷ []) ∷ []
unfolding read_answer response_length_is2_to258 is_status9000 is_body_to_be_read if both
unread = refl

-- GPO under 80: 6 to 250 bytes, two and a multiple of four
gpo : map (λ n. body Gpo (under80 n)) (5 ∷ 6 ∷ 7 ∷ 250 ∷ 251 ∷ 254 ∷ [])
    ≡ (2 ∷ 1 ∷ []) ∷ (0 ∷ 1 ∷ []) ∷ (2 ∷ 1 ∷ []) ∷ (0 ∷ 1 ∷ []) ∷ (2 ∷ 1 ∷ []) ∷ (2 ∷ 1 ∷ []) ∷ []
unfolding read_body parse_response_body header_of tag_at tag_size length_at length_after81 tag_first_byte is_template is_private
    append_big_endian_bytes if both primitive_body_items gpo_items_under80 store_all_items store_next_item store_item dictionary_rows
    row_found_shifted find_row row_allows_value_and_absent_or_empty
    row_allows_value_from_card allowed_in_template length_and_digits_fit_row digits_match_form row_offset row_place_bytes value_in_place
    row_value put_row object_value_in
gpo = refl

-- a cryptogram under 80: 11 to 43 bytes
cryptograms : map (λ n. body Cryptogram (under80 n)) (10 ∷ 11 ∷ 12 ∷ 43 ∷ 44 ∷ [])
    ≡ (2 ∷ 1 ∷ []) ∷ (0 ∷ 1 ∷ []) ∷ (0 ∷ 1 ∷ []) ∷ (0 ∷ 1 ∷ []) ∷ (2 ∷ 1 ∷ []) ∷ []
unfolding read_body parse_response_body header_of tag_at tag_size tag_size_from_second_byte length_at length_after81 tag_first_byte
    is_template
    is_private append_big_endian_bytes if both primitive_body_items cryptogram_items_under80 iad_item_if_any store_all_items
    store_next_item store_item dictionary_rows
    row_found_shifted find_row row_allows_value_and_absent_or_empty row_allows_value_from_card allowed_in_template
    length_and_digits_fit_row digits_match_form row_offset row_place_bytes value_in_place
    row_value put_row object_value_in
cryptograms = refl

-- four levels of templates, and five
levels : map (body (sfi 1))
    ((0x70 ∷ 0x06 ∷ 0xE1 ∷ 0x04 ∷ 0xE1 ∷ 0x02 ∷ 0xE1 ∷ 0x00 ∷ []) ∷
    (0x70 ∷ 0x08 ∷ 0xE1 ∷ 0x06 ∷ 0xE1 ∷ 0x04 ∷ 0xE1 ∷ 0x02 ∷ 0xE1 ∷ 0x00 ∷ []) ∷ [])
    ≡ (0 ∷ 4 ∷ []) ∷ (2 ∷ 0 ∷ []) ∷ []
unfolding read_body parse_response_body header_of tag_at tag_size length_at tag_first_byte is_template is_private
    append_big_endian_bytes if both
    parse_tree recurse_with_fuel_from_length recurse_with_fuel next_in_template prepend_node object_count template_body_items
    primitive_items store_all_items
levels = refl

-- a wrong outer tag keeps the count, and so does an object that is not allowed; a second object, or a byte after,
-- makes it 0: 77 for a record, with one object and with two; 80, and another primitive tag; two objects; a byte after;
-- 82 in a record
counts : map (body (sfi 1))
    ((0x77 ∷ 0x00 ∷ [])
    ∷ (0x77 ∷ 0x02 ∷ 0xC1 ∷ 0x00 ∷ [])
    ∷ (0x80 ∷ 0x00 ∷ [])
    ∷ (0x57 ∷ 0x00 ∷ [])
    ∷ (0x70 ∷ 0x00 ∷ 0x70 ∷ 0x00 ∷ [])
    ∷ (0x70 ∷ 0x00 ∷ 0x70 ∷ [])
    ∷ (0x70 ∷ 0x04 ∷ 0x82 ∷ 0x02 ∷ 0x19 ∷ 0x80 ∷ [])
    ∷ [])
    ≡ (2 ∷ 1 ∷ []) ∷ (2 ∷ 2 ∷ []) ∷ (2 ∷ 1 ∷ []) ∷ (2 ∷ 1 ∷ []) ∷ (2 ∷ 0 ∷ []) ∷ (2 ∷ 0 ∷ []) ∷ (3 ∷ 2 ∷ []) ∷ []
unfolding read_body parse_response_body header_of tag_at tag_size length_at tag_first_byte is_template is_private
    append_big_endian_bytes if both
    parse_tree recurse_with_fuel_from_length recurse_with_fuel next_in_template prepend_leaf prepend_node object_count
    primitive_body_items template_body_items primitive_items
    store_all_items store_next_item store_item dictionary_rows row_found_shifted find_row row_allows_value_and_absent_or_empty
    row_allows_value_from_card allowed_in_template
counts = refl

-- 70 for the other two answers, and 57 in place of 80
others : map (body Gpo) ((0x70 ∷ 0x00 ∷ []) ∷ (0x57 ∷ 0x00 ∷ []) ∷ (0x77 ∷ 0x00 ∷ []) ∷ []) ++ map (body Cryptogram)
    ((0x70 ∷ 0x00 ∷ []) ∷ (0x57 ∷ 0x00 ∷ []) ∷ (0x77 ∷ 0x00 ∷ []) ∷ [])
    ≡ (2 ∷ 1 ∷ []) ∷ (2 ∷ 1 ∷ []) ∷ (0 ∷ 1 ∷ []) ∷ (2 ∷ 1 ∷ []) ∷ (2 ∷ 1 ∷ []) ∷ (0 ∷ 1 ∷ []) ∷ []
unfolding read_body parse_response_body header_of tag_at tag_size length_at tag_first_byte is_template is_private
    append_big_endian_bytes if both
    parse_tree recurse_with_fuel_from_length recurse_with_fuel next_in_template object_count primitive_body_items template_body_items
    primitive_items store_all_items
others = refl

-- ---- padding (document 02, Item 6)

-- in a record: alone; two bytes before 9F08, and one before it and three after it; between 9F08 and 5F25; in E1 alone
-- and around 9F08; at three of four levels, and at each of them
padded : map (body (sfi 1))
    ((0x70 ∷ 0x01 ∷ 0x00 ∷ [])
    ∷ (0x70 ∷ 0x07 ∷ 0x00 ∷ 0x00 ∷ 0x9F ∷ 0x08 ∷ 0x02 ∷ 0x00 ∷ 0x02 ∷ [])
    ∷ (0x70 ∷ 0x09 ∷ 0x00 ∷ 0x9F ∷ 0x08 ∷ 0x02 ∷ 0x00 ∷ 0x02 ∷ 0x00 ∷ 0x00 ∷ 0x00 ∷ [])
    ∷ (0x70 ∷ 0x0D ∷ 0x00 ∷ 0x9F ∷ 0x08 ∷ 0x02 ∷ 0x00 ∷ 0x02 ∷ 0x00 ∷ 0x5F ∷ 0x25 ∷ 0x03 ∷ 0x24 ∷ 0x01 ∷ 0x01 ∷ [])
    ∷ (0x70 ∷ 0x0B ∷ 0xE1 ∷ 0x02 ∷ 0x00 ∷ 0x00 ∷ 0x00 ∷ 0x9F ∷ 0x08 ∷ 0x02 ∷ 0x00 ∷ 0x02 ∷ 0x00 ∷ [])
    ∷ (0x70 ∷ 0x09 ∷ 0x00 ∷ 0xE1 ∷ 0x06 ∷ 0x00 ∷ 0xE1 ∷ 0x03 ∷ 0xE1 ∷ 0x01 ∷ 0x00 ∷ [])
    ∷ (0x70 ∷ 0x0A ∷ 0x00 ∷ 0xE1 ∷ 0x07 ∷ 0x00 ∷ 0xE1 ∷ 0x04 ∷ 0x00 ∷ 0xE1 ∷ 0x01 ∷ 0x00 ∷ [])
    ∷ [])
    ≡ (0 ∷ 1 ∷ []) ∷ (0 ∷ 2 ∷ []) ∷ (0 ∷ 2 ∷ []) ∷ (0 ∷ 3 ∷ []) ∷ (0 ∷ 3 ∷ []) ∷ (0 ∷ 4 ∷ []) ∷ (0 ∷ 4 ∷ []) ∷ []
unfolding read_body parse_response_body header_of tag_at tag_size tag_size_from_second_byte length_at tag_first_byte is_template
    is_private
    append_big_endian_bytes if both parse_tree recurse_with_fuel_from_length recurse_with_fuel next_in_template prepend_leaf
    prepend_node object_count template_body_items primitive_items
    store_all_items store_next_item store_item dictionary_rows row_found_shifted find_row row_allows_value_and_absent_or_empty
    row_allows_value_from_card allowed_in_template length_and_digits_fit_row
    digits_match_form is_numeric nibbles every row_offset row_place_bytes value_in_place row_value put_row object_value_in
padded = refl

-- what is stored is what is stored without the padding
same_store : read_body (sfi 1) (replicate store_size 0)
    (0x70 ∷ 0x0D ∷ 0x00 ∷ 0x9F ∷ 0x08 ∷ 0x02 ∷ 0x00 ∷ 0x02 ∷ 0x00 ∷ 0x5F ∷ 0x25 ∷ 0x03 ∷ 0x24 ∷ 0x01 ∷ 0x01 ∷ [])
    ≡ read_body (sfi 1) (replicate store_size 0)
    (0x70 ∷ 0x0B ∷ 0x9F ∷ 0x08 ∷ 0x02 ∷ 0x00 ∷ 0x02 ∷ 0x5F ∷ 0x25 ∷ 0x03 ∷ 0x24 ∷ 0x01 ∷ 0x01 ∷ [])
unfolding read_body parse_response_body header_of tag_at tag_size tag_size_from_second_byte length_at tag_first_byte is_template
    is_private
    append_big_endian_bytes if both parse_tree recurse_with_fuel_from_length recurse_with_fuel next_in_template prepend_leaf
    prepend_node object_count template_body_items primitive_items
    store_all_items store_next_item store_item dictionary_rows row_found_shifted find_row row_allows_value_and_absent_or_empty
    row_allows_value_from_card allowed_in_template length_and_digits_fit_row
    digits_match_form is_numeric nibbles every row_offset row_place_bytes value_in_place row_value put_row object_value_in
same_store = refl

-- malformed: a fifth level over padding; 00 before 70 and after it, after a full 70, as the second byte of a tag, after
-- FF, with a length of 80; a body of padding alone; a truncated object after padding
unpadded : map (body (sfi 1))
    ((0x70 ∷ 0x0A ∷ 0xE1 ∷ 0x08 ∷ 0xE1 ∷ 0x06 ∷ 0xE1 ∷ 0x04 ∷ 0xE1 ∷ 0x02 ∷ 0x00 ∷ 0x00 ∷ [])
    ∷ (0x00 ∷ 0x70 ∷ 0x00 ∷ [])
    ∷ (0x70 ∷ 0x00 ∷ 0x00 ∷ [])
    ∷ (0x70 ∷ 0x05 ∷ 0x9F ∷ 0x08 ∷ 0x02 ∷ 0x00 ∷ 0x02 ∷ 0x00 ∷ [])
    ∷ (0x70 ∷ 0x06 ∷ 0x9F ∷ 0x00 ∷ 0x08 ∷ 0x02 ∷ 0x00 ∷ 0x02 ∷ [])
    ∷ (0x70 ∷ 0x02 ∷ 0xFF ∷ 0x00 ∷ [])
    ∷ (0x70 ∷ 0x80 ∷ 0x00 ∷ 0x00 ∷ [])
    ∷ (0x00 ∷ 0x00 ∷ [])
    ∷ (0x70 ∷ 0x03 ∷ 0x00 ∷ 0x95 ∷ 0x01 ∷ [])
    ∷ [])
    ≡ replicate 9 (2 ∷ 0 ∷ [])
unfolding read_body parse_response_body header_of tag_at tag_size tag_size_from_second_byte length_at tag_first_byte is_template
    is_private
    append_big_endian_bytes if both parse_tree recurse_with_fuel_from_length recurse_with_fuel next_in_template prepend_leaf
    prepend_node
unpadded = refl

-- a wrong outer tag over padding, and an object that is not allowed after it, keep the count
padded_counts : map (body (sfi 1)) ((0x61 ∷ 0x02 ∷ 0x00 ∷ 0x00 ∷ []) ∷ (0x70 ∷ 0x04 ∷ 0x00 ∷ 0x95 ∷ 0x01 ∷ 0x00 ∷ []) ∷
    [])
    ≡ (2 ∷ 1 ∷ []) ∷ (3 ∷ 2 ∷ []) ∷ []
unfolding read_body parse_response_body header_of tag_at tag_size length_at tag_first_byte is_template is_private
    append_big_endian_bytes if both
    parse_tree recurse_with_fuel_from_length recurse_with_fuel next_in_template prepend_leaf prepend_node object_count
    template_body_items primitive_items store_all_items store_next_item
    store_item dictionary_rows row_found_shifted find_row row_allows_value_and_absent_or_empty row_allows_value_from_card
padded_counts = refl

-- 77 with padding for both other answers; none in the value of an 80, whose leading and trailing 00 are its own
padded_others : body Gpo
    (0x77 ∷ 0x0F ∷ 0x00 ∷ 0x82 ∷ 0x02 ∷ 0x00 ∷ 0x80 ∷ 0x00 ∷ 0x00 ∷ 0x94 ∷ 0x04 ∷ 0x08 ∷ 0x01 ∷ 0x01 ∷ 0x00 ∷ 0x00 ∷
    0x00 ∷ [])
    ∷ body Gpo (0x80 ∷ 0x07 ∷ 0x00 ∷ 0x80 ∷ 0x08 ∷ 0x01 ∷ 0x01 ∷ 0x00 ∷ 0x00 ∷ [])
    ∷ body Gpo (0x80 ∷ 0x06 ∷ 0x00 ∷ 0x80 ∷ 0x08 ∷ 0x01 ∷ 0x01 ∷ 0x00 ∷ [])
    ∷ body Cryptogram
    (0x77 ∷ 0x18 ∷ 0x00 ∷ 0x9F ∷ 0x27 ∷ 0x01 ∷ 0x40 ∷ 0x00 ∷ 0x9F ∷ 0x36 ∷ 0x02 ∷ 0x00 ∷ 0x01 ∷ 0x00 ∷ 0x9F ∷ 0x26
    ∷ 0x08 ∷ 0x01 ∷ 0x02 ∷ 0x03 ∷ 0x04 ∷ 0x05 ∷ 0x06 ∷ 0x07 ∷ 0x08 ∷ 0x00 ∷ [])
    ∷ []
    ≡ (0 ∷ 3 ∷ []) ∷ (2 ∷ 1 ∷ []) ∷ (0 ∷ 1 ∷ []) ∷ (0 ∷ 4 ∷ []) ∷ []
unfolding read_body parse_response_body header_of tag_at tag_size tag_size_from_second_byte length_at tag_first_byte is_template
    is_private
    append_big_endian_bytes if both parse_tree recurse_with_fuel_from_length recurse_with_fuel next_in_template prepend_leaf
    prepend_node object_count primitive_body_items gpo_items_under80
    template_body_items primitive_items store_all_items store_next_item store_item dictionary_rows row_found_shifted find_row
    row_allows_value_and_absent_or_empty row_allows_value_from_card
    allowed_in_template length_and_digits_fit_row digits_match_form row_offset row_place_bytes value_in_place row_value put_row
    object_value_in
padded_others = refl

-- ---- templates inside templates (document 02, Item 10, walks the same bytes without recursion)

-- in a record: 9F08 after an empty E1; three levels that end together, twice; an E1 that cuts 9F08; 9F08 after two that
-- end together; a 70 in an E1; 9F08 in an E1; a truncated 57 in an E1 after 9F08; four levels of 70, and five; a second
-- 57, which is not empty, and a third; padding in an E1 and after it
nested : map (body (sfi 1))
    ((0x70 ∷ 0x07 ∷ 0xE1 ∷ 0x00 ∷ 0x9F ∷ 0x08 ∷ 0x02 ∷ 0x00 ∷ 0x02 ∷ [])
    ∷ (0x70 ∷ 0x0C ∷ 0xE1 ∷ 0x04 ∷ 0xE1 ∷ 0x02 ∷ 0xE1 ∷ 0x00 ∷ 0xE1 ∷ 0x04 ∷ 0xE1 ∷ 0x02 ∷ 0xE1 ∷ 0x00 ∷ [])
    ∷ (0x70 ∷ 0x07 ∷ 0xE1 ∷ 0x02 ∷ 0x9F ∷ 0x08 ∷ 0x02 ∷ 0x00 ∷ 0x02 ∷ [])
    ∷ (0x70 ∷ 0x0B ∷ 0xE1 ∷ 0x04 ∷ 0xE1 ∷ 0x02 ∷ 0x42 ∷ 0x00 ∷ 0x9F ∷ 0x08 ∷ 0x02 ∷ 0x00 ∷ 0x02 ∷ [])
    ∷ (0x70 ∷ 0x09 ∷ 0xE1 ∷ 0x07 ∷ 0x70 ∷ 0x05 ∷ 0x9F ∷ 0x08 ∷ 0x02 ∷ 0x00 ∷ 0x02 ∷ [])
    ∷ (0x70 ∷ 0x07 ∷ 0xE1 ∷ 0x05 ∷ 0x9F ∷ 0x08 ∷ 0x02 ∷ 0x00 ∷ 0x02 ∷ [])
    ∷ (0x70 ∷ 0x09 ∷ 0x9F ∷ 0x08 ∷ 0x02 ∷ 0x00 ∷ 0x02 ∷ 0xE1 ∷ 0x02 ∷ 0x57 ∷ 0x01 ∷ [])
    ∷ (0x70 ∷ 0x0B ∷ 0x70 ∷ 0x09 ∷ 0x70 ∷ 0x07 ∷ 0x70 ∷ 0x05 ∷ 0x9F ∷ 0x08 ∷ 0x02 ∷ 0x00 ∷ 0x02 ∷ [])
    ∷ (0x70 ∷ 0x0D ∷ 0x70 ∷ 0x0B ∷ 0x70 ∷ 0x09 ∷ 0x70 ∷ 0x07 ∷ 0x70 ∷ 0x05 ∷ 0x9F ∷ 0x08 ∷ 0x02 ∷ 0x00 ∷ 0x02 ∷ [])
    ∷ (0x70 ∷ 0x07 ∷ 0x57 ∷ 0x00 ∷ 0x57 ∷ 0x01 ∷ 0xAA ∷ 0x57 ∷ 0x00 ∷ [])
    ∷ (0x70 ∷ 0x06 ∷ 0xE1 ∷ 0x04 ∷ 0x00 ∷ 0xE1 ∷ 0x00 ∷ 0x00 ∷ [])
    ∷ [])
    ≡ (0 ∷ 3 ∷ []) ∷ (0 ∷ 7 ∷ []) ∷ (2 ∷ 0 ∷ []) ∷ (0 ∷ 5 ∷ []) ∷ (0 ∷ 4 ∷ []) ∷ (3 ∷ 3 ∷ []) ∷ (2 ∷ 0 ∷ []) ∷
    (0 ∷ 5 ∷ []) ∷ (2 ∷ 0 ∷ []) ∷ (3 ∷ 4 ∷ []) ∷ (0 ∷ 3 ∷ []) ∷ []
unfolding read_body parse_response_body header_of tag_at tag_size tag_size_from_second_byte length_at tag_first_byte is_template
    is_private
    append_big_endian_bytes if both parse_tree recurse_with_fuel_from_length recurse_with_fuel next_in_template prepend_leaf
    prepend_node object_count template_body_items primitive_items
    store_all_items store_next_item store_item dictionary_rows row_found_shifted find_row row_allows_value_and_absent_or_empty
    row_allows_value_from_card allowed_in_template length_and_digits_fit_row
    digits_match_form is_numeric nibbles every row_offset row_place_bytes value_in_place row_value put_row object_value_in
nested = refl

-- the store that a body leaves of one that holds nothing
abbrev left : Awaited → List ℕ → List ℕ
left a s = (read_body a (replicate store_size 0) s).store

-- of those that are accepted with 9F08, what 9F08 alone leaves; nothing of those that are not
nested_stores : map (left (sfi 1))
    ((0x70 ∷ 0x07 ∷ 0xE1 ∷ 0x00 ∷ 0x9F ∷ 0x08 ∷ 0x02 ∷ 0x00 ∷ 0x02 ∷ [])
    ∷ (0x70 ∷ 0x0B ∷ 0xE1 ∷ 0x04 ∷ 0xE1 ∷ 0x02 ∷ 0x42 ∷ 0x00 ∷ 0x9F ∷ 0x08 ∷ 0x02 ∷ 0x00 ∷ 0x02 ∷ [])
    ∷ (0x70 ∷ 0x09 ∷ 0xE1 ∷ 0x07 ∷ 0x70 ∷ 0x05 ∷ 0x9F ∷ 0x08 ∷ 0x02 ∷ 0x00 ∷ 0x02 ∷ [])
    ∷ (0x70 ∷ 0x0B ∷ 0x70 ∷ 0x09 ∷ 0x70 ∷ 0x07 ∷ 0x70 ∷ 0x05 ∷ 0x9F ∷ 0x08 ∷ 0x02 ∷ 0x00 ∷ 0x02 ∷ [])
    ∷ [])
    ≡ replicate 4 (left (sfi 1) (0x70 ∷ 0x05 ∷ 0x9F ∷ 0x08 ∷ 0x02 ∷ 0x00 ∷ 0x02 ∷ []))
unfolding read_body parse_response_body header_of tag_at tag_size tag_size_from_second_byte length_at tag_first_byte is_template
    is_private
    append_big_endian_bytes if both parse_tree recurse_with_fuel_from_length recurse_with_fuel next_in_template prepend_leaf
    prepend_node object_count template_body_items primitive_items
    store_all_items store_next_item store_item dictionary_rows row_found_shifted find_row row_allows_value_and_absent_or_empty
    row_allows_value_from_card allowed_in_template length_and_digits_fit_row
    digits_match_form is_numeric nibbles every row_offset row_place_bytes value_in_place row_value put_row object_value_in
nested_stores = refl

nested_kept : map (left (sfi 1))
    ((0x70 ∷ 0x07 ∷ 0xE1 ∷ 0x05 ∷ 0x9F ∷ 0x08 ∷ 0x02 ∷ 0x00 ∷ 0x02 ∷ [])
    ∷ (0x70 ∷ 0x09 ∷ 0x9F ∷ 0x08 ∷ 0x02 ∷ 0x00 ∷ 0x02 ∷ 0xE1 ∷ 0x02 ∷ 0x57 ∷ 0x01 ∷ [])
    ∷ (0x70 ∷ 0x07 ∷ 0x57 ∷ 0x00 ∷ 0x57 ∷ 0x01 ∷ 0xAA ∷ 0x57 ∷ 0x00 ∷ [])
    ∷ [])
    ≡ replicate 3 (replicate store_size 0)
unfolding read_body parse_response_body header_of tag_at tag_size tag_size_from_second_byte length_at tag_first_byte is_template
    is_private
    append_big_endian_bytes if both parse_tree recurse_with_fuel_from_length recurse_with_fuel next_in_template prepend_leaf
    prepend_node object_count template_body_items primitive_items
    store_all_items store_next_item store_item dictionary_rows row_found_shifted find_row row_allows_value_and_absent_or_empty
    row_allows_value_from_card allowed_in_template length_and_digits_fit_row
    digits_match_form is_numeric nibbles every row_offset row_place_bytes value_in_place row_value put_row object_value_in
nested_kept = refl

-- GPO: 5F28 in a 70 that is in the 77, and 82 directly in the 77
nested_gpo : body Gpo (0x77 ∷ 0x0B ∷ 0x70 ∷ 0x05 ∷ 0x5F ∷ 0x28 ∷ 0x02 ∷ 0x00 ∷ 0x56 ∷ 0x82 ∷ 0x02 ∷ 0x00 ∷ 0x80 ∷ []) ≡
    0 ∷ 4 ∷ []
unfolding read_body parse_response_body header_of tag_at tag_size tag_size_from_second_byte length_at tag_first_byte is_template
    is_private
    append_big_endian_bytes if both parse_tree recurse_with_fuel_from_length recurse_with_fuel next_in_template prepend_leaf
    prepend_node object_count template_body_items primitive_items
    store_all_items store_next_item store_item dictionary_rows row_found_shifted find_row row_allows_value_and_absent_or_empty
    row_allows_value_from_card allowed_in_template length_and_digits_fit_row
    digits_match_form is_numeric nibbles every row_offset row_place_bytes value_in_place row_value put_row object_value_in
nested_gpo = refl

nested_gpo_store : left Gpo (0x77 ∷ 0x0B ∷ 0x70 ∷ 0x05 ∷ 0x5F ∷ 0x28 ∷ 0x02 ∷ 0x00 ∷ 0x56 ∷ 0x82 ∷ 0x02 ∷ 0x00 ∷ 0x80 ∷
    [])
    ≡ (read_body Gpo (left (sfi 1) (0x70 ∷ 0x05 ∷ 0x5F ∷ 0x28 ∷ 0x02 ∷ 0x00 ∷ 0x56 ∷ []))
    (0x77 ∷ 0x04 ∷ 0x82 ∷ 0x02 ∷ 0x00 ∷ 0x80 ∷ [])).store
unfolding read_body parse_response_body header_of tag_at tag_size tag_size_from_second_byte length_at tag_first_byte is_template
    is_private
    append_big_endian_bytes if both parse_tree recurse_with_fuel_from_length recurse_with_fuel next_in_template prepend_leaf
    prepend_node object_count template_body_items primitive_items
    store_all_items store_next_item store_item dictionary_rows row_found_shifted find_row row_allows_value_and_absent_or_empty
    row_allows_value_from_card allowed_in_template length_and_digits_fit_row
    digits_match_form is_numeric nibbles every row_offset row_place_bytes value_in_place row_value put_row object_value_in
nested_gpo_store = refl
