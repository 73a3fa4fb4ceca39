-- The rows of single answers, computed. Assumes nothing.
use mathlib.Core.Path.{◌≡◌, refl}
use mathlib.Core.List.{[], ◌∷◌}
use Rattle.basics.specs.Choice.{if, both}
use Rattle.basics.specs.Recursion.{recurse_with_fuel, recurse_with_fuel_from_length}
use Rattle.basics.specs.Number.{append_big_endian_bytes}
use Rattle.tlv.specs.Tag.{tag_size, tag_size_from_second_byte, tag_size_from_third_byte, tag_at, tag_first_byte, is_template}
use Rattle.tlv.specs.Tag.{is_private}
use Rattle.tlv.specs.Length.{length_at}
use Rattle.tlv.specs.Object.{header_of}
use Rattle.tlv.specs.Tree.{object_count, next_in_template, prepend_leaf, prepend_node, parse_tree}
use Rattle.dictionary.specs.Rows.{dictionary_rows, row_found_shifted, find_row}
use Rattle.dictionary.specs.Named.{row_number_of_tag_or_zero}
use Rattle.dictionary.specs.Form.{digits_match_form, length_and_digits_fit_row}
use Rattle.store.specs.Place.{row_offset, row_place_bytes, value_in_place, row_value, put_row, object_value_in}
use Rattle.reading.specs.Taking.{primitive_items, allowed_in_template, row_allows_value_from_card}
use Rattle.reading.specs.Taking.{row_allows_value_and_absent_or_empty, store_item, store_next_item, store_all_items}
use Rattle.reading.specs.Answer.{reading_outcome, parse_response_body, template_body_items, read_body, is_body_to_be_read}
use Rattle.reading.specs.Answer.{is_status9000, response_length_is2_to258, read_answer}
use Rattle.bench_rows.specs.BenchTable.{bench_empty_store, bench_record_reading, ReadsTwoObjectsStoresOnlyCardVersion}

pub empty : bench_record_reading (0x70 ∷ 0x00 ∷ []) ≡ reading_outcome 0 1 bench_empty_store
unfolding read_answer response_length_is2_to258 is_status9000 is_body_to_be_read read_body parse_response_body header_of tag_at
    tag_size length_at tag_first_byte is_template is_private append_big_endian_bytes if both parse_tree recurse_with_fuel_from_length
    recurse_with_fuel next_in_template object_count template_body_items primitive_items store_all_items
empty = refl

pub four_levels : bench_record_reading (0x70 ∷ 0x06 ∷ 0xE1 ∷ 0x04 ∷ 0xE1 ∷ 0x02 ∷ 0xE1 ∷ 0x00 ∷ []) ≡ reading_outcome 0 4
    bench_empty_store
unfolding read_answer response_length_is2_to258 is_status9000 is_body_to_be_read read_body parse_response_body header_of tag_at
    tag_size length_at tag_first_byte is_template is_private append_big_endian_bytes if both parse_tree recurse_with_fuel_from_length
    recurse_with_fuel next_in_template prepend_node object_count template_body_items primitive_items store_all_items
four_levels = refl

pub five_levels : bench_record_reading (0x70 ∷ 0x08 ∷ 0xE1 ∷ 0x06 ∷ 0xE1 ∷ 0x04 ∷ 0xE1 ∷ 0x02 ∷ 0xE1 ∷ 0x00 ∷ [])
    ≡ reading_outcome 2 0 bench_empty_store
unfolding read_answer response_length_is2_to258 is_status9000 is_body_to_be_read read_body parse_response_body header_of tag_at
    tag_size length_at tag_first_byte is_template is_private append_big_endian_bytes if both parse_tree recurse_with_fuel_from_length
    recurse_with_fuel next_in_template prepend_node object_count template_body_items primitive_items store_all_items
five_levels = refl

pub private : bench_record_reading (0x70 ∷ 0x05 ∷ 0xDF ∷ 0x81 ∷ 0x23 ∷ 0x01 ∷ 0x00 ∷ []) ≡ reading_outcome 0 2
    bench_empty_store
unfolding read_answer response_length_is2_to258 is_status9000 is_body_to_be_read read_body parse_response_body header_of tag_at
    tag_size tag_size_from_second_byte tag_size_from_third_byte length_at tag_first_byte is_template is_private append_big_endian_bytes
    if both parse_tree recurse_with_fuel_from_length recurse_with_fuel next_in_template prepend_leaf object_count template_body_items
    primitive_items store_all_items store_next_item store_item dictionary_rows row_found_shifted find_row
private = refl

pub results_sent : bench_record_reading (0x70 ∷ 0x03 ∷ 0x95 ∷ 0x01 ∷ 0x00 ∷ []) ≡ reading_outcome 3 2 bench_empty_store
unfolding read_answer response_length_is2_to258 is_status9000 is_body_to_be_read read_body parse_response_body header_of tag_at
    tag_size length_at tag_first_byte is_template is_private append_big_endian_bytes if both parse_tree recurse_with_fuel_from_length
    recurse_with_fuel next_in_template prepend_leaf object_count template_body_items primitive_items store_all_items store_next_item
    store_item dictionary_rows row_found_shifted find_row row_allows_value_and_absent_or_empty row_allows_value_from_card
results_sent = refl

pub version : ReadsTwoObjectsStoresOnlyCardVersion
    (bench_record_reading (0x70 ∷ 0x05 ∷ 0x9F ∷ 0x08 ∷ 0x02 ∷ 0x00 ∷ 0x02 ∷ []))
unfolding read_answer response_length_is2_to258 is_status9000 is_body_to_be_read read_body parse_response_body header_of tag_at
    tag_size tag_size_from_second_byte length_at tag_first_byte is_template is_private append_big_endian_bytes if both parse_tree
    recurse_with_fuel_from_length recurse_with_fuel next_in_template prepend_leaf object_count template_body_items primitive_items
    store_all_items store_next_item store_item dictionary_rows row_found_shifted find_row row_number_of_tag_or_zero
    row_allows_value_and_absent_or_empty row_allows_value_from_card allowed_in_template length_and_digits_fit_row digits_match_form
    row_offset row_place_bytes value_in_place row_value put_row object_value_in
version = record { whole = refl; version = refl }
