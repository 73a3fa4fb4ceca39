-- The words of a personalisation, computed. Assumes nothing.
use mathlib.Core.Path.{refl}
use Rattle.basics.specs.Choice.{if, both, either, every}
use Rattle.basics.specs.Recursion.{recurse_with_fuel, recurse_with_fuel_from_length}
use Rattle.basics.specs.Number.{append_big_endian_bytes, nibbles}
use Rattle.tlv.specs.Tag.{tag_size, tag_size_from_second_byte, tag_size_from_third_byte, tag_at, tag_first_byte, is_template}
use Rattle.tlv.specs.Tag.{is_private}
use Rattle.tlv.specs.Length.{length_at}
use Rattle.tlv.specs.Object.{header_of}
use Rattle.tlv.specs.Primitives.{prepend_object, primitive_at_front, primitive_objects}
use Rattle.tlv.specs.Encoding.{tag_bytes, length_bytes}
use Rattle.dictionary.specs.Rows.{dictionary_rows, row_found_shifted, find_row}
use Rattle.dictionary.specs.Form.{is_numeric, digits_match_form, length_and_digits_fit_row}
use Rattle.afl.specs.Records.{afl_entries, afl_length_is_multiple_of4, sum_over_entries}
use Rattle.reading.specs.Taking.{allowed_in_template, row_allows_value_from_card}
use Rattle.personalise.specs.Objects.{tag_and_value_allowed_in_record, lacks_tag, tags_distinct}
use Rattle.personalise.specs.Placements.{placements_in, count_placements_where, any_placement, each_placed_once}
use Rattle.personalise.specs.Placements.{objects_in_record_from}
use Rattle.personalise.specs.Entries.{overlaps_none_before, valid_entry_sfi1_to10_no_offline_auth}
use Rattle.personalise.specs.Entries.{valid_entry_after_within_count_limits, first_bad_or_truncated_entry_after, first_bad_entry}
use Rattle.personalise.specs.Records.{encoded_objects, card_records_from, concatenated_records}
use Rattle.personalise.specs.Records.{has_bad_placement_or_over253_bytes, first_bad_number_from, first_bad_record}
use Rattle.personalise.specs.Outcome.{objects_valid_and_each_placed_once, personalise_result}
use Rattle.worked_words.specs.Personalise.{PersonaliseWordExamples}

pub words : PersonaliseWordExamples
unfolding personalise_result objects_valid_and_each_placed_once primitive_objects recurse_with_fuel_from_length recurse_with_fuel
    primitive_at_front prepend_object header_of tag_at tag_size tag_size_from_second_byte tag_size_from_third_byte length_at
    tag_first_byte is_template is_private append_big_endian_bytes nibbles if
    both either every dictionary_rows row_found_shifted find_row row_allows_value_from_card allowed_in_template
    length_and_digits_fit_row is_numeric digits_match_form tag_bytes length_bytes tag_and_value_allowed_in_record lacks_tag
    tags_distinct placements_in count_placements_where any_placement each_placed_once objects_in_record_from afl_entries
    afl_length_is_multiple_of4 sum_over_entries overlaps_none_before valid_entry_sfi1_to10_no_offline_auth
    valid_entry_after_within_count_limits first_bad_or_truncated_entry_after first_bad_entry encoded_objects card_records_from
    concatenated_records has_bad_placement_or_over253_bytes first_bad_number_from first_bad_record
words = record {
  written = refl;
  short_records = refl;
  short_afl = refl;
  bad_list = refl;
  bad_entry = refl;
  bad_record =
      refl;
}
