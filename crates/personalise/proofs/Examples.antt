-- The list, the entries and the records on both sides of each rule's edge, computed, in buffers that hold nothing; and
-- buffers that are too short.
-- Assumes nothing.
use Rattle.std.specs.Prelude.{Ok, Err}
use mathlib.Core.Path.{◌≡◌, refl}
use mathlib.Core.List.{List, [], ◌∷◌, ◌++◌}
use Prim.Native.Nat.{ℕ, zero, suc}
use native.Mathlib.Omega.{arith}
use lib.ListN.{length, replicate}
use Rattle.basics.specs.Choice.{if, both, either, every}
use Rattle.basics.specs.Recursion.{recurse_with_fuel, recurse_with_fuel_from_length}
use Rattle.basics.specs.Number.{append_big_endian_bytes, nibbles}
use Rattle.tlv.specs.Tag.{tag_size, tag_size_from_second_byte, tag_size_from_third_byte, tag_at, tag_first_byte, is_template}
use Rattle.tlv.specs.Tag.{is_private}
use Rattle.tlv.specs.Length.{length_after81, length_at}
use Rattle.tlv.specs.Object.{header_of}
use Rattle.tlv.specs.Primitives.{prepend_object, primitive_at_front, primitive_objects}
use Rattle.tlv.specs.Encoding.{tag_bytes, length_bytes}
use Rattle.dictionary.specs.Rows.{dictionary_rows, row_found_shifted, find_row}
use Rattle.dictionary.specs.Form.{is_numeric, is_compressed_numeric, is_digits_then_fs, digits_match_form}
use Rattle.dictionary.specs.Form.{length_and_digits_fit_row}
use Rattle.afl.specs.Records.{afl_entries, afl_length_is_multiple_of4, sum_over_entries}
use Rattle.reading.specs.Taking.{allowed_in_template, row_allows_value_from_card}
use Rattle.personalise.specs.declared.PersonaliseError.TheVariants.{ShortRecords, ShortAfl, BadList, BadEntry, BadRecord}
use Rattle.personalise.specs.Objects.{tag_and_value_allowed_in_record, lacks_tag, tags_distinct}
use Rattle.personalise.specs.Placements.{placements_in, count_placements_where, any_placement, each_placed_once}
use Rattle.personalise.specs.Placements.{objects_in_record_from}
use Rattle.personalise.specs.Entries.{overlaps_none_before, valid_entry_sfi1_to10_no_offline_auth}
use Rattle.personalise.specs.Entries.{valid_entry_after_within_count_limits, first_bad_or_truncated_entry_after}
use Rattle.personalise.specs.Entries.{first_bad_entry}
use Rattle.personalise.specs.Records.{encoded_objects, card_records_from, concatenated_records}
use Rattle.personalise.specs.Records.{has_bad_placement_or_over253_bytes, first_bad_number_from, first_bad_record}
use Rattle.personalise.specs.Outcome.{PersonaliseResult, card_plan, objects_valid_and_each_placed_once, personalise_result}
use Rattle.personalise.specs.Outcome.{records_buffer_after, afl_buffer_after}
use Rattle.personalise.specs.Word.{is_written}
use Rattle.personalise.specs.Inner.{result_from_list_checks}
use Rattle.personalise.proofs.Stages.{short_records, short_afl}

-- the answer to objects, entries and placements in buffers that are large enough (law `after_buffers`)
abbrev said : List ℕ → List ℕ → List ℕ → PersonaliseResult
said objects es placements = result_from_list_checks (card_plan objects es placements)

-- the answer, with the records and the AFL that are left of no bytes
abbrev done : List ℕ → List ℕ → List ℕ → PersonaliseResult × List ℕ × List ℕ
done objects es placements = (
  said objects es placements,
  records_buffer_after (is_written (said objects es placements))
      (card_plan objects es placements) [],
  afl_buffer_after (is_written (said objects es placements)) es [],
)

-- records of this length and an AFL of that
abbrev sizes : ℕ → ℕ → PersonaliseResult
sizes n m = Ok (record { records = n; afl = m })

-- n entries of one record each, numbered from k on
abbrev apart : ℕ → ℕ → List ℕ
apart k zero = []
apart k (suc n) = 0x08 ∷ k ∷ k ∷ 0x00 ∷ apart (suc k) n

pub record Examples : Type 0 where
  -- two objects in one record
  two : done (0x9F ∷ 0x08 ∷ 0x02 ∷ 0x00 ∷ 0x02 ∷ 0x5F ∷ 0x24 ∷ 0x03 ∷ 0x49 ∷ 0x12 ∷ 0x31 ∷ [])
      (0x08 ∷ 0x01 ∷ 0x01 ∷ 0x00 ∷ []) (0x01 ∷ 0x01 ∷ 0x01 ∷ 0x02 ∷ [])
      ≡ (
        sizes 13 4,
        (0x70 ∷ 0x0B ∷ 0x9F ∷ 0x08 ∷ 0x02 ∷ 0x00 ∷ 0x02 ∷ 0x5F ∷ 0x24 ∷ 0x03 ∷ 0x49 ∷ 0x12 ∷ 0x31 ∷ []),
        (0x08 ∷ 0x01 ∷ 0x01 ∷ 0x00 ∷ []),
      )
  -- the list decides the order within a record, the placements do not
  order : done (0x57 ∷ 0x02 ∷ 0xAA ∷ 0xBB ∷ 0x5A ∷ 0x01 ∷ 0x1F ∷ 0x8C ∷ 0x03 ∷ 0x9F ∷ 0x37 ∷ 0x04 ∷ [])
      (0x10 ∷ 0x01 ∷ 0x01 ∷ 0x00 ∷ 0x08 ∷ 0x05 ∷ 0x05 ∷ 0x00 ∷ []) (0x02 ∷ 0x03 ∷ 0x01 ∷ 0x02 ∷ 0x02 ∷ 0x01 ∷ [])
      ≡ (
        sizes 16 8,
        (0x70 ∷ 0x03 ∷ 0x5A ∷ 0x01 ∷ 0x1F ∷ 0x70 ∷ 0x09 ∷ 0x57 ∷ 0x02 ∷ 0xAA ∷ 0xBB ∷ 0x8C ∷ 0x03 ∷ 0x9F
            ∷ 0x37 ∷ 0x04 ∷ []),
        (0x10 ∷ 0x01 ∷ 0x01 ∷ 0x00 ∷ 0x08 ∷ 0x05 ∷ 0x05 ∷ 0x00 ∷ []),
      )
  -- no objects: empty records
  empty : done [] (0x08 ∷ 0x01 ∷ 0x02 ∷ 0x00 ∷ []) []
      ≡ (sizes 4 4, (0x70 ∷ 0x00 ∷ 0x70 ∷ 0x00 ∷ []), (0x08 ∷ 0x01 ∷ 0x02 ∷ 0x00 ∷ []))
  -- a length in two bytes is written in one
  shortest : done (0x57 ∷ 0x81 ∷ 0x02 ∷ 0xAA ∷ 0xBB ∷ []) (0x08 ∷ 0x01 ∷ 0x01 ∷ 0x00 ∷ []) (0x01 ∷ 0x01 ∷ [])
      ≡ (sizes 6 4, (0x70 ∷ 0x04 ∷ 0x57 ∷ 0x02 ∷ 0xAA ∷ 0xBB ∷ []), (0x08 ∷ 0x01 ∷ 0x01 ∷ 0x00 ∷ []))
  -- a content of 253 bytes
  fullest : done (0x8C ∷ 0x81 ∷ 0xFA ∷ replicate 250 0) (0x08 ∷ 0x01 ∷ 0x01 ∷ 0x00 ∷ []) (0x01 ∷ 0x01 ∷ [])
      ≡ (sizes 256 4, (0x70 ∷ 0x81 ∷ 0xFD ∷ 0x8C ∷ 0x81 ∷ 0xFA ∷ replicate 250 0), (0x08 ∷ 0x01 ∷ 0x01 ∷ 0x00 ∷ []))
  -- one of 257, and the two objects apart
  over : said (0x8C ∷ 0x81 ∷ 0xFA ∷ (replicate 250 0 ++ (0x5F ∷ 0x34 ∷ 0x01 ∷ 0x01 ∷ [])))
      (0x08 ∷ 0x01 ∷ 0x02 ∷ 0x00 ∷ []) (0x01 ∷ 0x01 ∷ 0x01 ∷ 0x02 ∷ []) ≡ Err (BadRecord 1)
  split : said (0x8C ∷ 0x81 ∷ 0xFA ∷ (replicate 250 0 ++ (0x5F ∷ 0x34 ∷ 0x01 ∷ 0x01 ∷ [])))
      (0x08 ∷ 0x01 ∷ 0x02 ∷ 0x00 ∷ []) (0x02 ∷ 0x01 ∷ 0x01 ∷ 0x02 ∷ []) ≡ sizes 262 4
  -- a content of 127 bytes, and of 128
  below : said (0x8C ∷ 0x7D ∷ replicate 125 0) (0x08 ∷ 0x01 ∷ 0x01 ∷ 0x00 ∷ []) (0x01 ∷ 0x01 ∷ []) ≡ sizes 129 4
  above : said (0x8C ∷ 0x7E ∷ replicate 126 0) (0x08 ∷ 0x01 ∷ 0x01 ∷ 0x00 ∷ []) (0x01 ∷ 0x01 ∷ []) ≡ sizes 131 4
  -- a tag twice, the first value empty
  twice : said (0x57 ∷ 0x00 ∷ 0x57 ∷ 0x01 ∷ 0xAA ∷ []) (0x08 ∷ 0x01 ∷ 0x02 ∷ 0x00 ∷ []) (0x01 ∷ 0x01 ∷ 0x02 ∷ 0x02 ∷ [])
      ≡ Err BadList
  -- an object left out, which comes before a byte 4 that is not 0
  left_out : said (0x9F ∷ 0x08 ∷ 0x02 ∷ 0x00 ∷ 0x02 ∷ 0x5F ∷ 0x24 ∷ 0x03 ∷ 0x49 ∷ 0x12 ∷ 0x31 ∷ [])
      (0x08 ∷ 0x01 ∷ 0x01 ∷ 0x01 ∷ []) (0x01 ∷ 0x01 ∷ []) ≡ Err BadList
  -- an object placed twice
  placed_twice : said (0x9F ∷ 0x08 ∷ 0x02 ∷ 0x00 ∷ 0x02 ∷ []) (0x08 ∷ 0x01 ∷ 0x02 ∷ 0x00 ∷ [])
      (0x01 ∷ 0x01 ∷ 0x02 ∷ 0x01 ∷ []) ≡ Err BadList
  -- two ranges of one file meet, and of two files do not
  meeting : said (0x9F ∷ 0x08 ∷ 0x02 ∷ 0x00 ∷ 0x02 ∷ []) (0x08 ∷ 0x01 ∷ 0x03 ∷ 0x00 ∷ 0x08 ∷ 0x03 ∷ 0x04 ∷ 0x00 ∷ [])
      (0x01 ∷ 0x01 ∷ []) ≡ Err (BadEntry 2)
  files : said (0x9F ∷ 0x08 ∷ 0x02 ∷ 0x00 ∷ 0x02 ∷ []) (0x08 ∷ 0x01 ∷ 0x03 ∷ 0x00 ∷ 0x10 ∷ 0x03 ∷ 0x04 ∷ 0x00 ∷ [])
      (0x01 ∷ 0x01 ∷ []) ≡ sizes 15 8
  -- no entry
  no_entry : said (0x9F ∷ 0x08 ∷ 0x02 ∷ 0x00 ∷ 0x02 ∷ []) [] (0x01 ∷ 0x01 ∷ []) ≡ Err (BadEntry 1)
  -- an entry truncated
  cut : said (0x9F ∷ 0x08 ∷ 0x02 ∷ 0x00 ∷ 0x02 ∷ []) (0x08 ∷ 0x01 ∷ 0x01 ∷ 0x00 ∷ 0x10 ∷ 0x01 ∷ 0x01 ∷ [])
      (0x01 ∷ 0x01 ∷ []) ≡ Err (BadEntry 2)
  -- 63 entries, and 62
  sixty_three : said (0x9F ∷ 0x08 ∷ 0x02 ∷ 0x00 ∷ 0x02 ∷ []) (apart 1 63) (0x01 ∷ 0x01 ∷ []) ≡ Err (BadEntry 63)
  sixty_two : said (0x9F ∷ 0x08 ∷ 0x02 ∷ 0x00 ∷ 0x02 ∷ []) (apart 1 62) (0x01 ∷ 0x01 ∷ []) ≡ sizes 129 248
  -- 128 records, and 129
  all : said (0x9F ∷ 0x08 ∷ 0x02 ∷ 0x00 ∷ 0x02 ∷ []) (0x08 ∷ 0x01 ∷ 0x80 ∷ 0x00 ∷ []) (0x01 ∷ 0x01 ∷ []) ≡ sizes 261 4
  many : said (0x9F ∷ 0x08 ∷ 0x02 ∷ 0x00 ∷ 0x02 ∷ []) (0x08 ∷ 0x01 ∷ 0x80 ∷ 0x00 ∷ 0x10 ∷ 0x01 ∷ 0x01 ∷ 0x00 ∷ [])
      (0x01 ∷ 0x01 ∷ []) ≡ Err (BadEntry 2)
  -- 256 records in two entries
  total : said (0x9F ∷ 0x08 ∷ 0x02 ∷ 0x00 ∷ 0x02 ∷ []) (0x08 ∷ 0x01 ∷ 0x80 ∷ 0x00 ∷ 0x10 ∷ 0x01 ∷ 0x80 ∷ 0x00 ∷ [])
      (0x01 ∷ 0x01 ∷ []) ≡ Err (BadEntry 2)
  -- byte 1 with a low bit, file 0, file 11, first record 0, last below first, byte 4 not 0
  low_bits : said [] (0x09 ∷ 0x01 ∷ 0x01 ∷ 0x00 ∷ []) [] ≡ Err (BadEntry 1)
  sfi_zero : said [] (0x00 ∷ 0x01 ∷ 0x01 ∷ 0x00 ∷ []) [] ≡ Err (BadEntry 1)
  sfi_ten : said [] (0x50 ∷ 0x01 ∷ 0x01 ∷ 0x00 ∷ []) [] ≡ sizes 2 4
  sfi_eleven : said [] (0x58 ∷ 0x01 ∷ 0x01 ∷ 0x00 ∷ []) [] ≡ Err (BadEntry 1)
  first_zero : said [] (0x08 ∷ 0x00 ∷ 0x01 ∷ 0x00 ∷ []) [] ≡ Err (BadEntry 1)
  not-below : said [] (0x08 ∷ 0x02 ∷ 0x01 ∷ 0x00 ∷ []) [] ≡ Err (BadEntry 1)
  offline : said [] (0x08 ∷ 0x01 ∷ 0x01 ∷ 0x01 ∷ []) [] ≡ Err (BadEntry 1)
  -- an object of the session, of template 77, a template, an unknown one, a private one of the terminal
  session : said (0x95 ∷ 0x05 ∷ 0x00 ∷ 0x00 ∷ 0x00 ∷ 0x00 ∷ 0x00 ∷ []) (0x08 ∷ 0x01 ∷ 0x01 ∷ 0x00 ∷ [])
      (0x01 ∷ 0x01 ∷ []) ≡ Err BadList
  gpo : said (0x82 ∷ 0x02 ∷ 0x00 ∷ 0x80 ∷ []) (0x08 ∷ 0x01 ∷ 0x01 ∷ 0x00 ∷ []) (0x01 ∷ 0x01 ∷ []) ≡ Err BadList
  template : said (0x70 ∷ 0x00 ∷ []) (0x08 ∷ 0x01 ∷ 0x01 ∷ 0x00 ∷ []) (0x01 ∷ 0x01 ∷ []) ≡ Err BadList
  unknown : said (0x42 ∷ 0x01 ∷ 0x41 ∷ []) (0x08 ∷ 0x01 ∷ 0x01 ∷ 0x00 ∷ []) (0x01 ∷ 0x01 ∷ []) ≡ Err BadList
  private : said (0xDF ∷ 0x81 ∷ 0x23 ∷ 0x06 ∷ 0x00 ∷ 0x00 ∷ 0x00 ∷ 0x00 ∷ 0x00 ∷ 0x00 ∷ [])
      (0x08 ∷ 0x01 ∷ 0x01 ∷ 0x00 ∷ []) (0x01 ∷ 0x01 ∷ []) ≡ Err BadList
  -- a length and a digit that do not fit
  too_long : said (0x9F ∷ 0x08 ∷ 0x03 ∷ 0x00 ∷ 0x02 ∷ 0x00 ∷ []) (0x08 ∷ 0x01 ∷ 0x01 ∷ 0x00 ∷ []) (0x01 ∷ 0x01 ∷ [])
      ≡ Err BadList
  digit : said (0x5F ∷ 0x24 ∷ 0x03 ∷ 0x49 ∷ 0x12 ∷ 0x3A ∷ []) (0x08 ∷ 0x01 ∷ 0x01 ∷ 0x00 ∷ []) (0x01 ∷ 0x01 ∷ [])
      ≡ Err BadList
  -- an object that is not in the list, and a record that is not in the AFL
  object_nine : said (0x9F ∷ 0x08 ∷ 0x02 ∷ 0x00 ∷ 0x02 ∷ 0x5F ∷ 0x34 ∷ 0x01 ∷ 0x01 ∷ [])
      (0x08 ∷ 0x01 ∷ 0x02 ∷ 0x00 ∷ []) (0x01 ∷ 0x01 ∷ 0x02 ∷ 0x02 ∷ 0x01 ∷ 0x09 ∷ []) ≡ Err (BadRecord 1)
  record_three : said (0x9F ∷ 0x08 ∷ 0x02 ∷ 0x00 ∷ 0x02 ∷ 0x5F ∷ 0x34 ∷ 0x01 ∷ 0x01 ∷ [])
      (0x08 ∷ 0x01 ∷ 0x02 ∷ 0x00 ∷ []) (0x01 ∷ 0x01 ∷ 0x03 ∷ 0x02 ∷ []) ≡ Err (BadRecord 3)
  -- record 0, and one byte alone after the placements
  record_zero : said (0x9F ∷ 0x08 ∷ 0x02 ∷ 0x00 ∷ 0x02 ∷ []) (0x08 ∷ 0x01 ∷ 0x02 ∷ 0x00 ∷ []) (0x00 ∷ 0x01 ∷ [])
      ≡ Err (BadRecord 0)
  odd : said (0x9F ∷ 0x08 ∷ 0x02 ∷ 0x00 ∷ 0x02 ∷ []) (0x08 ∷ 0x01 ∷ 0x02 ∷ 0x00 ∷ []) (0x01 ∷ 0x01 ∷ 0x02 ∷ [])
      ≡ Err (BadRecord 2)

examples : Examples
unfolding primitive_objects recurse_with_fuel_from_length recurse_with_fuel primitive_at_front prepend_object header_of tag_at
    tag_size tag_size_from_second_byte tag_size_from_third_byte length_at length_after81 tag_first_byte is_template is_private
    append_big_endian_bytes nibbles if both either every dictionary_rows row_found_shifted find_row row_allows_value_from_card
    allowed_in_template length_and_digits_fit_row is_numeric digits_match_form is_compressed_numeric is_digits_then_fs tag_bytes
    length_bytes tag_and_value_allowed_in_record lacks_tag tags_distinct placements_in count_placements_where any_placement
    each_placed_once objects_in_record_from afl_entries afl_length_is_multiple_of4 sum_over_entries overlaps_none_before
    valid_entry_sfi1_to10_no_offline_auth valid_entry_after_within_count_limits first_bad_or_truncated_entry_after first_bad_entry
    encoded_objects card_records_from concatenated_records has_bad_placement_or_over253_bytes first_bad_number_from first_bad_record
    objects_valid_and_each_placed_once
examples = record {
  two = refl;
  order = refl;
  empty = refl;
  shortest = refl;
  fullest = refl;
  over = refl;
  split =
      refl;
  below = refl;
  above = refl;
  twice = refl;
  left_out = refl;
  placed_twice = refl;
  meeting = refl;
  files =
      refl;
  no_entry = refl;
  cut = refl;
  sixty_three = refl;
  sixty_two = refl;
  all = refl;
  many = refl;
  total =
      refl;
  low_bits = refl;
  sfi_zero = refl;
  sfi_ten = refl;
  sfi_eleven = refl;
  first_zero = refl;
  not-below =
      refl;
  offline = refl;
  session = refl;
  gpo = refl;
  template = refl;
  unknown = refl;
  private = refl;
  too_long =
      refl;
  digit = refl;
  object_nine = refl;
  record_three = refl;
  record_zero = refl;
  odd = refl;
}

-- buffers of 32,767 and 247 bytes, and of 32,768 and 247, whatever they hold, with a list that is bad and no entry
buffers : (r l : List ℕ) → length r ≡ 32767 → length l ≡ 247
    → personalise_result (card_plan (0x57 ∷ 0x00 ∷ 0x57 ∷ 0x00 ∷ []) [] []) r l ≡ Err ShortRecords
buffers r l e f = short_records (card_plan (0x57 ∷ 0x00 ∷ 0x57 ∷ 0x00 ∷ []) [] []) r l (omega arith)

second : (r l : List ℕ) → length r ≡ 32768 → length l ≡ 247
    → personalise_result (card_plan (0x57 ∷ 0x00 ∷ 0x57 ∷ 0x00 ∷ []) [] []) r l ≡ Err ShortAfl
second r l e f = short_afl (card_plan (0x57 ∷ 0x00 ∷ 0x57 ∷ 0x00 ∷ []) [] []) r l (omega arith) (omega arith)
