-- Start bytes on both sides of each rule's edge, computed: for every store where the store does not matter, else in
-- the empty one.
-- Assumes nothing.
use mathlib.Core.Path.{◌≡◌, refl}
use mathlib.Core.Bool.{false}
use mathlib.Core.List.{List, [], ◌∷◌, ◌++◌, map}
use Prim.Native.Nat.{ℕ}
use lib.ListN.{replicate}
use Rattle.basics.specs.Choice.{if, both, either, every}
use Rattle.basics.specs.Recursion.{recurse_with_fuel, recurse_with_fuel_from_length}
use Rattle.basics.specs.Number.{append_big_endian_bytes, nibbles}
use Rattle.basics.proofs.Laws.{if_no}
use Rattle.tlv.specs.Tag.{tag_size, tag_size_from_second_byte, tag_size_from_third_byte, tag_at, tag_first_byte, is_template}
use Rattle.tlv.specs.Tag.{is_private}
use Rattle.tlv.specs.Length.{length_after82, length_at}
use Rattle.tlv.specs.Object.{header_of}
use Rattle.tlv.specs.Primitives.{prepend_object, primitive_at_front, primitive_objects}
use Rattle.dictionary.specs.Rows.{dictionary_rows, row_found_shifted, find_row, store_size}
use Rattle.dictionary.specs.Form.{is_numeric, digits_match_form, length_and_digits_fit_row}
use Rattle.dictionary.specs.TerminalType.{listed_terminal_type}
use Rattle.store.specs.Place.{row_offset, row_place_bytes, value_in_place, row_value, put_row, object_value_in}
use Rattle.session_record.specs.Ranges.{is_present_if_required_at_start, all_required_at_start_present}
use Rattle.std.specs.Prelude.{Ok}
use Rattle.start_data.specs.StartData.{is_listed_if_terminal_type, start_may_set_object_in_row, set_start_object}
use Rattle.start_data.specs.StartData.{set_start_objects, LoadedStore, refusal, load_start_bytes, load_result_of}

-- ---- for every store

pub record Refused (b : List ℕ) : Type 0 where
  -- a template that the dictionary does not know
  pub template : load_start_bytes b (0xE1 ∷ 0x00 ∷ []) ≡ refusal 20
  -- 00 where a tag is expected
  pub padding : load_start_bytes b (0x00 ∷ []) ≡ refusal 20
  -- before an object, between two and after one
  pub padded_front : load_start_bytes b (0x00 ∷ 0x9C ∷ 0x01 ∷ 0x00 ∷ []) ≡ refusal 20
  pub padded_between : load_start_bytes b (0x9C ∷ 0x01 ∷ 0x00 ∷ 0x00 ∷ 0x9A ∷ 0x00 ∷ []) ≡ refusal 20
  pub padded_behind : load_start_bytes b (0x9C ∷ 0x01 ∷ 0x00 ∷ 0x00 ∷ []) ≡ refusal 20
  -- an object that may not be set, and after it one that is truncated: all bytes are examined first
  pub cut : load_start_bytes b (0x95 ∷ 0x00 ∷ 0x9A ∷ 0x03 ∷ 0x25 ∷ []) ≡ refusal 20
  -- a TVR
  pub results : load_start_bytes b (0x95 ∷ 0x05 ∷ 0x00 ∷ 0x00 ∷ 0x00 ∷ 0x00 ∷ 0x00 ∷ []) ≡ refusal 23
  -- a date whose last digit is A
  pub digit : load_start_bytes b (0x9A ∷ 0x03 ∷ 0x25 ∷ 0x12 ∷ 0x3A ∷ []) ≡ refusal 23
  -- no bytes at all
  pub nothing : all_required_at_start_present b ≡ false → load_start_bytes b [] ≡ refusal 24
  -- an unknown primitive object alone
  pub unknown : all_required_at_start_present b ≡ false → load_start_bytes b (0x42 ∷ 0x01 ∷ 0x00 ∷ []) ≡ refusal 24
  -- an unknown primitive object of 1,024 bytes in all, and one of 1,025
  pub longest : all_required_at_start_present b ≡ false → load_start_bytes b (0x42 ∷ 0x82 ∷ 0x03 ∷ 0xFC ∷ replicate 1020 0)
      ≡ refusal 24
  pub too_long : load_start_bytes b (0x42 ∷ 0x82 ∷ 0x03 ∷ 0xFD ∷ replicate 1021 0) ≡ refusal 20

pub refused : (b : List ℕ) → Refused b
unfolding load_start_bytes primitive_objects recurse_with_fuel_from_length recurse_with_fuel prepend_object primitive_at_front
    header_of tag_at tag_size length_at length_after82 tag_first_byte is_template is_private append_big_endian_bytes if both every
    dictionary_rows row_found_shifted find_row start_may_set_object_in_row set_start_object set_start_objects length_and_digits_fit_row
    digits_match_form is_numeric nibbles
refused b = record {
  template = refl;
  padding = refl;
  padded_front = refl;
  padded_between = refl;
  padded_behind = refl;
  cut = refl;
  results = refl;
  digit = refl;
  nothing = λ e. if_no _ _ e;
  unknown = λ e. if_no _ _ e;
  longest = λ e. if_no _ _ e;
  too_long = refl;
}

-- ---- in the empty store

abbrev load_empty : List ℕ → LoadedStore
load_empty = load_start_bytes (replicate store_size 0)

-- taken as far as they go, so that only what a start must bring is absent: three bytes of 9F33, 9F38 empty, type 16,
-- two objects that differ
taken : map load_empty
    ((0x9F ∷ 0x33 ∷ 0x03 ∷ 0 ∷ 0 ∷ 0 ∷ [])
    ∷ (0x9F ∷ 0x38 ∷ 0x00 ∷ [])
    ∷ (0x9F ∷ 0x35 ∷ 0x01 ∷ 0x16 ∷ [])
    ∷ (0x9F ∷ 0x38 ∷ 0x00 ∷ 0x9F ∷ 0x35 ∷ 0x01 ∷ 0x22 ∷ [])
    ∷ [])
    ≡ refusal 24 ∷ refusal 24 ∷ refusal 24 ∷ refusal 24 ∷ []
unfolding load_start_bytes primitive_objects recurse_with_fuel_from_length recurse_with_fuel prepend_object primitive_at_front
    header_of tag_at tag_size tag_size_from_second_byte length_at tag_first_byte is_template is_private append_big_endian_bytes if both
    either every dictionary_rows row_found_shifted find_row start_may_set_object_in_row set_start_object set_start_objects
    length_and_digits_fit_row digits_match_form is_numeric nibbles is_listed_if_terminal_type listed_terminal_type row_offset
    row_place_bytes value_in_place row_value put_row object_value_in all_required_at_start_present is_present_if_required_at_start
taken = refl

-- two and four bytes of 9F33; no byte and two of DF811B, five bytes of DF8125 and a digit that is none; three bytes of
-- 9F6A and a digit that is none; 82, 8E, 9F42 and 9F6B, which are the card's, and 9F34, which is the session's; type
-- 17; 9F38 twice, empty both times
stopped : map load_empty
    ((0x9F ∷ 0x33 ∷ 0x02 ∷ 0 ∷ 0 ∷ [])
    ∷ (0x9F ∷ 0x33 ∷ 0x04 ∷ 0 ∷ 0 ∷ 0 ∷ 0 ∷ [])
    ∷ (0xDF ∷ 0x81 ∷ 0x1B ∷ 0x00 ∷ [])
    ∷ (0xDF ∷ 0x81 ∷ 0x1B ∷ 0x02 ∷ 0 ∷ 0 ∷ [])
    ∷ (0xDF ∷ 0x81 ∷ 0x25 ∷ 0x05 ∷ 0 ∷ 0 ∷ 0 ∷ 0 ∷ 0 ∷ [])
    ∷ (0xDF ∷ 0x81 ∷ 0x25 ∷ 0x06 ∷ 0 ∷ 0 ∷ 0 ∷ 0 ∷ 0 ∷ 0x0A ∷ [])
    ∷ (0x9F ∷ 0x6A ∷ 0x03 ∷ 0 ∷ 0 ∷ 0 ∷ [])
    ∷ (0x9F ∷ 0x6A ∷ 0x04 ∷ 0 ∷ 0 ∷ 0 ∷ 0xF0 ∷ [])
    ∷ (0x82 ∷ 0x02 ∷ 0 ∷ 0 ∷ [])
    ∷ (0x8E ∷ 0x0A ∷ 0 ∷ 0 ∷ 0 ∷ 0 ∷ 0 ∷ 0 ∷ 0 ∷ 0 ∷ 0x1F ∷ 0 ∷ [])
    ∷ (0x9F ∷ 0x42 ∷ 0x02 ∷ 0x00 ∷ 0x56 ∷ [])
    ∷ (0x9F ∷ 0x6B ∷ 0x01 ∷ 0xD0 ∷ [])
    ∷ (0x9F ∷ 0x34 ∷ 0x03 ∷ 0x3F ∷ 0 ∷ 0 ∷ [])
    ∷ (0x9F ∷ 0x35 ∷ 0x01 ∷ 0x17 ∷ [])
    ∷ (0x9F ∷ 0x38 ∷ 0x00 ∷ 0x9F ∷ 0x38 ∷ 0x00 ∷ [])
    ∷ [])
    ≡ replicate 15 (refusal 23)
unfolding load_start_bytes primitive_objects recurse_with_fuel_from_length recurse_with_fuel prepend_object primitive_at_front
    header_of tag_at tag_size tag_size_from_second_byte tag_size_from_third_byte length_at tag_first_byte is_template is_private
    append_big_endian_bytes if both either every dictionary_rows row_found_shifted find_row start_may_set_object_in_row
    set_start_object set_start_objects length_and_digits_fit_row digits_match_form is_numeric nibbles is_listed_if_terminal_type
    listed_terminal_type row_offset row_place_bytes value_in_place row_value put_row object_value_in all_required_at_start_present
    is_present_if_required_at_start
stopped = refl

-- what a start must bring but the last four: 9A, 9C, 9F02, 9F09, 9F1A, 9F33, 9F35, 9F37, DF8120 to DF8124; then DF811B,
-- DF8125, DF8126 and 9F6A
abbrev others : List ℕ
others =
    0x9A ∷ 0x03 ∷ 0x25 ∷ 0x12 ∷ 0x31 ∷ 0x9C ∷ 0x01 ∷ 0x00 ∷ 0x9F ∷ 0x02 ∷ 0x06 ∷ 0 ∷ 0 ∷ 0 ∷ 0 ∷ 0x10 ∷ 0 ∷
    0x9F ∷ 0x09 ∷ 0x02 ∷ 0 ∷ 2 ∷ 0x9F ∷ 0x1A ∷ 0x02 ∷ 0x00 ∷ 0x56 ∷ 0x9F ∷ 0x35 ∷ 0x01 ∷ 0x22 ∷
    0x9F ∷ 0x33 ∷ 0x03 ∷ 0xE0 ∷ 0x68 ∷ 0xC8 ∷ 0x9F ∷ 0x37 ∷ 0x04 ∷ 1 ∷ 2 ∷ 3 ∷ 4 ∷ 0xDF ∷ 0x81 ∷ 0x20 ∷ 0x05 ∷ 0 ∷ 0 ∷ 0
    ∷ 0 ∷ 0 ∷
    0xDF ∷ 0x81 ∷ 0x21 ∷ 0x05 ∷ 0 ∷ 0 ∷ 0 ∷ 0 ∷ 0 ∷ 0xDF ∷ 0x81 ∷ 0x22 ∷ 0x05 ∷ 0 ∷ 0 ∷ 0 ∷ 0 ∷ 0 ∷
    0xDF ∷ 0x81 ∷ 0x23 ∷ 0x06 ∷ 0 ∷ 0 ∷ 0 ∷ 0 ∷ 0 ∷ 0 ∷ 0xDF ∷ 0x81 ∷ 0x24 ∷ 0x06 ∷ 0 ∷ 0 ∷ 0 ∷ 0 ∷ 0 ∷ 0 ∷ []

abbrev configuration : List ℕ
configuration = 0xDF ∷ 0x81 ∷ 0x1B ∷ 0x01 ∷ 0x20 ∷ []

abbrev on_device_limit : List ℕ
on_device_limit = 0xDF ∷ 0x81 ∷ 0x25 ∷ 0x06 ∷ 0 ∷ 0 ∷ 0 ∷ 0 ∷ 0 ∷ 0 ∷ []

abbrev cvm_limit : List ℕ
cvm_limit = 0xDF ∷ 0x81 ∷ 0x26 ∷ 0x06 ∷ 0 ∷ 0 ∷ 0 ∷ 0 ∷ 0 ∷ 0 ∷ []

abbrev number : List ℕ
number = 0x9F ∷ 0x6A ∷ 0x04 ∷ 0 ∷ 0 ∷ 0x34 ∷ 0x56 ∷ []

complete : load_result_of (load_empty (others ++ configuration ++ on_device_limit ++ cvm_limit ++ number)) ≡ (Ok tt)
unfolding load_start_bytes primitive_objects recurse_with_fuel_from_length recurse_with_fuel prepend_object primitive_at_front
    header_of tag_at tag_size tag_size_from_second_byte tag_size_from_third_byte length_at tag_first_byte is_template is_private
    append_big_endian_bytes if both either every dictionary_rows row_found_shifted find_row start_may_set_object_in_row
    set_start_object set_start_objects length_and_digits_fit_row digits_match_form is_numeric nibbles is_listed_if_terminal_type
    listed_terminal_type row_offset row_place_bytes value_in_place row_value put_row object_value_in all_required_at_start_present
    is_present_if_required_at_start
complete = refl

-- one of them is absent
one_absent : map load_empty
    ((others ++ configuration ++ on_device_limit ++ cvm_limit) ∷ (others ++ configuration ++ on_device_limit ++ number)
    ∷ (others ++ configuration ++ cvm_limit ++ number)
    ∷ (others ++ on_device_limit ++ cvm_limit ++ number) ∷ [])
    ≡ replicate 4 (refusal 24)
unfolding load_start_bytes primitive_objects recurse_with_fuel_from_length recurse_with_fuel prepend_object primitive_at_front
    header_of tag_at tag_size tag_size_from_second_byte tag_size_from_third_byte length_at tag_first_byte is_template is_private
    append_big_endian_bytes if both either every dictionary_rows row_found_shifted find_row start_may_set_object_in_row
    set_start_object set_start_objects length_and_digits_fit_row digits_match_form is_numeric nibbles is_listed_if_terminal_type
    listed_terminal_type row_offset row_place_bytes value_in_place row_value put_row object_value_in all_required_at_start_present
    is_present_if_required_at_start
one_absent = refl
