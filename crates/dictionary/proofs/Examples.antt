-- Worked values, by computation: terminal types, digits and lengths on both sides of each edge, searches.
-- Assumes nothing.
use Rattle.std.specs.Prelude.{Option, Some, None}
use mathlib.Core.Path.{◌≡◌, refl}
use mathlib.Core.Bool.{true, false}
use mathlib.Core.List.{List, [], ◌∷◌, map}
use Prim.Native.Nat.{ℕ}
use lib.ListN.{replicate}
use Rattle.basics.specs.Choice.{if, both, either, every}
use Rattle.basics.specs.Number.{nibbles}
use Rattle.dictionary.specs.declared.SearchResult.{SearchResult}
use Rattle.dictionary.specs.Rows.{dictionary_rows, row_at, row_found_shifted, form_b, form_n, form_cn}
use Rattle.dictionary.specs.Search.{halving_search_in, halving_search, probed_places, halving_search_result, tags_of}
use Rattle.dictionary.specs.Search.{search_part_number, filter_tags, halving_search_result_in_part}
use Rattle.dictionary.specs.Form.{is_numeric, is_digits_then_fs, is_compressed_numeric, digits_match_form}
use Rattle.dictionary.specs.Form.{length_and_digits_fit_row}
use Rattle.dictionary.specs.Named.{row_pan, row_cdol1, row_cvm_list, row_expiration_date, row_amount, row_reader_version}
use Rattle.dictionary.specs.Named.{row_ac, row_natc_track2}
use Rattle.dictionary.specs.Named.{row_un_numeric, row_track2_data, row_kernel_configuration, row_limit_on_device_cvm}
use Rattle.dictionary.specs.Named.{row_cvm_required_limit}
use Rattle.dictionary.specs.TerminalType.{listed_terminal_type}

-- terminal types: 11 to 16, 21 to 26, 34 to 36
listed_types : map listed_terminal_type (0x11 ∷ 0x16 ∷ 0x21 ∷ 0x26 ∷ 0x34 ∷ 0x36 ∷ []) ≡ true ∷ true ∷ true ∷ true ∷ true
    ∷ true ∷ []
unfolding listed_terminal_type both either
listed_types = refl

other_types : map listed_terminal_type (0x10 ∷ 0x17 ∷ 0x20 ∷ 0x27 ∷ 0x33 ∷ 0x37 ∷ []) ≡ false ∷ false ∷ false ∷ false
    ∷ false ∷ false ∷ []
unfolding listed_terminal_type both either
other_types = refl

-- n: no byte, 00 and 99; then A and F as a low digit and as a high one
digits : map (digits_match_form form_n) ([] ∷ (0x00 ∷ 0x99 ∷ []) ∷ (0x9A ∷ []) ∷ (0xA9 ∷ []) ∷ (0x9F ∷ []) ∷ (0xF9 ∷ [])
    ∷ [])
    ≡ true ∷ true ∷ false ∷ false ∷ false ∷ false ∷ []
unfolding digits_match_form is_numeric nibbles every both if
digits = refl

-- cn: no byte, digits alone, Fs alone, Fs from a low digit on and from a high one on
padded : map (digits_match_form form_cn) ([] ∷ (0x00 ∷ 0x99 ∷ []) ∷ (0xFF ∷ []) ∷ (0x9F ∷ 0xFF ∷ []) ∷ (0x99 ∷ 0xFF ∷ [])
    ∷ [])
    ≡ true ∷ true ∷ true ∷ true ∷ true ∷ []
unfolding digits_match_form is_compressed_numeric is_digits_then_fs nibbles every both if
padded = refl

-- a digit after an F in the same byte and in the next; A as a low digit and as a high one; E after an F
not_padded : map (digits_match_form form_cn) ((0xF9 ∷ []) ∷ (0x9F ∷ 0x99 ∷ []) ∷ (0xFF ∷ 0x9F ∷ []) ∷ (0x9A ∷ [])
    ∷ (0xA9 ∷ []) ∷ (0xFE ∷ []) ∷ [])
    ≡ false ∷ false ∷ false ∷ false ∷ false ∷ false ∷ []
unfolding digits_match_form is_compressed_numeric is_digits_then_fs nibbles every both if
not_padded = refl

-- b requires nothing
any_bytes : map (digits_match_form form_b) ([] ∷ (0x9A ∷ 0xFF ∷ 0x00 ∷ []) ∷ []) ≡ true ∷ true ∷ []
unfolding digits_match_form if
any_bytes = refl

-- lengths: 6 for 9F02, 0 to 10 for 5A
amounts : map (λ n. length_and_digits_fit_row (row_at row_amount) (replicate n 0)) (5 ∷ 6 ∷ 7 ∷ []) ≡ false ∷ true ∷ false
    ∷ []
unfolding dictionary_rows length_and_digits_fit_row digits_match_form is_numeric nibbles every both if
amounts = refl

numbers : map (λ n. length_and_digits_fit_row (row_at row_pan) (replicate n 0)) (0 ∷ 10 ∷ 11 ∷ []) ≡ true ∷ true ∷ false ∷ []
unfolding dictionary_rows length_and_digits_fit_row digits_match_form is_compressed_numeric is_digits_then_fs nibbles every both if
numbers = refl

-- 10 to 250 for 8E, so that a list has a rule
lists : map (λ n. length_and_digits_fit_row (row_at row_cvm_list) (replicate n 0)) (0 ∷ 9 ∷ 10 ∷ 250 ∷ 251 ∷ []) ≡ false
    ∷ false ∷ true ∷ true ∷ false ∷ []
unfolding dictionary_rows length_and_digits_fit_row digits_match_form both if
lists = refl

-- one byte of any bits for DF811B, six of digits for DF8125
configurations : map (λ n. length_and_digits_fit_row (row_at row_kernel_configuration) (replicate n 0xFF)) (0 ∷ 1 ∷ 2 ∷ [])
    ≡ false ∷ true ∷ false ∷ []
unfolding dictionary_rows length_and_digits_fit_row digits_match_form both if
configurations = refl

on_device_limits : map (length_and_digits_fit_row (row_at row_limit_on_device_cvm)) (replicate 5 0x99 ∷ replicate 6 0x99
    ∷ replicate 7 0x99 ∷ replicate 6 0x9A ∷ [])
    ≡ false ∷ true ∷ false ∷ false ∷ []
unfolding dictionary_rows length_and_digits_fit_row digits_match_form is_numeric nibbles every both if
on_device_limits = refl

-- four bytes of digits for 9F6A, one of any bits for 9F67, 0 to 19 for the track
unpredictable_numbers : map (length_and_digits_fit_row (row_at row_un_numeric)) (replicate 3 0x99 ∷ replicate 4 0x99
    ∷ replicate 5 0x99 ∷ replicate 4 0x9A ∷ [])
    ≡ false ∷ true ∷ false ∷ false ∷ []
unfolding dictionary_rows length_and_digits_fit_row digits_match_form is_numeric nibbles every both if
unpredictable_numbers = refl

counter_lengths : map (λ n. length_and_digits_fit_row (row_at row_natc_track2) (replicate n 0xFF)) (0 ∷ 1 ∷ 2 ∷ []) ≡ false
    ∷ true ∷ false ∷ []
unfolding dictionary_rows length_and_digits_fit_row digits_match_form both if
counter_lengths = refl

tracks : map (λ n. length_and_digits_fit_row (row_at row_track2_data) (replicate n 0xDF)) (0 ∷ 19 ∷ 20 ∷ []) ≡ true ∷ true
    ∷ false ∷ []
unfolding dictionary_rows length_and_digits_fit_row digits_match_form both if
tracks = refl

-- ---- searches: where a tag is, and how many are probed

abbrev said : Option ℕ → ℕ → SearchResult
said found probes = record { found = found; probes = probes }

-- no tag, one, three, and tags between them
of_none : halving_search_result [] 0x57 ≡ said None 0
unfolding halving_search_result halving_search halving_search_in
of_none = refl

of_one : map (halving_search_result (0x57 ∷ [])) (0x57 ∷ 0x56 ∷ 0x58 ∷ []) ≡ said (Some 0) 1 ∷ said None 1
    ∷ said None 1 ∷ []
unfolding halving_search_result halving_search halving_search_in if
of_one = refl

of_three : map (halving_search_result (0x57 ∷ 0x5A ∷ 0x82 ∷ [])) (0x57 ∷ 0x5A ∷ 0x82 ∷ []) ≡ said (Some 0) 2 ∷ said (Some 1) 1
    ∷ said (Some 2) 2 ∷ []
unfolding halving_search_result halving_search halving_search_in if
of_three = refl

between_three : map (halving_search_result (0x57 ∷ 0x5A ∷ 0x82 ∷ [])) (0x56 ∷ 0x58 ∷ 0x5B ∷ 0x83 ∷ [])
    ≡ said None 2 ∷ said None 2 ∷ said None 2 ∷ said None 2 ∷ []
unfolding halving_search_result halving_search halving_search_in if
between_three = refl

-- four, seven and eight tags: each of them, at most 3, 3 and 4 probes
of_four : let tags : List ℕ = 0x57 ∷ 0x5A ∷ 0x82 ∷ 0x8C ∷ [] in
    map (halving_search_result tags) tags ≡ said (Some 0) 3 ∷ said (Some 1) 2 ∷ said (Some 2) 1 ∷ said (Some 3) 2 ∷ []
unfolding halving_search_result halving_search halving_search_in if
of_four = refl

of_seven : let tags : List ℕ = 0x57 ∷ 0x5A ∷ 0x82 ∷ 0x8C ∷ 0x94 ∷ 0x95 ∷ 0x9A ∷ [] in
    map (halving_search_result tags) tags
    ≡ said (Some 0) 3 ∷ said (Some 1) 2 ∷ said (Some 2) 3 ∷ said (Some 3) 1 ∷ said (Some 4) 3 ∷ said (Some 5) 2 ∷ said (Some 6) 3 ∷ []
unfolding halving_search_result halving_search halving_search_in if
of_seven = refl

of_eight : let tags : List ℕ = 0x57 ∷ 0x5A ∷ 0x82 ∷ 0x8C ∷ 0x94 ∷ 0x95 ∷ 0x9A ∷ 0x9C ∷ [] in
    map (halving_search_result tags) tags
    ≡ said (Some 0) 4 ∷ said (Some 1) 3 ∷ said (Some 2) 2 ∷ said (Some 3) 3 ∷ said (Some 4) 1 ∷ said (Some 5) 3 ∷ said (Some 6) 2
    ∷ said (Some 7) 3 ∷ []
unfolding halving_search_result halving_search halving_search_in if
of_eight = refl

-- the places probed, in their order: of eight tags the last, the first, and none of them
places_of_eight : let tags : List ℕ = 0x57 ∷ 0x5A ∷ 0x82 ∷ 0x8C ∷ 0x94 ∷ 0x95 ∷ 0x9A ∷ 0x9C ∷ [] in
    map (probed_places tags) (0x9C ∷ 0x57 ∷ 0x9B ∷ []) ≡ (4 ∷ 6 ∷ 7 ∷ []) ∷ (4 ∷ 2 ∷ 1 ∷ 0 ∷ []) ∷ (4 ∷ 6 ∷ 7 ∷ []) ∷ []
unfolding halving_search halving_search_in if
places_of_eight = refl

-- the dictionary: rows by their tags; then a number below all tags, templates, a tag that is not whole, and above all
of_rows : map (λ t. (halving_search_result (tags_of dictionary_rows) t).found) (0x5A ∷ 0x5F24 ∷ 0x9F09 ∷ 0x9F6A ∷ 0xDF8126
    ∷ [])
    ≡ Some row_pan ∷ Some row_expiration_date ∷ Some row_reader_version ∷ Some row_un_numeric ∷ Some row_cvm_required_limit ∷ []
unfolding dictionary_rows halving_search_result halving_search halving_search_in if
of_rows = refl

of_no_row : map (λ t. (halving_search_result (tags_of dictionary_rows) t).found) (0 ∷ 0x70 ∷ 0xBF0C ∷ 0xDF81 ∷ 0xFFFFFFFF
    ∷ []) ≡ replicate 5 None
unfolding dictionary_rows halving_search_result halving_search halving_search_in if
of_no_row = refl

-- the parts, on both sides of each edge
parts : map search_part_number (0 ∷ 0xFF ∷ 0x100 ∷ 0x9EFF ∷ 0x9F00 ∷ 0xDEFF ∷ 0xDF00 ∷ 0xFFFF ∷ 0x10000 ∷ 0xFFFFFFFF ∷ [])
    ≡ 0 ∷ 0 ∷ 1 ∷ 1 ∷ 2 ∷ 2 ∷ 3 ∷ 3 ∷ 4 ∷ 4 ∷ []
unfolding search_part_number if
parts = refl

-- seven tags by their parts, of two, one, two, none and two: each is found in its part, with its place among all of
-- them
abbrev mixed : List ℕ
mixed = 0x57 ∷ 0x9C ∷ 0x5F24 ∷ 0x9F02 ∷ 0x9F6B ∷ 0xDF8101 ∷ 0xDF8307 ∷ []

of_parts : map (halving_search_result_in_part mixed) mixed
    ≡ said (Some 0) 2 ∷ said (Some 1) 1 ∷ said (Some 2) 1 ∷ said (Some 3) 2 ∷ said (Some 4) 1 ∷ said (Some 5) 2 ∷ said (Some 6) 1 ∷ []
unfolding halving_search_result_in_part search_part_number filter_tags halving_search_result halving_search halving_search_in
    row_found_shifted if
of_parts = refl

-- then a tag at an edge of each that is none of them
in_no_part : map (halving_search_result_in_part mixed) (0xFF ∷ 0x100 ∷ 0xDEFF ∷ 0xDF00 ∷ 0x10000 ∷ [])
    ≡ said None 1 ∷ said None 1 ∷ said None 1 ∷ said None 0 ∷ said None 2 ∷ []
unfolding halving_search_result_in_part search_part_number filter_tags halving_search_result halving_search halving_search_in
    row_found_shifted if
in_no_part = refl

-- the dictionary by its parts: a row of each of four, and a tag of each that no row has
rows_by_parts : map (λ t. (halving_search_result_in_part (tags_of dictionary_rows) t).found)
    (0x8C ∷ 0x5F24 ∷ 0x9F26 ∷ 0xDF8126 ∷ [])
    ≡ Some row_cdol1 ∷ Some row_expiration_date ∷ Some row_ac ∷ Some row_cvm_required_limit ∷ []
unfolding dictionary_rows halving_search_result_in_part search_part_number filter_tags halving_search_result halving_search
    halving_search_in row_found_shifted if
rows_by_parts = refl

no_row_by_parts : map (λ t. (halving_search_result_in_part (tags_of dictionary_rows) t).found)
    (0x70 ∷ 0x100 ∷ 0xBF0C ∷ 0xDF81 ∷ 0xFF8106 ∷ []) ≡ replicate 5 None
unfolding dictionary_rows halving_search_result_in_part search_part_number filter_tags halving_search_result halving_search
    halving_search_in row_found_shifted if
no_row_by_parts = refl
