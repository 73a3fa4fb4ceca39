-- Worked examples of lists and values, computed. Assumes nothing.
use Rattle.std.specs.Prelude.{Some, None}
use mathlib.Core.Path.{◌≡◌, refl}
use mathlib.Core.List.{[], ◌∷◌, map}
use Rattle.basics.specs.Recursion.{recurse_with_fuel_from_length, recurse_with_fuel}
use Rattle.basics.specs.Choice.{if}
use Rattle.basics.specs.Number.{append_big_endian_bytes}
use Rattle.tlv.specs.Tag.{tag_size, tag_size_from_second_byte, tag_size_from_third_byte, tag_at}
use Rattle.dictionary.specs.Rows.{form_b, form_n, form_cn}
use Rattle.store.specs.Place.{absent, present}
use Rattle.dol.specs.Entries.{dol_entry, dol_entry_with_length, dol_entry_at, prepend_dol_entry, dol_entries_step}
use Rattle.dol.specs.Entries.{dol_entries}
use Rattle.dol.specs.Filling.{truncated_to_length, padding_byte, padded_to_length, fitted_to_length, dol_value_bytes}

-- ---- lists

-- two entries, tags of two bytes and of one
pub two_entries : dol_entries (0x9F ∷ 0x02 ∷ 6 ∷ 0x95 ∷ 5 ∷ []) ≡ Some (dol_entry 0x9F02 6 ∷ dol_entry 0x95 5 ∷ [])
unfolding dol_entries recurse_with_fuel_from_length recurse_with_fuel dol_entries_step dol_entry_at dol_entry_with_length
    prepend_dol_entry tag_at tag_size tag_size_from_second_byte tag_size_from_third_byte append_big_endian_bytes if
two_entries = refl

-- a tag of three bytes
pub three_bytes : dol_entries (0xDF ∷ 0x81 ∷ 0x23 ∷ 3 ∷ []) ≡ Some (dol_entry 0xDF8123 3 ∷ [])
unfolding dol_entries recurse_with_fuel_from_length recurse_with_fuel dol_entries_step dol_entry_at dol_entry_with_length
    prepend_dol_entry tag_at tag_size tag_size_from_second_byte tag_size_from_third_byte append_big_endian_bytes if
three_bytes = refl

-- one length byte, and no long form
pub plain_length : dol_entries (0x95 ∷ 0x81 ∷ []) ≡ Some (dol_entry 0x95 129 ∷ [])
unfolding dol_entries recurse_with_fuel_from_length recurse_with_fuel dol_entries_step dol_entry_at dol_entry_with_length
    prepend_dol_entry tag_at tag_size tag_size_from_second_byte tag_size_from_third_byte append_big_endian_bytes if
plain_length = refl

-- broken: a first byte 00, a second byte 80, an end inside a tag, an end before the length
pub first_00 : dol_entries (0 ∷ 0 ∷ []) ≡ None
unfolding dol_entries recurse_with_fuel_from_length recurse_with_fuel dol_entries_step dol_entry_at dol_entry_with_length
    prepend_dol_entry tag_at tag_size tag_size_from_second_byte tag_size_from_third_byte append_big_endian_bytes if
first_00 = refl

pub second_80 : dol_entries (0x9F ∷ 0x80 ∷ 2 ∷ []) ≡ None
unfolding dol_entries recurse_with_fuel_from_length recurse_with_fuel dol_entries_step dol_entry_at dol_entry_with_length
    prepend_dol_entry tag_at tag_size tag_size_from_second_byte tag_size_from_third_byte append_big_endian_bytes if
second_80 = refl

pub half_a_tag : dol_entries (0x95 ∷ 5 ∷ 0x9F ∷ []) ≡ None
unfolding dol_entries recurse_with_fuel_from_length recurse_with_fuel dol_entries_step dol_entry_at dol_entry_with_length
    prepend_dol_entry tag_at tag_size tag_size_from_second_byte tag_size_from_third_byte append_big_endian_bytes if
half_a_tag = refl

pub no_length : dol_entries (0x9F ∷ 0x02 ∷ []) ≡ None
unfolding dol_entries recurse_with_fuel_from_length recurse_with_fuel dol_entries_step dol_entry_at dol_entry_with_length
    prepend_dol_entry tag_at tag_size tag_size_from_second_byte tag_size_from_third_byte append_big_endian_bytes if
no_length = refl

-- padding before the first tag, after the last length and between two entries
pub padding_around : map dol_entries ((0 ∷ 0x9F ∷ 0x02 ∷ 6 ∷ []) ∷ (0x9F ∷ 0x02 ∷ 6 ∷ 0 ∷ []) ∷ (0 ∷ 0x95 ∷ 5 ∷ [])
    ∷ (0x95 ∷ 5 ∷ 0 ∷ []) ∷ (0x9F ∷ 0x02 ∷ 6 ∷ 0 ∷ 0x95 ∷ 5 ∷ []) ∷ [])
    ≡ None ∷ None ∷ None ∷ None ∷ None ∷ []
unfolding dol_entries recurse_with_fuel_from_length recurse_with_fuel dol_entries_step dol_entry_at dol_entry_with_length
    prepend_dol_entry tag_at tag_size tag_size_from_second_byte tag_size_from_third_byte append_big_endian_bytes if
padding_around = refl

-- ---- values

-- an amount keeps its right end, and grows at its left
pub amount-2 : fitted_to_length form_n 2 (0 ∷ 0 ∷ 0 ∷ 0 ∷ 0x12 ∷ 0x34 ∷ []) ≡ 0x12 ∷ 0x34 ∷ []
unfolding fitted_to_length truncated_to_length padded_to_length padding_byte if
amount-2 = refl

pub amount_7 : fitted_to_length form_n 7 (0 ∷ 0 ∷ 0 ∷ 0 ∷ 0x12 ∷ 0x34 ∷ []) ≡ 0 ∷ 0 ∷ 0 ∷ 0 ∷ 0 ∷ 0x12 ∷ 0x34 ∷ []
unfolding fitted_to_length truncated_to_length padded_to_length padding_byte if
amount_7 = refl

-- a TVR keeps its left end, and grows at its right
pub results_3 : fitted_to_length form_b 3 (0x80 ∷ 0 ∷ 0 ∷ 0x80 ∷ 0 ∷ []) ≡ 0x80 ∷ 0 ∷ 0 ∷ []
unfolding fitted_to_length truncated_to_length padded_to_length padding_byte if
results_3 = refl

pub results_6 : fitted_to_length form_b 6 (0x80 ∷ 0 ∷ 0 ∷ 0x80 ∷ 0 ∷ []) ≡ 0x80 ∷ 0 ∷ 0 ∷ 0x80 ∷ 0 ∷ 0 ∷ []
unfolding fitted_to_length truncated_to_length padded_to_length padding_byte if
results_6 = refl

-- a card number grows by FF, an empty one too; an absent one gives zeros
pub number_4 : fitted_to_length form_cn 4 (0x12 ∷ 0x3F ∷ []) ≡ 0x12 ∷ 0x3F ∷ 0xFF ∷ 0xFF ∷ []
unfolding fitted_to_length truncated_to_length padded_to_length padding_byte if
number_4 = refl

pub number_empty : dol_value_bytes form_cn 3 (present []) ≡ 0xFF ∷ 0xFF ∷ 0xFF ∷ []
unfolding fitted_to_length truncated_to_length padded_to_length padding_byte if
number_empty = refl

pub number_absent : dol_value_bytes form_cn 3 absent ≡ 0 ∷ 0 ∷ 0 ∷ []
number_absent = refl
