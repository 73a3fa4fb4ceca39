-- The rows of filling, at every store that holds the amount and the TVR: the list and the fitting are computed.
-- Assumes nothing.
use Rattle.std.specs.Prelude.{Some}
use mathlib.Core.Path.{◌≡◌, refl, ap, ◌∙◌}
use mathlib.Core.List.{List, [], ◌∷◌, ◌++◌}
use Prim.Native.Nat.{ℕ}
use Rattle.basics.specs.Recursion.{recurse_with_fuel_from_length, recurse_with_fuel}
use Rattle.basics.specs.Choice.{if}
use Rattle.basics.specs.Number.{append_big_endian_bytes}
use Rattle.tlv.specs.Tag.{tag_size, tag_size_from_second_byte, tag_at, tag_first_byte, is_template}
use Rattle.dictionary.specs.Rows.{dictionary_rows, row_found_shifted, find_row, form_n, form_b}
use Rattle.store.specs.Place.{StoredValue, present, object_value_in, object_value}
use Rattle.dol.specs.Entries.{dol_entry_with_length, dol_entry_at, prepend_dol_entry, dol_entries_step, dol_entries}
use Rattle.dol.specs.Filling.{truncated_to_length, padding_byte, padded_to_length, fitted_to_length, dol_value_bytes}
use Rattle.dol.specs.Filling.{dol_entry_bytes, dol_data, dol_data_if_parsed, dol_filled}
use Rattle.bench_rows.specs.BenchTable.{bench_amount, bench_tvr, BenchDolFillings}

-- a list that requests n bytes of one tag gives those of its value
amount_asked : (store : List ℕ) (n : ℕ) → dol_filled dictionary_rows store (0x9F ∷ 0x02 ∷ n ∷ [])
    ≡ Some (dol_value_bytes form_n n (object_value store 0x9F02) ++ [])
unfolding dol_entries recurse_with_fuel_from_length recurse_with_fuel dol_entries_step dol_entry_at dol_entry_with_length
    prepend_dol_entry tag_at tag_size tag_size_from_second_byte append_big_endian_bytes if tag_first_byte is_template dictionary_rows
    row_found_shifted find_row dol_data_if_parsed dol_data dol_entry_bytes object_value_in
amount_asked store n = refl

results_asked : (store : List ℕ) (n : ℕ) → dol_filled dictionary_rows store (0x95 ∷ n ∷ [])
    ≡ Some (dol_value_bytes form_b n (object_value store 0x95) ++ [])
unfolding dol_entries recurse_with_fuel_from_length recurse_with_fuel dol_entries_step dol_entry_at dol_entry_with_length
    prepend_dol_entry tag_at tag_size tag_size_from_second_byte append_big_endian_bytes if tag_first_byte is_template dictionary_rows
    row_found_shifted find_row dol_data_if_parsed dol_data dol_entry_bytes object_value_in
results_asked store n = refl

pub fills : (store : List ℕ) → object_value store 0x9F02 ≡ present bench_amount
    → object_value store 0x95 ≡ present bench_tvr → BenchDolFillings store
unfolding fitted_to_length truncated_to_length padded_to_length padding_byte if
fills store a r = record {
  amount-2 = amount_asked store 2 ∙ ap (λ (v : StoredValue). Some (dol_value_bytes form_n 2 v ++ [])) a;
  amount_7 = amount_asked store 7 ∙ ap (λ (v : StoredValue). Some (dol_value_bytes form_n 7 v ++ [])) a;
  results_3 = results_asked store 3 ∙ ap (λ (v : StoredValue). Some (dol_value_bytes form_b 3 v ++ [])) r;
  results_6 = results_asked store 6 ∙ ap (λ (v : StoredValue). Some (dol_value_bytes form_b 6 v ++ [])) r;
}
