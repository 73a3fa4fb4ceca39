-- What a store holds of a tag is what is in its row's place: the specifications speak of tags, the code of rows.
-- Assumes nothing.
use Rattle.std.specs.Prelude.{Some}
use mathlib.Core.Path.{◌≡◌, sym, ap, ◌∙◌}
use mathlib.Core.Bool.{Bool}
use mathlib.Core.List.{List}
use Prim.Native.Nat.{ℕ, ◌<◌}
use native.Mathlib.Omega.{arith}
use Rattle.dictionary.specs.Rows.{dictionary_rows, row_at, find_row, row_count}
use Rattle.dictionary.proofs.Rule.{rows_proper, proper_rising, find_row_lem}
use Rattle.store.specs.Place.{row_value, object_value, bytes_or_empty_if_absent, is_present, row_length_plus_one_or_zero}
use Rattle.store.proofs.Laws.{by_row}
use Rattle.store.proofs.Rows.{rows_length}
use Rattle.dictionary.specs.Named.{row_afl}
use Rattle.dictionary.proofs.Named.{at_94}
use Rattle.session_record.specs.Ranges.{stored_afl}
use Rattle.store.specs.Held.{has_object, stored_bytes}
use Rattle.store.specs.Held.{length_plus_one_or_zero_of_row_found, stored_length_plus_one_or_zero}

-- every row is found by its tag
pub row-found : (k : ℕ) → k < row_count → find_row dictionary_rows (row_at k).tag ≡ Some k
row-found k h = find_row_lem dictionary_rows (proper_rising dictionary_rows rows_proper) k (omega (arith, rows_length))

module _ (b : List ℕ) (t k : ℕ) (e : find_row dictionary_rows t ≡ Some k) where
  pub value-is : row_value dictionary_rows b k ≡ object_value b t
  value-is = sym (by_row dictionary_rows b t k e)

  pub bytes_are : bytes_or_empty_if_absent (row_value dictionary_rows b k) ≡ stored_bytes b t
  bytes_are = ap bytes_or_empty_if_absent value-is

  pub length_is : row_length_plus_one_or_zero dictionary_rows b k ≡ stored_length_plus_one_or_zero b t
  unfolding stored_length_plus_one_or_zero
  length_is = sym (ap (length_plus_one_or_zero_of_row_found b) e)

  -- the answer x of a test of the row's place
  pub held_is : {r x : Bool} → r ≡ is_present (row_value dictionary_rows b k) → r ≡ x → has_object b t ≡ x
  held_is p q = sym (ap is_present value-is) ∙ sym p ∙ q

-- ---- the stored AFL, by what a check of the row's value reports

module _ (b : List ℕ) {v : List ℕ} (p : v ≡ bytes_or_empty_if_absent (row_value dictionary_rows b row_afl)) where
  located : v ≡ stored_afl b
  located = p ∙ bytes_are b 0x94 row_afl at_94
