-- A put of a value that fits keeps every stored object fitting: its own place holds the value's length + 1 and the
-- value, every other place is untouched.
-- Assumes nothing.
use mathlib.Core.Path.{◌≡◌, sym, ap, ap₂, subst, ◌∙◌}
use mathlib.Core.Bool.{true}
use mathlib.Core.Logic.{◌⊎◌, inl, inr}
use mathlib.Core.List.{List}
use Prim.Native.Nat.{ℕ, ◌+◌, ◌<◌}
use native.Mathlib.Omega.{arith}
use lib.Dec.{leb}
use lib.ListN.{length, get_or, take}
use lib.Seq.{length-take-le, get_or_at}
use borrow.Author.Tests.{le-leb}
use Rattle.basics.specs.Choice.{both}
use Rattle.basics.proofs.Laws.{both_yes}
use Rattle.basics.proofs.Order.{equal_or_not}
use Rattle.basics.proofs.Table.{at}
use Rattle.dictionary.specs.Rows.{dictionary_rows, blank_row, row_at, row_count, store_size}
use Rattle.dictionary.specs.Form.{length_and_digits_fit_row}
use Rattle.dictionary.proofs.Fit.{fits_length}
use Rattle.store.specs.Place.{StoredValue, row_size_in_store, row_offset, row_length_plus_one_or_zero, row_value, put_row}
use Rattle.store.proofs.Laws.{Fits, lies, length_byte_at, put-get, put_other, place_other}
use Rattle.store.proofs.Rows.{rows_length, fits_row}
use Rattle.session_record.specs.Ranges.{absent_or_length_and_digits_fit_row, stored_object_absent_or_fits_row}
use Rattle.session_record.specs.Ranges.{all_stored_objects_fit_rows}
use Rattle.session_record.proofs.Every.{every_all}
use Rattle.session_record.proofs.Tags.{row-found, value-is, length_is}

-- an object fits by what is in its row's place
by_place : (b : List ℕ) (j : ℕ) → j < row_count
    → stored_object_absent_or_fits_row b (row_at j)
    ≡ both (leb (row_length_plus_one_or_zero dictionary_rows b j) (row_size_in_store (row_at j)))
    (absent_or_length_and_digits_fit_row (row_at j) (row_value dictionary_rows b j))
unfolding stored_object_absent_or_fits_row
by_place b j h =
    let f = row-found j h in
    sym
    (ap₂ (λ (n : ℕ) (x : StoredValue). both (leb n (row_size_in_store (row_at j)))
    (absent_or_length_and_digits_fit_row (row_at j) x)) (length_is b _ j f) (value-is b _ j f))

module _ (b : List ℕ) (k : ℕ) (v : List ℕ) (l : length b ≡ store_size) (h : k < row_count)
    (w : length_and_digits_fit_row (row_at k) v ≡ true) where
  fit : Fits dictionary_rows b k v
  fit = fits_row b k v l h (fits_length (row_at k) v w).1

  own_byte : row_length_plus_one_or_zero dictionary_rows (put_row dictionary_rows b k v) k ≡ length v + 1
  unfolding put_row
  own_byte =
      let o = row_offset dictionary_rows k in
      let a : length (take o b) ≡ o = length-take-le o b (omega (arith, lies dictionary_rows b k v fit)) in
      length_byte_at dictionary_rows (put_row dictionary_rows b k v) k ∙ get_or_at (take o b) (length v + 1) _ 0 o a

  own : stored_object_absent_or_fits_row (put_row dictionary_rows b k v) (row_at k) ≡ true
  own =
      by_place _ k h
      ∙ both_yes _ _ (le-leb (row_length_plus_one_or_zero dictionary_rows (put_row dictionary_rows b k v) k)
      (row_size_in_store (row_at k)) (omega (arith, own_byte, fits_length (row_at k) v w)))
      (ap (absent_or_length_and_digits_fit_row (row_at k)) (put-get dictionary_rows b k v fit) ∙ w)

  other : (j : ℕ) → j < row_count → (j ≡ k → ⊥) → stored_object_absent_or_fits_row (put_row dictionary_rows b k v) (row_at j)
      ≡ stored_object_absent_or_fits_row b (row_at j)
  unfolding row_length_plus_one_or_zero
  other j i ne =
      by_place _ j i
      ∙ ap₂ (λ (n : ℕ) (x : StoredValue). both (leb n (row_size_in_store (row_at j)))
      (absent_or_length_and_digits_fit_row (row_at j) x))
      (ap (λ (p : List ℕ). get_or p 0 0) (place_other dictionary_rows b k v fit j ne))
      (put_other dictionary_rows b k v fit j ne)
      ∙ sym (by_place b j i)

  pub put_fits : all_stored_objects_fit_rows b ≡ true → all_stored_objects_fit_rows (put_row dictionary_rows b k v) ≡ true
  unfolding all_stored_objects_fit_rows
  put_fits f = every_all (stored_object_absent_or_fits_row (put_row dictionary_rows b k v)) dictionary_rows blank_row
      (λ j i. each j i (equal_or_not j k))
    where
      each : (j : ℕ) → j < length dictionary_rows → (j ≡ k) ⊎ (j ≡ k → ⊥)
          → stored_object_absent_or_fits_row (put_row dictionary_rows b k v) (row_at j) ≡ true
      each j i (inl e) = subst (λ (n : ℕ). stored_object_absent_or_fits_row (put_row dictionary_rows b k v) (row_at n) ≡ true)
          (sym e) own
      each j i (inr ne) = other j (omega (arith, rows_length)) ne ∙ at (stored_object_absent_or_fits_row b) dictionary_rows
          blank_row f j i
