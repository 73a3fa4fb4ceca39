-- The object of a row fits by what is in its place: an absent one always, a length byte that is too large never, else
-- by its length and its digits. Assumes nothing.
use mathlib.Core.Path.{◌≡◌, refl, sym, ap, ap₂, ◌∙◌}
use mathlib.Core.Bool.{Bool, true, false}
use mathlib.Core.List.{List, [], ◌∷◌, map}
use Prim.Native.Nat.{ℕ, ◌+◌, ◌-◌, ◌≤◌, ◌<◌}
use native.Mathlib.Omega.{arith}
use native.Mathlib.Nat.{add-zero}
use native.Mathlib.Numerals.{add-one}
use borrow.Author.Tests.{le-leb, lt-leb}
use lib.Dec.{leb}
use lib.ListN.{length, get_or, take, drop, length-take, length-drop}
use lib.Seq.{get_or-take, get_or-drop}
use Rattle.basics.specs.Choice.{both}
use Rattle.basics.proofs.Laws.{both_yes, both_true, both_no_left}
use Rattle.dictionary.specs.declared.RowAttributes.{RowAttributes}
use Rattle.dictionary.specs.Rows.{Row, dictionary_rows, row_at, row_count, store_size}
use Rattle.dictionary.specs.Packing.{attributes_of, row_with_attributes_and_tag_zero, packed_row_attributes}
use Rattle.dictionary.specs.Packing.{unpacked_row_attributes}
use Rattle.dictionary.specs.Form.{length_and_digits_fit_row, digits_match_form}
use Rattle.dictionary.proofs.Fit.{too_short, by_form}
use Rattle.dictionary.proofs.Table.{column}
use Rattle.dictionary.proofs.Packing.{code_unpacks}
use Rattle.store.specs.Place.{StoredValue, absent, present, row_size_in_store, row_offset, row_place_bytes, value_in_place}
use Rattle.store.specs.Place.{row_value, row_length_plus_one_or_zero}
use Rattle.store.proofs.Laws.{zero_absent, held_bytes}
use Rattle.store.proofs.Places.{offset_next}
use Rattle.store.proofs.Rows.{rows_length, row_inside}
use Rattle.session_record.specs.Ranges.{absent_or_length_and_digits_fit_row, stored_object_absent_or_fits_row}
use Rattle.session_record.specs.Inner.{place_length_and_value_fit_row}
use Rattle.session_record.proofs.Tags.{row-found, value-is, length_is}

-- the value in a place that is not empty
abbrev pub placed : List ℕ → List ℕ
placed p = take (get_or p 0 0 - 1) (drop 1 p)

-- a value that is present fits by its bytes
place_value : (x : Row) (p : List ℕ) → (get_or p 0 0 ≡ 0 → ⊥) → get_or p 0 0 ≤ row_size_in_store x
    → place_length_and_value_fit_row x p ≡ length_and_digits_fit_row x (placed p)
unfolding place_length_and_value_fit_row
place_value x [] ne l = absurd (ne refl)
place_value x (n ∷ v) ne l = both_true _ (le-leb _ _ l) ∙ ap (absent_or_length_and_digits_fit_row x) (held_bytes n v ne)

placed_length : (p : List ℕ) → get_or p 0 0 ≤ length p → length (placed p) ≡ get_or p 0 0 - 1
placed_length p h = simp (length-take, length-drop) (omega arith)

pub place_absent : (x : Row) (p : List ℕ) → get_or p 0 0 ≡ 0 → place_length_and_value_fit_row x p ≡ true
unfolding place_length_and_value_fit_row
place_absent x p e = both_yes _ _ (le-leb (get_or p 0 0) (row_size_in_store x) (omega arith))
    (ap (absent_or_length_and_digits_fit_row x) (zero_absent p e))

module _ (x : Row) (p : List ℕ) (er : row_size_in_store x ≡ length p) where
  pub place_long : length p < get_or p 0 0 → place_length_and_value_fit_row x p ≡ false
  unfolding place_length_and_value_fit_row
  place_long l = both_no_left _ _ (lt-leb (get_or p 0 0) (row_size_in_store x) (omega arith))

  pub place_short : (get_or p 0 0 ≡ 0 → ⊥) → get_or p 0 0 ≤ length p → get_or p 0 0 - 1 < x.least
      → place_length_and_value_fit_row x p ≡ false
  place_short ne l s =
      let n = placed_length p l in
      place_value x p ne (omega arith) ∙ too_short x (placed p) (omega arith)

  pub place_digits : (get_or p 0 0 ≡ 0 → ⊥) → get_or p 0 0 ≤ length p → x.least ≤ get_or p 0 0 - 1
      → place_length_and_value_fit_row x p ≡ digits_match_form x.form (placed p)
  place_digits ne l s =
      let n = placed_length p l in
      place_value x p ne (omega arith) ∙ by_form x (placed p) (omega arith) (omega arith)

-- the object of row k fits by its place
pub object_place : (b : List ℕ) (k : ℕ) → k < row_count → stored_object_absent_or_fits_row b (row_at k)
    ≡ place_length_and_value_fit_row (row_at k) (row_place_bytes dictionary_rows b k)
unfolding stored_object_absent_or_fits_row place_length_and_value_fit_row row_value row_length_plus_one_or_zero
object_place b k h =
    let f = row-found k h in
    sym (ap₂ (λ (n : ℕ) (y : Bool). both (leb n (row_size_in_store (row_at k))) y) (length_is b _ k f)
    (ap (absent_or_length_and_digits_fit_row (row_at k)) (value-is b _ k f)))

-- a place fits by what its row states besides the tag
untagged : (r : Row) (p : List ℕ) → place_length_and_value_fit_row r p ≡ place_length_and_value_fit_row
    (row_with_attributes_and_tag_zero (attributes_of r)) p
unfolding place_length_and_value_fit_row length_and_digits_fit_row
untagged r p = ap (both (leb (get_or p 0 0) (row_size_in_store r))) (same (value_in_place p))
  where
    same : (v : StoredValue) → absent_or_length_and_digits_fit_row r v ≡ absent_or_length_and_digits_fit_row
        (row_with_attributes_and_tag_zero (attributes_of r)) v
    same absent = refl
    same (present w) = refl

-- ---- a walk over the rows and their places

-- what a row states, out of its number in the array of all rows
pub row_read : (l : List ℕ) (k : ℕ) (a : RowAttributes) → k < row_count → l ≡ map packed_row_attributes dictionary_rows
    → a ≡ unpacked_row_attributes (get_or l k 0) → a ≡ attributes_of (row_at k)
row_read l k a h e u =
    u ∙ ap (λ (x : List ℕ). unpacked_row_attributes (get_or x k 0)) e ∙ ap unpacked_row_attributes
    (column packed_row_attributes dictionary_rows k) ∙ code_unpacks k (omega (arith, rows_length))

-- row k's place, by where it starts and its greatest length w: it lies inside, and the next one starts after it
pub record Stands (k at w : ℕ) : Type 0 where
  pub inside : at + w + 1 ≤ store_size
  pub next : at + w + 1 ≡ row_offset dictionary_rows (k + 1)
  pub whole : row_size_in_store (row_at k) ≡ w + 1

pub stands : (k at : ℕ) (a : RowAttributes) → k < row_count → at ≡ row_offset dictionary_rows k
    → a ≡ attributes_of (row_at k) → Stands k at a.greatest
stands k at a h e r =
    let m : a.greatest ≡ (row_at k).greatest = ap (λ (x : RowAttributes). x.greatest) r in
    let i = row_inside k h in
    let n : row_offset dictionary_rows (k + 1) ≡ row_offset dictionary_rows k + row_size_in_store (row_at k) =
    ap (row_offset dictionary_rows) (add-one k) ∙ offset_next dictionary_rows k (omega (arith, rows_length)) in
    record { inside = omega arith; next = omega arith; whole = omega arith }

-- the part of a store that is row k's place: its first byte, and whether the row's object fits by it
pub part_first : (b : List ℕ) (at w : ℕ) → get_or (take (at + w + 1 - at) (drop at b)) 0 0 ≡ get_or b at 0
part_first b at w = get_or-take (at + w + 1 - at) (drop at b) 0 0 (omega arith) ∙ get_or-drop at b 0 0 ∙ rw add-zero

pub object_part : (b : List ℕ) (k at : ℕ) (a : RowAttributes) → k < row_count → at ≡ row_offset dictionary_rows k
    → a ≡ attributes_of (row_at k)
    → stored_object_absent_or_fits_row b (row_at k) ≡ place_length_and_value_fit_row (row_with_attributes_and_tag_zero a)
    (take (at + a.greatest + 1 - at) (drop at b))
unfolding row_place_bytes
object_part b k at a h e r =
    let n : at + a.greatest + 1 - at ≡ row_size_in_store (row_at k) = omega (arith, (stands k at a h e r).whole) in
    object_place b k h ∙ untagged (row_at k) (row_place_bytes dictionary_rows b k)
    ∙ sym (ap₂ (λ (x : RowAttributes) (p : List ℕ). place_length_and_value_fit_row (row_with_attributes_and_tag_zero x) p) r
    (ap₂ (λ (i j : ℕ). take i (drop j b)) n e))
