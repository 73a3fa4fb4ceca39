-- The places of the dictionary's rows: what holds of every table, at this one. Assumes nothing.
use mathlib.Core.Path.{◌≡◌, refl, ap, ◌∙◌}
use mathlib.Core.Bool.{true, false}
use mathlib.Core.List.{List}
use mathlib.Core.Logic.{inl, inr}
use Prim.Native.Nat.{ℕ, ◌+◌, ◌-◌, ◌*◌, ◌≤◌, ◌<◌, min}
use native.Mathlib.Omega.{arith}
use lib.Dec.{leb}
use lib.ListN.{length, get_or, take, drop, length-drop}
use lib.Seq.{length-take-le}
use borrow.Author.Tests.{eq-eqb, ne_eqb, leb-true}
use Rattle.basics.specs.Choice.{both, every}
use Rattle.basics.proofs.Table.{at}
use Rattle.basics.proofs.Order.{le-or-gt}
use Rattle.dictionary.specs.Rows.{dictionary_rows, blank_row, row_at, row_count, store_size}
use Rattle.dictionary.proofs.Table.{beyond}
use Rattle.store.specs.declared.RowOffsetAndMaxLength.{RowOffsetAndMaxLength}
use Rattle.store.specs.Place.{row_offset, store_size_of}
use Rattle.store.specs.Inner.{packed_row_offset_and_max_length, row_offset_and_max_length}
use Rattle.store.specs.Place.{bytes_or_empty_if_absent, row_value, is_row_absent_or_empty}
use Rattle.store.specs.Inner.{unpacked_row_offset_and_max_length}
use Rattle.store.proofs.Places.{inside, ends, storable, short}
use Rattle.store.proofs.Laws.{Fits, stored_length, value_bytes, length_byte_at}

pub rows_size : store_size_of dictionary_rows ≡ store_size
unfolding dictionary_rows store_size_of
rows_size = refl

pub rows_length : length dictionary_rows ≡ row_count
unfolding dictionary_rows
rows_length = refl

rows_storable : storable dictionary_rows ≡ true
unfolding dictionary_rows storable every both
rows_storable = refl

-- a row's place lies inside the store, and its length + 1 fits a byte
pub row_inside : (k : ℕ) → k < row_count → (row_offset dictionary_rows k + 1 + (row_at k).greatest ≤ store_size)
    × ((row_at k).greatest ≤ 254)
row_inside k h =
    let l : k < length dictionary_rows = omega (arith, rows_length) in
    (omega (arith, inside dictionary_rows k l, rows_size), short dictionary_rows rows_storable k l)

pub rows_end : (k : ℕ) → row_count ≤ k → row_offset dictionary_rows k ≡ store_size
rows_end k h = omega (arith, ends dictionary_rows k (omega (arith, rows_length)), rows_size)

span : {a b c d : ℕ} → a ≡ c → b ≡ d → ◌≡◌ {A = RowOffsetAndMaxLength} (record { at = a; most = b })
    (record { at = c; most = d })
span p q = rw (p, q)

-- a row's place starts inside the store, or at its end, and its greatest length fits a byte
place_range : (k : ℕ) → (row_offset dictionary_rows k ≤ store_size) × ((row_at k).greatest ≤ 254)
place_range k =
    elim (le-or-gt row_count k) [
      | inl h ↦ (omega (arith, rows_end k h), omega (arith, beyond (λ r. r.greatest) k h))
      | inr h ↦ let i = row_inside k h in (omega arith, i.1)
    ]

-- a row's number taken apart: its place
pub row_placed : (k n : ℕ) (s : RowOffsetAndMaxLength) → n ≡ packed_row_offset_and_max_length k
    → s ≡ unpacked_row_offset_and_max_length n → (s ≡ row_offset_and_max_length k) × (s.at ≤ store_size)
row_placed k n s e u =
    let i = place_range k in
    let w : s ≡ row_offset_and_max_length k = u ∙ span (omega arith) (omega arith) in
    let o = ap (λ (p : RowOffsetAndMaxLength). p.at) w in
    (w, omega arith)

-- past the last row it is the store's end
pub past_last : (k : ℕ) → row_count ≤ k → store_size * 256 ≡ packed_row_offset_and_max_length k
past_last k h = omega (arith, rows_end k h, beyond (λ r. r.greatest) k h)

-- a value that fits its row, in a store of the dictionary's size
pub fits_row : (b : List ℕ) (k : ℕ) (v : List ℕ) → length b ≡ store_size → k < row_count → length v ≤ (row_at k).greatest
    → Fits dictionary_rows b k v
fits_row b k v s h g = record { row = omega (arith, rows_length); value = g; store = omega (arith, rows_size) }

-- ---- no bytes are present: by the length byte

rows_roomy : every (λ r. leb 1 r.greatest) dictionary_rows ≡ true
unfolding dictionary_rows every both
rows_roomy = refl

module _ (b : List ℕ) (k : ℕ) (s : length b ≡ store_size) (h : k < row_count) where
  value_length : length (bytes_or_empty_if_absent (row_value dictionary_rows b k))
      ≡ min (get_or b (row_offset dictionary_rows k) 0 - 1) (row_at k).greatest
  unfolding stored_length
  value_length =
      let i = row_inside k h in
      let n = min (get_or b (row_offset dictionary_rows k) 0 - 1) (row_at k).greatest in
      let fit : n ≤ length (drop (row_offset dictionary_rows k + 1) b) = simp length-drop (omega arith) in
      ap length (value_bytes dictionary_rows b k (omega arith)) ∙ ap
      (λ (m : ℕ). length (take (min (m - 1) (row_at k).greatest) (drop (row_offset dictionary_rows k + 1) b)))
      (length_byte_at dictionary_rows b k)
      ∙ length-take-le n (drop (row_offset dictionary_rows k + 1) b) fit

  pub free_yes : get_or b (row_offset dictionary_rows k) 0 ≤ 1 → is_row_absent_or_empty dictionary_rows b k ≡ true
  free_yes e = eq-eqb _ _ (value_length ∙ omega arith)

  pub free_no : 1 < get_or b (row_offset dictionary_rows k) 0 → is_row_absent_or_empty dictionary_rows b k ≡ false
  free_no e =
      let g : 1 ≤ (row_at k).greatest = leb-true _ _ (at (λ r. leb 1 r.greatest) dictionary_rows blank_row rows_roomy k
      (omega (arith, rows_length))) in
      ne_eqb _ _ (λ (z : length (bytes_or_empty_if_absent (row_value dictionary_rows b k)) ≡ 0). omega (arith, value_length))
