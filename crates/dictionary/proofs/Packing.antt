-- A row's number taken apart gives the row back: one test over the whole table, and what it says at each row.
-- Assumes nothing.
use mathlib.Core.Path.{◌≡◌, refl}
use mathlib.Core.Bool.{Bool, true}
use Prim.Native.Nat.{ℕ, ◌/◌, ◌%◌, ◌≤◌, ◌<◌}
use lib.Dec.{eqb}
use lib.ListN.{length, get_or-eq_default}
use borrow.Author.Tests.{eqb-true}
use Rattle.basics.specs.Choice.{both, every}
use Rattle.basics.proofs.Laws.{both_left, both_right}
use Rattle.basics.proofs.Table.{at}
use Rattle.dictionary.specs.declared.RowAttributes.{RowAttributes}
use Rattle.dictionary.specs.Rows.{Row, dictionary_rows, blank_row, row_in}
use Rattle.dictionary.specs.Packing.{attributes_of, packed_row_attributes, unpacked_row_attributes}

-- the test at a row: each column comes back out of the number
unpacks : Row → Bool
unpacks r =
    let n = packed_row_attributes r in
    both (eqb (n % 256) r.least)
    (both (eqb (n / 256 % 256) r.greatest)
    (both (eqb (n / 65536 % 4) r.form)
    (both (eqb (n / 262144 % 8) r.setters)
    (both (eqb (n / 2097152 % 64) r.templates)
    (both (eqb (n / 134217728 % 16) r.answers)
    (eqb (n / 2147483648 % 2) r.must))))))

-- this table passes it
rows_unpack : every unpacks dictionary_rows ≡ true
unfolding unpacks dictionary_rows every both
rows_unpack = refl

abbrev made : ℕ → ℕ → ℕ → ℕ → ℕ → ℕ → ℕ → RowAttributes
made a g f s t w m = record { least = a; greatest = g; form = f; setters = s; templates = t; answers = w; must = m }

equal : {a b c d e f g a' b' c' d' e' f' g' : ℕ} → a ≡ a' → b ≡ b' → c ≡ c' → d ≡ d' → e ≡ e' → f ≡ f' → g ≡ g'
    → made a b c d e f g ≡ made a' b' c' d' e' f' g'
equal p q r s t u v = rw (p, q, r, s, t, u, v)

row_unpacks : (r : Row) → unpacks r ≡ true → unpacked_row_attributes (packed_row_attributes r) ≡ attributes_of r
unfolding unpacks
row_unpacks r t =
    let greatest = both_right _ _ t in
    let form = both_right _ _ greatest in
    let setters = both_right _ _ form in
    let templates = both_right _ _ setters in
    let answers = both_right _ _ templates in
    equal (eqb-true _ _ (both_left _ _ t)) (eqb-true _ _ (both_left _ _ greatest)) (eqb-true _ _ (both_left _ _ form))
    (eqb-true _ _ (both_left _ _ setters)) (eqb-true _ _ (both_left _ _ templates))
    (eqb-true _ _ (both_left _ _ answers)) (eqb-true _ _ (both_right _ _ answers))

-- every row's attributes are in its number
pub code_unpacks : (k : ℕ) → k < length dictionary_rows
    → unpacked_row_attributes (packed_row_attributes (row_in dictionary_rows k)) ≡ attributes_of (row_in dictionary_rows k)
code_unpacks k h = row_unpacks (row_in dictionary_rows k) (at unpacks dictionary_rows blank_row rows_unpack k h)

-- past the last row the number is 0
pub code_unpacks_beyond : (k : ℕ) → length dictionary_rows ≤ k
    → unpacked_row_attributes (packed_row_attributes (row_in dictionary_rows k)) ≡ attributes_of (row_in dictionary_rows k)
code_unpacks_beyond k h = rw (get_or-eq_default dictionary_rows blank_row h)
