-- What a store holds of a tag, as facts on its value: absent, there, zero, and of a length that its row allows.
-- Assumes nothing.
use Rattle.std.specs.Prelude.{Some}
use mathlib.Core.Path.{◌≡◌, refl, ap, subst, ◌∙◌}
use mathlib.Core.Bool.{true, not}
use mathlib.Core.List.{List, [], ◌∷◌}
use Prim.Native.Nat.{ℕ, zero, suc, ◌≤◌, ◌<◌}
use native.Mathlib.Omega.{arith}
use lib.ListN.{length, replicate}
use borrow.Author.Tests.{eq-eqb, eqb-true}
use Rattle.basics.specs.Choice.{every}
use Rattle.basics.proofs.Laws.{both_yes, both_left, both_right}
use Rattle.dictionary.specs.Rows.{dictionary_rows, row_at, find_row, required_at_start}
use Rattle.dictionary.specs.Named.{row_tvr}
use Rattle.dictionary.specs.Form.{length_and_digits_fit_row}
use Rattle.dictionary.proofs.Find.{found}
use Rattle.dictionary.proofs.Fit.{fits_length}
use Rattle.dictionary.proofs.Named.{at_95}
use Rattle.store.specs.Place.{StoredValue, absent, present, bytes_or_empty_if_absent, is_present, object_value}
use Rattle.store.specs.Held.{has_object, lacks_object, stored_bytes, is_zero_byte, is_object_zero_or_absent}
use Rattle.session_record.specs.Ranges.{absent_or_length_and_digits_fit_row, zero_tvr}
use Rattle.session_record.proofs.Clauses.{AllObjectsFit, RunningClauses}
use Rattle.store.proofs.Rows.{rows_length}

-- ---- there or absent

pub absent_of : (x : StoredValue) → not (is_present x) ≡ true → x ≡ absent
absent_of absent e = refl
absent_of (present v) e = cc

pub present_of : (x : StoredValue) → is_present x ≡ true → x ≡ present (bytes_or_empty_if_absent x)
present_of absent e = cc
present_of (present v) e = refl

-- a value that has bytes is there
pub bytes_there : (x : StoredValue) → 0 < length (bytes_or_empty_if_absent x) → is_present x ≡ true
bytes_there absent h = absurd (omega arith)
bytes_there (present v) h = refl

pub is_lacking : (b : List ℕ) (t : ℕ) → object_value b t ≡ absent → lacks_object b t ≡ true
is_lacking b t e = ap (λ (x : StoredValue). not (is_present x)) e

-- ---- zeros

pub zeros_of : (v : List ℕ) → every is_zero_byte v ≡ true → v ≡ replicate (length v) 0
unfolding every
zeros_of [] e = refl
zeros_of (x ∷ v) e =
    let z : x ≡ 0 = eqb-true x 0 (both_left _ _ e) in
    rw z (ap (λ (l : List ℕ). 0 ∷ l) (zeros_of v (both_right _ _ e)))

pub zeros_are : (n : ℕ) → every is_zero_byte (replicate n 0) ≡ true
unfolding every
zeros_are zero = refl
zeros_are (suc n) = both_yes _ _ (eq-eqb 0 0 refl) (zeros_are n)

-- ---- lengths

module _ (b : List ℕ) (f : AllObjectsFit b) (t k : ℕ) (e : find_row dictionary_rows t ≡ Some k) where
  -- the value of a tag fits its row
  pub value_fits : absent_or_length_and_digits_fit_row (row_at k) (object_value b t) ≡ true
  value_fits =
      let w = found dictionary_rows t k e in
      subst (λ (n : ℕ). absent_or_length_and_digits_fit_row (row_at k) (object_value b n) ≡ true) w.1
      (f k (omega (arith, rows_length))).value

  -- an object that is present has a length that its row allows
  pub held_length : has_object b t ≡ true → ((row_at k).least ≤ length (stored_bytes b t))
      × (length (stored_bytes b t) ≤ (row_at k).greatest)
  held_length h = go (object_value b t) h value_fits
    where
      go : (x : StoredValue) → is_present x ≡ true → absent_or_length_and_digits_fit_row (row_at k) x ≡ true
          → ((row_at k).least ≤ length (bytes_or_empty_if_absent x)) × (length (bytes_or_empty_if_absent x) ≤ (row_at k).greatest)
      go absent p q = let z : ◌≡◌ {A = ℕ} 0 1 = cc in absurd (omega arith)
      go (present v) p q = fits_length (row_at k) v q

  -- and its bytes fit
  pub held_fits : has_object b t ≡ true → length_and_digits_fit_row (row_at k) (stored_bytes b t) ≡ true
  held_fits h = go (object_value b t) h value_fits
    where
      go : (x : StoredValue) → is_present x ≡ true → absent_or_length_and_digits_fit_row (row_at k) x ≡ true
          → length_and_digits_fit_row (row_at k) (bytes_or_empty_if_absent x) ≡ true
      go absent p q = cc
      go (present v) p q = q

-- what a start must bring is present
pub brought_there : (b : List ℕ) → RunningClauses b → (t k : ℕ) → find_row dictionary_rows t ≡ Some k
    → (row_at k).must ≡ required_at_start → has_object b t ≡ true
brought_there b r t k e m =
    let w = found dictionary_rows t k e in
    subst (λ (n : ℕ). has_object b n ≡ true) w.1 (r.brought k (omega (arith, rows_length)) m)

-- five bytes in 95
results_length : (row_at row_tvr).least ≡ 5
unfolding dictionary_rows
results_length = refl

results_most : (row_at row_tvr).greatest ≡ 5
unfolding dictionary_rows
results_most = refl

pub results_five : (b : List ℕ) → AllObjectsFit b → has_object b 0x95 ≡ true → length (stored_bytes b 0x95) ≡ 5
results_five b f h = omega (arith, held_length b f 0x95 row_tvr at_95 h, results_length, results_most)

-- 95 that is present and zero
pub zero_results : (b : List ℕ) → AllObjectsFit b → has_object b 0x95 ≡ true → is_object_zero_or_absent b 0x95 ≡ true
    → object_value b 0x95 ≡ present zero_tvr
zero_results b f h z =
    present_of (object_value b 0x95) h
    ∙ ap present (zeros_of (stored_bytes b 0x95) z ∙ ap (λ (n : ℕ). replicate n 0) (results_five b f h))

pub results_zero : (b : List ℕ) → object_value b 0x95 ≡ present zero_tvr → is_object_zero_or_absent b 0x95 ≡ true
results_zero b e = ap (λ (x : StoredValue). every is_zero_byte (bytes_or_empty_if_absent x)) e ∙ zeros_are 5
