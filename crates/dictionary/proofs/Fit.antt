-- What fits a row: the length first, then the digits by the row's form. Assumes nothing.
use mathlib.Core.Path.{◌≡◌, ap, ◌∙◌}
use mathlib.Core.Bool.{Bool, true, false}
use mathlib.Core.List.{List}
use Prim.Native.Nat.{ℕ, ◌≤◌, ◌<◌}
use lib.ListN.{length}
use borrow.Author.Tests.{le-leb, lt-leb, eq-eqb, ne_eqb, leb-true}
use Rattle.basics.proofs.Laws.{if_yes, if_no, both_true, both_left, both_right, both_no_left}
use Rattle.dictionary.specs.declared.RowAttributes.{RowAttributes}
use Rattle.dictionary.specs.Rows.{Row, form_n, form_cn}
use Rattle.dictionary.specs.Packing.{attributes_of, row_with_attributes_and_tag_zero}
use Rattle.dictionary.specs.Form.{length_and_digits_fit_row, digits_match_form, is_numeric, is_compressed_numeric}

-- a value that fits is neither too short nor too long
pub fits_length : (r : Row) (v : List ℕ) → length_and_digits_fit_row r v ≡ true
    → (r.least ≤ length v) × (length v ≤ r.greatest)
unfolding length_and_digits_fit_row
fits_length r v e = (leb-true _ _ (both_left _ _ e), leb-true _ _ (both_left _ _ (both_right _ _ e)))

-- what fits a row's attributes fits the row
pub row_fits : (x : Row) (v : List ℕ) {r : Bool} {a : RowAttributes}
    → r ≡ length_and_digits_fit_row (row_with_attributes_and_tag_zero a) v → a ≡ attributes_of x → r ≡ length_and_digits_fit_row x v
unfolding length_and_digits_fit_row
row_fits x v e f = e ∙ ap (λ (z : RowAttributes). length_and_digits_fit_row (row_with_attributes_and_tag_zero z) v) f

module _ (r : Row) (v : List ℕ) where
  pub too_short : length v < r.least → length_and_digits_fit_row r v ≡ false
  unfolding length_and_digits_fit_row
  too_short h = both_no_left _ _ (lt-leb _ _ h)

  -- where the length is in range, the form decides
  pub by_form : r.least ≤ length v → length v ≤ r.greatest → length_and_digits_fit_row r v ≡ digits_match_form r.form v
  unfolding length_and_digits_fit_row
  by_form a h = both_true _ (le-leb _ _ a) ∙ both_true _ (le-leb _ _ h)

module _ {f : ℕ} (v : List ℕ) where
  pub form_n_lem : f ≡ form_n → digits_match_form f v ≡ is_numeric v
  unfolding digits_match_form
  form_n_lem e = if_yes _ _ (eq-eqb _ _ e)

  pub form_cn_lem : (f ≡ form_n → ⊥) → f ≡ form_cn → digits_match_form f v ≡ is_compressed_numeric v
  unfolding digits_match_form
  form_cn_lem a e = if_no _ _ (ne_eqb _ _ a) ∙ if_yes _ _ (eq-eqb _ _ e)

  pub form_b_lem : (f ≡ form_n → ⊥) → (f ≡ form_cn → ⊥) → digits_match_form f v ≡ true
  unfolding digits_match_form
  form_b_lem a b = if_no _ _ (ne_eqb _ _ a) ∙ if_no _ _ (ne_eqb _ _ b)
