-- `start_data::is_settable` meets its contract. One test after the other, in the definition's order.
-- Assumes nothing.
use mathlib.Core.Path.{◌≡◌, sym, ap, ◌∙◌}
use mathlib.Core.Bool.{Bool, not}
use Rattle.basics.specs.Number.{has_bit_of_weight}
use Rattle.basics.proofs.Laws.{both_true, both_no_left}
use Rattle.dictionary.proofs.Fit.{row_fits}
use Rattle.dictionary.specs.declared.RowAttributes.{RowAttributes}
use Rattle.start_data.specs.StartData.{start_may_set_object_in_row}
use Rattle.start_data.proofs.is_settable.Goals as goal

-- what is said of attributes that are a row's is said of the row
start-bit : {a b : RowAttributes} {r y : Bool} → a ≡ b → r ≡ has_bit_of_weight a.setters 1 → r ≡ y → has_bit_of_weight b.setters 1 ≡ y
start-bit e p q = sym (ap (λ (x : RowAttributes). has_bit_of_weight x.setters 1) e) ∙ sym p ∙ q

pub returns-then-not-may_be_set_by : goal.returns-then-not-may_be_set_by
unfolding start_may_set_object_in_row
returns-then-not-may_be_set_by c =
    sym (both_no_left _ _ (start-bit c.attributes_of-attributes.ensures c.may_be_set_by.ensures c.if-not-may_be_set_by.true))

pub returns-then-not-length_and_digits_fit_row : goal.returns-then-not-length_and_digits_fit_row
unfolding start_may_set_object_in_row
returns-then-not-length_and_digits_fit_row c =
    let e = c.attributes_of-attributes.ensures in
    sym (both_true _ (start-bit e c.may_be_set_by.ensures c.if-not-may_be_set_by.false) ∙ both_no_left _ _
    (sym (row_fits _ _ c.length_and_digits_fit_row.ensures e) ∙ c.if-not-length_and_digits_fit_row.true))

pub returns-then-is_present : goal.returns-then-is_present
unfolding start_may_set_object_in_row
returns-then-is_present c =
    let e = c.attributes_of-attributes.ensures in
    sym (both_true _ (start-bit e c.may_be_set_by.ensures c.if-not-may_be_set_by.false)
    ∙ both_true _ (sym (row_fits _ _ c.length_and_digits_fit_row.ensures e) ∙ c.if-not-length_and_digits_fit_row.false)
    ∙ both_no_left _ _ (ap not (sym c.is_present.ensures ∙ c.if-is_present.true)))

pub returns : goal.returns
unfolding start_may_set_object_in_row
returns c =
    let e = c.attributes_of-attributes.ensures in
    c.is_type_listed.ensures
    ∙ sym (both_true _ (start-bit e c.may_be_set_by.ensures c.if-not-may_be_set_by.false)
    ∙ both_true _ (sym (row_fits _ _ c.length_and_digits_fit_row.ensures e) ∙ c.if-not-length_and_digits_fit_row.false)
    ∙ both_true _ (ap not (sym c.is_present.ensures ∙ c.if-is_present.false)))
