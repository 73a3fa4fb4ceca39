-- `form_and_value`: one law of the entry's bytes for each thing that its tag can be.
-- Assumes nothing.
use mathlib.Core.Path.{sym, ap, ◌∙◌}
use Rattle.dictionary.specs.declared.RowAttributes.{RowAttributes}
use Rattle.dictionary.specs.Rows.{dictionary_rows}
use Rattle.dictionary.proofs.Lent.{row-found}
use Rattle.store.specs.Place.{absent, present}
use Rattle.dol.proofs.Filling.{of_template, of_unknown, by_value}
use Rattle.dol.proofs.form_and_value.Goals as goal

pub returns-then-is_template : goal.returns-then-is_template
returns-then-is_template c = of_template dictionary_rows _ _ (sym c.is_template.ensures ∙ c.if-is_template.true)

pub returns-in_err-row : goal.returns-in_err-row
returns-in_err-row c =
    rw c.from_residual.ensures (of_unknown dictionary_rows _ _ (sym c.is_template.ensures ∙ c.if-is_template.false)
    (sym c.find_row.ensures.found ∙ c.in_err-row.was))

pub returns-in_err-v : goal.returns-in_err-v
returns-in_err-v c =
    rw c.from_residual-in_err-v.ensures
    (by_value dictionary_rows _ _ _ (sym c.is_template.ensures ∙ c.if-is_template.false)
    (sym c.find_row.ensures.found ∙ c.in_ok-row.was) absent (sym c.in_err-v.ensures))

pub attributes_of-requires : goal.attributes_of-requires
attributes_of-requires c = row-found c.args.entry.tag (sym c.find_row.ensures.found ∙ c.in_ok-row.was)

pub returns : goal.returns
returns c =
    rw (ap (λ (x : RowAttributes). x.form) c.attributes_of.ensures)
    (by_value dictionary_rows _ _ _ (sym c.is_template.ensures ∙ c.if-is_template.false)
    (sym c.find_row.ensures.found ∙ c.in_ok-row.was) (present c.in_ok-v.v.now) (sym c.in_ok-v.ensures))
