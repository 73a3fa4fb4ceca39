-- `start_data::set_object` meets its contract. One law for each way the object goes.
-- Assumes nothing.
use Rattle.std.specs.Prelude.{Some}
use mathlib.Core.Path.{refl, sym, ap, ◌∙◌}
use Rattle.dictionary.specs.Rows.{row_at}
use Rattle.dictionary.proofs.Fit.{fits_length}
use Rattle.dictionary.proofs.Lent.{row-found}
use Rattle.tlv.specs.Primitives.{tlv_object}
use Rattle.start_data.proofs.Setting.{set_unknown, set_taken, set_refused, settable_fits, says_set, says_not}
use Rattle.start_data.proofs.set_object.Goals as goal

pub returns-in_default : goal.returns-in_default
returns-in_default c = let a = c.args in
    says_set (set_unknown a.store.now (tlv_object a.tag a.v.now) _ c.find_row.ensures.found c.in_default.is) refl

pub is_settable-requires : goal.is_settable-requires
is_settable-requires c = row-found c.args.tag (sym c.find_row.ensures.found ∙ c.in-Some.is)

pub returns-then-not-is_settable : goal.returns-then-not-is_settable
returns-then-not-is_settable c = let a = c.args in (
  says_not _ (set_refused a.store.now (tlv_object a.tag a.v.now) _ c.find_row.ensures.found c.in-Some.row c.in-Some.is
      (sym c.is_settable.ensures ∙ c.if-not-is_settable.true)) refl,
  refl,
)

pub put-requires : goal.put-requires
put-requires c = let a = c.args in
    let fit = fits_length (row_at c.in-Some.row) a.v.now
    (settable_fits a.store.now c.in-Some.row (tlv_object a.tag a.v.now)
    (sym c.is_settable.ensures ∙ c.if-not-is_settable.false)) in
    (row-found a.tag (sym c.find_row.ensures.found ∙ c.in-Some.is), fit.1)

pub returns : goal.returns
returns c =
    let a = c.args in
    let taken = set_taken a.store.now (tlv_object a.tag a.v.now) _ c.find_row.ensures.found c.in-Some.row c.in-Some.is
    (sym c.is_settable.ensures ∙ c.if-not-is_settable.false) in
    says_set (taken ∙ ap Some (sym c.put.ensures)) refl
