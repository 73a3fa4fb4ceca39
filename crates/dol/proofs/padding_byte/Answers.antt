-- `padding_byte`: by the form.
-- Assumes nothing.
use mathlib.Core.Path.{sym}
use borrow.Author.Tests.{eq-eqb, ne_eqb}
use Rattle.basics.proofs.Laws.{if_yes, if_no}
use Rattle.dol.specs.Filling.{padding_byte}
use Rattle.dol.proofs.padding_byte.Goals as goal

pub returns-then-form-eq-FORM_CN : goal.returns-then-form-eq-FORM_CN
unfolding padding_byte
returns-then-form-eq-FORM_CN c = sym (if_yes _ _ (eq-eqb c.args.form 2 c.if-form-eq-FORM_CN.true))

pub returns-else-form-eq-FORM_CN : goal.returns-else-form-eq-FORM_CN
unfolding padding_byte
returns-else-form-eq-FORM_CN c = sym (if_no _ _ (ne_eqb c.args.form 2 c.if-form-eq-FORM_CN.false))
