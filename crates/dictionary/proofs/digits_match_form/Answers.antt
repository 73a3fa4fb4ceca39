-- `dictionary::digits_match_form` meets its contract: by the form. Assumes nothing.
use Rattle.std.proofs.Common.{sym, ◌∙◌}
use native.Mathlib.Omega.{arith}
use Rattle.dictionary.proofs.Digits.{numeric_is}
use Rattle.dictionary.proofs.Fit.{form_n_lem, form_cn_lem, form_b_lem}
use Rattle.dictionary.proofs.digits_match_form.Goals as goal

pub returns-in-1 : goal.returns-in-1
returns-in-1 c = c.is_numeric.ensures ∙ sym (form_n_lem _ c.in-1.is ∙ numeric_is _)

pub returns-in-2 : goal.returns-in-2
returns-in-2 c = c.is_compressed.ensures ∙ sym (form_cn_lem _ (omega arith) c.in-2.is)

pub returns-in_default : goal.returns-in_default
returns-in_default c = sym (form_b_lem _ (omega arith) (omega arith))
