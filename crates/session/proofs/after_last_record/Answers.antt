-- `session::after_last_record` meets its contract: the mode decides, and each has its law.
-- Assumes nothing.
use mathlib.Core.Path.{sym, ◌∙◌}
use Rattle.session.proofs.Laws.{did_next, last_emv, last_mag_stripe}
use Rattle.session.proofs.after_last_record.Goals as goal

pub returns-then-is_emv_mode : goal.returns-then-is_emv_mode
returns-then-is_emv_mode c =
    did_next (last_emv _ _ (sym c.is_emv_mode.ensures ∙ c.if-is_emv_mode.true))
    c.emv_mode_analysis.ensures

pub returns : goal.returns
returns c =
    did_next (last_mag_stripe _ _ (sym c.is_emv_mode.ensures ∙ c.if-is_emv_mode.false))
    c.mag_stripe_checks.ensures
