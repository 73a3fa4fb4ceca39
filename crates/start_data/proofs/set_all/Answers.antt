-- `start_data::set_all` meets its contract: an object that may not be set, one that is absent, or all set.
-- Assumes nothing.
use mathlib.Core.Path.{sym, ap, ◌∙◌}
use Rattle.basics.proofs.Laws.{if_yes, if_no}
use Rattle.start_data.specs.StartData.{loaded_after_setting}
use Rattle.start_data.proofs.Setting.{was_ok}
use Rattle.start_data.proofs.Ways.{reports_absent, reports_taken}
use Rattle.start_data.proofs.set_all.Goals as goal

pub returns-then-not-all_required_at_start_present : goal.returns-then-not-all_required_at_start_present
returns-then-not-all_required_at_start_present c =
    reports_absent _ (ap loaded_after_setting (was_ok _ c.set_objects.ensures c.in_ok-set_objects.was)
    ∙ if_no _ _ (sym c.all_required_at_start_present.ensures ∙ c.if-not-all_required_at_start_present.true))

pub returns : goal.returns
returns c =
    reports_taken (ap loaded_after_setting (was_ok _ c.set_objects.ensures c.in_ok-set_objects.was)
    ∙ if_yes _ _ (sym c.all_required_at_start_present.ensures ∙ c.if-not-all_required_at_start_present.false))
