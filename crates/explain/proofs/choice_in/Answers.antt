-- `explain::choice_in` meets its contract: the choice on the stored TVR. Assumes nothing.
use mathlib.Core.Path.{ap, ◌∙◌}
use Rattle.analysis.specs.Action.{choice_for_tvr}
use Rattle.explain.proofs.choice_in.Goals as goal

pub returns : goal.returns
returns c = c.choice_for_tvr.ensures.choice ∙ ap (choice_for_tvr c.args.bytes.now)
    c.result_in.ensures
