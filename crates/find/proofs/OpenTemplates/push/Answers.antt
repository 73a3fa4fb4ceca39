-- `find::OpenTemplates::push` meets its contract: the new end is the innermost, and the others stay.
-- Assumes nothing.
use mathlib.Core.Path.{◌∙◌}
use native.Mathlib.Omega.{arith}
use Rattle.find.proofs.Steps.{ends_length, ends_push}
use Rattle.find.proofs.OpenTemplates.push.Goals as goal

pub returns-then-self-eq-LEVELS : goal.returns-then-self-eq-LEVELS
returns-then-self-eq-LEVELS c = ends_length _ _ ∙ c.if-self-eq-LEVELS.true

pub returns : goal.returns
returns c = let l = ends_length c.args.self.now.ends c.args.self.now.depth in (omega arith, ends_push _ _ _ (omega arith))
