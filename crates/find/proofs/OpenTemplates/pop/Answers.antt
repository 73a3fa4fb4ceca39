-- `find::OpenTemplates::pop` meets its contract: the innermost end goes, and the others stay.
-- Assumes nothing.
use mathlib.Core.Path.{◌≡◌}
use native.Mathlib.Omega.{arith}
use Rattle.find.proofs.Steps.{ends_none, ends_pop}
use Rattle.find.proofs.OpenTemplates.pop.Goals as goal

pub returns-in_err-self : goal.returns-in_err-self
returns-in_err-self c =
    let z : c.args.self.now.depth ≡ 0 = omega arith in
    rw c.from_residual.ensures (rw z (ends_none _))

pub returns : goal.returns
returns c = ends_pop _ _ _ (omega arith)
