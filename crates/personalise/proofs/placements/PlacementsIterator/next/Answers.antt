-- `Placements` gives the placements of its bytes in order: by how many bytes are left.
-- Assumes nothing.
use mathlib.Core.Path.{ap}
use native.Mathlib.Omega.{arith}
use lib.ListN.{length}
use Rattle.personalise.proofs.Placed.{one_more, two_more, none_left}
use Rattle.personalise.proofs.placements.PlacementsIterator.next.Goals as goal

pub returns-in_err-into-clause-steps : goal.returns-in_err-into-clause-steps
returns-in_err-into-clause-steps c =
    let n = none_left _ c.in_err-into.ensures.cases in
    rw c.from_residual.ensures (n, n)

pub returns-in-Some : goal.returns-in-Some
returns-in-Some c =
    let e = two_more _ _ _ _ _ c.in_ok-into.ensures.cases.0 c.in-Some.ensures.cases.0 in
    let l = ap length e in
    record { steps = e; goes = record { on = λ f. (tt, tt, omega arith); keeps = tt; rests = λ f. tt } }

pub returns-in-None : goal.returns-in-None
returns-in-None c =
    let e = one_more _ _ _ c.in_ok-into.ensures.cases.0 c.in-None.ensures.cases in
    let l = ap length e in
    record { steps = e; goes = record { on = λ f. (tt, tt, omega arith); keeps = tt; rests = λ f. tt } }
