-- `session::analyse` meets its contract: what is found is chosen on and stored; `analysed_as` puts it together.
-- Assumes nothing.
use native.Mathlib.Omega.{arith}
use Rattle.session.proofs.Laws.{did_next, cvm_fits, results_fit, analysed_as}
use Rattle.session.proofs.analyse.Goals as goal

pub put-requires : goal.put-requires
put-requires c = (omega arith, omega (arith, cvm_fits))

pub put-requires-2 : goal.put-requires-2
put-requires-2 c = (omega arith, omega (arith, results_fit))

pub returns : goal.returns
returns c =
    let a = c.args in
    did_next (analysed_as a.store.now a.limit c.findings_of-found.ensures.findings
    c.choice_for_tvr-choice.ensures.choice c.put.ensures c.put-2.ensures)
    c.ask_cryptogram.ensures
