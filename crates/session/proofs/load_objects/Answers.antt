-- `session::load_objects` meets its contract: a loading is refused or taken, and each has its law.
-- Assumes nothing.
use native.Mathlib.Omega.{arith}
use Rattle.session.proofs.Laws.{did_as, did_without_command, did_step, results_fit, loading_refused, loading_taken}
use Rattle.session.specs.Start.{request_gpo}
use Rattle.session.proofs.load_objects.Goals as goal

pub returns-in-Err : goal.returns-in-Err
returns-in-Err c =
    let a = c.args in
    did_without_command _ c.refuse_call.ensures (loading_refused a.count a.store.now _ _ c.load.ensures c.in-Err.is)

pub put-requires : goal.put-requires
put-requires c = (omega arith, omega (arith, results_fit))

pub returns : goal.returns
returns c =
    let a = c.args in
    did_as (loading_taken a.count a.store.now _ _ c.load.ensures c.in_default.is c.put.ensures)
    (did_step a.count (request_gpo c.put.new.bytes) c.transition_of.ensures c.ask_gpo.ensures)
