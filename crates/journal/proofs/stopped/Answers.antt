-- `journal::stopped` meets its contract: the call's promise is the step's.
-- Assumes nothing.
use Rattle.step_laws.proofs.EveryCall.{stop_came}
use Rattle.journal.specs.Record.{journal_command_buffer}
use Rattle.journal.proofs.Due.{did_due}
use Rattle.journal.proofs.stopped.Goals as goal

pub returns : goal.returns
returns c = did_due c.args.standing (stop_came _ journal_command_buffer) c.stop-reply.ensures c.due_of.ensures
