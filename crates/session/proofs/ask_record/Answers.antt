-- `session::ask_record` meets its contract: the record's file has five bits and the buffer is long enough, so the
-- command is written.
-- Assumes nothing.
use mathlib.Core.Path.{ap}
use native.Mathlib.Omega.{arith}
use Rattle.command.proofs.ReadRecord.{wrote_yes}
use Rattle.session_record.specs.declared.AwaitedResponse.{AwaitedResponse}
use Rattle.session.specs.declared.NextStep.{NextStep}
use Rattle.session.proofs.ask_record.Goals as goal

pub returns : goal.returns
returns c = let a = c.args in
    let w = wrote_yes _ _ a.wanted a.command.now (c.read_record-size.ensures.said, c.read_record-size.ensures.kept) (omega arith)
    c.requires in record { transition = ap (NextStep.Command (AwaitedResponse.Record a.place)) w.0; buffer = w.1 }
