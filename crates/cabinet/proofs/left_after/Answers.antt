-- `cabinet::left_after` meets its contract, outcome by outcome.
-- Assumes nothing.
use mathlib.Core.Path.{sym, ap}
use Rattle.session_record.specs.declared.Outcome.{Outcome}
use Rattle.cabinet.specs.Calls.{remaining_after_outcome}
use Rattle.cabinet.proofs.left_after.Goals as goal

pub returns-in-OnlineRequest : goal.returns-in-OnlineRequest
returns-in-OnlineRequest c = let a = c.args.amounts in
    sym (ap (λ (o : Outcome). remaining_after_outcome o a.remaining a.reserved) c.in-OnlineRequest.is)

pub returns-in-Declined : goal.returns-in-Declined
returns-in-Declined c = let a = c.args.amounts in
    sym (ap (λ (o : Outcome). remaining_after_outcome o a.remaining a.reserved) c.in-Declined.is)

pub returns-in-Ended : goal.returns-in-Ended
returns-in-Ended c = let a = c.args.amounts in
    sym (ap (λ (o : Outcome). remaining_after_outcome o a.remaining a.reserved) c.in-Ended.is)

pub returns-in-SelectNext : goal.returns-in-SelectNext
returns-in-SelectNext c = let a = c.args.amounts in
    sym (ap (λ (o : Outcome). remaining_after_outcome o a.remaining a.reserved) c.in-SelectNext.is)
