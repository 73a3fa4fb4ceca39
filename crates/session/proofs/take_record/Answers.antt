-- `session::take_record` meets its contract: the record that was requested, then the reading, accepted or not.
-- Assumes nothing.
use Rattle.std.specs.Prelude.{Option}
use Rattle.afl.specs.declared.CardRecord.{CardRecord}
use mathlib.Core.Path.{◌≡◌, ap, ◌∙◌}
use mathlib.Core.List.{List}
use Rattle.afl.specs.Records.{kth_record_of_accepted_afl}
use Rattle.reading.specs.declared.Awaited.{Awaited}
use Rattle.analysis.specs.Cvm.{cvm_number_not_applicable}
use Rattle.session_record.specs.declared.AwaitedRecord.{AwaitedRecord}
use Rattle.session_record.specs.Ranges.{stored_afl}
use Rattle.session.specs.Answer.{next_on_response_for_record_found, next_after_record_read, next_on_record_response}
use Rattle.session.proofs.Laws.{did_next, did_end, found_as, read_goes, read_ends}
use Rattle.session.proofs.take_record.Goals as goal
use Prim.Native.Nat.{ℕ}

-- the record that was requested decides how its answer is read
asked : (p : AwaitedRecord) (b card : List ℕ) {x : Option CardRecord} → kth_record_of_accepted_afl (stored_afl b) p.number ≡ x
    → next_on_record_response p b card ≡ next_on_response_for_record_found p b card x
unfolding next_on_record_response
asked p b card e = ap (next_on_response_for_record_found p b card) e

pub returns-in_default : goal.returns-in_default
returns-in_default c =
    let a = c.args in
    did_end c.end_for.ensures
    (asked a.place a.store.now a.card.now
    (found_as c.kth_record_of_accepted_afl.ensures c.in_default.is _ _ c.value-entries.ensures c.from.ensures))

pub returns-in_default-verdict : goal.returns-in_default-verdict
returns-in_default-verdict c =
    let a = c.args in
    did_end
    c.fail_reading.ensures
    (asked a.place a.store.now a.card.now
    (found_as c.kth_record_of_accepted_afl.ensures c.in-Some.is _ _ c.value-entries.ensures c.from.ensures)
    ∙ read_ends (Awaited.Record (record { number = c.in-Some.asked.sfi })) cvm_number_not_applicable a.store.now a.card.now
    (next_after_record_read a.place) c.read_answer-verdict.ensures.given c.in_default-verdict.not-Accepted)

pub returns : goal.returns
returns c =
    let a = c.args in
    did_next
    (asked a.place a.store.now a.card.now
    (found_as c.kth_record_of_accepted_afl.ensures c.in-Some.is _ _ c.value-entries.ensures c.from.ensures)
    ∙ read_goes (Awaited.Record (record { number = c.in-Some.asked.sfi })) cvm_number_not_applicable a.store.now a.card.now
    (next_after_record_read a.place) c.read_answer-verdict.ensures.given c.in-Accepted.is)
    c.ask_next_record.ensures
