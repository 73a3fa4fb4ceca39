-- `reading::judge_listed` meets its contract: decided without the objects, or by what is said of them (proofs/Stages).
-- Assumes nothing.
use Rattle.reading.proofs.Stages.{decided_given, refused_given, accepted_given}
use Rattle.reading.proofs.judge_listed.Goals as goal

pub returns-in-Err-clause-given : goal.returns-in-Err-clause-given
returns-in-Err-clause-given c = decided_given _ _ _ _ c.args.items.now _ c.in-Err.is

pub returns-in-Err-judge_items-clause-given : goal.returns-in-Err-judge_items-clause-given
returns-in-Err-judge_items-clause-given c =
    let r = c.pending_reading-in-Err-judge_items.ensures in
    refused_given _ _ _ _ _ _ c.in-Ok.is (rw (c.in-Err-judge_items.is, c.answer_bit.ensures.value) at c.judge_items.ensures)
    r.0
    r.1

pub returns-in-Ok-judge_items-clause-given : goal.returns-in-Ok-judge_items-clause-given
returns-in-Ok-judge_items-clause-given c =
    let r = c.pending_reading.ensures in
    let j = rw (c.in-Ok-judge_items.is, c.answer_bit.ensures.value) at c.judge_items.ensures in
    accepted_given _ _ _ _ _ _ c.in-Ok.is _ j.0 r.0 r.1
