-- `reading::read_both` meets its contract: each reader's promises, and that the readings have the same number and count
-- (proofs/Both).
-- Assumes nothing.
use Rattle.reading.specs.Both.{ReadAnswerPromises}
use Rattle.reading.proofs.Both.{agree}
use Rattle.reading.proofs.read_both.Goals as goal

pub returns : goal.returns
returns c =
    let a = c.args in
    let r : ReadAnswerPromises a.awaited a.answer.now a.recursive.now c.read_answer-first.result
    c.read_answer-first.new.store = let e = c.read_answer-first.ensures in
    record { given = e.given; sized = c.read_answer-first.array_long; half = e.half; tree = e.tree } in
    let f : ReadAnswerPromises a.awaited a.answer.now a.flat.now c.read_answer-second.result
    c.read_answer-second.new.store = let e = c.read_answer-second.ensures in
    record { given = e.given; sized = c.read_answer-second.array_long; half = e.half; tree = e.tree } in
    record { recursive = r; flat = f; same = agree r f }
