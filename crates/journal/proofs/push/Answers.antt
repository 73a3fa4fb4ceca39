-- `journal::push` meets its contract: the byte set after the part that is held, and the record judged where
-- it is whole.
-- Assumes nothing.
use native.Mathlib.Omega.{arith}
use borrow.Author.Tests.{not-true, not-false}
use lib.ListN.{length, set, length-set}
use Rattle.journal.proofs.Byte.{stays_wrong, stays_length, stays_size, stays_records, holds_more, judges}
use Rattle.journal.proofs.Byte.{record_sized}
use Rattle.journal.proofs.push.Goals as goal
use Rattle.journal.proofs.push.Goals.{then-not-standing-via-then-not-standing, then-not-standing-via-else-not-standing+then-length-ge-START_RECORD, then-not-standing-via-else-not-standing+else-length-ge-START_RECORD+then-standing-gt-COMMAND_RECORD, then-not-standing-via-else-not-standing+else-length-ge-START_RECORD+else-standing-gt-COMMAND_RECORD+then-checker-ge-MOST_RECORDS}

pub returns-then-not-standing : goal.returns-then-not-standing
returns-then-not-standing c = elim c.then-not-standing.branch [
  | then-not-standing-via-then-not-standing w ↦ stays_wrong _ _ (not-true _ w.if-not-standing.true)
  | then-not-standing-via-else-not-standing+then-length-ge-START_RECORD w ↦ stays_length _ _ w.if-length-ge-START_RECORD.true
  | then-not-standing-via-else-not-standing+else-length-ge-START_RECORD+then-standing-gt-COMMAND_RECORD w ↦ stays_size _ _ w.if-standing-gt-COMMAND_RECORD.true
  | then-not-standing-via-else-not-standing+else-length-ge-START_RECORD+else-standing-gt-COMMAND_RECORD+then-checker-ge-MOST_RECORDS w ↦ stays_records _ _ w.if-checker-ge-MOST_RECORDS.true
]

pub returns-then-length-size : goal.returns-then-length-size
returns-then-length-size c = let k = c.args in
    holds_more k.checker k.byte (not-false _ c.if-not-standing.false) c.if-length-ge-START_RECORD.false
    c.if-standing-gt-COMMAND_RECORD.false c.if-checker-ge-MOST_RECORDS.false _ c.journal_record_size-size.ensures
    c.if-length-size.true

pub judge-requires : goal.judge-requires
judge-requires c = let k = c.args.checker in (
  record_sized (set k.held k.length c.args.byte) _ c.journal_record_size-size.ensures
      (omega (
        arith,
        c.if-length-size.false,
        c.if-length-ge-START_RECORD.false,
        length-set k.held k.length c.args.byte,
      )),
  c.if-standing-gt-COMMAND_RECORD.false,
)

pub returns : goal.returns
returns c = let k = c.args in
    judges k.checker k.byte (not-false _ c.if-not-standing.false) c.if-length-ge-START_RECORD.false
    c.if-standing-gt-COMMAND_RECORD.false c.if-checker-ge-MOST_RECORDS.false _ _ c.journal_record_size-size.ensures
    c.if-length-size.false c.judge.ensures
