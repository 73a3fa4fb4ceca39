-- `journal::expected_reply_record` meets its contract: one law for each way out; a checker that was fed some bytes
-- keeps what
-- was expected there.
-- Assumes nothing.
use native.Mathlib.Omega.{arith}
use borrow.Author.Tests.{lt-ltb}
use Rattle.basics.proofs.Laws.{either_left, either_right}
use Rattle.journal.proofs.Follow.{wants_none, wants_due}
use Rattle.journal.proofs.Told.{wanted_told}
use Rattle.journal.proofs.expected_reply_record.Goals as goal
use Rattle.journal.proofs.expected_reply_record.Goals.{then-standing-via-then-standing, then-standing-via-else-standing+then-size-gt-COMMAND_RECORD}

pub returns-then-standing : goal.returns-then-standing
returns-then-standing c =
    let k = c.args.checker in
    let r = wanted_told k _ (wants_none k (elim c.then-standing.branch [
      | then-standing-via-then-standing w ↦ either_left _ _ w.if-standing.true
      | then-standing-via-else-standing+then-size-gt-COMMAND_RECORD w ↦
          either_right _ _ (lt-ltb 264 k.standing.size w.if-size-gt-COMMAND_RECORD.true)
    ])) (omega arith) in
    record { wanted = r.0; size = r.1.0; follows = r.1.1.0; only = r.1.1.1.0; even = r.1.1.1.1 }

pub returns : goal.returns
returns c =
    let k = c.args.checker in
    let l = c.if-size-gt-COMMAND_RECORD.false in
    let r = wanted_told k _ (wants_due k c.if-standing.false l) l in
    record { wanted = r.0; size = r.1.0; follows = r.1.1.0; only = r.1.1.1.0; even = r.1.1.1.1 }
