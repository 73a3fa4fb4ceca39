-- `journal::finish` meets its contract: one law for each way out, and what follows of it (`told`).
-- Assumes nothing.
use native.Mathlib.Omega.{arith}
use borrow.Author.Tests.{not-true, not-false}
use Rattle.journal.proofs.Follow.{says_wrong, says_whole, says_many, says_held}
use Rattle.journal.proofs.Told.{told}
use Rattle.journal.proofs.finish.Goals as goal

pub returns-then-not-checker : goal.returns-then-not-checker
returns-then-not-checker c = let r = (told _ _ (says_wrong _ (not-true _ c.if-not-checker.true))) in record { verdict = r.0; follows = r.1.0; conforming = r.1.1.0; bytes = r.1.1.1.0; written = r.1.1.1.1.0; few = r.1.1.1.1.1 }

pub returns-then-checker-eq0 : goal.returns-then-checker-eq0
returns-then-checker-eq0 c = let r = (told _ _ (says_whole _ (not-false _ c.if-not-checker.false) c.if-checker-eq0.true)) in record { verdict = r.0; follows = r.1.0; conforming = r.1.1.0; bytes = r.1.1.1.0; written = r.1.1.1.1.0; few = r.1.1.1.1.1 }

pub returns-then-checker-ge-MOST_RECORDS : goal.returns-then-checker-ge-MOST_RECORDS
returns-then-checker-ge-MOST_RECORDS c = let r = (told _ _ (says_many _ (not-false _ c.if-not-checker.false)
    c.if-checker-eq0.false (omega (arith, c.if-checker-ge-MOST_RECORDS.true)))) in record { verdict = r.0; follows = r.1.0; conforming = r.1.1.0; bytes = r.1.1.1.0; written = r.1.1.1.1.0; few = r.1.1.1.1.1 }

pub returns : goal.returns
returns c = let r = (told _ _ (says_held _ (not-false _ c.if-not-checker.false)
    c.if-checker-eq0.false (omega (arith, c.if-checker-ge-MOST_RECORDS.false)))) in record { verdict = r.0; follows = r.1.0; conforming = r.1.1.0; bytes = r.1.1.1.0; written = r.1.1.1.1.0; few = r.1.1.1.1.1 }
