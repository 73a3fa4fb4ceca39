-- What `finish` and `expected_reply_record` promise, from the one equation that each way out of them proves.
-- Assumes nothing.
use mathlib.Core.Path.{◌≡◌, sym, ◌∙◌}
use mathlib.Core.List.{List}
use Prim.Native.Nat.{ℕ, ◌≤◌}
use lib.ListN.{take}
use Rattle.journal.specs.declared.JournalChecker.{JournalChecker}
use Rattle.journal.specs.declared.JournalVerdict.{JournalVerdict}
use Rattle.journal.specs.declared.ExpectedReplyRecord.{ExpectedReplyRecord}
use Rattle.journal.specs.Verdict.{journal_verdict_of, expected_reply_at_first_mismatch}
use Rattle.journal.specs.Inner.{CheckerWasFed, checker_verdict, checker_expected_reply}
use Rattle.journal.specs.ConformingRecords.{AllEntriesBelow256, VerdictIsExact, ConformingBytesFromByteCalls}
use Rattle.journal.specs.ConformingRecords.{ConformingJournalsAccepted, AcceptedHasAtMost262Records}
use Rattle.journal.specs.ConformingRecords.{ExpectedReplyOnlyConforming, ExpectedReplyAtEvenRecords}
use Rattle.journal.proofs.Follow.{finished, wanted_follows}
use Rattle.journal.proofs.Few.{accepted_few}
use Rattle.journal.proofs.Written.{written_accepted}
use Rattle.journal.proofs.RightRecord.{wanted_only, wanted_even}
use Rattle.journal.proofs.Exact.{exact, right_bytes}

-- of the bytes that were fed it says what `exact` says of the verdict over them
says_so : (s : List ℕ) (r : JournalVerdict) → r ≡ journal_verdict_of s → AllEntriesBelow256 s → VerdictIsExact s r
says_so s r q g v = (λ e. (exact s g v).0 (sym q ∙ e), λ x. q ∙ (exact s g v).1 x)

pub told : (c : JournalChecker) (r : JournalVerdict) → r ≡ checker_verdict c
    → (r ≡ checker_verdict c) × (((s : List ℕ) → CheckerWasFed c s → r ≡ journal_verdict_of s)
    × (((s : List ℕ) → CheckerWasFed c s → AllEntriesBelow256 s → VerdictIsExact s r)
    × (ConformingBytesFromByteCalls × (ConformingJournalsAccepted × AcceptedHasAtMost262Records))))
told c r e =
    let f = finished c r e in
    (f.0, (f.1, (λ s h g. says_so s r (f.1 s h) g, (right_bytes, (written_accepted, accepted_few)))))

pub wanted_told : (c : JournalChecker) (w : ExpectedReplyRecord) → w ≡ checker_expected_reply c → w.size ≤ 264
    → (w ≡ checker_expected_reply c)
    × ((w.size ≤ 264)
    × (((s : List ℕ) → CheckerWasFed c s → take w.size w.bytes ≡ expected_reply_at_first_mismatch s)
    × (ExpectedReplyOnlyConforming × ExpectedReplyAtEvenRecords)))
wanted_told c w e l = let f = wanted_follows c w e l in (f.0, (f.1.0, (f.1.1, (wanted_only, wanted_even))))
