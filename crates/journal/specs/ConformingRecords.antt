-- What a verdict reports (document 02, Item 1): the longest front of a journal that a conforming kernel could have
-- written, and what is wrong behind it. A kernel writes the calls on a fresh session, none of them refused, as records,
-- each call and its reply (`journal_records_of`), and a journal holds the first of them. The calls may bring any bytes,
-- and any command buffers.
-- Assumes nothing.
use Rattle.std.specs.Prelude.{◌≡◌, true, not, ◌↔◌, List, [], ◌∷◌, ◌++◌, ℕ, ◌+◌, ◌-◌, ◌%◌, ◌≤◌, ◌<◌, length, get_or, take}
use Rattle.basics.specs.Types.{Bytes, JournalBytes, Count}
use Rattle.basics.specs.Choice.{every}
use Rattle.session_record.specs.declared.Session.{Session}
use Rattle.session_record.specs.Session.{fresh_session}
use Rattle.session.specs.Calls.{Call, start, answer, link_failed, stop, CallMade, play_calls, call_refused}
use Rattle.journal.specs.declared.JournalVerdict.{JournalVerdict}
use Rattle.journal.specs.Record.{journal_records_of, journal_of_records}
use Rattle.journal.specs.Verdict.{first_record_size, journal_verdict_of, expected_reply_at_first_mismatch}

-- ---- what a conforming kernel writes

-- calls on the session s, none of them refused, write these records first; they may write more
pub record KernelWritesJournalBeginningWith (session_before : Session) (records : List Bytes) : Type 0 where
  pub calls : List Call
  pub taken : every (λ (m : CallMade). not (call_refused m)) (play_calls session_before calls) ≡ true
  pub first : take (length records) (journal_records_of (play_calls session_before calls)) ≡ records

-- a conforming kernel writes these records first: the session is fresh
abbrev pub AreConformingRecords : List Bytes → Type 0
AreConformingRecords records = KernelWritesJournalBeginningWith fresh_session records

-- ---- the verdict v on the bytes s

-- behind the front there are bytes, and the record that they begin with, of which all bytes are there, continues the
-- front in no way; an unknown kind has a record of no bytes, which no kernel writes
pub record NextRecordNotConforming (records_before : List Bytes) (rest : JournalBytes) : Type 0 where
  pub some : 0 < length rest
  pub whole : first_record_size rest ≤ length rest
  pub wrong : AreConformingRecords (records_before ++ (take (first_record_size rest) rest ∷ [])) → ⊥

-- what is behind the front: nothing; a record that is a mismatch; fewer bytes than the record there has
abbrev pub VerdictMatchesRest : List Bytes → JournalBytes → JournalVerdict → Type 0
VerdictMatchesRest front rest (JournalVerdict.Accepted m) = (length front ≡ m) × (rest ≡ [])
VerdictMatchesRest front rest (JournalVerdict.Mismatch n) = (length front + 1 ≡ n) × NextRecordNotConforming front rest
VerdictMatchesRest front rest (JournalVerdict.Truncated n) =
    (length front + 1 ≡ n) × (length rest < first_record_size rest)

-- the bytes are a conforming front and what is behind it
pub record VerdictHoldsOn (journal_bytes : JournalBytes) (verdict : JournalVerdict) : Type 0 where
  pub front : List Bytes
  pub rest : JournalBytes
  pub splits : journal_of_records front ++ rest ≡ journal_bytes
  pub conforming : AreConformingRecords front
  pub behind : VerdictMatchesRest front rest verdict

-- the verdict r on the bytes s is v exactly where that holds of v
abbrev pub VerdictIsExact : JournalBytes → JournalVerdict → Type 0
VerdictIsExact s r = (v : JournalVerdict) → (r ≡ v) ↔ VerdictHoldsOn s v

-- ---- calls of bytes

-- every entry is a byte (past its end a list reads as 0)
abbrev pub AllEntriesBelow256 : Bytes → Type 0
AllEntriesBelow256 s = (i : ℕ) → get_or s i 0 < 256

-- what comes in with a call is bytes, and so is the caller's buffer
abbrev pub CallBytesAllBelow256 : Call → Type 0
CallBytesAllBelow256 (start bytes buf) = AllEntriesBelow256 bytes × AllEntriesBelow256 buf
CallBytesAllBelow256 (answer card buf) = AllEntriesBelow256 card × AllEntriesBelow256 buf
CallBytesAllBelow256 (link_failed buf) = AllEntriesBelow256 buf
CallBytesAllBelow256 (stop buf) = AllEntriesBelow256 buf

-- so it is with each of the calls
abbrev pub CallsBytesAllBelow256 : List Call → Type 0
CallsBytesAllBelow256 [] = Unit {0}
CallsBytesAllBelow256 (c ∷ cs) = CallBytesAllBelow256 c × CallsBytesAllBelow256 cs

-- the records are written by calls of bytes
pub record ByteCallsWriteJournalBeginningWith (session_before : Session) (records : List Bytes) : Type 0 where
  pub writes : KernelWritesJournalBeginningWith session_before records
  pub bytes : CallsBytesAllBelow256 writes.calls

-- conforming records of bytes always are
abbrev pub ConformingBytesFromByteCalls : Type 0
ConformingBytesFromByteCalls =
    (records : List Bytes) → AreConformingRecords records → AllEntriesBelow256 (journal_of_records records)
    → ByteCallsWriteJournalBeginningWith fresh_session records

-- ---- what is accepted

-- every journal that a conforming kernel writes is accepted, finished or not: the first m records of what any calls
-- write, refused ones among them
abbrev pub ConformingJournalsAccepted : Type 0
ConformingJournalsAccepted =
    (cs : List Call) (m : Count) → m ≤ length (journal_records_of (play_calls fresh_session cs))
    → journal_verdict_of (journal_of_records (take m (journal_records_of (play_calls fresh_session cs))))
    ≡ JournalVerdict.Accepted m

-- no accepted journal has more than 262 records
abbrev pub AcceptedHasAtMost262Records : Type 0
AcceptedHasAtMost262Records = (s : JournalBytes) (m : Count) → journal_verdict_of s ≡ JournalVerdict.Accepted m → m ≤ 262

-- ---- the conforming record in place of a mismatching one

-- by these verdicts the bytes s are m - 1 conforming records and more; with d after these records there are m
-- conforming ones, and so with nothing else
pub record OnlyConformingRecord (verdict_of : JournalBytes → JournalVerdict) (record_number : Count)
    (journal_bytes expected_record : JournalBytes) : Type 0 where
  pub before : JournalBytes
  pub rest : JournalBytes
  pub splits : journal_bytes ≡ before ++ rest
  pub so_far : verdict_of before ≡ JournalVerdict.Accepted (record_number - 1)
  pub conforming : verdict_of (before ++ expected_record) ≡ JournalVerdict.Accepted record_number
  pub only : (r : Bytes) → verdict_of (before ++ r) ≡ JournalVerdict.Accepted record_number → r ≡ expected_record

-- where record n is a mismatch and `expected_reply_at_first_mismatch` gives some bytes, they are the one conforming record
-- there
abbrev pub ExpectedReplyOnlyConforming : Type 0
ExpectedReplyOnlyConforming =
    (s : JournalBytes) (n : Count) → journal_verdict_of s ≡ JournalVerdict.Mismatch n
    → 0 < length (expected_reply_at_first_mismatch s)
    → OnlyConformingRecord journal_verdict_of n s (expected_reply_at_first_mismatch s)

-- a reply is at the records of even number: there some bytes are given, and none where a call was expected
abbrev pub ExpectedReplyAtEvenRecords : Type 0
ExpectedReplyAtEvenRecords =
    (s : JournalBytes) (n : Count) → journal_verdict_of s ≡ JournalVerdict.Mismatch n
    → (n % 2 ≡ 0) ↔ (0 < length (expected_reply_at_first_mismatch s))

-- ---- what holds of it: the promises `conforming`, `bytes`, `written` and `few` of finish, `only` and `even` of
-- expected_record; proved in proofs/ (Exact, Written, Few, RightRecord)
