-- What a journal's bytes are judged to be (document 02, Item 1): accepted, or the number of the first record that
-- differs from what document 01 gives or is truncated. Records count from 1.
-- Assumes nothing.
use Rattle.std.specs.Prelude.{[], ◌∷◌, zero, suc, ◌+◌, ◌-◌, length, get_or, take, drop, Option, Some, None}
use Rattle.basics.specs.Types.{Bytes, JournalBytes, Length, Count}
use Rattle.basics.specs.Choice.{when◌then◌else◌, ◌<?◌, ◌=?◌}
use Rattle.basics.specs.Alike.{bytes_equal}
use Rattle.basics.specs.Recursion.{recurse_with_fuel_from_length}
use Rattle.session_record.specs.declared.Session.{Session}
use Rattle.session_record.specs.Session.{fresh_session}
use Rattle.session.specs.Calls.{Call, call_step}
use Rattle.journal.specs.declared.JournalVerdict.{JournalVerdict}
use Rattle.journal.specs.Record.{journal_record_size, call_from_journal_record, journal_reply_record}

-- ---- what is expected

-- the session so far, and the reply's record that comes next; empty where a call comes next
pub record ExpectedNext : Type 0 where
  pub session : Session
  pub due : Bytes

-- the same as a function of the two
abbrev pub expected_next_of_session_and_due_reply : Session → Bytes → ExpectedNext
expected_next_of_session_and_due_reply s d = record { session = s; due = d }

-- the session begins fresh, and a call comes first
abbrev pub expected_at_start : ExpectedNext
expected_at_start = expected_next_of_session_and_due_reply fresh_session []

-- ---- one whole record: what is expected after it, or none where it differs from what document 01 gives

-- the reply of a call that is taken is expected; a refused call has none, and is itself a mismatch
abbrev pub expect_reply_unless_empty : Session → Bytes → Option ExpectedNext
expect_reply_unless_empty s [] = None
expect_reply_unless_empty s (b ∷ d) = Some (expected_next_of_session_and_due_reply s (b ∷ d))

-- a record that stands for no call is a mismatch
abbrev pub judge_call : Session → Option Call → Option ExpectedNext
judge_call s None = None
judge_call s (Some c) =
    let st = call_step s c in expect_reply_unless_empty st.reply.session
    (journal_reply_record st.reply.answer st.buffer)

-- where a call is expected, by the call; where a reply is expected, it must be that record byte for byte
abbrev pub judge_record_by : Session → Bytes → Bytes → Option ExpectedNext
judge_record_by s [] r = judge_call s (call_from_journal_record r)
judge_record_by s (b ∷ d) r =
    when bytes_equal r (b ∷ d) then Some (expected_next_of_session_and_due_reply s [])
    else None

abbrev pub judge_record : ExpectedNext → Bytes → Option ExpectedNext
judge_record e r = judge_record_by e.session e.due r

-- ---- all bytes

-- the verdict on bytes after n conforming records, by what is expected after them
abbrev pub VerdictContinuation : Type 0
VerdictContinuation = ExpectedNext → Count → JournalVerdict

-- what k says of what is expected after a conforming record; `wrong` where the record is a mismatch
abbrev pub if_conforming : {A : Type 0} → A → (ExpectedNext → A) → Option ExpectedNext → A
if_conforming wrong k None = wrong
if_conforming wrong k (Some e) = k e

-- after n conforming records: the end is accepted; an unknown kind is a mismatch, even as the last byte; a record with
-- fewer bytes than its kind has is truncated, whatever it holds; a whole one is judged, and k judges what follows it
abbrev pub verdict_step : (JournalBytes → VerdictContinuation) → JournalBytes → VerdictContinuation
verdict_step k [] e n = JournalVerdict.Accepted n
verdict_step k (b ∷ s) e n =
    when journal_record_size b =? 0 then JournalVerdict.Mismatch (n + 1)
    else when length (b ∷ s) <? journal_record_size b then JournalVerdict.Truncated (n + 1)
    else
    if_conforming (JournalVerdict.Mismatch (n + 1)) (λ t. k (drop (journal_record_size b) (b ∷ s)) t (n + 1))
    (judge_record e (take (journal_record_size b) (b ∷ s)))

-- record after record
unfoldable pub verdict_from : ExpectedNext → Count → JournalBytes → JournalVerdict
verdict_from e n s = recurse_with_fuel_from_length (λ e n. JournalVerdict.Accepted n) verdict_step s e n

-- the verdict over a whole journal
unfoldable pub journal_verdict_of : JournalBytes → JournalVerdict
journal_verdict_of s = verdict_from expected_at_start 0 s

-- ---- the conforming record in place of a mismatching one

-- the size of the record that these bytes begin with, by its kind
abbrev pub first_record_size : JournalBytes → Length
first_record_size s = journal_record_size (get_or s 0 0)

-- the reply's record that is expected after the first m records, where e is expected before them; no bytes
-- where a call is
unfoldable pub reply_due_after : Count → ExpectedNext → JournalBytes → Bytes
reply_due_after zero e s = e.due
reply_due_after (suc m) e s =
    if_conforming [] (λ t. reply_due_after m t (drop (first_record_size s) s)) (judge_record e (take (first_record_size s) s))

-- where record n is a mismatch and a reply was expected, that reply's record; else no bytes: where a call was expected,
-- either no record would be conforming or more than one
abbrev pub expected_reply_at_mismatch : JournalBytes → JournalVerdict → Bytes
expected_reply_at_mismatch s (JournalVerdict.Accepted n) = []
expected_reply_at_mismatch s (JournalVerdict.Mismatch n) = reply_due_after (n - 1) expected_at_start s
expected_reply_at_mismatch s (JournalVerdict.Truncated n) = []

-- the one conforming record in place of the first mismatching one of a whole journal
unfoldable pub expected_reply_at_first_mismatch : JournalBytes → Bytes
expected_reply_at_first_mismatch s = expected_reply_at_mismatch s (journal_verdict_of s)

-- ---- what holds of it, proved in proofs/Walk and proofs/Exact
--   unroll             the bound of the recursion does not matter
--   exact              the verdict is v exactly where `VerdictHoldsOn` holds of v (ConformingRecords.antt)
