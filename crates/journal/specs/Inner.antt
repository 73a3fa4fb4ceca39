-- The checker itself, for every checker: the first one, the one after each further byte, and what is reported where the
-- journal ends. It follows the code, and a reader of the rules can skip it: a checker that was fed the bytes s, in
-- whatever parts (`CheckerWasFed`), says `journal_verdict_of` and `expected_reply_at_first_mismatch` of them.
-- Assumes nothing.
use Rattle.std.specs.Prelude.{Option, Some, None}
use Rattle.std.specs.Prelude.{◌≡◌, Bool, true, false, not, [], ◌∷◌, ◌++◌, ◌+◌, length, take, drop, set, replicate}
use Rattle.basics.specs.Types.{Bytes, JournalBytes, Buffer, Byte, Count}
use Rattle.basics.specs.Choice.{when◌then◌else◌, ◌and◌, ◌or◌, ◌≤?◌, ◌<?◌, ◌=?◌}
use Rattle.session_record.specs.declared.CallResult.{CallResult}
use Rattle.session_record.specs.Numbers.{outcome_number}
use Rattle.journal.specs.declared.JournalVerdict.{JournalVerdict}
use Rattle.journal.specs.declared.JournalCheckState.{JournalCheckState}
use Rattle.journal.specs.declared.JournalChecker.{JournalChecker}
use Rattle.journal.specs.declared.ExpectedReplyRecord.{ExpectedReplyRecord}
use Rattle.journal.specs.Record.{length_in_two_bytes, zero_padded, start_journal_record_size, command_journal_record_size}
use Rattle.journal.specs.Verdict.{ExpectedNext, expected_next_of_session_and_due_reply, expected_at_start, judge_record, first_record_size}

-- more records than this no session has: 131 calls and their replies
abbrev pub most_records_checker_counts : Count
most_records_checker_counts = 1000

-- ---- what is expected

-- a reply's record with the whole buffer in it
abbrev pub reply_record_with_whole_buffer : CallResult → Buffer → Bytes
reply_record_with_whole_buffer (CallResult.Command x) buf = 5 ∷ (length_in_two_bytes x.size ++ buf)
reply_record_with_whole_buffer (CallResult.Outcome e) buf = 6 ∷ outcome_number e.outcome ∷ e.reason ∷ []
reply_record_with_whole_buffer (CallResult.Refused r) buf = []

-- what is expected in a standing; once a record was a mismatch, what was expected there
abbrev pub expected_next_in_state : JournalCheckState → ExpectedNext
expected_next_in_state s = expected_next_of_session_and_due_reply s.session (take s.size s.due)

-- the standing in which this is expected
abbrev pub check_state_of : ExpectedNext → JournalCheckState
check_state_of e =
    record {
      session = e.session;
      due = zero_padded command_journal_record_size e.due;
      size = length e.due;
      conforming =
          true;
    }

-- after a record that was judged; after a mismatching one only its conformance changes
abbrev pub check_state_after_record : JournalCheckState → Option ExpectedNext → JournalCheckState
check_state_after_record s None = record { session = s.session; due = s.due; size = s.size; conforming = false }
check_state_after_record s (Some e) = check_state_of e

-- ---- the checker after some bytes

-- nothing was fed
unfoldable pub new_checker : JournalChecker
new_checker =
    record {
      standing = check_state_of expected_at_start;
      held = replicate start_journal_record_size 0;
      length = 0;
      records =
          0;
    }

-- no record was a mismatch, and every number is within its bound; else a checker stays as it is
abbrev pub checker_conforming_within_bounds : JournalChecker → Bool
checker_conforming_within_bounds c =
    c.standing.conforming
    and c.length <? start_journal_record_size
    and c.standing.size ≤? command_journal_record_size
    and c.records <? most_records_checker_counts

-- the bytes h are held, one more than before
abbrev pub checker_holding_one_more_byte : JournalChecker → Bytes → JournalChecker
checker_holding_one_more_byte c h =
    record { standing = c.standing; held = h; length = c.length + 1; records = c.records }

-- the record at the front of the bytes h is judged
abbrev pub checker_after_judging_record : JournalChecker → Bytes → JournalChecker
checker_after_judging_record c h =
    record {
      standing = check_state_after_record c.standing
          (judge_record (expected_next_in_state c.standing) (take (first_record_size h) h));
      held = h;
      length = 0;
      records = c.records + 1;
    }

-- a record is judged once it is whole; an unknown kind at once, as a record of no bytes
unfoldable pub checker_judging_once_record_whole : JournalChecker → Bytes → JournalChecker
checker_judging_once_record_whole c h =
    when c.length + 1 <? first_record_size h then checker_holding_one_more_byte c h
    else checker_after_judging_record c h

-- one more byte
unfoldable pub checker_after_byte : JournalChecker → Byte → JournalChecker
checker_after_byte c b =
    when checker_conforming_within_bounds c then checker_judging_once_record_whole c (set c.held c.length b)
    else c

-- bytes one by one
unfoldable pub checker_after_bytes : JournalChecker → JournalBytes → JournalChecker
checker_after_bytes c [] = c
checker_after_bytes c (b ∷ v) = checker_after_bytes (checker_after_byte c b) v

-- the checker has been fed the bytes s, in whatever parts
abbrev pub CheckerWasFed : JournalChecker → JournalBytes → Type 0
CheckerWasFed c s = c ≡ checker_after_bytes new_checker s

-- ---- where the journal ends

-- the number of the record that is held, after n others
abbrev pub next_record_number_capped : Count → Count
next_record_number_capped n =
    when n <? most_records_checker_counts then n + 1
    else n

-- a mismatching record is named, a record that is held is truncated; else all were conforming
unfoldable pub checker_verdict : JournalChecker → JournalVerdict
checker_verdict c =
    when not c.standing.conforming then JournalVerdict.Mismatch c.records
    else when c.length =? 0 then JournalVerdict.Accepted c.records
    else JournalVerdict.Truncated (next_record_number_capped c.records)

-- what was expected where a record was a mismatch, of size 0 where none was
unfoldable pub checker_expected_reply : JournalChecker → ExpectedReplyRecord
checker_expected_reply c =
    when c.standing.conforming or command_journal_record_size <? c.standing.size
    then record { bytes = replicate command_journal_record_size 0; size = 0 }
    else record { bytes = c.standing.due; size = c.standing.size }

-- ---- the writer

-- kind, length in two bytes and the bytes v at the front of the list l, whose bytes after stay
abbrev pub journal_record_written_over_front : Byte → Bytes → Bytes → Bytes
journal_record_written_over_front kind v l = kind ∷ (length_in_two_bytes (length v) ++ (v ++ drop (length v + 3) l))
