-- A journal's records (document 02, Item 1), whole, of each kind: 1 start, 2 answer, 3 link failed, 4 stop, 5 command,
-- 6 outcome; what each of a call is read as; and a journal of two calls, of which the first call, which is refused, is
-- not written.
-- Assumes nothing.
use Rattle.std.specs.Prelude.{◌≡◌, List, [], ◌∷◌, ◌++◌, map, replicate, Some, None}
use Rattle.basics.specs.Types.{Bytes, Buffer}
use Rattle.session_record.specs.declared.CallResult.{CallResult}
use Rattle.session_record.specs.declared.Outcome.{Outcome}
use Rattle.session_record.specs.Session.{fresh_session}
use Rattle.session.specs.Calls.{Call, start, answer, link_failed, stop, play_calls}
use Rattle.journal.specs.declared.JournalVerdict.{JournalVerdict}
use Rattle.journal.specs.Record.{journal_record_size, journal_call_record, journal_reply_record, journal_records_of}
use Rattle.journal.specs.Record.{journal_of_records, call_from_journal_record}
use Rattle.journal.specs.Verdict.{journal_verdict_of}
use Rattle.worked_examples.specs.Calls.{buffer_of261, command_result, outcome_result, refusal_result}
use Rattle.worked_examples.specs.Refusals.{start_bytes_with_all_required}

-- a start of three bytes, an answer of two, and answers of 258 bytes and of 259
abbrev pub journal_example_calls : List Call
journal_example_calls =
    start (0x9C ∷ 0x01 ∷ 0x00 ∷ []) buffer_of261
    ∷ answer (0x6A ∷ 0x82 ∷ []) buffer_of261
    ∷ answer (replicate 258 0xAA) buffer_of261
    ∷ answer (replicate 259 0x00) buffer_of261
    ∷ link_failed buffer_of261 ∷ stop buffer_of261 ∷ []

abbrev pub journal_example_call_records : List Bytes
journal_example_call_records =
    (1 ∷ 0x00 ∷ 0x03 ∷ 0x9C ∷ 0x01 ∷ 0x00 ∷ replicate 1021 0)
    ∷ (2 ∷ 0x00 ∷ 0x02 ∷ 0x6A ∷ 0x82 ∷ replicate 256 0)
    ∷ (2 ∷ 0x01 ∷ 0x02 ∷ replicate 258 0xAA)
    ∷ (2 ∷ 0xFF ∷ 0xFF ∷ replicate 258 0)
    ∷ (3 ∷ []) ∷ (4 ∷ []) ∷ []

-- the record command at the front of a buffer of other bytes
abbrev pub buffer_with_record_command : Buffer
buffer_with_record_command = 0x00 ∷ 0xB2 ∷ 0x01 ∷ 0x0C ∷ 0x00 ∷ replicate 256 0xEE

abbrev pub journal_example_results : List CallResult
journal_example_results =
    command_result 5
    ∷ outcome_result Outcome.Approved 0 1 ∷ outcome_result Outcome.OnlineRequest 0 2 ∷ outcome_result Outcome.Declined 0 15
    ∷ outcome_result Outcome.Ended 8 2 ∷ outcome_result Outcome.SelectNext 6 15
    ∷ refusal_result 25 ∷ []

abbrev pub journal_example_reply_records : List Bytes
journal_example_reply_records =
    (5 ∷ 0x00 ∷ 0x05 ∷ 0x00 ∷ 0xB2 ∷ 0x01 ∷ 0x0C ∷ 0x00 ∷ replicate 256 0)
    ∷ (6 ∷ 0 ∷ 0 ∷ []) ∷ (6 ∷ 1 ∷ 0 ∷ []) ∷ (6 ∷ 2 ∷ 0 ∷ []) ∷ (6 ∷ 3 ∷ 8 ∷ []) ∷ (6 ∷ 4 ∷ 6 ∷ [])
    ∷ [] ∷ []

-- a stop before the start, the start with its 123 bytes and no 9F38, and a stop
abbrev pub played_journal_calls : List Call
played_journal_calls = stop buffer_of261 ∷ start start_bytes_with_all_required buffer_of261 ∷ stop buffer_of261 ∷ []

abbrev pub journal_records_of_played_calls : List Bytes
journal_records_of_played_calls =
    (1 ∷ 0x00 ∷ 0x7B ∷ (start_bytes_with_all_required ++ replicate 901 0))
    ∷ (5 ∷ 0x00 ∷ 0x08 ∷ 0x80 ∷ 0xA8 ∷ 0x00 ∷ 0x00 ∷ 0x02 ∷ 0x83 ∷ 0x00 ∷ 0x00 ∷ replicate 253 0)
    ∷ (4 ∷ []) ∷ (6 ∷ 3 ∷ 10 ∷ []) ∷ []

pub record JournalExamples : Type 0 where
  pub calls_written : map journal_call_record journal_example_calls ≡ journal_example_call_records
  pub calls_read : map call_from_journal_record journal_example_call_records ≡ map (λ c. Some c) journal_example_calls
  pub no_call : map call_from_journal_record ((5 ∷ []) ∷ (6 ∷ []) ∷ []) ≡ None ∷ None ∷ []
  pub replies_written : map (λ a. journal_reply_record a buffer_with_record_command) journal_example_results
      ≡ journal_example_reply_records
  -- a command of 261 bytes
  pub longest_command : journal_reply_record (command_result 261) (replicate 261 0xAA)
      ≡ 5 ∷ 0x01 ∷ 0x05 ∷ replicate 261 0xAA
  -- kinds 0 to 7
  pub sizes : map journal_record_size (0 ∷ 1 ∷ 2 ∷ 3 ∷ 4 ∷ 5 ∷ 6 ∷ 7 ∷ []) ≡ 0 ∷ 1027 ∷ 261 ∷ 1 ∷ 1 ∷ 264 ∷ 3 ∷ 0 ∷ []
  pub whole : journal_records_of (play_calls fresh_session played_journal_calls) ≡ journal_records_of_played_calls
  pub accepted : journal_verdict_of (journal_of_records journal_records_of_played_calls) ≡ JournalVerdict.Accepted 4
