-- The records that the writer of a journal gives (document 02, Item 1): those of `journal/specs/Record`, and zeros,
-- which no record is, where there is none.
-- Assumes nothing.
use Rattle.std.specs.Prelude.{[], length, replicate}
use Rattle.basics.specs.Types.{Bytes, StartBytes, Buffer, Length}
use Rattle.basics.specs.Choice.{when◌then◌else◌, ◌and◌, ◌≤?◌}
use Rattle.session_record.specs.declared.CallResult.{CallResult}
use Rattle.session.specs.Calls.{start}
use Rattle.journal.specs.Record.{most_start_bytes_in_journal_record, most_command_bytes_in_journal_record}
use Rattle.journal.specs.Record.{start_journal_record_size, command_journal_record_size}
use Rattle.journal.specs.Record.{journal_call_record, journal_reply_record}

-- a start of more than 1,024 bytes is refused and has no record
unfoldable pub start_record_or_zeros : StartBytes → Bytes
start_record_or_zeros v =
    when length v ≤? most_start_bytes_in_journal_record then journal_call_record (start v [])
    else replicate start_journal_record_size 0

-- a command of n bytes at the front of a buffer; one that is longer than a record or the buffer is none
unfoldable pub command_record_or_zeros : Length → Buffer → Bytes
command_record_or_zeros n buf =
    when n ≤? most_command_bytes_in_journal_record and n ≤? length buf
    then journal_reply_record (CallResult.Command (record { size = n })) buf
    else replicate command_journal_record_size 0
