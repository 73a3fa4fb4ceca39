-- The records of a session journal (document 02, Item 1): how long each kind is, what a call and its reply are written
-- as, and the call that a record is read as.
-- Assumes nothing.
use Rattle.std.specs.Prelude.{Option, Some, None}
use Rattle.std.specs.Prelude.{Bool, List, [], ◌∷◌, ◌++◌, ◌+◌, ◌-◌, ◌*◌, ◌/◌, ◌%◌, length, get_or, take, drop, replicate}
use Rattle.basics.specs.Types.{Bytes, Response, Buffer, JournalBytes, Byte, Length}
use Rattle.basics.specs.Choice.{when◌then◌else◌, ◌and◌, ◌≤?◌, ◌=?◌, every}
use Rattle.store.specs.Held.{is_zero_byte}
use Rattle.session_record.specs.declared.CallResult.{CallResult}
use Rattle.session_record.specs.Numbers.{outcome_number}
use Rattle.session.specs.Steps.{least_buffer}
use Rattle.session.specs.Calls.{Call, start, answer, link_failed, stop, CallMade, call_result, call_refused}

-- ---- kinds: 1 start, 2 card answer, 3 link failed, 4 stop, 5 command handed out, 6 outcome

-- the most bytes that a start, a card answer and a command have in a record
abbrev pub most_start_bytes_in_journal_record : Length
most_start_bytes_in_journal_record = 1024

abbrev pub most_answer_bytes_in_journal_record : Length
most_answer_bytes_in_journal_record = 258

abbrev pub most_command_bytes_in_journal_record : Length
most_command_bytes_in_journal_record = 261

-- the sizes of a start's and a command's record: kind and two length bytes before them
abbrev pub start_journal_record_size : Length
start_journal_record_size = 1027

abbrev pub command_journal_record_size : Length
command_journal_record_size = 264

-- the size of a record by its kind, the kind byte included; 0 for every other kind
unfoldable pub journal_record_size : Byte → Length
journal_record_size kind =
    when kind =? 1 then start_journal_record_size
    else when kind =? 2 then most_answer_bytes_in_journal_record + 3
    else when kind =? 3 then 1
    else when kind =? 4 then 1
    else when kind =? 5 then command_journal_record_size
    else when kind =? 6 then 3
    else 0

-- ---- written

-- a number in two bytes, high byte first
abbrev pub length_in_two_bytes : Length → Bytes
length_in_two_bytes n = n / 256 % 256 ∷ n % 256 ∷ []

-- bytes with zeros after them, n in all
abbrev pub zero_padded : Length → Bytes → Bytes
zero_padded n v = v ++ replicate (n - length v) 0

-- the length in two bytes, the bytes, and zeros: n bytes after the length
abbrev pub length_then_padded_bytes : Length → Bytes → Bytes
length_then_padded_bytes n v = length_in_two_bytes (length v) ++ zero_padded n v

-- a card answer of more than 258 bytes is written as length FF FF and a zero body
abbrev pub answer_record_body : Response → Bytes
answer_record_body card =
    when length card ≤? most_answer_bytes_in_journal_record then length_then_padded_bytes most_answer_bytes_in_journal_record card
    else length_in_two_bytes 0xFFFF ++ zero_padded most_answer_bytes_in_journal_record []

-- a call
abbrev pub journal_call_record : Call → Bytes
journal_call_record (start bytes buf) = 1 ∷ length_then_padded_bytes most_start_bytes_in_journal_record bytes
journal_call_record (answer card buf) = 2 ∷ answer_record_body card
journal_call_record (link_failed buf) = 3 ∷ []
journal_call_record (stop buf) = 4 ∷ []

-- what a call returns: the command at the front of the buffer, or the outcome and its reason; a refusal is not written
abbrev pub journal_reply_record : CallResult → Buffer → Bytes
journal_reply_record (CallResult.Command x) buf =
    5 ∷ (length_in_two_bytes x.size ++ zero_padded most_command_bytes_in_journal_record (take x.size buf))
journal_reply_record (CallResult.Outcome e) buf = 6 ∷ outcome_number e.outcome ∷ e.reason ∷ []
journal_reply_record (CallResult.Refused r) buf = []

-- the records of calls that were made: each call that is not refused, then its reply
unfoldable pub journal_records_of : List CallMade → List Bytes
journal_records_of [] = []
journal_records_of (m ∷ ms) =
    when call_refused m then journal_records_of ms
    else journal_call_record m.call ∷ journal_reply_record (call_result m) m.step.buffer ∷ journal_records_of ms

-- records concatenated
unfoldable pub journal_of_records : List Bytes → JournalBytes
journal_of_records [] = []
journal_of_records (r ∷ rs) = r ++ journal_of_records rs

-- ---- read: a whole record of one of the kinds 1 to 4

-- the command buffer that a call is made with: long enough, so that no call is refused for it
abbrev pub journal_command_buffer : Buffer
journal_command_buffer = replicate least_buffer 0

-- the two length bytes, high byte first
abbrev pub journal_record_length_field : Bytes → Length
journal_record_length_field r = get_or r 1 0 * 256 + get_or r 2 0

-- as many bytes after the length as it says
abbrev pub journal_record_data : Bytes → Bytes
journal_record_data r = take (journal_record_length_field r) (drop 3 r)

-- the length is at most n, and the bytes after those that it counts are zero
unfoldable pub journal_length_and_zero_padding_valid : Length → Bytes → Bool
journal_length_and_zero_padding_valid n r =
    journal_record_length_field r ≤? n and every is_zero_byte (drop (journal_record_length_field r) (drop 3 r))

-- length FF FF and a zero body
unfoldable pub is_too_long_answer_record : Bytes → Bool
is_too_long_answer_record r = journal_record_length_field r =? 0xFFFF and every is_zero_byte (drop 3 r)

-- every answer of more than 258 bytes gets the same reply; this one stands for them
abbrev pub answer_of259_zero_bytes : Response
answer_of259_zero_bytes = replicate (most_answer_bytes_in_journal_record + 1) 0

-- a start or an answer, where the record's length and body are in order
abbrev pub start_call_from_record : Bytes → Option Call
start_call_from_record r =
    when journal_length_and_zero_padding_valid most_start_bytes_in_journal_record r
    then Some (start (journal_record_data r) journal_command_buffer)
    else None

abbrev pub answer_call_from_record : Bytes → Option Call
answer_call_from_record r =
    when is_too_long_answer_record r then Some (answer answer_of259_zero_bytes journal_command_buffer)
    else when journal_length_and_zero_padding_valid most_answer_bytes_in_journal_record r
    then Some (answer (journal_record_data r) journal_command_buffer)
    else None

-- the call that a whole record stands for, if it stands for one
unfoldable pub call_from_journal_record : Bytes → Option Call
call_from_journal_record r =
    when get_or r 0 0 =? 1 then start_call_from_record r
    else when get_or r 0 0 =? 2 then answer_call_from_record r
    else when get_or r 0 0 =? 3 then Some (link_failed journal_command_buffer)
    else when get_or r 0 0 =? 4 then Some (stop journal_command_buffer)
    else None
