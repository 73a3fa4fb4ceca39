-- A call over bytes that the host provides (docs/HOST.md): the session as a record at the front of its bytes, the
-- answer as one word.
-- Assumes nothing.
use Rattle.std.specs.Prelude.{◌≡◌, length, Option, Some, None}
use Rattle.basics.specs.Choice.{when◌then◌else◌, ◌≤?◌, ◌<?◌}
use Rattle.session_record.specs.declared.Session.{Session}
use Rattle.basics.specs.Reason.{refusal_buffer_too_small, refusal_record_out_of_ranges}
use Rattle.basics.specs.Types.{Bytes, Buffer, StartBytes, Response, Count, RefusalNumber, ResultWord}
use Rattle.session_record.specs.Session.{fresh_session}
use Rattle.session.specs.Steps.{Step, least_buffer}
use Rattle.session.specs.Start.{start_step}
use Rattle.session.specs.Answer.{answer_step}
use Rattle.layout.specs.Layout.{session_record_size, session_written_over_front_if_room, decoded_session}
use Rattle.layout.specs.Word.{refusal_word, result_word}

-- ---- what a call leaves

-- the word that is returned, and the contents of the caller's two slices afterwards
pub record HostResult : Type 0 where
  pub word : ResultWord
  pub session : Bytes
  pub buffer : Buffer

-- the returned word w, the session's bytes l and the buffer b are those of h
pub record ReturnsHostResult (returned_word : ResultWord) (session_bytes_after : Bytes) (buffer_after : Buffer)
    (expected : HostResult) : Type 0 where
  pub word : returned_word ≡ expected.word
  pub session : session_bytes_after ≡ expected.session
  pub buffer : buffer_after ≡ expected.buffer

-- a refusal leaves all of the caller's bytes as they were
abbrev pub host_refusal : RefusalNumber → Bytes → Buffer → HostResult
host_refusal n l buf = record { word = refusal_word n; session = l; buffer = buf }

-- a step: its answer's word, its session at the front of the caller's bytes, its buffer
abbrev pub host_result_of_step : Bytes → Step → HostResult
host_result_of_step l st =
    record {
      word = result_word st.reply.answer;
      session = session_written_over_front_if_room st.reply.session l;
      buffer = st.buffer;
    }

-- ---- the four calls, by the step that each takes on a session and a buffer

-- no record is refused as one that is out of its ranges
abbrev pub host_step_or_refusal : (Session → Buffer → Step) → Bytes → Buffer → Option Session → HostResult
host_step_or_refusal step l buf None = host_refusal refusal_record_out_of_ranges l buf
host_step_or_refusal step l buf (Some s) = host_result_of_step l (step s buf)

-- the buffer's size (22), then the record (25), then the step
unfoldable pub perform_host_call_if_admitted : (Session → Buffer → Step) → Bytes → Buffer → HostResult
perform_host_call_if_admitted step l buf =
    when length buf <? least_buffer then host_refusal refusal_buffer_too_small l buf
    else host_step_or_refusal step l buf (decoded_session l)

-- the call start with the terminal's bytes, and the call answer with the card's
abbrev pub host_start : StartBytes → Bytes → Buffer → HostResult
host_start terminal l buf = perform_host_call_if_admitted (λ (s : Session) b. start_step s terminal b) l buf

abbrev pub host_answer : Response → Bytes → Buffer → HostResult
host_answer card l buf = perform_host_call_if_admitted (λ (s : Session) b. answer_step s card b) l buf

-- ---- opening and counting

-- a fresh record is written: 0, or 25 where the bytes are too few
abbrev pub host_open_word : Bytes → ResultWord
host_open_word l = when session_record_size ≤? length l then 0 else refusal_word refusal_record_out_of_ranges

-- the word, and the bytes before and after
pub record HostOpened (returned_word : ResultWord) (session_bytes_before session_bytes_after : Bytes) : Type 0 where
  pub word : returned_word ≡ host_open_word session_bytes_before
  pub session : session_bytes_after ≡ session_written_over_front_if_room fresh_session session_bytes_before

-- the count of commands handed out; all 32 bits set where the bytes hold no record
abbrev pub command_count_or_all_ones : Option Session → Count
command_count_or_all_ones None = 0xFFFFFFFF
command_count_or_all_ones (Some s) = s.count
