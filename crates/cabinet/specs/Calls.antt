-- The calls of a cabinet (document 02, Item 14), each on any bytes: the kernel's step on the session that the state
-- holds, and what becomes of the cap. Refusals are checked in the order 22, 25, 21, 20, 23, 24, 30; opening has 25, 31.
-- Assumes nothing.
use Rattle.std.specs.Prelude.{◌≡◌, ◌+◌, ◌-◌, length, Option, Some, None}
use Rattle.basics.specs.Choice.{when◌then◌else◌, ◌<?◌}
use Rattle.basics.specs.Reason.{refusal_buffer_too_small, refusal_record_out_of_ranges}
use Rattle.basics.specs.Types.{Bytes, Buffer, StartBytes, Response, Amount, RefusalNumber, ResultWord}
use Rattle.session_record.specs.declared.CallResult.{CallResult}
use Rattle.session_record.specs.declared.Outcome.{Outcome}
use Rattle.session_record.specs.declared.Session.{Session}
use Rattle.session_record.specs.Session.{store_bytes, fresh_session}
use Rattle.session.specs.Steps.{Step, least_buffer, link_failed_step, stop_step}
use Rattle.session.specs.Start.{start_step}
use Rattle.session.specs.Answer.{answer_step}
use Rattle.layout.specs.Word.{refusal_word, result_word}
use Rattle.session_record.specs.Session.{is_ended}
use Rattle.cabinet.specs.State.{Cabinet, cabinet, greatest_twelve_digit_amount, cabinet_state_size}
use Rattle.cabinet.specs.State.{cabinet_written_over_front}
use Rattle.cabinet.specs.State.{stored_amount_authorized, decoded_cabinet_if_valid}

-- ---- refusals besides the kernel's

-- what remains is smaller than the amount of a start
abbrev pub refused_amount_over_remaining : RefusalNumber
refused_amount_over_remaining = 30

-- a cap over the greatest amount
abbrev pub refused_cap_too_large : RefusalNumber
refused_cap_too_large = 31

-- ---- what a call leaves

-- the word that is returned, and the contents of the caller's two slices afterwards
pub record CabinetResult : Type 0 where
  pub word : ResultWord
  pub state : Bytes
  pub buffer : Buffer

-- the returned word w, the state's bytes l and the buffer b are those of d
pub record ReturnsCabinetResult (returned_word : ResultWord) (state_after : Bytes) (buffer_after : Buffer)
    (expected : CabinetResult) : Type 0 where
  pub word : returned_word ≡ expected.word
  pub state : state_after ≡ expected.state
  pub buffer : buffer_after ≡ expected.buffer

-- a refusal leaves all of the caller's bytes as they were
abbrev pub cabinet_refusal : RefusalNumber → Bytes → Buffer → CabinetResult
cabinet_refusal n l buf = record { word = refusal_word n; state = l; buffer = buf }

-- the buffer's size (22), then the state (25), then what the call does on the cabinet that the bytes hold
abbrev pub apply_to_cabinet_or_refuse : (Cabinet → CabinetResult) → Bytes → Buffer → Option Cabinet → CabinetResult
apply_to_cabinet_or_refuse does l buf None = cabinet_refusal refusal_record_out_of_ranges l buf
apply_to_cabinet_or_refuse does l buf (Some c) = does c

unfoldable pub admit_cabinet_call : (Cabinet → CabinetResult) → Bytes → Buffer → CabinetResult
admit_cabinet_call does l buf =
    when length buf <? least_buffer then cabinet_refusal refusal_buffer_too_small l buf
    else apply_to_cabinet_or_refuse does l buf (decoded_cabinet_if_valid l)

-- ---- the cap

-- an end: an approval spends what is reserved, every other outcome gives it back
abbrev pub remaining_after_outcome : Outcome → Amount → Amount → Amount
remaining_after_outcome Outcome.Approved remaining reserved = remaining
remaining_after_outcome Outcome.OnlineRequest remaining reserved = remaining + reserved
remaining_after_outcome Outcome.Declined remaining reserved = remaining + reserved
remaining_after_outcome Outcome.Ended remaining reserved = remaining + reserved
remaining_after_outcome Outcome.SelectNext remaining reserved = remaining + reserved

-- the kernel's word, session and buffer, with these amounts
abbrev pub cabinet_result_of_step : Step → Amount → Amount → Bytes → CabinetResult
cabinet_result_of_step st remaining reserved l =
    record {
      word = result_word st.reply.answer;
      state = cabinet_written_over_front (cabinet st.reply.session remaining reserved) l;
      buffer = st.buffer;
    }

-- n remaining and a reserved, by the kernel's answer: a command leaves the amounts, an outcome leaves nothing reserved,
-- a refusal changes nothing
abbrev pub cabinet_result_with_amounts_settled : CallResult → Step → Amount → Amount → Bytes → Buffer → CabinetResult
cabinet_result_with_amounts_settled (CallResult.Command x) st n a l buf = cabinet_result_of_step st n a l
cabinet_result_with_amounts_settled (CallResult.Outcome e) st n a l buf =
    cabinet_result_of_step st (remaining_after_outcome e.outcome n a) 0 l
cabinet_result_with_amounts_settled (CallResult.Refused r) st n a l buf = cabinet_refusal r.number l buf

-- ---- answer, link failed, stop

-- the kernel's step on the session, with the amounts that are held
abbrev pub kernel_step_on_cabinet : (Session → Buffer → Step) → Bytes → Buffer → Cabinet → CabinetResult
kernel_step_on_cabinet step l buf c =
    let st = step c.session buf in
    cabinet_result_with_amounts_settled st.reply.answer st c.remaining c.reserved l buf

abbrev pub cabinet_answer : Response → Bytes → Buffer → CabinetResult
cabinet_answer card l buf = admit_cabinet_call (kernel_step_on_cabinet (λ s b. answer_step s card b) l buf) l buf

abbrev pub cabinet_link_failed : Bytes → Buffer → CabinetResult
cabinet_link_failed l buf = admit_cabinet_call (kernel_step_on_cabinet link_failed_step l buf) l buf

abbrev pub cabinet_stop : Bytes → Buffer → CabinetResult
cabinet_stop l buf = admit_cabinet_call (kernel_step_on_cabinet stop_step l buf) l buf

-- ---- start

-- the session that a start is made on: a fresh one after an end; a running one stays, and the kernel refuses it (21)
unfoldable pub session_for_new_start : Session → Session
session_for_new_start s = when is_ended s.phase then fresh_session else s

-- the amount a of a start is reserved where what remains is no smaller, else 30; a start that ends its session
-- (reason 7) gives it back at once
unfoldable pub cabinet_start_if_amount_remains : Step → Amount → Amount → Bytes → Buffer → CabinetResult
cabinet_start_if_amount_remains st a remaining l buf =
    when remaining <? a then cabinet_refusal refused_amount_over_remaining l buf
    else cabinet_result_with_amounts_settled st.reply.answer st (remaining - a) a l buf

-- the amount that the start brought, in the store that it loaded
abbrev pub amount_of_start_step : Step → Amount
amount_of_start_step st = stored_amount_authorized (store_bytes st.reply.session)

-- the kernel's refusals come first; a start that ends its session needs its amount too
abbrev pub cabinet_start_by_result : CallResult → Step → Amount → Bytes → Buffer → CabinetResult
cabinet_start_by_result (CallResult.Command x) st remaining l buf =
    cabinet_start_if_amount_remains st (amount_of_start_step st) remaining l buf
cabinet_start_by_result (CallResult.Outcome e) st remaining l buf =
    cabinet_start_if_amount_remains st (amount_of_start_step st) remaining l buf
cabinet_start_by_result (CallResult.Refused r) st remaining l buf = cabinet_refusal r.number l buf

abbrev pub start_on_cabinet : StartBytes → Bytes → Buffer → Cabinet → CabinetResult
start_on_cabinet bytes l buf c =
    let st = start_step (session_for_new_start c.session) bytes buf in
    cabinet_start_by_result st.reply.answer st c.remaining l buf

abbrev pub cabinet_start : StartBytes → Bytes → Buffer → CabinetResult
cabinet_start bytes l buf = admit_cabinet_call (start_on_cabinet bytes l buf) l buf

-- ---- opening, and what remains

-- too few bytes (25), then a cap over the greatest amount (31); whatever the bytes hold
unfoldable pub cabinet_open_word : Amount → Bytes → ResultWord
cabinet_open_word cap l =
    when length l <? cabinet_state_size then refusal_word refusal_record_out_of_ranges
    else when greatest_twelve_digit_amount <? cap then refusal_word refused_cap_too_large
    else 0

-- a fresh session, all of the cap remaining and nothing reserved; a refusal leaves the bytes
unfoldable pub cabinet_open_state : Amount → Bytes → Bytes
cabinet_open_state cap l =
    when length l <? cabinet_state_size then l
    else when greatest_twelve_digit_amount <? cap then l
    else cabinet_written_over_front (cabinet fresh_session cap 0) l

-- the word w, and the bytes before and after
pub record OpensCabinetOrRefuses (cap : Amount) (returned_word : ResultWord) (state_before state_after : Bytes) : Type 0
  where
    pub word : returned_word ≡ cabinet_open_word cap state_before
    pub state : state_after ≡ cabinet_open_state cap state_before

-- what remains; all ones where the bytes are refused with 25
abbrev pub remaining_amount_or_all_ones : Option Cabinet → Amount
remaining_amount_or_all_ones None = 0xFFFFFFFFFFFFFFFF
remaining_amount_or_all_ones (Some c) = c.remaining

-- ---- what holds of it for every cabinet and every list of calls, promised by cabinet_calls::most_approved
--   Balanced       the remaining and reserved amounts and those of approved sessions are together the cap
--   AsTheKernel    but for the cap each call is the kernel's
