-- But for the cap the calls of a cabinet are the kernel's (document 02, Item 14): each against the kernel's step on the
-- session that the state holds, a start after an end against the step on a fresh one.
-- Assumes nothing.
use Rattle.std.specs.Prelude.{◌≡◌, false, ◌≤◌, ◌<◌, Some}
use Rattle.basics.specs.Types.{Bytes, StartBytes, Response, Buffer}
use Rattle.session_record.specs.declared.CallResult.{CallResult}
use Rattle.session_record.specs.declared.Refusal.{Refusal}
use Rattle.session.specs.Steps.{Step, link_failed_step, stop_step}
use Rattle.session.specs.Start.{start_step}
use Rattle.session.specs.Answer.{answer_step}
use Rattle.layout.specs.Layout.{decoded_session}
use Rattle.layout.specs.Word.{result_word}
use Rattle.session.specs.Calls.{is_refusal}
use Rattle.cabinet.specs.State.{Cabinet}
use Rattle.cabinet.specs.Calls.{CabinetResult, refused_amount_over_remaining, cabinet_refusal, session_for_new_start}
use Rattle.cabinet.specs.Calls.{amount_of_start_step}
use Rattle.cabinet.specs.Calls.{cabinet_start, cabinet_answer, cabinet_link_failed, cabinet_stop}

-- the word, the buffer and the session of the kernel's step
pub record CabinetResultSameAsKernelStep (kernel_step : Step) (cabinet_result : CabinetResult) : Type 0 where
  pub word : cabinet_result.word ≡ result_word kernel_step.reply.answer
  pub buffer : cabinet_result.buffer ≡ kernel_step.buffer
  pub session : decoded_session cabinet_result.state ≡ Some kernel_step.reply.session

-- a start on the state's bytes l with a buffer
pub record CabinetStartAsKernelIfAmountRemains (cabinet_before : Cabinet) (kernel_step : Step) (state_before : Bytes)
    (buffer_before : Buffer) (cabinet_result : CabinetResult) : Type 0 where
  -- what the kernel refuses is refused by the same number, and an ended session stays
  pub refused : (r : Refusal) → kernel_step.reply.answer ≡ CallResult.Refused r
      → cabinet_result ≡ cabinet_refusal r.number state_before buffer_before
  -- what it does not is refused with 30 where what remains is smaller than the amount, and only there
  pub smaller : is_refusal kernel_step.reply.answer ≡ false → cabinet_before.remaining < amount_of_start_step kernel_step
      → cabinet_result ≡ cabinet_refusal refused_amount_over_remaining state_before buffer_before
  pub enough : is_refusal kernel_step.reply.answer ≡ false
      → amount_of_start_step kernel_step ≤ cabinet_before.remaining → CabinetResultSameAsKernelStep kernel_step cabinet_result

-- every call on bytes l that hold the cabinet c
pub record CabinetCallsAsKernel (cabinet_before : Cabinet) (state_before : Bytes) : Type 0 where
  pub start : (bytes : StartBytes) (buf : Buffer)
      → CabinetStartAsKernelIfAmountRemains cabinet_before (start_step (session_for_new_start cabinet_before.session) bytes
      buf) state_before buf (cabinet_start bytes state_before buf)
  pub answer : (card : Response) (buf : Buffer)
      → CabinetResultSameAsKernelStep (answer_step cabinet_before.session card buf)
      (cabinet_answer card state_before buf)
  pub link_failed : (buf : Buffer)
      → CabinetResultSameAsKernelStep (link_failed_step cabinet_before.session buf) (cabinet_link_failed state_before buf)
  pub stop : (buf : Buffer)
      → CabinetResultSameAsKernelStep (stop_step cabinet_before.session buf) (cabinet_stop state_before buf)
