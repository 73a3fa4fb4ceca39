-- The cabinet's calls against the kernel's steps: by how each step comes out (`Came`), a refusal leaves the state and
-- the buffer, anything else is written with the session that the step left.
-- Assumes nothing.
use Rattle.std.specs.Prelude.{Some}
use mathlib.Core.Path.{◌≡◌, refl, sym, ap, subst, ◌∙◌}
use mathlib.Core.Bool.{Bool, true, false}
use mathlib.Core.Logic.{inl, inr}
use mathlib.Core.List.{List}
use Prim.Native.Nat.{ℕ, ◌<◌}
use native.Mathlib.Omega.{arith}
use lib.Dec.{ltb}
use lib.ListN.{length}
use borrow.Author.Tests.{lt-ltb, le-ltb, ltb-true}
use Rattle.basics.specs.Reason.{refusal_buffer_too_small}
use Rattle.basics.proofs.Laws.{if_yes, if_no, if_ind, bool_cases}
use Rattle.session_record.specs.declared.CallResult.{CallResult}
use Rattle.session_record.specs.declared.Refusal.{Refusal}
use Rattle.session_record.specs.declared.Session.{Session}
use Rattle.session_record.specs.Ranges.{session_record_in_ranges}
use Rattle.session_record.proofs.Phases.{store_size_lem, fresh_keeps}
use Rattle.session.specs.Steps as steps
use Rattle.session.specs.Steps.{Step, least_buffer, link_failed_step, stop_step}
use Rattle.session.specs.Start.{start_step}
use Rattle.session.specs.Answer.{answer_step}
use Rattle.session.proofs.Laws.{admitted_short}
use Rattle.session.specs.Calls.{is_refusal}
use Rattle.session_record.specs.Session.{is_ended}
use Rattle.step_laws.proofs.EveryCall.{Came, start_came, answer_came, link_came, stop_came}
use Rattle.step_laws.proofs.Ranges.{start_keeps, answer_keeps, link_keeps, stop_keeps}
use Rattle.cabinet.specs.State.{Cabinet, cabinet, decoded_cabinet_if_valid}
use Rattle.cabinet.specs.Calls.{CabinetResult, cabinet_refusal, apply_to_cabinet_or_refuse, admit_cabinet_call}
use Rattle.cabinet.specs.Calls.{remaining_after_outcome, cabinet_result_with_amounts_settled, kernel_step_on_cabinet}
use Rattle.cabinet.specs.Calls.{session_for_new_start, cabinet_start_if_amount_remains, amount_of_start_step}
use Rattle.cabinet.specs.Calls.{cabinet_start_by_result, start_on_cabinet}
use Rattle.cabinet.proofs.State.{state_decoded}
use Rattle.cabinet_claim.specs.Kernel.{CabinetResultSameAsKernelStep, CabinetStartAsKernelIfAmountRemains}
use Rattle.cabinet_claim.specs.Kernel.{CabinetCallsAsKernel}
use Rattle.cabinet_claim.proofs.Held.{Held, held_is}

apart : {A : Type 0} → ◌≡◌ {A = Bool} true false → A
apart e = let z : ◌≡◌ {A = ℕ} 0 1 = cc in absurd (omega arith)

-- ---- a step with amounts

module _ (s : Session) (l buf : List ℕ) (remaining reserved : ℕ) where
  -- one that is not refused
  taken_as : {st : Step} → Came s buf st → session_record_in_ranges st.reply.session ≡ true
      → is_refusal st.reply.answer ≡ false
      → CabinetResultSameAsKernelStep st (cabinet_result_with_amounts_settled st.reply.answer st remaining reserved l
      buf)
  taken_as (Came.refused n) i g = apart g
  taken_as (Came.ended m b o n) i g =
      record {
        word = refl;
        buffer = refl;
        session =
            state_decoded (cabinet _ (remaining_after_outcome o remaining reserved) 0) l (store_size_lem _ i);
      }
  taken_as (Came.sent b p x f) i g =
      record { word = refl; buffer = refl; session = state_decoded (cabinet _ remaining reserved) l (store_size_lem _ i) }

  -- or any, on the session that the bytes hold
  came_as : Held (cabinet s remaining reserved) l → {st : Step} → Came s buf st
      → session_record_in_ranges st.reply.session ≡ true
      → CabinetResultSameAsKernelStep st (cabinet_result_with_amounts_settled st.reply.answer st remaining reserved l
      buf)
  came_as h (Came.refused n) i = record { word = refl; buffer = refl; session = h.session }
  came_as h (Came.ended m b o n) i = taken_as (Came.ended m b o n) i refl
  came_as h (Came.sent b p x f) i = taken_as (Came.sent b p x f) i refl

-- ---- answer, link failed and stop

module _ (c : Cabinet) (l : List ℕ) (e : decoded_cabinet_if_valid l ≡ Some c) where
  held : Held c l
  held = held_is c l e

  -- past the buffer's size the call is on the cabinet
  long : (does : Cabinet → CabinetResult) (buf : List ℕ) → ltb (length buf) least_buffer ≡ false
      → admit_cabinet_call does l buf ≡ does c
  unfolding admit_cabinet_call
  long does buf t = if_no _ _ t ∙ ap (apply_to_cabinet_or_refuse does l buf) e

  short : (does : Cabinet → CabinetResult) (buf : List ℕ) → ltb (length buf) least_buffer ≡ true
      → admit_cabinet_call does l buf ≡ cabinet_refusal refusal_buffer_too_small l buf
  unfolding admit_cabinet_call
  short does buf t = if_yes _ _ t

  step_as : (step : Session → List ℕ → Step) (buf : List ℕ) → Came c.session buf (step c.session buf)
      → session_record_in_ranges (step c.session buf).reply.session ≡ true
      → (length buf < least_buffer → step c.session buf ≡ steps.refused_step c.session refusal_buffer_too_small buf)
      → CabinetResultSameAsKernelStep (step c.session buf) (admit_cabinet_call (kernel_step_on_cabinet step l buf) l buf)
  step_as step buf came i few = elim (bool_cases (ltb (length buf) least_buffer)) [
    | inl t ↦
        subst (λ (d : CabinetResult). CabinetResultSameAsKernelStep (step c.session buf) d)
        (sym (short (kernel_step_on_cabinet step l buf) buf t))
        (subst (λ (st : Step). CabinetResultSameAsKernelStep st (cabinet_refusal refusal_buffer_too_small l buf))
        (sym (few (ltb-true _ _ t))) (record { word = refl; buffer = refl; session = held.session }))
    | inr t ↦ subst (λ (d : CabinetResult). CabinetResultSameAsKernelStep (step c.session buf) d)
        (sym (long (kernel_step_on_cabinet step l buf) buf t)) (came_as c.session l buf c.remaining c.reserved
        held
        came i)
  ]

  -- ---- start

  -- the session that a start is made on is in its ranges
  ranged : session_record_in_ranges (session_for_new_start c.session) ≡ true
  unfolding session_for_new_start
  ranged = if_ind (λ (s : Session). session_record_in_ranges s ≡ true) (is_ended c.session.phase) _ _ (λ t. fresh_keeps)
      (λ t. held.order.ranges)

  module _ (bytes buf : List ℕ) where
    abbrev st : Step
    st = start_step (session_for_new_start c.session) bytes buf

    came : Came (session_for_new_start c.session) buf st
    came = start_came (session_for_new_start c.session) bytes buf

    kept : session_record_in_ranges st.reply.session ≡ true
    kept = start_keeps (session_for_new_start c.session) bytes buf ranged

    -- past the kernel's refusals
    past : (x : CallResult) → is_refusal x ≡ false → cabinet_start_by_result x st c.remaining l buf
        ≡ cabinet_start_if_amount_remains st (amount_of_start_step st) c.remaining l buf
    past (CallResult.Command x) g = refl
    past (CallResult.Outcome x) g = refl
    past (CallResult.Refused r) g = apart g

    by_answer : CabinetStartAsKernelIfAmountRemains c st l buf (start_on_cabinet bytes l buf c)
    unfolding cabinet_start_if_amount_remains
    by_answer =
        record {
          refused = λ r q. ap (λ (x : CallResult). cabinet_start_by_result x st c.remaining l buf) q;
          smaller = λ g q. past st.reply.answer g ∙ if_yes _ _ (lt-ltb _ _ q);
          enough = λ g q. subst (CabinetResultSameAsKernelStep st)
              (sym (past st.reply.answer g ∙ if_no _ _ (le-ltb _ _ q)))
              (taken_as (session_for_new_start c.session) l buf _ _ came kept g);
        }

    few : length buf < least_buffer → st ≡ steps.refused_step (session_for_new_start c.session) refusal_buffer_too_small buf
    few h = admitted_short (session_for_new_start c.session) buf _ h

    start_as : CabinetStartAsKernelIfAmountRemains c st l buf (admit_cabinet_call (start_on_cabinet bytes l buf) l buf)
    start_as = elim (bool_cases (ltb (length buf) least_buffer)) [
      | inl t ↦ subst (CabinetStartAsKernelIfAmountRemains c st l buf) (sym (short (start_on_cabinet bytes l buf) buf t))
          (refused_as (few (ltb-true _ _ t)))
      | inr t ↦ subst (CabinetStartAsKernelIfAmountRemains c st l buf) (sym (long (start_on_cabinet bytes l buf) buf t))
          by_answer
    ]
      where
        refused_as : st ≡ steps.refused_step (session_for_new_start c.session) refusal_buffer_too_small buf
            → CabinetStartAsKernelIfAmountRemains c st l buf (cabinet_refusal refusal_buffer_too_small l buf)
        refused_as q =
            record {
              refused = λ r p. (let f : CallResult.Refused (record { number = refusal_buffer_too_small })
                  ≡ CallResult.Refused r = sym (ap (λ (x : Step). x.reply.answer) q) ∙ p in
                  let z : record { number = refusal_buffer_too_small } ≡ r = cc in
                  ap (λ (x : Refusal). cabinet_refusal x.number l buf) z);
              smaller = λ g p. apart (ap (λ (x : Step). is_refusal x.reply.answer) (sym q) ∙ g);
              enough = λ g p. apart (ap (λ (x : Step). is_refusal x.reply.answer) (sym q) ∙ g);
            }

  pub as_kernel : CabinetCallsAsKernel c l
  as_kernel =
      let s = c.session in
      let i = held.order.ranges in
      record {
        start = start_as;
        answer = λ card buf. step_as (λ x b. answer_step x card b) buf (answer_came s card buf)
            (answer_keeps s card buf i) (admitted_short s buf _);
        link_failed = λ buf. step_as link_failed_step buf (link_came s buf) (link_keeps s buf i) (admitted_short s buf _);
        stop = λ buf. step_as stop_step buf (stop_came s buf) (stop_keeps s buf i) (admitted_short s buf _);
      }
