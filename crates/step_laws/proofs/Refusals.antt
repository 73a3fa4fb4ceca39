-- Which refusals a session in its ranges meets past the buffer's size (22): a start what its loading gives (20, 23,
-- 24), or 21; the other calls 21, exactly where the session does not run. None meets 25. What
-- follows a call is no refusal, by its type.
-- Assumes nothing.
use mathlib.Core.Path.{◌≡◌, refl, sym, ap, ◌∙◌}
use mathlib.Core.Bool.{true, false, not}
use mathlib.Core.List.{List}
use Prim.Native.Nat.{ℕ, ◌≤◌}
use native.Mathlib.Omega.{arith}
use lib.ListN.{length}
use Rattle.basics.specs.Reason.{refusal_wrong_phase, refusal_record_out_of_ranges, reason_link, reason_stopped}
use Rattle.basics.proofs.Laws.{if_ind}
use Rattle.session_record.specs.declared.CallResult.{CallResult}
use Rattle.session_record.specs.declared.AwaitedResponse.{AwaitedResponse}
use Rattle.session_record.specs.declared.Phase.{Phase}
use Rattle.session_record.specs.declared.Session.{Session}
use Rattle.session_record.specs.Session.{store_bytes, ending_for_reason}
use Rattle.session_record.specs.Ranges.{zero_tvr, session_record_in_ranges}
use Rattle.start_data.specs.StartData.{LoadedStore, refusal, loaded, load_start_bytes}
use Rattle.session.specs.Steps.{NextAction, end, held_cvm, store_with_tvr, Step, CallEffect, step_of_next, refused_step}
use Rattle.session.specs.Steps.{step_of_effect, least_buffer, step_if_admitted, effect_if_running, abort_step}
use Rattle.session.specs.Start.{request_gpo, start_effect_after_loading, start_effect, start_step}
use Rattle.session.specs.Answer.{next_on_response, answer_step}
use Rattle.session.proofs.Laws.{admitted_in}
use Rattle.step_laws.proofs.Ways.{load_most}
use Rattle.basics.proofs.Laws.{no}
use Rattle.session.specs.Calls.{Call, start, answer, link_failed, stop, call_step, is_refusal}
use Rattle.session_record.specs.Session.{is_running}

-- ---- a session that does not run is refused (21), one that runs is not

abbrev Goes : Step → Type 0
Goes st = is_refusal st.reply.answer ≡ false

-- what follows is no refusal
next_goes : (n : ℕ) (buf : List ℕ) (x : NextAction) → Goes (step_of_next n buf x)
next_goes n buf (NextAction.ask c w b) = refl
next_goes n buf (NextAction.end e m b) = refl

module _ (s : Session) (buf : List ℕ) (next : AwaitedResponse → NextAction) where
  running_goes : (p : Phase) → is_running p ≡ true → Goes (step_of_effect s buf (effect_if_running p next))
  running_goes Phase.Fresh e = no e
  running_goes (Phase.Waiting w) e = next_goes s.count buf (next w)
  running_goes (Phase.Ended x) e = no e

  idle_refused : (p : Phase) → is_running p ≡ false → step_of_effect s buf (effect_if_running p next)
      ≡ refused_step s refusal_wrong_phase buf
  idle_refused Phase.Fresh e = refl
  idle_refused (Phase.Waiting w) e = no (sym e)
  idle_refused (Phase.Ended x) e = refl

  module _ (r : least_buffer ≤ length buf) (i : session_record_in_ranges s ≡ true) where
    call_goes : is_running s.phase ≡ true → Goes (step_if_admitted s buf (effect_if_running s.phase next))
    call_goes e = ap (λ (st : Step). is_refusal st.reply.answer) (admitted_in s buf _ r i) ∙ running_goes s.phase
        e

    call_idle : is_running s.phase ≡ false → step_if_admitted s buf (effect_if_running s.phase next)
        ≡ refused_step s refusal_wrong_phase buf
    call_idle e = admitted_in s buf _ r i ∙ idle_refused s.phase e

module _ (s : Session) (card buf : List ℕ) (r : least_buffer ≤ length buf) (i : session_record_in_ranges s ≡ true) where
  pub answer_goes : is_running s.phase ≡ true → Goes (answer_step s card buf)
  answer_goes e = call_goes s buf (next_on_response (store_bytes s) card) r i e

  pub answer_idle : is_running s.phase ≡ false → answer_step s card buf ≡ refused_step s refusal_wrong_phase buf
  answer_idle e = call_idle s buf (next_on_response (store_bytes s) card) r i e

-- what follows a link that failed, or a stop
abbrev broken : Session → ℕ → AwaitedResponse → NextAction
broken s n w = end (ending_for_reason n) (held_cvm w) (store_bytes s)

module _ (s : Session) (n : ℕ) (buf : List ℕ) (r : least_buffer ≤ length buf) (i : session_record_in_ranges s ≡ true) where
  pub broken_goes : is_running s.phase ≡ true → Goes (abort_step s n buf)
  broken_goes e = call_goes s buf (broken s n) r i e

  pub broken_idle : is_running s.phase ≡ false → abort_step s n buf ≡ refused_step s refusal_wrong_phase buf
  broken_idle e = call_idle s buf (broken s n) r i e

-- ---- no call is refused with 25

abbrev pub Other : CallResult → Type 0
Other (CallResult.Command x) = Unit {0}
Other (CallResult.Outcome e) = Unit {0}
Other (CallResult.Refused r) = r.number ≡ refusal_record_out_of_ranges → ⊥

abbrev OtherStep : Step → Type 0
OtherStep st = Other st.reply.answer

goes_other : (a : CallResult) → is_refusal a ≡ false → Other a
goes_other (CallResult.Command x) e = tt
goes_other (CallResult.Outcome x) e = tt
goes_other (CallResult.Refused r) e = no (sym e)

-- the first tests: the buffer's size, and the ranges, which are kept
module _ (s : Session) (i : session_record_in_ranges s ≡ true) (buf : List ℕ) where
  first_tests : (x : CallEffect) → OtherStep (step_of_effect s buf x) → OtherStep (step_if_admitted s buf x)
  unfolding step_if_admitted
  first_tests x f =
      if_ind OtherStep _ _ _ (λ t z. omega arith)
      (λ t. if_ind OtherStep _ _ _ (λ u. no (sym (ap not i) ∙ u)) (λ u. f))

  next_other : (x : NextAction) → OtherStep (step_of_next s.count buf x)
  next_other x = goes_other (step_of_next s.count buf x).reply.answer (next_goes s.count buf x)

  running_other : (p : Phase) (next : AwaitedResponse → NextAction)
      → OtherStep (step_of_effect s buf (effect_if_running p next))
  running_other Phase.Fresh next = λ z. omega arith
  running_other (Phase.Waiting w) next = next_other (next w)
  running_other (Phase.Ended e) next = λ z. omega arith

  answer_other : (card : List ℕ) → OtherStep (answer_step s card buf)
  answer_other card = first_tests _ (running_other s.phase (next_on_response (store_bytes s) card))

  broken_other : (n : ℕ) → OtherStep (abort_step s n buf)
  broken_other n = first_tests _ (running_other s.phase (broken s n))

  loaded_other : (bytes : List ℕ) (x : LoadedStore) → load_start_bytes (store_bytes s) bytes ≡ x
      → OtherStep (step_of_effect s buf (start_effect_after_loading x))
  loaded_other bytes (refusal n) e = λ z. omega (arith, load_most (store_bytes s) bytes n e)
  loaded_other bytes (loaded b) e = next_other (request_gpo (store_with_tvr b zero_tvr))

  start_other : (bytes : List ℕ) → OtherStep (start_step s bytes buf)
  start_other bytes = first_tests _ (go s.phase)
    where
      go : (p : Phase) → OtherStep (step_of_effect s buf (start_effect p (store_bytes s) bytes))
      go Phase.Fresh = loaded_other bytes (load_start_bytes (store_bytes s) bytes) refl
      go (Phase.Waiting w) = λ z. omega arith
      go (Phase.Ended e) = λ z. omega arith

-- no call on a session in its ranges is refused with 25
pub never_ranges : (s : Session) (c : Call) → session_record_in_ranges s ≡ true → Other (call_step s c).reply.answer
never_ranges s (start bytes buf) i = start_other s i buf bytes
never_ranges s (answer card buf) i = answer_other s i buf card
never_ranges s (link_failed buf) i = broken_other s i buf reason_link
never_ranges s (stop buf) i = broken_other s i buf reason_stopped
