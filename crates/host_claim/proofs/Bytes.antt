-- One call over bytes that hold a session is the session's call: the record of the session that it leaves lies at the
-- front of the same bytes, and is read back by the next call. A record over a record leaves what one record leaves.
-- Assumes nothing.
use Rattle.std.specs.Prelude.{Some}
use mathlib.Core.Path.{◌≡◌, sym, ap, ◌∙◌}
use mathlib.Core.Bool.{true}
use mathlib.Core.Logic.{inl, inr}
use mathlib.Core.List.{List, ◌++◌}
use Prim.Native.Nat.{ℕ, ◌≤◌}
use native.Mathlib.Omega.{arith}
use lib.Dec.{ltb}
use lib.ListN.{length, drop, length-append}
use lib.Seq.{drop_at}
use borrow.Author.Tests.{le-leb}
use Rattle.basics.specs.Reason.{refusal_buffer_too_small}
use Rattle.basics.proofs.Laws.{if_yes, if_no, bool_cases}
use Rattle.session_record.specs.declared.Session.{Session}
use Rattle.session_record.specs.Ranges.{session_record_in_ranges}
use Rattle.session_record.proofs.Phases.{store_size_lem}
use Rattle.session.specs.Steps as steps
use Rattle.session.specs.Steps.{Step, CallEffect, least_buffer, step_if_admitted, link_failed_step, stop_step}
use Rattle.session.specs.Start.{start_step}
use Rattle.session.specs.Answer.{answer_step}
use Rattle.layout.specs.Layout.{session_record_size, big_endian_bytes, encoded_session, session_written_over_front_if_room}
use Rattle.layout.specs.Layout.{decoded_session}
use Rattle.layout.specs.Word.{refusal_word}
use Rattle.layout.proofs.Laws.{decode-encode, written_back, written_length}
use Rattle.session.specs.Calls.{Call, start, answer, link_failed, stop, call_step}
use Rattle.host.specs.Hosted.{host_result_of_step, host_step_or_refusal, perform_host_call_if_admitted}
use Rattle.host_claim.specs.Calls.{host_result_of_call}

-- ---- a record at the front of bytes that are enough

written : (s : Session) (l : List ℕ) → session_record_size ≤ length l → session_written_over_front_if_room s l
    ≡ encoded_session s ++ drop session_record_size l
unfolding session_written_over_front_if_room
written s l h = if_yes _ _ (le-leb session_record_size (length l) h)

module _ (s : Session) (i : session_record_in_ranges s ≡ true) (l : List ℕ) (h : session_record_size ≤ length l) where
  size : length (encoded_session s) ≡ session_record_size
  unfolding encoded_session big_endian_bytes
  size = let z = store_size_lem s i in simp length-append (omega arith)

  -- it is read back
  pub record_held : decoded_session (session_written_over_front_if_room s l) ≡ Some s
  record_held = ap decoded_session (written s l h) ∙ decode-encode s (drop session_record_size l) (store_size_lem s i)

  -- the bytes after it stay, and all are enough as before
  pub record_behind : drop session_record_size (session_written_over_front_if_room s l) ≡ drop session_record_size l
  record_behind = ap (drop session_record_size) (written s l h) ∙ drop_at (encoded_session s) (drop session_record_size l)
      session_record_size size

  pub record_enough : session_record_size ≤ length (session_written_over_front_if_room s l)
  record_enough = omega (arith, written_length l s (store_size_lem s i))

  -- another record over it
  pub record_over : (t : Session) → session_written_over_front_if_room t (session_written_over_front_if_room s l)
      ≡ session_written_over_front_if_room t l
  record_over t =
      written t (session_written_over_front_if_room s l) record_enough ∙ ap (λ (x : List ℕ). encoded_session t ++ x)
      record_behind
      ∙ sym (written t l h)

-- ---- a call

-- a buffer that is too short is refused with 22 by both
short : (s : Session) (buf : List ℕ) (x : CallEffect) → ltb (length buf) least_buffer ≡ true
    → step_if_admitted s buf x ≡ steps.refused_step s refusal_buffer_too_small buf
unfolding step_if_admitted
short s buf x t = if_yes _ _ t

module _ (l : List ℕ) (s : Session) (e : decoded_session l ≡ Some s) where
  call_is : (f : Session → List ℕ → Step) (buf : List ℕ)
      → (ltb (length buf) least_buffer ≡ true → f s buf ≡ steps.refused_step s refusal_buffer_too_small buf)
      → perform_host_call_if_admitted f l buf ≡ host_result_of_step l (f s buf)
  unfolding perform_host_call_if_admitted
  call_is f buf u = elim (bool_cases (ltb (length buf) least_buffer)) [
    | inl t ↦
        if_yes _ _ t
        ∙ (λ i. record { word = refusal_word refusal_buffer_too_small; session = sym (written_back l s e) i; buffer = buf })
        ∙ ap (host_result_of_step l) (sym (u t))
    | inr t ↦ if_no _ _ t ∙ ap (host_step_or_refusal f l buf) e
  ]

  over_session : (c : Call) → host_result_of_call l c ≡ host_result_of_step l (call_step s c)
  over_session (start bytes buf) = call_is (λ s b. start_step s bytes b) buf (short s buf _)
  over_session (answer card buf) = call_is (λ s b. answer_step s card b) buf (short s buf _)
  over_session (link_failed buf) = call_is link_failed_step buf (short s buf _)
  over_session (stop buf) = call_is stop_step buf (short s buf _)

pub as_session : (l : List ℕ) (s : Session) (c : Call) → decoded_session l ≡ Some s
    → host_result_of_call l c ≡ host_result_of_step l (call_step s c)
as_session l s c e = over_session l s e c
