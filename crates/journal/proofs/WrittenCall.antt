-- A call that is taken, with any bytes and any buffer, is read back from its record as a call with the same reply: an
-- answer too long for a record is read as another such one (`answer_long`), the buffer as zeros (`WrittenBuffer`), and
-- a start too long for a record is refused.
-- Assumes nothing.
use Rattle.std.specs.Prelude.{Some}
use mathlib.Core.Path.{◌≡◌, refl, sym, ap, ap₂, ◌∙◌}
use mathlib.Core.Bool.{true, false}
use mathlib.Core.Logic.{inl, inr}
use mathlib.Core.List.{List, [], ◌∷◌}
use Prim.Native.Nat.{ℕ, ◌+◌, ◌-◌, ◌≤◌, ◌<◌}
use native.Mathlib.Omega.{arith}
use lib.ListN.{length, get_or, replicate, length-append, length-replicate}
use borrow.Author.Tests.{le-leb, lt-leb}
use Rattle.basics.specs.Choice.{if}
use Rattle.basics.proofs.Laws.{if_yes, if_no, if_ind}
use Rattle.basics.proofs.Order.{le-or-gt}
use Rattle.basics.proofs.Alike.{alike_refl}
use Rattle.session_record.specs.declared.Phase.{Phase}
use Rattle.session_record.specs.declared.Session.{Session}
use Rattle.session_record.specs.declared.Reply.{Reply}
use Rattle.session_record.specs.Session.{store_bytes}
use Rattle.start_data.specs.StartData.{LoadedStore}
use Rattle.start_data.proofs.Ways.{load_long}
use Rattle.session.specs.Steps.{Step, step_of_effect, step_if_admitted}
use Rattle.session.specs.Start.{start_effect_after_loading, start_effect, start_step}
use Rattle.session.specs.Answer.{answer_step}
use Rattle.session.specs.Calls.{Call, start, answer, link_failed, stop, call_step, is_refusal}
use Rattle.basics.proofs.Laws.{no}
use Rattle.step_laws.proofs.Long.{answer_long}
use Rattle.step_laws.proofs.EveryCall.{Came, buffer_length, start_came, answer_came, link_came, stop_came}
use Rattle.journal.specs.Record.{journal_record_size, length_then_padded_bytes, journal_command_buffer}
use Rattle.journal.specs.Record.{answer_of259_zero_bytes, journal_call_record, call_from_journal_record}
use Rattle.journal.specs.Verdict.{expected_next_of_session_and_due_reply, judge_call, judge_record}
use Rattle.journal.proofs.Walk.{reply_expected_after}
use Rattle.journal.proofs.Due.{whole_is, reply_due}
use Rattle.journal.proofs.Back.{start_back, answer_back, long_back, link_back, stop_back}
use Rattle.journal.proofs.WrittenBuffer.{room, buffer_same, same_reply, same_due, due_by}

-- ---- a start with over 1,024 bytes is refused

module _ (s : Session) (v buf : List ℕ) (h : 1024 < length v) where
  over_in : (p : Phase) → is_refusal (step_of_effect s buf (start_effect p (store_bytes s) v)).reply.answer ≡ true
  over_in Phase.Fresh =
      ap (λ (x : LoadedStore). is_refusal (step_of_effect s buf (start_effect_after_loading x)).reply.answer)
      (load_long (store_bytes s) v h)
  over_in (Phase.Waiting w) = refl
  over_in (Phase.Ended e) = refl

  start_over : is_refusal (start_step s v buf).reply.answer ≡ true
  unfolding step_if_admitted
  start_over = if_ind P _ _ _ (λ e. refl) (λ e. if_ind P _ _ _ (λ r. refl) (λ r. over_in s.phase))
    where
      P : Step → Type 0
      P x = is_refusal x.reply.answer ≡ true

-- ---- the call that its record is read as

pub record Read (s : Session) (c : Call) : Type 0 where
  pub call : Call
  pub back : call_from_journal_record (journal_call_record c) ≡ Some call
  pub came : Came s journal_command_buffer (call_step s call)
  pub reply : (call_step s c).reply ≡ (call_step s call).reply
  pub due : due_by (call_step s c) ≡ due_by (call_step s call)
  pub sized : length (journal_call_record c) ≡ journal_record_size (get_or (journal_call_record c) 0 0)
  pub there : 0 < length (journal_call_record c)

lent_room : 261 ≤ length journal_command_buffer
lent_room = omega (arith, length-replicate {A = ℕ} 261 0)

sized_length : (k n : ℕ) (v : List ℕ) → length v ≤ n → length (k ∷ length_then_padded_bytes n v) ≡ n + 3
sized_length k n v h = omega (
  arith,
  length-append v (replicate (n - length v) 0),
  length-replicate {A = ℕ}
      (n - length v) 0,
)

read_start : (s : Session) (v buf : List ℕ) → is_refusal (start_step s v buf).reply.answer ≡ false → length v ≤ 1024
    → Read s (start v buf)
unfolding journal_record_size if
read_start s v buf r h =
    let w = buffer_same s journal_command_buffer lent_room (start v buf) (room s (start v buf) r) in
    record {
      call = start v journal_command_buffer;
      back = start_back v h;
      came = start_came s v journal_command_buffer;
      reply = same_reply w;
      due = same_due w;
      sized = sized_length 1 1024 v h;
      there = omega arith;
    }

read_answer : (s : Session) (v buf : List ℕ) → is_refusal (answer_step s v buf).reply.answer ≡ false → length v ≤ 258
    → Read s (answer v buf)
unfolding journal_record_size if
read_answer s v buf r h =
    let w = buffer_same s journal_command_buffer lent_room (answer v buf) (room s (answer v buf) r) in
    record {
      call = answer v journal_command_buffer;
      back = answer_back v h;
      came = answer_came s v journal_command_buffer;
      reply = same_reply w;
      due = same_due w;
      sized = ap (λ (b : List ℕ). length (2 ∷ b)) (if_yes _ _ (le-leb (length v) 258 h)) ∙ sized_length 2 258 v h;
      there = omega arith;
    }

read_long : (s : Session) (v buf : List ℕ) → is_refusal (answer_step s v buf).reply.answer ≡ false → 258 < length v
    → Read s (answer v buf)
unfolding journal_record_size if
read_long s v buf r h =
    let w = buffer_same s journal_command_buffer lent_room (answer v buf) (room s (answer v buf) r) in
    let e : answer_step s v journal_command_buffer ≡ answer_step s answer_of259_zero_bytes journal_command_buffer =
    answer_long s v answer_of259_zero_bytes journal_command_buffer h (omega (arith, length-replicate {A = ℕ} 259 0)) in
    record {
      call = answer answer_of259_zero_bytes journal_command_buffer;
      back = long_back v h;
      came = answer_came s answer_of259_zero_bytes journal_command_buffer;
      reply = same_reply w ∙ ap (λ (st : Step). st.reply) e;
      due = same_due w ∙ ap due_by e;
      sized = ap (λ (b : List ℕ). length (2 ∷ b)) (if_no _ _ (lt-leb (length v) 258 h));
      there = omega arith;
    }

pub read : (s : Session) (c : Call) → is_refusal (call_step s c).reply.answer ≡ false → Read s c
unfolding journal_record_size if
read s (start v buf) r = elim (le-or-gt (length v) 1024) [
  | inl h ↦ read_start s v buf r h
  | inr h ↦ no (sym r ∙ start_over s v buf h)
]
read s (answer v buf) r = elim (le-or-gt (length v) 258) [
  | inl h ↦ read_answer s v buf r h
  | inr h ↦ read_long s v buf r h
]
read s (link_failed buf) r =
    let w = buffer_same s journal_command_buffer lent_room (link_failed buf) (room s (link_failed buf) r) in
    record {
      call = link_failed journal_command_buffer;
      back = link_back;
      came = link_came s journal_command_buffer;
      reply =
          same_reply w;
      due = same_due w;
      sized = refl;
      there = omega arith;
    }
read s (stop buf) r =
    let w = buffer_same s journal_command_buffer lent_room (stop buf) (room s (stop buf) r) in
    record {
      call = stop journal_command_buffer;
      back = stop_back;
      came = stop_came s journal_command_buffer;
      reply =
          same_reply w;
      due = same_due w;
      sized = refl;
      there = omega arith;
    }

-- ---- its reply

module _ {s : Session} where
  reply_there : {st : Step} → Came s journal_command_buffer st → is_refusal st.reply.answer ≡ false
      → 0 < length (due_by st)
  reply_there (Came.refused n) r = no (sym r)
  reply_there (Came.ended y b o n) r = omega arith
  reply_there (Came.sent b p c l) r = omega arith

  pub reply_some : {st : Step} → Came s journal_command_buffer st → is_refusal st.reply.answer ≡ false
      → reply_expected_after st ≡ Some (expected_next_of_session_and_due_reply st.reply.session (due_by st))
  reply_some (Came.refused n) r = no (sym r)
  reply_some (Came.ended y b o n) r = refl
  reply_some (Came.sent b p c l) r = refl

  reply_sized : {st : Step} → Came s journal_command_buffer st → is_refusal st.reply.answer ≡ false
      → length (due_by st) ≡ journal_record_size (get_or (due_by st) 0 0)
  unfolding journal_record_size if
  reply_sized (Came.refused n) r = no (sym r)
  reply_sized (Came.ended y b o n) r = refl
  reply_sized (Came.sent b p c l) r =
      ap length (sym (whole_is {s = s} (Came.sent b p c l))) ∙
      (let e = buffer_length {s = s} {buf = journal_command_buffer} (Came.sent b p c l) in omega arith)

-- ---- the two records

module _ (s : Session) (c : Call) (r : is_refusal (call_step s c).reply.answer ≡ false) where
  answered : is_refusal (call_step s (read s c r).call).reply.answer ≡ false
  answered = sym (ap (λ (q : Reply). is_refusal q.answer) (read s c r).reply) ∙ r

  pub call_judged : judge_record (expected_next_of_session_and_due_reply s []) (journal_call_record c)
      ≡ Some (expected_next_of_session_and_due_reply (call_step s c).reply.session (due_by (call_step s c)))
  call_judged =
      ap (judge_call s) (read s c r).back ∙ reply_some (read s c r).came answered
      ∙ ap₂ (λ (q : Reply) (d : List ℕ). Some (expected_next_of_session_and_due_reply q.session d)) (sym (read s c r).reply)
      (sym (read s c r).due)

  pub due_there : 0 < length (due_by (call_step s c))
  due_there = rw (read s c r).due (reply_there (read s c r).came answered)

  pub due_sized : length (due_by (call_step s c)) ≡ journal_record_size (get_or (due_by (call_step s c)) 0 0)
  due_sized = rw (read s c r).due (reply_sized (read s c r).came answered)

  pub due_judged : judge_record (expected_next_of_session_and_due_reply (call_step s c).reply.session (due_by (call_step s c)))
      (due_by (call_step s c)) ≡ Some (expected_next_of_session_and_due_reply (call_step s c).reply.session [])
  due_judged = reply_due (call_step s c).reply.session (due_by (call_step s c)) (due_by (call_step s c)) due_there ∙ if_yes
      _ _ (alike_refl (due_by (call_step s c)))
