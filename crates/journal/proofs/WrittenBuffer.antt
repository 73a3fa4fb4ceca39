-- What a call answers and the command that it hands out do not depend on what is in the caller's buffer: what a call
-- does goes by the session and the bytes that come in, and the buffer is added to it last.
-- Assumes nothing.
use mathlib.Core.Path.{◌≡◌, refl, sym, ap, ◌∙◌}
use mathlib.Core.Bool.{Bool, true, false, not}
use mathlib.Core.Logic.{inl, inr}
use mathlib.Core.List.{List, ◌∷◌, ◌++◌}
use Prim.Native.Nat.{ℕ, ◌≤◌, ◌<◌}
use lib.ListN.{length, drop}
use lib.Seq.{take-append_seam}
use borrow.Author.Tests.{lt-ltb, le-ltb}
use Rattle.basics.specs.Choice.{if}
use Rattle.basics.specs.Reason.{refusal_buffer_too_small, refusal_record_out_of_ranges}
use Rattle.basics.proofs.Laws.{no, if_yes, if_no}
use Rattle.basics.proofs.Order.{le-or-gt}
use Rattle.session_record.specs.declared.Session.{Session}
use Rattle.session_record.specs.Ranges.{session_record_in_ranges}
use Rattle.session.specs.Steps.{NextAction, ask, end, Step, CallEffect, refuse, follow, step_of_next, refused_step}
use Rattle.session.specs.Steps.{step_of_effect, step_if_admitted}
use Rattle.session.specs.Calls.{Call, start, answer, link_failed, stop, call_step, is_refusal}
use Rattle.journal.specs.Record.{length_in_two_bytes, zero_padded, most_command_bytes_in_journal_record}
use Rattle.journal.specs.Record.{journal_reply_record}

-- ---- the same step in two buffers

-- refused, or the same follows
pub data SameStep (s : Session) (buf other : List ℕ) : Step → Step → Type 0 where
  refused : (n : ℕ) → SameStep s buf other (refused_step s n buf) (refused_step s n other)
  follows : (x : NextAction) → SameStep s buf other (step_of_next s.count buf x) (step_of_next s.count other x)

if_both : {A B : Type 0} (R : A → B → Type 0) (b : Bool) {x y : A} {v w : B} → R x v → R y w → R (if b x y) (if b v w)
unfolding if
if_both R true p q = p
if_both R false p q = q

effect_same : (s : Session) (buf other : List ℕ) (x : CallEffect)
    → SameStep s buf other (step_of_effect s buf x) (step_of_effect s other x)
effect_same s buf other (refuse n) = SameStep.refused n
effect_same s buf other (follow x) = SameStep.follows x

-- ---- the refusals that every call checks first

long_enough : (s : Session) (buf : List ℕ) (x : CallEffect) → 261 ≤ length buf
    → step_if_admitted s buf x ≡ if (not (session_record_in_ranges s)) (refused_step s refusal_record_out_of_ranges buf)
    (step_of_effect s buf x)
unfolding step_if_admitted
long_enough s buf x h = if_no _ _ (le-ltb (length buf) 261 h)

too_short : (s : Session) (buf : List ℕ) (x : CallEffect) → length buf < 261
    → step_if_admitted s buf x ≡ refused_step s refusal_buffer_too_small buf
unfolding step_if_admitted
too_short s buf x h = if_yes _ _ (lt-ltb (length buf) 261 h)

admitted_room : (s : Session) (buf : List ℕ) (x : CallEffect) → is_refusal (step_if_admitted s buf x).reply.answer
    ≡ false → 261 ≤ length buf
admitted_room s buf x r = elim (le-or-gt 261 (length buf)) [
  | inl h ↦ h
  | inr h ↦ no (sym r ∙ ap (λ (y : Step). is_refusal y.reply.answer) (too_short s buf x h))
]

admitted_same : (s : Session) (buf other : List ℕ) (x : CallEffect) → 261 ≤ length buf → 261 ≤ length other
    → SameStep s buf other (step_if_admitted s buf x) (step_if_admitted s other x)
admitted_same s buf other x h k =
    rw (long_enough s buf x h, long_enough s other x k)
    (if_both (SameStep s buf other) _ (SameStep.refused refusal_record_out_of_ranges) (effect_same s buf other x))

-- ---- a call with another buffer

abbrev pub buffer_of : Call → List ℕ
buffer_of (start bytes buf) = buf
buffer_of (answer card buf) = buf
buffer_of (link_failed buf) = buf
buffer_of (stop buf) = buf

abbrev pub with_buffer : List ℕ → Call → Call
with_buffer other (start bytes buf) = start bytes other
with_buffer other (answer card buf) = answer card other
with_buffer other (link_failed buf) = link_failed other
with_buffer other (stop buf) = stop other

-- a call that is not refused was given a buffer that is long enough
pub room : (s : Session) (c : Call) → is_refusal (call_step s c).reply.answer ≡ false → 261 ≤ length (buffer_of c)
room s (start bytes buf) r = admitted_room s buf _ r
room s (answer card buf) r = admitted_room s buf _ r
room s (link_failed buf) r = admitted_room s buf _ r
room s (stop buf) r = admitted_room s buf _ r

module _ (s : Session) (other : List ℕ) (k : 261 ≤ length other) where
  pub buffer_same : (c : Call) → 261 ≤ length (buffer_of c)
      → SameStep s (buffer_of c) other (call_step s c) (call_step s (with_buffer other c))
  buffer_same (start bytes buf) h = admitted_same s buf other _ h k
  buffer_same (answer card buf) h = admitted_same s buf other _ h k
  buffer_same (link_failed buf) h = admitted_same s buf other _ h k
  buffer_same (stop buf) h = admitted_same s buf other _ h k

-- ---- so the reply is the same, and its record

pub same_reply : {s : Session} {buf other : List ℕ} {st st' : Step} → SameStep s buf other st st'
    → st.reply ≡ st'.reply
same_reply (SameStep.refused n) = refl
same_reply (SameStep.follows (ask c w b)) = refl
same_reply (SameStep.follows (end e m b)) = refl

abbrev pub due_by : Step → List ℕ
due_by st = journal_reply_record st.reply.answer st.buffer

pub same_due : {s : Session} {buf other : List ℕ} {st st' : Step} → SameStep s buf other st st' → due_by st ≡ due_by st'
same_due (SameStep.refused n) = refl
same_due (SameStep.follows (end e m b)) = refl
same_due {s} {buf} {other} (SameStep.follows (ask c w b)) =
    ap (λ (v : List ℕ). 5 ∷ (length_in_two_bytes (length c) ++ zero_padded most_command_bytes_in_journal_record v))
    (take-append_seam c (drop (length c) buf) ∙ sym (take-append_seam c (drop (length c) other)))
