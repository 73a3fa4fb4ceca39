-- The record that is expected after a call. A command is at the front of a zero buffer, so the whole buffer is the
-- command with zeros after it.
-- Assumes nothing.
use Rattle.std.specs.Prelude.{Option, Some, None}
use mathlib.Core.Path.{◌≡◌, refl, sym, ap, ◌∙◌}
use mathlib.Core.Bool.{true}
use mathlib.Core.List.{List, [], ◌∷◌, ◌++◌}
use Prim.Native.Nat.{ℕ, zero, suc, ◌-◌, ◌<◌}
use native.Mathlib.Omega.{arith}
use lib.ListN.{length, take, drop, replicate}
use lib.Seq.{take-append_seam}
use lib.Dec.{eqb}
use lib.Pointwise.{pointwise}
use Rattle.basics.specs.Alike.{bytes_equal}
use Rattle.basics.specs.Choice.{if, both}
use Rattle.session_record.specs.declared.Session.{Session}
use Rattle.session_record.specs.declared.Reply.{Reply}
use Rattle.session.specs.Steps.{Step, ReturnsStep}
use Rattle.step_laws.proofs.EveryCall.{Came}
use Rattle.journal.specs.declared.JournalCheckState.{JournalCheckState}
use Rattle.journal.specs.Record.{length_in_two_bytes, zero_padded, most_command_bytes_in_journal_record}
use Rattle.journal.specs.Record.{journal_command_buffer, journal_reply_record}
use Rattle.journal.specs.Verdict.{ExpectedNext, expected_next_of_session_and_due_reply, expect_reply_unless_empty, judge_record_by}
use Rattle.journal.specs.Inner.{reply_record_with_whole_buffer, check_state_after_record}
use Rattle.journal.proofs.Walk.{reply_expected_after}

-- ---- zeros

drop_zeros : (k n : ℕ) → drop {A = ℕ} k (replicate n 0) ≡ replicate (n - k) 0
drop_zeros zero n = let e : n ≡ n - 0 = omega arith in ap (λ (m : ℕ). replicate m 0) e
drop_zeros (suc k) zero = let e : 0 ≡ 0 - suc k = omega arith in ap (λ (m : ℕ). replicate m 0) e
drop_zeros (suc k) (suc n) = let e : n - k ≡ suc n - suc k = omega arith in drop_zeros k n ∙ ap
    (λ (m : ℕ). replicate m 0) e

-- a command at the front of a zero buffer is the command with zeros after it
in_front : (c : List ℕ) (n : ℕ) → c ++ drop (length c) (replicate n 0)
    ≡ zero_padded n (take (length c) (c ++ drop (length c) (replicate n 0)))
in_front c n =
    ap (λ (l : List ℕ). c ++ l) (drop_zeros (length c) n)
    ∙ ap (zero_padded n) (sym (take-append_seam c (drop (length c) (replicate n 0))))

pub whole_is : {s : Session} {st : Step} → Came s journal_command_buffer st
    → reply_record_with_whole_buffer st.reply.answer st.buffer ≡ journal_reply_record st.reply.answer st.buffer
whole_is (Came.refused n) = refl
whole_is (Came.ended y b o n) = refl
whole_is (Came.sent b p c l) = ap (λ (v : List ℕ). 5 ∷ (length_in_two_bytes (length c) ++ v))
    (in_front c most_command_bytes_in_journal_record)

-- ---- the standing after a record

pub stands_as : {x : JournalCheckState} (y : JournalCheckState) {a b : Option ExpectedNext} → a ≡ b
    → x ≡ check_state_after_record y a → x ≡ check_state_after_record y b
stands_as y e h = h ∙ ap (check_state_after_record y) e

-- the reply that the code got is the step's
pub did_due : {s : Session} {st : Step} {q : Reply} {buf : List ℕ} {x : JournalCheckState} (y : JournalCheckState)
    → Came s journal_command_buffer st → ReturnsStep q buf st
    → x ≡ check_state_after_record y (expect_reply_unless_empty q.session (reply_record_with_whole_buffer q.answer buf))
    → x ≡ check_state_after_record y (reply_expected_after st)
did_due {s} {st} {q} {buf} y c d h =
    stands_as y
    (ap (λ (y : Reply). expect_reply_unless_empty y.session (reply_record_with_whole_buffer y.answer buf)) d.reply
    ∙ ap (λ (v : List ℕ). expect_reply_unless_empty st.reply.session
    (reply_record_with_whole_buffer st.reply.answer v)) d.buffer
    ∙ ap (expect_reply_unless_empty st.reply.session) (whole_is c)) h

-- ---- where a reply is expected

pub reply_due : (s : Session) (d r : List ℕ) → 0 < length d
    → judge_record_by s d r ≡ if (bytes_equal r d) (Some (expected_next_of_session_and_due_reply s [])) None
reply_due s [] r h = absurd (omega arith)
reply_due s (b ∷ d) r h = refl

-- the code's test of two slices
pub same_bytes : (s t : List ℕ) → pointwise eqb s t ≡ bytes_equal s t
unfolding bytes_equal both
same_bytes [] [] = refl
same_bytes [] (b ∷ t) = refl
same_bytes (a ∷ s) [] = refl
same_bytes (a ∷ s) (b ∷ t) = grind (arith, same_bytes s t)

-- ---- what the code builds

abbrev standing : Session → List ℕ → ℕ → JournalCheckState
standing s d n = record { session = s; due = d; size = n; conforming = true }
