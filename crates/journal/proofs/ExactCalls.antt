-- Conforming records of bytes are written by calls: two records at a time, the call that the first stands for is
-- written as it (`ExactCall`), and the second is its reply.
-- Assumes nothing.
use Rattle.std.specs.Prelude.{Option, Some, None}
use mathlib.Core.Path.{◌≡◌, refl, sym, ap, ap₂, subst, ◌∙◌}
use mathlib.Core.Bool.{Bool, true, false, not}
use mathlib.Core.List.{List, [], ◌∷◌, ◌++◌}
use Prim.Native.Nat.{ℕ, suc, ◌<◌}
use native.Mathlib.Omega.{arith}
use lib.ListN.{length, take}
use Rattle.basics.specs.Choice.{every}
use Rattle.basics.specs.Alike.{bytes_equal}
use Rattle.basics.proofs.Laws.{if_no, if_ind, both_yes}
use Rattle.basics.proofs.Alike.{alike_eq}
use Rattle.session_record.specs.declared.Session.{Session}
use Rattle.session.specs.Steps.{Step}
use Rattle.session.specs.Calls.{Call, CallMade, call_step, play_calls, is_refusal, call_refused}
use Rattle.step_laws.proofs.EveryCall.{Came}
use Rattle.journal.specs.Record.{journal_call_record, call_from_journal_record, journal_records_of, journal_of_records}
use Rattle.journal.specs.Verdict.{ExpectedNext, expected_next_of_session_and_due_reply, judge_call, judge_record, judge_record_by}
use Rattle.journal.specs.ConformingRecords.{AllEntriesBelow256, CallBytesAllBelow256}
use Rattle.journal.specs.ConformingRecords.{ByteCallsWriteJournalBeginningWith}
use Rattle.journal.proofs.Walk.{reply_expected_after}
use Rattle.journal.proofs.Kept.{call_came}
use Rattle.journal.proofs.WrittenBuffer.{due_by}
use Rattle.journal.proofs.Written.{Walks}
use Rattle.journal.proofs.ExactCall.{same_some, nothing, bytes_front, bytes_behind, call_is, call_bytes}

-- ---- a record where a call is expected

-- it is written by a call that is taken, and the call's reply is expected after it
record Taken (s : Session) (r : List ℕ) (t : ExpectedNext) : Type 0 where
  call : Call
  written : journal_call_record call ≡ r
  bytes : CallBytesAllBelow256 call
  taken : is_refusal (call_step s call).reply.answer ≡ false
  due : t ≡ expected_next_of_session_and_due_reply (call_step s call).reply.session (due_by (call_step s call))
  there : 0 < length t.due

-- what a call that is taken leaves expected
record Answered (st : Step) (t : ExpectedNext) : Type 0 where
  taken : is_refusal st.reply.answer ≡ false
  due : t ≡ expected_next_of_session_and_due_reply st.reply.session (due_by st)
  there : 0 < length t.due

replied_by : {s : Session} {buf : List ℕ} {st : Step} (t : ExpectedNext) → Came s buf st
    → reply_expected_after st ≡ Some t → Answered st t
replied_by t (Came.refused n) e = nothing e
replied_by t (Came.ended y b o n) e =
    let d = same_some e in
    record { taken = refl; due = sym d; there = omega (arith, ap (λ (x : ExpectedNext). length x.due) d) }
replied_by t (Came.sent b p c l) e =
    let d = same_some e in
    record { taken = refl; due = sym d; there = omega (arith, ap (λ (x : ExpectedNext). length x.due) d) }

taken_by_lem : (s : Session) (r : List ℕ) (t : ExpectedNext) (o : Option Call)
    → ((c : Call) → o ≡ Some c → (journal_call_record c ≡ r) × CallBytesAllBelow256 c) → judge_call s o ≡ Some t
    → Taken s r t
taken_by_lem s r t None f e = nothing e
taken_by_lem s r t (Some c) f e =
    let w = replied_by t (call_came s c) e in
    record { call = c; written = (f c refl).0; bytes = (f c refl).1; taken = w.taken; due = w.due; there = w.there }

-- ---- a record where a reply is expected is that reply

record Replied (e : ExpectedNext) (r : List ℕ) (t : ExpectedNext) : Type 0 where
  reply : e.due ≡ r
  then : t ≡ expected_next_of_session_and_due_reply e.session []

replied_is : (s : Session) (d r : List ℕ) (t : ExpectedNext) → 0 < length d → judge_record_by s d r ≡ Some t
    → Replied (expected_next_of_session_and_due_reply s d) r t
replied_is s [] r t h = absurd (omega arith)
replied_is s (b ∷ d) r t h =
    if_ind (λ (o : Option ExpectedNext). o ≡ Some t → Replied (expected_next_of_session_and_due_reply s (b ∷ d)) r t) (bytes_equal r (b ∷ d)) _ _
    (λ w e. record { reply = sym (alike_eq r (b ∷ d) w); then = sym (same_some e) }) (λ w e. nothing e)

-- ---- one more call before it

journal_cons : (s : Session) (c : Call) (cs : List Call) → is_refusal (call_step s c).reply.answer ≡ false
    → journal_records_of (play_calls s (c ∷ cs)) ≡ journal_call_record c ∷ due_by (call_step s c) ∷ journal_records_of
    (play_calls (call_step s c).reply.session cs)
unfolding journal_records_of play_calls
journal_cons s c cs r = if_no _ _ r

abbrev none_refused : List CallMade → Bool
none_refused ms = every (λ (m : CallMade). not (call_refused m)) ms

taken_cons : (s : Session) (c : Call) (cs : List Call) → is_refusal (call_step s c).reply.answer ≡ false
    → none_refused (play_calls (call_step s c).reply.session cs) ≡ true → none_refused (play_calls s (c ∷ cs)) ≡ true
unfolding every play_calls
taken_cons s c cs r h = both_yes _ _ (ap not r) h

no_calls : (s : Session) → ByteCallsWriteJournalBeginningWith s []
unfolding every play_calls
no_calls s = record { writes = record { calls = []; taken = refl; first = refl }; bytes = tt }

module _ (s : Session) (r : List ℕ) (t : ExpectedNext) (w : Taken s r t) where
  abbrev next : Session
  next = (call_step s w.call).reply.session

  one_record : ByteCallsWriteJournalBeginningWith s (r ∷ [])
  unfolding no_calls
  one_record =
      record {
        writes =
            record {
              calls = w.call ∷ [];
              taken = taken_cons s w.call [] w.taken (no_calls next).writes.taken;
              first = ap (take 1) (journal_cons s w.call [] w.taken) ∙ ap (λ (x : List ℕ). x ∷ []) w.written;
            };
        bytes = (w.bytes, tt);
      }

  two_records : (rs : List (List ℕ)) → ByteCallsWriteJournalBeginningWith next rs
      → ByteCallsWriteJournalBeginningWith s (r ∷ due_by (call_step s w.call) ∷ rs)
  two_records rs k =
      record {
        writes =
            record {
              calls = w.call ∷ k.writes.calls;
              taken = taken_cons s w.call k.writes.calls w.taken k.writes.taken;
              first =
                  ap (take (suc (suc (length rs)))) (journal_cons s w.call k.writes.calls w.taken)
                  ∙ ap₂ (λ (x : List ℕ) (l : List (List ℕ)). x ∷ due_by (call_step s w.call) ∷ l) w.written
                  k.writes.first;
            };
        bytes = (w.bytes, k.bytes);
      }

-- ---- all of them

pub writes : {e u : ExpectedNext} {rs : List (List ℕ)} → Walks e rs u → (s : Session) → e ≡ expected_next_of_session_and_due_reply s []
    → AllEntriesBelow256 (journal_of_records rs) → ByteCallsWriteJournalBeginningWith s rs
unfolding journal_of_records
writes Walks.done s q g = no_calls s
writes (Walks.next {t = t} {r = r} h z j Walks.done) s q g =
    one_record s r t
    (taken_by_lem s r t (call_from_journal_record r) (λ c e. let b = bytes_front r [] g in
    (call_is r c b z e, call_bytes r c b e)) (sym (ap (λ (x : ExpectedNext). judge_record x r) q) ∙ j))
writes (Walks.next {t = t} {r = r} h z j (Walks.next {t = t'} {r = r'} {rs = rs} h' z' j' w)) s q g =
    let a = taken_by_lem s r t (call_from_journal_record r) (λ c e. let b = bytes_front r (r' ++ journal_of_records rs) g in
    (call_is r c b z e, call_bytes r c b e)) (sym (ap (λ (x : ExpectedNext). judge_record x r) q) ∙ j) in
    let b = replied_is t.session t.due r' t' a.there j' in
    let n : t.session ≡ (call_step s a.call).reply.session = ap (λ (x : ExpectedNext). x.session) a.due in
    let d : due_by (call_step s a.call) ≡ r' = sym (ap (λ (x : ExpectedNext). x.due) a.due) ∙ b.reply in
    subst (λ (x : List ℕ). ByteCallsWriteJournalBeginningWith s (r ∷ x ∷ rs)) d
    (two_records s r t a rs
    (writes w (call_step s a.call).reply.session (b.then ∙ ap (λ (x : Session). expected_next_of_session_and_due_reply x []) n)
    (bytes_behind r' (journal_of_records rs) (bytes_behind r (r' ++ journal_of_records rs) g))))
