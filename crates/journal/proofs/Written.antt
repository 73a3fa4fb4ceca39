-- What calls write is accepted, however many of the records were written: record by record, what follows the records is
-- expected next, and the verdict of all bytes is the verdict of those after.
-- Assumes nothing.
use Rattle.std.specs.Prelude.{Some}
use mathlib.Core.Path.{◌≡◌, refl, sym, ap, subst, ◌∙◌}
use mathlib.Core.Bool.{true, false}
use mathlib.Core.List.{List, [], ◌∷◌, ◌++◌, append-nil, append_assoc}
use Prim.Native.Nat.{ℕ, zero, suc, ◌+◌, ◌≤◌, ◌<◌}
use native.Mathlib.Omega.{arith}
use lib.ListN.{length, get_or, take}
use lib.Seq.{length-take-le}
use Rattle.basics.proofs.Laws.{if_ind}
use Rattle.session_record.specs.declared.Session.{Session}
use Rattle.session_record.specs.Session.{fresh_session}
use Rattle.session.specs.Steps.{Step}
use Rattle.session.specs.Calls.{Call, call_step, is_refusal, play_calls}
use Rattle.basics.proofs.Laws.{no}
use Rattle.step_laws.proofs.EveryCall.{Came}
use Rattle.journal.specs.declared.JournalVerdict.{JournalVerdict}
use Rattle.journal.specs.Record.{journal_record_size, journal_call_record, journal_records_of, journal_of_records}
use Rattle.journal.specs.Verdict.{ExpectedNext, expected_next_of_session_and_due_reply, expected_at_start, judge_record, verdict_from}
use Rattle.journal.specs.Verdict.{journal_verdict_of}
use Rattle.journal.proofs.Walk.{verdict_continues, ends, whole}
use Rattle.journal.proofs.Kept.{call_came}
use Rattle.journal.proofs.Few.{accepted_few}
use Rattle.journal.proofs.WrittenBuffer.{due_by}
use Rattle.journal.proofs.WrittenCall.{read, call_judged, due_there, due_sized, due_judged}

-- ---- conforming records, from what is expected before them to what is expected after

pub data Walks : ExpectedNext → List (List ℕ) → ExpectedNext → Type 0 where
  done : {e : ExpectedNext} → Walks e [] e
  next : {e t u : ExpectedNext} {r : List ℕ} {rs : List (List ℕ)} → 0 < length r
      → length r ≡ journal_record_size (get_or r 0 0) → judge_record e r ≡ Some t → Walks t rs u
      → Walks e (r ∷ rs) u

pub record Walked (e : ExpectedNext) (rs : List (List ℕ)) : Type 0 where
  pub last : ExpectedNext
  pub walks : Walks e rs last

-- the verdict is that of the bytes after
pub verdict_behind : {e u : ExpectedNext} {rs : List (List ℕ)} (n : ℕ) (more : List ℕ) → Walks e rs u
    → verdict_from e n (journal_of_records rs ++ more) ≡ verdict_from u (n + length rs) more
unfolding journal_of_records
verdict_behind {e} n more Walks.done = let g : n ≡ n + 0 = omega arith in ap (λ (m : ℕ). verdict_from e m more) g
verdict_behind {e} n more (Walks.next {t = t} {u = u} {r = r} {rs = rs} h z j w) =
    let g : n + 1 + length rs ≡ n + suc (length rs) = omega arith in
    ap (verdict_from e n) (append_assoc r (journal_of_records rs) more) ∙ whole e n r (journal_of_records rs ++ more) h z
    ∙ ap (verdict_continues (λ x. verdict_from x (n + 1) (journal_of_records rs ++ more)) (n + 1)) j ∙ verdict_behind
    (n + 1) more w
    ∙ ap (λ (m : ℕ). verdict_from u m more) g

-- ---- what calls write

refused_same : {s : Session} {buf : List ℕ} {st : Step} → Came s buf st → is_refusal st.reply.answer ≡ true
    → st.reply.session ≡ s
refused_same (Came.refused n) r = refl
refused_same (Came.ended y b o n) r = no r
refused_same (Came.sent b p c l) r = no r

abbrev AllWalked : Session → List (List ℕ) → Type 0
AllWalked s rs = (m : ℕ) → Walked (expected_next_of_session_and_due_reply s []) (take m rs)

no_records : (s : Session) → AllWalked s []
no_records s zero = record { last = expected_next_of_session_and_due_reply s []; walks = Walks.done }
no_records s (suc m) = record { last = expected_next_of_session_and_due_reply s []; walks = Walks.done }

two_records : (s : Session) (c : Call) (r : is_refusal (call_step s c).reply.answer ≡ false) (rs : List (List ℕ))
    → AllWalked (call_step s c).reply.session rs → AllWalked s (journal_call_record c ∷ due_by (call_step s c) ∷ rs)
two_records s c r rs k zero = record { last = expected_next_of_session_and_due_reply s []; walks = Walks.done }
two_records s c r rs k (suc zero) =
    record {
      last = expected_next_of_session_and_due_reply (call_step s c).reply.session (due_by (call_step s c));
      walks = Walks.next (read s c r).there (read s c r).sized (call_judged s c r) Walks.done;
    }
two_records s c r rs k (suc (suc m)) =
    record {
      last = (k m).last;
      walks =
          Walks.next (read s c r).there (read s c r).sized (call_judged s c r)
          (Walks.next (due_there s c r) (due_sized s c r) (due_judged s c r) (k m).walks);
    }

-- a call that is refused leaves the session, and is not written
pub all_walked : (s : Session) (cs : List Call) → AllWalked s (journal_records_of (play_calls s cs))
unfolding journal_records_of play_calls
all_walked s [] = no_records s
all_walked s (c ∷ cs) =
    if_ind (AllWalked s) (is_refusal (call_step s c).reply.answer) _ _
    (λ r. subst (λ (t : Session). AllWalked t (journal_records_of (play_calls (call_step s c).reply.session cs)))
    (refused_same (call_came s c) r) (all_walked (call_step s c).reply.session cs))
    (λ r. two_records s c r (journal_records_of (play_calls (call_step s c).reply.session cs))
    (all_walked (call_step s c).reply.session cs))

-- the first m records of what calls on a fresh session write, refused ones among them, are accepted, and m is
-- their number
pub written_accepted : (cs : List Call) (m : ℕ) → m ≤ length (journal_records_of (play_calls fresh_session cs))
    → journal_verdict_of (journal_of_records (take m (journal_records_of (play_calls fresh_session cs))))
    ≡ JournalVerdict.Accepted m
unfolding journal_verdict_of
written_accepted cs m h =
    let rs = take m (journal_records_of (play_calls fresh_session cs)) in
    let w = all_walked fresh_session cs m in
    let e : 0 + length rs ≡ m = omega (arith, length-take-le m (journal_records_of (play_calls fresh_session cs)) h) in
    ap (verdict_from expected_at_start 0) (sym (append-nil (journal_of_records rs))) ∙ verdict_behind 0 [] w.walks ∙ ends
    w.last (0 + length rs) ∙ ap JournalVerdict.Accepted e

-- so no calls write more than 262 records
pub written_few : (cs : List Call) → length (journal_records_of (play_calls fresh_session cs)) ≤ 262
written_few cs = accepted_few _ _ (written_accepted cs (length (journal_records_of (play_calls fresh_session cs)))
    (omega arith))
