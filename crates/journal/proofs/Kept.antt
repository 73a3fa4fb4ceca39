-- Two records for each call taken: a call on a session that has ended is refused, and every other call that is taken
-- hands out a command or ends the session. So a journal that is conforming so far has at most 262 records. What is
-- expected is a whole record of at most 264 bytes.
-- Assumes nothing.
use Rattle.std.specs.Prelude.{Option, Some, None}
use mathlib.Core.Path.{◌≡◌, refl, sym, ap, subst, ◌∙◌}
use mathlib.Core.Bool.{Bool, true, false}
use mathlib.Core.List.{List, [], ◌∷◌, ◌++◌}
use Prim.Native.Nat.{ℕ, ◌+◌, ◌-◌, ◌*◌, ◌≤◌, ◌<◌}
use native.Mathlib.Omega.{arith}
use lib.Dec.{eqb}
use lib.ListN.{length, get_or, take, replicate, length-append, length-take, length-replicate}
use Rattle.basics.specs.Alike.{bytes_equal}
use Rattle.basics.specs.Reason.{reason_link, reason_stopped}
use Rattle.basics.specs.Choice.{if}
use Rattle.basics.proofs.Laws.{if_ind}
use Rattle.session_record.specs.declared.Ending.{Ending}
use Rattle.session_record.specs.declared.Phase.{Phase}
use Rattle.session_record.specs.declared.Session.{Session}
use Rattle.session_record.specs.Ranges.{session_record_in_ranges}
use Rattle.session_record.proofs.Phases.{fresh_keeps, count_most}
use Rattle.session_record.specs.declared.AwaitedResponse.{AwaitedResponse}
use Rattle.session_record.specs.Session.{store_bytes, ending_for_reason}
use Rattle.session.specs.Steps.{Step, CallEffect, end, held_cvm, step_of_effect, step_if_admitted, effect_if_running}
use Rattle.session.specs.Start.{start_effect}
use Rattle.session.specs.Answer.{next_on_response}
use Rattle.session.specs.Calls.{Call, start, answer, link_failed, stop, call_step, is_refusal}
use Rattle.basics.specs.Choice.{one_if}
use Rattle.session_record.specs.Session.{is_ended}
use Rattle.step_laws.proofs.Ranges.{start_keeps, answer_keeps, link_keeps, stop_keeps}
use Rattle.basics.proofs.Laws.{no}
use Rattle.step_laws.proofs.EveryCall.{Came, start_came, answer_came, link_came, stop_came}
use Rattle.journal.specs.Record.{journal_record_size, length_in_two_bytes, zero_padded, most_command_bytes_in_journal_record}
use Rattle.journal.specs.Record.{journal_command_buffer, most_start_bytes_in_journal_record}
use Rattle.journal.specs.Record.{most_answer_bytes_in_journal_record, journal_length_and_zero_padding_valid}
use Rattle.journal.specs.Record.{is_too_long_answer_record, call_from_journal_record}
use Rattle.journal.specs.Verdict.{ExpectedNext, expected_next_of_session_and_due_reply, expected_at_start, judge_call, judge_record_by}
use Rattle.journal.specs.Verdict.{first_record_size}
use Rattle.journal.proofs.Walk.{reply_expected_after}

-- ---- what is kept from record to record

-- 1 where a reply is expected
abbrev pub due_one : List ℕ → ℕ
due_one [] = 0
due_one (b ∷ d) = 1

-- two records for each call taken, one where its reply is expected; the calls taken are the commands handed out and one
-- more once the session has ended
pub record Kept (e : ExpectedNext) (n : ℕ) : Type 0 where
  pub ranges : session_record_in_ranges e.session ≡ true
  pub few : n + due_one e.due ≤ 2 * (e.session.count + one_if (is_ended e.session.phase))
  pub fits : length e.due ≤ 264
  pub whole : 0 < length e.due → length e.due ≡ first_record_size e.due

-- ---- every call

abbrev buffer_of : Call → List ℕ
buffer_of (start bytes buf) = buf
buffer_of (answer card buf) = buf
buffer_of (link_failed buf) = buf
buffer_of (stop buf) = buf

pub call_came : (s : Session) (c : Call) → Came s (buffer_of c) (call_step s c)
call_came s (start bytes buf) = start_came s bytes buf
call_came s (answer card buf) = answer_came s card buf
call_came s (link_failed buf) = link_came s buf
call_came s (stop buf) = stop_came s buf

call_keeps : (s : Session) (c : Call) → session_record_in_ranges s ≡ true
    → session_record_in_ranges (call_step s c).reply.session ≡ true
call_keeps s (start bytes buf) i = start_keeps s bytes buf i
call_keeps s (answer card buf) i = answer_keeps s card buf i
call_keeps s (link_failed buf) i = link_keeps s buf i
call_keeps s (stop buf) i = stop_keeps s buf i

-- ---- a session that has ended takes no call

admitted_refuses : (s : Session) (buf : List ℕ) (x : CallEffect) → is_refusal (step_of_effect s buf x).reply.answer
    ≡ true → is_refusal (step_if_admitted s buf x).reply.answer ≡ true
unfolding step_if_admitted
admitted_refuses s buf x e = if_ind P _ _ _ (λ w. refl) (λ w. if_ind P _ _ _ (λ v. refl) (λ v. e))
  where
    P : Step → Type 0
    P x = is_refusal x.reply.answer ≡ true

-- what a call does by its own rules, by the phase
abbrev inside : Session → Phase → Call → CallEffect
inside s p (start bytes buf) = start_effect p (store_bytes s) bytes
inside s p (answer card buf) = effect_if_running p (next_on_response (store_bytes s) card)
inside s p (link_failed buf) = effect_if_running p (λ (w : AwaitedResponse). end (ending_for_reason reason_link) (held_cvm w)
    (store_bytes s))
inside s p (stop buf) = effect_if_running p (λ (w : AwaitedResponse). end (ending_for_reason reason_stopped) (held_cvm w)
    (store_bytes s))

step_inside : (s : Session) (c : Call) → call_step s c ≡ step_if_admitted s (buffer_of c) (inside s s.phase c)
step_inside s (start bytes buf) = refl
step_inside s (answer card buf) = refl
step_inside s (link_failed buf) = refl
step_inside s (stop buf) = refl

inside_ended : (s : Session) (c : Call) (x : Ending)
    → is_refusal (step_of_effect s (buffer_of c) (inside s (Phase.Ended x) c)).reply.answer ≡ true
inside_ended s (start bytes buf) x = refl
inside_ended s (answer card buf) x = refl
inside_ended s (link_failed buf) x = refl
inside_ended s (stop buf) x = refl

ended_refuses : (s : Session) (c : Call) (x : Ending) → s.phase ≡ Phase.Ended x
    → is_refusal (call_step s c).reply.answer ≡ true
ended_refuses s c x q =
    ap (λ (st : Step). is_refusal st.reply.answer) (step_inside s c)
    ∙ admitted_refuses s (buffer_of c) _
    (ap (λ (p : Phase). is_refusal (step_of_effect s (buffer_of c) (inside s p c)).reply.answer) q ∙ inside_ended s c x)

not_ended : (s : Session) (c : Call) (p : Phase) → s.phase ≡ p → is_refusal (call_step s c).reply.answer ≡ false
    → is_ended p ≡ false
not_ended s c Phase.Fresh q r = refl
not_ended s c (Phase.Waiting w) q r = refl
not_ended s c (Phase.Ended x) q r = no (sym r ∙ ended_refuses s c x q)

-- ---- a record's call is made with the caller's buffer

same_some : {A : Type 0} {a b : A} → Some a ≡ Some b → a ≡ b
same_some e = cc

pub nothing : {A P : Type 0} {t : A} → None ≡ Some t → P
nothing e = let z : ◌≡◌ {A = ℕ} 0 1 = cc in absurd (omega arith)

lent_call : (r : List ℕ) (c : Call) → call_from_journal_record r ≡ Some c → buffer_of c ≡ journal_command_buffer
unfolding call_from_journal_record
lent_call r c =
    if_ind Lent (eqb (get_or r 0 0) 1) _ _
    (λ w. if_ind Lent (journal_length_and_zero_padding_valid most_start_bytes_in_journal_record r) _ _ (λ v. made _ refl)
    (λ v e. nothing e))
    (λ w. if_ind Lent (eqb (get_or r 0 0) 2) _ _
    (λ w. if_ind Lent (is_too_long_answer_record r) _ _ (λ v. made _ refl)
    (λ v. if_ind Lent (journal_length_and_zero_padding_valid most_answer_bytes_in_journal_record r) _ _ (λ u. made _ refl)
    (λ u e. nothing e)))
    (λ w. if_ind Lent (eqb (get_or r 0 0) 3) _ _ (λ v. made _ refl)
    (λ v. if_ind Lent (eqb (get_or r 0 0) 4) _ _ (λ u. made _ refl) (λ u e. nothing e))))
  where
    Lent : Option Call → Type 0
    Lent o = o ≡ Some c → buffer_of c ≡ journal_command_buffer

    made : (d : Call) → buffer_of d ≡ journal_command_buffer → Lent (Some d)
    made d b e = ap buffer_of (sym (same_some e)) ∙ b

-- ---- one more record

command_size : (k : ℕ) (v : List ℕ) → k ≤ 261
    → length (5 ∷ (length_in_two_bytes k ++ zero_padded most_command_bytes_in_journal_record (take k v))) ≡ 264
command_size k v h =
    omega (
      arith,
      length-append (take k v) (replicate (261 - length (take k v)) 0),
      length-replicate {A = ℕ}
          (261 - length (take k v)) 0,
      length-take k v,
    )

came_kept : {s : Session} {buf : List ℕ} {st : Step} (n : ℕ) (t : ExpectedNext) → Came s buf st → length buf ≤ 261
    → session_record_in_ranges st.reply.session ≡ true
    → (is_refusal st.reply.answer ≡ false → is_ended s.phase ≡ false)
    → n + 0 ≤ 2 * (s.count + one_if (is_ended s.phase)) → reply_expected_after st ≡ Some t → Kept t (n + 1)
unfolding journal_record_size if
came_kept n t (Came.refused k) m i f h e = nothing e
came_kept n t (Came.ended y b o k) m i f h e =
    let g = ap one_if (f refl) in
    subst (λ (x : ExpectedNext). Kept x (n + 1)) (same_some e)
    (record { ranges = i; few = omega arith; fits = omega arith; whole = λ z. refl })
came_kept n t (Came.sent b p c l) m i f h e =
    let g = ap one_if (f refl) in
    let z = command_size (length c) _ (omega arith) in
    subst (λ (x : ExpectedNext). Kept x (n + 1)) (same_some e)
    (record { ranges = i; few = omega arith; fits = omega arith; whole = λ y. z })

called_kept : (s : Session) (o : Option Call) (n : ℕ) (t : ExpectedNext)
    → ((c : Call) → o ≡ Some c → buffer_of c ≡ journal_command_buffer) → Kept (expected_next_of_session_and_due_reply s []) n
    → judge_call s o ≡ Some t → Kept t (n + 1)
called_kept s None n t b k e = nothing e
called_kept s (Some c) n t b k e =
    came_kept n t (call_came s c) (let l = ap length (b c refl) in omega arith) (call_keeps s c k.ranges)
    (not_ended s c s.phase refl) k.few e

pub judged_kept : (s : Session) (d r : List ℕ) (n : ℕ) (t : ExpectedNext) → Kept (expected_next_of_session_and_due_reply s d) n
    → judge_record_by s d r ≡ Some t → Kept t (n + 1)
judged_kept s [] r n t k e = called_kept s (call_from_journal_record r) n t (lent_call r) k e
judged_kept s (b ∷ d) r n t k e =
    if_ind (λ (o : Option ExpectedNext). o ≡ Some t → Kept t (n + 1)) (bytes_equal r (b ∷ d)) (Some (expected_next_of_session_and_due_reply s []))
    None
    (λ w e. subst (λ (x : ExpectedNext). Kept x (n + 1)) (same_some e)
    (record {
      ranges = k.ranges;
      few = let f = k.few in omega arith;
      fits = omega arith;
      whole =
          λ z. absurd (omega arith);
    }))
    (λ w e. nothing e) e

pub first-kept : Kept expected_at_start 0
first-kept = record { ranges = fresh_keeps; few = omega arith; fits = omega arith; whole = λ z. absurd (omega arith) }

-- ---- never over 262 records

one_most : (b : Bool) → one_if b ≤ 1
one_most true = omega arith
one_most false = omega arith

pub few_records_lem : (e : ExpectedNext) (n : ℕ) → Kept e n → n ≤ 262
few_records_lem e n k = let f = k.few in
    omega (arith, count_most e.session k.ranges, one_most (is_ended e.session.phase))
