-- What an answer's step returns, by the rules: a command to a session that waits on GPO exactly where the rules give no
-- reason (a store without one has a first record), and none taken before that one (by induction over the calls, since
-- start alone leads out of fresh).
-- Assumes nothing.
use Rattle.std.specs.Prelude.{Option, Some, None}
use Rattle.afl.specs.declared.CardRecord.{CardRecord}
use mathlib.Core.Path.{◌≡◌, refl, sym, ap, subst, ◌∙◌}
use mathlib.Core.Bool.{Bool, true, false}
use mathlib.Core.Logic.{◌⊎◌, inl, inr}
use mathlib.Core.List.{List, [], ◌∷◌}
use Prim.Native.Nat.{ℕ}
use native.Mathlib.Omega.{arith}
use lib.Dec.{eqb}
use Rattle.basics.specs.Choice.{if}
use Rattle.basics.proofs.Laws.{no, if_ind, if_yes, if_no, bool_cases}
use Rattle.afl.specs.Records.{kth_record_of_accepted_afl}
use Rattle.reading.specs.declared.Awaited.{Awaited}
use Rattle.reading.specs.Answer as reading
use Rattle.session_record.specs.declared.AwaitedResponse.{AwaitedResponse}
use Rattle.session_record.specs.declared.Phase.{Phase}
use Rattle.session_record.specs.declared.Session.{Session}
use Rattle.session_record.specs.Session.{store_bytes}
use Rattle.session_record.specs.Ranges.{stored_afl}
use Rattle.analysis.specs.Action.{transaction_limit}
use Rattle.session.specs.Steps.{NextAction, end_for_reason, reason_of_next, read_response_then, Step, step_of_next}
use Rattle.session.specs.Steps.{step_of_effect, step_if_admitted, effect_if_running, abort_step}
use Rattle.session.specs.Start.{start_step}
use Rattle.session.specs.Answer.{request_kth_record_if_found, next_after_gpo_read, next_on_gpo_response, gpo_reason}
use Rattle.session.specs.Answer.{next_on_response, answer_step}
use Rattle.basics.specs.Reason.{reason_afl_invalid, reason_link, reason_stopped}
use Rattle.step_laws.proofs.Ways as ways
use Rattle.step_laws.proofs.Ways.{GpoWay, AnswerWay, answer_way, StartWay, start_way, BrokenWay, broken_way}
use Rattle.session_claim.specs.Calls.{is_answer, calls_accepted}
use Rattle.session.specs.Calls.{Call, start, answer, link_failed, stop, call_step, CallMade, call_made, play_calls}
use Rattle.session.specs.Calls.{is_refusal}
use Rattle.session.proofs.Results.{is_command}
use Rattle.session_claim.specs.Order.{first_answer}
use Rattle.session_record.specs.Session.{is_running}

-- ---- a command exactly where the rules give no reason

abbrev hands : Step → Bool
hands st = is_command st.reply.answer

-- a command, or a reason other than none
abbrev Ruled : ℕ → List ℕ → NextAction → Type 0
Ruled n buf x = hands (step_of_next n buf x) ≡ eqb (reason_of_next x) 0

found_ruled : (n : ℕ) (b buf : List ℕ) (f : Option CardRecord)
    → Ruled n buf (request_kth_record_if_found (transaction_limit b) 1 b (end_for_reason reason_afl_invalid b) f)
found_ruled n b buf None = refl
found_ruled n b buf (Some r) = refl

read_ruled : (n : ℕ) (b buf : List ℕ) → Ruled n buf (next_after_gpo_read b)
unfolding next_after_gpo_read
read_ruled n b buf =
    if_ind (Ruled n buf) _ _ _ (λ e. refl)
    (λ e. if_ind (Ruled n buf) _ _ _ (λ m. refl)
    (λ m. if_ind (Ruled n buf) _ _ _ (λ a. refl) (λ a. found_ruled n b buf (kth_record_of_accepted_afl (stored_afl b) 1))))

-- a command comes exactly where the rules give no reason
pub hands_by_rules : (n : ℕ) (b card buf : List ℕ) → hands (step_of_next n buf (next_on_gpo_response b card))
    ≡ eqb (gpo_reason b card) 0
unfolding next_on_gpo_response read_response_then
hands_by_rules n b card buf =
    let o = reading.read_answer Awaited.Gpo b card in
    if_ind (Ruled n buf) (eqb o.reason 0) (next_after_gpo_read o.store) (end_for_reason o.reason b)
    (λ e. read_ruled n o.store buf) (λ e. sym e)

-- ---- the call answer, by the session's phase

module _ (s : Session) (card buf : List ℕ) where
  -- on a session that waits on GPO it returns a command only where the rules give no reason
  pub sent_by_rules : s.phase ≡ Phase.Waiting AwaitedResponse.Gpo → hands (answer_step s card buf) ≡ true
      → eqb (gpo_reason (store_bytes s) card) 0 ≡ true
  unfolding step_if_admitted
  sent_by_rules q =
      if_ind P _ _ _ (λ e h. no h)
      (λ e. if_ind P _ _ _ (λ r h. no h)
      (λ r. subst (λ (p : Phase). P (step_of_effect s buf (effect_if_running p (next_on_response (store_bytes s) card))))
      (sym q) (λ h. sym (hands_by_rules s.count (store_bytes s) card buf) ∙ h)))
    where
      P : Step → Type 0
      P st = hands st ≡ true → eqb (gpo_reason (store_bytes s) card) 0 ≡ true

  -- it is refused while the session does not run
  pub answer_off : is_running s.phase ≡ false → is_refusal (answer_step s card buf).reply.answer ≡ true
  unfolding step_if_admitted
  answer_off n = if_ind P _ _ _ (λ e. refl) (λ e. if_ind P _ _ _ (λ r. refl) (λ r. go s.phase n))
    where
      P : Step → Type 0
      P st = is_refusal st.reply.answer ≡ true

      go : (p : Phase) → is_running p ≡ false
          → P (step_of_effect s buf (effect_if_running p (next_on_response (store_bytes s) card)))
      go Phase.Fresh e = refl
      go (Phase.Waiting w) e = no (sym e)
      go (Phase.Ended x) e = refl

-- ---- the first answer that is taken

-- no answer was taken yet, or the session has ended
abbrev early_on : AwaitedResponse → Bool
early_on AwaitedResponse.Gpo = true
early_on (AwaitedResponse.Record p) = false
early_on (AwaitedResponse.Cryptogram a) = false
early_on (AwaitedResponse.Checksum k) = false

abbrev early : Phase → Bool
early Phase.Fresh = true
early (Phase.Waiting w) = early_on w
early (Phase.Ended e) = true

on_gpo_lem : (w : AwaitedResponse) → early_on w ≡ true → w ≡ AwaitedResponse.Gpo
on_gpo_lem AwaitedResponse.Gpo e = refl
on_gpo_lem (AwaitedResponse.Record p) e = no e
on_gpo_lem (AwaitedResponse.Cryptogram a) e = no e
on_gpo_lem (AwaitedResponse.Checksum k) e = no e

waits : (p : Phase) → early p ≡ true → is_running p ≡ true → p ≡ Phase.Waiting AwaitedResponse.Gpo
waits Phase.Fresh e r = no r
waits (Phase.Waiting w) e r = ap Phase.Waiting (on_gpo_lem w e)
waits (Phase.Ended x) e r = no r

-- that stays so with a call that is refused or is no answer
abbrev Stays : Call → Step → Type 0
Stays c st = (is_refusal st.reply.answer ≡ true) ⊎ (is_answer c ≡ false) → early st.reply.session.phase ≡ true

module _ (s : Session) (e : early s.phase ≡ true) where
  start_stays : (bytes buf : List ℕ) → Stays (start bytes buf) (start_step s bytes buf)
  start_stays bytes buf = go (start_way s bytes buf)
    where
      go : {st : Step} → StartWay s bytes buf st → Stays (start bytes buf) st
      go (StartWay.refused n l) = λ x. e
      go (StartWay.unlisted b i q f) = λ x. refl
      go (StartWay.asked b c i q f g) = λ x. refl

  answer_stays : (card buf : List ℕ) → Stays (answer card buf) (answer_step s card buf)
  answer_stays card buf (inl r) = go (answer_way s card buf) r
    where
      P : Step → Type 0
      P st = is_refusal st.reply.answer ≡ true → early st.reply.session.phase ≡ true

      first : {st : Step} → GpoWay (ways.taken Awaited.Gpo s card) buf st → P st
      first (GpoWay.failed n r) = λ x. no x
      first (GpoWay.first r m a f) = λ x. no x

      go : {st : Step} → AnswerWay s card buf st → P st
      go (AnswerWay.refused n l) = λ x. e
      go (AnswerWay.unread m n i r h y) = λ x. no x
      go (AnswerWay.gpo i q z w) = first w
      go (AnswerWay.recorded p r i q f w) = λ x. no (sym (ap early q) ∙ e)
      go (AnswerWay.cryptogram a i q w) = λ x. no (sym (ap early q) ∙ e)
      go (AnswerWay.checksum k i q w) = λ x. no (sym (ap early q) ∙ e)
  answer_stays card buf (inr f) = no (sym f)

  broken_stays : (c : Call) (n : ℕ) (buf : List ℕ) → Stays c (abort_step s n buf)
  broken_stays c n buf = go (broken_way s n buf)
    where
      go : {st : Step} → BrokenWay s n buf st → Stays c st
      go (BrokenWay.refused m l) = λ x. e
      go (BrokenWay.broken m i h) = λ x. refl

  stays : (c : Call) → Stays c (call_step s c)
  stays (start bytes buf) = start_stays bytes buf
  stays (answer card buf) = answer_stays card buf
  stays (link_failed buf) = broken_stays (link_failed buf) reason_link buf
  stays (stop buf) = broken_stays (stop buf) reason_stopped buf

  -- an answer is taken on GPO alone
  taken_waits : (c : Call) → is_answer c ≡ true → is_refusal (call_step s c).reply.answer ≡ false
      → s.phase ≡ Phase.Waiting AwaitedResponse.Gpo
  taken_waits (start bytes buf) a r = no a
  taken_waits (answer card buf) a r = waits s.phase e (go (bool_cases (is_running s.phase)))
    where
      go : (is_running s.phase ≡ true) ⊎ (is_running s.phase ≡ false) → is_running s.phase ≡ true
      go (inl y) = y
      go (inr n) = no (sym r ∙ answer_off s card buf n)
  taken_waits (link_failed buf) a r = no a
  taken_waits (stop buf) a r = no a

  -- one call: it is the first answer taken, or that comes later
  one_call : (c : Call) (tk : List CallMade) (m : CallMade) → let st = call_step s c in
      (early st.reply.session.phase ≡ true → first_answer tk ≡ Some m
      → m.before.phase ≡ Phase.Waiting AwaitedResponse.Gpo)
      → first_answer (if (is_refusal st.reply.answer) tk (call_made s c st ∷ tk)) ≡ Some m
      → m.before.phase ≡ Phase.Waiting AwaitedResponse.Gpo
  unfolding first_answer
  one_call c tk m later f = elim (bool_cases (is_refusal (call_step s c).reply.answer)) [
    | inl r ↦ later (stays c (inl r)) (sym (ap first_answer (if_yes _ _ r)) ∙ f)
    | inr n ↦ elim (bool_cases (is_answer c)) [
      | inl a ↦ (let g : Some (call_made s c (call_step s c)) ≡ Some m = sym (ap first_answer (if_no _ _ n) ∙ if_yes _ _ a)
          ∙ f in
          let h : call_made s c (call_step s c) ≡ m = cc in
          subst (λ (x : CallMade). x.before.phase ≡ Phase.Waiting AwaitedResponse.Gpo) h (taken_waits c a n))
      | inr a ↦ later (stays c (inr a)) (sym (ap first_answer (if_no _ _ n) ∙ if_no _ _ a) ∙ f)
    ]
  ]

first_in : (s : Session) (cs : List Call) (m : CallMade) → early s.phase ≡ true
    → first_answer (calls_accepted (play_calls s cs)) ≡ Some m → m.before.phase ≡ Phase.Waiting AwaitedResponse.Gpo
unfolding play_calls calls_accepted first_answer
first_in s [] m e f = let z : ◌≡◌ {A = ℕ} 0 1 = cc in absurd (omega arith)
first_in s (c ∷ cs) m e f = one_call s e c _ m (first_in (call_step s c).reply.session cs m) f

-- from a fresh session on, the first answer taken comes while the answer to GPO is awaited
pub first_on_gpo : (s : Session) (cs : List Call) (m : CallMade) → s.phase ≡ Phase.Fresh
    → first_answer (calls_accepted (play_calls s cs)) ≡ Some m
    → m.before.phase ≡ Phase.Waiting AwaitedResponse.Gpo
first_on_gpo s cs m q f = first_in s cs m (ap early q) f
