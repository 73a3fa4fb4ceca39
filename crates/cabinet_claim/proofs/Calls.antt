-- The claim: what a cabinet holds and what the account says go together through every call. A start moves its amount
-- from what remains to what is reserved, an end moves it back or into what is approved; the amount reserved is the one
-- that the start bytes brought. One induction over the calls.
-- Assumes nothing.
use Rattle.std.specs.Prelude.{Option, Some, None}
use mathlib.Core.Path.{◌≡◌, refl, sym, ap, subst, ◌∙◌}
use mathlib.Core.Bool.{Bool, true, false}
use mathlib.Core.Logic.{inl, inr}
use mathlib.Core.List.{List, [], ◌∷◌}
use Prim.Native.Nat.{ℕ, ◌+◌, ◌-◌, ◌≤◌, ◌<◌}
use native.Mathlib.Omega.{arith}
use lib.Dec.{ltb}
use lib.ListN.{length}
use borrow.Author.Tests.{ltb-false, le-ltb}
use Rattle.basics.specs.Choice.{if, every}
use Rattle.basics.specs.Reason.{refusal_record_out_of_ranges, refusal_buffer_too_small, refusal_wrong_phase}
use Rattle.basics.specs.Reason.{reason_dol_broken_or_bad_length, reason_link, reason_stopped}
use Rattle.basics.proofs.Laws.{if_yes, if_no, if_ind, bool_cases, both_yes}
use Rattle.dictionary.specs.Named.{row_amount}
use Rattle.dictionary.proofs.Named.{at_9f02}
use Rattle.store.specs.Place.{StoredValue, bytes_or_empty_if_absent}
use Rattle.command.specs.WithList.{get_processing_options}
use Rattle.analysis.specs.Digits.{amount_of}
use Rattle.analysis.specs.Cvm.{cvm_number_not_applicable}
use Rattle.session_record.specs.declared.Outcome.{Outcome}
use Rattle.session_record.specs.declared.OutcomeParameters.{OutcomeParameters}
use Rattle.session_record.specs.declared.AwaitedResponse.{AwaitedResponse}
use Rattle.session_record.specs.declared.Phase.{Phase}
use Rattle.session_record.specs.declared.Session.{Session}
use Rattle.session_record.specs.Session.{store_bytes, session_of, fresh_session, ending_of, outcome_parameters}
use Rattle.session_record.specs.Numbers.{outcome_number, outcome_of_nonzero_reason}
use Rattle.session_record.specs.Ranges.{zero_tvr, session_record_in_ranges}
use Rattle.session_record.proofs.Phases.{store_size_lem, on_ended, fresh_keeps}
use Rattle.session_record.proofs.Reasons.{goes_most}
use Rattle.start_data.specs.StartData.{LoadedStore, refusal, loaded, load_start_bytes}
use Rattle.start_data.proofs.Laws.{load_size}
use Rattle.session.specs.Steps as steps
use Rattle.session.specs.Steps.{request_command_or_end_for_dol, store_with_tvr, Step, step_of_next, step_of_effect, least_buffer}
use Rattle.session.specs.Steps.{link_failed_step, stop_step}
use Rattle.session.specs.Start.{request_gpo, start_effect_after_loading, start_step}
use Rattle.session.specs.Answer.{answer_step}
use Rattle.session.proofs.Laws.{admitted_in}
use Rattle.layout.specs.Word.{refusal_word, command_word, outcome_word}
use Rattle.session.specs.Calls.{is_refusal}
use Rattle.session_record.specs.Session.{is_running}
use Rattle.step_laws.proofs.Kept.{bits_other}
use Rattle.step_laws.proofs.EveryCall.{Came, answer_came, link_came, stop_came}
use Rattle.step_laws.proofs.Ranges.{start_keeps, answer_keeps, link_keeps, stop_keeps}
use Rattle.step_laws.proofs.Refusals.{answer_goes, answer_idle, broken_goes, broken_idle}
use Rattle.step_laws.proofs.Ways.{command_step, failed_step, load_most}
use Rattle.cabinet.specs.State.{Cabinet, cabinet, greatest_twelve_digit_amount, cabinet_state_size, cabinet_written_over_front}
use Rattle.cabinet.specs.State.{stored_amount_authorized, running_session_amount_or_zero, decoded_cabinet_if_valid}
use Rattle.cabinet.specs.Calls.{CabinetResult, refused_amount_over_remaining, refused_cap_too_large}
use Rattle.cabinet.specs.Calls.{apply_to_cabinet_or_refuse, admit_cabinet_call, remaining_after_outcome}
use Rattle.cabinet.specs.Calls.{cabinet_result_with_amounts_settled, kernel_step_on_cabinet, cabinet_start_if_amount_remains}
use Rattle.cabinet.specs.Calls.{cabinet_start_by_result, start_on_cabinet, cabinet_open_word, cabinet_open_state}
use Rattle.cabinet.specs.Inner.{cabinet_start_on_fresh}
use Rattle.cabinet.proofs.State.{state_read}
use Rattle.cabinet.proofs.Laws.{start_running, start_idle}
use Rattle.cabinet_claim.specs.Account.{CabinetCall, opening, start, answer, link_failed, stop, cabinet_step}
use Rattle.cabinet_claim.specs.Account.{play_cabinet_calls, final_cabinet_state, Account, account, start_amount_in}
use Rattle.cabinet_claim.specs.Account.{account_with_amount_added_if_approved, account_after_accepted_call}
use Rattle.cabinet_claim.specs.Account.{account_after_call, account_after_calls, is_refused_word, is_approved_word}
use Rattle.cabinet_claim.specs.Account.{cabinet_call_not_refused_with25, RemainingReservedApprovedSumToCap}
use Rattle.cabinet_claim.proofs.Brought.{brought_amount}
use Rattle.cabinet_claim.proofs.Held.{Ordered, held_ordered, in_order}
use Rattle.cabinet_claim.proofs.Kernel.{Stays, stays_amount, answer_stays, link_stays, stop_stays}
use Rattle.cabinet_claim.proofs.Words.{cabinet_call_made, account_opened, Other, refused_told, refused_other}
use Rattle.cabinet_claim.proofs.Words.{command_told, command_unapproved, command_other, outcome_told}
use Rattle.cabinet_claim.proofs.Words.{outcome_approved, outcome_unapproved, outcome_other}

-- ---- what goes through every call

pub record Holds (a : Account) (l : List ℕ) : Type 0 where
  pub state : Cabinet
  pub held : decoded_cabinet_if_valid l ≡ Some state
  pub balance : state.remaining + state.reserved + a.approved ≡ a.cap
  pub cap_fits : a.cap ≤ greatest_twelve_digit_amount
  pub amount : is_running state.session.phase ≡ true → state.reserved ≡ a.amount

-- a state that is written over one
written : (a : Account) (c : Cabinet) (l : List ℕ) → Ordered c l → c.remaining + c.reserved + a.approved ≡ a.cap
    → a.cap ≤ greatest_twelve_digit_amount
    → (is_running c.session.phase ≡ true → c.reserved ≡ a.amount) → Holds a (cabinet_written_over_front c l)
written a c l o b f m =
    record {
      state = c;
      held = state_read c l (store_size_lem c.session o.ranges) o.enough (in_order o);
      balance =
          b;
      cap_fits = f;
      amount = m;
    }

-- what a call leaves: its word and the bytes
record Next (a : Account) (k : CabinetCall) (w : ℕ) (l : List ℕ) : Type 0 where
  not_25 : cabinet_call_not_refused_with25 (cabinet_call_made k w) ≡ true
  holds : Holds (account_after_call a (cabinet_call_made k w)) l

abbrev NextOf : Account → CabinetCall → CabinetResult → Type 0
NextOf a k d = Next a k d.word d.state

-- a refusal changes nothing
refused_next : (a : Account) (k : CabinetCall) (n : ℕ) (l : List ℕ) → Holds a l → n ≤ 31
    → (n ≡ refusal_record_out_of_ranges → ⊥) → Next a k (refusal_word n) l
unfolding account_after_call
refused_next a k n l h m ne =
    record {
      not_25 = refused_other n m ne;
      holds = subst (λ (x : Account). Holds x l)
          (sym (if_yes _ _ (refused_told n m))) h;
    }

-- a call that is not refused comes to the account a', and writes the cabinet c
taken_next : (a a' : Account) (k : CabinetCall) (w : ℕ) (c : Cabinet) (l : List ℕ) → Other w → is_refused_word w ≡ false
    → account_after_accepted_call a k w ≡ a' → Ordered c l
    → c.remaining + c.reserved + a'.approved ≡ a'.cap → a'.cap ≤ greatest_twelve_digit_amount
    → (is_running c.session.phase ≡ true → c.reserved ≡ a'.amount) → Next a k w (cabinet_written_over_front c l)
unfolding account_after_call
taken_next a a' k w c l t u e o b f m =
    record {
      not_25 = t;
      holds = subst (λ (x : Account). Holds x (cabinet_written_over_front c l)) (sym (if_no _ _ u ∙ e))
          (written a' c l o b f m);
    }

-- nothing is approved by another word
unapproved : (a : Account) (w : ℕ) → is_approved_word w ≡ false → account_with_amount_added_if_approved w a ≡ a
unapproved a w e = if_no _ _ e

not_running : {A : Type 0} → ◌≡◌ {A = Bool} false true → A
not_running e = let z : ◌≡◌ {A = ℕ} 0 1 = cc in absurd (omega arith)

-- ---- the first tests of a call

admitted_next : (a : Account) (l : List ℕ) (h : Holds a l) (k : CabinetCall) (does : Cabinet → CabinetResult)
    (buf : List ℕ)
    → (least_buffer ≤ length buf → NextOf a k (does h.state)) → NextOf a k (admit_cabinet_call does l buf)
unfolding admit_cabinet_call
admitted_next a l h k does buf f =
    if_ind (NextOf a k) _ _ _ (λ t. refused_next a k refusal_buffer_too_small l h (omega arith) (λ e. omega arith))
    (λ t. subst (λ (x : Option Cabinet). NextOf a k (apply_to_cabinet_or_refuse does l buf x)) (sym h.held)
    (f (ltb-false _ _ t)))

-- ---- answer, link failed and stop

module _ (a : Account) (l : List ℕ) (h : Holds a l) (k : CabinetCall) (adds : (w : ℕ) → account_after_accepted_call a k w
    ≡ account_with_amount_added_if_approved w a) where
  abbrev c : Cabinet
  c = h.state

  order : Ordered c l
  order = held_ordered c l h.held

  -- a command leaves the amounts
  sent_next : (b : List ℕ) (p : Phase) (n size : ℕ) → session_record_in_ranges (session_of p n b) ≡ true
      → is_running p ≡ true → stored_amount_authorized b ≡ c.reserved → c.reserved ≡ a.amount
      → Next a k (command_word size) (cabinet_written_over_front (cabinet (session_of p n b) c.remaining c.reserved) l)
  unfolding running_session_amount_or_zero
  sent_next b p n size i r e m =
      taken_next a a k (command_word size) _ l (command_other size) (command_told size)
      (adds (command_word size) ∙ unapproved a (command_word size) (command_unapproved size))
      (record { enough = order.enough; ranges = i; due = sym e ∙ sym (if_yes _ _ r); sum = order.sum }) h.balance
      h.cap_fits (λ x. m)

  -- an end leaves nothing reserved: an approval spends it, every other outcome gives it back
  module _ (o : Outcome) (n m : ℕ) (b : List ℕ) (j : ℕ)
      (i : session_record_in_ranges (session_of (Phase.Ended (ending_of o n)) j b) ≡ true) where
    small : n < 256
    small =
        omega
        (arith, goes_most o n (on_ended (session_of (Phase.Ended (ending_of o n)) j b) i (ending_of o n) refl).reason)

    ended_order : (x : ℕ) → x ≤ greatest_twelve_digit_amount
        → Ordered (cabinet (session_of (Phase.Ended (ending_of o n)) j b) x 0) l
    unfolding running_session_amount_or_zero
    ended_order x y = record { enough = order.enough; ranges = i; due = sym (if_no _ _ refl); sum = omega arith }

    abbrev told : OutcomeParameters
    told = outcome_parameters (ending_of o n) m

    spent_next : outcome_number o ≡ 0 → c.reserved ≡ a.amount
        → Next a k (outcome_word told)
        (cabinet_written_over_front (cabinet (session_of (Phase.Ended (ending_of o n)) j b) c.remaining 0) l)
    spent_next q e =
        taken_next a (account a.cap a.amount (a.approved + a.amount)) k (outcome_word told) _ l
        (outcome_other told small) (outcome_told told small)
        (adds (outcome_word told) ∙ if_yes (account a.cap a.amount (a.approved + a.amount)) a
        (outcome_approved told small q))
        (ended_order c.remaining (omega (arith, order.sum))) (omega (arith, h.balance)) h.cap_fits
        (λ x. not_running x)

    back_next : (outcome_number o ≡ 0 → ⊥)
        → Next a k (outcome_word told)
        (cabinet_written_over_front (cabinet (session_of (Phase.Ended (ending_of o n)) j b) (c.remaining + c.reserved) 0)
        l)
    back_next q =
        taken_next a a k (outcome_word told) _ l (outcome_other told small) (outcome_told told small)
        (adds (outcome_word told) ∙ unapproved a (outcome_word told) (outcome_unapproved told small q))
        (ended_order (c.remaining + c.reserved) order.sum) (omega (arith, h.balance)) h.cap_fits
        (λ x. not_running x)

  ended_next : (o : Outcome) (n m : ℕ) (b : List ℕ) (j : ℕ)
      → session_record_in_ranges (session_of (Phase.Ended (ending_of o n)) j b) ≡ true → c.reserved ≡ a.amount
      → Next a k (outcome_word (outcome_parameters (ending_of o n) m))
      (cabinet_written_over_front (cabinet (session_of (Phase.Ended (ending_of o n)) j b)
      (remaining_after_outcome o c.remaining c.reserved) 0) l)
  ended_next Outcome.Approved n m b j i e = spent_next Outcome.Approved n m b j i refl e
  ended_next Outcome.OnlineRequest n m b j i e = back_next Outcome.OnlineRequest n m b j i (λ z. omega arith)
  ended_next Outcome.Declined n m b j i e = back_next Outcome.Declined n m b j i (λ z. omega arith)
  ended_next Outcome.Ended n m b j i e = back_next Outcome.Ended n m b j i (λ z. omega arith)
  ended_next Outcome.SelectNext n m b j i e = back_next Outcome.SelectNext n m b j i (λ z. omega arith)

  -- a step of a running session
  came_next : (buf : List ℕ) (st : Step) → Came c.session buf st → is_running c.session.phase ≡ true
      → is_refusal st.reply.answer ≡ false
      → session_record_in_ranges st.reply.session ≡ true → Stays c.session st
      → NextOf a k (cabinet_result_with_amounts_settled st.reply.answer st c.remaining c.reserved l buf)
  unfolding running_session_amount_or_zero
  came_next buf _ (Came.refused n) r g i w = not_running (sym g)
  came_next buf _ (Came.ended m b o n) r g i w = ended_next o n m b c.session.count i (h.amount r)
  came_next buf _ (Came.sent b p x f) r g i w =
      sent_next b (Phase.Waiting p) (c.session.count + 1) (length x) i (w.waits (record { size = length x }) refl)
      (stays_amount w ∙ sym (order.due ∙ if_yes _ _ r)) (h.amount r)

  -- and of any
  step-next : (step : Session → List ℕ → Step) (buf : List ℕ) → Came c.session buf (step c.session buf)
      → (is_running c.session.phase ≡ false → step c.session buf ≡ steps.refused_step c.session
      refusal_wrong_phase buf)
      → (is_running c.session.phase ≡ true → is_refusal (step c.session buf).reply.answer ≡ false)
      → session_record_in_ranges (step c.session buf).reply.session ≡ true
      → Stays c.session (step c.session buf) → NextOf a k (kernel_step_on_cabinet step l buf c)
  step-next step buf came idle goes keeps stays = elim (bool_cases (is_running c.session.phase)) [
    | inl r ↦ came_next buf (step c.session buf) came r (goes r) keeps stays
    | inr r ↦
        subst
        (λ (st : Step). NextOf a k (cabinet_result_with_amounts_settled st.reply.answer st c.remaining c.reserved
        l buf)) (sym (idle r))
        (refused_next a k refusal_wrong_phase l h (omega arith) (λ e. omega arith))
  ]

-- ---- start

module _ (a : Account) (l : List ℕ) (h : Holds a l) (bytes buf : List ℕ) where
  abbrev k : CabinetCall
  k = start bytes buf

  abbrev now : Cabinet
  now = h.state

  placed : Ordered now l
  placed = held_ordered now l h.held

  -- the account of an accepted start
  abbrev begun : Account
  begun = account a.cap (start_amount_in bytes) a.approved

  module _ (idle : is_running now.session.phase ≡ false) where
    nothing_aside : now.reserved ≡ 0
    unfolding running_session_amount_or_zero
    nothing_aside = placed.due ∙ if_no _ _ idle

    -- what remains is smaller than its amount
    less : Next a k (refusal_word refused_amount_over_remaining) l
    less = refused_next a k refused_amount_over_remaining l h (omega arith)
        (λ (e : refused_amount_over_remaining ≡ refusal_record_out_of_ranges). omega arith)

    -- its amount is reserved, or given back at once
    module _ (b : List ℕ) (q : stored_amount_authorized b ≡ start_amount_in bytes) where
      sent_start : (x : List ℕ) → session_record_in_ranges (session_of (Phase.Waiting AwaitedResponse.Gpo) 1 b) ≡ true
          → (let st = command_step 0 b AwaitedResponse.Gpo x buf in
          NextOf a k (cabinet_start_if_amount_remains st (stored_amount_authorized b) now.remaining l buf))
      unfolding cabinet_start_if_amount_remains running_session_amount_or_zero
      sent_start x i = if_ind (NextOf a k) (ltb now.remaining (stored_amount_authorized b)) _ _ (λ t. less)
          (λ t. moved (ltb-false _ _ t))
        where
          moved : stored_amount_authorized b ≤ now.remaining
              → Next a k (command_word (length x))
              (cabinet_written_over_front (cabinet (session_of (Phase.Waiting AwaitedResponse.Gpo) 1 b)
              (now.remaining - stored_amount_authorized b) (stored_amount_authorized b)) l)
          moved m =
              taken_next a begun k (command_word (length x)) _ l (command_other (length x)) (command_told (length x))
              (unapproved begun (command_word (length x)) (command_unapproved (length x)))
              (record {
                enough = placed.enough;
                ranges = i;
                due = sym (if_yes _ _ refl);
                sum =
                    omega (arith, placed.sum);
              })
              (omega (arith, h.balance, nothing_aside)) h.cap_fits (λ e. q)

      abbrev broken : OutcomeParameters
      broken = outcome_parameters (ending_of Outcome.Ended reason_dol_broken_or_bad_length) cvm_number_not_applicable

      failed_start : session_record_in_ranges
          (session_of
          (Phase.Ended (ending_of (outcome_of_nonzero_reason reason_dol_broken_or_bad_length) reason_dol_broken_or_bad_length)) 0 b)
          ≡ true
          → (let st = failed_step cvm_number_not_applicable 0 b reason_dol_broken_or_bad_length buf in
          NextOf a k (cabinet_start_if_amount_remains st (stored_amount_authorized b) now.remaining l buf))
      unfolding cabinet_start_if_amount_remains running_session_amount_or_zero outcome_of_nonzero_reason if
      failed_start i = if_ind (NextOf a k) (ltb now.remaining (stored_amount_authorized b)) _ _ (λ t. less)
          (λ t. moved (ltb-false _ _ t))
        where
          moved : stored_amount_authorized b ≤ now.remaining
              → Next a k (outcome_word broken)
              (cabinet_written_over_front
              (cabinet (session_of (Phase.Ended (ending_of Outcome.Ended reason_dol_broken_or_bad_length)) 0 b)
              (now.remaining - stored_amount_authorized b + stored_amount_authorized b) 0) l)
          moved m =
              taken_next a begun k (outcome_word broken) _ l (outcome_other broken (omega arith))
              (outcome_told broken (omega arith))
              (unapproved begun (outcome_word broken)
              (outcome_unapproved broken (omega arith) (λ (z : ◌≡◌ {A = ℕ} 3 0). omega arith)))
              (record { enough = placed.enough; ranges = i; due = refl; sum = omega (arith, placed.sum) })
              (omega (arith, h.balance, nothing_aside)) h.cap_fits (λ e. not_running e)

      handed_start : (x : Option (List ℕ))
          → session_record_in_ranges (step_of_next 0 buf (request_command_or_end_for_dol AwaitedResponse.Gpo b x)).reply.session
          ≡ true
          → (let st = step_of_next 0 buf (request_command_or_end_for_dol AwaitedResponse.Gpo b x) in
          NextOf a k (cabinet_start_by_result st.reply.answer st now.remaining l buf))
      handed_start None i = failed_start i
      handed_start (Some x) i = sent_start x i

    loaded_start : (x : LoadedStore) → load_start_bytes (store_bytes fresh_session) bytes ≡ x
        → session_record_in_ranges (step_of_effect fresh_session buf (start_effect_after_loading x)).reply.session ≡ true
        → (let st = step_of_effect fresh_session buf (start_effect_after_loading x) in
        NextOf a k (cabinet_start_by_result st.reply.answer st now.remaining l buf))
    unfolding request_gpo
    loaded_start (refusal n) e i = let m = load_most (store_bytes fresh_session) bytes n e in refused_next a k n l h
        (omega arith) (λ z. omega arith)
    loaded_start (loaded b) e i = handed_start (store_with_tvr b zero_tvr) brought
        (get_processing_options (store_with_tvr b zero_tvr)) i
      where
        brought : stored_amount_authorized (store_with_tvr b zero_tvr) ≡ start_amount_in bytes
        brought =
            ap (λ (v : StoredValue). amount_of (bytes_or_empty_if_absent v))
            (bits_other b zero_tvr (load_size (store_bytes fresh_session) bytes b e (store_size_lem fresh_session fresh_keeps))
            refl 0x9F02 row_amount at_9f02 (λ z. omega arith))
            ∙ brought_amount bytes b e

    fresh_next : least_buffer ≤ length buf → NextOf a k (cabinet_start_on_fresh bytes now.remaining l buf)
    fresh_next r =
        subst (λ (st : Step). NextOf a k (cabinet_start_by_result st.reply.answer st now.remaining l buf)) (sym is)
        (loaded_start (load_start_bytes (store_bytes fresh_session) bytes) refl
        (subst (λ (st : Step). session_record_in_ranges st.reply.session ≡ true) is
        (start_keeps fresh_session bytes buf fresh_keeps)))
      where
        is : start_step fresh_session bytes buf ≡ step_of_effect fresh_session buf
            (start_effect_after_loading (load_start_bytes (store_bytes fresh_session) bytes))
        is = admitted_in fresh_session buf _ r fresh_keeps

  start_next : least_buffer ≤ length buf → NextOf a k (start_on_cabinet bytes l buf now)
  start_next r = elim (bool_cases (is_running now.session.phase)) [
    | inl e ↦
        subst (NextOf a k)
        (sym (start_running now.session bytes l buf r placed.ranges now.remaining now.reserved e))
        (refused_next a k refusal_wrong_phase l h (omega arith) (λ z. omega arith))
    | inr e ↦ subst (NextOf a k)
        (sym (start_idle now.session bytes l buf r placed.ranges now.remaining now.reserved e))
        (fresh_next e r)
  ]

-- ---- opening

-- an opening that is accepted
opened_holds : (cap : ℕ) (l : List ℕ) → cabinet_state_size ≤ length l → cap ≤ greatest_twelve_digit_amount
    → Holds (account_opened cap) (cabinet_written_over_front (cabinet fresh_session cap 0) l)
unfolding running_session_amount_or_zero
opened_holds cap l h f =
    written (account_opened cap) (cabinet fresh_session cap 0) l
    (record { enough = h; ranges = fresh_keeps; due = sym (if_no _ _ refl); sum = omega arith })
    (omega arith) f (λ e. not_running e)

open_next : (a : Account) (l : List ℕ) (h : Holds a l) (cap : ℕ)
    → Next a (opening cap) (cabinet_open_word cap l) (cabinet_open_state cap l)
unfolding cabinet_open_word cabinet_open_state account_after_call
open_next a l h cap = elim (bool_cases (ltb greatest_twelve_digit_amount cap)) [
  | inl t ↦
      subst₂' (sym (if_no _ _ short ∙ if_yes _ _ t)) (sym (if_no _ _ short ∙ if_yes _ _ t))
      (refused_next a (opening cap) refused_cap_too_large l h (omega arith) (λ e. omega arith))
  | inr t ↦
      subst₂' (sym (if_no _ _ short ∙ if_no _ _ t)) (sym (if_no _ _ short ∙ if_no _ _ t))
      (record {
        not_25 = refl;
        holds = subst (λ (x : Account). Holds x (cabinet_written_over_front (cabinet fresh_session cap 0) l))
            (sym (if_no _ _ refl)) (opened_holds cap l enough (ltb-false _ _ t));
      })
]
  where
    enough : cabinet_state_size ≤ length l
    enough = (held_ordered h.state l h.held).enough

    short : ltb (length l) cabinet_state_size ≡ false
    short = le-ltb _ _ enough

    subst₂' : {w w' : ℕ} {m m' : List ℕ} → w ≡ w' → m ≡ m' → Next a (opening cap) w m → Next a (opening cap) w' m'
    subst₂' {w} {w'} {m} p q n = subst (λ (y : List ℕ). Next a (opening cap) w' y) q
        (subst (λ (x : ℕ). Next a (opening cap) x m) p n)

-- ---- every call, and every list of calls

call_next : (a : Account) (l : List ℕ) → Holds a l → (k : CabinetCall)
    → Next a k (cabinet_step l k).word (cabinet_step l k).state
call_next a l h (opening cap) = open_next a l h cap
call_next a l h (start bytes buf) = admitted_next a l h (start bytes buf) (start_on_cabinet bytes l buf) buf
    (start_next a l h bytes buf)
call_next a l h (answer card buf) =
    admitted_next a l h (answer card buf) (kernel_step_on_cabinet (λ s b. answer_step s card b) l buf) buf
    (λ r. let s = h.state.session in let i = (held_ordered h.state l h.held).ranges in
    step-next a l h (answer card buf) (λ w. refl) (λ s b. answer_step s card b) buf (answer_came s card buf)
    (answer_idle s card buf r i) (answer_goes s card buf r i)
    (answer_keeps s card buf i) (answer_stays s card buf))
call_next a l h (link_failed buf) =
    admitted_next a l h (link_failed buf) (kernel_step_on_cabinet link_failed_step l buf) buf
    (λ r. let s = h.state.session in let i = (held_ordered h.state l h.held).ranges in
    step-next a l h (link_failed buf) (λ w. refl) link_failed_step buf (link_came s buf)
    (broken_idle s reason_link buf r i) (broken_goes s reason_link buf r i)
    (link_keeps s buf i) (link_stays s buf))
call_next a l h (stop buf) =
    admitted_next a l h (stop buf) (kernel_step_on_cabinet stop_step l buf) buf
    (λ r. let s = h.state.session in let i = (held_ordered h.state l h.held).ranges in
    step-next a l h (stop buf) (λ w. refl) stop_step buf (stop_came s buf) (broken_idle s reason_stopped buf r i)
    (broken_goes s reason_stopped buf r i)
    (stop_keeps s buf i) (stop_stays s buf))

record Through (a : Account) (l : List ℕ) (cs : List CabinetCall) : Type 0 where
  not_25 : every cabinet_call_not_refused_with25 (play_cabinet_calls l cs) ≡ true
  holds : Holds (account_after_calls a (play_cabinet_calls l cs)) (final_cabinet_state l cs)

through : (cs : List CabinetCall) (a : Account) (l : List ℕ) → Holds a l → Through a l cs
unfolding play_cabinet_calls final_cabinet_state account_after_calls every
through [] a l h = record { not_25 = refl; holds = h }
through (k ∷ cs) a l h =
    let n = call_next a l h k in
    let t = through cs (account_after_call a (cabinet_call_made k (cabinet_step l k).word)) (cabinet_step l k).state
    n.holds in
    record { not_25 = both_yes _ _ n.not_25 t.not_25; holds = t.holds }

-- an opening that gives 0 was accepted
first_opening : (cap : ℕ) (l : List ℕ) → cabinet_open_word cap l ≡ 0 → Holds (account_opened cap) (cabinet_open_state cap l)
unfolding cabinet_open_word cabinet_open_state
first_opening cap l e = elim (bool_cases (ltb (length l) cabinet_state_size)) [
  | inl t ↦ let q : refusal_word refusal_record_out_of_ranges ≡ 0 = sym (if_yes _ _ t) ∙ e in absurd (omega arith)
  | inr t ↦ elim (bool_cases (ltb greatest_twelve_digit_amount cap)) [
    | inl u ↦ let q : refusal_word refused_cap_too_large ≡ 0 = sym (if_no _ _ t ∙ if_yes _ _ u) ∙ e in absurd (omega arith)
    | inr u ↦ subst (Holds (account_opened cap)) (sym (if_no _ _ t ∙ if_no _ _ u))
        (opened_holds cap l (ltb-false _ _ t) (ltb-false _ _ u))
  ]
]

pub always : (l : List ℕ) (cap : ℕ) (cs : List CabinetCall) → cabinet_open_word cap l ≡ 0
    → RemainingReservedApprovedSumToCap cap (play_cabinet_calls (cabinet_open_state cap l) cs)
    (final_cabinet_state (cabinet_open_state cap l) cs)
always l cap cs e =
    let t = through cs (account_opened cap) (cabinet_open_state cap l) (first_opening cap l e) in
    let h = t.holds in
    record {
      state = h.state;
      held = h.held;
      balance = h.balance;
      never_over = omega (arith, h.balance);
      cap_fits =
          h.cap_fits;
      never_25 = t.not_25;
    }
