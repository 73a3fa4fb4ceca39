-- What is never refused: a record in its ranges that has what every stage needs, with the choice or the outcome that
-- the rest of it gives. A running session has it all, since a listed terminal type ends in 1 to 6.
-- Assumes nothing.
use Rattle.std.specs.Prelude.{Some, None, Option}
use mathlib.Core.Path.{◌≡◌, refl, sym, ap, ◌∙◌}
use mathlib.Core.Bool.{Bool, true, false, not}
use mathlib.Core.Logic.{◌⊎◌, inl, inr}
use mathlib.Core.List.{List}
use Prim.Native.Nat.{ℕ, zero, suc, ◌%◌, ◌≤◌}
use native.Mathlib.Omega.{arith}
use borrow.Author.Tests.{eq-eqb, leb-true}
use Rattle.basics.specs.Choice.{if, either, every}
use Rattle.basics.specs.Number.{between}
use Rattle.basics.specs.Reason.{reason_none}
use Rattle.basics.proofs.Laws.{bool_cases, if_ind, if_yes, both_yes, both_left, both_right, either_false}
use Rattle.dictionary.specs.Named.{row_tac_default, row_tac_denial, row_tac_online}
use Rattle.dictionary.specs.Rows.{dictionary_rows}
use Rattle.dictionary.specs.TerminalType.{listed_terminal_type}
use Rattle.dictionary.proofs.Named.{at_df8120, at_df8121, at_df8122}
use Rattle.store.specs.Held.{has_object, stored_byte}
use Rattle.analysis.specs.Choice.{lowest_tvr_bit_in_codes, online_capability_by_digit, online_capability_of_type}
use Rattle.analysis.specs.Choice.{some_tvr_bit_in_codes_of_stage, denial_stage, generate_ac_p1}
use Rattle.analysis.specs.Action.{terminal_type, action_codes_of}
use Rattle.analysis.specs.declared.choice.OnlineCapability.{OnlineCapability}
use Rattle.session_record.specs.declared.RequestedCryptogram.{RequestedCryptogram}
use Rattle.session_record.specs.declared.Ending.{Ending}
use Rattle.session_record.specs.declared.Outcome.{Outcome}
use Rattle.session_record.specs.declared.Phase.{Phase}
use Rattle.session_record.specs.declared.Session.{Session}
use Rattle.session_record.specs.Numbers.{outcome_number}
use Rattle.session_record.specs.Session.{store_bytes}
use Rattle.session_record.specs.Ranges.{session_record_in_ranges}
use Rattle.session_record.proofs.Clauses.{RunningClauses}
use Rattle.session_record.proofs.Values.{brought_there}
use Rattle.session.specs.Answer.{outcome_for_cryptogram_type}
use Rattle.explain.specs.declared.Stage.{Stage}
use Rattle.explain.specs.declared.Explanation.{Explanation}
use Rattle.explain.specs.Explain.{stored_tvr, recomputed_choice, deciding_stage_by_denial_bit, deciding_stage_in}
use Rattle.explain.specs.Explain.{tags_needed_by_stage, stage_if_its_data_present, deciding_stage_if_its_data_present}
use Rattle.explain.specs.Explain.{action_codes_of_stage, explanation_by_bit, explanation_at_stage}
use Rattle.explain.specs.Explain.{explanation_awaiting_cryptogram, stored_cryptogram_type, is_decision_outcome}
use Rattle.explain.specs.Explain.{explanation_of_decision, explanation_of_ending, aip_indicates_mag_stripe}
use Rattle.explain.specs.Explain.{explanation_of_ending_by_mode, explanation_in_phase, explanation_of}
use Rattle.explain.specs.Promise.{StoredCryptogramDecidesOutcome}
use Rattle.explain.proofs.Laws.{ended_reason, by_reason, by_mag_stripe, by_choice}

-- ---- a store with all that the stages need

pub record Complete (b : List ℕ) : Type 0 where
  pub results : has_object b 0x95 ≡ true
  pub denial_code_lem : has_object b 0xDF8121 ≡ true
  pub default_code_lem : has_object b 0xDF8120 ≡ true
  pub online_code_lem : has_object b 0xDF8122 ≡ true
  pub terminal : listed_terminal_type (stored_byte b 0x9F35 1) ≡ true

-- so every running session has it
pub running_complete : (b : List ℕ) → RunningClauses b → Complete b
unfolding dictionary_rows
running_complete b r =
    record {
      results = r.results;
      denial_code_lem = brought_there b r 0xDF8121 row_tac_denial at_df8121 refl;
      default_code_lem = brought_there b r 0xDF8120 row_tac_default at_df8120 refl;
      online_code_lem = brought_there b r 0xDF8122 row_tac_online at_df8122 refl;
      terminal = r.terminal;
    }

-- ---- a listed type ends in 1 to 6

digit : (t : ℕ) → listed_terminal_type t ≡ true → (1 ≤ t % 16) × (t % 16 ≤ 6)
unfolding listed_terminal_type
digit t e = go (bool_cases (between 0x11 t 0x16)) (bool_cases (between 0x21 t 0x26))
  where
    low : (a z : ℕ) → between a t z ≡ true → (a ≤ t) × (t ≤ z)
    low a z h = (leb-true a t (both_left _ _ h), leb-true t z (both_right _ _ h))

    go : (between 0x11 t 0x16 ≡ true) ⊎ (between 0x11 t 0x16 ≡ false)
        → (between 0x21 t 0x26 ≡ true) ⊎ (between 0x21 t 0x26 ≡ false) → (1 ≤ t % 16) × (t % 16 ≤ 6)
    go (inl y) w = let h = low 0x11 0x16 y in (omega arith, omega arith)
    go (inr n) (inl y) = let h = low 0x21 0x26 y in (omega arith, omega arith)
    go (inr n) (inr m) = let h = low 0x34 0x36 (sym (either_false _ n ∙ either_false _ m) ∙ e) in
        (omega arith, omega arith)

capable : (x : ℕ) → 1 ≤ x → x ≤ 6 → online_capability_by_digit x ≡ OnlineCapability.Unlisted → ⊥
unfolding online_capability_by_digit if either
capable zero l h e = omega arith
capable (suc zero) l h e = let z : ◌≡◌ {A = ℕ} 0 1 = cc in omega arith
capable (suc (suc zero)) l h e = let z : ◌≡◌ {A = ℕ} 0 1 = cc in omega arith
capable (suc (suc (suc zero))) l h e = let z : ◌≡◌ {A = ℕ} 0 1 = cc in omega arith
capable (suc (suc (suc (suc zero)))) l h e = let z : ◌≡◌ {A = ℕ} 0 1 = cc in omega arith
capable (suc (suc (suc (suc (suc zero))))) l h e = let z : ◌≡◌ {A = ℕ} 0 1 = cc in omega arith
capable (suc (suc (suc (suc (suc (suc zero)))))) l h e = let z : ◌≡◌ {A = ℕ} 0 1 = cc in omega arith
capable (suc (suc (suc (suc (suc (suc (suc x))))))) l h e = absurd (omega arith)

pub listed_capable : (t : ℕ) → listed_terminal_type t ≡ true → online_capability_of_type t ≡ OnlineCapability.Unlisted → ⊥
listed_capable t e = let d = digit t e in capable (t % 16) d.0 d.1

-- ---- a stage decided

module _ (b : List ℕ) (w : Complete b) where
  all_there : (stage : Stage) → every (has_object b) (tags_needed_by_stage stage) ≡ true
  unfolding every
  all_there Stage.Denial = both_yes _ _ w.results (both_yes _ _ w.denial_code_lem refl)
  all_there Stage.OnlineOnly = both_yes _ _ w.results (both_yes _ _ w.denial_code_lem refl)
  all_there Stage.Default = both_yes _ _ w.results
      (both_yes _ _ w.denial_code_lem (both_yes _ _ w.default_code_lem refl))
  all_there Stage.Online = both_yes _ _ w.results
      (both_yes _ _ w.denial_code_lem (both_yes _ _ w.online_code_lem refl))

  some_stage : deciding_stage_in b ≡ None → ⊥
  unfolding deciding_stage_in
  some_stage = go (online_capability_of_type (terminal_type b)) (some_tvr_bit_in_codes_of_stage (stored_tvr b) (action_codes_of b)
      denial_stage) (listed_capable (terminal_type b) w.terminal)
    where
      go : (r : OnlineCapability) (h : Bool) → (r ≡ OnlineCapability.Unlisted → ⊥)
          → deciding_stage_by_denial_bit r h ≡ None → ⊥
      go r true n e = let z : ◌≡◌ {A = ℕ} 0 1 = cc in omega arith
      go OnlineCapability.OnlineOnly false n e = let z : ◌≡◌ {A = ℕ} 0 1 = cc in omega arith
      go OnlineCapability.OnlineCapable false n e = let z : ◌≡◌ {A = ℕ} 0 1 = cc in omega arith
      go OnlineCapability.OfflineOnly false n e = let z : ◌≡◌ {A = ℕ} 0 1 = cc in omega arith
      go OnlineCapability.Unlisted false n e = n refl

  decides : deciding_stage_if_its_data_present b ≡ None → ⊥
  unfolding deciding_stage_if_its_data_present
  decides = go (deciding_stage_in b) some_stage
    where
      go : (d : Option Stage) → (d ≡ None → ⊥) → stage_if_its_data_present b d ≡ None → ⊥
      go None n e = n refl
      go (Some stage) n e = let z : Some stage ≡ None =
          sym (if_yes _ _ (all_there stage)) ∙ e in n z

-- what a stage reports is no refusal
says : (b : List ℕ) (stage : Stage) → explanation_at_stage b stage ≡ Explanation.Refused → ⊥
unfolding explanation_at_stage
says b stage = go (lowest_tvr_bit_in_codes (stored_tvr b) (action_codes_of_stage b stage))
  where
    go : (l : Option ℕ) → explanation_by_bit stage (action_codes_of_stage b stage) l ≡ Explanation.Refused → ⊥
    go (Some i) e = let z : ◌≡◌ {A = ℕ} 0 1 = cc in omega arith
    go None e = let z : ◌≡◌ {A = ℕ} 0 1 = cc in omega arith

-- ---- by phase

module _ (b : List ℕ) (w : Complete b) where
  -- waiting on the cryptogram with the choice of the store
  pub waiting_answers : (a : RequestedCryptogram) → a.choice ≡ recomputed_choice b
      → explanation_awaiting_cryptogram a b (deciding_stage_if_its_data_present b) ≡ Explanation.Refused → ⊥
  waiting_answers a c = go (deciding_stage_if_its_data_present b) (decides b w)
    where
      go : (d : Option Stage) → (d ≡ None → ⊥) → explanation_awaiting_cryptogram a b d
          ≡ Explanation.Refused → ⊥
      go None n e = n refl
      go (Some stage) n e = says b stage (sym (if_yes _ _ (eq-eqb _ _ (ap generate_ac_p1 c))) ∙ e)

  -- ended with the outcome that the cryptogram gives on it
  pub decided_answers : (x : Ending) → has_object b 0x9F27 ≡ true → StoredCryptogramDecidesOutcome b x.outcome
      → explanation_of_decision x b (deciding_stage_if_its_data_present b) ≡ Explanation.Refused → ⊥
  decided_answers x h g = go (deciding_stage_if_its_data_present b) (decides b w)
    where
      given : is_decision_outcome (outcome_for_cryptogram_type (recomputed_choice b) (stored_cryptogram_type b)) x.outcome
          ≡ true
      given = ap (λ (d : Option Outcome). is_decision_outcome d x.outcome) g ∙ eq-eqb (outcome_number x.outcome)
          (outcome_number x.outcome) refl

      P : Explanation → Type 0
      P r = r ≡ Explanation.Refused → ⊥

      go : (d : Option Stage) → (d ≡ None → ⊥) → explanation_of_decision x b d ≡ Explanation.Refused → ⊥
      go None n = λ e. n refl
      go (Some stage) n =
          if_ind P _ _ _ (λ t e. (let z : ◌≡◌ {A = Bool} false true = sym (ap not h) ∙ t in let y : ◌≡◌ {A = ℕ} 0 1 = cc
          in omega arith))
          (λ t. if_ind P _ _ _
          (λ u e. (let z : ◌≡◌ {A = Bool} false true = sym (ap not given) ∙ u in let y : ◌≡◌ {A = ℕ} 0 1 = cc in
          omega arith))
          (λ u. if_ind P _ _ _ (λ v e. (let z : ◌≡◌ {A = ℕ} 0 1 = cc in omega arith)) (λ v e. says b stage e)))

  pub ended_answers : (x : Ending) → x.reason ≡ reason_none → aip_indicates_mag_stripe b ≡ false
      → has_object b 0x9F27 ≡ true → StoredCryptogramDecidesOutcome b x.outcome → explanation_of_ending_by_mode x b
      ≡ Explanation.Refused → ⊥
  unfolding explanation_of_ending
  ended_answers x z m h g e = decided_answers x h g (sym (if_yes _ _ (eq-eqb _ _ z)) ∙ sym (by_choice x b m) ∙ e)

-- ended with a reason
pub reason_answers : (x : Ending) (b : List ℕ) → (x.reason ≡ reason_none → ⊥) → explanation_of_ending_by_mode x b
    ≡ Explanation.Refused → ⊥
reason_answers x b n e = let w = sym (by_reason x b n ∙ ended_reason x b n) ∙ e in let z : ◌≡◌ {A = ℕ} 0 1 = cc in
    omega arith

-- ended in mag-stripe mode
pub mag_stripe_answers : (x : Ending) (b : List ℕ) → x.reason ≡ reason_none → aip_indicates_mag_stripe b ≡ true
    → explanation_of_ending_by_mode x b ≡ Explanation.Refused → ⊥
mag_stripe_answers x b z m e = let w = sym (by_mag_stripe x b z m) ∙ e in let y : ◌≡◌ {A = ℕ} 0 1 = cc in omega arith

-- ---- a session in its ranges is what its phase says

pub phase_answers : (s : Session) (p : Phase) → session_record_in_ranges s ≡ true → s.phase ≡ p
    → (explanation_in_phase p (store_bytes s) ≡ Explanation.Refused → ⊥) → explanation_of s ≡ Explanation.Refused → ⊥
unfolding explanation_of
phase_answers s p i q n e = n (sym (if_yes _ _ i ∙ ap (λ (x : Phase). explanation_in_phase x (store_bytes s)) q) ∙ e)
