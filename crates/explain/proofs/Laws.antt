-- What the stages say, law by law: a stage that decided holds a bit exactly where the choice is the one that a bit
-- there forces, so the lowest bit that is named explains the choice; and from that every clause of what an
-- explanation promises.
-- Assumes nothing.
use Rattle.std.specs.Prelude.{Some, None, Option}
use mathlib.Core.Path.{◌≡◌, refl, sym, ap, ap₂, subst, subst⁻¹, ◌∙◌}
use mathlib.Core.Bool.{Bool, true, false, not}
use mathlib.Core.Logic.{inl, inr}
use mathlib.Core.List.{List, [], ◌∷◌}
use Prim.Native.Nat.{ℕ, zero, suc, ◌≤◌, ◌<◌}
use native.Mathlib.Nat.{zero-div}
use native.Mathlib.Omega.{arith}
use lib.ListN.{get_or}
use borrow.Author.Tests.{eq-eqb, ne_eqb, eqb-true, ltb-true, lt-ltb, le-ltb, not-false}
use Rattle.basics.specs.Choice.{both, every}
use Rattle.basics.specs.Reason.{reason_none}
use Rattle.basics.proofs.Laws.{bool_cases, if_ind, if_yes, if_no, both_yes, both_left, both_right, both_no_left}
use Rattle.basics.proofs.Laws.{both_no_right, both_assoc, either_no}
use Rattle.store.specs.Held.{has_object, stored_bytes}
use Rattle.analysis.specs.Bits.{has_bit_counted_from_zero_at_byte1b8, value_has_bit}
use Rattle.analysis.specs.Choice.{all_zeros_action_code, tvr_bit_is_in_either_action_code, lowest_tvr_bit_in_codes, is_some_bit}
use Rattle.analysis.specs.Choice.{some_tvr_bit_in_codes_of_stage, denial_stage, online_stage, default_stage}
use Rattle.analysis.specs.Choice.{online_capability_of_type, choice_by_stages, terminal_action_analysis, generate_ac_p1}
use Rattle.analysis.specs.Action.{terminal_type, action_codes_of, choice_for_tvr}
use Rattle.analysis.specs.declared.choice.OnlineCapability.{OnlineCapability}
use Rattle.analysis.specs.declared.choice.Choice.{Choice}
use Rattle.analysis.specs.declared.choice.ActionCodes.{ActionCodes}
use Rattle.analysis.proofs.Stages.{lowest_held, none_held, all_clear}
use Rattle.session_record.specs.declared.RequestedCryptogram.{RequestedCryptogram}
use Rattle.session_record.specs.declared.Ending.{Ending}
use Rattle.session_record.specs.declared.Outcome.{Outcome}
use Rattle.session_record.specs.declared.AwaitedResponse.{AwaitedResponse}
use Rattle.session_record.specs.declared.Phase.{Phase}
use Rattle.session_record.specs.declared.Session.{Session}
use Rattle.session_record.specs.Numbers.{outcome_number}
use Rattle.session_record.specs.Session.{store_bytes}
use Rattle.session_record.specs.Ranges.{mag_stripe_mode}
use Rattle.session.specs.Answer.{outcome_for_cryptogram_type}
use Rattle.explain.specs.declared.Stage.{Stage}
use Rattle.explain.specs.declared.ForcedChoiceCause.{ForcedChoiceCause}
use Rattle.explain.specs.declared.Explanation.{Explanation}
use Rattle.explain.specs.Explain.{stored_tvr, recomputed_choice, deciding_stage_by_denial_bit, deciding_stage_in}
use Rattle.explain.specs.Explain.{tags_needed_by_stage, stage_if_its_data_present, deciding_stage_if_its_data_present}
use Rattle.explain.specs.Explain.{action_code_holder_of_bit, action_codes_of_stage, explanation_by_bit, explanation_at_stage}
use Rattle.explain.specs.Explain.{explanation_awaiting_cryptogram, rank_of_cryptogram_type, stored_cryptogram_type}
use Rattle.explain.specs.Explain.{requested_cryptogram_type, is_decision_outcome, explanation_of_decision}
use Rattle.explain.specs.Explain.{explanation_of_ending, aip_indicates_mag_stripe, explanation_of_ending_by_mode}
use Rattle.explain.specs.Explain.{explanation_while_awaiting, explanation_in_phase, explanation_of}
use Rattle.explain.specs.Promise.{choice_forced_by, choice_unforced_at, ForcedChoiceExplained}
use Rattle.explain.specs.Promise.{UnforcedChoiceExplained, CryptogramLowerThanRequested}
use Rattle.explain.specs.Promise.{StoredCryptogramDecidesOutcome, ExplanationHolds}

-- ---- the stage that decided

module _ (b : List ℕ) where
  -- a stage that decided is the one that the type and the denial codes determine
  pub deciding_stage_lem : (stage : Stage) → deciding_stage_if_its_data_present b ≡ Some stage
      → deciding_stage_in b ≡ Some stage
  unfolding deciding_stage_if_its_data_present
  deciding_stage_lem stage e = go (deciding_stage_in b) e
    where
      go : (d : Option Stage) → stage_if_its_data_present b d ≡ Some stage → d ≡ Some stage
      go None = λ e. e
      go (Some g) = if_ind (λ (d : Option Stage). d ≡ Some stage
          → Some g ≡ Some stage) _ _ _ (λ t e. e) (λ t e. cc)

pub bit_within : (result : List ℕ) (pair : ActionCodes) {l : Option ℕ} {i : ℕ} → l ≡ lowest_tvr_bit_in_codes result pair
    → l ≡ Some i → i < 40
bit_within result pair {l} {i} f e = omega (arith, (lowest_held result pair i (sym f ∙ e)).within)

-- ---- whether it holds a bit

-- by whether denial, online and default hold one
abbrev held_here : Stage → Bool → Bool → Bool → Bool
held_here Stage.Denial h o d = h
held_here Stage.OnlineOnly h o d = false
held_here Stage.Default h o d = d
held_here Stage.Online h o d = o

-- the choice is the one that a bit of the stage forces, or the one that is left without
abbrev choice_at : Stage → Bool → Choice
choice_at stage true = choice_forced_by stage
choice_at stage false = choice_unforced_at stage

by_stage : (r : OnlineCapability) (h o d : Bool) (stage : Stage) → deciding_stage_by_denial_bit r h ≡ Some stage
    → choice_by_stages r h o d ≡ choice_at stage (held_here stage h o d)
by_stage r true o d stage e = let z : Stage.Denial ≡ stage = cc in ap (λ (g : Stage). choice_at g (held_here g true o d))
    z
by_stage OnlineCapability.OnlineOnly false o d stage e = let z : Stage.OnlineOnly ≡ stage = cc in
    ap (λ (g : Stage). choice_at g (held_here g false o d)) z
by_stage OnlineCapability.OnlineCapable false true d stage e = let z : Stage.Online ≡ stage = cc in
    ap (λ (g : Stage). choice_at g (held_here g false true d)) z
by_stage OnlineCapability.OnlineCapable false false d stage e = let z : Stage.Online ≡ stage = cc in
    ap (λ (g : Stage). choice_at g (held_here g false false d)) z
by_stage OnlineCapability.OfflineOnly false o true stage e = let z : Stage.Default ≡ stage = cc in
    ap (λ (g : Stage). choice_at g (held_here g false o true)) z
by_stage OnlineCapability.OfflineOnly false o false stage e = let z : Stage.Default ≡ stage = cc in
    ap (λ (g : Stage). choice_at g (held_here g false o false)) z
by_stage OnlineCapability.Unlisted false o d stage e = let z : ◌≡◌ {A = ℕ} 0 1 = cc in absurd (omega arith)

-- codes of zeros hold no bit
zero_at : (i : ℕ) → get_or all_zeros_action_code i 0 ≡ 0
zero_at zero = refl
zero_at (suc zero) = refl
zero_at (suc (suc zero)) = refl
zero_at (suc (suc (suc zero))) = refl
zero_at (suc (suc (suc (suc zero)))) = refl
zero_at (suc (suc (suc (suc (suc i))))) = refl

zero_bit : (i : ℕ) → has_bit_counted_from_zero_at_byte1b8 all_zeros_action_code i ≡ false
unfolding has_bit_counted_from_zero_at_byte1b8
zero_bit i = simp (zero_at, zero-div)

zeros_clear : (result : List ℕ) (i : ℕ)
    → tvr_bit_is_in_either_action_code result (record { card = all_zeros_action_code; terminal = all_zeros_action_code }) i ≡ false
unfolding tvr_bit_is_in_either_action_code
zeros_clear result i = both_no_right _ _ (either_no _ _ (zero_bit i) (zero_bit i))

module _ (b : List ℕ) where
  -- the stage's codes hold a bit
  held_in : Stage → Bool
  held_in stage = is_some_bit (lowest_tvr_bit_in_codes (stored_tvr b) (action_codes_of_stage b stage))

  held_here_lem : (stage : Stage) → held_here stage (some_tvr_bit_in_codes_of_stage (stored_tvr b) (action_codes_of b) denial_stage)
      (some_tvr_bit_in_codes_of_stage (stored_tvr b) (action_codes_of b) online_stage)
      (some_tvr_bit_in_codes_of_stage (stored_tvr b) (action_codes_of b) default_stage)
      ≡ held_in stage
  unfolding some_tvr_bit_in_codes_of_stage action_codes_of_stage held_in
  held_here_lem Stage.Denial = refl
  held_here_lem Stage.OnlineOnly = sym (ap is_some_bit (all_clear (stored_tvr b) _ (λ m h. zeros_clear (stored_tvr b) m)))
  held_here_lem Stage.Default = refl
  held_here_lem Stage.Online = refl

  -- so a stage with a bit gives exactly its choice
  stage_choice : (stage : Stage) → deciding_stage_if_its_data_present b ≡ Some stage
      → recomputed_choice b ≡ choice_at stage (held_in stage)
  unfolding choice_for_tvr terminal_action_analysis deciding_stage_in
  stage_choice stage e = by_stage _ _ _ _ stage (deciding_stage_lem b stage e) ∙ ap (choice_at stage) (held_here_lem stage)

-- ---- what a stage reports

-- what is promised of every explanation of a store
pub record Right (b : List ℕ) (r : Explanation) : Type 0 where
  pub named : (c : ForcedChoiceCause) → r ≡ Explanation.Forced c → ForcedChoiceExplained b c
  pub unnamed : (stage : Stage) → r ≡ Explanation.Unforced stage → UnforcedChoiceExplained b stage
  pub lower : r ≡ Explanation.LowerCryptogram → CryptogramLowerThanRequested b

-- one that names nothing
abbrev Plain : Explanation → Type 0
Plain Explanation.Refused = Unit {0}
Plain (Explanation.Reason n) = Unit {0}
Plain Explanation.NoChoice = Unit {0}
Plain Explanation.LowerCryptogram = ⊥
Plain (Explanation.Forced c) = ⊥
Plain (Explanation.Unforced g) = ⊥

plain : (b : List ℕ) (r : Explanation) → Plain r → Right b r
plain b r p =
    record {
      named = λ c e. absurd (subst Plain e p);
      unnamed = λ g e. absurd (subst Plain e p);
      lower = λ e. absurd (subst Plain e p);
    }

-- the lowest bit that the stage that decided holds, or that it holds none
module _ (b : List ℕ) (stage : Stage) (e : deciding_stage_if_its_data_present b ≡ Some stage) where
  found_right : (i : ℕ) → lowest_tvr_bit_in_codes (stored_tvr b) (action_codes_of_stage b stage) ≡ Some i
      → ForcedChoiceExplained b
      (record { stage = stage; bit = i; holder = action_code_holder_of_bit (action_codes_of_stage b stage) i })
  unfolding tvr_bit_is_in_either_action_code held_in
  found_right i f =
      let k = lowest_held (stored_tvr b) (action_codes_of_stage b stage) i f in
      record {
        decides = e;
        within = omega (arith, k.within);
        set = both_left _ _ k.passes;
        held = both_right _ _ k.passes;
        lowest = λ m h. k.below m (omega arith) h;
        holder = refl;
        choice = stage_choice b stage e ∙ ap (λ (l : Option ℕ). choice_at stage (is_some_bit l)) f;
      }

  none_right : lowest_tvr_bit_in_codes (stored_tvr b) (action_codes_of_stage b stage) ≡ None
      → UnforcedChoiceExplained b stage
  unfolding held_in
  none_right f =
      record {
        decides = e;
        none = none_held (stored_tvr b) (action_codes_of_stage b stage) f;
        choice = stage_choice b stage e ∙ ap (λ (l : Option ℕ). choice_at stage (is_some_bit l)) f;
      }

  reason_right : Right b (explanation_at_stage b stage)
  unfolding explanation_at_stage
  reason_right = go (lowest_tvr_bit_in_codes (stored_tvr b) (action_codes_of_stage b stage)) refl
    where
      go : (l : Option ℕ) → lowest_tvr_bit_in_codes (stored_tvr b) (action_codes_of_stage b stage) ≡ l
          → Right b (explanation_by_bit stage (action_codes_of_stage b stage) l)
      go (Some i) f =
          record {
            named =
                λ c h.
                (let z : record {
                  stage = stage;
                  bit = i;
                  holder = action_code_holder_of_bit (action_codes_of_stage b stage) i;
                }
                ≡ c = cc in subst (ForcedChoiceExplained b) z (found_right i f));
            unnamed = λ g h. (let z : ◌≡◌ {A = ℕ} 0 1 = cc in absurd (omega arith));
            lower = λ h. (let z : ◌≡◌ {A = ℕ} 0 1 = cc in absurd (omega arith));
          }
      go None f =
          record {
            named = λ c h. (let z : ◌≡◌ {A = ℕ} 0 1 = cc in absurd (omega arith));
            unnamed = λ g h. (let z : stage ≡ g = cc in subst (UnforcedChoiceExplained b) z (none_right f));
            lower = λ h. (let z : ◌≡◌ {A = ℕ} 0 1 = cc in absurd (omega arith));
          }

-- ---- by phase

module _ (b : List ℕ) where
  lower_right : CryptogramLowerThanRequested b → Right b Explanation.LowerCryptogram
  lower_right h =
      record {
        named = λ c e. (let z : ◌≡◌ {A = ℕ} 0 1 = cc in absurd (omega arith));
        unnamed = λ g e. (let z : ◌≡◌ {A = ℕ} 0 1 = cc in absurd (omega arith));
        lower = λ e. h;
      }

  waiting_right : (a : RequestedCryptogram) (d : Option Stage) → deciding_stage_if_its_data_present b ≡ d
      → Right b (explanation_awaiting_cryptogram a b d)
  waiting_right a None e = plain b _ tt
  waiting_right a (Some g) e = if_ind (Right b) _ _ _ (λ t. reason_right b g e) (λ t. plain b _ tt)

  decided_right : (x : Ending) (d : Option Stage) → deciding_stage_if_its_data_present b ≡ d
      → Right b (explanation_of_decision x b d)
  decided_right x None e = plain b _ tt
  decided_right x (Some g) e =
      if_ind (Right b) _ _ _ (λ t. plain b _ tt)
      (λ t. if_ind (Right b) _ _ _ (λ u. plain b _ tt)
      (λ u. if_ind (Right b) _ _ _ (λ v. lower_right (ltb-true _ _ v)) (λ v. reason_right b g e)))

  awaiting_right : (w : AwaitedResponse) → Right b (explanation_while_awaiting w b)
  awaiting_right AwaitedResponse.Gpo = plain b _ tt
  awaiting_right (AwaitedResponse.Record p) = plain b _ tt
  awaiting_right (AwaitedResponse.Cryptogram a) = waiting_right a (deciding_stage_if_its_data_present b) refl
  awaiting_right (AwaitedResponse.Checksum k) = plain b _ tt

  phase_right : (p : Phase) → Right b (explanation_in_phase p b)
  unfolding explanation_of_ending explanation_of_ending_by_mode
  phase_right Phase.Fresh = plain b _ tt
  phase_right (Phase.Waiting w) = awaiting_right w
  phase_right (Phase.Ended x) =
      if_ind (Right b) _ _ _ (λ u. plain b _ tt)
      (λ u. if_ind (Right b) _ _ _ (λ t. decided_right x (deciding_stage_if_its_data_present b) refl) (λ t. plain b _ tt))

-- ---- ended, as the code comes to it

module _ (x : Ending) (b : List ℕ) where
  pub ended_reason : (x.reason ≡ reason_none → ⊥) → explanation_of_ending x b ≡ Explanation.Reason x.reason
  unfolding explanation_of_ending
  ended_reason n = if_no _ _ (ne_eqb _ _ n)

-- record's mag-stripe mode: the card requests it, and the terminal's configuration does not say that it is off
pub mag_stripe_mode_is : (b : List ℕ) → mag_stripe_mode b ≡ both (aip_indicates_mag_stripe b)
    (not (value_has_bit (stored_bytes b 0xDF811B) 1 8))
mag_stripe_mode_is b = both_assoc _ _ _

-- ended, by the mode
module _ (x : Ending) (b : List ℕ) where
  pub by_reason : (x.reason ≡ reason_none → ⊥) → explanation_of_ending_by_mode x b ≡ explanation_of_ending x b
  unfolding explanation_of_ending_by_mode
  by_reason n = if_no _ _ (both_no_left _ _ (ne_eqb _ _ n))

  pub by_mag_stripe : x.reason ≡ reason_none → aip_indicates_mag_stripe b ≡ true → explanation_of_ending_by_mode x b
      ≡ Explanation.NoChoice
  unfolding explanation_of_ending_by_mode
  by_mag_stripe z e = if_yes _ _ (both_yes _ _ (eq-eqb _ _ z) e)

  pub by_choice : aip_indicates_mag_stripe b ≡ false → explanation_of_ending_by_mode x b ≡ explanation_of_ending x b
  unfolding explanation_of_ending_by_mode
  by_choice e = if_no _ _ (both_no_right _ _ e)

-- ---- the choice that is held, and the outcome

pub same_p1 : (c d : Choice) → generate_ac_p1 c ≡ generate_ac_p1 d → c ≡ d
same_p1 Choice.Decline Choice.Decline e = refl
same_p1 Choice.Decline Choice.Online e = absurd (omega arith)
same_p1 Choice.Decline Choice.Offline e = absurd (omega arith)
same_p1 Choice.Online Choice.Decline e = absurd (omega arith)
same_p1 Choice.Online Choice.Online e = refl
same_p1 Choice.Online Choice.Offline e = absurd (omega arith)
same_p1 Choice.Offline Choice.Decline e = absurd (omega arith)
same_p1 Choice.Offline Choice.Online e = absurd (omega arith)
same_p1 Choice.Offline Choice.Offline e = refl

-- a number is one outcome's
abbrev outcome_of : ℕ → Outcome
outcome_of zero = Outcome.Approved
outcome_of (suc zero) = Outcome.OnlineRequest
outcome_of (suc (suc zero)) = Outcome.Declined
outcome_of (suc (suc (suc zero))) = Outcome.Ended
outcome_of (suc (suc (suc (suc n)))) = Outcome.SelectNext

outcome_back : (o : Outcome) → outcome_of (outcome_number o) ≡ o
outcome_back Outcome.Approved = refl
outcome_back Outcome.OnlineRequest = refl
outcome_back Outcome.Declined = refl
outcome_back Outcome.Ended = refl
outcome_back Outcome.SelectNext = refl

pub gives_it : (d : Option Outcome) (o : Outcome) → is_decision_outcome d o ≡ true → d ≡ Some o
gives_it None o e = cc
gives_it (Some x) o e = ap Some (sym (outcome_back x) ∙ ap outcome_of (eqb-true (outcome_number x) (outcome_number o) e) ∙
    outcome_back o)

module _ (b : List ℕ) where
  waiting_held : (a : RequestedCryptogram) (d : Option Stage)
      → (explanation_awaiting_cryptogram a b d ≡ Explanation.Refused → ⊥) → a.choice ≡ recomputed_choice b
  waiting_held a None = λ n. absurd (n refl)
  waiting_held a (Some g) =
      if_ind (λ (r : Explanation). (r ≡ Explanation.Refused → ⊥) → a.choice ≡ recomputed_choice b) _ _ _
      (λ t n. same_p1 _ _ (eqb-true _ _ t)) (λ t n. absurd (n refl))

  decided_given : (x : Ending) (d : Option Stage) → (explanation_of_decision x b d ≡ Explanation.Refused → ⊥)
      → StoredCryptogramDecidesOutcome b x.outcome
  decided_given x None = λ n. absurd (n refl)
  decided_given x (Some g) =
      if_ind P _ _ _ (λ t n. absurd (n refl))
      (λ t. if_ind P _ _ _ (λ u n. absurd (n refl)) (λ u n. gives_it _ _ (not-false _ u)))
    where
      P : Explanation → Type 0
      P r = (r ≡ Explanation.Refused → ⊥) → StoredCryptogramDecidesOutcome b x.outcome

  ended_given : (x : Ending) → x.reason ≡ reason_none → (explanation_of_ending x b ≡ Explanation.Refused → ⊥)
      → StoredCryptogramDecidesOutcome b x.outcome
  unfolding explanation_of_ending
  ended_given x e n = decided_given x (deciding_stage_if_its_data_present b) (λ z. n (if_yes _ _ (eq-eqb _ _ e) ∙ z))

  -- outside mag-stripe mode
  chosen_given : (x : Ending) → x.reason ≡ reason_none → (explanation_of_ending_by_mode x b ≡ Explanation.Refused → ⊥)
      → aip_indicates_mag_stripe b ≡ false → StoredCryptogramDecidesOutcome b x.outcome
  chosen_given x e n m = ended_given x e (λ z. n (by_choice x b m ∙ z))

  -- a choice is reported
  abbrev Tells : Explanation → Type 0
  Tells Explanation.Refused = Unit {0}
  Tells (Explanation.Reason n) = Unit {0}
  Tells Explanation.NoChoice = ⊥
  Tells Explanation.LowerCryptogram = Unit {0}
  Tells (Explanation.Forced c) = Unit {0}
  Tells (Explanation.Unforced g) = Unit {0}

  reason_tells : (stage : Stage) → Tells (explanation_at_stage b stage)
  unfolding explanation_at_stage
  reason_tells stage = go (lowest_tvr_bit_in_codes (stored_tvr b) (action_codes_of_stage b stage))
    where
      go : (l : Option ℕ) → Tells (explanation_by_bit stage (action_codes_of_stage b stage) l)
      go (Some i) = tt
      go None = tt

  decided_tells : (x : Ending) (d : Option Stage) → Tells (explanation_of_decision x b d)
  decided_tells x None = tt
  decided_tells x (Some g) =
      if_ind Tells _ _ _ (λ t. tt)
      (λ t. if_ind Tells _ _ _ (λ u. tt) (λ u. if_ind Tells _ _ _ (λ v. tt) (λ v. reason_tells g)))

  ended_tells : (x : Ending) → Tells (explanation_of_ending x b)
  unfolding explanation_of_ending
  ended_tells x = if_ind Tells _ _ _ (λ t. decided_tells x (deciding_stage_if_its_data_present b)) (λ t. tt)

  -- so no choice is reported in mag-stripe mode alone
  no_choice_mag_stripe : (x : Ending) → explanation_of_ending_by_mode x b ≡ Explanation.NoChoice
      → aip_indicates_mag_stripe b ≡ true
  no_choice_mag_stripe x e = elim (bool_cases (aip_indicates_mag_stripe b))
      [ inl y ↦ y | inr n ↦ absurd (subst Tells (sym (by_choice x b n) ∙ e) (ended_tells x)) ]

-- ---- the promise

module _ (s : Session) where
  explained_right : Right (store_bytes s) (explanation_of s)
  unfolding explanation_of
  explained_right = if_ind (Right (store_bytes s)) _ _ _ (λ t. phase_right (store_bytes s) s.phase)
      (λ t. plain (store_bytes s) _ tt)

  -- what is not refused is what the phase says
  by_phase : (explanation_of s ≡ Explanation.Refused → ⊥) → (p : Phase) → s.phase ≡ p
      → explanation_in_phase p (store_bytes s) ≡ Explanation.Refused → ⊥
  unfolding explanation_of
  by_phase = if_ind P _ _ _ (λ t n p q z. n (ap (λ (x : Phase). explanation_in_phase x (store_bytes s)) q ∙ z))
      (λ t n p q z. n refl)
    where
      P : Explanation → Type 0
      P r = (r ≡ Explanation.Refused → ⊥) → (p : Phase) → s.phase ≡ p → explanation_in_phase p (store_bytes s)
          ≡ Explanation.Refused → ⊥

  without_by_phase : (p : Phase) → s.phase ≡ p → explanation_of s ≡ Explanation.NoChoice
      → explanation_in_phase p (store_bytes s) ≡ Explanation.NoChoice
  unfolding explanation_of
  without_by_phase p q = if_ind P _ _ _ (λ t z. ap (λ (x : Phase). explanation_in_phase x (store_bytes s)) (sym q) ∙ z)
      (λ t z. cc)
    where
      P : Explanation → Type 0
      P r = r ≡ Explanation.NoChoice → explanation_in_phase p (store_bytes s) ≡ Explanation.NoChoice

  explained_told : ExplanationHolds s (explanation_of s)
  explained_told =
      record {
        answer = refl;
        named = explained_right.named;
        unnamed = explained_right.unnamed;
        lower = explained_right.lower;
        held = λ a q n. waiting_held (store_bytes s) a (deciding_stage_if_its_data_present (store_bytes s))
            (by_phase n (Phase.Waiting (AwaitedResponse.Cryptogram a)) q);
        decided = λ x q z n m. chosen_given (store_bytes s) x z (by_phase n (Phase.Ended x) q) m;
        without = λ x q z e. no_choice_mag_stripe (store_bytes s) x (without_by_phase (Phase.Ended x) q e);
      }

  -- an answer that is the definition's keeps every clause
  pub told : {r : Explanation} → r ≡ explanation_of s → ExplanationHolds s r
  told e = subst⁻¹ (ExplanationHolds s) e explained_told
