-- What is promised of an explanation, in the words of document 02, Item 7: it is the one of Explain.antt, and what
-- follows from that of the bit that is named, of a choice that no bit forced, and of the choice and the outcome.
-- Assumes nothing.
use Rattle.std.specs.Prelude.{◌≡◌, true, false, ℕ, ◌<◌, Some}
use Rattle.basics.specs.Choice.{◌or◌}
use Rattle.basics.specs.Reason.{reason_none}
use Rattle.basics.specs.Types.{StoreBytes}
use Rattle.analysis.specs.Bits.{has_bit_counted_from_zero_at_byte1b8}
use Rattle.analysis.specs.Choice.{tvr_bit_is_in_either_action_code}
use Rattle.analysis.specs.declared.choice.Choice.{Choice}
use Rattle.session_record.specs.declared.AwaitedResponse.{AwaitedResponse}
use Rattle.session_record.specs.declared.RequestedCryptogram.{RequestedCryptogram}
use Rattle.session_record.specs.declared.Ending.{Ending}
use Rattle.session_record.specs.declared.Outcome.{Outcome}
use Rattle.session_record.specs.declared.Phase.{Phase}
use Rattle.session_record.specs.declared.Session.{Session}
use Rattle.session_record.specs.Session.{store_bytes}
use Rattle.session.specs.Answer.{outcome_for_cryptogram_type}
use Rattle.explain.specs.declared.Stage.{Stage}
use Rattle.explain.specs.declared.ForcedChoiceCause.{ForcedChoiceCause}
use Rattle.explain.specs.declared.Explanation.{Explanation}
use Rattle.explain.specs.Explain.{stored_tvr, recomputed_choice, deciding_stage_if_its_data_present}
use Rattle.explain.specs.Explain.{action_code_holder_of_bit, action_codes_of_stage}
use Rattle.explain.specs.Explain.{rank_of_cryptogram_type, stored_cryptogram_type, requested_cryptogram_type}
use Rattle.explain.specs.Explain.{aip_indicates_mag_stripe, explanation_of}

-- the choice that a bit held at a stage forces
abbrev pub choice_forced_by : Stage → Choice
choice_forced_by Stage.Denial = Choice.Decline
choice_forced_by Stage.OnlineOnly = Choice.Online
choice_forced_by Stage.Default = Choice.Decline
choice_forced_by Stage.Online = Choice.Online

-- the choice where a stage that was consulted last holds no bit; denial decides only with one
abbrev pub choice_unforced_at : Stage → Choice
choice_unforced_at Stage.Denial = Choice.Decline
choice_unforced_at Stage.OnlineOnly = Choice.Online
choice_unforced_at Stage.Default = Choice.Offline
choice_unforced_at Stage.Online = Choice.Offline

-- a bit that is named: the stage decided, the bit is set and held in a code of the stage, no lower one is, its holder
-- holds it, and a bit of that stage forces exactly this choice
pub record ForcedChoiceExplained (store : StoreBytes) (cause : ForcedChoiceCause) : Type 0 where
  pub decides : deciding_stage_if_its_data_present store ≡ Some cause.stage
  pub within : cause.bit < 40
  pub set : has_bit_counted_from_zero_at_byte1b8 (stored_tvr store) cause.bit ≡ true
  pub held : let pair = action_codes_of_stage store cause.stage in
      (has_bit_counted_from_zero_at_byte1b8 pair.card cause.bit or has_bit_counted_from_zero_at_byte1b8 pair.terminal
      cause.bit) ≡ true
  pub lowest : (i : ℕ) → i < cause.bit
      → tvr_bit_is_in_either_action_code (stored_tvr store) (action_codes_of_stage store cause.stage) i ≡ false
  pub holder : cause.holder ≡ action_code_holder_of_bit (action_codes_of_stage store cause.stage) cause.bit
  pub choice : recomputed_choice store ≡ choice_forced_by cause.stage

-- a choice that no bit forced: the stage decided, it holds no bit, and the choice is the one that the type leaves
pub record UnforcedChoiceExplained (store : StoreBytes) (deciding_stage : Stage) : Type 0 where
  pub decides : deciding_stage_if_its_data_present store ≡ Some deciding_stage
  pub none : (i : ℕ) → i < 40
      → tvr_bit_is_in_either_action_code (stored_tvr store) (action_codes_of_stage store deciding_stage) i ≡ false
  pub choice : recomputed_choice store ≡ choice_unforced_at deciding_stage

-- a lower cryptogram: its type ranks below the one that the choice requests
abbrev pub CryptogramLowerThanRequested : StoreBytes → Type 0
CryptogramLowerThanRequested b =
    rank_of_cryptogram_type (stored_cryptogram_type b) < rank_of_cryptogram_type (requested_cryptogram_type (recomputed_choice b))

-- the decision on the stored cryptogram, by the choice, is the outcome
abbrev pub StoredCryptogramDecidesOutcome : StoreBytes → Outcome → Type 0
StoredCryptogramDecidesOutcome b o = outcome_for_cryptogram_type (recomputed_choice b) (stored_cryptogram_type b) ≡ Some o

-- what is promised of the explanation r of a session; one that is not refused holds the choice that the rest of the
-- record gives, or, outside mag-stripe mode, the outcome that its cryptogram gives; after reason 0 there is no choice
-- in mag-stripe mode alone
pub record ExplanationHolds (session : Session) (explanation : Explanation) : Type 0 where
  pub answer : explanation ≡ explanation_of session
  pub named : (c : ForcedChoiceCause) → explanation ≡ Explanation.Forced c
      → ForcedChoiceExplained (store_bytes session) c
  pub unnamed : (stage : Stage) → explanation ≡ Explanation.Unforced stage
      → UnforcedChoiceExplained (store_bytes session) stage
  pub lower : explanation ≡ Explanation.LowerCryptogram → CryptogramLowerThanRequested (store_bytes session)
  pub held : (a : RequestedCryptogram) → session.phase ≡ Phase.Waiting (AwaitedResponse.Cryptogram a)
      → (explanation ≡ Explanation.Refused → ⊥) → a.choice ≡ recomputed_choice (store_bytes session)
  pub decided : (e : Ending) → session.phase ≡ Phase.Ended e → e.reason ≡ reason_none
      → (explanation ≡ Explanation.Refused → ⊥)
      → aip_indicates_mag_stripe (store_bytes session) ≡ false → StoredCryptogramDecidesOutcome (store_bytes session)
      e.outcome
  pub without : (e : Ending) → session.phase ≡ Phase.Ended e → e.reason ≡ reason_none
      → explanation ≡ Explanation.NoChoice
      → aip_indicates_mag_stripe (store_bytes session) ≡ true
