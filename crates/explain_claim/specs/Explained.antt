-- What explain reports of a session that calls lead to (document 02, Item 7), from a fresh session on. It is never 25,
-- and the choice, the stage, the bit and the holder that it names are those of the store on which GENERATE AC was
-- handed out. Left out is where the answer to GENERATE AC ended the session with reason 0 and itself brought an action
-- code of the card that was absent, in a 70 inside its 77, as document 01 allows: the choice was made without that
-- code, and what the final store gives is answered, 25 or not.
-- Assumes nothing.
use Rattle.std.specs.Prelude.{Option, Some, None}
use Rattle.std.specs.Prelude.{◌≡◌, Bool, true, false, not, List, [], ◌∷◌, ◌++◌, map, ℕ, ◌≤◌, ◌<◌, get_or}
use Rattle.basics.specs.Types.{StoreBytes, CommandBytes, Byte, Tag}
use Rattle.basics.specs.Choice.{when◌then◌else◌, ◌and◌, ◌or◌, ◌=?◌}
use Rattle.basics.specs.Reason.{reason_none}
use Rattle.store.specs.Held.{has_object, lacks_object}
use Rattle.analysis.specs.Choice.{tvr_bit_is_in_either_action_code, generate_ac_p1}
use Rattle.analysis.specs.declared.choice.Choice.{Choice}
use Rattle.laws.specs.Rank.{choice_rank}
use Rattle.session_record.specs.declared.AwaitedResponse.{AwaitedResponse}
use Rattle.session_record.specs.declared.Phase.{Phase}
use Rattle.session_record.specs.declared.Session.{Session}
use Rattle.session_record.specs.Session.{store_bytes}
use Rattle.session_record.specs.Ranges.{mag_stripe_mode}
use Rattle.session_claim.specs.Calls.{commands_sent, calls_accepted, last_element}
use Rattle.session.specs.Calls.{CallMade, call_result, command_sent}
use Rattle.session_claim.specs.Order.{begins_with_two_bytes}
use Rattle.explain.specs.declared.ForcedChoiceCause.{ForcedChoiceCause}
use Rattle.explain.specs.declared.Explanation.{Explanation}
use Rattle.explain.specs.declared.Stage.{Stage}
use Rattle.explain.specs.Explain.{stored_tvr, recomputed_choice, deciding_stage_in, action_code_holder_of_bit}
use Rattle.explain.specs.Explain.{action_codes_of_stage, rank_of_cryptogram_type}
use Rattle.explain.specs.Explain.{stored_cryptogram_type, requested_cryptogram_type, aip_indicates_mag_stripe, explanation_of}
use Rattle.explain.specs.Promise.{choice_forced_by, choice_unforced_at}

-- ---- an answer that brought a code

-- the cryptogram is awaited
abbrev pub awaits_cryptogram : Phase → Bool
awaits_cryptogram Phase.Fresh = false
awaits_cryptogram (Phase.Waiting AwaitedResponse.Gpo) = false
awaits_cryptogram (Phase.Waiting (AwaitedResponse.Record p)) = false
awaits_cryptogram (Phase.Waiting (AwaitedResponse.Cryptogram a)) = true
awaits_cryptogram (Phase.Waiting (AwaitedResponse.Checksum c)) = false
awaits_cryptogram (Phase.Ended e) = false

-- a decision was reached: ended with reason 0
abbrev pub is_ended_with_reason_none : Phase → Bool
is_ended_with_reason_none Phase.Fresh = false
is_ended_with_reason_none (Phase.Waiting w) = false
is_ended_with_reason_none (Phase.Ended e) = e.reason =? reason_none

-- an object that was absent is present
abbrev pub object_appears : StoreBytes → StoreBytes → Tag → Bool
object_appears before after tag = lacks_object before tag and has_object after tag

-- one of the card's action codes: default, denial, online
unfoldable pub some_iac_appears : StoreBytes → StoreBytes → Bool
some_iac_appears before after =
    object_appears before after 0x9F0D or object_appears before after 0x9F0E or object_appears before after 0x9F0F

-- a call did so with the answer to GENERATE AC
unfoldable pub is_final_ac_answer_bringing_iac : CallMade → Bool
is_final_ac_answer_bringing_iac m =
    awaits_cryptogram m.before.phase
    and is_ended_with_reason_none m.step.reply.session.phase
    and some_iac_appears (store_bytes m.before) (store_bytes m.step.reply.session)

-- the last call that was not refused did
abbrev pub last_call_is_final_ac_answer_bringing_iac : Option CallMade → Bool
last_call_is_final_ac_answer_bringing_iac None = false
last_call_is_final_ac_answer_bringing_iac (Some m) = is_final_ac_answer_bringing_iac m

-- ---- the choice that was handed out

-- the GENERATE AC commands among commands: 80 AE at the front
unfoldable pub generate_ac_commands : List CommandBytes → List CommandBytes
generate_ac_commands [] = []
generate_ac_commands (c ∷ cs) =
    when begins_with_two_bytes 0x80 0xAE c then c ∷ generate_ac_commands cs
    else generate_ac_commands cs

-- the P1 of each, its third byte
abbrev pub generate_ac_p1s : List CommandBytes → List Byte
generate_ac_p1s cs = map (λ c. get_or c 2 0) (generate_ac_commands cs)

-- the stores at the time of a choice: for each GENERATE AC, the store of the session that its call left
unfoldable pub stores_when_generate_ac_sent : List CallMade → List StoreBytes
stores_when_generate_ac_sent [] = []
stores_when_generate_ac_sent (m ∷ ms) =
    map (λ c. store_bytes m.step.reply.session) (generate_ac_commands (command_sent (call_result m) m.step.buffer))
    ++ stores_when_generate_ac_sent ms

-- one choice was made, and P holds of the store at that time
pub record HoldsAtOnlyGenerateAc (calls_made : List CallMade) (property : StoreBytes → Type 0) : Type 0 where
  pub store : StoreBytes
  pub only : stores_when_generate_ac_sent calls_made ≡ store ∷ []
  pub fact : property store

-- ---- what decided on a store (document 01, "Result bits and the choice"), by TVR, type and codes alone

-- bit i of TVR is set, and in a code of the stage
abbrev pub tvr_bit_set_and_in_stage_codes : StoreBytes → Stage → ℕ → Bool
tvr_bit_set_and_in_stage_codes b stage i = tvr_bit_is_in_either_action_code (stored_tvr b) (action_codes_of_stage b stage) i

-- a stage decides: denial where one of its codes has a bit of TVR, else the one of the terminal's type
abbrev pub StageDecides : Stage → StoreBytes → Type 0
StageDecides stage b = deciding_stage_in b ≡ Some stage

-- bit i, of the 40, is the lowest that the stage holds
pub record LowestTvrBitInStageCodes (stage : Stage) (bit_number : ℕ) (store : StoreBytes) : Type 0 where
  pub within : bit_number < 40
  pub held : tvr_bit_set_and_in_stage_codes store stage bit_number ≡ true
  pub lowest : (j : ℕ) → j < bit_number → tvr_bit_set_and_in_stage_codes store stage j ≡ false

-- the stage holds none of the 40
abbrev pub NoTvrBitInStageCodes : Stage → StoreBytes → Type 0
NoTvrBitInStageCodes stage b = (i : ℕ) → i < 40 → tvr_bit_set_and_in_stage_codes b stage i ≡ false

-- the holder is the one whose code of the stage has the bit, the card's, the terminal's or both
abbrev pub CauseNamesHolderOfBit : ForcedChoiceCause → StoreBytes → Type 0
CauseNamesHolderOfBit c b = c.holder ≡ action_code_holder_of_bit (action_codes_of_stage b c.stage) c.bit

-- ---- what is explained

-- a choice was made and the session did not end for a reason: it waits on the cryptogram, or it ended with reason 0
-- outside mag-stripe mode
abbrev pub choice_made_and_not_ended_for_reason : Session → Bool
choice_made_and_not_ended_for_reason s =
    awaits_cryptogram s.phase or is_ended_with_reason_none s.phase and not (mag_stripe_mode (store_bytes s))

-- the choice that is explained: the one that a bit of the stage forces, or that is left without; with a lower
-- cryptogram the one that the store gives; the other explanations are of none
abbrev pub explained_choice : StoreBytes → Explanation → Option Choice
explained_choice b Explanation.Refused = None
explained_choice b (Explanation.Reason n) = None
explained_choice b Explanation.NoChoice = None
explained_choice b Explanation.LowerCryptogram = Some (recomputed_choice b)
explained_choice b (Explanation.Forced c) = Some (choice_forced_by c.stage)
explained_choice b (Explanation.Unforced stage) = Some (choice_unforced_at stage)

-- the stage that is named, with a bit or without
abbrev pub explained_stage : Explanation → Option Stage
explained_stage Explanation.Refused = None
explained_stage (Explanation.Reason n) = None
explained_stage Explanation.NoChoice = None
explained_stage Explanation.LowerCryptogram = None
explained_stage (Explanation.Forced c) = Some c.stage
explained_stage (Explanation.Unforced stage) = Some stage

-- ---- the claim

-- the calls ms led to the session s, and the last of them did not bring a code
pub record ExplanationTrueOfChoice (calls_made : List CallMade) (session_after : Session) : Type 0 where
  -- it is not refused
  pub never_25 : explanation_of session_after ≡ Explanation.Refused → ⊥
  -- where there is a choice, a choice is explained
  pub explains : choice_made_and_not_ended_for_reason session_after ≡ true
      → explained_choice (store_bytes session_after) (explanation_of session_after) ≡ None → ⊥
  -- the choice explained is the one whose P1 was handed out, in the one GENERATE AC
  pub p1 : (choice : Choice) → explained_choice (store_bytes session_after) (explanation_of session_after) ≡ Some choice
      → generate_ac_p1s (commands_sent calls_made) ≡ generate_ac_p1 choice ∷ []
  -- the stage named is the one that decided at the time of the choice
  pub stage : (stage : Stage) → explained_stage (explanation_of session_after) ≡ Some stage
      → HoldsAtOnlyGenerateAc calls_made (StageDecides stage)
  -- the bit named is the lowest that this stage held then; where none is named it held none
  pub bit : (c : ForcedChoiceCause) → explanation_of session_after ≡ Explanation.Forced c
      → HoldsAtOnlyGenerateAc calls_made (LowestTvrBitInStageCodes c.stage c.bit)
  pub no_bit : (stage : Stage) → explanation_of session_after ≡ Explanation.Unforced stage
      → HoldsAtOnlyGenerateAc calls_made (NoTvrBitInStageCodes stage)
  -- the holder named is whose code had the bit then
  pub holder : (c : ForcedChoiceCause) → explanation_of session_after ≡ Explanation.Forced c
      → HoldsAtOnlyGenerateAc calls_made (CauseNamesHolderOfBit c)
  -- a lower cryptogram ranks below the choice whose P1 was handed out; where a stage is named, the one that came
  -- does not
  pub lower : explanation_of session_after ≡ Explanation.LowerCryptogram → (choice : Choice)
      → generate_ac_p1s (commands_sent calls_made) ≡ generate_ac_p1 choice ∷ []
      → rank_of_cryptogram_type (stored_cryptogram_type (store_bytes session_after)) < choice_rank choice
  pub not_lower : is_ended_with_reason_none session_after.phase ≡ true → (stage : Stage)
      → explained_stage (explanation_of session_after) ≡ Some stage
      → (choice : Choice) → generate_ac_p1s (commands_sent calls_made) ≡ generate_ac_p1 choice ∷ []
      → choice_rank choice ≤ rank_of_cryptogram_type (stored_cryptogram_type (store_bytes session_after))

-- ms are the calls of a list made one after the other from a fresh session in its ranges (`play_calls`), and s is the
-- session after them (`final_session`)
pub record ExplanationTrueUnlessLastCallBringsIac (calls_made : List CallMade) (session_after : Session) : Type 0 where
  pub explained : last_call_is_final_ac_answer_bringing_iac (last_element (calls_accepted calls_made)) ≡ false
      → ExplanationTrueOfChoice calls_made session_after
  -- where a decision was reached, the card requests mag-stripe mode exactly where the session is in it
  pub mode : is_ended_with_reason_none session_after.phase ≡ true
      → aip_indicates_mag_stripe (store_bytes session_after) ≡ mag_stripe_mode (store_bytes session_after)

-- one rank: a choice ranks as the type of cryptogram that it requests
abbrev pub ChoiceRankIsCryptogramRank : Type 0
ChoiceRankIsCryptogramRank =
    (choice : Choice) → rank_of_cryptogram_type (requested_cryptogram_type choice) ≡ choice_rank choice
