-- Why a choice was made (document 02, Item 7): the stage that decided, the lowest bit that forced it and whose code
-- holds it, recomputed from a session's TVR, terminal type and action codes. The stages, the codes and the choice are
-- those of analysis, and the decision on a cryptogram is that of session: no rule of document 01 is stated twice. How
-- 95 came about is not examined.
-- Assumes nothing.
use Rattle.std.specs.Prelude.{Bool, true, false, not, [], ◌∷◌, ℕ, ◌/◌, get_or, Option, Some, None}
use Rattle.basics.specs.Choice.{when◌then◌else◌, every, ◌and◌, ◌<?◌, ◌=?◌}
use Rattle.basics.specs.Reason.{reason_none}
use Rattle.basics.specs.Types.{StoreBytes, TvrBytes, TagList}
use Rattle.store.specs.Held.{has_object, lacks_object, stored_bytes, stored_byte}
use Rattle.analysis.specs.Value.{first_bytes_zero_padded}
use Rattle.analysis.specs.Bits.{has_bit_counted_from_zero_at_byte1b8}
use Rattle.analysis.specs.Choice.{lowest_tvr_bit_in_codes, denial_stage, online_stage, default_stage, all_zeros_action_code}
use Rattle.analysis.specs.Choice.{no_action_codes}
use Rattle.analysis.specs.Choice.{some_tvr_bit_in_codes_of_stage, online_capability_of_type, generate_ac_p1}
use Rattle.analysis.specs.Action.{terminal_type, action_codes_of, choice_for_tvr}
use Rattle.analysis.specs.declared.choice.OnlineCapability.{OnlineCapability}
use Rattle.analysis.specs.declared.choice.Choice.{Choice}
use Rattle.analysis.specs.declared.choice.ActionCodes.{ActionCodes}
use Rattle.session_record.specs.declared.AwaitedResponse.{AwaitedResponse}
use Rattle.session_record.specs.declared.RequestedCryptogram.{RequestedCryptogram}
use Rattle.session_record.specs.declared.Ending.{Ending}
use Rattle.session_record.specs.declared.Outcome.{Outcome}
use Rattle.session_record.specs.declared.Phase.{Phase}
use Rattle.session_record.specs.declared.Session.{Session}
use Rattle.session_record.specs.Numbers.{outcome_number}
use Rattle.session_record.specs.Session.{store_bytes}
use Rattle.session_record.specs.Ranges.{emv_mode, session_record_in_ranges}
use Rattle.session.specs.Answer.{outcome_for_cryptogram_type}
use Rattle.explain.specs.declared.Stage.{Stage}
use Rattle.explain.specs.declared.ActionCodeHolder.{ActionCodeHolder}
use Rattle.explain.specs.declared.Explanation.{Explanation}

-- ---- the choice, recomputed

-- the stored TVR
abbrev pub stored_tvr : StoreBytes → TvrBytes
stored_tvr b = first_bytes_zero_padded 5 (stored_bytes b 0x95)

-- the choice that they give, with the stored type and codes
abbrev pub recomputed_choice : StoreBytes → Choice
recomputed_choice b = choice_for_tvr b (stored_tvr b)

-- ---- the stage that decided

-- denial where a bit is held there; else the one that the terminal's type consults, none by a type with another ending
abbrev pub deciding_stage_by_denial_bit : OnlineCapability → Bool → Option Stage
deciding_stage_by_denial_bit r true = Some Stage.Denial
deciding_stage_by_denial_bit OnlineCapability.OnlineOnly false = Some Stage.OnlineOnly
deciding_stage_by_denial_bit OnlineCapability.OfflineOnly false = Some Stage.Default
deciding_stage_by_denial_bit OnlineCapability.OnlineCapable false = Some Stage.Online
deciding_stage_by_denial_bit OnlineCapability.Unlisted false = None

-- of a store; an absent type reads as one with another ending
unfoldable pub deciding_stage_in : StoreBytes → Option Stage
deciding_stage_in b =
    deciding_stage_by_denial_bit (online_capability_of_type (terminal_type b))
    (some_tvr_bit_in_codes_of_stage (stored_tvr b) (action_codes_of b) denial_stage)

-- the terminal's code of a stage after denial
abbrev pub tac_tags_of_stage_after_denial : Stage → TagList
tac_tags_of_stage_after_denial Stage.Denial = []
tac_tags_of_stage_after_denial Stage.OnlineOnly = []
tac_tags_of_stage_after_denial Stage.Default = 0xDF8120 ∷ []
tac_tags_of_stage_after_denial Stage.Online = 0xDF8122 ∷ []

-- what is needed where a stage decided: 95, and the terminal's codes of the stages that were consulted, denial before
-- every other; a card's code may be absent
abbrev pub tags_needed_by_stage : Stage → TagList
tags_needed_by_stage stage = 0x95 ∷ 0xDF8121 ∷ tac_tags_of_stage_after_denial stage

-- the stage, if all of it is present
abbrev pub stage_if_its_data_present : StoreBytes → Option Stage → Option Stage
stage_if_its_data_present b None = None
stage_if_its_data_present b (Some stage) =
    when every (has_object b) (tags_needed_by_stage stage) then Some stage
    else None

unfoldable pub deciding_stage_if_its_data_present : StoreBytes → Option Stage
deciding_stage_if_its_data_present b = stage_if_its_data_present b (deciding_stage_in b)

-- ---- the bit that forced it

-- who holds a bit: by the card's code and by the terminal's
abbrev pub holder_by_codes : Bool → Bool → ActionCodeHolder
holder_by_codes true true = ActionCodeHolder.Both
holder_by_codes true false = ActionCodeHolder.Card
holder_by_codes false true = ActionCodeHolder.Terminal
holder_by_codes false false = ActionCodeHolder.Nobody

unfoldable pub action_code_holder_of_bit : ActionCodes → ℕ → ActionCodeHolder
action_code_holder_of_bit pair i =
    holder_by_codes (has_bit_counted_from_zero_at_byte1b8 pair.card i) (has_bit_counted_from_zero_at_byte1b8 pair.terminal i)

-- the codes of a stage, the card's and the terminal's; the online-only type has none: zeros hold no bit
unfoldable pub action_codes_of_stage : StoreBytes → Stage → ActionCodes
action_codes_of_stage b Stage.Denial = get_or (action_codes_of b) denial_stage no_action_codes
action_codes_of_stage b Stage.OnlineOnly = record { card = all_zeros_action_code; terminal = all_zeros_action_code }
action_codes_of_stage b Stage.Default = get_or (action_codes_of b) default_stage no_action_codes
action_codes_of_stage b Stage.Online = get_or (action_codes_of b) online_stage no_action_codes

-- the lowest bit that they hold, with its holder; where there is none, no bit forced the choice
abbrev pub explanation_by_bit : Stage → ActionCodes → Option ℕ → Explanation
explanation_by_bit stage pair (Some i) =
    Explanation.Forced (record { stage = stage; bit = i; holder = action_code_holder_of_bit pair i })
explanation_by_bit stage pair None = Explanation.Unforced stage

-- what a stage reports of the choice
unfoldable pub explanation_at_stage : StoreBytes → Stage → Explanation
explanation_at_stage b stage =
    let pair = action_codes_of_stage b stage in explanation_by_bit stage pair (lowest_tvr_bit_in_codes (stored_tvr b) pair)

-- ---- waiting on the cryptogram

-- the choice that is held must be the one that the rest gives
abbrev pub explanation_awaiting_cryptogram : RequestedCryptogram → StoreBytes → Option Stage → Explanation
explanation_awaiting_cryptogram a b None = Explanation.Refused
explanation_awaiting_cryptogram a b (Some stage) =
    when generate_ac_p1 a.choice =? generate_ac_p1 (recomputed_choice b) then explanation_at_stage b stage
    else Explanation.Refused

-- ---- ended

-- the rank of a cryptogram's type, two bits: AAC (00), then ARQC (10), then TC (01); P1 requests one by the same bits.
-- 9F27 may have a fourth type, which no decision takes; a choice ranks as the type that it requests (`rank_of` of rank;
-- that the two agree is promised in explain_calls)
unfoldable pub rank_of_cryptogram_type : ℕ → ℕ
rank_of_cryptogram_type kind =
    when kind =? 1 then 2
    else when kind =? 2 then 1
    else 0

-- the type of the stored cryptogram, and of the one that a choice requests
abbrev pub stored_cryptogram_type : StoreBytes → ℕ
stored_cryptogram_type b = stored_byte b 0x9F27 1 / 64

abbrev pub requested_cryptogram_type : Choice → ℕ
requested_cryptogram_type choice = generate_ac_p1 choice / 64

-- a decision is this outcome
abbrev pub is_decision_outcome : Option Outcome → Outcome → Bool
is_decision_outcome None outcome = false
is_decision_outcome (Some d) outcome = outcome_number d =? outcome_number outcome

-- a decision was reached: 9F27 must be present and give the stored outcome on the choice; a cryptogram lower than the
-- one requested is the reason then
abbrev pub explanation_of_decision : Ending → StoreBytes → Option Stage → Explanation
explanation_of_decision e b None = Explanation.Refused
explanation_of_decision e b (Some stage) =
    let kind = stored_cryptogram_type b in
    let choice = recomputed_choice b in
    when lacks_object b 0x9F27 then Explanation.Refused
    else when not (is_decision_outcome (outcome_for_cryptogram_type choice kind) e.outcome) then Explanation.Refused
    else when rank_of_cryptogram_type kind <? rank_of_cryptogram_type (requested_cryptogram_type choice)
    then Explanation.LowerCryptogram
    else explanation_at_stage b stage

-- a reason other than 0 is the answer itself
unfoldable pub explanation_of_ending : Ending → StoreBytes → Explanation
explanation_of_ending e b =
    when e.reason =? reason_none then explanation_of_decision e b (deciding_stage_if_its_data_present b)
    else Explanation.Reason e.reason

-- in mag-stripe mode no choice is made (document 02, Item 9). Here the card's side alone: 82 is present with byte 2 b8
-- clear. `mag_stripe_mode` of record is this and that the terminal's DF811B does not indicate by b8 that the mode is off
-- (`mag_stripe_mode_is` in proofs/Laws); where calls reached a decision the two are the same (`mode` in explain_calls)
abbrev pub aip_indicates_mag_stripe : StoreBytes → Bool
aip_indicates_mag_stripe b = has_object b 0x82 and not (emv_mode b)

-- ended so with reason 0, nothing else of the record is examined
unfoldable pub explanation_of_ending_by_mode : Ending → StoreBytes → Explanation
explanation_of_ending_by_mode e b =
    when e.reason =? reason_none and aip_indicates_mag_stripe b then Explanation.NoChoice
    else explanation_of_ending e b

-- ---- the answer

-- while a response is awaited: there is no choice before the cryptogram is requested, and none on the checksum
abbrev pub explanation_while_awaiting : AwaitedResponse → StoreBytes → Explanation
explanation_while_awaiting AwaitedResponse.Gpo b = Explanation.NoChoice
explanation_while_awaiting (AwaitedResponse.Record p) b = Explanation.NoChoice
explanation_while_awaiting (AwaitedResponse.Cryptogram a) b =
    explanation_awaiting_cryptogram a b (deciding_stage_if_its_data_present b)
explanation_while_awaiting (AwaitedResponse.Checksum c) b = Explanation.NoChoice

-- by the phase
abbrev pub explanation_in_phase : Phase → StoreBytes → Explanation
explanation_in_phase Phase.Fresh b = Explanation.NoChoice
explanation_in_phase (Phase.Waiting w) b = explanation_while_awaiting w b
explanation_in_phase (Phase.Ended e) b = explanation_of_ending_by_mode e b

-- a record that is out of its ranges is refused, and so is one that lacks what the answer needs, or whose choice or
-- outcome the rest of it does not give (25)
unfoldable pub explanation_of : Session → Explanation
explanation_of s = when session_record_in_ranges s then explanation_in_phase s.phase (store_bytes s) else Explanation.Refused
