-- One claim over every list of calls on a cabinet since an accepted opening (document 02, Item 14), refused calls
-- included, each on the bytes that the call before it left: the remaining, reserved and approved amounts are together
-- the cap. Bytes are any numbers: what holds of all lists of numbers holds of lists of bytes.
-- Assumes nothing.
use Rattle.std.specs.Prelude.{◌≡◌, Bool, true, not, List, [], ◌∷◌, ◌+◌, ◌/◌, ◌%◌, ◌≤◌, Some}
use Rattle.basics.specs.Types.{Bytes, StartBytes, Response, Buffer, Amount, ResultWord}
use Rattle.basics.specs.Choice.{when◌then◌else◌, ◌and◌, ◌=?◌, every}
use Rattle.basics.specs.Reason.{refusal_record_out_of_ranges}
use Rattle.analysis.specs.Digits.{amount_of}
use Rattle.session_record.specs.declared.Outcome.{Outcome}
use Rattle.session_record.specs.Numbers.{outcome_number}
use Rattle.layout.specs.Word.{result_word_kind, word_kind_outcome, word_kind_refusal, refusal_word}
use Rattle.cabinet_lookup.specs.Value.{lookup_value}
use Rattle.cabinet.specs.State.{Cabinet, greatest_twelve_digit_amount, decoded_cabinet_if_valid}
use Rattle.cabinet.specs.Calls.{CabinetResult, cabinet_open_word, cabinet_open_state, cabinet_start, cabinet_answer}
use Rattle.cabinet.specs.Calls.{cabinet_link_failed, cabinet_stop}

-- ---- the calls

-- a call that may write the state: an opening with its cap; the others with the bytes that come in and the caller's
-- command buffer. The remaining amount, a lookup and the size are requested with no bytes to write
pub data CabinetCall : Type 0 where
  opening : Amount → CabinetCall
  start : StartBytes → Buffer → CabinetCall
  answer : Response → Buffer → CabinetCall
  link_failed : Buffer → CabinetCall
  stop : Buffer → CabinetCall

-- what a call gives on the state's bytes: its word, and the state and the command buffer after it; an opening has no
-- command buffer
abbrev pub cabinet_step : Bytes → CabinetCall → CabinetResult
cabinet_step l (opening cap) = record { word = cabinet_open_word cap l; state = cabinet_open_state cap l; buffer = [] }
cabinet_step l (start bytes buf) = cabinet_start bytes l buf
cabinet_step l (answer card buf) = cabinet_answer card l buf
cabinet_step l (link_failed buf) = cabinet_link_failed l buf
cabinet_step l (stop buf) = cabinet_stop l buf

-- a call that was made, and its word
pub record CabinetCallMade : Type 0 where
  pub call : CabinetCall
  pub word : ResultWord

-- the calls of a list, each on the bytes that the call before it left
unfoldable pub play_cabinet_calls : Bytes → List CabinetCall → List CabinetCallMade
play_cabinet_calls l [] = []
play_cabinet_calls l (c ∷ cs) =
    let r = cabinet_step l c in record { call = c; word = r.word } ∷ play_cabinet_calls r.state cs

-- the bytes that the last call left
unfoldable pub final_cabinet_state : Bytes → List CabinetCall → Bytes
final_cabinet_state l [] = l
final_cabinet_state l (c ∷ cs) = final_cabinet_state (cabinet_step l c).state cs

-- ---- the account: by the calls and their words alone, not by the state

-- the cap of the last accepted opening; since then the amount of the last accepted start, 0 where there is none, and
-- the amounts approved
pub record Account : Type 0 where
  pub cap : Amount
  pub amount : Amount
  pub approved : Amount

-- an account of these parts
abbrev pub account : Amount → Amount → Amount → Account
account c n a = record { cap = c; amount = n; approved = a }

-- the number in the 9F02 of start bytes: the value of their first object of that tag, in digits
abbrev pub start_amount_in : StartBytes → Amount
start_amount_in bytes = amount_of (lookup_value 0x9F02 bytes [])

-- the word of a refusal, and that of an approval, whatever the CVM in its upper bits
abbrev pub is_refused_word : ResultWord → Bool
is_refused_word w = result_word_kind w =? word_kind_refusal

abbrev pub is_approved_word : ResultWord → Bool
is_approved_word w = result_word_kind w =? word_kind_outcome and w / 256 % 256 =? outcome_number Outcome.Approved

-- an approval adds the amount of the last accepted start
abbrev pub account_with_amount_added_if_approved : ResultWord → Account → Account
account_with_amount_added_if_approved w a =
    when is_approved_word w then account a.cap a.amount (a.approved + a.amount)
    else a

-- a call that was not refused
abbrev pub account_after_accepted_call : Account → CabinetCall → ResultWord → Account
account_after_accepted_call a (opening cap) w = account cap 0 0
account_after_accepted_call a (start bytes buf) w =
    account_with_amount_added_if_approved w (account a.cap (start_amount_in bytes) a.approved)
account_after_accepted_call a (answer card buf) w = account_with_amount_added_if_approved w a
account_after_accepted_call a (link_failed buf) w = account_with_amount_added_if_approved w a
account_after_accepted_call a (stop buf) w = account_with_amount_added_if_approved w a

-- one call; a refused one changes nothing
unfoldable pub account_after_call : Account → CabinetCallMade → Account
account_after_call a m =
    when is_refused_word m.word then a
    else account_after_accepted_call a m.call m.word

-- the account after the calls of a list
unfoldable pub account_after_calls : Account → List CabinetCallMade → Account
account_after_calls a [] = a
account_after_calls a (m ∷ ms) = account_after_calls (account_after_call a m) ms

-- the account of calls after an opening with this cap
abbrev pub account_since_opening : Amount → List CabinetCallMade → Account
account_since_opening cap ms = account_after_calls (account cap 0 0) ms

-- ---- the claim

-- a call was not refused with 25
abbrev pub cabinet_call_not_refused_with25 : CabinetCallMade → Bool
cabinet_call_not_refused_with25 m = not (m.word =? refusal_word refusal_record_out_of_ranges)

-- ms are the calls of a list made one after the other (`play_cabinet_calls`) since an opening with this cap was accepted,
-- and l are the bytes that the last of them left (`final_cabinet_state`), those of the opening where there are none
pub record RemainingReservedApprovedSumToCap (cap : Amount) (calls_made : List CabinetCallMade) (state_after : Bytes) :
    Type 0 where
  -- the bytes hold a cabinet in order: what is reserved is the running session's amount, 0 where none runs
  pub state : Cabinet
  pub held : decoded_cabinet_if_valid state_after ≡ Some state
  -- the remaining and reserved amounts and those of approved sessions are together the cap
  pub balance : state.remaining + state.reserved + (account_since_opening cap calls_made).approved ≡ (account_since_opening
      cap calls_made).cap
  -- so approvals never come to more than the cap, and no cap is over the greatest amount
  pub never_over : (account_since_opening cap calls_made).approved ≤ (account_since_opening cap calls_made).cap
  pub cap_fits : (account_since_opening cap calls_made).cap ≤ greatest_twelve_digit_amount
  -- none of the calls was refused with 25
  pub never_25 : every cabinet_call_not_refused_with25 calls_made ≡ true
