-- What a host reads off the result words and the command buffers of its calls (document 01, "What demand 3 counts";
-- docs/HOST.md has the words). Nothing here reads the session's bytes.
-- Assumes nothing.
use Rattle.std.specs.Prelude.{Bool, true, false, not, List, [], ◌∷◌, ◌++◌, take, Option, Some, None}
use Rattle.basics.specs.Types.{Response, CommandBytes, AflBytes, ResultWord}
use Rattle.basics.specs.Choice.{when◌then◌else◌, ◌and◌, ◌or◌, ◌=?◌}
use Rattle.basics.specs.Reason.{refusal_record_out_of_ranges}
use Rattle.layout.specs.Word.{result_word_kind, word_kind_command, word_kind_outcome, word_kind_refusal, refusal_word}
use Rattle.session_claim.specs.Calls.{is_answer}
use Rattle.session_record.specs.Session.{SessionStage, fresh, running, ended}
use Rattle.session_claim.specs.Order.{card_bytes, afl_in_gpo_response, aip_in_gpo_response, CommandKind, cryptogram}
use Rattle.session_claim.specs.Order.{final_command_kind_for_aip}
use Rattle.host_claim.specs.Calls.{HostCall, opening, on_session, HostCallMade}

-- ---- a result word

-- its kind reports whether the call returned a command, an outcome or a refusal
abbrev pub is_command_word : ResultWord → Bool
is_command_word w = result_word_kind w =? word_kind_command

abbrev pub is_outcome_word : ResultWord → Bool
is_outcome_word w = result_word_kind w =? word_kind_outcome

abbrev pub is_refusal_word : ResultWord → Bool
is_refusal_word w = result_word_kind w =? word_kind_refusal

-- the call was not refused with 25
abbrev pub host_call_not_refused_with25 : HostCallMade → Bool
host_call_not_refused_with25 m = not (m.word =? refusal_word refusal_record_out_of_ranges)

-- ---- the calls since the last accepted opening

abbrev pub is_opening : HostCall → Bool
is_opening opening = true
is_opening (on_session c) = false

-- an opening that was not refused
abbrev pub is_accepted_opening : HostCallMade → Bool
is_accepted_opening m = is_opening m.call and not (is_refusal_word m.word)

-- one is among these calls
unfoldable pub has_accepted_opening : List HostCallMade → Bool
has_accepted_opening [] = false
has_accepted_opening (m ∷ ms) = is_accepted_opening m or has_accepted_opening ms

-- the calls after the last one; all where there is none
unfoldable pub calls_since_last_accepted_opening : List HostCallMade → List HostCallMade
calls_since_last_accepted_opening [] = []
calls_since_last_accepted_opening (m ∷ ms) =
    when has_accepted_opening ms then calls_since_last_accepted_opening ms
    else when is_accepted_opening m then ms
    else m ∷ ms

-- ---- what these calls handed out

-- a command is the front of its call's buffer, of the length that the word says, as it is after the call
abbrev pub command_handed_out_if_any : HostCallMade → List CommandBytes
command_handed_out_if_any m =
    when is_command_word m.word then take m.word m.buffer ∷ []
    else []

-- the commands handed out, in order
unfoldable pub host_commands_handed_out : List HostCallMade → List CommandBytes
host_commands_handed_out [] = []
host_commands_handed_out (m ∷ ms) = command_handed_out_if_any m ++ host_commands_handed_out ms

-- the calls that were not refused
unfoldable pub host_calls_not_refused : List HostCallMade → List HostCallMade
host_calls_not_refused [] = []
host_calls_not_refused (m ∷ ms) =
    when is_refusal_word m.word then host_calls_not_refused ms
    else m ∷ host_calls_not_refused ms

-- ---- unanswered: a command after which no answer that is not refused has come

-- the call `emv_answer`
abbrev pub is_answer_call : HostCall → Bool
is_answer_call opening = false
is_answer_call (on_session c) = is_answer c

-- one is among these calls
unfoldable pub has_answer_call : List HostCallMade → Bool
has_answer_call [] = false
has_answer_call (m ∷ ms) = is_answer_call m.call or has_answer_call ms

-- of calls that were not refused, the commands that no answer comes after
unfoldable pub host_commands_with_no_later_answer : List HostCallMade → List CommandBytes
host_commands_with_no_later_answer [] = []
host_commands_with_no_later_answer (m ∷ ms) =
    when has_answer_call ms then host_commands_with_no_later_answer ms
    else command_handed_out_if_any m ++ host_commands_with_no_later_answer ms

-- refused calls answer nothing
unfoldable pub host_unanswered_commands : List HostCallMade → List CommandBytes
host_unanswered_commands ms = host_commands_with_no_later_answer (host_calls_not_refused ms)

-- ---- the accepted AFL (document 01: accepted locator), and the last command of the published order

-- the first answer among calls
unfoldable pub first_answer_call : List HostCallMade → Option HostCallMade
first_answer_call [] = None
first_answer_call (m ∷ ms) =
    when is_answer_call m.call then Some m
    else first_answer_call ms

-- the card's bytes that a call brings; only an answer brings any
abbrev pub host_card_bytes : HostCall → Response
host_card_bytes opening = []
host_card_bytes (on_session c) = card_bytes c

-- by the first answer not refused: the AFL that it brings, where its word is that of a command, as it is exactly where
-- the rules give the answer no reason. That this is the accepted AFL by the rules is `same_afl` of the claim
abbrev pub host_afl_accepted_from_gpo_answer : Option HostCallMade → Option AflBytes
host_afl_accepted_from_gpo_answer None = None
host_afl_accepted_from_gpo_answer (Some m) =
    when is_command_word m.word then afl_in_gpo_response (host_card_bytes m.call)
    else None

-- by the first answer not refused: the last command, by the AIP that it brings
abbrev pub host_final_command_kind_by_gpo_answer : Option HostCallMade → CommandKind
host_final_command_kind_by_gpo_answer None = cryptogram
host_final_command_kind_by_gpo_answer (Some m) = final_command_kind_for_aip (aip_in_gpo_response (host_card_bytes m.call))

-- ---- the stage of the session

-- by the word of a call that was not refused: it runs after a command, and has ended after an outcome
abbrev pub stage_after_accepted_word : ResultWord → SessionStage
stage_after_accepted_word w =
    when is_command_word w then running
    else when is_outcome_word w then ended
    else fresh

-- by the last call not refused; it is fresh where there is none
abbrev pub host_stage_after_last_accepted_call : Option HostCallMade → SessionStage
host_stage_after_last_accepted_call None = fresh
host_stage_after_last_accepted_call (Some m) = stage_after_accepted_word m.word
