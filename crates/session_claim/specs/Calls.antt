-- What a list of calls on one session returned (document 01, "What demand 3 counts").
-- Assumes nothing.
use Rattle.std.specs.Prelude.{Bool, true, false, List, [], ◌∷◌, ◌++◌, Option, Some, None}
use Rattle.basics.specs.Types.{CommandBytes}
use Rattle.basics.specs.Choice.{when◌then◌else◌, ◌or◌}
use Rattle.session.specs.Calls.{Call, start, answer, link_failed, stop, CallMade, call_result, call_refused, command_sent}

-- ---- what a list of calls returned

-- the commands handed out, in order
unfoldable pub commands_sent : List CallMade → List CommandBytes
commands_sent [] = []
commands_sent (m ∷ ms) = command_sent (call_result m) m.step.buffer ++ commands_sent ms

-- the calls that were not refused
unfoldable pub calls_accepted : List CallMade → List CallMade
calls_accepted [] = []
calls_accepted (m ∷ ms) =
    when call_refused m then calls_accepted ms
    else m ∷ calls_accepted ms

-- the last of a list, if there is one
unfoldable pub last_element : {A : Type 0} → List A → Option A
last_element [] = None
last_element (x ∷ []) = Some x
last_element (x ∷ y ∷ l) = last_element (y ∷ l)

-- ---- unanswered: a command after which no answer that is not refused has come

-- the call answer
abbrev pub is_answer : Call → Bool
is_answer (start bytes buf) = false
is_answer (answer card buf) = true
is_answer (link_failed buf) = false
is_answer (stop buf) = false

-- an answer is among these calls
unfoldable pub has_answer : List CallMade → Bool
has_answer [] = false
has_answer (m ∷ ms) = is_answer m.call or has_answer ms

-- of calls that were not refused, the commands that no answer comes after
unfoldable pub commands_with_no_later_answer : List CallMade → List CommandBytes
commands_with_no_later_answer [] = []
commands_with_no_later_answer (m ∷ ms) =
    when has_answer ms then commands_with_no_later_answer ms
    else command_sent (call_result m) m.step.buffer ++ commands_with_no_later_answer ms

-- refused calls answer nothing
unfoldable pub unanswered_commands : List CallMade → List CommandBytes
unanswered_commands ms = commands_with_no_later_answer (calls_accepted ms)
