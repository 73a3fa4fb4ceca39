-- What a call returned, as tests that proofs go by.
-- Assumes nothing.
use mathlib.Core.Bool.{Bool, true, false}
use Rattle.session_record.specs.declared.CallResult.{CallResult}

-- a command and its length
abbrev pub is_command : CallResult → Bool
is_command (CallResult.Command x) = true
is_command (CallResult.Outcome e) = false
is_command (CallResult.Refused r) = false

-- an outcome with its reason
abbrev pub is_outcome : CallResult → Bool
is_outcome (CallResult.Command x) = false
is_outcome (CallResult.Outcome e) = true
is_outcome (CallResult.Refused r) = false
