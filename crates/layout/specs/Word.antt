-- A call's answer as one number of 32 bits (docs/HOST.md). Bits 16 to 23 give its kind: 0 a command, 1 an outcome,
-- 2 a refusal.
-- Assumes nothing.
use Rattle.std.specs.Prelude.{ℕ, ◌+◌, ◌*◌, ◌/◌, ◌%◌, min}
use Rattle.basics.specs.Types.{Length, RefusalNumber, ResultWord}
use Rattle.session_record.specs.declared.OutcomeParameters.{OutcomeParameters}
use Rattle.session_record.specs.declared.CallResult.{CallResult}
use Rattle.session_record.specs.Numbers.{outcome_number}

-- the kind of a word
abbrev pub result_word_kind : ResultWord → ℕ
result_word_kind w = w / 0x10000 % 0x100

abbrev pub word_kind_command : ℕ
word_kind_command = 0

abbrev pub word_kind_outcome : ℕ
word_kind_outcome = 1

abbrev pub word_kind_refusal : ℕ
word_kind_refusal = 2

-- a command is its length; a length that a word cannot tell from an outcome is truncated, and no call hands one out
unfoldable pub command_word : Length → ResultWord
command_word n = min n 65535

-- an outcome with its reason, and in bits 24 to 31 the CVM's number
abbrev pub outcome_word : OutcomeParameters → ResultWord
outcome_word e = e.cvm * 0x1000000 + word_kind_outcome * 0x10000 + outcome_number e.outcome * 0x100 + e.reason

-- a refusal by its number
abbrev pub refusal_word : RefusalNumber → ResultWord
refusal_word n = word_kind_refusal * 0x10000 + n

-- an answer of a call
abbrev pub result_word : CallResult → ResultWord
result_word (CallResult.Command c) = command_word c.size
result_word (CallResult.Outcome e) = outcome_word e
result_word (CallResult.Refused r) = refusal_word r.number
