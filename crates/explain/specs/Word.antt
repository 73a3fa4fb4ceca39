-- An explanation as one number of 32 bits (docs/HOST.md): the number that stands for each of its cases. Bits 16 to 23
-- give the kind; a refusal is that of every call.
-- Assumes nothing.
use Rattle.std.specs.Prelude.{ℕ, ◌+◌, ◌*◌}
use Rattle.basics.specs.Reason.{refusal_record_out_of_ranges}
use Rattle.basics.specs.Types.{ResultWord}
use Rattle.explain.specs.declared.Stage.{Stage}
use Rattle.explain.specs.declared.ActionCodeHolder.{ActionCodeHolder}
use Rattle.explain.specs.declared.Explanation.{Explanation}

-- the number of a stage
abbrev pub stage_number : Stage → ℕ
stage_number Stage.Denial = 0
stage_number Stage.OnlineOnly = 1
stage_number Stage.Default = 2
stage_number Stage.Online = 3

-- the number of who holds a bit
abbrev pub holder_number : ActionCodeHolder → ℕ
holder_number ActionCodeHolder.Nobody = 0
holder_number ActionCodeHolder.Card = 1
holder_number ActionCodeHolder.Terminal = 2
holder_number ActionCodeHolder.Both = 3

-- a choice by its stage, its holder and its bit, 255 where none forced it
abbrev pub explained_choice_word : Stage → ActionCodeHolder → ℕ → ResultWord
explained_choice_word stage holder bit = 0x60000 + stage_number stage * 4096 + holder_number holder * 256 + bit

-- an explanation
abbrev pub explanation_word : Explanation → ResultWord
explanation_word Explanation.Refused = 0x20000 + refusal_record_out_of_ranges
explanation_word (Explanation.Reason n) = 0x30000 + n
explanation_word Explanation.NoChoice = 0x40000
explanation_word Explanation.LowerCryptogram = 0x50000
explanation_word (Explanation.Forced c) = explained_choice_word c.stage c.holder c.bit
explanation_word (Explanation.Unforced stage) = explained_choice_word stage ActionCodeHolder.Nobody 255
