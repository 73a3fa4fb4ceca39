-- `layout::command_word` meets its contract: the length, and the most that a word reports for one above it.
-- Assumes nothing.
use native.Mathlib.Omega.{arith}
use Rattle.layout.specs.Word.{command_word}
use Rattle.layout.proofs.command_word.Goals as goal

pub returns : goal.returns
unfolding command_word
returns c = omega arith
