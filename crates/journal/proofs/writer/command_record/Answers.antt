-- `journal::writer::command_record` meets its contract: the front of the buffer is at the front of zeros.
-- Assumes nothing.
use borrow.Author.Tests.{le-leb, lt-leb}
use mathlib.Core.Logic.{inl, inr}
use mathlib.Core.Path.{sym, ◌∙◌}
use lib.ListN.{length, take}
use Rattle.basics.proofs.Laws.{if_yes, if_no, both_yes, both_no_left, both_no_right}
use Rattle.journal.specs.Writer.{command_record_or_zeros}
use Rattle.journal.proofs.WriterLaws.{in_zeros, front_in}
use Rattle.journal.proofs.writer.command_record.Goals as goal

pub returns-then-size-buffer : goal.returns-then-size-buffer
unfolding command_record_or_zeros
returns-then-size-buffer c =
    let a = c.args in
    let g = c.if-size-le-MOST_COMMAND.true in
    let h = c.if-size-buffer.true in
    front_in a.size a.buffer.now _ h (in_zeros 5 261 (take a.size a.buffer.now) _ c.fill.ensures)
    ∙ sym (if_yes _ _ (both_yes _ _ (le-leb a.size 261 g) (le-leb a.size (length a.buffer.now) h)))

pub returns-else-size-le-MOST_COMMAND : goal.returns-else-size-le-MOST_COMMAND
unfolding command_record_or_zeros
returns-else-size-le-MOST_COMMAND c = elim c.else-size-le-MOST_COMMAND.either [
  | inl h ↦ sym (if_no _ _ (both_no_right _ _ (lt-leb _ _ h.1)))
  | inr h ↦ sym (if_no _ _ (both_no_left _ _ (lt-leb _ _ h)))
]
