-- `cabinet::hand_over` meets its contract: a command is copied, another answer copies nothing.
-- Assumes nothing.
use mathlib.Core.Path.{sym, ap, ◌∙◌}
use mathlib.Core.List.{List, ◌++◌}
use Prim.Native.Nat.{ℕ}
use lib.ListN.{drop}
use Rattle.session_record.specs.declared.CallResult.{CallResult}
use Rattle.cabinet.specs.Inner.{command_copied_to_buffer}
use Rattle.cabinet.proofs.Laws.{handed_nothing}
use Rattle.cabinet.proofs.hand_over.Goals as goal

pub returns-in_default : goal.returns-in_default
returns-in_default c = let a = c.args in handed_nothing a.answer a.first.now a.command.now
    c.in_default.not-Command

pub returns : goal.returns
returns c =
    let a = c.args in
    ap (λ (x : List ℕ). x ++ drop c.in-Command.issued.size a.command.now) c.copy_from_slice.ensures.after
    ∙ sym (ap (λ (x : CallResult). command_copied_to_buffer x a.first.now a.command.now) c.in-Command.is)
