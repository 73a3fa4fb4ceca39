-- `command::read_record` meets its contract: five bytes at the front are the command and the old bytes after it.
-- Assumes nothing.
use Rattle.std.specs.Prelude.{None}
use mathlib.Core.Path.{◌≡◌, refl}
use mathlib.Core.Logic.{inl, inr}
use Rattle.command.specs.ReadRecord.{read_record_command_if_fits}
use Rattle.command.proofs.ReadRecord.{written_yes, written_short, written_widen, wrote}
use Rattle.command.proofs.read_record.Goals as goal

pub returns-then-command-lt5 : goal.returns-then-command-lt5
returns-then-command-lt5 c =
    let a = c.args in
    let e : read_record_command_if_fits a.command.now a.wanted ≡ None = elim c.then-command-lt5.either [
      | inl h ↦ written_short a.wanted a.command.now h
      | inr h ↦ written_widen a.wanted a.command.now h.1
    ] in
    let r = wrote 0 a.command.now a.command.now _ _ e refl refl in
    record { said = r.0; kept = r.1 }

pub returns : goal.returns
returns c =
    let a = c.args in
    let r = wrote 5 _ a.command.now _ _ (written_yes a.wanted a.command.now c.if-command-lt5.false c.if-wanted-ge32.false) refl
    (rw c.copy_from_slice.ensures.after refl) in
    record { said = r.0; kept = r.1 }
