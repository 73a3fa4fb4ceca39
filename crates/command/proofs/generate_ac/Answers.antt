-- `generate_ac`: the list of row 8C, filled and carried.
-- Assumes nothing.
use Rattle.std.specs.Prelude.{Option}
use mathlib.Core.Path.{sym, ap, ◌∙◌}
use mathlib.Core.List.{List}
use Prim.Native.Nat.{ℕ}
use Rattle.command.specs.WithList.{dol_command_of, reason_dol_if_no_command, buffer_with_command}
use Rattle.command.proofs.Parts.{cryptogram_of}
use Rattle.command.proofs.generate_ac.Goals as goal

pub returns : goal.returns
returns c = let w = c.with_dol.ensures in
    let a = c.args in
    let e = sym (cryptogram_of a.p1 a.store.now _ c.value-list.ensures) in record {
      said = w.said ∙ ap dol_command_of e;
      kept = w.kept ∙ ap (λ (x : Option (List ℕ)). buffer_with_command x a.buffer.now) e;
      reason = w.reason
          ∙ ap reason_dol_if_no_command e;
    }
