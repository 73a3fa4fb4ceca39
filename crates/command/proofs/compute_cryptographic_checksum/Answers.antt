-- `compute_cryptographic_checksum`: the stored list where it has bytes, else the default one.
-- Assumes nothing.
use Rattle.std.specs.Prelude.{Option}
use mathlib.Core.Path.{sym, ap, ◌∙◌}
use mathlib.Core.List.{List}
use Prim.Native.Nat.{ℕ}
use Rattle.command.specs.WithList.{dol_command_of, reason_dol_if_no_command, buffer_with_command}
use Rattle.command.proofs.Parts.{checksum_of, list_own, list_default}
use Rattle.command.proofs.compute_cryptographic_checksum.Goals as goal

pub returns-then-stored-ne0 : goal.returns-then-stored-ne0
returns-then-stored-ne0 c =
    let w = c.with_dol.ensures in
    let a = c.args in
    let e = sym (checksum_of a.store.now _ _ c.value-stored.ensures (list_own _ c.if-stored-ne0.true)) in record {
      said = w.said ∙ ap dol_command_of e;
      kept = w.kept ∙ ap (λ (x : Option (List ℕ)). buffer_with_command x a.buffer.now) e;
      reason = w.reason ∙ ap reason_dol_if_no_command e;
    }

pub returns : goal.returns
returns c =
    let w = c.with_dol-2.ensures in
    let a = c.args in
    let e = sym (checksum_of a.store.now _ _ c.value-stored.ensures (list_default _ c.if-stored-ne0.false)) in record {
      said = w.said ∙ ap dol_command_of e;
      kept = w.kept ∙ ap (λ (x : Option (List ℕ)). buffer_with_command x a.buffer.now) e;
      reason = w.reason ∙ ap reason_dol_if_no_command e;
    }
