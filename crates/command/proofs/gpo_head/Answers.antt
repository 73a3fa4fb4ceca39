-- `gpo_head`: the head's bytes: two to 127, three above.
-- Assumes nothing.
use mathlib.Core.Path.{refl, sym, ap, ◌∙◌}
use mathlib.Core.List.{List}
use Prim.Native.Nat.{ℕ, ◌+◌}
use lib.ListN.{length}
use Rattle.dol.specs.Measure.{buffer_with_bytes_at}
use Rattle.dol.proofs.Buffer.{over_part}
use Rattle.command.proofs.Parts.{head_short, head_long}
use Rattle.command.proofs.gpo_head.Goals as goal

pub returns-then-n-lt128 : goal.returns-then-n-lt128
returns-then-n-lt128 c =
    let a = c.args in
    let e = sym (head_short a.n c.if-n-lt128.true) in
    record {
      next = ap (λ (l : List ℕ). 5 + length l) e;
      kept = over_part a.buffer.now 5 2 _ c.copy_from_slice.ensures.after refl ∙ ap (buffer_with_bytes_at a.buffer.now 5) e;
    }

pub returns-else-n-lt128 : goal.returns-else-n-lt128
returns-else-n-lt128 c =
    let a = c.args in
    let e = sym (head_long a.n c.if-n-lt128.false c.requires.0) in
    record {
      next = ap (λ (l : List ℕ). 5 + length l) e;
      kept = over_part a.buffer.now 5 3 _ c.copy_from_slice-else-n-lt128.ensures.after refl ∙ ap (buffer_with_bytes_at a.buffer.now 5) e;
    }
