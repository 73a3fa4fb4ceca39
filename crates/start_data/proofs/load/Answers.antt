-- `start_data::load` meets its contract. One law for each way out, in the order of the refusals; a store that is
-- cleared is as it came.
-- Assumes nothing.
use mathlib.Core.Path.{refl, sym, ap, ◌∙◌}
use Prim.Native.Nat.{ℕ}
use lib.ListN.{replicate}
use Rattle.start_data.proofs.Ways.{refuses, load_long, load_broken, objects, refuses_cleared, loads_kept}
use Rattle.start_data.proofs.load.Goals as goal
use Rattle.start_data.proofs.load.Goals.{
  then-terminal-gt-MOST-via-then-terminal-gt-MOST,
  then-terminal-gt-MOST-via-else-terminal-gt-MOST+then-not-is_primitive_list,
}

pub returns-then-terminal-gt-MOST : goal.returns-then-terminal-gt-MOST
returns-then-terminal-gt-MOST c =
    let b = c.args.store.now in
    let s = c.args.terminal.now in
    elim c.then-terminal-gt-MOST.branch [
      | then-terminal-gt-MOST-via-then-terminal-gt-MOST w ↦ refuses b refl (load_long b s w.if-terminal-gt-MOST.true)
      | then-terminal-gt-MOST-via-else-terminal-gt-MOST+then-not-is_primitive_list w ↦ refuses b refl
          (load_broken b s w.if-terminal-gt-MOST.false (sym w.is_primitive_list.ensures ∙ w.if-not-is_primitive_list.true))
    ]

pub returns-then-is_err : goal.returns-then-is_err
returns-then-is_err c =
    let run = sym c.is_primitive_list.ensures ∙ c.if-not-is_primitive_list.false in
    refuses_cleared _ _ _ (objects _ _ c.if-terminal-gt-MOST.false run) c.set_all-result.ensures _
    (sym c.is_err.ensures.value ∙ c.if-is_err.true)
    (c.clear_refused.ensures.empty ∙ ap (λ (n : ℕ). replicate n 0) c.set_all-result.array_long ∙ sym c.requires)

pub returns-else-is_err : goal.returns-else-is_err
returns-else-is_err c =
    let run = sym c.is_primitive_list.ensures ∙ c.if-not-is_primitive_list.false in
    loads_kept _ _ _ (objects _ _ c.if-terminal-gt-MOST.false run) c.set_all-result.ensures
    (sym c.is_err.ensures.value ∙ c.if-is_err.false)
