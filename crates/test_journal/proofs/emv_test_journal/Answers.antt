-- `test_journal::emv_test_journal` meets its contract: a piece comes after the bytes that the checker follows.
-- Assumes nothing.
use mathlib.Core.Path.{sym, ap, ◌∙◌}
use mathlib.Core.List.{List, ◌++◌, append_assoc}
use Prim.Native.Nat.{ℕ}
use Rattle.test_journal.proofs.emv_test_journal.Goals as goal

pub loop-piece-preserved : goal.loop-piece-preserved
loop-piece-preserved c =
    let i = c.loop-piece.invariant in (
      i.0 ++ c.in-Some.piece.now,
      c.feed-checker-in-loop-piece.ensures.follows i.0 i.1,
      append_assoc i.0 c.in-Some.piece.now c.next.new.self.rest.now
          ∙ ap (λ (r : List ℕ). i.0 ++ r) (sym c.in-Some.ensures.steps.1.0)
          ∙ i.2,
    )
