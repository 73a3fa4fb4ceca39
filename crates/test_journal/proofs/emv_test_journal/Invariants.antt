-- `test_journal::emv_test_journal` meets its contract: the checker follows some bytes, and those that are left come
-- after them.
-- Assumes nothing.
use mathlib.Core.Path.{◌≡◌}
use mathlib.Core.List.{List, ◌++◌}
use Prim.Native.Nat.{ℕ}
use Rattle.journal.specs.Inner.{CheckerWasFed}
use Rattle.test_journal.proofs.emv_test_journal.Given as goal

abbrev pub invariant-loop-piece : goal.invariant-loop-piece
invariant-loop-piece l = (s : List ℕ) × CheckerWasFed l.checker s × (s ++ l.piece-iterator.rest.now ≡ l.bytes)
