-- `test_journal::put` meets its contract: the copy is at the front of what was there.
-- Assumes nothing.
use borrow.Author.Tests.{lt-ltb, le-ltb}
use native.Mathlib.Omega.{arith}
use mathlib.Core.Path.{sym, ap, ◌∙◌}
use mathlib.Core.List.{List, ◌++◌}
use Prim.Native.Nat.{ℕ}
use lib.ListN.{length, drop}
use Rattle.basics.proofs.Laws.{if_yes, if_no}
use Rattle.test_journal.proofs.put.Goals as goal

pub returns-then-out-n : goal.returns-then-out-n
returns-then-out-n c = let f = lt-ltb _ _ c.if-out-n.true in record { size = sym (if_yes _ _ f); bytes = sym (if_yes _ _ f) }

pub returns : goal.returns
returns c =
    let a = c.args in
    let f = le-ltb (length a.out.now) (length a.s.now) (omega (arith, c.if-out-n.false)) in
    record {
      size = sym (if_no _ _ f);
      bytes = ap (λ (t : List ℕ). t ++ drop (length a.s.now) a.out.now) c.copy_from_slice.ensures.after ∙ sym (if_no _ _ f);
    }
