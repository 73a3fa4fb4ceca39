-- `test_journal::emv_test_wanted` meets its contract: the checker follows the bytes, and what is expected is
-- copied whole.
-- Assumes nothing.
use mathlib.Core.Path.{subst, ◌∙◌}
use mathlib.Core.List.{List, []}
use Prim.Native.Nat.{ℕ}
use Rattle.test_journal.specs.Word.{GivesBytesIfRoom}
use Rattle.test_journal.proofs.emv_test_wanted.Goals as goal

pub returns : goal.returns
returns c =
    let a = c.args in
    let w = c.expected_reply_record-wanted.ensures.follows
    a.bytes.now (c.feed.ensures.follows []
    c.begin.ensures.follows) in
    subst (λ (v : List ℕ). GivesBytesIfRoom c.put.result c.put.new.out v
    a.out.now) (c.front.ensures ∙ w) c.put.ensures
