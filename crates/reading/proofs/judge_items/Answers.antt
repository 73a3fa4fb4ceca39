-- `reading::judge_items` meets its contract. The invariant is `Judging` (proofs/Pending), which has a law for each way
-- through an iteration.
-- Assumes nothing.
use Rattle.std.specs.Prelude.{Ok, Err}
use Rattle.std.proofs.Common.{rules}
use mathlib.Core.Path.{◌≡◌, ap, ◌∙◌}
use Rattle.reading.proofs.Pending.{judging_none, judged_all, next_inside, next_item, pending_room, judged_skipped}
use Rattle.reading.proofs.Pending.{judged_barred, row_is, judged_again, judged_put}
use Rattle.reading.proofs.judge_items.Goals.{in-Some+else-not-is_free, in_default}
use Rattle.reading.proofs.judge_items.Goals as goal

pub loop-i-init : goal.loop-i-init
loop-i-init c = judging_none _ _ _ _ _ c.told-store c.told-items

pub judge_item-requires-clause-item_value_inside : goal.judge_item-requires-clause-item_value_inside
judge_item-requires-clause-item_value_inside c =
    next_inside c.requires.is_item_list c.loop-i.invariant c.loop-i-test.true

pub returns-in_err-row : goal.returns-in_err-row
returns-in_err-row c =
    let e : c.from_residual.result ≡ Err c.in_err-row.field-0.0 = search rules in
    rw e
    (judged_barred (next_item c.requires.is_item_list c.loop-i.invariant c.loop-i-test.true c.judge_item.ensures)
    c.in_err-row.was)

pub is_free-requires : goal.is_free-requires
is_free-requires c =
    (row_is (next_item c.requires.is_item_list c.loop-i.invariant c.loop-i-test.true c.judge_item.ensures) (c.in_ok-row.was ∙ ap Ok c.in-Some.is)).0

pub returns-then-not-is_free : goal.returns-then-not-is_free
returns-then-not-is_free c =
    judged_again (next_item c.requires.is_item_list c.loop-i.invariant c.loop-i-test.true c.judge_item.ensures)
    (c.in_ok-row.was ∙ ap Ok c.in-Some.is)
    c.is_free.ensures
    c.if-not-is_free.true

pub add_pending-requires : goal.add_pending-requires
add_pending-requires c =
    let x = next_item c.requires.is_item_list c.loop-i.invariant c.loop-i-test.true c.judge_item.ensures in
    ((row_is x (c.in_ok-row.was ∙ ap Ok c.in-Some.is)).0, pending_room x)

pub loop-i-preserved : goal.loop-i-preserved
loop-i-preserved c =
    let x = next_item c.requires.is_item_list c.loop-i.invariant c.loop-i-test.true c.judge_item.ensures in
    elim c.match-branch-2.branch [
      | in-Some+else-not-is_free w ↦
          rw (w.items-is, w.filled-is, w.pending-is, w.add_pending.ensures.put, w.add_pending.ensures.marked)
          (judged_put x (c.in_ok-row.was ∙ ap Ok w.in-Some.is) w.is_free.ensures w.if-not-is_free.false)
      | in_default w ↦
          rw (w.items-is, w.filled-is, w.pending-is) (judged_skipped x (c.in_ok-row.was ∙ ap Ok w.in_default.is))
    ]

pub returns : goal.returns
returns c = judged_all c.requires.is_item_list c.loop-i.invariant c.loop-i-test.false
