-- `reading::store_pending` meets its contract. The invariant: the store is the one with the values so far in it.
-- Assumes nothing.
use mathlib.Core.Path.{refl, ap, ap₂, ◌∙◌}
use mathlib.Core.List.{List}
use Prim.Native.Nat.{ℕ}
use native.Mathlib.Omega.{arith}
use lib.ListN.{get_or}
use Rattle.dictionary.specs.Rows.{dictionary_rows}
use Rattle.store.specs.Place.{put_row}
use Rattle.reading.specs.InnerItems.{packed_item_value_in}
use Rattle.reading.specs.InnerPending.{pending_entry_row, store_with_pending}
use Rattle.reading.proofs.Items.{code_value}
use Rattle.reading.proofs.Pending.{fitting_at, value_most, after_one}
use Rattle.reading.proofs.store_pending.Goals as goal

pub loop-value-init : goal.loop-value-init
unfolding store_with_pending
loop-value-init c = refl

pub slice_bounds-put-end : goal.slice_bounds-put-end
slice_bounds-put-end c =
    let f = fitting_at _ _ _ c.requires c.loop-value-test.true in
    omega (arith, f.inside, c.start_in-start.ensures.0, c.len_in.ensures.0)

pub put-requires : goal.put-requires
put-requires c =
    let f = fitting_at _ _ _ c.requires c.loop-value-test.true in
    let v = code_value c.args.bytes.now _ _ _ c.start_in-start.ensures.0 c.len_in.ensures.0 in
    (rw c.row_in.ensures f.row, rw (c.row_in.ensures, v) (value_most _ _ f))

pub loop-value-preserved : goal.loop-value-preserved
loop-value-preserved c =
    let a = c.args in
    let x = get_or a.pending.now c.loop-value.value-index 0 in
    c.put.ensures
    ∙ ap₂ (put_row dictionary_rows _) c.row_in.ensures
    (code_value _ _ _ _ c.start_in-start.ensures.0 c.len_in.ensures.0)
    ∙ ap (λ (b : List ℕ). put_row dictionary_rows b (pending_entry_row x) (packed_item_value_in a.bytes.now x))
    c.loop-value.invariant
    ∙ after_one _ a.store.now _ c.loop-value.value-index c.loop-value-test.true
