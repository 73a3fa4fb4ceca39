-- `fill`: what is written so far, with the filling of the rest after it, is the filling of the list. The rest shrinks,
-- and its entries have room.
-- Assumes nothing.
use mathlib.Core.Path.{sym, ◌∙◌}
use native.Mathlib.Omega.{arith}
use lib.ListN.{length, length-take, length-drop}
use Rattle.dictionary.specs.Rows.{dictionary_rows}
use Rattle.dol.proofs.Buffer.{over_part}
use Rattle.dol.proofs.Filling.{entry_length}
use Rattle.dol.proofs.Writing.{entry_goes, fill_stop, fill_step}
use Rattle.dol.proofs.fill.Goals as goal

pub slice_bounds-write_entry-end : goal.slice_bounds-write_entry-end
slice_bounds-write_entry-end c =
    let lp = c.loop-entry in
    let g = entry_goes lp.rest.now c.in-Some.entry c.in-Some.size lp.to (length lp.buffer) c.entry_at.ensures c.in-Some.is lp.invariant.2 in
    omega arith

pub slice_bounds-rest-count : goal.slice_bounds-rest-count
slice_bounds-rest-count c =
    let lp = c.loop-entry in
    let g = entry_goes lp.rest.now c.in-Some.entry c.in-Some.size lp.to (length lp.buffer) c.entry_at.ensures c.in-Some.is lp.invariant.2 in
    omega arith

pub slice_bounds-rest-start : goal.slice_bounds-rest-start
slice_bounds-rest-start c =
    let lp = c.loop-entry in
    let g = entry_goes lp.rest.now c.in-Some.entry c.in-Some.size lp.to (length lp.buffer) c.entry_at.ensures c.in-Some.is lp.invariant.2 in
    omega arith

pub loop-entry-smaller : goal.loop-entry-smaller
loop-entry-smaller c =
    let lp = c.loop-entry in
    let g = entry_goes lp.rest.now c.in-Some.entry c.in-Some.size lp.to (length lp.buffer) c.entry_at.ensures c.in-Some.is lp.invariant.2 in
    simp (length-take, length-drop) (omega arith)

pub loop-entry-preserved : goal.loop-entry-preserved
loop-entry-preserved c =
    let a = c.args in
    let lp = c.loop-entry in
    let e = c.in-Some.entry in
    let l = entry_length dictionary_rows a.store.now e in
    let w = over_part lp.buffer lp.to c.from.result _ c.write_entry.ensures (omega arith) in
    let s = fill_step dictionary_rows a.store.now _ lp.buffer _ lp.rest.now lp.to _ e _
    (sym c.entry_at.ensures ∙ c.in-Some.is) lp.invariant.0 lp.invariant.2 w c.from.ensures in
    (s.0, s.1 ∙ lp.invariant.1, s.2)

pub returns : goal.returns
returns c =
    let lp = c.loop-entry in
    sym (lp.invariant.0 ∙ fill_stop dictionary_rows c.args.store.now lp.buffer lp.rest.now lp.to (sym c.entry_at.ensures ∙ c.in_default.is)
    lp.invariant.2)
