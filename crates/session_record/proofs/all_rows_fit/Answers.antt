-- `session_record::all_rows_fit` meets its contract. The invariant: the next row's place starts at `at`, and the walk
-- is at that row with `all_required_at_start_present` counted.
-- Assumes nothing.
use mathlib.Core.Path.{◌≡◌, refl, sym, ap, ◌∙◌}
use native.Mathlib.Omega.{arith}
use lib.ListN.{length-take, length-drop}
use Rattle.dictionary.specs.declared.RowAttributes.{RowAttributes}
use Rattle.dictionary.specs.Rows.{dictionary_rows, row_at}
use Rattle.dictionary.specs.Packing.{attributes_of}
use Rattle.store.specs.Place.{row_offset}
use Rattle.session_record.specs.Ranges.{stored_object_absent_or_fits_row}
use Rattle.session_record.proofs.Fit.{row_read, Stands, stands, part_first, object_part}
use Rattle.session_record.proofs.Walk.{Walk, walk_start, walk_most, walk_on, walk_held, walk_no, walk_end}
use Rattle.session_record.proofs.all_rows_fit.Goals as goal

pub packed_row_attributes-codes-requires : goal.packed_row_attributes-codes-requires
packed_row_attributes-codes-requires c = tt

pub loop-codes-init : goal.loop-codes-init
unfolding row_offset dictionary_rows
loop-codes-init c = (omega arith, refl, walk_start _)

pub next_held-held-requires : goal.next_held-held-requires
next_held-held-requires c = let lp = c.loop-codes in record { codes_value = c.packed_row_attributes-codes.ensures; from_le_row_count = (lp.invariant.0, lp.invariant.1) }

pub is_enough-requires : goal.is_enough-requires
is_enough-requires c = tt

-- or to the end, and the count decides
pub returns-then-k-eq-ROWS : goal.returns-then-k-eq-ROWS
returns-then-k-eq-ROWS c =
    let come : Walk c.args.bytes.now c.next_held-held.result.row c.loop-codes.brought =
    walk_on _ c.loop-codes.row _ _ _ c.loop-codes.invariant.2
    c.next_held-held.ensures.passed in
    c.is_enough.ensures ∙ sym (walk_end c.args.asked _
    c.next_held-held.result.row _ (come) (omega arith))

pub unpack_row_attributes-a-requires : goal.unpack_row_attributes-a-requires
unpack_row_attributes-a-requires c = tt

pub overflow_add-next : goal.overflow_add-next
overflow_add-next c =
    let read : c.unpack_row_attributes-a.result ≡ attributes_of (row_at c.next_held-held.result.row) =
    row_read _ c.next_held-held.result.row _ (omega arith) c.packed_row_attributes-codes.ensures
    c.unpack_row_attributes-a.ensures in
    let stood : let h = c.next_held-held.result in Stands h.row h.at c.unpack_row_attributes-a.result.greatest =
    let n = c.next_held-held in
    stands n.result.row _ _ (omega arith) n.ensures.passed.place (read) in
    let s = stood in omega arith

pub overflow_add-next-in-loop-codes : goal.overflow_add-next-in-loop-codes
overflow_add-next-in-loop-codes c =
    let read : c.unpack_row_attributes-a.result ≡ attributes_of (row_at c.next_held-held.result.row) =
    row_read _ c.next_held-held.result.row _ (omega arith) c.packed_row_attributes-codes.ensures
    c.unpack_row_attributes-a.ensures in
    let stood : let h = c.next_held-held.result in Stands h.row h.at c.unpack_row_attributes-a.result.greatest =
    let n = c.next_held-held in
    stands n.result.row _ _ (omega arith) n.ensures.passed.place (read) in
    let s = stood in omega arith

pub slice_bounds-row_fits-start : goal.slice_bounds-row_fits-start
slice_bounds-row_fits-start c =
    let read : c.unpack_row_attributes-a.result ≡ attributes_of (row_at c.next_held-held.result.row) =
    row_read _ c.next_held-held.result.row _ (omega arith) c.packed_row_attributes-codes.ensures
    c.unpack_row_attributes-a.ensures in
    let stood : let h = c.next_held-held.result in Stands h.row h.at c.unpack_row_attributes-a.result.greatest =
    let n = c.next_held-held in
    stands n.result.row _ _ (omega arith) n.ensures.passed.place (read) in
    let s = stood in omega arith

pub slice_bounds-row_fits-end : goal.slice_bounds-row_fits-end
slice_bounds-row_fits-end c =
    let read : c.unpack_row_attributes-a.result ≡ attributes_of (row_at c.next_held-held.result.row) =
    row_read _ c.next_held-held.result.row _ (omega arith) c.packed_row_attributes-codes.ensures
    c.unpack_row_attributes-a.ensures in
    let stood : let h = c.next_held-held.result in Stands h.row h.at c.unpack_row_attributes-a.result.greatest =
    let n = c.next_held-held in
    stands n.result.row _ _ (omega arith) n.ensures.passed.place (read) in
    let s = stood in omega arith

pub row_fits-requires : goal.row_fits-requires
row_fits-requires c = let read : c.unpack_row_attributes-a.result ≡ attributes_of (row_at c.next_held-held.result.row) =
    row_read _ c.next_held-held.result.row _ (omega arith) c.packed_row_attributes-codes.ensures
    c.unpack_row_attributes-a.ensures in
    let stood : let h = c.next_held-held.result in Stands h.row h.at c.unpack_row_attributes-a.result.greatest =
    let n = c.next_held-held in
    stands n.result.row _ _ (omega arith) n.ensures.passed.place (read) in
    let s = stood in
    let t = c.next_held-held.ensures.there (omega arith) in
    let f = part_first c.args.bytes.now c.next_held-held.result.at
    c.unpack_row_attributes-a.result.greatest in record { place_len = simp (length-take, length-drop) (omega arith); nonzero = omega arith }

pub returns-then-not-row_fits : goal.returns-then-not-row_fits
returns-then-not-row_fits c =
    let come : Walk c.args.bytes.now c.next_held-held.result.row c.loop-codes.brought =
    walk_on _ c.loop-codes.row _ _ _ c.loop-codes.invariant.2
    c.next_held-held.ensures.passed in
    let read : c.unpack_row_attributes-a.result ≡ attributes_of (row_at c.next_held-held.result.row) =
    row_read _ c.next_held-held.result.row _ (omega arith) c.packed_row_attributes-codes.ensures
    c.unpack_row_attributes-a.ensures in
    let told : stored_object_absent_or_fits_row c.args.bytes.now (row_at c.next_held-held.result.row) ≡ c.row_fits.result =
    let n = c.next_held-held in
    object_part _ n.result.row n.result.at _ (omega arith) n.ensures.passed.place (read) ∙ sym
    c.row_fits.ensures in
    sym (walk_no _ c.next_held-held.result.row _ (come) (omega arith)
    c.args.asked (told ∙ c.if-not-row_fits.true))

pub overflow_add-brought : goal.overflow_add-brought
overflow_add-brought c =
    let lp = c.loop-codes in
    omega (arith, walk_most _ lp.row lp.brought lp.invariant.2, c.from-brought.ensures)

-- the object is counted if a start must bring it
pub loop-codes-preserved : goal.loop-codes-preserved
loop-codes-preserved c =
    let read : c.unpack_row_attributes-a.result ≡ attributes_of (row_at c.next_held-held.result.row) =
    row_read _ c.next_held-held.result.row _ (omega arith) c.packed_row_attributes-codes.ensures
    c.unpack_row_attributes-a.ensures in
    let stood : let h = c.next_held-held.result in Stands h.row h.at c.unpack_row_attributes-a.result.greatest =
    let n = c.next_held-held in
    stands n.result.row _ _ (omega arith) n.ensures.passed.place (read) in
    let come : Walk c.args.bytes.now c.next_held-held.result.row c.loop-codes.brought =
    walk_on _ c.loop-codes.row _ _ _ c.loop-codes.invariant.2
    c.next_held-held.ensures.passed in
    let told : stored_object_absent_or_fits_row c.args.bytes.now (row_at c.next_held-held.result.row) ≡ c.row_fits.result =
    let n = c.next_held-held in
    object_part _ n.result.row n.result.at _ (omega arith) n.ensures.passed.place (read) ∙ sym
    c.row_fits.ensures in
    let h = c.next_held-held in
    let m = c.from-brought.ensures ∙ ap (λ (a : RowAttributes). a.must) (read) in (
      omega arith,
      (stood).next,
      walk_held _ h.result.row _ (come) (omega arith) h.result.at _ h.ensures.passed.place
          (h.ensures.there (omega arith)) m (told ∙ c.if-not-row_fits.false),
    )
