-- `session::store_digits` meets its contract: a track fits the array that it is copied to, and goes back as
-- long as it was.
-- Assumes nothing.
use mathlib.Core.Path.{◌≡◌, sym, ap, ◌∙◌}
use mathlib.Core.List.{List}
use Prim.Native.Nat.{ℕ, ◌≤◌}
use native.Mathlib.Omega.{arith}
use lib.ListN.{length, length-append, length-take}
use lib.Seq.{length-take-le, take_at}
use Rattle.dictionary.specs.Rows.{dictionary_rows}
use Rattle.dictionary.specs.Named.{row_track2_data}
use Rattle.dictionary.proofs.Named.{at_9f6b}
use Rattle.store.specs.Place.{bytes_or_empty_if_absent, row_value}
use Rattle.session_record.proofs.Tags.{bytes_are}
use Rattle.session.proofs.Laws.{value_short, track_fits, digits_stored}
use Rattle.session.proofs.store_digits.Goals as goal

-- a stored track is at most as long as the array
short : (b : List ℕ) {v : List ℕ} → v ≡ bytes_or_empty_if_absent (row_value dictionary_rows b row_track2_data)
    → length v ≤ 19
short b e = omega (arith, ap length e, value_short b row_track2_data, track_fits)

pub slice_bounds-track-end : goal.slice_bounds-track-end
slice_bounds-track-end c = short c.args.store.now c.value-n.ensures

pub slice_bounds-track_after-end-2 : goal.slice_bounds-track_after-end-2
slice_bounds-track_after-end-2 c = sym (length-take-le _ _ (short c.args.store.now c.value-n.ensures))

pub track_after-requires : goal.track_after-requires
track_after-requires c =
    length-take-le _ _ (short c.args.store.now c.value-n.ensures)
    ∙ ap length (c.value-n.ensures ∙ bytes_are _ _ _ at_9f6b)

pub slice_bounds-track-end-2 : goal.slice_bounds-track-end-2
slice_bounds-track-end-2 c =
    let sized : length c.track_after.new.track ≡ length c.value-n.result.now = c.track_after.ensures.sized ∙ length-take-le _ _ (short c.args.store.now c.value-n.ensures) in
    simp length-append (omega (arith, sized))

pub slice_bounds-put-end : goal.slice_bounds-put-end
slice_bounds-put-end c =
    let sized : length c.track_after.new.track ≡ length c.value-n.result.now = c.track_after.ensures.sized ∙ length-take-le _ _ (short c.args.store.now c.value-n.ensures) in
    sym (ap length (take_at c.track_after.new.track _ _ sized) ∙ sized)

pub put-requires : goal.put-requires
put-requires c = (omega arith, simp length-take (omega (arith, short c.args.store.now c.value-n.ensures, track_fits)))

pub returns : goal.returns
returns c =
    let sized : length c.track_after.new.track ≡ length c.value-n.result.now = c.track_after.ensures.sized ∙ length-take-le _ _ (short c.args.store.now c.value-n.ensures) in
    digits_stored _ _ (take_at c.track_after.new.track _ _ sized ∙ c.track_after.ensures.digits) c.put.ensures
