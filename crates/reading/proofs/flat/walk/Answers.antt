-- `flat::walk` meets its contract. The invariant is `Reached` (proofs/Frames): within the innermost template a step is
-- that of `Run` (proofs/Runs); an end closes it, a template is pushed. The measure counts what is left of the bytes
-- twice and each open level once.
-- Assumes nothing.
use mathlib.Core.Path.{sym, ◌∙◌}
use native.Mathlib.Omega.{arith}
use Rattle.reading.proofs.Runs.{next_here, stops, padding, failed, bounds, number_fits, room, listed}
use Rattle.reading.proofs.Frames.{begin, inside, run, step, more, done, close, too_deep, push}
use Rattle.reading.proofs.flat.walk.Goals as goal

pub loop-at-init : goal.loop-at-init
loop-at-init c =
    begin _ _ _ _ _ c.requires.template_walk_has_room c.requires.tag_bound

pub returns-then-depth-eq0 : goal.returns-then-depth-eq0
returns-then-depth-eq0 c =
    done c.loop-at.invariant c.if-at-inmost.true c.if-depth-eq0.true

pub loop-at-preserved-then-at-inmost : goal.loop-at-preserved-then-at-inmost
loop-at-preserved-then-at-inmost c =
    close c.loop-at.invariant c.if-at-inmost.true c.if-depth-eq0.false

pub bounds-bytes-at : goal.bounds-bytes-at
bounds-bytes-at c =
    let m = more c.loop-at.invariant c.if-at-inmost.false in
    omega (arith, m, stops (run c.loop-at.invariant))

pub loop-at-smaller-then-bytes-at-eq0 : goal.loop-at-smaller-then-bytes-at-eq0
loop-at-smaller-then-bytes-at-eq0 c =
    let m = more c.loop-at.invariant c.if-at-inmost.false in
    omega (arith, m, inside c.loop-at.invariant)

pub loop-at-preserved-then-bytes-at-eq0 : goal.loop-at-preserved-then-bytes-at-eq0
loop-at-preserved-then-bytes-at-eq0 c =
    let m = more c.loop-at.invariant c.if-at-inmost.false in
    step c.loop-at.invariant (padding (run c.loop-at.invariant) m c.if-bytes-at-eq0.true)

pub slice_bounds-object_header-end : goal.slice_bounds-object_header-end
slice_bounds-object_header-end c =
    stops (run c.loop-at.invariant)

pub returns-in_err-h : goal.returns-in_err-h
returns-in_err-h c =
    let m = more c.loop-at.invariant c.if-at-inmost.false in
    rw c.from_residual.ensures
    (failed (run c.loop-at.invariant) m c.if-bytes-at-eq0.false (sym c.object_header.ensures ∙ c.in_err-h.was) _)

pub overflow_add-from : goal.overflow_add-from
overflow_add-from c =
    let m = more c.loop-at.invariant c.if-at-inmost.false in
    let x = next_here (run c.loop-at.invariant) (λ i. omega (arith, c.type_inv.bytes i)) m c.object_header.ensures
    c.in_ok-h.was in
    omega (arith, bounds x, c.loop-at.invariant.fits.short)

pub overflow_add-e : goal.overflow_add-e
overflow_add-e c =
    let m = more c.loop-at.invariant c.if-at-inmost.false in
    let x = next_here (run c.loop-at.invariant) (λ i. omega (arith, c.type_inv.bytes i)) m c.object_header.ensures
    c.in_ok-h.was in
    omega (arith, bounds x, c.loop-at.invariant.fits.short)

pub returns-then-depth-eq-LEVELS : goal.returns-then-depth-eq-LEVELS
returns-then-depth-eq-LEVELS c =
    let m = more c.loop-at.invariant c.if-at-inmost.false in
    let x = next_here (run c.loop-at.invariant) (λ i. omega (arith, c.type_inv.bytes i)) m c.object_header.ensures
    c.in_ok-h.was in
    too_deep c.loop-at.invariant x c.if-h.true c.if-depth-eq-LEVELS.true _

pub loop-at-smaller-then-h : goal.loop-at-smaller-then-h
loop-at-smaller-then-h c =
    let m = more c.loop-at.invariant c.if-at-inmost.false in
    let x = next_here (run c.loop-at.invariant) (λ i. omega (arith, c.type_inv.bytes i)) m c.object_header.ensures
    c.in_ok-h.was in
    omega (arith, bounds x)

pub loop-at-preserved-then-h : goal.loop-at-preserved-then-h
loop-at-preserved-then-h c =
    let m = more c.loop-at.invariant c.if-at-inmost.false in
    let x = next_here (run c.loop-at.invariant) (λ i. omega (arith, c.type_inv.bytes i)) m c.object_header.ensures
    c.in_ok-h.was in
    push c.loop-at.invariant x c.if-depth-eq-LEVELS.false c.if-h.true

pub packed_item-requires : goal.packed_item-requires
packed_item-requires c =
    let m = more c.loop-at.invariant c.if-at-inmost.false in
    let x = next_here (run c.loop-at.invariant) (λ i. omega (arith, c.type_inv.bytes i)) m c.object_header.ensures
    c.in_ok-h.was in
    number_fits x

pub bounds-items-tally : goal.bounds-items-tally
bounds-items-tally c =
    let m = more c.loop-at.invariant c.if-at-inmost.false in
    let x = next_here (run c.loop-at.invariant) (λ i. omega (arith, c.type_inv.bytes i)) m c.object_header.ensures
    c.in_ok-h.was in
    omega (arith, room x)

pub loop-at-smaller : goal.loop-at-smaller
loop-at-smaller c =
    let m = more c.loop-at.invariant c.if-at-inmost.false in
    let x = next_here (run c.loop-at.invariant) (λ i. omega (arith, c.type_inv.bytes i)) m c.object_header.ensures
    c.in_ok-h.was in
    omega (arith, bounds x)

pub loop-at-preserved : goal.loop-at-preserved
loop-at-preserved c =
    let m = more c.loop-at.invariant c.if-at-inmost.false in
    let x = next_here (run c.loop-at.invariant) (λ i. omega (arith, c.type_inv.bytes i)) m c.object_header.ensures
    c.in_ok-h.was in
    rw c.packed_item.ensures (step c.loop-at.invariant (listed x c.if-h.false))
