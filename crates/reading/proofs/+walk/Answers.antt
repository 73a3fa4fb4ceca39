-- `walk` meets its contract. The recursion falls with the levels, the loop with what is left of the contents.
-- The invariant is `Run` (proofs/Runs), which has a law for each way through an iteration: what follows is the end.
-- Assumes nothing.
use mathlib.Core.Path.{sym, ◌∙◌}
use native.Mathlib.Omega.{arith}
use Rattle.reading.proofs.Runs.{next_here, has_listed, ended, padding, failed, bounds, small, deep, number_fits, listed}
use Rattle.reading.proofs.Runs.{entered_alone, inner_broken, inner_whole}
use Rattle.reading.proofs.+walk.Goals as goal

pub loop-at-preserved-then-bytes-at-eq0 : goal.loop-at-preserved-then-bytes-at-eq0
loop-at-preserved-then-bytes-at-eq0 t c =
    padding c.loop-at.invariant c.loop-at-test.true c.if-bytes-at-eq0.true

pub returns-in_default : goal.returns-in_default
returns-in_default t c =
    failed c.loop-at.invariant c.loop-at-test.true c.if-bytes-at-eq0.false
    (sym c.object_header.ensures ∙ c.in_default.is) _

pub overflow_add-from : goal.overflow_add-from
overflow_add-from t c =
    let x = next_here c.loop-at.invariant (λ i. omega (arith, c.type_inv.bytes i)) c.loop-at-test.true c.object_header.ensures
    c.in-Some.is in
    omega (arith, bounds x, c.loop-at.invariant.fits.short)

pub overflow_add-e : goal.overflow_add-e
overflow_add-e t c =
    let x = next_here c.loop-at.invariant (λ i. omega (arith, c.type_inv.bytes i)) c.loop-at-test.true c.object_header.ensures
    c.in-Some.is in
    omega (arith, bounds x, c.loop-at.invariant.fits.short)

pub returns-then-levels-eq0 : goal.returns-then-levels-eq0
returns-then-levels-eq0 t c =
    let x = next_here c.loop-at.invariant (λ i. omega (arith, c.type_inv.bytes i)) c.loop-at-test.true c.object_header.ensures
    c.in-Some.is in
    deep x c.if-h.true c.if-levels-eq0.true _

pub walk-requires : goal.walk-requires
walk-requires t c =
    let x = next_here c.loop-at.invariant (λ i. omega (arith, c.type_inv.bytes i)) c.loop-at-test.true c.object_header.ensures
    c.in-Some.is in
    (omega arith, (entered_alone x, small x))

pub returns-in_err-so_far : goal.returns-in_err-so_far
returns-in_err-so_far t c =
    let x = next_here c.loop-at.invariant (λ i. omega (arith, c.type_inv.bytes i)) c.loop-at-test.true c.object_header.ensures
    c.in-Some.is in
    rw c.from_residual.ensures (inner_broken x c.if-h.true c.if-levels-eq0.false _ c.in_err-so_far.ensures _)

pub packed_item-requires : goal.packed_item-requires
packed_item-requires t c =
    let x = next_here c.loop-at.invariant (λ i. omega (arith, c.type_inv.bytes i)) c.loop-at-test.true c.object_header.ensures
    c.in-Some.is in
    number_fits x

pub loop-at-smaller-in_ok-so_far : goal.loop-at-smaller-in_ok-so_far
loop-at-smaller-in_ok-so_far t c =
    let x = next_here c.loop-at.invariant (λ i. omega (arith, c.type_inv.bytes i)) c.loop-at-test.true c.object_header.ensures
    c.in-Some.is in
    omega (arith, bounds x)

pub loop-at-preserved-in_ok-so_far : goal.loop-at-preserved-in_ok-so_far
loop-at-preserved-in_ok-so_far t c =
    let x = next_here c.loop-at.invariant (λ i. omega (arith, c.type_inv.bytes i)) c.loop-at-test.true c.object_header.ensures
    c.in-Some.is in
    inner_whole x c.if-h.true c.if-levels-eq0.false _ _ c.in_ok-so_far.ensures

pub loop-at-smaller : goal.loop-at-smaller
loop-at-smaller t c =
    let x = next_here c.loop-at.invariant (λ i. omega (arith, c.type_inv.bytes i)) c.loop-at-test.true c.object_header.ensures
    c.in-Some.is in
    omega (arith, bounds x)

pub loop-at-preserved : goal.loop-at-preserved
loop-at-preserved t c =
    let x = next_here c.loop-at.invariant (λ i. omega (arith, c.type_inv.bytes i)) c.loop-at-test.true c.object_header.ensures
    c.in-Some.is in
    rw c.packed_item.ensures (listed x c.if-h.false)

pub returns : goal.returns
returns t c =
    ended c.loop-at.invariant c.loop-at-test.false _ _ (has_listed c.loop-at.invariant.fits)
