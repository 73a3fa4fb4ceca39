-- `writing::put_records` meets its contract. The invariant: what is written, with the records from k on still to be
-- written after it, is all records; each of them takes at most 256 bytes. The measure is how many are left.
-- Assumes nothing.
use mathlib.Core.List.{List}
use mathlib.Core.Path.{◌≡◌, sym, ap, ◌∙◌}
use Prim.Native.Nat.{ℕ, ◌+◌, ◌<◌, ◌≤◌}
use native.Mathlib.Omega.{arith}
use lib.ListN.{length}
use Rattle.personalise.specs.Placements.{placements_in}
use Rattle.personalise.specs.Objects.{parsed_objects_or_empty}
use Rattle.tlv.specs.Primitives.{Object}
use Rattle.personalise.specs.declared.Placement.{Placement}
use Rattle.personalise.specs.Inner.{bytes_written_over, WritesBytesAt, concatenated_first_records}
use Rattle.personalise.proofs.Over.{over_nothing}
use Rattle.personalise.proofs.Filled.{records_left, records_done, records_all, transition_over, transition_next}
use Rattle.personalise.proofs.Filled.{transition_length, transition_most}
use Rattle.personalise.proofs.writing.put_records.Goals as goal

pub loop-k-preserved : goal.loop-k-preserved
loop-k-preserved c =
    let lp = c.loop-k in
    let a = c.args in
    let os = parsed_objects_or_empty a.objects.bytes.now in
    let ps = placements_in a.placements.now in
    let h = c.loop-k-test.true in
    let f = c.requires.record_contents_within253bytes lp.k h in
    let room : lp.at + 256 ≤ length lp.out =
    omega (arith, lp.invariant.2, lp.invariant.3, lp.invariant.4, lp.invariant.5, c.requires.records_bound.1) in
    let p = c.put_record-at.ensures in
    let m = transition_most os ps a.records lp.k h f lp.out lp.at room p in (
      lp.invariant.0 ∙ transition_over os ps a.records lp.k h f lp.out lp.at room p,
      lp.invariant.1 ∙ transition_next os ps a.records lp.k h f lp.out lp.at room p,
      transition_length os ps a.records lp.k h f lp.out lp.at room p ∙ lp.invariant.2,
      omega arith,
      omega arith,
      omega (arith, lp.invariant.5, lp.invariant.4),
    )

-- no record is left
finish : (os : List Object) (ps : List Placement) (n k : ℕ) (entry out : List ℕ) (at : ℕ) → n < k
    → bytes_written_over entry 0 (records_left os ps n 1) ≡ bytes_written_over out at (records_left os ps n k)
    → 0 + length (records_left os ps n 1) ≡ at + length (records_left os ps n k)
    → WritesBytesAt at out entry 0 (concatenated_first_records os ps n)
finish os ps n k entry out at h f g =
    let e = records_done os ps n k h in
    let z = ap length e in
    let b = records_all os ps n in
    let y = ap length b in
    record {
      next = omega (arith, g);
      wrote = sym (ap (bytes_written_over entry 0) (sym b) ∙ f ∙ ap (bytes_written_over out at) e ∙ over_nothing out at);
    }

pub returns : goal.returns
returns c =
    let lp = c.loop-k in
    let a = c.args in
    finish (parsed_objects_or_empty a.objects.bytes.now) (placements_in a.placements.now) a.records lp.k _ _ _ c.loop-k-test.false
    lp.invariant.0 lp.invariant.1

pub returns-2 : goal.returns-2
returns-2 c =
    let lp = c.loop-k in
    let a = c.args in
    let os = parsed_objects_or_empty a.objects.bytes.now in
    let ps = placements_in a.placements.now in
    let h = c.loop-k-test.true in
    let f = c.requires.record_contents_within253bytes lp.k h in
    let room : lp.at + 256 ≤ length lp.out =
    omega (arith, lp.invariant.2, lp.invariant.3, lp.invariant.4, lp.invariant.5, c.requires.records_bound.1) in
    finish os ps a.records (lp.k + 1) _ _ _ (omega arith)
    (lp.invariant.0 ∙ transition_over os ps a.records lp.k h f lp.out lp.at room c.put_record-at.ensures)
    (lp.invariant.1 ∙ transition_next os ps a.records lp.k h f lp.out lp.at room c.put_record-at.ensures)
