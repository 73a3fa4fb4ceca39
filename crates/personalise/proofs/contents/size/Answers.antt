-- `contents::size` meets its contract: the size of each object in the record is added.
-- Assumes nothing.
use mathlib.Core.Path.{ap, ◌∙◌}
use mathlib.Core.List.{List}
use mathlib.Core.Logic.{inl}
use Prim.Native.Nat.{ℕ, ◌+◌}
use native.Mathlib.Omega.{arith}
use lib.ListN.{length, drop}
use Rattle.std.proofs.lemmas.List.{length_push}
use Rattle.tlv.specs.Primitives.{Object, leading_primitive_objects, object_read}
use Rattle.personalise.specs.Placements.{placements_in}
use Rattle.personalise.specs.Inner.{encoded_size_if_placed_in_record}
use Rattle.personalise.proofs.Filled.{content}
use Rattle.personalise.proofs.Listed.{listed_or_empty, content_more, content_none}
use Rattle.personalise.proofs.Walked.{walk_short, object_on, objects_end}
use Rattle.personalise.proofs.contents.size.Goals as goal

pub loop-i-init-derived : goal.loop-i-init-derived
loop-i-init-derived c =
    let m = walk_short c.into_iter-i-iterator.ensures.into_iter_gives c.enumerate-i-items.ensures.source
    c.enumerate-i-items.ensures.count in
    ((tt, tt, inl (omega arith)), tt)

pub returns-then-total-gt-MOST : goal.returns-then-total-gt-MOST
returns-then-total-gt-MOST c =
    let t = object_on c.into_iter-i-iterator.ensures.into_iter_gives c.enumerate-i-items.ensures.source
    c.enumerate-i-items.ensures.count c.loop-i.yielded _ c.loop-i.yielded_by c.next.new.self c.in-Some.is c.next.ensures.steps in
    let o = object_read c.in-Some.object in
    let ps = placements_in c.args.placements.now in
    let os = leading_primitive_objects c.args.objects.bytes.now in
    let n = length c.loop-i.yielded in
    let a = ap (λ (v : List Object). length (content ps c.args.k 1 v)) (listed_or_empty c.args.objects.bytes.now c.args.objects.allowed.0) in
    let e = ap (λ (v : List Object). length (content ps c.args.k (n + 1) v)) t.1 ∙ content_more ps c.args.k (n + 1) o (drop (n + 1) os) in
    let q = ap (λ (m : ℕ). encoded_size_if_placed_in_record ps c.args.k (m + 1) o.tag (length o.value)) t.0 in
    omega (arith, a, e, q, c.loop-i.invariant.0, c.placed_size-total.ensures)

pub loop-i-preserved : goal.loop-i-preserved
loop-i-preserved c =
    let t = object_on c.into_iter-i-iterator.ensures.into_iter_gives c.enumerate-i-items.ensures.source
    c.enumerate-i-items.ensures.count c.loop-i.yielded _ c.loop-i.yielded_by c.next.new.self c.in-Some.is c.next.ensures.steps in
    let o = object_read c.in-Some.object in
    let ps = placements_in c.args.placements.now in
    let os = leading_primitive_objects c.args.objects.bytes.now in
    let n = length c.loop-i.yielded in
    let e = ap (λ (v : List Object). length (content ps c.args.k (n + 1) v)) t.1 ∙ content_more ps c.args.k (n + 1) o (drop (n + 1) os) in
    let q = ap (λ (m : ℕ). encoded_size_if_placed_in_record ps c.args.k (m + 1) o.tag (length o.value)) t.0 in
    let m = ap (λ (x : ℕ). length (content ps c.args.k (x + 1) (drop x os))) (length_push c.loop-i.yielded (c.in-Some.i, c.in-Some.object)) in
    (omega (arith, e, q, m, c.loop-i.invariant.0, c.placed_size-total.ensures), omega arith)

pub returns : goal.returns
returns c =
    let t = objects_end c.into_iter-i-iterator.ensures.into_iter_gives c.enumerate-i-items.ensures.source
    c.enumerate-i-items.ensures.count c.loop-i.yielded _ c.loop-i.yielded_by c.next.new.self c.in-None.is c.next.ensures.steps in
    let ps = placements_in c.args.placements.now in
    let n = length c.loop-i.yielded in
    let a = ap (λ (v : List Object). length (content ps c.args.k 1 v)) (listed_or_empty c.args.objects.bytes.now c.args.objects.allowed.0) in
    let e = ap (λ (v : List Object). length (content ps c.args.k (n + 1) v)) t ∙ ap length (content_none ps c.args.k (n + 1)) in
    omega (arith, a, e, c.loop-i.invariant.0)
