-- `writing::put_content` meets its contract: each object of the record is written after those before it.
-- Assumes nothing.
use mathlib.Core.Path.{◌≡◌, refl, sym, ap, subst, ◌∙◌}
use mathlib.Core.List.{List, [], ◌∷◌, ◌++◌}
use mathlib.Core.Logic.{inl}
use Prim.Native.Nat.{ℕ, ◌+◌, ◌≤◌}
use native.Mathlib.Omega.{arith}
use lib.ListN.{length, drop}
use Rattle.basics.specs.Choice.{every}
use Rattle.basics.proofs.Laws.{both_left, both_right}
use Rattle.std.proofs.lemmas.List.{length_push}
use Rattle.tlv.specs.Primitives.{Object, leading_primitive_objects, object_read}
use Rattle.personalise.specs.Objects.{tag_and_value_allowed_in_record}
use Rattle.personalise.specs.Placements.{placements_in}
use Rattle.personalise.specs.Inner.{bytes_written_over, WritesBytesAt, object_bytes_if_placed_in_record}
use Rattle.personalise.proofs.Over.{over_nothing}
use Rattle.personalise.proofs.Filled.{content, first_small, first_room, left_over, left_next, left_length}
use Rattle.personalise.proofs.Listed.{listed_or_empty, content_none}
use Rattle.personalise.proofs.Walked.{walk_short, object_on, objects_end}
use Rattle.personalise.proofs.writing.put_content.Goals as goal

pub loop-i-init : goal.loop-i-init
loop-i-init c =
    let r = c.args.objects.allowed in
    (refl, refl, refl, ap (every tag_and_value_allowed_in_record) (sym (listed_or_empty c.args.objects.bytes.now r.0)) ∙ r.1)

pub loop-i-init-derived : goal.loop-i-init-derived
loop-i-init-derived c =
    let m = walk_short c.into_iter-i-iterator.ensures.into_iter_gives c.enumerate-i-items.ensures.source
    c.enumerate-i-items.ensures.count in
    ((tt, tt, inl (omega arith)), tt)

pub put_placed-to-requires : goal.put_placed-to-requires
unfolding every
put_placed-to-requires c =
    let t = object_on c.into_iter-i-iterator.ensures.into_iter_gives c.enumerate-i-items.ensures.source
    c.enumerate-i-items.ensures.count c.loop-i.yielded _ c.loop-i.yielded_by c.next.new.self c.in-Some.is c.next.ensures.steps in
    let o = object_read c.in-Some.object in
    let ps = placements_in c.args.placements.now in
    let k = c.args.k in
    let os = leading_primitive_objects c.args.objects.bytes.now in
    let n = length c.loop-i.yielded in
    let left = drop (n + 1) os in
    let v = c.loop-i.invariant in
    let a = ap (every tag_and_value_allowed_in_record) (sym t.1) ∙ v.3 in
    let s = ap (λ (x : List Object). length (content ps k 1 x)) (listed_or_empty c.args.objects.bytes.now c.args.objects.allowed.0) in
    let l = ap (λ (x : List Object). length (content ps k (n + 1) x)) t.1 in
    let room : c.loop-i.to + length (content ps k (n + 1) (o ∷ left)) ≤ length c.loop-i.out =
    omega (arith, s, l, v.1, v.2, c.requires.k_in_bounds) in
    let z = ap (λ (m : ℕ). length (object_bytes_if_placed_in_record ps k (m + 1) o.tag o.value)) t.0 in
    record {
      tag_bound = first_small o left ps k (n + 1) (both_left _ _ a);
      v_in_bounds = omega (arith, z, first_room o left ps k (n + 1) c.loop-i.out c.loop-i.to room);
    }

pub loop-i-preserved : goal.loop-i-preserved
unfolding every
loop-i-preserved c =
    let t = object_on c.into_iter-i-iterator.ensures.into_iter_gives c.enumerate-i-items.ensures.source
    c.enumerate-i-items.ensures.count c.loop-i.yielded _ c.loop-i.yielded_by c.next.new.self c.in-Some.is c.next.ensures.steps in
    let o = object_read c.in-Some.object in
    let ps = placements_in c.args.placements.now in
    let k = c.args.k in
    let os = leading_primitive_objects c.args.objects.bytes.now in
    let n = length c.loop-i.yielded in
    let left = drop (n + 1) os in
    let v = c.loop-i.invariant in
    let a = ap (every tag_and_value_allowed_in_record) (sym t.1) ∙ v.3 in
    let s = ap (λ (x : List Object). length (content ps k 1 x)) (listed_or_empty c.args.objects.bytes.now c.args.objects.allowed.0) in
    let l = ap (λ (x : List Object). length (content ps k (n + 1) x)) t.1 in
    let room : c.loop-i.to + length (content ps k (n + 1) (o ∷ left)) ≤ length c.loop-i.out =
    omega (arith, s, l, v.1, v.2, c.requires.k_in_bounds) in
    let m : n + 1 ≡ length (c.loop-i.yielded ++ ((c.in-Some.i, c.in-Some.object) ∷ [])) =
    sym (length_push c.loop-i.yielded (c.in-Some.i, c.in-Some.object)) in
    let q = subst (λ (x : ℕ). WritesBytesAt c.put_placed-to.result c.put_placed-to.new.out c.loop-i.out c.loop-i.to
    (object_bytes_if_placed_in_record ps k (x + 1) o.tag o.value)) t.0 c.put_placed-to.ensures in
    let e = ap (λ (x : ℕ). length (content ps k (x + 1) (drop x os))) m in (
      v.0 ∙ ap (λ (x : List Object). bytes_written_over c.loop-i.out c.loop-i.to (content ps k (n + 1) x)) t.1
          ∙ left_over o left ps k (n + 1) c.loop-i.out c.loop-i.to room q
          ∙ ap (λ (x : ℕ). bytes_written_over c.put_placed-to.new.out c.put_placed-to.result (content ps k (x + 1) (drop x os))) m,
      omega (arith, v.1, l, e, left_next o left ps k (n + 1) c.loop-i.out c.loop-i.to room q),
      left_length o left ps k (n + 1) c.loop-i.out c.loop-i.to room q ∙ v.2,
      ap (λ (x : ℕ). every tag_and_value_allowed_in_record (drop x os)) (sym m) ∙ both_right _ _ a,
    )

pub returns : goal.returns
returns c =
    let t = objects_end c.into_iter-i-iterator.ensures.into_iter_gives c.enumerate-i-items.ensures.source
    c.enumerate-i-items.ensures.count c.loop-i.yielded _ c.loop-i.yielded_by c.next.new.self c.in-None.is c.next.ensures.steps in
    let ps = placements_in c.args.placements.now in
    let k = c.args.k in
    let n = length c.loop-i.yielded in
    let v = c.loop-i.invariant in
    let s = ap (content ps k 1) (listed_or_empty c.args.objects.bytes.now c.args.objects.allowed.0) in
    let e = ap (content ps k (n + 1)) t ∙ content_none ps k (n + 1) in
    record {
      next = omega (arith, v.1, ap length e, ap length s);
      wrote = sym (ap (bytes_written_over c.args.out.now c.args.at) s ∙ v.0 ∙ ap (bytes_written_over c.loop-i.out c.loop-i.to) e
          ∙ over_nothing c.loop-i.out c.loop-i.to);
    }
