-- `play_all`: playing the calls left from the two places gives what playing all gives (`Going`). What is left of the
-- slice shrinks.
-- Assumes nothing.
use mathlib.Core.Path.{◌≡◌, refl, ap, subst, ◌∙◌}
use mathlib.Core.Bool.{true}
use mathlib.Core.List.{List}
use Prim.Native.Nat.{ℕ, ◌+◌, ◌-◌, ◌≤◌, ◌<◌}
use native.Mathlib.Omega.{arith}
use lib.ListN.{length, take, drop, length-take, length-drop}
use Rattle.tlv.proofs.Laws.{tail-is}
use Rattle.call_list.specs.Encoding.{begins_with_whole_call}
use Rattle.call_list.specs.Inner.{PlaysOneCall}
use Rattle.call_list.proofs.Read.{whole_end}
use Rattle.call_list.proofs.Whole.{ready_read}
use Rattle.call_list.proofs.Loop.{going_start, going_whole, going_room, going_transition, going_end}
use Rattle.call_list.proofs.play_all.Goals as goal

pub loop-at-init : goal.loop-at-init
loop-at-init c = let k = ready_read _ _ c.requires in
    (going_start _ _ _ _ c.fresh_session-session.ensures k.0 k.1, refl, refl)

pub slice_bounds-one_call-count-in-loop-at : goal.slice_bounds-one_call-count-in-loop-at
slice_bounds-one_call-count-in-loop-at c =
    let room_at : c.loop-at.out + 4 ≤ length c.loop-at.replies =
    going_room _ _ _ _ _ _ _ _ c.loop-at.invariant.0 c.loop-at-test.true in
    let k = room_at in omega arith

pub slice_bounds-one_call-start-in-loop-at : goal.slice_bounds-one_call-start-in-loop-at
slice_bounds-one_call-start-in-loop-at c =
    let room_at : c.loop-at.out + 4 ≤ length c.loop-at.replies =
    going_room _ _ _ _ _ _ _ _ c.loop-at.invariant.0 c.loop-at-test.true in
    let k = room_at in omega arith

pub slice_bounds-one_call-end-in-loop-at : goal.slice_bounds-one_call-end-in-loop-at
slice_bounds-one_call-end-in-loop-at c =
    let room_at : c.loop-at.out + 4 ≤ length c.loop-at.replies =
    going_room _ _ _ _ _ _ _ _ c.loop-at.invariant.0 c.loop-at-test.true in
    let k = room_at in omega arith

pub one_call-transition-requires : goal.one_call-transition-requires
one_call-transition-requires c =
    let whole-at : begins_with_whole_call (drop c.loop-at.at c.loop-at.calls) ≡ true =
    going_whole _ _ _ _ _ _ _ _ c.loop-at.invariant.0 c.loop-at-test.true in
    let room_at : c.loop-at.out + 4 ≤ length c.loop-at.replies =
    going_room _ _ _ _ _ _ _ _ c.loop-at.invariant.0 c.loop-at-test.true in
    let lp = c.loop-at in (
      ap begins_with_whole_call (tail-is lp.calls lp.at) ∙ whole-at,
      omega (
        arith,
        length-take (length lp.replies - lp.out) (drop lp.out lp.replies),
        length-drop lp.out
            lp.replies,
        room_at,
      ),
    )

pub overflow_add-at : goal.overflow_add-at
overflow_add-at c =
    let turned-at : let lp = c.loop-at in PlaysOneCall c.one_call-transition.result c.one_call-transition.new.calls c.one_call-transition.new.replies lp.session (drop lp.at lp.calls) (drop lp.out lp.replies) =
    let lp = c.loop-at in
    let o = c.one_call-transition in
    subst (λ (l : List ℕ). PlaysOneCall o.result o.new.calls o.new.replies lp.session
    (drop lp.at lp.calls) l) (tail-is lp.replies lp.out)
    (subst (λ (l : List ℕ). PlaysOneCall o.result o.new.calls o.new.replies lp.session l
    (take (length lp.replies - lp.out) (drop lp.out lp.replies)))
    (tail-is lp.calls lp.at) o.ensures) in
    let whole-at : begins_with_whole_call (drop c.loop-at.at c.loop-at.calls) ≡ true =
    going_whole _ _ _ _ _ _ _ _ c.loop-at.invariant.0 c.loop-at-test.true in
    let size-at : let lp = c.loop-at in (0 < c.one_call-transition.result.size) × (lp.at + c.one_call-transition.result.size ≤ length lp.calls) =
    let lp = c.loop-at in
    let v = drop lp.at lp.calls in
    let d = (turned-at).size in
    let w = whole_end v (whole-at) in
    (omega arith, omega (arith, length-drop lp.at lp.calls, c.loop-at-test.true)) in
    let i = size-at in omega arith

pub overflow_add-out : goal.overflow_add-out
overflow_add-out c =
    let room_at : c.loop-at.out + 4 ≤ length c.loop-at.replies =
    going_room _ _ _ _ _ _ _ _ c.loop-at.invariant.0 c.loop-at-test.true in
    let k = room_at in omega arith

pub loop-at-smaller : goal.loop-at-smaller
loop-at-smaller c =
    let turned-at : let lp = c.loop-at in PlaysOneCall c.one_call-transition.result c.one_call-transition.new.calls c.one_call-transition.new.replies lp.session (drop lp.at lp.calls) (drop lp.out lp.replies) =
    let lp = c.loop-at in
    let o = c.one_call-transition in
    subst (λ (l : List ℕ). PlaysOneCall o.result o.new.calls o.new.replies lp.session
    (drop lp.at lp.calls) l) (tail-is lp.replies lp.out)
    (subst (λ (l : List ℕ). PlaysOneCall o.result o.new.calls o.new.replies lp.session l
    (take (length lp.replies - lp.out) (drop lp.out lp.replies)))
    (tail-is lp.calls lp.at) o.ensures) in
    let whole-at : begins_with_whole_call (drop c.loop-at.at c.loop-at.calls) ≡ true =
    going_whole _ _ _ _ _ _ _ _ c.loop-at.invariant.0 c.loop-at-test.true in
    let size-at : let lp = c.loop-at in (0 < c.one_call-transition.result.size) × (lp.at + c.one_call-transition.result.size ≤ length lp.calls) =
    let lp = c.loop-at in
    let v = drop lp.at lp.calls in
    let d = (turned-at).size in
    let w = whole_end v (whole-at) in
    (omega arith, omega (arith, length-drop lp.at lp.calls, c.loop-at-test.true)) in
    let i = size-at in omega arith

pub loop-at-preserved : goal.loop-at-preserved
loop-at-preserved c =
    let turned-at : let lp = c.loop-at in PlaysOneCall c.one_call-transition.result c.one_call-transition.new.calls c.one_call-transition.new.replies lp.session (drop lp.at lp.calls) (drop lp.out lp.replies) =
    let lp = c.loop-at in
    let o = c.one_call-transition in
    subst (λ (l : List ℕ). PlaysOneCall o.result o.new.calls o.new.replies lp.session
    (drop lp.at lp.calls) l) (tail-is lp.replies lp.out)
    (subst (λ (l : List ℕ). PlaysOneCall o.result o.new.calls o.new.replies lp.session l
    (take (length lp.replies - lp.out) (drop lp.out lp.replies)))
    (tail-is lp.calls lp.at) o.ensures) in
    let lp = c.loop-at in
    let o = c.one_call-transition in (
      going_transition _ _ _ _ _ _ _ _ lp.invariant.0
          c.loop-at-test.true o.result
          o.new.calls o.new.replies (turned-at)
          (omega arith),
      omega arith,
      omega arith,
    )

pub returns : goal.returns
returns c = going_end _ _ _ _ _ _ _ _ c.loop-at.invariant.0 c.loop-at-test.false
