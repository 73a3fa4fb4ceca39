-- `entries::bad_entry` meets its contract: one law for each way out of the loop over the entries and their numbers.
-- Assumes nothing.
use mathlib.Core.Path.{◌≡◌, sym, ap, ◌∙◌}
use mathlib.Core.List.{[], ◌∷◌, ◌++◌}
use Prim.Native.Nat.{ℕ, ◌+◌, ◌*◌}
use native.Mathlib.Omega.{arith}
use borrow.Author.Tests.{eq-eqb, eqb-true}
use Rattle.std.proofs.lemmas.Bool.{false≢true}
use lib.ListN.{length, take, drop, length-take}
use Rattle.std.specs.Prelude.{Some}
use Rattle.std.proofs.lemmas.List.{length_push}
use Rattle.std.proofs.lemmas.Iterator.Consumers.{YieldsList-from_first, YieldsList-from_enumerate}
use Rattle.std.proofs.lemmas.Iterator.Consumers.{YieldsList-turn, YieldsList-end}
use Rattle.afl.specs.Records.{afl_entries, afl_length_is_multiple_of4}
use Rattle.personalise.specs.Entries.{valid_entry_after_within_count_limits, first_bad_or_truncated_entry_after}
use Rattle.personalise.proofs.Proposed.{bad_start, bad_here, bad_on, bad_cut, bad_none, bad_nothing}
use Rattle.personalise.proofs.Proposed.{entry_numbered, entries_passed, entries_count}
use mathlib.Core.Logic.{inl}
use Rattle.personalise.proofs.entries.bad_entry.Goals as goal
use Rattle.personalise.proofs.entries.bad_entry.Goals.{then-is_empty-via-then-is_empty, then-is_empty-via-else-is_empty+then-entries-ne0}

pub loop-i-init : goal.loop-i-init
loop-i-init c = (bad_start _, omega arith)

pub loop-i-init-derived : goal.loop-i-init-derived
loop-i-init-derived c =
    let g = c.into_iter-i-iterator.ensures.into_iter_gives in
    let n = ap (λ x. length (afl_entries x.iter.0.now)) g ∙ ap (λ x. length (afl_entries x.0.now)) c.enumerate-i-items.ensures.source in
    let z = ap (λ x. x.count) g ∙ c.enumerate-i-items.ensures.count in
    let q = entries_count c.args.entries.now in
    ((tt, tt, inl (omega arith)), tt)

pub slice_bounds-keeps_behind-end : goal.slice_bounds-keeps_behind-end
slice_bounds-keeps_behind-end c =
    let t = entry_numbered c.args.entries.now (length c.loop-i.yielded) c.in-Some.i c.in-Some.e
    (YieldsList-turn (YieldsList-from_enumerate (YieldsList-from_first (λ x. x) (λ s. afl_entries s.0.now)
    {s = c.into_iter-i-iterator.result.iter} (afl_entries c.args.entries.now)
    (ap (λ x. afl_entries x.iter.0.now) c.into_iter-i-iterator.ensures.into_iter_gives
    ∙ ap (λ x. afl_entries x.0.now) c.enumerate-i-items.ensures.source))
    (ap (λ x. x.count) c.into_iter-i-iterator.ensures.into_iter_gives ∙ c.enumerate-i-items.ensures.count)) c.loop-i.yielded _ c.loop-i.yielded_by _ c.next.new.self
    (c.in-Some.i, c.in-Some.e) c.in-Some.is c.next.ensures.steps) in
    simp length-take (omega (arith, t.0, t.1))

pub returns-then-not-keeps_behind : goal.returns-then-not-keeps_behind
returns-then-not-keeps_behind c =
    let t = entry_numbered c.args.entries.now (length c.loop-i.yielded) c.in-Some.i c.in-Some.e
    (YieldsList-turn (YieldsList-from_enumerate (YieldsList-from_first (λ x. x) (λ s. afl_entries s.0.now)
    {s = c.into_iter-i-iterator.result.iter} (afl_entries c.args.entries.now)
    (ap (λ x. afl_entries x.iter.0.now) c.into_iter-i-iterator.ensures.into_iter_gives
    ∙ ap (λ x. afl_entries x.0.now) c.enumerate-i-items.ensures.source))
    (ap (λ x. x.count) c.into_iter-i-iterator.ensures.into_iter_gives ∙ c.enumerate-i-items.ensures.count)) c.loop-i.yielded _ c.loop-i.yielded_by _ c.next.new.self
    (c.in-Some.i, c.in-Some.e) c.in-Some.is c.next.ensures.steps) in
    let v = c.loop-i.invariant in
    sym (v.0 ∙ bad_here _ _ v.1 t.1 _ t.2 (ap (λ (n : ℕ). valid_entry_after_within_count_limits (afl_entries (take (4 * n)
    c.args.entries.now)) c.in-Some.e) (sym t.0) ∙ sym c.keeps_behind.ensures ∙ c.if-not-keeps_behind.true)
    ∙ ap (λ (n : ℕ). Some (n + 1)) (sym t.0))

pub loop-i-preserved : goal.loop-i-preserved
loop-i-preserved c =
    let t = entry_numbered c.args.entries.now (length c.loop-i.yielded) c.in-Some.i c.in-Some.e
    (YieldsList-turn (YieldsList-from_enumerate (YieldsList-from_first (λ x. x) (λ s. afl_entries s.0.now)
    {s = c.into_iter-i-iterator.result.iter} (afl_entries c.args.entries.now)
    (ap (λ x. afl_entries x.iter.0.now) c.into_iter-i-iterator.ensures.into_iter_gives
    ∙ ap (λ x. afl_entries x.0.now) c.enumerate-i-items.ensures.source))
    (ap (λ x. x.count) c.into_iter-i-iterator.ensures.into_iter_gives ∙ c.enumerate-i-items.ensures.count)) c.loop-i.yielded _ c.loop-i.yielded_by _ c.next.new.self
    (c.in-Some.i, c.in-Some.e) c.in-Some.is c.next.ensures.steps) in
    let v = c.loop-i.invariant in
    let m = length_push c.loop-i.yielded (c.in-Some.i, c.in-Some.e) in
    let e : 4 * length c.loop-i.yielded + 4 ≡ 4 * length (c.loop-i.yielded ++ ((c.in-Some.i, c.in-Some.e) ∷ [])) = omega arith in (
      v.0 ∙ bad_on _ _ v.1 t.1 _ t.2 (ap (λ (n : ℕ). valid_entry_after_within_count_limits (afl_entries (take (4 * n)
          c.args.entries.now)) c.in-Some.e) (sym t.0) ∙ sym c.keeps_behind.ensures ∙ c.if-not-keeps_behind.false)
          ∙ ap (λ (n : ℕ). first_bad_or_truncated_entry_after (afl_entries (take n c.args.entries.now))
          (afl_entries (drop n c.args.entries.now)) (afl_length_is_multiple_of4 c.args.entries.now)) e,
      omega (arith, t.1),
    )

pub returns-then-is_empty : goal.returns-then-is_empty
returns-then-is_empty c =
    let h = entries_passed c.args.entries.now (length c.loop-i.yielded)
    (YieldsList-end (YieldsList-from_enumerate (YieldsList-from_first (λ x. x) (λ s. afl_entries s.0.now)
    {s = c.into_iter-i-iterator.result.iter} (afl_entries c.args.entries.now)
    (ap (λ x. afl_entries x.iter.0.now) c.into_iter-i-iterator.ensures.into_iter_gives
    ∙ ap (λ x. afl_entries x.0.now) c.enumerate-i-items.ensures.source))
    (ap (λ x. x.count) c.into_iter-i-iterator.ensures.into_iter_gives ∙ c.enumerate-i-items.ensures.count)) c.loop-i.yielded _ c.loop-i.yielded_by _ c.next.new.self c.in-None.is c.next.ensures.steps).1 in
    let v = c.loop-i.invariant in
    elim c.then-is_empty.branch [
      | then-is_empty-via-then-is_empty w ↦ sym (v.0 ∙ bad_none _ _ v.1 h (eqb-true _ _ (sym c.is_empty.ensures ∙ w.if-is_empty.true)))
      | then-is_empty-via-else-is_empty+then-entries-ne0 w ↦ sym (v.0 ∙ bad_cut _ _ v.1 h w.if-entries-ne0.true)
    ]

pub returns : goal.returns
returns c =
    let h = entries_passed c.args.entries.now (length c.loop-i.yielded)
    (YieldsList-end (YieldsList-from_enumerate (YieldsList-from_first (λ x. x) (λ s. afl_entries s.0.now)
    {s = c.into_iter-i-iterator.result.iter} (afl_entries c.args.entries.now)
    (ap (λ x. afl_entries x.iter.0.now) c.into_iter-i-iterator.ensures.into_iter_gives
    ∙ ap (λ x. afl_entries x.0.now) c.enumerate-i-items.ensures.source))
    (ap (λ x. x.count) c.into_iter-i-iterator.ensures.into_iter_gives ∙ c.enumerate-i-items.ensures.count)) c.loop-i.yielded _ c.loop-i.yielded_by _ c.next.new.self c.in-None.is c.next.ensures.steps).1 in
    let v = c.loop-i.invariant in
    sym (v.0 ∙ bad_nothing _ _ v.1 h c.if-entries-ne0.false
    (λ z. false≢true (sym c.if-is_empty.false ∙ c.is_empty.ensures ∙ eq-eqb _ _ z)))
