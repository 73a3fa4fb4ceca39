-- `afl::check_afl` meets its contract. The loop's invariant: what a check reports of the whole is what it says of the
-- rest, with the records counted so far, which are at most 128.
-- Assumes nothing.
use mathlib.Core.Path.{refl, sym, ◌∙◌}
use native.Mathlib.Omega.{arith}
use Rattle.afl.proofs.Walk.{check_start, check_part, check_broken, check_next, check_many, check_none, check_all}
use Rattle.afl.proofs.Laws.{checked_says}
use Rattle.afl.proofs.check_afl.Goals as goal

pub returns-then-afl-ne0 : goal.returns-then-afl-ne0
returns-then-afl-ne0 c = let r = checked_says _ _ (check_part _ c.if-afl-ne0.true) in record { said = r.0; reason = r.1 }

pub loop-bytes-init : goal.loop-bytes-init
loop-bytes-init c =
    rw (c.into_iter-bytes-iterator.ensures.into_iter_gives, c.chunks_exact-bytes-items.ensures.rest, c.chunks_exact-bytes-items.ensures.size)
    (omega arith, tt, refl, check_start _ c.if-afl-ne0.false, omega arith)

pub returns-then-not-is_valid : goal.returns-then-not-is_valid
returns-then-not-is_valid c =
    let lp = c.loop-bytes in
    let t = c.in-Some.ensures.steps in
    let r = checked_says _ _ (lp.invariant.3 ∙ check_broken _ _ _ t.1.0 (t.1.1 ∙ lp.invariant.2) _ c.at_front-e.ensures
    lp.records (sym c.is_valid.ensures ∙ c.if-not-is_valid.true)) in
    record { said = r.0; reason = r.1 }

pub returns-then-records-gt128 : goal.returns-then-records-gt128
returns-then-records-gt128 c =
    let lp = c.loop-bytes in
    let t = c.in-Some.ensures.steps in
    let r = checked_says _ _ (lp.invariant.3 ∙ check_next _ _ _ t.1.0 (t.1.1 ∙ lp.invariant.2) _ c.at_front-e.ensures
    lp.records (sym c.is_valid.ensures ∙ c.if-not-is_valid.false) ∙ check_many _ _ (omega arith)) in
    record { said = r.0; reason = r.1 }

pub loop-bytes-preserved : goal.loop-bytes-preserved
loop-bytes-preserved c =
    let lp = c.loop-bytes in
    let t = c.in-Some.ensures.steps in
    let e = lp.invariant.3 ∙ check_next _ _ _ t.1.0 (t.1.1 ∙ lp.invariant.2) _ c.at_front-e.ensures lp.records
    (sym c.is_valid.ensures ∙ c.if-not-is_valid.false) in
    (omega arith, tt, t.0 ∙ lp.invariant.2, rw c.record_count-records.ensures.0 e, omega arith)

pub returns-then-records-eq0 : goal.returns-then-records-eq0
returns-then-records-eq0 c =
    let lp = c.loop-bytes in
    let t = c.in-None.ensures.steps in
    let r = checked_says _ _ (lp.invariant.3 ∙ check_none _ _ (omega arith) c.if-records-eq0.true) in
    record { said = r.0; reason = r.1 }

pub returns : goal.returns
returns c =
    let lp = c.loop-bytes in
    let t = c.in-None.ensures.steps in
    let r = checked_says _ _ (lp.invariant.3 ∙ check_all _ _ (omega arith) (omega arith) (omega arith)) in
    record { said = r.0; reason = r.1 }
