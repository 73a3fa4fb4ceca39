-- `session::answer_on_parts` meets its contract: the refusals by their laws; past them the record is in its ranges
-- and the phase decides.
-- Assumes nothing.
use mathlib.Core.Path.{◌≡◌, sym, ap, ◌∙◌}
use mathlib.Core.Bool.{true}
use mathlib.Core.List.{List}
use Prim.Native.Nat.{ℕ, ◌≤◌}
use native.Mathlib.Omega.{arith}
use lib.ListN.{length}
use borrow.Author.Tests.{ne_eqb}
use Rattle.basics.proofs.Laws.{both_no_left}
use Rattle.session_record.specs.declared.Reply.{Reply}
use Rattle.session_record.specs.declared.Phase.{Phase}
use Rattle.session_record.specs.declared.Session.{Session}
use Rattle.session_record.specs.Session.{session_of, store_bytes}
use Rattle.session_record.specs.Ranges.{session_record_in_ranges}
use Rattle.session_record.proofs.Phases.{count_most}
use Rattle.session.specs.Steps.{ReturnsStep, step_of_effect, effect_if_running, least_buffer, follow}
use Rattle.session.specs.Answer.{next_on_response, answer_step}
use Rattle.session.proofs.Laws.{did_as, did_without_command, did_step, admitted_short, admitted_ranges, admitted_on}
use Rattle.session.proofs.Fits.{stays_whole, effect_on_whole, response_fits}
use Rattle.session.proofs.answer_on_parts.Goals as goal

-- past the refusals a running session takes the answer
answers : (s : Session) (card buf : List ℕ) {p : Phase} → least_buffer ≤ length buf → session_record_in_ranges s ≡ true
    → s.phase ≡ p → answer_step s card buf ≡ step_of_effect s buf
    (effect_if_running p (next_on_response (store_bytes s) card))
answers s card buf = admitted_on s buf (λ (q : Phase). effect_if_running q (next_on_response (store_bytes s) card))

-- the array d is the store b
same_store : {b d out : List ℕ} {r : Reply} (p : Phase) (n : ℕ) (card buf : List ℕ) → d ≡ b
    → ReturnsStep r out (answer_step (session_of p n d) card buf) → ReturnsStep r out (answer_step (session_of p n b) card buf)
same_store p n card buf e =
    did_as (ap (λ (x : List ℕ). answer_step (session_of p n x) card buf) (sym e))

pub returns-in_default : goal.returns-in_default
returns-in_default c = did_without_command _ c.refuse_call.ensures (admitted_short _ _ _ c.in_default.ensures.cases)

pub returns-in_default-as_mut_array : goal.returns-in_default-as_mut_array
unfolding session_record_in_ranges
returns-in_default-as_mut_array c =
    let g = c.in-Some.ensures.cases in
    stays_whole c.args.command.now g
    (did_without_command _ c.refuse_call-in_default-as_mut_array.ensures
    (admitted_ranges _ _ _ g.enough (both_no_left _ _ (ne_eqb _ _ c.in_default-as_mut_array.ensures.cases))))

pub returns-then-not-session_parts_in_ranges : goal.returns-then-not-session_parts_in_ranges
returns-then-not-session_parts_in_ranges c =
    let g = c.in-Some.ensures.cases in
    stays_whole c.args.command.now g
    (same_store c.args.phase c.args.count c.args.card.now c.args.command.now c.in-Some-as_mut_array.ensures.cases.same
    (did_without_command _ c.refuse_call-then-not-session_parts_in_ranges.ensures
    (admitted_ranges _ _ _ g.enough (sym c.session_parts_in_ranges.ensures ∙ c.if-not-session_parts_in_ranges.true))))

pub transition_of-requires : goal.transition_of-requires
transition_of-requires c =
    let ranged : session_record_in_ranges (session_of c.args.phase c.args.count c.in-Some-as_mut_array.store.now) ≡ true =
    sym c.session_parts_in_ranges.ensures ∙ c.if-not-session_parts_in_ranges.false in
    omega (arith, count_most _ ranged)

pub returns-in-Fresh : goal.returns-in-Fresh
returns-in-Fresh c =
    let a = c.args in
    let g = c.in-Some.ensures.cases in
    stays_whole a.command.now g
    (same_store a.phase a.count a.card.now a.command.now c.in-Some-as_mut_array.ensures.cases.same
    (did_without_command _ c.refuse_call-in-Fresh.ensures
    (answers (session_of a.phase a.count c.in-Some-as_mut_array.store.now) a.card.now a.command.now g.enough
    (sym c.session_parts_in_ranges.ensures ∙ c.if-not-session_parts_in_ranges.false) c.in-Fresh.is)))

pub returns-in-Waiting : goal.returns-in-Waiting
returns-in-Waiting c =
    let a = c.args in
    let g = c.in-Some.ensures.cases in
    same_store a.phase a.count a.card.now a.command.now c.in-Some-as_mut_array.ensures.cases.same
    (did_as
    (answers (session_of a.phase a.count c.in-Some-as_mut_array.store.now) a.card.now a.command.now g.enough
    (sym c.session_parts_in_ranges.ensures ∙ c.if-not-session_parts_in_ranges.false) c.in-Waiting.is)
    (effect_on_whole a.command.now g (session_of a.phase a.count c.in-Some-as_mut_array.store.now) (follow (next_on_response c.in-Some-as_mut_array.store.now a.card.now c.in-Waiting.awaited)) (response_fits _ _ _)
    (did_step a.count (next_on_response c.in-Some-as_mut_array.store.now a.card.now c.in-Waiting.awaited) c.transition_of.ensures c.take_response.ensures)))

pub returns-in-Ended : goal.returns-in-Ended
returns-in-Ended c =
    let a = c.args in
    let g = c.in-Some.ensures.cases in
    stays_whole a.command.now g
    (same_store a.phase a.count a.card.now a.command.now c.in-Some-as_mut_array.ensures.cases.same
    (did_without_command _ c.refuse_call-in-Ended.ensures
    (answers (session_of a.phase a.count c.in-Some-as_mut_array.store.now) a.card.now a.command.now g.enough
    (sym c.session_parts_in_ranges.ensures ∙ c.if-not-session_parts_in_ranges.false) c.in-Ended.is)))
