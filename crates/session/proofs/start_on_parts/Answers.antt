-- `session::start_on_parts` meets its contract: the refusals by their laws; past them the record is in its ranges
-- and the phase decides.
-- Assumes nothing.
use mathlib.Core.Path.{◌≡◌, sym, ap, ◌∙◌}
use mathlib.Core.Bool.{true}
use mathlib.Core.List.{List}
use Prim.Native.Nat.{ℕ, ◌≤◌}
use native.Mathlib.Omega.{arith}
use lib.ListN.{length}
use borrow.Author.Tests.{ne_eqb}
use Rattle.basics.proofs.Laws.{both_no_left}
use Rattle.session_record.specs.declared.Reply.{Reply}
use Rattle.session_record.specs.declared.Phase.{Phase}
use Rattle.session_record.specs.Session.{session_of}
use Rattle.session_record.specs.Ranges.{session_record_in_ranges}
use Rattle.session_record.proofs.Phases.{count_most, on_fresh_lem}
use Rattle.session.specs.Steps.{ReturnsStep, step_of_effect, least_buffer}
use Rattle.start_data.specs.StartData.{load_start_bytes}
use Rattle.session.specs.Start.{start_effect, start_effect_after_loading, start_step}
use Rattle.session.proofs.Laws.{did_as, did_without_command, admitted_short, admitted_ranges, admitted_in}
use Rattle.session.proofs.Laws.{not_fresh}
use Rattle.session.proofs.Fits.{stays_whole, effect_on_whole, start_fits}
use Rattle.session.proofs.start_on_parts.Goals as goal

-- past the refusals a fresh session, one of phase q, is started
starts : (p : Phase) {q : Phase} (n : ℕ) (b bytes buf : List ℕ) → least_buffer ≤ length buf
    → session_record_in_ranges (session_of p n b) ≡ true → p ≡ q → start_step (session_of p n b) bytes buf
    ≡ step_of_effect (session_of q n b) buf (start_effect q b bytes)
starts p n b bytes buf h e f =
    admitted_in (session_of p n b) buf (start_effect p b bytes) h e
    ∙ ap (λ (x : Phase). step_of_effect (session_of x n b) buf (start_effect x b bytes)) f

-- the array d is the store b
same_store : {b d out : List ℕ} {r : Reply} (p : Phase) (n : ℕ) (bytes buf : List ℕ) → d ≡ b
    → ReturnsStep r out (start_step (session_of p n d) bytes buf) → ReturnsStep r out (start_step (session_of p n b) bytes buf)
same_store p n bytes buf e =
    did_as (ap (λ (x : List ℕ). start_step (session_of p n x) bytes buf) (sym e))

pub returns-in_default : goal.returns-in_default
returns-in_default c = did_without_command _ c.refuse_call.ensures (admitted_short _ _ _ c.in_default.ensures.cases)

pub returns-in_default-as_mut_array : goal.returns-in_default-as_mut_array
unfolding session_record_in_ranges
returns-in_default-as_mut_array c =
    let g = c.in-Some.ensures.cases in
    stays_whole c.args.command.now g
    (did_without_command _ c.refuse_call-in_default-as_mut_array.ensures
    (admitted_ranges _ _ _ g.enough (both_no_left _ _ (ne_eqb _ _ c.in_default-as_mut_array.ensures.cases))))

pub returns-then-not-session_parts_in_ranges : goal.returns-then-not-session_parts_in_ranges
returns-then-not-session_parts_in_ranges c =
    let g = c.in-Some.ensures.cases in
    stays_whole c.args.command.now g
    (same_store c.args.phase c.args.count c.args.terminal.now c.args.command.now c.in-Some-as_mut_array.ensures.cases.same
    (did_without_command _ c.refuse_call-then-not-session_parts_in_ranges.ensures
    (admitted_ranges _ _ _ g.enough (sym c.session_parts_in_ranges.ensures ∙ c.if-not-session_parts_in_ranges.true))))

pub returns-in_default-phase : goal.returns-in_default-phase
returns-in_default-phase c =
    let a = c.args in
    let g = c.in-Some.ensures.cases in
    stays_whole a.command.now g
    (same_store a.phase a.count a.terminal.now a.command.now c.in-Some-as_mut_array.ensures.cases.same
    (did_without_command _ c.refuse_call-in_default-phase.ensures
    (admitted_in _ _ _ g.enough
    (sym c.session_parts_in_ranges.ensures ∙ c.if-not-session_parts_in_ranges.false)
    ∙ ap (step_of_effect (session_of a.phase a.count c.in-Some-as_mut_array.store.now) a.command.now)
    (not_fresh a.phase _ _ c.in_default-phase.not-Fresh))))

pub load_objects-requires : goal.load_objects-requires
load_objects-requires c =
    let ranged : session_record_in_ranges (session_of c.args.phase c.args.count c.in-Some-as_mut_array.store.now) ≡ true =
    sym c.session_parts_in_ranges.ensures ∙ c.if-not-session_parts_in_ranges.false in
    record {
      count_in_bounds = omega (arith, count_most _ ranged);
      store_value = (on_fresh_lem _ ranged c.in-Fresh.is).store;
    }

pub returns : goal.returns
returns c =
    let a = c.args in
    let g = c.in-Some.ensures.cases in
    same_store a.phase a.count a.terminal.now a.command.now c.in-Some-as_mut_array.ensures.cases.same
    (did_as
    (starts a.phase a.count c.in-Some-as_mut_array.store.now a.terminal.now a.command.now g.enough
    (sym c.session_parts_in_ranges.ensures ∙ c.if-not-session_parts_in_ranges.false) c.in-Fresh.is)
    (effect_on_whole a.command.now g (session_of Phase.Fresh a.count c.in-Some-as_mut_array.store.now)
    (start_effect_after_loading (load_start_bytes c.in-Some-as_mut_array.store.now a.terminal.now)) (start_fits _)
    c.load_objects.ensures))
