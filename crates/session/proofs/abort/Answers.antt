-- `session::abort` meets its contract: the two refusals by their laws; past them the phase decides.
-- Assumes nothing.
use mathlib.Core.Path.{◌≡◌, sym, ap, ◌∙◌}
use mathlib.Core.Bool.{true}
use mathlib.Core.List.{List}
use Prim.Native.Nat.{ℕ, ◌≤◌}
use lib.ListN.{length}
use Rattle.session_record.specs.declared.AwaitedResponse.{AwaitedResponse}
use Rattle.session_record.specs.declared.Phase.{Phase}
use Rattle.session_record.specs.declared.Session.{Session}
use Rattle.session_record.specs.Ranges.{session_record_in_ranges}
use Rattle.session_record.specs.Session.{session_of, store_bytes, ending_for_reason, failing_transition}
use Rattle.session.specs.Steps.{end, held_cvm, step_of_effect, effect_if_running, least_buffer, abort_step}
use Rattle.session.proofs.Laws.{did_without_command, admitted_short, admitted_ranges, admitted_on}
use Rattle.session.proofs.abort.Goals as goal

-- past the refusals a running session ends
aborts : (s : Session) (n : ℕ) (buf : List ℕ) {p : Phase} → least_buffer ≤ length buf → session_record_in_ranges s ≡ true
    → s.phase ≡ p → abort_step s n buf ≡ step_of_effect s buf
    (effect_if_running p (λ (w : AwaitedResponse). end (ending_for_reason n) (held_cvm w) (store_bytes s)))
aborts s n buf = admitted_on s buf
    (λ (q : Phase). effect_if_running q (λ (w : AwaitedResponse). end (ending_for_reason n) (held_cvm w) (store_bytes s)))

pub returns-then-command-lt-LEAST_BUFFER : goal.returns-then-command-lt-LEAST_BUFFER
returns-then-command-lt-LEAST_BUFFER c =
    did_without_command _ c.refuse_call.ensures (admitted_short _ _ _ c.if-command-lt-LEAST_BUFFER.true)

pub returns-then-not-session_parts_in_ranges : goal.returns-then-not-session_parts_in_ranges
returns-then-not-session_parts_in_ranges c =
    did_without_command _ c.refuse_call-then-not-session_parts_in_ranges.ensures
    (admitted_ranges _ _ _ c.if-command-lt-LEAST_BUFFER.false
    (sym c.session_parts_in_ranges.ensures ∙ c.if-not-session_parts_in_ranges.true))

pub returns-in-Fresh : goal.returns-in-Fresh
returns-in-Fresh c =
    let a = c.args in
    did_without_command _ c.refuse_call-in-Fresh.ensures
    (aborts (session_of a.phase a.count a.bytes.now) a.reason a.command.now c.if-command-lt-LEAST_BUFFER.false
    (sym c.session_parts_in_ranges.ensures ∙ c.if-not-session_parts_in_ranges.false) c.in-Fresh.is)

pub returns-in-Waiting : goal.returns-in-Waiting
returns-in-Waiting c =
    let a = c.args in
    did_without_command _
    (c.fail_session.ensures ∙ ap (λ (m : ℕ). failing_transition m a.count a.reason) c.held_cvm.ensures)
    (aborts (session_of a.phase a.count a.bytes.now) a.reason a.command.now c.if-command-lt-LEAST_BUFFER.false
    (sym c.session_parts_in_ranges.ensures ∙ c.if-not-session_parts_in_ranges.false) c.in-Waiting.is)

pub returns-in-Ended : goal.returns-in-Ended
returns-in-Ended c =
    let a = c.args in
    did_without_command _ c.refuse_call-in-Ended.ensures
    (aborts (session_of a.phase a.count a.bytes.now) a.reason a.command.now c.if-command-lt-LEAST_BUFFER.false
    (sym c.session_parts_in_ranges.ensures ∙ c.if-not-session_parts_in_ranges.false) c.in-Ended.is)
