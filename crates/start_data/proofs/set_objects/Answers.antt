-- `start_data::set_objects` meets its contract. The invariant: setting what the iterator has left in the working store as
-- it stands is setting the whole. Assumes nothing.
use Rattle.std.proofs.Common.{rules, Err}
use mathlib.Core.Path.{◌≡◌, refl, sym, ap, ◌∙◌}
use Rattle.tlv.specs.Primitives.{leading_primitive_objects}
use Rattle.start_data.specs.StartData.{set_start_objects}
use Rattle.start_data.proofs.Setting.{says_set, says_err, was_ok, was_err, set_run, set_end, set_on, set_stopped}
use Rattle.start_data.proofs.set_objects.Goals as goal

pub loop-object-init : goal.loop-object-init
loop-object-init c =
    set_run c.args.store.now _ c.requires
    ∙ ap (λ it. set_start_objects c.args.store.now (leading_primitive_objects it.0.now)) (sym c.into_iter-object-iterator.ensures.into_iter_gives)

pub loop-object-preserved : goal.loop-object-preserved
loop-object-preserved c =
    c.loop-object.invariant ∙ set_on _ _ _ c.in-Some.ensures.steps _ (was_ok _ c.set_object.ensures c.in_ok-set_object.was)

pub returns-in_err-set_object : goal.returns-in_err-set_object
returns-in_err-set_object c =
    let e : c.from_residual.result ≡ Err c.in_err-set_object.field-0.0 = search rules in
    let w = was_err _ _ c.set_object.ensures c.in_err-set_object.was in
    says_err _ (c.loop-object.invariant ∙ set_stopped _ _ _ c.in-Some.ensures.steps w.0) (e ∙ ap Err w.1)

pub returns : goal.returns
returns c = says_set (c.loop-object.invariant ∙ set_end _ c.in-None.ensures.steps.0) refl
