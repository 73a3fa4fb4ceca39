-- `cabinet::perform` meets its contract: a call that is not taken by its law; else the step, with the store borrowed in
-- its place.
-- Assumes nothing.
use borrow.Author.Rules.{rules}
use native.Mathlib.Omega.{arith}
use borrow.Rule.Slice.PartMut.{same_len_mid}
use Rattle.dictionary.specs.Rows.{store_size}
use Rattle.layout.specs.Layout.{record_head_size}
use Rattle.cabinet.specs.Calls.{kernel_step_on_cabinet}
use Rattle.cabinet.proofs.Laws.{over_refused, over_taken, over-step}
use Rattle.cabinet.proofs.perform.Goals as goal

pub slice_bounds-step-end : goal.slice_bounds-step-end
slice_bounds-step-end g c = omega (arith, (over_taken _ _ _ c.admit.ensures c.in-Ok.is).told.enough)

pub finish-requires : goal.finish-requires
finish-requires g c =
    let k = (over_taken _ _ _ c.admit.ensures c.in-Ok.is).told in
    record {
      cabinet_state_size_in_bounds = omega (
        arith,
        k.enough,
        same_len_mid record_head_size store_size c.args.state.now c.step-transition.new.arg4 (search rules),
      );
      reserved_bound = k.fits;
    }

pub returns-in-Err : goal.returns-in-Err
returns-in-Err g c s u t =
    let a = c.args in
    over_refused _ _ (kernel_step_on_cabinet s a.state.now a.command.now) _ c.admit.ensures c.in-Err.is

pub returns : goal.returns
returns g c s u t =
    over-step s u _ _ _ (over_taken _ _ _ c.admit.ensures c.in-Ok.is) _ _ _ c.step-transition.new.arg4
    c.step-transition.result (t _ _ _ _ _ _ _ c.step-transition.ensures) (search rules) c.finish.ensures
