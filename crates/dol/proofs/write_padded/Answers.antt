-- `write_padded`: the value and what it gains, one after another: the run first if n, else the value first.
-- Assumes nothing.
use mathlib.Core.Path.{◌≡◌, sym, ap₂, ◌∙◌}
use mathlib.Core.List.{◌++◌}
use Prim.Native.Nat.{◌-◌}
use native.Mathlib.Omega.{arith}
use lib.ListN.{length, replicate}
use Rattle.dol.specs.Filling.{zero_bytes, padding_byte}
use Rattle.dol.proofs.Fitting.{padded_n, padded_other}
use Rattle.dol.proofs.write_padded.Goals as goal

pub returns-then-form-ne-FORM_N : goal.returns-then-form-ne-FORM_N
returns-then-form-ne-FORM_N c =
    let a = c.args in
    let n : length c.split_at_mut-front.result.1.now ≡ length a.room.now - length a.v.now = omega (arith, c.split_at_mut-front.ensures.back_len) in
    let e : c.fill.new.self ≡ replicate (length a.room.now - length a.v.now) (padding_byte a.form) =
    c.fill.ensures.after (λ y e. e) ∙ rw (n, c.padding_byte.ensures) in
    ap₂ ◌++◌ c.copy_from_slice.ensures.after e ∙ sym (padded_other a.form _ a.v.now c.if-form-ne-FORM_N.true)

pub returns-else-form-ne-FORM_N : goal.returns-else-form-ne-FORM_N
returns-else-form-ne-FORM_N c =
    let a = c.args in
    let n : length c.split_at_mut-front-else-form-ne-FORM_N.result.0.now ≡ length a.room.now - length a.v.now = omega (arith, c.split_at_mut-front-else-form-ne-FORM_N.ensures.front_len) in
    let e : c.fill-else-form-ne-FORM_N.new.self ≡ zero_bytes (length a.room.now - length a.v.now) =
    c.fill-else-form-ne-FORM_N.ensures.after (λ y e. e) ∙ rw n in
    ap₂ ◌++◌ e c.copy_from_slice-else-form-ne-FORM_N.ensures.after ∙ sym (padded_n a.form _ a.v.now c.if-form-ne-FORM_N.false)
