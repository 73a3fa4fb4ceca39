-- `with_dol`: a list that measures has a filling of that length, which goes in from place 5 on and is then closed.
-- Assumes nothing.
use mathlib.Core.Path.{◌≡◌, refl, sym, ap, ◌∙◌}
use Prim.Native.Nat.{◌+◌, ◌<◌}
use native.Mathlib.Omega.{arith}
use lib.ListN.{length}
use Rattle.dictionary.specs.Rows.{dictionary_rows}
use Rattle.command.specs.WithList.{proprietary_command, command_if_data_is1_to255_bytes, command_with_dol}
use Rattle.dol.proofs.Buffer.{over_some}
use Rattle.command.proofs.Parts.{measured, unfit, dol_broken, dol_empty, dol_long, dol_some, command_length}
use Rattle.command.proofs.Parts.{command_front, none_written, some_written}
use Rattle.command.proofs.with_dol.Goals as goal

pub returns-in_err-n : goal.returns-in_err-n
returns-in_err-n c =
    let a = c.args in
    let f = proprietary_command a.ins a.p1 a.p2 in
    let r = none_written (command_with_dol f a.list.now a.store.now) a.buffer.now c.from_residual.ensures
    (unfit dictionary_rows a.store.now _ (command_if_data_is1_to255_bytes f) (dol_broken f) (dol_long f) (sym c.measure.ensures ∙ c.in_err-n.was)) in
    record { said = r.0; kept = r.1.0; reason = r.1.1 }

pub returns-then-n-eq0 : goal.returns-then-n-eq0
returns-then-n-eq0 c =
    let a = c.args in
    let f = proprietary_command a.ins a.p1 a.p2 in
    let v = measured a.store.now a.list.now c.measure.ensures c.in_ok-n.was in
    let r = none_written (command_with_dol f a.list.now a.store.now) a.buffer.now refl
    (ap (command_if_data_is1_to255_bytes f) v.is ∙ dol_empty f v.bytes (v.long ∙ c.if-n-eq0.true)) in
    record { said = r.0; kept = r.1.0; reason = r.1.1 }

pub fill-requires : goal.fill-requires
fill-requires c =
    let v = measured c.args.store.now c.args.list.now c.measure.ensures c.in_ok-n.was in
    v.room _ _ (omega (arith, v.few))

pub overflow_add-n : goal.overflow_add-n
overflow_add-n c = omega (arith, (measured c.args.store.now c.args.list.now c.measure.ensures c.in_ok-n.was).few)

pub close-requires : goal.close-requires
close-requires c =
    let v = measured c.args.store.now c.args.list.now c.measure.ensures c.in_ok-n.was in
    (omega arith, omega (arith, v.few), omega arith)

pub returns : goal.returns
returns c =
    let a = c.args in
    let f = proprietary_command a.ins a.p1 a.p2 in
    let v = measured a.store.now a.list.now c.measure.ensures c.in_ok-n.was in
    let n = c.in_ok-n.n in
    let cl = c.close in
    let h : 5 + length v.bytes < length a.buffer.now = omega (arith, c.requires, v.long, v.few) in
    let e : 5 + n ≡ 5 + length v.bytes = omega (arith, v.long) in
    let r = some_written (command_with_dol f a.list.now a.store.now) (f v.bytes) a.buffer.now _ cl.result
    (ap (command_if_data_is1_to255_bytes f) v.is
    ∙ dol_some f v.bytes (omega (arith, c.if-n-eq0.false, v.long)) (omega (arith, v.long, v.few)))
    (cl.ensures.said ∙ command_length a.ins a.p1 a.p2 a.buffer.now v.bytes (5 + n) h e)
    (command_front a.ins a.p1 a.p2 a.buffer.now v.bytes (5 + n) h e _ _ (c.fill.ensures ∙ over_some _ _ _ _ v.is) cl.ensures.kept) in
    record { said = r.0; kept = r.1.0; reason = r.1.1 }
