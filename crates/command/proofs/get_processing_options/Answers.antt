-- `get_processing_options`: a list that measures has a filling of that length, which goes in after tag and length and
-- is then closed.
-- Assumes nothing.
use mathlib.Core.Path.{◌≡◌, refl, sym, ap, ◌∙◌}
use mathlib.Core.List.{◌++◌}
use Prim.Native.Nat.{ℕ, ◌+◌, ◌≤◌, ◌<◌}
use native.Mathlib.Omega.{arith}
use lib.ListN.{length, length-append}
use Rattle.dictionary.specs.Rows.{dictionary_rows}
use Rattle.command.specs.WithList.{get_processing_options, gpo_command_of_filled, gpo_data_tag_and_length}
use Rattle.command.specs.WithList.{gpo_data_of_filled_pdol, proprietary_command}
use Rattle.dol.specs.Measure.{buffer_with_bytes_at}
use Rattle.dol.proofs.Buffer.{over_some, over_then}
use Rattle.command.proofs.Parts.{measured, unfit, head_length, head_placed, gpo_of, gpo_broken, gpo_long, gpo_some}
use Rattle.command.proofs.Parts.{command_length, command_front, none_written, some_written}
use Rattle.command.proofs.get_processing_options.Goals as goal

pub returns-in_err-n : goal.returns-in_err-n
returns-in_err-n c =
    let a = c.args in
    let r = none_written (get_processing_options a.store.now) a.buffer.now c.from_residual.ensures
    (gpo_of a.store.now _ c.value-list.ensures ∙ unfit dictionary_rows a.store.now _
    gpo_command_of_filled gpo_broken (λ v h. gpo_long v (omega arith)) (sym c.measure.ensures ∙ c.in_err-n.was)) in
    record { said = r.0; kept = r.1.0; reason = r.1.1 }

pub returns-then-n-gt-MOST_PDOL_BYTES : goal.returns-then-n-gt-MOST_PDOL_BYTES
returns-then-n-gt-MOST_PDOL_BYTES c =
    let a = c.args in
    let f = measured a.store.now c.value-list.result.now c.measure.ensures c.in_ok-n.was in
    let r = none_written (get_processing_options a.store.now) a.buffer.now refl
    (gpo_of a.store.now _ c.value-list.ensures ∙ ap gpo_command_of_filled f.is
    ∙ gpo_long f.bytes (omega (arith, f.long, c.if-n-gt-MOST_PDOL_BYTES.true))) in
    record { said = r.0; kept = r.1.0; reason = r.1.1 }

pub fill-requires : goal.fill-requires
fill-requires c =
    let f = measured c.args.store.now c.value-list.result.now c.measure.ensures c.in_ok-n.was in
    f.room _ _ (omega (arith, f.few, head_placed c.in_ok-n.n (omega (arith, f.few)) c.gpo_head-at.ensures.next))

pub overflow_add-at : goal.overflow_add-at
overflow_add-at c =
    omega (arith, c.if-n-gt-MOST_PDOL_BYTES.false, head_placed c.in_ok-n.n (omega arith) c.gpo_head-at.ensures.next)

pub close-requires : goal.close-requires
close-requires c =
    let p = head_placed c.in_ok-n.n (omega arith) c.gpo_head-at.ensures.next in
    (omega (arith, p), omega (arith, p, c.if-n-gt-MOST_PDOL_BYTES.false), omega arith)

pub returns : goal.returns
returns c =
    let a = c.args in
    let b = a.buffer.now in
    let f = measured a.store.now c.value-list.result.now c.measure.ensures c.in_ok-n.was in
    let v = f.bytes in
    let n = c.in_ok-n.n in
    let o = c.gpo_head-at in
    let cl = c.close in
    let k = head_length n (omega (arith, f.few)) in
    let room : 5 + length (gpo_data_tag_and_length n) ≤ length b = omega (arith, c.requires) in
    let body : c.fill.new.buffer ≡ buffer_with_bytes_at b 5 (gpo_data_of_filled_pdol v) =
    over_then b 5 (gpo_data_tag_and_length n) room o.result v _ _ o.ensures.next o.ensures.kept
    (c.fill.ensures ∙ over_some _ _ _ _ f.is)
    ∙ ap (λ (i : ℕ). buffer_with_bytes_at b 5 (gpo_data_tag_and_length i ++ v)) (sym f.long) in
    let s = c.if-n-gt-MOST_PDOL_BYTES.false in
    let l : length (gpo_data_of_filled_pdol v) ≡ length (gpo_data_tag_and_length n) + n =
    length-append (gpo_data_tag_and_length (length v)) v ∙ ap (λ (i : ℕ). length (gpo_data_tag_and_length i) + i) f.long in
    let h : 5 + length (gpo_data_of_filled_pdol v) < length b = omega (arith, c.requires) in
    let e : o.result + n ≡ 5 + length (gpo_data_of_filled_pdol v) = omega (arith, o.ensures.next) in
    let r = some_written (get_processing_options a.store.now) (proprietary_command 0xA8 0 0 (gpo_data_of_filled_pdol v)) b _
    cl.result
    (gpo_of a.store.now _ c.value-list.ensures ∙ ap gpo_command_of_filled f.is ∙ gpo_some v (omega (arith, f.long)))
    (cl.ensures.said ∙ command_length 0xA8 0 0 b (gpo_data_of_filled_pdol v) (o.result + n) h e)
    (command_front 0xA8 0 0 b (gpo_data_of_filled_pdol v) (o.result + n) h e _ _ body cl.ensures.kept) in
    record { said = r.0; kept = r.1.0; reason = r.1.1 }
