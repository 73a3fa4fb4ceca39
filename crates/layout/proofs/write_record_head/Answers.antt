-- `layout::write_record_head` meets its contract: the head is copied whole to the front.
-- Assumes nothing.
use mathlib.Core.Path.{sym, ap, ◌∙◌}
use native.Mathlib.Omega.{arith}
use lib.ListN.{length, length-take}
use borrow.Rule.Slice.PartMut.{put_mid}
use Rattle.layout.specs.declared.PhaseFields.{PhaseFields}
use Rattle.layout.specs.Layout.{record_head_size, record_head_bytes}
use Rattle.layout.proofs.Lists.{head_length, headed_yes, headed_no}
use Rattle.layout.proofs.write_record_head.Goals as goal

pub returns-then-bytes-lt-RECORD_SIZE : goal.returns-then-bytes-lt-RECORD_SIZE
returns-then-bytes-lt-RECORD_SIZE c = let a = c.args in sym (headed_no a.bytes.now a.phase a.count c.if-bytes-lt-RECORD_SIZE.true)

pub copy_from_slice-requires : goal.copy_from_slice-requires
copy_from_slice-requires c =
    simp length-take (omega (arith, ap length c.head_of.ensures, head_length c.code_of.result c.args.count))

pub returns : goal.returns
returns c =
    let a = c.args in
    ap (put_mid 0 record_head_size a.bytes.now)
    (c.copy_from_slice.ensures.after ∙ c.head_of.ensures
    ∙ ap (λ (x : PhaseFields). record_head_bytes x a.count) c.code_of.ensures)
    ∙ sym (headed_yes a.bytes.now a.phase a.count c.if-bytes-lt-RECORD_SIZE.false)
