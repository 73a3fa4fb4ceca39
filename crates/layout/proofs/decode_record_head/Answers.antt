-- `layout::decode_record_head` meets its contract: each way out is one of the two tests that bytes of a record pass.
-- Assumes nothing.
use mathlib.Core.Bool.{not}
use mathlib.Core.Path.{◌≡◌, refl, sym, ap, ◌∙◌}
use native.Mathlib.Omega.{arith}
use lib.ListN.{take, length-take}
use Rattle.basics.specs.Alike.{bytes_equal}
use Rattle.basics.proofs.Alike.{alike_pointwise}
use Rattle.layout.specs.Layout.{record_head_size, phase_of_phase_fields, phase_in_head, decoded_record_head}
use Rattle.layout.proofs.Laws.{own_head, decoded_short, decoded_head, decoded_some}
use Rattle.layout.proofs.Lists.{not_back}
use Rattle.layout.proofs.decode_record_head.Goals as goal

pub returns-then-bytes-lt-RECORD_SIZE : goal.returns-then-bytes-lt-RECORD_SIZE
returns-then-bytes-lt-RECORD_SIZE c = sym (ap decoded_record_head (decoded_short _ c.if-bytes-lt-RECORD_SIZE.true))

pub slice_bounds-ne-end-2 : goal.slice_bounds-ne-end-2
slice_bounds-ne-end-2 c = simp length-take (omega (arith, c.if-bytes-lt-RECORD_SIZE.false))

pub returns-then-ne : goal.returns-then-ne
returns-then-ne c =
    let phased : c.phase_of-phase.result ≡ phase_in_head c.args.bytes.now =
    c.phase_of-phase.ensures ∙ ap phase_of_phase_fields c.code_in.ensures in
    let tested : let l = c.args.bytes.now in not (bytes_equal (own_head l) (take record_head_size l)) ≡ c.ne.result =
    sym (c.ne.ensures ∙ rw (alike_pointwise, c.head_of-own.ensures, c.code_of.ensures, phased) refl) in
    sym (ap decoded_record_head (decoded_head _ (not_back _ _ (tested ∙ c.if-ne.true))))

pub returns : goal.returns
returns c =
    let phased : c.phase_of-phase.result ≡ phase_in_head c.args.bytes.now =
    c.phase_of-phase.ensures ∙ ap phase_of_phase_fields c.code_in.ensures in
    let tested : let l = c.args.bytes.now in not (bytes_equal (own_head l) (take record_head_size l)) ≡ c.ne.result =
    sym (c.ne.ensures ∙ rw (alike_pointwise, c.head_of-own.ensures, c.code_of.ensures, phased) refl) in
    rw (phased)
    (sym
    (ap decoded_record_head
    (decoded_some _ c.if-bytes-lt-RECORD_SIZE.false (not_back _ _ (tested ∙ c.if-ne.false)))))
