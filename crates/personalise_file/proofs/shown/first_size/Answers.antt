-- The object lies inside the bytes.
use Rattle.std.proofs.Common.{arith, sym, ◌∙◌}
use Rattle.tlv.proofs.Laws.{header_fits}
use Rattle.personalise_file.proofs.shown.first_size.Goals as goal

pub overflow_add-result : goal.overflow_add-result
overflow_add-result c =
    let fits = header_fits _ _ (sym c.object_header.ensures ∙ c.in-Some.is) in
    omega arith

pub returns : goal.returns
returns c =
    let fits = header_fits _ _ (sym c.object_header.ensures ∙ c.in-Some.is) in
    omega arith
