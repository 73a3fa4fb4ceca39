-- `tlv::object_behind` meets its contract: after the last byte nothing is left; else the object there is next.
-- Assumes nothing.
use Rattle.std.specs.Prelude.{Some, None}
use mathlib.Core.Path.{sym, ◌∙◌}
use native.Mathlib.Omega.{arith}
use lib.ListN.{length-take, length-drop}
use Rattle.tlv.proofs.Laws.{header_fits}
use Rattle.tlv.proofs.NextObject.{passed_all, stop_at}
use Rattle.tlv.proofs.object_behind.Goals as goal

pub returns-then-at-s : goal.returns-then-at-s
returns-then-at-s c = sym (passed_all _ _ c.requires (omega arith))

pub overflow_add-result : goal.overflow_add-result
overflow_add-result c =
    let f = header_fits _ c.in-Some.h (sym c.object_header.ensures ∙ c.in-Some.is) in
    omega (arith, simp (length-take, length-drop) at f.inside)

pub returns-in-Some : goal.returns-in-Some
returns-in-Some c =
    sym (stop_at _ _ c.requires (omega arith) (Some c.in-Some.h) (sym c.object_header.ensures ∙ c.in-Some.is))

pub returns-in-None : goal.returns-in-None
returns-in-None c = sym (stop_at _ _ c.requires (omega arith) None (sym c.object_header.ensures ∙ c.in-None.is))
