-- `one_call`: the call is whole.
-- Assumes nothing.
use mathlib.Core.Path.{sym, subst}
use Prim.Native.Nat.{◌≤◌}
use native.Mathlib.Omega.{arith}
use lib.ListN.{length}
use Rattle.call_list.specs.declared.CallHeader.{CallHeader}
use Rattle.call_list.specs.Encoding.{call_end_offset}
use Rattle.call_list.proofs.Read.{whole_size, whole_end}
use Rattle.call_list.proofs.one_call.Goals as goal

pub header_of-header-requires : goal.header_of-header-requires
header_of-header-requires c = whole_size _ c.requires.0

pub call_in-reply-requires : goal.call_in-reply-requires
call_in-reply-requires c = subst (λ (x : CallHeader). call_end_offset x ≤ length c.args.calls.now)
    (sym c.header_of-header.ensures) (whole_end _ c.requires.0)

pub overflow_add-result : goal.overflow_add-result
overflow_add-result c =
    let i : call_end_offset c.header_of-header.result ≤ length c.args.calls.now =
    subst (λ (x : CallHeader). call_end_offset x ≤ length c.args.calls.now) (sym c.header_of-header.ensures)
    (whole_end _ c.requires.0) in
    omega arith

pub overflow_add-result-2 : goal.overflow_add-result-2
overflow_add-result-2 c =
    let i : call_end_offset c.header_of-header.result ≤ length c.args.calls.now =
    subst (λ (x : CallHeader). call_end_offset x ≤ length c.args.calls.now) (sym c.header_of-header.ensures)
    (whole_end _ c.requires.0) in
    omega arith
