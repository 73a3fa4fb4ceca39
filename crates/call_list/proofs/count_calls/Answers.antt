-- `count_calls`: the calls counted so far, with those of the rest, are those of the whole. The rest shrinks.
-- Assumes nothing.
use Rattle.std.specs.Prelude.{Some, Option}
use mathlib.Core.Path.{◌≡◌, sym, ap, ◌∙◌}
use mathlib.Core.List.{List}
use Prim.Native.Nat.{ℕ, ◌+◌}
use native.Mathlib.Omega.{arith}
use lib.ListN.{length-take, length-drop}
use Rattle.tlv.proofs.Laws.{tail-is}
use Rattle.session.specs.Calls.{Call}
use Rattle.call_list.specs.Encoding.{call_end_offset, parsed_calls}
use Rattle.call_list.specs.Inner.{calls_counted_in}
use Rattle.call_list.proofs.Read.{front_end, calls_malformed, calls_end, more, more_none, counted_call}
use Rattle.call_list.proofs.count_calls.Goals as goal

pub loop-rest-init : goal.loop-rest-init
loop-rest-init c = (sym (more_none _), omega arith)

pub returns-in_err-header : goal.returns-in_err-header
returns-in_err-header c = let lp = c.loop-rest in
    c.from_residual.ensures
    ∙ sym (lp.invariant.0 ∙ ap (λ (x : Option (List Call)). more lp.n (calls_counted_in x))
    (calls_malformed lp.rest.now c.loop-rest-test.true (sym c.in_err-header.ensures)))

pub loop-rest-preserved : goal.loop-rest-preserved
loop-rest-preserved c =
    let lp = c.loop-rest in
    let i = front_end lp.rest.now c.in_ok-header.header (sym c.in_ok-header.ensures) in (
      lp.invariant.0 ∙ counted_call lp.n lp.rest.now c.in_ok-header.header c.loop-rest-test.true (sym c.in_ok-header.ensures)
          ∙ ap (λ (s : List ℕ). more (lp.n + 1) (calls_counted_in (parsed_calls s)))
          (sym (tail-is lp.rest.now (call_end_offset c.in_ok-header.header))),
      simp (length-take, length-drop) (omega arith),
    )

pub returns : goal.returns
returns c = let lp = c.loop-rest in
    let z : lp.n + 0 ≡ lp.n = omega arith in
    sym (lp.invariant.0 ∙ ap (λ (x : Option (List Call)). more lp.n (calls_counted_in x))
    (calls_end lp.rest.now (omega arith)) ∙ ap Some z)
