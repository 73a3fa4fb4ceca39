-- `choice::lowest_tvr_bit_in_codes` meets its contract: byte by byte.
-- Assumes nothing.
use mathlib.Core.Path.{sym, ◌∙◌}
use native.Mathlib.Omega.{arith}
use Rattle.analysis.proofs.Lowest.{found}
use Rattle.analysis.proofs.Stages.{byte_found, byte_clear, all_clear}
use Rattle.analysis.proofs.choice.lowest_tvr_bit_in_codes.Goals as goal

pub overflow_add-result : goal.overflow_add-result
overflow_add-result c = omega (arith, (found _ 8 0 _ (sym c.byte_bit.ensures ∙ c.in-Some.is)).within)

pub returns-in-Some : goal.returns-in-Some
returns-in-Some c =
    sym
    (byte_found _ _ c.loop-i.i _ (omega arith) c.loop-i.invariant (sym c.byte_bit.ensures ∙ c.in-Some.is))

pub loop-i-preserved : goal.loop-i-preserved
loop-i-preserved c = byte_clear _ _ c.loop-i.i c.loop-i.invariant (sym c.byte_bit.ensures ∙ c.in_default.is)

pub returns : goal.returns
returns c = sym (all_clear _ _ (λ m h. c.loop-i.invariant m (omega arith)))
