-- The loop's invariant: no stage before this one is consulted and holds a bit.
-- Assumes nothing.
use Rattle.analysis.specs.Choice.{some_tvr_bit_in_codes_of_stage}
use Rattle.analysis.proofs.Stages.{Unforced}
use Rattle.analysis.proofs.choice.terminal_action_analysis.Given as goal

abbrev pub invariant-loop-stage : goal.invariant-loop-stage
invariant-loop-stage l = Unforced l.capability (some_tvr_bit_in_codes_of_stage l.bits l.fn.pairs) l.stage
