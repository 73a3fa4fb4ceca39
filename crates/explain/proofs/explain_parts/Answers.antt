-- `explain::explain_parts` meets its contract: by the ranges and the phase it is the definition's answer, and the promise follows (`told`). Assumes nothing.
use native.Mathlib.Omega.{arith}
use Rattle.basics.specs.Choice.{if}
use Rattle.explain.proofs.Laws.{told}
use Rattle.explain.specs.Explain.{explanation_of}
use Rattle.explain.proofs.explain_parts.Goals as goal

pub returns-then-not-session_parts_in_ranges : goal.returns-then-not-session_parts_in_ranges
unfolding explanation_of if
returns-then-not-session_parts_in_ranges c = told _ (grind arith)

pub returns-in-Fresh : goal.returns-in-Fresh
unfolding explanation_of if
returns-in-Fresh c = told _ (grind arith)

pub returns-in-Waiting : goal.returns-in-Waiting
unfolding explanation_of if
returns-in-Waiting c = told _ (grind arith)

pub returns-in-Ended : goal.returns-in-Ended
unfolding explanation_of if
returns-in-Ended c = told _ (grind arith)
