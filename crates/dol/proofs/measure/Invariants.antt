-- `measure`: what is requested so far, with what the rest requests, is what the list requests. The rest shrinks.
-- Assumes nothing.
use mathlib.Core.Path.{◌≡◌}
use Prim.Native.Nat.{◌≤◌}
use lib.ListN.{length}
use Rattle.dol.specs.Entries.{dol_entries}
use Rattle.dol.specs.Measure.{dol_total_if_at_most255}
use Rattle.dol.proofs.Entries.{measured_from}
use Rattle.dol.proofs.measure.Given as goal

abbrev pub invariant-loop-rest : goal.invariant-loop-rest
invariant-loop-rest l =
    (dol_total_if_at_most255 (dol_entries l.list) ≡ measured_from l.total (dol_entries l.rest)) × (l.total ≤ 255)

abbrev pub decreases-loop-rest : goal.decreases-loop-rest
decreases-loop-rest l = length l.rest
