-- `reading::store_pending` meets its contract. The invariant: the store is the one with the values so far in it.
-- Assumes nothing.
use mathlib.Core.Path.{◌≡◌}
use lib.ListN.{take}
use Rattle.reading.specs.InnerPending.{store_with_pending}
use Rattle.reading.proofs.store_pending.Given as goal

abbrev pub invariant-loop-value : goal.invariant-loop-value
invariant-loop-value l = l.store ≡ store_with_pending l.bytes l.initial.store (take l.value-index l.pending)
