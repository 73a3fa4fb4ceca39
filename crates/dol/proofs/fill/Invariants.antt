-- `fill`: what is written so far, with the filling of the rest after it, is the filling of the list. The rest
-- shrinks, and its entries have room.
-- Assumes nothing.
use mathlib.Core.Path.{◌≡◌}
use lib.ListN.{length}
use Rattle.dictionary.specs.Rows.{dictionary_rows}
use Rattle.dol.specs.Entries.{dol_entries}
use Rattle.dol.specs.Filling.{dol_filled}
use Rattle.dol.specs.Measure.{FilledDolFitsAt, buffer_with_filled_dol_at}
use Rattle.dol.proofs.fill.Given as goal

abbrev pub invariant-loop-entry : goal.invariant-loop-entry
invariant-loop-entry l =
    (buffer_with_filled_dol_at l.initial.buffer l.at (dol_filled dictionary_rows l.store l.list) ≡ buffer_with_filled_dol_at l.buffer l.to
    (dol_filled dictionary_rows l.store l.rest)) × (length l.buffer ≡ length l.initial.buffer)
    × FilledDolFitsAt (dol_entries l.rest) l.to (length l.buffer)

abbrev pub decreases-loop-entry : goal.decreases-loop-entry
decreases-loop-entry l = length l.rest
