-- `session_record::all_rows_fit` meets its contract. The invariant: the next row's place starts at `at`, and the walk
-- is at that row with `all_required_at_start_present` counted.
-- Assumes nothing.
use mathlib.Core.Path.{◌≡◌}
use Prim.Native.Nat.{◌-◌, ◌≤◌}
use Rattle.dictionary.specs.Rows.{dictionary_rows, row_count}
use Rattle.store.specs.Place.{row_offset}
use Rattle.session_record.proofs.Walk.{Walk}
use Rattle.session_record.proofs.all_rows_fit.Given as goal

abbrev pub invariant-loop-codes : goal.invariant-loop-codes
invariant-loop-codes l = (l.row ≤ row_count) × (l.at ≡ row_offset dictionary_rows l.row)
    × Walk l.bytes l.row l.brought

abbrev pub decreases-loop-codes : goal.decreases-loop-codes
decreases-loop-codes l = row_count - l.row
