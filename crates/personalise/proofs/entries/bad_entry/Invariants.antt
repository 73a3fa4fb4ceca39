-- `entries::bad_entry` meets its contract. The invariant: the first bad entry of the whole is that of what is left
-- after the entries that were passed. Assumes nothing.
use mathlib.Core.Path.{◌≡◌}
use Prim.Native.Nat.{◌*◌, ◌≤◌}
use lib.ListN.{length, take, drop}
use Rattle.afl.specs.Records.{afl_entries, afl_length_is_multiple_of4}
use Rattle.personalise.specs.Entries.{first_bad_or_truncated_entry_after, first_bad_entry}
use Rattle.personalise.proofs.entries.bad_entry.Given as goal

abbrev pub invariant-loop-i : goal.invariant-loop-i
invariant-loop-i l = (first_bad_entry l.entries ≡ first_bad_or_truncated_entry_after (afl_entries (take (4 * length l.yielded) l.entries))
    (afl_entries (drop (4 * length l.yielded) l.entries)) (afl_length_is_multiple_of4 l.entries))
    × (4 * length l.yielded ≤ length l.entries)
