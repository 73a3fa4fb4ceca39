-- A list measured before it is filled, and a buffer with bytes written into it: what `measure` and `fill` promise. The
-- commands that carry a filled list go by these (`command/specs/WithList`).
-- Assumes nothing.
use Rattle.std.specs.Prelude.{List, ◌++◌, ◌+◌, ◌≤◌, length, take, drop, Option, Some, None, ℕ}
use Rattle.basics.specs.Types.{Buffer, Bytes, Length, Offset}
use Rattle.basics.specs.Choice.{when◌then◌else◌, ◌≤?◌}
use Rattle.dol.specs.declared.DolEntry.{DolEntry}
use Rattle.dol.specs.Entries.{dol_total_length}

-- a list's total, where the list is whole and the total at most 255, which is all that a command can carry
unfoldable pub dol_total_if_at_most255 : Option (List DolEntry) → Option ℕ
dol_total_if_at_most255 None = None
dol_total_if_at_most255 (Some es) = when dol_total_length es ≤? 255 then Some (dol_total_length es) else None

-- a list that is whole, and whose filling from place `at` on ends inside n bytes
abbrev pub FilledDolFitsAt : Option (List DolEntry) → Offset → Length → Type 0
FilledDolFitsAt None at n = ⊥
FilledDolFitsAt (Some es) at n = at + dol_total_length es ≤ n

-- the buffer b with v from place `at` on; the bytes before and after stay
unfoldable pub buffer_with_bytes_at : Buffer → Offset → Bytes → Buffer
buffer_with_bytes_at b at v = take at b ++ (v ++ drop (at + length v) b)

-- the buffer with a filling from place `at` on, as it was where there is none
unfoldable pub buffer_with_filled_dol_at : Buffer → Offset → Option Bytes → Buffer
buffer_with_filled_dol_at b at None = b
buffer_with_filled_dol_at b at (Some v) = buffer_with_bytes_at b at v
