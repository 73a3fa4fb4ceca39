-- One entry of the AFL, tag 94 (document 01, "Commands and steps", Locator; Book C-2, A.1.15; Book 3, the application
-- file locator): the file and the records that its four bytes name, and the rules that they satisfy.
-- Assumes nothing.
use Rattle.std.specs.Prelude.{Bool, ◌+◌, ◌-◌, ◌/◌, ◌%◌, get_or}
use Rattle.basics.specs.Types.{AflBytes, Byte, Count, SfiNumber}
use Rattle.basics.specs.Number.{between}
use Rattle.basics.specs.Choice.{◌and◌, ◌≤?◌, ◌=?◌}
use Rattle.afl.specs.declared.AflEntry.{AflEntry}

-- an entry from its four bytes
abbrev pub afl_entry : Byte → Byte → Byte → Byte → AflEntry
afl_entry a b c d = record { lead = a; first = b; last = c; offline = d }

-- the entry in the first four of some bytes
abbrev pub first_afl_entry : AflBytes → AflEntry
first_afl_entry s = afl_entry (get_or s 0 0) (get_or s 1 0) (get_or s 2 0) (get_or s 3 0)

-- the file number: the top five bits of byte 1
abbrev pub entry_sfi : AflEntry → SfiNumber
entry_sfi e = e.lead / 8

-- how many records it names: last - first + 1, and none where last is below first
abbrev pub entry_record_count : AflEntry → Count
entry_record_count e = e.last + 1 - e.first

-- an entry satisfies the rules: no low bit in byte 1, a file number from 1 to 30, records numbered from 1 on, in order,
-- and no more of them for offline authentication than there are
unfoldable pub valid_entry : AflEntry → Bool
valid_entry e =
    e.lead % 8 =? 0
    and between 1 (entry_sfi e) 30
    and 1 ≤? e.first
    and e.first ≤? e.last
    and e.offline ≤? entry_record_count e
