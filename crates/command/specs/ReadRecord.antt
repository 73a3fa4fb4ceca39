-- The command that reads a record (document 01, "Commands and steps", Record; Book C-2, 5.8).
-- Assumes nothing.
use Rattle.std.specs.Prelude.{[], ◌∷◌, ◌+◌, ◌*◌, length, Option, Some, None}
use Rattle.basics.specs.Types.{Buffer, Byte, CommandBytes, Length}
use Rattle.basics.specs.Choice.{when◌then◌else◌, ◌and◌, ◌≤?◌, ◌<?◌}
use Rattle.afl.specs.declared.CardRecord.{CardRecord}

-- the class byte of the commands that all industries share, and the instruction byte of READ RECORD
abbrev pub cla_interindustry : Byte
cla_interindustry = 0x00

abbrev pub ins_read_record : Byte
ins_read_record = 0xB2

-- the command's five bytes: 00 B2, the record number, the file number x 8 + 4, 00
abbrev pub read_record_command : CardRecord → CommandBytes
read_record_command r = cla_interindustry ∷ ins_read_record ∷ r.number ∷ (r.sfi * 8 + 4) ∷ 0 ∷ []

-- the command where it can be written: its five bytes fit the buffer, and its file number fits five bits
unfoldable pub read_record_command_if_fits : Buffer → CardRecord → Option CommandBytes
read_record_command_if_fits buffer r = when 5 ≤? length buffer and r.sfi <? 32 then Some (read_record_command r) else None

-- the length that is returned: 0 where there is no command
abbrev pub command_length_or_zero : Option CommandBytes → Length
command_length_or_zero None = 0
command_length_or_zero (Some c) = length c
