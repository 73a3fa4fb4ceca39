-- Worked examples of the commands, computed. Assumes nothing.
use Rattle.std.specs.Prelude.{Option, Some, None}
use mathlib.Core.Path.{◌≡◌, refl}
use mathlib.Core.List.{List, [], ◌∷◌, map}
use Prim.Native.Nat.{ℕ}
use lib.ListN.{length, take, replicate}
use Rattle.basics.specs.Choice.{if, both}
use Rattle.tlv.specs.Encoding.{length_bytes}
use Rattle.afl.specs.Records.{afl_entries, consecutive_records, records_of_entries, afl_records}
use Rattle.command.specs.ReadRecord.{read_record_command}
use Rattle.command.specs.WithList.{proprietary_command, command_if_data_is1_to255_bytes, udol_or_default}
use Rattle.command.specs.WithList.{gpo_command_of_filled}

-- ---- a record

-- 08 01 01 00: record 1 of file 1, read by 00 B2 01 0C 00
bench : map read_record_command (afl_records (0x08 ∷ 1 ∷ 1 ∷ 0 ∷ [])) ≡ (0x00 ∷ 0xB2 ∷ 0x01 ∷ 0x0C ∷ 0x00 ∷ []) ∷ []
unfolding afl_entries records_of_entries consecutive_records
bench = refl

-- ---- the limits of the three commands, each on both sides of its edge

-- a command's front bytes and its length, by the length of the filled list
abbrev edge : Option (List ℕ) → List ℕ
edge None = []
edge (Some c) = length c ∷ take 8 c

gpo_edge : ℕ → List ℕ
gpo_edge n = edge (gpo_command_of_filled (Some (replicate n 0xAA)))

cryptogram_edge : ℕ → List ℕ
cryptogram_edge n = edge (command_if_data_is1_to255_bytes (proprietary_command 0xAE 0x40 0) (Some (replicate n 0xAA)))

-- GPO: a length of 127 is in one byte, 128 after 81; 252 filled bytes are carried, 253 are not
gpo_edges : map gpo_edge (0 ∷ 127 ∷ 128 ∷ 252 ∷ 253 ∷ [])
    ≡ (8 ∷ 0x80 ∷ 0xA8 ∷ 0 ∷ 0 ∷ 2 ∷ 0x83 ∷ 0 ∷ 0 ∷ [])
    ∷ (135 ∷ 0x80 ∷ 0xA8 ∷ 0 ∷ 0 ∷ 129 ∷ 0x83 ∷ 127 ∷ 0xAA ∷ [])
    ∷ (137 ∷ 0x80 ∷ 0xA8 ∷ 0 ∷ 0 ∷ 131 ∷ 0x83 ∷ 0x81 ∷ 128 ∷ [])
    ∷ (261 ∷ 0x80 ∷ 0xA8 ∷ 0 ∷ 0 ∷ 255 ∷ 0x83 ∷ 0x81 ∷ 252 ∷ [])
    ∷ []
    ∷ []
unfolding gpo_edge gpo_command_of_filled length_bytes if
gpo_edges = refl

-- GENERATE AC: 1 to 255 filled bytes are carried
cryptogram_edges : map cryptogram_edge (0 ∷ 1 ∷ 255 ∷ 256 ∷ [])
    ≡ []
    ∷ (7 ∷ 0x80 ∷ 0xAE ∷ 0x40 ∷ 0 ∷ 1 ∷ 0xAA ∷ 0 ∷ [])
    ∷ (261 ∷ 0x80 ∷ 0xAE ∷ 0x40 ∷ 0 ∷ 255 ∷ 0xAA ∷ 0xAA ∷ 0xAA ∷ [])
    ∷ []
    ∷ []
unfolding cryptogram_edge command_if_data_is1_to255_bytes both if
cryptogram_edges = refl

-- COMPUTE CRYPTOGRAPHIC CHECKSUM: the same
checksum_edge : ℕ → List ℕ
checksum_edge n = edge (command_if_data_is1_to255_bytes (proprietary_command 0x2A 0x8E 0x80) (Some (replicate n 0xAA)))

checksum_edges : map checksum_edge (0 ∷ 1 ∷ 255 ∷ 256 ∷ [])
    ≡ []
    ∷ (7 ∷ 0x80 ∷ 0x2A ∷ 0x8E ∷ 0x80 ∷ 1 ∷ 0xAA ∷ 0 ∷ [])
    ∷ (261 ∷ 0x80 ∷ 0x2A ∷ 0x8E ∷ 0x80 ∷ 255 ∷ 0xAA ∷ 0xAA ∷ 0xAA ∷ [])
    ∷ []
    ∷ []
unfolding checksum_edge command_if_data_is1_to255_bytes if both
checksum_edges = refl

-- no list and an empty one are the default; one that has bytes is itself, broken or not
checksum_lists : map udol_or_default ([] ∷ (0x9F ∷ 0x6A ∷ 0x02 ∷ 0x95 ∷ 0x05 ∷ []) ∷ (0x9F ∷ 0x6A ∷ []) ∷ [])
    ≡ (0x9F ∷ 0x6A ∷ 0x04 ∷ []) ∷ (0x9F ∷ 0x6A ∷ 0x02 ∷ 0x95 ∷ 0x05 ∷ []) ∷ (0x9F ∷ 0x6A ∷ []) ∷ []
unfolding udol_or_default
checksum_lists = refl
