-- The commands that carry a filled list: GPO and GENERATE AC (document 01, "Commands and steps"), and COMPUTE
-- CRYPTOGRAPHIC CHECKSUM (document 02, Item 9; Book C-2, 5.2).
-- Assumes nothing.
use Rattle.command.specs.declared.DolCommandSize.{DolCommandSize}
use Rattle.std.specs.Prelude.{[], ◌∷◌, ◌++◌, length, Option, Some, None}
use Rattle.basics.specs.Types.{Buffer, Byte, Bytes, CommandBytes, DolBytes, Length, Reason, StoreBytes, Tag}
use Rattle.basics.specs.Choice.{when◌then◌else◌, ◌≤?◌}
use Rattle.basics.specs.Number.{between}
use Rattle.basics.specs.Front.{written_over_front}
use Rattle.basics.specs.Reason.{reason_none, reason_dol_broken_or_bad_length}
use Rattle.tlv.specs.Encoding.{length_bytes}
use Rattle.dictionary.specs.Rows.{dictionary_rows}
use Rattle.store.specs.Place.{bytes_or_empty_if_absent, object_value}
use Rattle.dol.specs.Filling.{dol_filled}

-- ---- the bytes of a command's header (Book C-2, 5.2, 5.4 and 5.5)

-- the class byte of the payment application's own commands
abbrev pub cla_proprietary : Byte
cla_proprietary = 0x80

-- the instruction bytes of GET PROCESSING OPTIONS, GENERATE AC and COMPUTE CRYPTOGRAPHIC CHECKSUM
abbrev pub ins_gpo : Byte
ins_gpo = 0xA8

abbrev pub ins_generate_ac : Byte
ins_generate_ac = 0xAE

abbrev pub ins_compute_checksum : Byte
ins_compute_checksum = 0x2A

-- P1 and P2 of COMPUTE CRYPTOGRAPHIC CHECKSUM
abbrev pub p1_compute_checksum : Byte
p1_compute_checksum = 0x8E

abbrev pub p2_compute_checksum : Byte
p2_compute_checksum = 0x80

-- the tag of the command template, which the filled PDOL is in
abbrev pub tag_command_template : Tag
tag_command_template = 0x83

-- the most bytes that a command carries, and the most of a filled PDOL: tag and length of its template take three
abbrev pub most_command_data : Length
most_command_data = 255

abbrev pub most_filled_pdol_bytes : Length
most_filled_pdol_bytes = 252

-- ---- a filled list in a command

-- class 80, instruction, P1, P2, Lc, data, Le of 00
abbrev pub proprietary_command : Byte → Byte → Byte → Bytes → CommandBytes
proprietary_command ins p1 p2 body = cla_proprietary ∷ ins ∷ p1 ∷ p2 ∷ length body ∷ (body ++ (0 ∷ []))

-- what a list fills to, carried in a command; none, which is reason 7, where it is broken, or fills to no byte or to
-- more than 255
unfoldable pub command_if_data_is1_to255_bytes : (Bytes → CommandBytes) → Option Bytes → Option CommandBytes
command_if_data_is1_to255_bytes command None = None
command_if_data_is1_to255_bytes command (Some v) = when between 1 (length v) most_command_data then Some (command v) else None

-- a list filled from a store, and carried so
abbrev pub command_with_dol : (Bytes → CommandBytes) → DolBytes → StoreBytes → Option CommandBytes
command_with_dol command list store = command_if_data_is1_to255_bytes command (dol_filled dictionary_rows store list)

-- GENERATE AC, with CDOL1 (8C) and the type requested in P1
unfoldable pub generate_ac : Byte → StoreBytes → Option CommandBytes
generate_ac p1 store =
    command_with_dol (proprietary_command ins_generate_ac p1 0) (bytes_or_empty_if_absent (object_value store 0x8C)) store

-- the UDOL (9F69), or the default one where it is absent or empty: 9F6A in four bytes (Book C-2, Default UDOL)
unfoldable pub udol_or_default : DolBytes → DolBytes
udol_or_default [] = 0x9F ∷ 0x6A ∷ 0x04 ∷ []
udol_or_default (x ∷ l) = x ∷ l

-- COMPUTE CRYPTOGRAPHIC CHECKSUM, with that list
unfoldable pub compute_cryptographic_checksum : StoreBytes → Option CommandBytes
compute_cryptographic_checksum store =
    command_with_dol (proprietary_command ins_compute_checksum p1_compute_checksum p2_compute_checksum)
    (udol_or_default (bytes_or_empty_if_absent (object_value store 0x9F69))) store

-- ---- GPO

-- tag 83, and the length in one byte to 127, in 81 and a byte above
abbrev pub gpo_data_tag_and_length : Length → Bytes
gpo_data_tag_and_length n = tag_command_template ∷ length_bytes n

-- then the filled list
abbrev pub gpo_data_of_filled_pdol : Bytes → Bytes
gpo_data_of_filled_pdol v = gpo_data_tag_and_length (length v) ++ v

-- no command, which is reason 7, for a broken list or over 252 filled bytes; a list may fill to no byte
unfoldable pub gpo_command_of_filled : Option Bytes → Option CommandBytes
gpo_command_of_filled None = None
gpo_command_of_filled (Some v) =
    when length v ≤? most_filled_pdol_bytes then Some (proprietary_command ins_gpo 0 0 (gpo_data_of_filled_pdol v)) else None

-- with the PDOL (9F38); an absent one counts as empty
unfoldable pub get_processing_options : StoreBytes → Option CommandBytes
get_processing_options store =
    gpo_command_of_filled (dol_filled dictionary_rows store (bytes_or_empty_if_absent (object_value store 0x9F38)))

-- ---- returned

-- a command of n bytes
abbrev pub command_of_length : Length → Option DolCommandSize
command_of_length n = Some (record { len = n })

-- a command returns its length
abbrev pub dol_command_of : Option CommandBytes → Option DolCommandSize
dol_command_of None = None
dol_command_of (Some c) = command_of_length (length c)

-- the number of what is returned (document 01, "Calls and their numbers"): 0 with a command, else 7, a list that is
-- broken or fills to no command
abbrev pub dol_command_reason : Option DolCommandSize → Reason
dol_command_reason (Some c) = reason_none
dol_command_reason None = reason_dol_broken_or_bad_length

-- the reason that a list gives: none where it makes a command
abbrev pub reason_dol_if_no_command : Option CommandBytes → Reason
reason_dol_if_no_command None = reason_dol_broken_or_bad_length
reason_dol_if_no_command (Some c) = reason_none

-- the buffer with the command in its front, or as it was where there is none
abbrev pub buffer_with_command : Option CommandBytes → Buffer → Buffer
buffer_with_command None b = b
buffer_with_command (Some c) b = written_over_front c b

-- ---- what holds of it, proved in proofs/Commands for all stores
--   gpo-proper, cryptogram-proper        a command has 5 to 261 bytes and begins with 80 A8, or 80 AE;
--   checksum-proper                      or 80 2A
--   gpo-absent, gpo-empty                without 9F38, or with an empty one, it is 80 A8 00 00 02 83 00 00
--   gpo-bytes, cryptogram-bytes, checksum-bytes    from a store of bytes it is bytes
