-- What a list of bytes or a number is, by name: each type is an abbreviation of what stands behind it, so that a
-- signature says which bytes or which number it takes. The words are EMV's or document 01's.
-- Assumes nothing.
use Rattle.std.specs.Prelude.{List, ℕ}

-- ---- lists of bytes

-- bytes of any kind
abbrev pub Bytes : Type 0
Bytes = List ℕ

-- the bytes of a store: each row of the dictionary at its fixed place
abbrev pub StoreBytes : Type 0
StoreBytes = List ℕ

-- the value field of a data object
abbrev pub Value : Type 0
Value = List ℕ

-- what the card sent to a command, its two status bytes included
abbrev pub Response : Type 0
Response = List ℕ

-- the terminal's objects that a start brings
abbrev pub StartBytes : Type 0
StartBytes = List ℕ

-- a command for the card (C-APDU)
abbrev pub CommandBytes : Type 0
CommandBytes = List ℕ

-- the caller's command buffer
abbrev pub Buffer : Type 0
Buffer = List ℕ

-- the value of a data object list (PDOL, CDOL1, UDOL)
abbrev pub DolBytes : Type 0
DolBytes = List ℕ

-- the value of an Application File Locator
abbrev pub AflBytes : Type 0
AflBytes = List ℕ

-- Terminal Verification Results, five bytes
abbrev pub TvrBytes : Type 0
TvrBytes = List ℕ

-- the digits of a number or of a track, one nibble each
abbrev pub Digits : Type 0
Digits = List ℕ

-- the records of a journal, concatenated
abbrev pub JournalBytes : Type 0
JournalBytes = List ℕ

-- ---- numbers

-- one byte
abbrev pub Byte : Type 0
Byte = ℕ

-- the tag of a data object, its bytes as one number
abbrev pub Tag : Type 0
Tag = ℕ

-- some tags
abbrev pub TagList : Type 0
TagList = List ℕ

-- how many bytes
abbrev pub Length : Type 0
Length = ℕ

-- a position in a list of bytes, from 0
abbrev pub Offset : Type 0
Offset = ℕ

-- how many of something
abbrev pub Count : Type 0
Count = ℕ

-- the number of a row of the dictionary, from 0
abbrev pub RowNumber : Type 0
RowNumber = ℕ

-- the number of a record or of its place in the AFL's order, from 1
abbrev pub RecordNumber : Type 0
RecordNumber = ℕ

-- a Short File Identifier
abbrev pub SfiNumber : Type 0
SfiNumber = ℕ

-- an amount in the minor unit of its currency
abbrev pub Amount : Type 0
Amount = ℕ

-- a reason or a refusal by document 01's number
abbrev pub Reason : Type 0
Reason = ℕ

abbrev pub RefusalNumber : Type 0
RefusalNumber = ℕ

-- the number of a CVM as an outcome reports it
abbrev pub CvmNumber : Type 0
CvmNumber = ℕ

-- the 32-bit word that a C call returns
abbrev pub ResultWord : Type 0
ResultWord = ℕ
