-- An object of the dictionary read back from a session's bytes into the caller's bytes for it (docs/HOST.md).
-- Assumes nothing.
use Rattle.std.specs.Prelude.{◌≡◌, Bool, true, false, not, ◌+◌, length, Option, Some, None, ℕ}
use Rattle.basics.specs.Choice.{when◌then◌else◌, ◌<?◌}
use Rattle.basics.specs.Front.{written_over_front}
use Rattle.basics.specs.Reason.{refusal_record_out_of_ranges}
use Rattle.basics.specs.Types.{Bytes, StoreBytes, Tag, Length, ResultWord}
use Rattle.dictionary.specs.Rows.{dictionary_rows, find_row}
use Rattle.store.specs.Held.{lacks_object, stored_bytes}
use Rattle.session_record.specs.declared.Session.{Session}
use Rattle.session_record.specs.Session.{store_bytes}
use Rattle.session_record.specs.Ranges.{session_record_in_ranges}
use Rattle.layout.specs.Word.{refusal_word}

-- ---- words besides a length and a refusal

-- the object is absent
abbrev pub object_absent_word : ResultWord
object_absent_word = 0x30000

-- the dictionary does not have the tag
abbrev pub tag_unknown_word : ResultWord
tag_unknown_word = 0x40000

-- the caller provides fewer bytes than the value has: its length
abbrev pub length_needed_word : Length → ResultWord
length_needed_word n = 0x50000 + n

-- ---- what the call leaves

-- the word that is returned, and the contents of the caller's bytes afterwards
pub record ObjectCopied : Type 0 where
  pub word : ResultWord
  pub buffer : Bytes

-- the returned word w and the caller's bytes l are those of c
pub record ReturnsObjectCopied (returned_word : ResultWord) (caller_bytes_after : Bytes) (expected : ObjectCopied) : Type 0
  where
    pub word : returned_word ≡ expected.word
    pub buffer : caller_bytes_after ≡ expected.buffer

-- a word alone: the caller's bytes stay
abbrev pub nothing_copied : ResultWord → Bytes → ObjectCopied
nothing_copied w l = record { word = w; buffer = l }

-- ---- the call

-- the dictionary has a row for a tag
abbrev pub row_is_found : Option ℕ → Bool
row_is_found None = false
row_is_found (Some k) = true

-- the object of a tag in the store b: the tag, then whether it is present, then the room for it; an empty
-- one is present
unfoldable pub object_copied_from_store : StoreBytes → Tag → Bytes → ObjectCopied
object_copied_from_store b t l =
    when not (row_is_found (find_row dictionary_rows t)) then nothing_copied tag_unknown_word l
    else when lacks_object b t then nothing_copied object_absent_word l
    else when length l <? length (stored_bytes b t) then nothing_copied (length_needed_word (length (stored_bytes b t))) l
    else record { word = length (stored_bytes b t); buffer = written_over_front (stored_bytes b t) l }

-- the same of a session, if there is one that is in its ranges
unfoldable pub object_copied_from_session : Option Session → Tag → Bytes → ObjectCopied
object_copied_from_session None t l = nothing_copied (refusal_word refusal_record_out_of_ranges) l
object_copied_from_session (Some s) t l =
    when session_record_in_ranges s then object_copied_from_store (store_bytes s) t l
    else nothing_copied (refusal_word refusal_record_out_of_ranges) l

-- what holds of it, proved in proofs/Objects:
--   object-value    a word up to 254 is the length of a value that is at the front of the caller's bytes
--   object-kept     any other word leaves them
