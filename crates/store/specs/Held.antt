-- What a store holds of a tag: present, absent, not empty, its bytes one by one (document 01, "Dictionary"; an object
-- of no bytes is there).
-- Assumes nothing.
use Rattle.std.specs.Prelude.{Bool, not, ℕ, ◌-◌, length, get_or, Option, Some, None}
use Rattle.basics.specs.Choice.{◌<?◌, ◌=?◌, every}
use Rattle.basics.specs.Types.{StoreBytes, Value, Byte, Tag}
use Rattle.dictionary.specs.Rows.{dictionary_rows, find_row}
use Rattle.store.specs.Place.{object_value, bytes_or_empty_if_absent, is_present, row_length_plus_one_or_zero}

-- the object is present, empty or not
abbrev pub has_object : StoreBytes → Tag → Bool
has_object b t = is_present (object_value b t)

-- it is absent
abbrev pub lacks_object : StoreBytes → Tag → Bool
lacks_object b t = not (has_object b t)

-- its bytes; none where it is absent
abbrev pub stored_bytes : StoreBytes → Tag → Value
stored_bytes b t = bytes_or_empty_if_absent (object_value b t)

-- it is present and not empty
abbrev pub has_non_empty_object : StoreBytes → Tag → Bool
has_non_empty_object b t = 0 <? length (stored_bytes b t)

-- its byte n, the first is byte 1; 0 past the end
abbrev pub stored_byte : StoreBytes → Tag → ℕ → Byte
stored_byte b t n = get_or (stored_bytes b t) (n - 1) 0

-- a byte is zero
abbrev pub is_zero_byte : Byte → Bool
is_zero_byte x = x =? 0

-- all its bytes are zero; so they are where it is absent
abbrev pub is_object_zero_or_absent : StoreBytes → Tag → Bool
is_object_zero_or_absent b t = every is_zero_byte (stored_bytes b t)

-- the length byte of its place as it is: the length + 1, 0 where it is absent
abbrev pub length_plus_one_or_zero_of_row_found : StoreBytes → Option ℕ → Byte
length_plus_one_or_zero_of_row_found b None = 0
length_plus_one_or_zero_of_row_found b (Some k) = row_length_plus_one_or_zero dictionary_rows b k

-- by its row; 0 for an unknown tag
unfoldable pub stored_length_plus_one_or_zero : StoreBytes → Tag → Byte
stored_length_plus_one_or_zero b t = length_plus_one_or_zero_of_row_found b (find_row dictionary_rows t)
