-- The store (document 01, "Dictionary" and "The shape of some places"): a fixed place for each row of a table, with
-- room for every row at its greatest length at once. What holds here holds of every table.
-- Assumes nothing.
use Rattle.std.specs.Prelude.{Option, Some, None}
use Rattle.std.specs.Prelude.{Bool, true, false, List, [], ◌∷◌, ◌++◌, zero, suc, ◌+◌, ◌-◌, length, get_or, take, drop}
use Rattle.basics.specs.Choice.{when◌then◌else◌, ◌=?◌}
use Rattle.basics.specs.Types.{Bytes, StoreBytes, Value, Byte, Tag, Length, Offset, RowNumber}
use Rattle.dictionary.specs.Rows.{Row, dictionary_rows, row_in, find_row}

-- the value of an object: absent, or its bytes, which may be none
pub data StoredValue : Type 0 where
  absent : StoredValue
  present : Value → StoredValue

-- its bytes, none where it is absent
abbrev pub bytes_or_empty_if_absent : StoredValue → Value
bytes_or_empty_if_absent absent = []
bytes_or_empty_if_absent (present v) = v

-- it is present, empty or not
abbrev pub is_present : StoredValue → Bool
is_present absent = false
is_present (present v) = true

-- a value that is passed in, none where the object is absent
abbrev pub stored_value_of : Option Value → StoredValue
stored_value_of None = absent
stored_value_of (Some v) = present v

-- ---- places

-- the room of a row: a byte for the length, and the greatest length
abbrev pub row_size_in_store : Row → Length
row_size_in_store r = r.greatest + 1

-- where row k's place starts: after the places of the rows before it
unfoldable pub row_offset : List Row → RowNumber → Offset
row_offset [] k = 0
row_offset (r ∷ rs) zero = 0
row_offset (r ∷ rs) (suc k) = row_size_in_store r + row_offset rs k

-- the store's size: room for every row at its greatest length at once
unfoldable pub store_size_of : List Row → Length
store_size_of [] = 0
store_size_of (r ∷ rs) = row_size_in_store r + store_size_of rs

-- row k's place
unfoldable pub row_place_bytes : List Row → StoreBytes → RowNumber → Bytes
row_place_bytes table b k = take (row_size_in_store (row_in table k)) (drop (row_offset table k) b)

-- what a place holds: its first byte is 0 where the object is absent, else the length + 1
unfoldable pub value_in_place : Bytes → StoredValue
value_in_place [] = absent
value_in_place (n ∷ v) =
    when n =? 0 then absent
    else present (take (n - 1) v)

-- the value of row k
unfoldable pub row_value : List Row → StoreBytes → RowNumber → StoredValue
row_value table b k = value_in_place (row_place_bytes table b k)

-- row k's length byte as it is
unfoldable pub row_length_plus_one_or_zero : List Row → StoreBytes → RowNumber → Byte
row_length_plus_one_or_zero table b k = get_or (row_place_bytes table b k) 0 0

-- row k holds no bytes: absent, or present and empty
abbrev pub is_row_absent_or_empty : List Row → StoreBytes → RowNumber → Bool
is_row_absent_or_empty table b k = length (bytes_or_empty_if_absent (row_value table b k)) =? 0

-- the bytes with a length byte and the value v at the place o; bytes after v stay
abbrev pub length_and_value_written_at : StoreBytes → Offset → Value → StoreBytes
length_and_value_written_at b o v = take o b ++ ((length v + 1) ∷ (v ++ drop (o + 1 + length v) b))

-- the store with the value v in row k's place
unfoldable pub put_row : List Row → StoreBytes → RowNumber → Value → StoreBytes
put_row table b k v = length_and_value_written_at b (row_offset table k) v

-- ---- by tag

-- the value of the row that a lookup found
abbrev pub value_of_row_found : List Row → StoreBytes → Option RowNumber → StoredValue
value_of_row_found table b None = absent
value_of_row_found table b (Some k) = row_value table b k

-- the value of a tag: absent where the tag is unknown
unfoldable pub object_value_in : List Row → StoreBytes → Tag → StoredValue
object_value_in table b t = value_of_row_found table b (find_row table t)

-- the same in the dictionary
abbrev pub object_value : StoreBytes → Tag → StoredValue
object_value b t = object_value_in dictionary_rows b t
