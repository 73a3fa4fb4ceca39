-- Filling a DOL from a store (document 01, "Commands and steps", filling; Book 3, 1.4). What holds here holds of every
-- table of rows.
-- Assumes nothing.
use Rattle.std.specs.Prelude.{List, [], ◌∷◌, ◌++◌, ℕ, ◌-◌, length, take, drop, replicate, Option, Some, None}
use Rattle.basics.specs.Types.{Byte, Bytes, DolBytes, Length, StoreBytes, Value}
use Rattle.basics.specs.Choice.{when◌then◌else◌, ◌≤?◌, ◌=?◌}
use Rattle.tlv.specs.Tag.{is_template}
use Rattle.dictionary.specs.Rows.{Row, row_in, find_row, form_n, form_cn}
use Rattle.store.specs.Place.{StoredValue, absent, present, row_value}
use Rattle.dol.specs.declared.DolEntry.{DolEntry}
use Rattle.dol.specs.Entries.{dol_entries}

-- n bytes of 00
abbrev pub zero_bytes : Length → Bytes
zero_bytes n = replicate n 0

-- a value too long for the k bytes requested: form n loses its leftmost bytes, any other its rightmost
unfoldable pub truncated_to_length : ℕ → Length → Value → Bytes
truncated_to_length form k v = when form =? form_n then drop (length v - k) v else take k v

-- the byte that a value gains at its end: FF in form cn, else 00
unfoldable pub padding_byte : ℕ → Byte
padding_byte form = when form =? form_cn then 0xFF else 0

-- a value too short for the k bytes requested: form n gains leading zeros, cn trailing FF, any other trailing zeros
unfoldable pub padded_to_length : ℕ → Length → Value → Bytes
padded_to_length form k v =
    when form =? form_n then zero_bytes (k - length v) ++ v
    else v ++ replicate (k - length v) (padding_byte form)

-- a value as the k bytes requested
unfoldable pub fitted_to_length : ℕ → Length → Value → Bytes
fitted_to_length form k v = when k ≤? length v then truncated_to_length form k v else padded_to_length form k v

-- an absent object gives zeros; one that is present and empty is a value
abbrev pub dol_value_bytes : ℕ → Length → StoredValue → Bytes
dol_value_bytes form k absent = zero_bytes k
dol_value_bytes form k (present v) = fitted_to_length form k v

-- an unknown tag gives zeros
abbrev pub dol_bytes_of_row_found : List Row → StoreBytes → Length → Option ℕ → Bytes
dol_bytes_of_row_found table store k None = zero_bytes k
dol_bytes_of_row_found table store k (Some row) = dol_value_bytes (row_in table row).form k (row_value table store row)

-- an entry's bytes: a template's tag gives zeros
unfoldable pub dol_entry_bytes : List Row → StoreBytes → DolEntry → Bytes
dol_entry_bytes table store e =
    when is_template e.tag then zero_bytes e.asked
    else dol_bytes_of_row_found table store e.asked (find_row table e.tag)

-- the entries' bytes, joined
unfoldable pub dol_data : List Row → StoreBytes → List DolEntry → Bytes
dol_data table store [] = []
dol_data table store (e ∷ es) = dol_entry_bytes table store e ++ dol_data table store es

-- the filling of the entries that a list has; none where it is broken
unfoldable pub dol_data_if_parsed : List Row → StoreBytes → Option (List DolEntry) → Option Bytes
dol_data_if_parsed table store None = None
dol_data_if_parsed table store (Some es) = Some (dol_data table store es)

-- a list filled from a store, or none where the list is broken
abbrev pub dol_filled : List Row → StoreBytes → DolBytes → Option Bytes
dol_filled table store list = dol_data_if_parsed table store (dol_entries list)

-- ---- what holds of it, proved in proofs/ (Fitting, Filling, Bytes) for all values, lengths, forms, tables and stores
--   fitted-length    a fitted value has the length that was requested
--   fitted-own       at its own length a value stays as it is, padded and truncated alike
--   padded-twice     padding to a longer length and then to a longer one still is padding at once
--   filling-length   a filling has as many bytes as are requested in all
--   filled-nothing   an empty list fills to nothing
--   filled-bytes     a filling from a store of bytes is bytes
--   filled-join      the filling of two whole lists concatenated is their fillings concatenated
