-- Data Object List, DOL (document 01, "Commands and steps", filling; Book 3, 1.4): tags, each followed by one plain
-- length byte, 0 to 255.
-- Assumes nothing.
use Rattle.std.specs.Prelude.{List, [], ◌∷◌, ◌+◌, drop, Option, Some, None}
use Rattle.basics.specs.Types.{DolBytes, Length, Tag as TagNumber}
use Rattle.basics.specs.Recursion.{recurse_with_fuel_from_length}
use Rattle.tlv.specs.Tag.{tag_at}
use Rattle.tlv.specs.declared.Tag.{Tag}
use Rattle.dol.specs.declared.DolEntry.{DolEntry}

-- an entry: so many bytes are requested of a tag
abbrev pub dol_entry : TagNumber → Length → DolEntry
dol_entry t n = record { tag = t; asked = n }

-- a tag is followed by its length byte
unfoldable pub dol_entry_with_length : Tag → DolBytes → Option (DolEntry × Length)
dol_entry_with_length t [] = None
dol_entry_with_length t (n ∷ s) = Some (dol_entry t.number n, t.size + 1)

-- a whole tag, and its length byte after it
abbrev pub dol_entry_with_tag : DolBytes → Option Tag → Option (DolEntry × Length)
dol_entry_with_tag s None = None
dol_entry_with_tag s (Some t) = dol_entry_with_length t (drop t.size s)

-- the entry at the front, and how many bytes of the list it takes
unfoldable pub dol_entry_at : DolBytes → Option (DolEntry × Length)
dol_entry_at s = dol_entry_with_tag s (tag_at s)

-- an entry before the others; broken where any part is
unfoldable pub prepend_dol_entry : DolEntry → Option (List DolEntry) → Option (List DolEntry)
prepend_dol_entry e None = None
prepend_dol_entry e (Some es) = Some (e ∷ es)

-- one entry, and what k parses of the bytes after it
abbrev pub dol_entry_then_rest : (DolBytes → Option (List DolEntry)) → DolBytes → Option (DolEntry × Length) → Option (List DolEntry)
dol_entry_then_rest k s None = None
dol_entry_then_rest k s (Some (e, size)) = prepend_dol_entry e (k (drop size s))

-- nothing more, or one entry and what k parses of the bytes after it
unfoldable pub dol_entries_step : (DolBytes → Option (List DolEntry)) → DolBytes → Option (List DolEntry)
dol_entries_step k [] = Some []
dol_entries_step k (b ∷ s) = dol_entry_then_rest k (b ∷ s) (dol_entry_at (b ∷ s))

-- the entries of a list, or none where it is broken: a bad tag, or an end inside an entry
unfoldable pub dol_entries : DolBytes → Option (List DolEntry)
dol_entries s = recurse_with_fuel_from_length None dol_entries_step s

-- how many bytes are requested in all
unfoldable pub dol_total_length : List DolEntry → Length
dol_total_length [] = 0
dol_total_length (e ∷ es) = e.asked + dol_total_length es

-- ---- what holds of it, proved in proofs/Entries for all lists
--   entry-inside     an entry takes two bytes at least, all inside its list
--   entry-kept       bytes after the list do not change its entry
--   unroll           the entries of a list are its first one and those of the rest
--   entries-end, entries-broken, entries-more    one law for each way out of a step
--   entries-join     the entries of two whole lists concatenated are the entries of both, concatenated
