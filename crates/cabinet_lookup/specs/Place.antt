-- Where the value of a tag lies (document 02, Item 14): start and length, in one list and in the site's bytes with the
-- defaults' after them.
-- Assumes nothing.
use Rattle.tlv.specs.declared.TlvHeader.{TlvHeader}
use Rattle.std.specs.Prelude.{◌+◌, length, take, drop, Option, Some, None}
use Rattle.basics.specs.Types.{Bytes, Length, Offset, StartBytes, Tag, Value}
use Rattle.basics.specs.Choice.{when◌then◌else◌, ◌=?◌}
use Rattle.basics.specs.Recursion.{recurse_with_fuel_from_length}
use Rattle.tlv.specs.Object.{behind_object}
use Rattle.tlv.specs.Primitives.{primitive_at_front}
use Rattle.cabinet_lookup.specs.declared.LookupSpan.{LookupSpan}

-- a value of n bytes whose first is at place a, counted from 0
abbrev pub lookup_span : Offset → Length → LookupSpan
lookup_span a n = record { start = a; len = n }

-- the bytes of a value that lies there
abbrev pub span_bytes : Bytes → LookupSpan → Value
span_bytes s p = take p.len (drop p.start s)

-- ---- one list

-- the same place, with n more bytes before it
unfoldable pub lookup_shifted : Length → Option LookupSpan → Option LookupSpan
lookup_shifted n None = None
lookup_shifted n (Some p) = Some (lookup_span (n + p.start) p.len)

-- the object at the front where it has the tag, else what k finds after it
abbrev pub lookup_at_front : Tag → (StartBytes → Option LookupSpan) → StartBytes → Option TlvHeader → Option LookupSpan
lookup_at_front tag k s None = None
lookup_at_front tag k s (Some h) =
    when h.tag =? tag then Some (lookup_span h.start h.len)
    else lookup_shifted (h.start + h.len) (k (behind_object s h))

-- one step, by what k finds in fewer bytes
abbrev pub lookup_step : Tag → (StartBytes → Option LookupSpan) → StartBytes → Option LookupSpan
lookup_step tag k s = lookup_at_front tag k s (primitive_at_front s)

-- where the first object of the tag lies; absent where the list holds none
unfoldable pub lookup_first : Tag → StartBytes → Option LookupSpan
lookup_first tag s = recurse_with_fuel_from_length None (lookup_step tag) s

-- ---- two lists

-- by what each has, of a site's list of n bytes: in neither, no bytes at the front of the defaults
unfoldable pub span_by_site_or_defaults : Length → Option LookupSpan → Option LookupSpan → LookupSpan
span_by_site_or_defaults n (Some p) r = p
span_by_site_or_defaults n None (Some p) = lookup_span (n + p.start) p.len
span_by_site_or_defaults n None None = lookup_span n 0

-- where the value of the tag lies in the site's bytes and the defaults' after them
abbrev pub span_in_site_then_defaults : Tag → StartBytes → StartBytes → LookupSpan
span_in_site_then_defaults tag site defaults =
    span_by_site_or_defaults (length site) (lookup_first tag site) (lookup_first tag defaults)

-- ---- what holds of it, proved in proofs/Laws for all lists
--   place-unroll    firstAt tag s ≡ nextPlace tag (firstAt tag) s: the steps allowed do not matter
--   value-at        the bytes at the place are the value (specs/Value)
--   place-inside    the place lies inside the site's bytes with the defaults' after them
