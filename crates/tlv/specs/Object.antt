-- A data object at the front of some bytes (document 01, "Reading an answer"): tag, length and value, all inside them.
-- Assumes nothing.
use Rattle.tlv.specs.declared.TlvLength.{TlvLength}
use Rattle.std.specs.Prelude.{List, ℕ, ◌+◌, length, take, drop, Option, Some, None}
use Rattle.basics.specs.Choice.{when◌then◌else◌, ◌≤?◌}
use Rattle.tlv.specs.declared.Tag.{Tag}
use Rattle.tlv.specs.declared.TlvHeader.{TlvHeader}
use Rattle.tlv.specs.Tag.{tag_at, is_template, is_private}
use Rattle.tlv.specs.Length.{length_at}

-- the header of a value of n bytes that starts at place a, under the tag t
abbrev pub tlv_header : ℕ → ℕ → ℕ → TlvHeader
tlv_header t a n = record { tag = t; start = a; len = n; template = is_template t; private = is_private t }

-- a tag and a length: an object where the value lies inside the bytes
abbrev pub header_with_length : List ℕ → Tag → Option TlvLength → Option TlvHeader
header_with_length s t None = None
header_with_length s t (Some e) =
    when t.size + e.size + e.len ≤? length s then Some (tlv_header t.number (t.size + e.size) e.len)
    else None

-- a tag: its length follows it
abbrev pub header_with_tag : List ℕ → Option Tag → Option TlvHeader
header_with_tag s None = None
header_with_tag s (Some t) = header_with_length s t (length_at (drop t.size s))

-- the object at the front of the bytes
unfoldable pub header_of : List ℕ → Option TlvHeader
header_of s = header_with_tag s (tag_at s)

-- the same object, with so many more bytes before it
abbrev pub header_shifted : ℕ → TlvHeader → TlvHeader
header_shifted n h = record {
  tag = h.tag;
  start = n + h.start;
  len = h.len;
  template = h.template;
  private =
      h.private;
}

-- an object's value, and the bytes after the object
abbrev pub header_value : List ℕ → TlvHeader → List ℕ
header_value s h = take h.len (drop h.start s)

-- the bytes after the object
abbrev pub behind_object : List ℕ → TlvHeader → List ℕ
behind_object s h = drop (h.start + h.len) s

-- ---- what holds of it, proved in proofs/Laws and proofs/Prefix for all lists
--   header-fits    a value starts at 2 or later and ends inside the list; the header's class is its tag's
--   header-kept    bytes after the list do not change its header
