-- The part of two lists that a word names, and that it is the one that a lookup returns (document 02, Item 14).
-- Assumes nothing.
use Rattle.std.specs.Prelude.{◌≡◌, ◌++◌, ℕ, ◌+◌, ◌-◌, ◌<◌, length}
use Rattle.std.specs.Borrow.{Bor}
use Rattle.basics.specs.Types.{StartBytes, Tag, Value}
use Rattle.basics.specs.Choice.{when◌then◌else◌, ◌=?◌}
use Rattle.cabinet_lookup.specs.Place.{lookup_span, span_bytes}
use Rattle.cabinet_lookup.specs.Address.{address_after}
use Rattle.cabinet_lookup.specs.Word.{source_site, lookup_source, lookup_word, lookup_word_start, lookup_word_source}
use Rattle.cabinet_lookup.specs.Word.{lookup_word_length}

-- where the part begins: in the site's list at the start; else in the defaults, the site's bytes not counted
abbrev pub address_from_word : ℕ → Bor StartBytes → Bor StartBytes → ℕ × ℕ
address_from_word w site defaults =
    when lookup_word_source w =? source_site then address_after (lookup_word_start w) site.ref_ptr
    else address_after (lookup_word_start w - length site.now) defaults.ref_ptr

-- source, start and length of a word are those of a part of the two lists
pub record WordDescribesPart (lookup_word_given : ℕ) (tag : Tag) (site defaults : Bor StartBytes) (part : Bor Value) :
    Type 0 where
  -- the list that has the tag, or nowhere
  pub source : lookup_word_source lookup_word_given ≡ lookup_source tag site.now defaults.now
  pub address : part.ref_ptr ≡ address_from_word lookup_word_given site defaults
  pub len : length part.now ≡ lookup_word_length lookup_word_given
  pub bytes : part.now ≡ span_bytes (site.now ++ defaults.now)
      (lookup_span (lookup_word_start lookup_word_given) (lookup_word_length lookup_word_given))

-- the word of the tag names the part, where both lists together have fewer than 2^32 bytes
abbrev pub LookupWordDescribesPart : Tag → Bor StartBytes → Bor StartBytes → Bor Value → Type 0
LookupWordDescribesPart tag site defaults part =
    length site.now + length defaults.now < 0x100000000
    → WordDescribesPart (lookup_word tag site.now defaults.now) tag site defaults part
