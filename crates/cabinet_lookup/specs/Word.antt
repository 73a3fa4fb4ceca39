-- Where the value of a tag lies, as one 64-bit word for a host: in which list, from where and how long.
-- Assumes nothing.
use Rattle.std.specs.Prelude.{ℕ, ◌+◌, ◌*◌, ◌/◌, ◌%◌, length, Option, Some, None}
use Rattle.basics.specs.Types.{Length, Offset, StartBytes, Tag, Value}
use Rattle.basics.specs.Choice.{when◌then◌else◌, ◌≤?◌}
use Rattle.cabinet_lookup.specs.declared.LookupSpan.{LookupSpan}
use Rattle.cabinet_lookup.specs.Value.{leading_primitive_objects, first_value_of_tag}
use Rattle.cabinet_lookup.specs.Place.{span_in_site_then_defaults}

-- ---- the source: which list has the tag

-- no list
abbrev pub source_nowhere : ℕ
source_nowhere = 0

-- the site's list
abbrev pub source_site : ℕ
source_site = 1

-- the defaults
abbrev pub source_defaults : ℕ
source_defaults = 2

-- by the value that each list has: the site's list where it has one, an empty one too, else the defaults
unfoldable pub source_by_values : Option Value → Option Value → ℕ
source_by_values (Some v) w = source_site
source_by_values None (Some w) = source_defaults
source_by_values None None = source_nowhere

-- the source of the value of the tag
abbrev pub lookup_source : Tag → StartBytes → StartBytes → ℕ
lookup_source tag site defaults =
    source_by_values (first_value_of_tag tag (leading_primitive_objects site))
    (first_value_of_tag tag (leading_primitive_objects defaults))

-- ---- the word

-- the start in bits 32 to 63, the source in bits 16 and 17, the length in bits 0 to 15
abbrev pub lookup_word_of_span : ℕ → LookupSpan → ℕ
lookup_word_of_span source p = p.start * 0x100000000 + source * 0x10000 + p.len

-- all ones where both lists together have 2^32 bytes or more
unfoldable pub lookup_word : Tag → StartBytes → StartBytes → ℕ
lookup_word tag site defaults =
    when 0x100000000 ≤? length site + length defaults then 0xFFFFFFFFFFFFFFFF
    else lookup_word_of_span (lookup_source tag site defaults) (span_in_site_then_defaults tag site defaults)

-- ---- the word as a host takes it apart

-- bits 32 to 63
abbrev pub lookup_word_start : ℕ → Offset
lookup_word_start w = w / 0x100000000

-- bits 16 and 17
abbrev pub lookup_word_source : ℕ → ℕ
lookup_word_source w = w / 0x10000 % 4

-- bits 0 to 15
abbrev pub lookup_word_length : ℕ → Length
lookup_word_length w = w % 0x10000

-- ---- what holds of it, proved in proofs/Laws and proofs/Named, where both lists together have fewer than 2^32 bytes
--   word-below     the word of a place is never all ones
--   word-start     the word's start, source and length are those of the tag's value (`word_source`, `word_length`)
