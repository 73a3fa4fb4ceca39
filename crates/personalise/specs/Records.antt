-- The records of the card (document 02, Item 4): the bytes of each, and the least number of a bad one.
-- Assumes nothing.
use Rattle.std.specs.Prelude.{Bool, not, List, [], ◌∷◌, ◌++◌, ℕ, zero, suc, length, Option, Some, None}
use Rattle.basics.specs.Types.{Bytes, Count, Length, RecordNumber}
use Rattle.basics.specs.Choice.{when◌then◌else◌, ◌and◌, ◌or◌, ◌<?◌, ◌=?◌}
use Rattle.basics.specs.Number.{between}
use Rattle.tlv.specs.Primitives.{Object}
use Rattle.tlv.specs.Encoding.{object_bytes}
use Rattle.personalise.specs.declared.Placement.{Placement}
use Rattle.personalise.specs.Objects.{tag_record_template}
use Rattle.personalise.specs.Placements.{any_placement, objects_in_record_from}

-- ---- bytes

-- objects concatenated, each length in as few bytes as it can be
unfoldable pub encoded_objects : List Object → Bytes
encoded_objects [] = []
encoded_objects (o ∷ os) = object_bytes o.tag o.value ++ encoded_objects os

-- what record k holds inside its template
abbrev pub record_content : List Object → List Placement → RecordNumber → Bytes
record_content os ps k = encoded_objects (objects_in_record_from ps k 1 os)

-- record k: 70, the shortest length, its objects
abbrev pub card_record_bytes : List Object → List Placement → RecordNumber → Bytes
card_record_bytes os ps k = object_bytes tag_record_template (record_content os ps k)

-- n records from number k on
unfoldable pub card_records_from : List Object → List Placement → RecordNumber → Count → List Bytes
card_records_from os ps k zero = []
card_records_from os ps k (suc n) = card_record_bytes os ps k ∷ card_records_from os ps (suc k) n

-- lists of bytes concatenated
unfoldable pub concatenated_records : List Bytes → Bytes
concatenated_records [] = []
concatenated_records (s ∷ ss) = s ++ concatenated_records ss

-- ---- bad records

-- the most bytes inside a record's template
abbrev pub most_record_content_bytes : Length
most_record_content_bytes = 253

-- a placement names record k, and either that is none of n records or the object none of m
abbrev pub is_out_of_range_placement_into : Count → Count → RecordNumber → Placement → Bool
is_out_of_range_placement_into n m k p = p.into =? k and not (between 1 p.into n and between 1 p.object m)

-- record k is bad, of n records: a placement into it strays, or its content is over 253 bytes
unfoldable pub has_bad_placement_or_over253_bytes : List Object → List Placement → Count → RecordNumber → Bool
has_bad_placement_or_over253_bytes os ps n k =
    any_placement (is_out_of_range_placement_into n (length os) k) ps or most_record_content_bytes <? length
    (record_content os ps k)

-- the first of m numbers from k on that passes a test
unfoldable pub first_bad_number_from : (ℕ → Bool) → ℕ → Count → Option ℕ
first_bad_number_from f k zero = None
first_bad_number_from f k (suc m) = when f k then Some k else first_bad_number_from f (suc k) m

-- the least bad record, of n: a placement's record is a byte, and n is at most 128
unfoldable pub first_bad_record : List Object → List Placement → Count → Option ℕ
first_bad_record os ps n = first_bad_number_from (has_bad_placement_or_over253_bytes os ps n) 0 256

-- ---- what holds of it, proved in proofs/ (Least, Stages) for all lists and placements
--   no-bad, no-bad-back    where no bad record is named none of the first 256 numbers is bad; where no number is bad
--                          none is named
--   bytes-most             n records whose contents fit take at most 256 n bytes
