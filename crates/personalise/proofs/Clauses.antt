-- The rules of a personalisation (document 02, Item 4) as facts, a clause for each: all is written exactly where they
-- hold (`exactly`, proofs/Exact). The tests of specs/Outcome decide; this says the same of a whole AFL at once.
-- Assumes nothing.
use mathlib.Core.Path.{◌≡◌}
use mathlib.Core.Bool.{Bool, true, not}
use mathlib.Core.List.{List, [], ◌∷◌}
use Prim.Native.Nat.{ℕ, ◌≤◌, ◌%◌}
use lib.ListN.{length}
use Rattle.basics.specs.Types.{Bytes, Count}
use Rattle.basics.specs.Choice.{◌and◌, ◌=?◌, ◌≤?◌, every}
use Rattle.basics.specs.Number.{between}
use Rattle.tlv.specs.Primitives.{primitive_objects, are_primitive_objects_parsed}
use Rattle.afl.specs.declared.AflEntry.{AflEntry}
use Rattle.afl.specs.declared.CardRecord.{CardRecord}
use Rattle.afl.specs.Entry.{entry_sfi}
use Rattle.afl.specs.Records.{afl_entries, afl_length_is_multiple_of4, afl_records, afl_record_count}
use Rattle.personalise.specs.declared.Placement.{Placement}
use Rattle.personalise.specs.Objects.{tag_and_value_allowed_in_record, tags_distinct}
use Rattle.personalise.specs.Placements.{each_placed_once}
use Rattle.personalise.specs.Entries.{most_afl_entries, most_card_records}
use Rattle.personalise.specs.Records.{record_content, most_record_content_bytes}
use Rattle.personalise.specs.Outcome.{least_records_buffer_size, least_afl_buffer_size, CardPlan, objects_of_plan}
use Rattle.personalise.specs.Outcome.{placements_of_plan, PersonaliseResult}
use Rattle.personalise.specs.Word.{is_written}

-- ---- one entry

-- the low three bits of byte 1 are 0
abbrev pub low_bits_clear : AflEntry → Bool
low_bits_clear e = e.lead % 8 =? 0

-- the file number is 1 to 10
abbrev pub sfi_in_range : AflEntry → Bool
sfi_in_range e = between 1 (entry_sfi e) 10

-- the first record's number is not 0
abbrev pub first_record_named : AflEntry → Bool
first_record_named e = 1 ≤? e.first

-- the last record is not below the first
abbrev pub records_in_order : AflEntry → Bool
records_in_order e = e.first ≤? e.last

-- byte 4 is 0
abbrev pub none_offline : AflEntry → Bool
none_offline e = e.offline =? 0

-- ---- the records of an AFL

-- two records are the same: file and number
abbrev pub same_record : CardRecord → CardRecord → Bool
same_record r s = r.sfi =? s.sfi and r.number =? s.number

-- a record is not one of a list
unfoldable pub lacks_record : CardRecord → List CardRecord → Bool
lacks_record r rs = every (λ s. not (same_record r s)) rs

-- no record is in a list twice
unfoldable pub no_record_twice : List CardRecord → Bool
no_record_twice [] = true
no_record_twice (r ∷ rs) = lacks_record r rs and no_record_twice rs

-- ---- placements

-- a placement's record is one of n
abbrev pub places_in_record : Count → Placement → Bool
places_in_record n p = between 1 p.into n

-- a placement's object is one of n
abbrev pub places_object : Count → Placement → Bool
places_object n p = between 1 p.object n

-- its record is one of n, and its object one of m
abbrev pub in_layout : Count → Count → Placement → Bool
in_layout n m p = places_in_record n p and places_object m p

-- ---- the rules

-- for a plan and the caller's buffers r for the records and l for the AFL
pub record PersonaliseRules (p : CardPlan) (r l : Bytes) : Type 0 where
  -- the buffers are large enough
  pub records_lent : least_records_buffer_size ≤ length r
  pub afl_lent : least_afl_buffer_size ≤ length l
  -- the list: whole primitive objects that the card may set in template 70, lengths and digits fitting; no tag twice;
  -- each object in one placement
  pub run : are_primitive_objects_parsed (primitive_objects p.list) ≡ true
  pub settable : every tag_and_value_allowed_in_record (objects_of_plan p) ≡ true
  pub distinct : tags_distinct (objects_of_plan p) ≡ true
  pub once : each_placed_once (placements_of_plan p) 1 (objects_of_plan p) ≡ true
  -- the AFL: 1 to 62 whole entries, each within its rules, no record named twice, 1 to 128 records
  pub whole : afl_length_is_multiple_of4 p.entries ≡ true
  pub some_entry : 1 ≤ length (afl_entries p.entries)
  pub few_entries : length (afl_entries p.entries) ≤ most_afl_entries
  pub low_bits : every low_bits_clear (afl_entries p.entries) ≡ true
  pub files : every sfi_in_range (afl_entries p.entries) ≡ true
  pub firsts : every first_record_named (afl_entries p.entries) ≡ true
  pub lasts : every records_in_order (afl_entries p.entries) ≡ true
  pub byte_four : every none_offline (afl_entries p.entries) ≡ true
  pub apart : no_record_twice (afl_records p.entries) ≡ true
  pub some_record : 1 ≤ afl_record_count p.entries
  pub few_records : afl_record_count p.entries ≤ most_card_records
  -- the records: placements name records of the AFL and objects of the list; each content is at most 253 bytes
  pub named : every (places_in_record (afl_record_count p.entries)) (placements_of_plan p) ≡ true
  pub objects_there : every (places_object (length (objects_of_plan p))) (placements_of_plan p) ≡ true
  pub contents : (k : ℕ) → 1 ≤ k → k ≤ afl_record_count p.entries
      → length (record_content (objects_of_plan p) (placements_of_plan p) k) ≤ most_record_content_bytes

-- the answer a reports that all is written exactly where the rules are satisfied
abbrev pub WrittenExactly : PersonaliseResult → CardPlan → Bytes → Bytes → Type 0
WrittenExactly a p r l = (is_written a ≡ true → PersonaliseRules p r l) × (PersonaliseRules p r l → is_written a ≡ true)
