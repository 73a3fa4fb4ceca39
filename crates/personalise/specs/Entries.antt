-- The AFL as it is proposed (document 02, Item 4; document 01, "Commands and steps", Locator): what an entry must
-- satisfy after the entries before it, and the number of the first that does not.
-- Assumes nothing.
use Rattle.std.specs.Prelude.{Bool, not, List, [], ◌∷◌, ◌++◌, ◌+◌, ◌%◌, length, Option, Some, None, ℕ}
use Rattle.basics.specs.Types.{AflBytes, Count}
use Rattle.basics.specs.Choice.{when◌then◌else◌, ◌and◌, ◌≤?◌, ◌<?◌, ◌=?◌, every}
use Rattle.basics.specs.Number.{between}
use Rattle.afl.specs.declared.AflEntry.{AflEntry}
use Rattle.afl.specs.Entry.{entry_sfi, entry_record_count}
use Rattle.afl.specs.Records.{afl_entries, afl_length_is_multiple_of4, sum_over_entries}

-- the most entries, and the most records
abbrev pub most_afl_entries : Count
most_afl_entries = 62

abbrev pub most_card_records : Count
most_card_records = 128

-- ---- one entry

-- by itself: no low bit in byte 1, a file number from 1 to 10, records numbered from 1 on, in order, and byte 4 zero
unfoldable pub valid_entry_sfi1_to10_no_offline_auth : AflEntry → Bool
valid_entry_sfi1_to10_no_offline_auth e =
    e.lead % 8 =? 0
    and between 1 (entry_sfi e) 10
    and 1 ≤? e.first
    and e.first ≤? e.last
    and e.offline =? 0

-- two entries name a record both: the same file, and their ranges meet
abbrev pub entries_overlap : AflEntry → AflEntry → Bool
entries_overlap e f = entry_sfi e =? entry_sfi f and e.first ≤? f.last and f.first ≤? e.last

-- an entry names no record that one of the entries before it names
unfoldable pub overlaps_none_before : List AflEntry → AflEntry → Bool
overlaps_none_before before e = every (λ f. not (entries_overlap f e)) before

-- after those before it: one of 62 at most, valid by itself, no record named twice, 128 records at most
unfoldable pub valid_entry_after_within_count_limits : List AflEntry → AflEntry → Bool
valid_entry_after_within_count_limits before e =
    length before <? most_afl_entries
    and valid_entry_sfi1_to10_no_offline_auth e
    and overlaps_none_before before e
    and sum_over_entries entry_record_count before + entry_record_count e ≤? most_card_records

-- ---- the first bad entry, by its number from 1

-- the first bad one of some entries, after those before; at their end one that is truncated is bad (`whole` says that
-- there is none), and so is the first where there is no entry
unfoldable pub first_bad_or_truncated_entry_after : List AflEntry → List AflEntry → Bool → Option ℕ
first_bad_or_truncated_entry_after before [] whole = when whole and 0 <? length before then None else Some (length before + 1)
first_bad_or_truncated_entry_after before (e ∷ es) whole =
    when valid_entry_after_within_count_limits before e then first_bad_or_truncated_entry_after (before ++ (e ∷ [])) es whole
    else Some (length before + 1)

-- the first bad entry of an AFL
unfoldable pub first_bad_entry : AflBytes → Option ℕ
first_bad_entry s = first_bad_or_truncated_entry_after [] (afl_entries s) (afl_length_is_multiple_of4 s)

-- ---- what holds of it, proved in proofs/ (Rules, Twice) for all entries
--   follows, follows-back    no entry is bad exactly where each satisfies the rules by itself, no two meet, there are 1
--                            to 62 whole ones, and they name at most 128 records
--   twice-is                 of entries in order no two meet exactly where no record is named twice
--   entry-number             the number of a bad entry is at most 63
