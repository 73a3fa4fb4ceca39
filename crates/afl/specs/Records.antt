-- The AFL, tag 94, as a whole (document 01, "Commands and steps", Locator, "What demand 3 counts"): its entries, the
-- records that it names in the published order, and when it is accepted. An AFL is any list of bytes.
-- Assumes nothing.
use Rattle.afl.specs.declared.AflExtent.{AflExtent}
use Rattle.std.specs.Prelude.{Bool, List, [], ◌∷◌, ◌++◌, ℕ, zero, suc, ◌+◌, ◌%◌, length, Option, Some, None}
use Rattle.basics.specs.Types.{AflBytes, Count, Reason, RecordNumber, SfiNumber}
use Rattle.basics.specs.Choice.{when◌then◌else◌, ◌and◌, ◌=?◌, every}
use Rattle.basics.specs.Reason.{reason_none, reason_afl_invalid}
use Rattle.afl.specs.declared.AflEntry.{AflEntry}
use Rattle.afl.specs.declared.CardRecord.{CardRecord}
use Rattle.afl.specs.Entry.{afl_entry, entry_sfi, entry_record_count, valid_entry}
use Rattle.basics.specs.Number.{between}

-- the entries, four bytes each, from the front; one to three bytes after the last are no entry
unfoldable pub afl_entries : AflBytes → List AflEntry
afl_entries [] = []
afl_entries (a ∷ []) = []
afl_entries (a ∷ b ∷ []) = []
afl_entries (a ∷ b ∷ c ∷ []) = []
afl_entries (a ∷ b ∷ c ∷ d ∷ rest) = afl_entry a b c d ∷ afl_entries rest

-- the bytes are whole entries
unfoldable pub afl_length_is_multiple_of4 : AflBytes → Bool
afl_length_is_multiple_of4 s = length s % 4 =? 0

-- n records of one file, numbered upwards from a first number
unfoldable pub consecutive_records : SfiNumber → RecordNumber → Count → List CardRecord
consecutive_records sfi number zero = []
consecutive_records sfi number (suc n) = record { sfi = sfi; number = number } ∷ consecutive_records sfi (number + 1) n

-- the records of one entry, from its first to its last
abbrev pub entry_records : AflEntry → List CardRecord
entry_records e = consecutive_records (entry_sfi e) e.first (entry_record_count e)

-- the records of entries, entry by entry
unfoldable pub records_of_entries : List AflEntry → List CardRecord
records_of_entries [] = []
records_of_entries (e ∷ es) = entry_records e ++ records_of_entries es

-- the sum of a number over entries
unfoldable pub sum_over_entries : (AflEntry → ℕ) → List AflEntry → ℕ
sum_over_entries f [] = 0
sum_over_entries f (e ∷ es) = f e + sum_over_entries f es

-- the records that an AFL names, in the published order
abbrev pub afl_records : AflBytes → List CardRecord
afl_records s = records_of_entries (afl_entries s)

-- R, how many records an AFL names: the sum of last - first + 1
abbrev pub afl_record_count : AflBytes → Count
afl_record_count s = sum_over_entries entry_record_count (afl_entries s)

-- an AFL is accepted (document 01's accepted locator): whole entries, each satisfies the rules, 1 to 128 records in all
unfoldable pub accepts_afl : AflBytes → Bool
accepts_afl s = afl_length_is_multiple_of4 s and every valid_entry (afl_entries s) and between 1 (afl_record_count s) 128

-- what a check of an AFL reports: R if it is accepted
unfoldable pub afl_checked : AflBytes → Option AflExtent
afl_checked s = when accepts_afl s then Some (record { records = afl_record_count s }) else None

-- the number of a check's answer (document 01, "Calls and their numbers"): 0 where it gives no reason, else 5, an AFL
-- that breaks its rules
abbrev pub afl_reason : Option AflExtent → Reason
afl_reason (Some e) = reason_none
afl_reason None = reason_afl_invalid

-- the record at a place of a list, places counted from 0
unfoldable pub record_at_index : ℕ → List CardRecord → Option CardRecord
record_at_index i [] = None
record_at_index zero (r ∷ l) = Some r
record_at_index (suc i) (r ∷ l) = record_at_index i l

-- the k-th record of a list, k from 1
unfoldable pub kth_record_from_one : RecordNumber → List CardRecord → Option CardRecord
kth_record_from_one zero l = None
kth_record_from_one (suc i) l = record_at_index i l

-- the k-th record of an accepted AFL, k from 1 to R
unfoldable pub kth_record_of_accepted_afl : AflBytes → RecordNumber → Option CardRecord
kth_record_of_accepted_afl s k = when accepts_afl s then kth_record_from_one k (afl_records s) else None
