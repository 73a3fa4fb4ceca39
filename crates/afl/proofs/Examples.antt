-- Worked AFLs, by computation: the one of document 01's bench, two entries in order, and each rule at its edge.
-- Assumes nothing.
use Rattle.std.specs.Prelude.{Some}
use mathlib.Core.Path.{◌≡◌, refl}
use mathlib.Core.Bool.{true, false}
use mathlib.Core.List.{[], ◌∷◌, map}
use Rattle.basics.specs.Choice.{if, both, every}
use Rattle.afl.specs.Entry.{valid_entry}
use Rattle.afl.specs.Records.{afl_entries, afl_length_is_multiple_of4, consecutive_records, records_of_entries}
use Rattle.afl.specs.Records.{sum_over_entries, afl_records, accepts_afl, record_at_index, kth_record_from_one}
use Rattle.afl.specs.Records.{kth_record_of_accepted_afl}

-- entry by entry, from first to last
two_entries : afl_records (0x08 ∷ 1 ∷ 2 ∷ 1 ∷ 0x10 ∷ 3 ∷ 3 ∷ 0 ∷ [])
    ≡ record { sfi = 1; number = 1 } ∷ record { sfi = 1; number = 2 } ∷ record { sfi = 2; number = 3 } ∷ []
unfolding afl_entries records_of_entries consecutive_records
two_entries = refl

third : kth_record_of_accepted_afl (0x08 ∷ 1 ∷ 2 ∷ 1 ∷ 0x10 ∷ 3 ∷ 3 ∷ 0 ∷ []) 3 ≡ Some (record { sfi = 2; number = 3 })
unfolding kth_record_of_accepted_afl kth_record_from_one record_at_index accepts_afl afl_length_is_multiple_of4 afl_entries every
    valid_entry both if records_of_entries sum_over_entries consecutive_records
third = refl

-- 128 records, all of them for offline authentication; file 30; two entries of 64 records
inside : map accepts_afl ((0x08 ∷ 1 ∷ 128 ∷ 128 ∷ []) ∷ (0xF0 ∷ 255 ∷ 255 ∷ 1 ∷ [])
    ∷ (0x08 ∷ 1 ∷ 64 ∷ 0 ∷ 0x10 ∷ 1 ∷ 64 ∷ 0 ∷ []) ∷ []) ≡ true ∷ true ∷ true ∷ []
unfolding accepts_afl afl_length_is_multiple_of4 afl_entries every valid_entry both sum_over_entries
inside = refl

-- 129 records; file 0; file 31; a low bit of byte 1; first record 0; last below first; byte 4 one too many; no
-- entry; five bytes
outside : map accepts_afl
    ((0x08 ∷ 1 ∷ 129 ∷ 0 ∷ [])
    ∷ (0x00 ∷ 1 ∷ 1 ∷ 0 ∷ [])
    ∷ (0xF8 ∷ 1 ∷ 1 ∷ 0 ∷ [])
    ∷ (0x09 ∷ 1 ∷ 1 ∷ 0 ∷ [])
    ∷ (0x08 ∷ 0 ∷ 1 ∷ 0 ∷ [])
    ∷ (0x08 ∷ 2 ∷ 1 ∷ 0 ∷ [])
    ∷ (0x08 ∷ 1 ∷ 1 ∷ 2 ∷ [])
    ∷ []
    ∷ (0x08 ∷ 1 ∷ 1 ∷ 0 ∷ 0 ∷ [])
    ∷ [])
    ≡ false ∷ false ∷ false ∷ false ∷ false ∷ false ∷ false ∷ false ∷ false ∷ []
unfolding accepts_afl afl_length_is_multiple_of4 afl_entries every valid_entry both sum_over_entries
outside = refl
