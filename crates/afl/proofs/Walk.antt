-- One entry at a time: what a check and a search say of the bytes that are left, before and after an entry. The
-- loops cite these.
-- Assumes nothing.
use Rattle.std.specs.Prelude.{Option, Some, None}
use Rattle.afl.specs.declared.AflExtent.{AflExtent}
use mathlib.Core.Path.{◌≡◌, refl, ap, ◌∙◌}
use mathlib.Core.Bool.{Bool, true, false}
use mathlib.Core.List.{List, [], ◌∷◌, ◌++◌}
use Prim.Native.Nat.{ℕ, ◌+◌, ◌-◌, ◌%◌, ◌≤◌, ◌<◌}
use native.Mathlib.Nat.{zero-add, add-zero, add_assoc}
use native.Mathlib.Omega.{arith}
use lib.ListN.{length}
use borrow.Author.Tests.{le-leb, lt-leb}
use Rattle.basics.specs.Choice.{if, both, every}
use Rattle.basics.proofs.Laws.{if_yes, if_no, both_yes, both_no_left, both_no_right}
use Rattle.afl.specs.declared.AflEntry.{AflEntry}
use Rattle.afl.specs.Entry.{first_afl_entry, entry_sfi, entry_record_count, valid_entry}
use Rattle.basics.specs.Number.{between}
use Rattle.afl.specs.Records.{afl_entries, entry_records, records_of_entries, sum_over_entries}
use Rattle.afl.specs.Records.{afl_records, afl_record_count, accepts_afl, afl_checked, record_at_index}
use Rattle.afl.proofs.Records.{entries_short, whole_of, part_of, nth_named, nth_beyond}

-- four bytes at the front are one entry
chunk_entry : (x s : List ℕ) → length x ≡ 4 → afl_entries (x ++ s) ≡ first_afl_entry x ∷ afl_entries s
unfolding afl_entries
chunk_entry [] s l = absurd (omega arith)
chunk_entry (a ∷ []) s l = absurd (omega arith)
chunk_entry (a ∷ b ∷ []) s l = absurd (omega arith)
chunk_entry (a ∷ b ∷ c ∷ []) s l = absurd (omega arith)
chunk_entry (a ∷ b ∷ c ∷ d ∷ []) s l = refl
chunk_entry (a ∷ b ∷ c ∷ d ∷ f ∷ x) s l = absurd (omega arith)

-- ---- a check

-- what a check reports of R, given whether the entries satisfy the rules
abbrev verdict : Bool → ℕ → Option AflExtent
verdict k n = if (both k (between 1 n 128)) (Some (record { records = n })) None

-- what a check reports of the whole entries s, where entries with n records stood before them
unfoldable pub onwards : ℕ → List ℕ → Option AflExtent
onwards n s = verdict (every valid_entry (afl_entries s)) (n + afl_record_count s)

pub check_start : (s : List ℕ) → length s % 4 ≡ 0 → afl_checked s ≡ onwards 0 s
unfolding afl_checked accepts_afl onwards both
check_start s w = rw (whole_of s w, zero-add)

pub check_part : (s : List ℕ) → (length s % 4 ≡ 0 → ⊥) → afl_checked s ≡ None
unfolding afl_checked accepts_afl
check_part s f = if_no _ _ (both_no_left _ _ (part_of s f))

pub check_many : (n : ℕ) (s : List ℕ) → 128 < n → onwards n s ≡ None
unfolding onwards
check_many n s h =
    if_no _ _ (both_no_right _ _ (both_no_right _ _ (lt-leb (n + afl_record_count s) 128 (omega arith))))

check_end : (n : ℕ) (s : List ℕ) → length s < 4 → onwards n s ≡ verdict true n
unfolding onwards every sum_over_entries
check_end n s l = rw (entries_short s l, add-zero)

pub check_none : (n : ℕ) (s : List ℕ) → length s < 4 → n ≡ 0 → onwards n s ≡ None
check_none n s l z = check_end n s l ∙ if_no _ _ (both_no_right _ _ (both_no_left _ _ (lt-leb 1 n (omega arith))))

pub check_all : (n : ℕ) (s : List ℕ) → length s < 4 → 1 ≤ n → n ≤ 128 → onwards n s ≡ Some (record { records = n })
check_all n s l lo hi =
    check_end n s l ∙ if_yes _ _ (both_yes _ _ refl (both_yes _ _ (le-leb 1 n lo) (le-leb n 128 hi)))

-- ---- the bytes r, of which the entry e in the four bytes x is the first, and the bytes s after it

module _ (r x s : List ℕ) (j : r ≡ x ++ s) (l : length x ≡ 4) (e : AflEntry) (p : e ≡ first_afl_entry x) where
  entries_are : afl_entries r ≡ e ∷ afl_entries s
  entries_are = rw (j, p) (chunk_entry x s l)

  pub check_broken : (n : ℕ) → valid_entry e ≡ false → onwards n r ≡ None
  unfolding onwards every
  check_broken n k = if_no _ _ (both_no_left _ _ (ap (every valid_entry) entries_are ∙ both_no_left _ _ k))

  pub check_next : (n : ℕ) → valid_entry e ≡ true → onwards n r ≡ onwards (n + entry_record_count e) s
  unfolding onwards every sum_over_entries both
  check_next n k = rw (entries_are, k, add_assoc)

  records_are : afl_records r ≡ entry_records e ++ afl_records s
  unfolding records_of_entries
  records_are = ap records_of_entries entries_are

  -- ---- a search for the record at a place

  pub seek_here : (i : ℕ) → i < entry_record_count e
      → record_at_index i (afl_records r) ≡ Some (record { sfi = entry_sfi e; number = e.first + i })
  seek_here i f = rw records_are (nth_named e (afl_records s) i f)

  pub seek_past : (i : ℕ) → entry_record_count e ≤ i
      → record_at_index i (afl_records r) ≡ record_at_index (i - entry_record_count e) (afl_records s)
  seek_past i f = rw records_are (nth_beyond e (afl_records s) i f)

pub seek_end : (i : ℕ) (s : List ℕ) → length s < 4 → record_at_index i (afl_records s) ≡ None
unfolding record_at_index records_of_entries
seek_end i s h = rw (entries_short s h)
