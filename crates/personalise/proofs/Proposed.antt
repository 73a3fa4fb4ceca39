-- The entries of a proposed AFL, one at a time: what is said of the bytes after those that were passed. The
-- loops cite these.
-- Assumes nothing.
use Rattle.std.specs.Prelude.{Option, Some, None}
use mathlib.Core.Path.{◌≡◌, refl, sym, ap, ◌∙◌}
use mathlib.Core.Bool.{Bool, true, false, not, ◌&&◌}
use mathlib.Core.List.{List, [], ◌∷◌, ◌++◌}
use Prim.Native.Nat.{ℕ, zero, suc, ◌+◌, ◌*◌, ◌/◌, ◌%◌, ◌<◌, ◌≤◌}
use native.Mathlib.Omega.{arith}
use lib.Dec.{ltb}
use lib.ListN.{length, get_or, take, drop, length-take, length-drop}
use lib.Seq.{take-add, drop-drop}
use borrow.Author.Tests.{lt-ltb, le-ltb}
use Rattle.basics.specs.Choice.{if, both, every}
use Rattle.basics.proofs.Laws.{if_yes, if_no, both_yes, both_no_left, both_no_right}
use Rattle.std.specs.List.{list_all, sum_by, enumerate_from}
use Rattle.std.proofs.lemmas.List.FromFn.{length-enumerate_from, get_or-enumerate_from}
use Rattle.std.proofs.lemmas.List.Recursion.{is_sum_by}
use Rattle.afl.specs.declared.AflEntry.{AflEntry}
use Rattle.afl.specs.Entry.{first_afl_entry, entry_record_count}
use Rattle.afl.specs.Records.{afl_entries, afl_length_is_multiple_of4, sum_over_entries, afl_record_count}
use Rattle.afl.proofs.Records.{entries_front, entries_short, entries_join, whole_of, part_of}
use Rattle.personalise.specs.Entries.{entries_overlap, overlaps_none_before}
use Rattle.personalise.specs.Entries.{valid_entry_after_within_count_limits}
use Rattle.personalise.specs.Entries.{first_bad_or_truncated_entry_after, first_bad_entry}

-- after the last whole entry
abbrev bad_end : List AflEntry → Bool → Option ℕ
bad_end before whole = if (both whole (ltb 0 (length before))) None (Some (length before + 1))

-- a quarter as many entries as bytes
pub entries_count : (s : List ℕ) → length (afl_entries s) ≡ length s / 4
unfolding afl_entries
entries_count [] = refl
entries_count (a ∷ []) = refl
entries_count (a ∷ b ∷ []) = refl
entries_count (a ∷ b ∷ c ∷ []) = refl
entries_count (a ∷ b ∷ c ∷ d ∷ rest) = let ih = entries_count rest in omega arith

-- ---- the entries, as `Entries` gives them

pub front_take : (s : List ℕ) → 4 ≤ length s → first_afl_entry (take 4 s) ≡ first_afl_entry s
front_take [] h = absurd (omega arith)
front_take (a ∷ []) h = absurd (omega arith)
front_take (a ∷ b ∷ []) h = absurd (omega arith)
front_take (a ∷ b ∷ c ∷ []) h = absurd (omega arith)
front_take (a ∷ b ∷ c ∷ d ∷ rest) h = refl

-- the entry at a place
pub entry_at : (s : List ℕ) (n : ℕ) (f : AflEntry) → n < length (afl_entries s)
    → (4 * n + 4 ≤ length s) × (get_or (afl_entries s) n f ≡ first_afl_entry (drop (4 * n) s))
unfolding afl_entries
entry_at [] n f h = absurd (omega arith)
entry_at (a ∷ []) n f h = absurd (omega arith)
entry_at (a ∷ b ∷ []) n f h = absurd (omega arith)
entry_at (a ∷ b ∷ c ∷ []) n f h = absurd (omega arith)
entry_at (a ∷ b ∷ c ∷ d ∷ rest) zero f h = (omega arith, refl)
entry_at (a ∷ b ∷ c ∷ d ∷ rest) (suc n) f h =
    let ih = entry_at rest n f (omega arith) in
    let e : suc (suc (suc (suc (4 * n)))) ≡ 4 * suc n = omega arith in
    (omega (arith, ih.0), ih.1 ∙ ap (λ (m : ℕ). first_afl_entry (drop m (a ∷ b ∷ c ∷ d ∷ rest))) e)

-- the one that a loop over them has after n, with its number
pub entry_numbered : (s : List ℕ) (n i : ℕ) (e : AflEntry) → (n < length (enumerate_from 0 (afl_entries s)))
    × ((i, e) ≡ get_or (enumerate_from 0 (afl_entries s)) n (i, e))
    → (i ≡ n) × (4 * n + 4 ≤ length s) × (e ≡ first_afl_entry (drop (4 * n) s))
entry_numbered s n i e t =
    let h : n < length (afl_entries s) = omega (arith, t.0, length-enumerate_from 0 (afl_entries s)) in
    let q = t.1 ∙ get_or-enumerate_from 0 (afl_entries s) n (i, e) h in
    let a = entry_at s n e h in
    (omega (arith, ap (λ (x : ℕ × AflEntry). x.0) q), a.0, ap (λ (x : ℕ × AflEntry). x.1) q ∙ a.1)

-- after them all, fewer than four bytes are left
pub entries_passed : (s : List ℕ) (n : ℕ) → n ≡ length (enumerate_from 0 (afl_entries s)) → length s < 4 * n + 4
entries_passed s n e = omega (arith, length-enumerate_from 0 (afl_entries s), entries_count s)

and_is : (b : Bool) (x y : Bool) → x ≡ y → (b && x) ≡ both b y
unfolding both
and_is true x y e = e
and_is false x y e = refl

-- a test that all pass
pub all_every : {A : Type 0} (f : A → Bool) (xs : List A) → list_all f xs ≡ every f xs
unfolding every
all_every f [] = refl
all_every f (x ∷ xs) = and_is _ _ _ (all_every f xs)

-- no entry before names a record of this one
pub apart_is : (es : List AflEntry) (e : AflEntry) → list_all (λ f. not (entries_overlap f e)) es ≡ overlaps_none_before es e
unfolding overlaps_none_before
apart_is es e = all_every (λ f. not (entries_overlap f e)) es

-- the records that they name
pub total_is : (s : List ℕ) → sum_by entry_record_count (afl_entries s) ≡ afl_record_count s
unfolding sum_over_entries
total_is s = sym (is_sum_by (sum_over_entries entry_record_count) entry_record_count refl (λ e es. refl) (afl_entries s))

-- at most 256 to an entry
pub total_bound : (s : List ℕ) → ((i : ℕ) → get_or s i 0 < 256) → afl_record_count s ≤ 64 * length s
unfolding afl_entries sum_over_entries
total_bound [] h = omega arith
total_bound (a ∷ []) h = omega arith
total_bound (a ∷ b ∷ []) h = omega arith
total_bound (a ∷ b ∷ c ∷ []) h = omega arith
total_bound (a ∷ b ∷ c ∷ d ∷ rest) h =
    let ih = total_bound rest (λ i. h (suc (suc (suc (suc i))))) in omega (arith, h 2)

-- ---- the walk

pub bad_start : (s : List ℕ) → first_bad_entry s ≡ first_bad_or_truncated_entry_after (afl_entries (take 0 s))
    (afl_entries (drop 0 s)) (afl_length_is_multiple_of4 s)
unfolding first_bad_entry afl_entries
bad_start s = refl

module _ (s : List ℕ) (n : ℕ) (l : 4 * n ≤ length s) where
  took : length (take (4 * n) s) ≡ 4 * n
  took = simp length-take (omega arith)

  before_count : length (afl_entries (take (4 * n) s)) ≡ n
  before_count = let t = took in entries_count (take (4 * n) s) ∙ omega arith

  module _ (h : 4 * n + 4 ≤ length s) where
    left : 4 ≤ length (drop (4 * n) s)
    left = simp length-drop (omega arith)

    one : afl_entries (take 4 (drop (4 * n) s)) ≡ first_afl_entry (drop (4 * n) s) ∷ []
    unfolding afl_entries
    one =
        let f : length (take 4 (drop (4 * n) s)) ≡ 4 = let k = left in simp length-take (omega arith) in
        let m : length (drop 4 (take 4 (drop (4 * n) s))) < 4 = rw (length-drop, f) (omega arith) in
        entries_front (take 4 (drop (4 * n) s)) (omega arith) ∙ rw
        (front_take (drop (4 * n) s) left, entries_short (drop 4 (take 4 (drop (4 * n) s))) m)

    before_more : afl_entries (take (4 * n + 4) s) ≡ afl_entries (take (4 * n) s) ++ (first_afl_entry (drop (4 * n) s) ∷ [])
    before_more = let t = took in let e : length (take (4 * n) s) % 4 ≡ 0 = omega arith in
        rw take-add (entries_join (take (4 * n) s) (take 4 (drop (4 * n) s)) e ∙ rw one)

    behind_more : afl_entries (drop (4 * n) s) ≡ first_afl_entry (drop (4 * n) s) ∷ afl_entries (drop (4 * n + 4) s)
    behind_more = entries_front (drop (4 * n) s) left ∙ rw (drop-drop 4 (4 * n) s)

    -- the entry at the place
    module _ (e : AflEntry) (p : e ≡ first_afl_entry (drop (4 * n) s)) where
      pub bad_here : valid_entry_after_within_count_limits (afl_entries (take (4 * n) s)) e ≡ false
          → first_bad_or_truncated_entry_after (afl_entries (take (4 * n) s)) (afl_entries (drop (4 * n) s))
          (afl_length_is_multiple_of4 s) ≡ Some (n + 1)
      unfolding first_bad_or_truncated_entry_after
      bad_here k = rw (behind_more, sym p) (if_no _ _ k ∙ rw before_count)

      pub bad_on : valid_entry_after_within_count_limits (afl_entries (take (4 * n) s)) e ≡ true
          → first_bad_or_truncated_entry_after (afl_entries (take (4 * n) s)) (afl_entries (drop (4 * n) s))
          (afl_length_is_multiple_of4 s)
          ≡ first_bad_or_truncated_entry_after (afl_entries (take (4 * n + 4) s)) (afl_entries (drop (4 * n + 4) s))
          (afl_length_is_multiple_of4 s)
      unfolding first_bad_or_truncated_entry_after
      bad_on k = rw (behind_more, before_more, sym p) (if_yes _ _ k)

  module _ (h : length s < 4 * n + 4) where
    ends : first_bad_or_truncated_entry_after (afl_entries (take (4 * n) s)) (afl_entries (drop (4 * n) s))
        (afl_length_is_multiple_of4 s) ≡ bad_end (afl_entries (take (4 * n) s)) (afl_length_is_multiple_of4 s)
    unfolding first_bad_or_truncated_entry_after
    ends = let m : length (drop (4 * n) s) < 4 = simp length-drop (omega arith) in rw (entries_short (drop (4 * n) s) m)

    pub bad_cut : (length s % 4 ≡ 0 → ⊥) → first_bad_or_truncated_entry_after (afl_entries (take (4 * n) s))
        (afl_entries (drop (4 * n) s)) (afl_length_is_multiple_of4 s) ≡ Some (length s / 4 + 1)
    bad_cut m = let e : n ≡ length s / 4 = omega arith in
        ends ∙ if_no _ _ (both_no_left _ _ (part_of s m)) ∙ rw (before_count, e)

    pub bad_none : length s ≡ 0 → first_bad_or_truncated_entry_after (afl_entries (take (4 * n) s)) (afl_entries (drop (4 * n) s))
        (afl_length_is_multiple_of4 s) ≡ Some (length s / 4 + 1)
    bad_none z =
        let b = before_count in
        let e : n ≡ length s / 4 = omega arith in
        ends ∙ if_no _ _ (both_no_right _ _ (le-ltb 0 (length (afl_entries (take (4 * n) s))) (omega arith))) ∙ rw (b, e)

    pub bad_nothing : length s % 4 ≡ 0 → (length s ≡ 0 → ⊥) → first_bad_or_truncated_entry_after (afl_entries (take (4 * n) s))
        (afl_entries (drop (4 * n) s)) (afl_length_is_multiple_of4 s) ≡ None
    bad_nothing m z =
        let b = before_count in
        ends ∙ if_yes _ _
        (both_yes _ _ (whole_of s m) (lt-ltb 0 (length (afl_entries (take (4 * n) s))) (omega arith)))
