-- What callers of this crate may rely on, over every list: what an entry that satisfies the rules is, what an accepted
-- AFL is, and which record is the k-th.
-- Assumes nothing.
use Rattle.std.specs.Prelude.{Option, Some, None}
use mathlib.Core.Path.{◌≡◌, refl, sym, ap, ◌∙◌}
use mathlib.Core.Bool.{true, false}
use mathlib.Core.Logic.{inl, inr}
use mathlib.Core.List.{List, [], ◌∷◌, ◌++◌}
use Prim.Native.Nat.{ℕ, zero, suc, ◌+◌, ◌-◌, ◌%◌, ◌≤◌, ◌<◌}
use native.Mathlib.Omega.{arith}
use lib.Dec.{leb}
use lib.ListN.{length, get_or, take, drop}
use borrow.Author.Tests.{leb-true, leb-false, eqb-true, le-leb, eq-eqb}
use Rattle.basics.specs.Choice.{every}
use Rattle.basics.specs.Reason.{reason_afl_invalid, reason_unless}
use Rattle.basics.proofs.Laws.{if_yes, if_no, bool_cases, both_yes, both_left, both_right}
use Rattle.afl.specs.declared.AflExtent.{AflExtent}
use Rattle.afl.specs.declared.AflEntry.{AflEntry}
use Rattle.afl.specs.declared.CardRecord.{CardRecord}
use Rattle.afl.specs.Entry.{entry_sfi, entry_record_count, valid_entry}
use Rattle.afl.specs.Records.{afl_entries, afl_length_is_multiple_of4, sum_over_entries, afl_records, afl_record_count}
use Rattle.afl.specs.Records.{accepts_afl, afl_checked, afl_reason, record_at_index, kth_record_from_one}
use Rattle.afl.specs.Records.{kth_record_of_accepted_afl}
use Rattle.afl.proofs.Records.{entries_short, whole_length, records_length, records_all, last_bytes, nth_split}
use Rattle.afl.proofs.Records.{nth_take, nth_inside, nth_there, nth_none, not_at}

-- ---- an entry

-- the rules of an entry, each as a fact
pub record Kept (e : AflEntry) : Type 0 where
  pub low : e.lead % 8 ≡ 0
  pub sfi : 1 ≤ entry_sfi e
  pub most : entry_sfi e ≤ 30
  pub first : 1 ≤ e.first
  pub last : e.first ≤ e.last
  pub offline : e.offline ≤ entry_record_count e

pub kept_keeps : (e : AflEntry) → Kept e → valid_entry e ≡ true
unfolding valid_entry
kept_keeps e k =
    both_yes _ _ (eq-eqb _ 0 k.low)
    (both_yes _ _ (both_yes _ _ (le-leb 1 _ k.sfi) (le-leb _ 30 k.most))
    (both_yes _ _ (le-leb 1 _ k.first)
    (both_yes _ _ (le-leb _ _ k.last)
    (le-leb _ _ k.offline))))

pub keeps_kept : (e : AflEntry) → valid_entry e ≡ true → Kept e
unfolding valid_entry
keeps_kept e t =
    let b = both_right _ _ t in
    let c = both_right _ _ b in
    let d = both_right _ _ c in
    record {
      low = eqb-true _ 0 (both_left _ _ t);
      sfi = leb-true 1 _ (both_left _ _ (both_left _ _ b));
      most = leb-true _ 30 (both_right _ _ (both_left _ _ b));
      first = leb-true 1 _ (both_left _ _ c);
      last = leb-true _ _ (both_left _ _ d);
      offline = leb-true _ _ (both_right _ _ d);
    }

-- of an entry that satisfies the rules, the records are last - first + 1, and at least one
pub count_kept : (e : AflEntry) → valid_entry e ≡ true → (entry_record_count e ≡ e.last - e.first + 1)
    × (1 ≤ entry_record_count e)
count_kept e t = let k = keeps_kept e t in omega arith

sum_kept : (x : List AflEntry) → every valid_entry x ≡ true → sum_over_entries entry_record_count x
    ≡ sum_over_entries (λ (e : AflEntry). e.last - e.first + 1) x
unfolding sum_over_entries every
sum_kept [] t = refl
sum_kept (e ∷ x) t = let c = (count_kept e (both_left _ _ t)).0 in rw (c, sum_kept x (both_right _ _ t))

-- ---- an accepted AFL

module _ (s : List ℕ) (a : accepts_afl s ≡ true) where
  pub accepted_whole : afl_length_is_multiple_of4 s ≡ true
  unfolding accepts_afl
  accepted_whole = both_left _ _ a

  pub accepted_keeps : every valid_entry (afl_entries s) ≡ true
  unfolding accepts_afl
  accepted_keeps = both_left _ _ (both_right _ _ a)

  -- R is 1 to 128
  pub accepted_total : (1 ≤ afl_record_count s) × (afl_record_count s ≤ 128)
  unfolding accepts_afl
  accepted_total =
      let t = both_right _ _ (both_right _ _ a) in
      (leb-true 1 (afl_record_count s) (both_left _ _ t), leb-true (afl_record_count s) 128 (both_right _ _ t))

  -- R is the sum of last - first + 1
  pub accepted_sum : afl_record_count s ≡ sum_over_entries (λ (e : AflEntry). e.last - e.first + 1) (afl_entries s)
  accepted_sum = sum_kept (afl_entries s) accepted_keeps

  not_short : length s < 4 → ⊥
  unfolding sum_over_entries
  not_short h = let z : afl_record_count s ≡ 0 = ap (sum_over_entries entry_record_count) (entries_short s h) in
      omega (arith, accepted_total.0)

  -- a multiple of 4 bytes, and 4 at least
  pub accepted_length : (length s % 4 ≡ 0) × (4 ≤ length s)
  accepted_length = (whole_length s accepted_whole, omega (arith, not_short))

-- ---- a check's answer

pub checked_yes : (s : List ℕ) → accepts_afl s ≡ true → afl_checked s ≡ Some (record { records = afl_record_count s })
unfolding afl_checked
checked_yes s a = if_yes _ _ a

pub checked_no : (s : List ℕ) → accepts_afl s ≡ false → afl_checked s ≡ None
unfolding afl_checked
checked_no s a = if_no _ _ a

pub is_accepted : (s : List ℕ) (x : AflExtent) → afl_checked s ≡ Some x
    → (accepts_afl s ≡ true) × (x ≡ record { records = afl_record_count s })
is_accepted s x e =
    elim (bool_cases (accepts_afl s)) [
      | inl y ↦ (let f = checked_yes s y in (y, cc))
      | inr n ↦ (let f = checked_no s n in let z : ◌≡◌ {A = ℕ} 0 1 = cc in absurd (omega arith))
    ]

pub is_rejected : (s : List ℕ) → afl_checked s ≡ None → accepts_afl s ≡ false
is_rejected s e =
    elim (bool_cases (accepts_afl s)) [
      | inl y ↦ (let f = checked_yes s y in let z : ◌≡◌ {A = ℕ} 0 1 = cc in absurd (omega arith))
      | inr n ↦ n
    ]

-- the reason is that of the AFL's rules, unless it is accepted
pub checked_number : (s : List ℕ) → afl_reason (afl_checked s) ≡ reason_unless (accepts_afl s) reason_afl_invalid
checked_number s =
    elim (bool_cases (accepts_afl s)) [
      | inl y ↦ ap afl_reason (checked_yes s y) ∙ sym (if_yes _ _ y)
      | inr n ↦ ap afl_reason (checked_no s n) ∙ sym (if_no _ _ n)
    ]

-- what a check states of its answer
pub checked_says : (s : List ℕ) (r : Option AflExtent) → afl_checked s ≡ r
    → (r ≡ afl_checked s) × (afl_reason r ≡ reason_unless (accepts_afl s) reason_afl_invalid)
checked_says s r e = (sym e, ap afl_reason (sym e) ∙ checked_number s)

-- ---- the k-th record

-- from 1 on, the k-th record is at place k - 1
pub kth_nth : (k : ℕ) (l : List CardRecord) → 1 ≤ k → kth_record_from_one k l ≡ record_at_index (k - 1) l
unfolding kth_record_from_one
kth_nth zero l h = absurd (omega arith)
kth_nth (suc i) l h = let e : suc i - 1 ≡ i = omega arith in rw e

pub kth_zero : (k : ℕ) (l : List CardRecord) → k ≡ 0 → kth_record_from_one k l ≡ None
unfolding kth_record_from_one
kth_zero k l e = rw e

-- the k-th record of an accepted AFL is that of its records; no other AFL has one
pub record_yes : (s : List ℕ) (k : ℕ) → accepts_afl s ≡ true → kth_record_of_accepted_afl s k ≡ kth_record_from_one k
    (afl_records s)
unfolding kth_record_of_accepted_afl
record_yes s k a = if_yes _ _ a

pub record_no : (s : List ℕ) (k : ℕ) → accepts_afl s ≡ false → kth_record_of_accepted_afl s k ≡ None
unfolding kth_record_of_accepted_afl
record_no s k a = if_no _ _ a

-- every k from 1 to R has its record, and no other k
pub record_there : (s : List ℕ) (k : ℕ) (d : CardRecord) → accepts_afl s ≡ true → 1 ≤ k → k ≤ afl_record_count s
    → kth_record_of_accepted_afl s k ≡ Some (get_or (afl_records s) (k - 1) d)
record_there s k d a lo hi = record_yes s k a ∙ kth_nth k (afl_records s) lo ∙ nth_there (k - 1) (afl_records s) d
    (omega (arith, records_length s))

pub record_zero : (s : List ℕ) → kth_record_of_accepted_afl s 0 ≡ None
record_zero s =
    elim (bool_cases (accepts_afl s)) [
      | inl y ↦ record_yes s 0 y ∙ kth_zero 0 (afl_records s) refl
      | inr n ↦
          record_no s 0 n
    ]

pub record_past : (s : List ℕ) (k : ℕ) → afl_record_count s < k → kth_record_of_accepted_afl s k ≡ None
record_past s k h =
    elim (bool_cases (accepts_afl s)) [
      | inl y ↦ record_yes s k y ∙ kth_nth k (afl_records s) (omega arith) ∙ nth_none (k - 1) (afl_records s)
          (omega (arith, records_length s))
      | inr n ↦ record_no s k n
    ]

module _ (s : List ℕ) (k : ℕ) (r : CardRecord) (e : kth_record_of_accepted_afl s k ≡ Some r) where
  pub record_accepted : accepts_afl s ≡ true
  record_accepted =
      elim (bool_cases (accepts_afl s)) [
        | inl y ↦ y
        | inr n ↦ not_at e (record_no s k n)
      ]

  record_from : 1 ≤ k
  record_from =
      elim (bool_cases (leb 1 k)) [
        | inl y ↦ leb-true 1 k y
        | inr n ↦
            (let h = leb-false 1 k n in
            not_at e (record_yes s k record_accepted ∙ kth_zero k (afl_records s) (omega arith)))
      ]

  record_nth : record_at_index (k - 1) (afl_records s) ≡ Some r
  record_nth = sym (record_yes s k record_accepted ∙ kth_nth k (afl_records s) record_from) ∙ e

  pub record_inside : (1 ≤ k) × (k ≤ afl_record_count s)
  record_inside = let h = nth_inside (k - 1) (afl_records s) r record_nth in
      (record_from, omega (arith, records_length s))

  -- the records before it, itself, and the records after it
  pub record_split : afl_records s ≡ take (k - 1) (afl_records s) ++ (r ∷ drop k (afl_records s))
  record_split =
      let h = record_from in
      let f : suc (k - 1) ≡ k = omega arith in
      rw f at (nth_split (k - 1) (afl_records s) r record_nth)

  -- the first k records are the first k - 1 and this one
  pub record_take : take k (afl_records s) ≡ take (k - 1) (afl_records s) ++ (r ∷ [])
  record_take =
      let h = record_from in
      let f : suc (k - 1) ≡ k = omega arith in
      rw f at (nth_take (k - 1) (afl_records s) r record_nth)

  -- its file is 1 to 30 and its number is not 0
  pub record_named : (1 ≤ r.sfi) × (r.sfi ≤ 30) × (1 ≤ r.number)
  record_named =
      records_all valid_entry (λ (q : CardRecord). (1 ≤ q.sfi) × (q.sfi ≤ 30) × (1 ≤ q.number))
      (λ x t i h. let kept = keeps_kept x t in (kept.sfi, kept.most, omega arith))
      (afl_entries s) (accepted_keeps s record_accepted) (k - 1) r record_nth

  -- of an AFL of bytes, its number is a byte
  pub record_byte : ((i : ℕ) → get_or s i 0 < 256) → r.number ≤ 255
  record_byte b =
      records_all (λ (x : AflEntry). leb x.last 255) (λ (q : CardRecord). q.number ≤ 255)
      (λ x t i h. let l = leb-true x.last 255 t in omega arith)
      (afl_entries s) (last_bytes s b) (k - 1) r record_nth
