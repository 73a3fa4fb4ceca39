-- The entries and the records of a list of bytes: four bytes at the front are one entry, whole entries join, and there
-- are as many records as the entries' counts sum to. By clauses on the list, as the definitions go.
-- Assumes nothing.
use Rattle.std.specs.Prelude.{Option, Some, None}
use mathlib.Core.Path.{◌≡◌, refl, sym, ap, ◌∙◌}
use mathlib.Core.Bool.{Bool, true, false}
use mathlib.Core.Logic.{inl, inr}
use mathlib.Core.List.{List, [], ◌∷◌, ◌++◌, append_assoc}
use Prim.Native.Nat.{ℕ, zero, suc, ◌+◌, ◌-◌, ◌%◌, ◌≤◌, ◌<◌}
use native.Mathlib.Nat.{zero-add, add-zero}
use native.Mathlib.Omega.{arith}
use lib.Dec.{leb, ltb}
use lib.ListN.{length, get_or, take, drop, length-append}
use borrow.Author.Tests.{eqb-true, eq-eqb, ne_eqb, le-leb, ltb-true, ltb-false}
use Rattle.basics.specs.Choice.{every}
use Rattle.basics.proofs.Laws.{bool_cases, both_yes, both_left, both_right}
use Rattle.afl.specs.declared.AflEntry.{AflEntry}
use Rattle.afl.specs.declared.CardRecord.{CardRecord}
use Rattle.afl.specs.Entry.{first_afl_entry, entry_sfi, entry_record_count}
use Rattle.afl.specs.Records.{afl_entries, afl_length_is_multiple_of4, consecutive_records, entry_records}
use Rattle.afl.specs.Records.{records_of_entries, sum_over_entries, afl_records, afl_record_count, record_at_index}

-- ---- entries

-- four bytes at the front are one entry
pub entries_front : (s : List ℕ) → 4 ≤ length s → afl_entries s ≡ first_afl_entry s ∷ afl_entries (drop 4 s)
unfolding afl_entries
entries_front [] h = absurd (omega arith)
entries_front (a ∷ []) h = absurd (omega arith)
entries_front (a ∷ b ∷ []) h = absurd (omega arith)
entries_front (a ∷ b ∷ c ∷ []) h = absurd (omega arith)
entries_front (a ∷ b ∷ c ∷ d ∷ rest) h = refl

-- fewer are none
pub entries_short : (s : List ℕ) → length s < 4 → afl_entries s ≡ []
unfolding afl_entries
entries_short [] h = refl
entries_short (a ∷ []) h = refl
entries_short (a ∷ b ∷ []) h = refl
entries_short (a ∷ b ∷ c ∷ []) h = refl
entries_short (a ∷ b ∷ c ∷ d ∷ rest) h = absurd (omega arith)

-- whole entries are a length that is a multiple of 4
pub whole_length : (s : List ℕ) → afl_length_is_multiple_of4 s ≡ true → length s % 4 ≡ 0
unfolding afl_length_is_multiple_of4
whole_length s e = eqb-true (length s % 4) 0 e

pub whole_of : (s : List ℕ) → length s % 4 ≡ 0 → afl_length_is_multiple_of4 s ≡ true
unfolding afl_length_is_multiple_of4
whole_of s e = eq-eqb (length s % 4) 0 e

pub part_of : (s : List ℕ) → (length s % 4 ≡ 0 → ⊥) → afl_length_is_multiple_of4 s ≡ false
unfolding afl_length_is_multiple_of4
part_of s e = ne_eqb (length s % 4) 0 e

-- the entries of whole entries with more after them
pub entries_join : (s t : List ℕ) → length s % 4 ≡ 0 → afl_entries (s ++ t) ≡ afl_entries s ++ afl_entries t
unfolding afl_entries
entries_join [] t w = refl
entries_join (a ∷ []) t w = absurd (omega arith)
entries_join (a ∷ b ∷ []) t w = absurd (omega arith)
entries_join (a ∷ b ∷ c ∷ []) t w = absurd (omega arith)
entries_join (a ∷ b ∷ c ∷ d ∷ rest) t w = ap (λ (l : List AflEntry). first_afl_entry (a ∷ b ∷ c ∷ d ∷ []) ∷ l)
    (entries_join rest t (omega arith))

-- ---- records

records_of_join : (x y : List AflEntry) → records_of_entries (x ++ y) ≡ records_of_entries x ++ records_of_entries y
unfolding records_of_entries
records_of_join [] y = refl
records_of_join (e ∷ x) y = ap (λ (l : List CardRecord). entry_records e ++ l) (records_of_join x y) ∙ sym
    (append_assoc (entry_records e) (records_of_entries x) (records_of_entries y))

-- the records of two lists of whole entries joined are those of the first, then those of the second
pub records_join : (s t : List ℕ) → afl_length_is_multiple_of4 s ≡ true → afl_records (s ++ t) ≡ afl_records s ++ afl_records t
records_join s t w = ap records_of_entries (entries_join s t (whole_length s w)) ∙ records_of_join (afl_entries s)
    (afl_entries t)

length_run : (f k n : ℕ) → length (consecutive_records f k n) ≡ n
unfolding consecutive_records
length_run f k zero = refl
length_run f k (suc n) = ap suc (length_run f (k + 1) n)

length_named : (e : AflEntry) → length (entry_records e) ≡ entry_record_count e
length_named e = length_run _ _ (entry_record_count e)

records_of_length : (x : List AflEntry) → length (records_of_entries x) ≡ sum_over_entries entry_record_count x
unfolding records_of_entries sum_over_entries
records_of_length [] = refl
records_of_length (e ∷ x) =
    length-append (entry_records e) (records_of_entries x) ∙ rw (length_named e, records_of_length x)

-- R is the number of records
pub records_length : (s : List ℕ) → length (afl_records s) ≡ afl_record_count s
records_length s = records_of_length (afl_entries s)

-- ---- a place in a list of records

-- nothing is no record
pub not_at : {A : Type 0} {f : Option CardRecord} {r : CardRecord} → f ≡ Some r → f ≡ None → A
not_at e n = let z : ◌≡◌ {A = ℕ} 0 1 = cc in absurd (omega arith)

nth_left : (i : ℕ) (a b : List CardRecord) → i < length a → record_at_index i (a ++ b) ≡ record_at_index i a
unfolding record_at_index
nth_left i [] b h = absurd (omega arith)
nth_left zero (r ∷ a) b h = refl
nth_left (suc i) (r ∷ a) b h = nth_left i a b (omega arith)

nth_right : (i : ℕ) (a b : List CardRecord) → record_at_index (length a + i) (a ++ b) ≡ record_at_index i b
unfolding record_at_index
nth_right i [] b = rw zero-add
nth_right i (r ∷ a) b =
    let e : suc (length a) + i ≡ suc (length a + i) = omega arith in
    rw e (nth_right i a b)

nth_run : (i f k n : ℕ) → i < n → record_at_index i (consecutive_records f k n) ≡ Some (record { sfi = f; number = k + i })
unfolding record_at_index consecutive_records
nth_run i f k zero h = absurd (omega arith)
nth_run zero f k (suc n) h = rw add-zero
nth_run (suc i) f k (suc n) h =
    let e : k + 1 + i ≡ k + suc i = omega arith in
    nth_run i f (k + 1) n (omega arith) ∙ ap (λ (m : ℕ). Some (record { sfi = f; number = m })) e

-- an entry's records before others: a place below its count is its own, any other one of theirs
module _ (e : AflEntry) (l : List CardRecord) (i : ℕ) where
  pub nth_named : i < entry_record_count e → record_at_index i (entry_records e ++ l)
      ≡ Some (record { sfi = entry_sfi e; number = e.first + i })
  nth_named h = nth_left i (entry_records e) l (rw (length_named e) h) ∙ nth_run i (entry_sfi e) e.first
      (entry_record_count e) h

  pub nth_beyond : entry_record_count e ≤ i → record_at_index i (entry_records e ++ l)
      ≡ record_at_index (i - entry_record_count e) l
  nth_beyond h =
      let j : i ≡ length (entry_records e) + (i - entry_record_count e) = rw (length_named e) (omega arith) in
      ap (λ (m : ℕ). record_at_index m (entry_records e ++ l)) j ∙ nth_right (i - entry_record_count e) (entry_records e) l

pub nth_split : (i : ℕ) (l : List CardRecord) (r : CardRecord) → record_at_index i l ≡ Some r
    → l ≡ take i l ++ (r ∷ drop (suc i) l)
unfolding record_at_index
nth_split i [] r e = not_at e refl
nth_split zero (x ∷ l) r e = let y : x ≡ r = cc in ap (λ (q : CardRecord). q ∷ l) y
nth_split (suc i) (x ∷ l) r e = ap (λ (q : List CardRecord). x ∷ q) (nth_split i l r e)

pub nth_take : (i : ℕ) (l : List CardRecord) (r : CardRecord) → record_at_index i l ≡ Some r
    → take (suc i) l ≡ take i l ++ (r ∷ [])
unfolding record_at_index
nth_take i [] r e = not_at e refl
nth_take zero (x ∷ l) r e = let y : x ≡ r = cc in ap (λ (q : CardRecord). q ∷ []) y
nth_take (suc i) (x ∷ l) r e = ap (λ (q : List CardRecord). x ∷ q) (nth_take i l r e)

pub nth_inside : (i : ℕ) (l : List CardRecord) (r : CardRecord) → record_at_index i l ≡ Some r → i < length l
unfolding record_at_index
nth_inside i [] r e = not_at e refl
nth_inside zero (x ∷ l) r e = omega arith
nth_inside (suc i) (x ∷ l) r e = let h = nth_inside i l r e in omega arith

pub nth_there : (i : ℕ) (l : List CardRecord) (d : CardRecord) → i < length l → record_at_index i l ≡ Some (get_or l i d)
unfolding record_at_index
nth_there i [] d h = absurd (omega arith)
nth_there zero (x ∷ l) d h = refl
nth_there (suc i) (x ∷ l) d h = nth_there i l d (omega arith)

pub nth_none : (i : ℕ) (l : List CardRecord) → length l ≤ i → record_at_index i l ≡ None
unfolding record_at_index
nth_none i [] h = refl
nth_none zero (x ∷ l) h = absurd (omega arith)
nth_none (suc i) (x ∷ l) h = nth_none i l (omega arith)

-- ---- what holds of every record

-- what holds of each record of an entry that passes a test holds of every record of entries that pass it
pub records_all : (p : AflEntry → Bool) (Q : CardRecord → Type 0)
    → ((e : AflEntry) → p e ≡ true → (i : ℕ) → i < entry_record_count e
    → Q (record { sfi = entry_sfi e; number = e.first + i }))
    → (x : List AflEntry) → every p x ≡ true → (i : ℕ) (r : CardRecord) → record_at_index i (records_of_entries x) ≡ Some r
    → Q r
unfolding every records_of_entries record_at_index
records_all p Q q [] t i r h = not_at h refl
records_all p Q q (e ∷ x) t i r h =
    elim (bool_cases (ltb i (entry_record_count e))) [
      | inl y ↦ (
          let f = ltb-true i (entry_record_count e) y in
          let g = nth_named e (records_of_entries x) i f in
          let v : record { sfi = entry_sfi e; number = e.first + i } ≡ r = cc in
          rw v at (q e (both_left _ _ t) i f)
          )
      | inr n ↦ (
          let g = nth_beyond e (records_of_entries x) i (ltb-false i (entry_record_count e) n) in
          records_all p Q q x (both_right _ _ t) (i - entry_record_count e) r (sym g ∙ h)
          )
    ]

-- the last record of each entry of bytes is a byte
pub last_bytes : (s : List ℕ) → ((i : ℕ) → get_or s i 0 < 256)
    → every (λ (e : AflEntry). leb e.last 255) (afl_entries s) ≡ true
unfolding every afl_entries
last_bytes [] b = refl
last_bytes (a ∷ []) b = refl
last_bytes (a ∷ c ∷ []) b = refl
last_bytes (a ∷ c ∷ d ∷ []) b = refl
last_bytes (a ∷ c ∷ d ∷ e ∷ rest) b = both_yes _ _ (le-leb d 255 (omega (arith, b 2)))
    (last_bytes rest (λ i. b (suc (suc (suc (suc i))))))
