-- No record is named twice exactly where no two entries meet: the records of an entry are numbered upwards, and two
-- entries in order that meet both name the higher of their first records.
-- Assumes nothing.
use mathlib.Core.Path.{◌≡◌, refl, sym, ap, ap₂, ◌∙◌}
use mathlib.Core.Bool.{Bool, true, false, not}
use mathlib.Core.Logic.{inl, inr}
use mathlib.Core.List.{List, [], ◌∷◌, ◌++◌}
use Prim.Native.Nat.{ℕ, zero, suc, ◌+◌, ◌<◌, ◌≤◌}
use native.Mathlib.Omega.{arith}
use borrow.Author.Tests.{eq-eqb, ne_eqb, eqb-true, leb-true, le-leb}
use Rattle.basics.specs.Choice.{both, every}
use Rattle.basics.proofs.Laws.{bool_cases, both_yes, both_true, both_left, both_right, both_no_left, both_no_right}
use Rattle.basics.proofs.Laws.{both_assoc}
use Rattle.basics.proofs.Order.{le-or-gt, equal_or_not}
use Rattle.afl.specs.declared.AflEntry.{AflEntry}
use Rattle.afl.specs.declared.CardRecord.{CardRecord}
use Rattle.afl.specs.Entry.{entry_sfi, entry_record_count}
use Rattle.afl.specs.Records.{consecutive_records, entry_records, records_of_entries}
use Rattle.personalise.specs.Entries.{entries_overlap}
use Rattle.personalise.proofs.Clauses.{records_in_order, same_record, lacks_record, no_record_twice}
use Rattle.personalise.proofs.Rules.{all_apart, every_split, every_same}

-- ---- lists joined

every_append : {A : Type 0} (f : A → Bool) (x y : List A) → every f (x ++ y) ≡ both (every f x) (every f y)
unfolding every both
every_append f [] y = refl
every_append f (a ∷ x) y = ap (both (f a)) (every_append f x y) ∙ both_assoc (f a) (every f x) (every f y)

every_true : {A : Type 0} (f : A → Bool) → ((a : A) → f a ≡ true) → (x : List A) → every f x ≡ true
unfolding every
every_true f h [] = refl
every_true f h (a ∷ x) = both_yes _ _ (h a) (every_true f h x)

-- a record not in the first, not in the second; none twice in the first; and so on
regroup : (a b c d e : Bool) → both (both a b) (both c (both d e)) ≡ both (both a c) (both (both b d) e)
unfolding both
regroup true true true d e = refl
regroup true true false d e = refl
regroup true false true d e = refl
regroup true false false d e = refl
regroup false b c d e = refl

twice_join : (x y : List CardRecord) → no_record_twice (x ++ y) ≡ both (no_record_twice x)
    (both (every (λ r. lacks_record r y) x) (no_record_twice y))
unfolding no_record_twice lacks_record every both
twice_join [] y = refl
twice_join (r ∷ x) y =
    ap₂ both (every_append (λ s. not (same_record r s)) x y) (twice_join x y)
    ∙ regroup (lacks_record r x) (lacks_record r y) (no_record_twice x) (every (λ s. lacks_record s y) x) (no_record_twice y)

-- ---- the records of one entry

one : ℕ → ℕ → CardRecord
one f n = record { sfi = f; number = n }

-- a number below the others is not among them
lacks_above : (f g n m k : ℕ) → n < m → lacks_record (one f n) (consecutive_records g m k) ≡ true
unfolding lacks_record consecutive_records every one
lacks_above f g n m zero h = refl
lacks_above f g n m (suc k) h = both_yes _ _ (ap not (both_no_right _ _ (ne_eqb n m (λ e. omega arith))))
    (lacks_above f g n (m + 1) k (omega arith))

run_once : (f n k : ℕ) → no_record_twice (consecutive_records f n k) ≡ true
unfolding no_record_twice consecutive_records one
run_once f n zero = refl
run_once f n (suc k) = both_yes _ _ (lacks_above f f n (n + 1) k (omega arith)) (run_once f (n + 1) k)

-- a record of another file, or outside the range, is not among them
lacks_other : (f g n m k : ℕ) → (f ≡ g → ⊥) → lacks_record (one f n) (consecutive_records g m k) ≡ true
unfolding lacks_record consecutive_records every one
lacks_other f g n m zero h = refl
lacks_other f g n m (suc k) h = both_yes _ _ (ap not (both_no_left _ _ (ne_eqb f g h))) (lacks_other f g n (m + 1) k h)

lacks_below : (f g n m k : ℕ) → m + k ≤ n → lacks_record (one f n) (consecutive_records g m k) ≡ true
unfolding lacks_record consecutive_records every one
lacks_below f g n m zero h = refl
lacks_below f g n m (suc k) h = both_yes _ _ (ap not (both_no_right _ _ (ne_eqb n m (λ e. omega arith))))
    (lacks_below f g n (m + 1) k (omega arith))

-- what holds of each of them
every_run : (P : CardRecord → Bool) (f n k : ℕ) → ((i : ℕ) → n ≤ i → i < n + k → P (one f i) ≡ true)
    → every P (consecutive_records f n k) ≡ true
unfolding consecutive_records every one
every_run P f n zero h = refl
every_run P f n (suc k) h = both_yes _ _ (h n (omega arith) (omega arith))
    (every_run P f (n + 1) k (λ i a b. h i (omega arith) (omega arith)))

at_run : (P : CardRecord → Bool) (f n k : ℕ) → every P (consecutive_records f n k) ≡ true → (i : ℕ) → n ≤ i → i < n + k
    → P (one f i) ≡ true
unfolding consecutive_records every one
at_run P f n zero e i a b = absurd (omega arith)
at_run P f n (suc k) e i a b = elim (equal_or_not n i) [
  | inl q ↦ ap (λ (x : ℕ). P (one f x)) (sym q) ∙ both_left _ _ e
  | inr q ↦ at_run P f (n + 1) k (both_right _ _ e) i (omega arith) (omega arith)
]

-- ---- two entries

module _ (e f : AflEntry) (p : e.first ≤ e.last) (q : f.first ≤ f.last) where
  both_lack : Bool
  both_lack = every (λ r. lacks_record r (entry_records f)) (entry_records e)

  -- entries that do not meet name no record both
  apart_lack : entries_overlap e f ≡ false → both_lack ≡ true
  unfolding both_lack
  apart_lack m =
      every_run (λ r. lacks_record r (entry_records f)) (entry_sfi e) e.first (entry_record_count e)
      (λ i a b. elim (equal_or_not (entry_sfi e) (entry_sfi f)) [
        | inr d ↦ lacks_other (entry_sfi e) (entry_sfi f) i f.first (entry_record_count f) d
        | inl s ↦ elim (le-or-gt f.first i) [
          | inr g ↦ lacks_above (entry_sfi e) (entry_sfi f) i f.first (entry_record_count f) g
          | inl g ↦ elim (le-or-gt (f.first + entry_record_count f) i) [
            | inl h ↦ lacks_below (entry_sfi e) (entry_sfi f) i f.first (entry_record_count f) h
            | inr h ↦ absurd (let y : entries_overlap e f ≡ true = both_yes _ _ (eq-eqb _ _ s)
                (both_yes _ _ (le-leb e.first f.last (omega arith)) (le-leb f.first e.last (omega arith)))
                in
                let z : ◌≡◌ {A = ℕ} 0 1 = cc in omega arith)
          ]
        ]
      ])

  -- a record that both name
  common : (i : ℕ) → entry_sfi e ≡ entry_sfi f → e.first ≤ i → i ≤ e.last → f.first ≤ i → i ≤ f.last
      → both_lack ≡ true → ⊥
  unfolding both_lack lacks_record one
  common i s a b c d h =
      let x = at_run (λ r. lacks_record r (entry_records f)) (entry_sfi e) e.first (entry_record_count e) h i a
      (omega arith) in
      let y = at_run (λ r. not (same_record (one (entry_sfi e) i) r)) (entry_sfi f) f.first (entry_record_count f) x i c
      (omega arith) in
      let z : same_record (one (entry_sfi e) i) (one (entry_sfi f) i) ≡ true = same i s in
      let w : ◌≡◌ {A = ℕ} 0 1 = cc in omega arith
    where
      same : (i : ℕ) → entry_sfi e ≡ entry_sfi f → same_record (one (entry_sfi e) i) (one (entry_sfi f) i) ≡ true
      same i s = both_yes _ _ (eq-eqb _ _ s) (eq-eqb i i refl)

  meet_not : entries_overlap e f ≡ true → both_lack ≡ false
  meet_not m = elim (bool_cases both_lack) [
    | inr n ↦ n
    | inl y ↦ absurd (
        let s : entry_sfi e ≡ entry_sfi f = eqb-true _ _ (both_left _ _ m) in
        let a : e.first ≤ f.last = leb-true _ _ (both_left _ _ (both_right _ _ m)) in
        let b : f.first ≤ e.last = leb-true _ _ (both_right _ _ (both_right _ _ m)) in
        elim (le-or-gt f.first e.first) [
          | inl g ↦ common e.first s (omega arith) p g a y
          | inr g ↦ common f.first s (omega arith) b (omega arith) q y
        ]
        )
  ]

  lack_is : both_lack ≡ not (entries_overlap e f)
  lack_is = elim (bool_cases (entries_overlap e f)) [
    | inl m ↦ meet_not m ∙ ap not (sym m)
    | inr m ↦ apart_lack m ∙ ap not (sym m)
  ]

-- ---- all entries

order-of : (e : AflEntry) (es : List AflEntry) → every records_in_order (e ∷ es) ≡ true
    → (e.first ≤ e.last) × (every records_in_order es ≡ true)
unfolding every
order-of e es k = (leb-true _ _ (both_left _ _ k), both_right _ _ k)

lack_all : (e : AflEntry) (es : List AflEntry) → e.first ≤ e.last → every records_in_order es ≡ true
    → every (λ r. lacks_record r (records_of_entries es)) (entry_records e) ≡ every (λ f. not (entries_overlap e f)) es
unfolding records_of_entries every lacks_record both_lack both
lack_all e [] p k = every_true (λ r. true) (λ r. refl) (entry_records e)
lack_all e (f ∷ es) p k =
    let o = order-of f es k in
    every_same _ _ (λ r. every_append (λ s. not (same_record r s)) (entry_records f) (records_of_entries es))
    (entry_records e)
    ∙ every_split (λ r. lacks_record r (entry_records f)) (λ r. lacks_record r (records_of_entries es)) (entry_records e)
    ∙ ap₂ both (lack_is e f p o.0) (lack_all e es p o.1)

pub twice_is : (es : List AflEntry) → every records_in_order es ≡ true → no_record_twice (records_of_entries es) ≡ all_apart es
unfolding records_of_entries all_apart no_record_twice
twice_is [] k = refl
twice_is (e ∷ es) k =
    let o = order-of e es k in
    twice_join (entry_records e) (records_of_entries es)
    ∙ both_true _ (run_once (entry_sfi e) e.first (entry_record_count e))
    ∙ ap₂ both (lack_all e es o.0 o.1) (twice_is es o.1)
