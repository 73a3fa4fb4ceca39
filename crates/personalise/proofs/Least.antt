-- The search for the least bad record, number by number.
-- Assumes nothing.
use Rattle.std.specs.Prelude.{Some, None}
use mathlib.Core.Path.{◌≡◌, refl, sym, ap, ◌∙◌}
use mathlib.Core.Bool.{Bool, true, false}
use mathlib.Core.Logic.{inl, inr}
use mathlib.Core.List.{List}
use Prim.Native.Nat.{ℕ, zero, suc, ◌+◌, ◌-◌, ◌<◌, ◌≤◌}
use native.Mathlib.Numerals.{add-one}
use native.Mathlib.Omega.{arith}
use lib.Dec.{ltb}
use lib.ListN.{length}
use borrow.Author.Tests.{lt-ltb, le-ltb, ltb-false}
use Rattle.basics.specs.Choice.{either}
use Rattle.basics.proofs.Laws.{if_yes, if_no, bool_cases, either_left, either_false}
use Rattle.basics.proofs.Order.{le-or-gt, equal_or_not}
use Rattle.tlv.specs.Primitives.{Object}
use Rattle.personalise.specs.declared.Placement.{Placement}
use Rattle.personalise.specs.Records.{record_content, most_record_content_bytes, has_bad_placement_or_over253_bytes}
use Rattle.personalise.specs.Records.{first_bad_number_from, first_bad_record}
use Rattle.personalise.specs.Inner.{record_has_out_of_range_placement, size_capped_at254, RecordContentsWithin253Bytes}

-- neither of two tests passes
pub either_left_false : (a b : Bool) → either a b ≡ false → a ≡ false
unfolding either
either_left_false true b e = e
either_left_false false b e = refl

pub either_right_false : (a b : Bool) → either a b ≡ false → b ≡ false
unfolding either
either_right_false true b e = cc
either_right_false false b e = e

-- a size is over the bound exactly where the capped one is
pub over_capped : (n : ℕ) → ltb most_record_content_bytes (size_capped_at254 n) ≡ ltb most_record_content_bytes n
over_capped n = elim (le-or-gt n most_record_content_bytes) [
  | inl l ↦ le-ltb most_record_content_bytes (size_capped_at254 n) (omega arith) ∙ sym (le-ltb most_record_content_bytes n l)
  | inr g ↦ lt-ltb most_record_content_bytes (size_capped_at254 n) (omega arith) ∙ sym (lt-ltb most_record_content_bytes n g)
]

module _ (os : List Object) (ps : List Placement) (n k m : ℕ) (c : m ≡ length os) where
  pub bad_stray : record_has_out_of_range_placement ps n m k ≡ true → has_bad_placement_or_over253_bytes os ps n k ≡ true
  unfolding has_bad_placement_or_over253_bytes
  bad_stray e = either_left _ _ (ap (λ (x : ℕ). record_has_out_of_range_placement ps n x k) (sym c) ∙ e)

  pub bad_size : record_has_out_of_range_placement ps n m k ≡ false → (z : ℕ)
      → z ≡ size_capped_at254 (length (record_content os ps k)) → has_bad_placement_or_over253_bytes os ps n k
      ≡ ltb most_record_content_bytes z
  unfolding has_bad_placement_or_over253_bytes
  bad_size e z q =
      either_false _ (ap (λ (x : ℕ). record_has_out_of_range_placement ps n x k) (sym c) ∙ e)
      ∙ sym (ap (ltb most_record_content_bytes) q ∙ over_capped (length (record_content os ps k)))

-- ---- the search

pub first-start : (os : List Object) (ps : List Placement) (n : ℕ)
    → first_bad_record os ps n ≡ first_bad_number_from (has_bad_placement_or_over253_bytes os ps n) 0 (256 - 0)
unfolding first_bad_record
first-start os ps n = refl

module _ (f : ℕ → Bool) (k : ℕ) where
  pub first_yes : k < 256 → f k ≡ true → first_bad_number_from f k (256 - k) ≡ Some k
  unfolding first_bad_number_from
  first_yes h e = let m : 256 - k ≡ suc (256 - (k + 1)) = omega arith in rw m (if_yes _ _ e)

  pub first_on : k < 256 → f k ≡ false → first_bad_number_from f k (256 - k) ≡ first_bad_number_from f (k + 1) (256 - (k + 1))
  unfolding first_bad_number_from
  first_on h e = let m : 256 - k ≡ suc (256 - (k + 1)) = omega arith in rw (m, add-one) (if_no _ _ e)

  pub first-none : 256 ≤ k → first_bad_number_from f k (256 - k) ≡ None
  unfolding first_bad_number_from
  first-none h = let m : 256 - k ≡ 0 = omega arith in rw m

-- ---- what the search reports

none_found : (f : ℕ → Bool) (m k : ℕ) → first_bad_number_from f k m ≡ None → (i : ℕ) → k ≤ i → i < k + m → f i ≡ false
unfolding first_bad_number_from
none_found f zero k q i l h = absurd (omega arith)
none_found f (suc m) k q i l h = elim (bool_cases (f k)) [
  | inl y ↦ (let p = if_yes (Some k) (first_bad_number_from f (suc k) m) y in let z : ◌≡◌ {A = ℕ} 0 1 = cc in
      absurd (omega arith))
  | inr n ↦ elim (equal_or_not i k) [
    | inl e ↦ ap f e ∙ n
    | inr d ↦ none_found f m (suc k) (sym (if_no (Some k) (first_bad_number_from f (suc k) m) n) ∙ q) i (omega arith)
        (omega arith)
  ]
]

all_fail : (f : ℕ → Bool) (m k : ℕ) → ((i : ℕ) → f i ≡ false) → first_bad_number_from f k m ≡ None
unfolding first_bad_number_from
all_fail f zero k h = refl
all_fail f (suc m) k h = if_no _ _ (h k) ∙ all_fail f m (suc k) h

below : (f : ℕ → Bool) (m k i : ℕ) → first_bad_number_from f k m ≡ Some i → i < k + m
unfolding first_bad_number_from
below f zero k i q = let z : ◌≡◌ {A = ℕ} 0 1 = cc in absurd (omega arith)
below f (suc m) k i q = elim (bool_cases (f k)) [
  | inl y ↦ (let p : Some k ≡ Some i = sym (if_yes (Some k) (first_bad_number_from f (suc k) m) y) ∙ q in let z : k ≡ i = cc in
      omega arith)
  | inr n ↦ (let h = below f m (suc k) i (sym (if_no (Some k) (first_bad_number_from f (suc k) m) n) ∙ q) in omega arith)
]

module _ (os : List Object) (ps : List Placement) (n : ℕ) where
  pub no_bad : first_bad_record os ps n ≡ None → (k : ℕ) → k < 256 → has_bad_placement_or_over253_bytes os ps n k ≡ false
  unfolding first_bad_record
  no_bad q k h = none_found (has_bad_placement_or_over253_bytes os ps n) 256 0 q k (omega arith) (omega arith)

  pub no_bad_back : ((k : ℕ) → has_bad_placement_or_over253_bytes os ps n k ≡ false) → first_bad_record os ps n ≡ None
  unfolding first_bad_record
  no_bad_back h = all_fail (has_bad_placement_or_over253_bytes os ps n) 256 0 h

  pub record_number_lem : (k : ℕ) → first_bad_record os ps n ≡ Some k → k < 256
  unfolding first_bad_record
  record_number_lem k q = omega (arith, below (has_bad_placement_or_over253_bytes os ps n) 256 0 k q)

  -- where no record is bad, no content of 255 or fewer records is too long
  pub fitting_of : first_bad_record os ps n ≡ None → n < 256 → RecordContentsWithin253Bytes os ps n
  unfolding has_bad_placement_or_over253_bytes
  fitting_of q l k h = ltb-false _ _ (either_right_false _ _ (no_bad q k (omega arith)))
