-- Each of the forty TVR bits is the test that the rules give it, or clear: one test computed over all tests
-- and all bits.
-- Assumes nothing.
use mathlib.Core.Bool.{Bool, true, false, not}
use mathlib.Core.List.{List, [], ◌∷◌}
use mathlib.Core.Logic.{inl, inr}
use mathlib.Core.Path.{◌≡◌, refl, sym, ap, ◌∙◌}
use Prim.Native.Nat.{ℕ, zero, suc, ◌<◌}
use native.Mathlib.Nat.{eq-or-lt_of_le, le_of_suc-le-suc}
use native.Mathlib.Omega.{arith}
use lib.ListN.{get_or}
use Rattle.basics.proofs.Laws.{both_left, both_right}
use Rattle.basics.specs.Choice.{if, both}
use Rattle.store.specs.Place.{object_value}
use Rattle.store.specs.Held.{stored_bytes}
use Rattle.analysis.specs.Action.{auc_violated_in_store, restrictions_tvr_byte2, tvr_before_cvm}
use Rattle.analysis.specs.Bits.{has_bit_counted_from_zero_at_byte1b8, bit_weight_if_set}
use Rattle.analysis.specs.Digits.{first_date_is_later, first_amount_is_above}
use Rattle.analysis.specs.Restrictions.{card_version_present_and_differs, not_yet_effective}
use Rattle.analysis.specs.Restrictions.{tvr_byte2_version_expired_early_usage}
use Rattle.analysis.specs.Tvr.{tvr_from_bytes2_and4}

-- a test passes at both truth values; at every number below n
for_both : (Bool → Bool) → Bool
for_both p = both (p true) (p false)

all_below : (ℕ → Bool) → ℕ → Bool
all_below p zero = true
all_below p (suc n) = both (p n) (all_below p n)

agree : Bool → Bool → Bool
agree a b = if a b (not b)

for_both_lem : (p : Bool → Bool) → for_both p ≡ true → (b : Bool) → p b ≡ true
unfolding for_both
for_both_lem p e true = both_left (p true) (p false) e
for_both_lem p e false = both_right (p true) (p false) e

all-below : (p : ℕ → Bool) (n : ℕ) → all_below p n ≡ true → (i : ℕ) → i < n → p i ≡ true
unfolding all_below
all-below p zero e i h = absurd (omega arith)
all-below p (suc n) e i h =
    elim (eq-or-lt_of_le (le_of_suc-le-suc h)) [
      | inl q ↦ ap p q ∙ both_left (p n) (all_below p n) e
      | inr l ↦ all-below p n (both_right (p n) (all_below p n) e) i l
    ]

agreed : (a b : Bool) → agree a b ≡ true → a ≡ b
unfolding agree if
agreed true true e = refl
agreed true false e = sym e
agreed false true e = e
agreed false false e = refl

-- the tests in the order of the bits: byte 1 b8; byte 2 b8 to b5; byte 4 b8; past the list no bit is set
abbrev pub tests_of : Bool → Bool → Bool → Bool → Bool → List Bool
tests_of version expired early usage floor =
    true ∷ false ∷ false ∷ false ∷ false ∷ false ∷ false ∷ false ∷
    version ∷ expired ∷ early ∷ usage ∷ false ∷ false ∷ false ∷ false ∷
    false ∷ false ∷ false ∷ false ∷ false ∷ false ∷ false ∷ false ∷
    floor ∷ []

right : Bool → Bool → Bool → Bool → Bool → ℕ → Bool
right v x e u f i =
    agree
    (has_bit_counted_from_zero_at_byte1b8 (tvr_from_bytes2_and4 (tvr_byte2_version_expired_early_usage v x e u) (bit_weight_if_set 8 f))
    i) (get_or (tests_of v x e u f) i false)

computed : for_both (λ v. for_both (λ x. for_both (λ e. for_both (λ u. for_both (λ f. all_below (right v x e u f) 40)))))
    ≡ true
unfolding for_both all_below right agree if both has_bit_counted_from_zero_at_byte1b8
computed = refl

pub result_bit : (v x e u f : Bool) (i : ℕ) → i < 40
    → has_bit_counted_from_zero_at_byte1b8 (tvr_from_bytes2_and4 (tvr_byte2_version_expired_early_usage v x e u) (bit_weight_if_set 8 f))
    i ≡ get_or (tests_of v x e u f) i false
unfolding right
result_bit v x e u f i h =
    agreed _ _
    (all-below (right v x e u f) 40 (for_both_lem _ (for_both_lem _ (for_both_lem _ (for_both_lem _ (for_both_lem _ computed v) x) e) u) f)
    i h)

-- the tests of a store, and its bits
abbrev pub tests_in : List ℕ → List Bool
tests_in store =
    tests_of (card_version_present_and_differs (object_value store 0x9F08) (stored_bytes store 0x9F09))
    (first_date_is_later (stored_bytes store 0x9A) (stored_bytes store 0x5F24))
    (not_yet_effective (object_value store 0x5F25) (stored_bytes store 0x9A)) (auc_violated_in_store store)
    (first_amount_is_above (stored_bytes store 0x9F02) (stored_bytes store 0xDF8123))

pub stored_bit : (store : List ℕ) (i : ℕ) → i < 40 → has_bit_counted_from_zero_at_byte1b8 (tvr_before_cvm store) i
    ≡ get_or (tests_in store) i false
unfolding tvr_before_cvm restrictions_tvr_byte2
stored_bit store i h = result_bit _ _ _ _ _ i h
