-- Laws of the cardholder verification: what lies after the rule that decides, the odd last byte, and the bits
-- added to 95.
-- Assumes nothing.
use mathlib.Core.Path.{◌≡◌, refl, sym, ap, ◌∙◌}
use mathlib.Core.Bool.{Bool, true, false, not}
use mathlib.Core.List.{List, [], ◌∷◌, ◌++◌, append-nil}
use mathlib.Core.Logic.{inl, inr}
use Prim.Native.Nat.{ℕ, ◌%◌, ◌≤◌}
use native.Mathlib.Omega.{arith}
use lib.ListN.{length, drop, length-drop, length-append}
use lib.Seq.{drop-append-le}
use lib.Dec.{leb}
use borrow.Author.Tests.{not-true, leb-true, leb-false}
use Rattle.basics.specs.Choice.{if, both, either, every}
use Rattle.basics.proofs.Laws.{if_yes, if_no, if_ind, bool_cases, both_left, both_right, either_false}
use Rattle.store.specs.Place.{StoredValue, absent, present}
use Rattle.analysis.specs.Bits.{byte_has_bit, bit_weight_if_set}
use Rattle.analysis.specs.Cvm.{CvmRule, cvm_rules_from_pairs, cvm_rules_of_list, cvm_recognised, cvm_supported_not_fail}
use Rattle.analysis.specs.Cvm.{cvm_condition_met, tvr_byte3_failed_unrecognised_online_pin, cvm_result_of_supported}
use Rattle.analysis.specs.Cvm.{cvm_result_no_rule_succeeded, cvm_result_of_unsuccessful, next_cvm_rule_applies}
use Rattle.analysis.specs.Cvm.{cvm_result_by_rules, cvm_result, cvm_result_not_performed, cvm_result_by_list, cvm_processing}
use Rattle.analysis.specs.Cvm.{on_device_cvm_result_by_above_limit}
use Rattle.analysis.specs.declared.cvm.Cvm.{Cvm}
use Rattle.analysis.specs.declared.cvm.Cvm.TheVariants.{NoCvm, Signature, OnlinePin, OfflinePin}
use Rattle.analysis.specs.declared.cvm.CvmConditions.{CvmConditions}
use Rattle.analysis.specs.declared.cvm.CvmResult.{CvmResult}
use Rattle.analysis.proofs.CvmSteps.{cvm_rule, rules_short, by_bytes}

-- ---- the rule that decides

-- a rule decides where its condition holds, and its CVM is taken or is unsuccessful with b7 clear
unfoldable pub decides : CvmConditions → CvmRule → Bool
decides t r = both (cvm_condition_met t r.code r.condition)
    (either (cvm_supported_not_fail t.capabilities r.code) (not (byte_has_bit r.code 7)))

goes_on_not : (code : ℕ) (rs : List CvmRule) → not (byte_has_bit code 7) ≡ true → next_cvm_rule_applies code rs ≡ false
goes_on_not code [] e = refl
goes_on_not code (r ∷ rs) e = not-true _ e

-- what it says, whatever lies after it
decided : (t : CvmConditions) (u : Bool) (r : CvmRule) → CvmResult
decided t u r =
    if (cvm_supported_not_fail t.capabilities r.code) (cvm_result_of_supported r.code r.condition u)
    (cvm_result_of_unsuccessful r.code r.condition (either u (not (cvm_recognised r.code))))

decides_says : (t : CvmConditions) (u : Bool) (r : CvmRule) (rs : List CvmRule) → decides t r ≡ true
    → cvm_result_by_rules t u (r ∷ rs) ≡ decided t u r
unfolding cvm_result_by_rules decides decided
decides_says t u r rs d =
    let m = both_left _ _ d in
    elim (bool_cases (cvm_supported_not_fail t.capabilities r.code)) [
      | inl p ↦ if_no _ _ (ap not m) ∙ if_yes _ _ p ∙ sym (if_yes _ _ p)
      | inr p ↦
          let g = goes_on_not r.code rs (sym (either_false _ p) ∙ both_right _ _ d) in
          if_no _ _ (ap not m) ∙ if_no _ _ p ∙ if_no _ _ g ∙ sym (if_no _ _ p)
    ]

goes_on_same : (code : ℕ) (before : List CvmRule) (r : CvmRule) (rs ss : List CvmRule)
    → next_cvm_rule_applies code (before ++ r ∷ rs) ≡ next_cvm_rule_applies code (before ++ r ∷ ss)
goes_on_same code [] r rs ss = refl
goes_on_same code (b ∷ before) r rs ss = refl

-- rules after one that decides do not matter, whatever is before it
pub rules_behind : (t : CvmConditions) (u : Bool) (before : List CvmRule) (r : CvmRule) (rs ss : List CvmRule)
    → decides t r ≡ true
    → cvm_result_by_rules t u (before ++ r ∷ rs) ≡ cvm_result_by_rules t u (before ++ r ∷ ss)
unfolding cvm_result_by_rules
rules_behind t u [] r rs ss d = decides_says t u r rs d ∙ sym (decides_says t u r ss d)
rules_behind t u (b ∷ before) r rs ss d =
    rw (
      goes_on_same b.code before r rs ss,
      rules_behind t u before r rs ss d,
      rules_behind t (either u (not (cvm_recognised b.code))) before r rs ss d,
    )

-- ---- the same on the bytes of a list

-- after whole rules the bytes make rules of their own
rules_append : (s l : List ℕ) → length s % 2 ≡ 0 → cvm_rules_from_pairs (s ++ l) ≡ cvm_rules_from_pairs s ++ cvm_rules_from_pairs
    l
unfolding cvm_rules_from_pairs
rules_append [] l e = refl
rules_append (c ∷ []) l e = absurd (omega arith)
rules_append (c ∷ d ∷ s) l e = ap (λ (rs : List CvmRule). cvm_rule c d ∷ rs) (rules_append s l (omega arith))

of_append : (s l : List ℕ) → 8 ≤ length s → length s % 2 ≡ 0 → cvm_rules_of_list (s ++ l) ≡ cvm_rules_of_list s
    ++ cvm_rules_from_pairs l
of_append s l h e = ap cvm_rules_from_pairs (drop-append-le 8 s l h) ∙ rules_append (drop 8 s) l
    (simp length-drop (omega arith))

alike : (aip : ℕ) (t : CvmConditions) (s l : List ℕ) → (length s ≡ 0 → ⊥) → (length l ≡ 0 → ⊥)
    → cvm_result_by_rules t false (cvm_rules_of_list s) ≡ cvm_result_by_rules t false (cvm_rules_of_list l)
    → cvm_processing aip (present s) t ≡ cvm_processing aip (present l) t
unfolding cvm_processing
alike aip t s l n m e = ap (λ (v : CvmResult). if (byte_has_bit aip 5) v (cvm_result_not_performed false))
    (by_bytes s t n ∙ e ∙ sym (by_bytes l t m))

not_empty : (s l : List ℕ) → (length s ≡ 0 → ⊥) → length (s ++ l) ≡ 0 → ⊥
not_empty s l n z = n (omega (arith, length-append s l))

-- bytes after a rule that decides do not matter; before it the list has its amounts and whole rules
module _ (aip : ℕ) (t : CvmConditions) (s : List ℕ) (h : 8 ≤ length s) (e : length s % 2 ≡ 0) where
  pub bytes_behind : (c d : ℕ) (l m : List ℕ) → decides t (cvm_rule c d) ≡ true
      → cvm_processing aip (present (s ++ c ∷ d ∷ l)) t ≡ cvm_processing aip (present (s ++ c ∷ d ∷ m)) t
  unfolding cvm_rules_from_pairs
  bytes_behind c d l m k =
      alike aip t (s ++ c ∷ d ∷ l) (s ++ c ∷ d ∷ m) (not_empty s _ (λ z. omega arith))
      (not_empty s _ (λ z. omega arith))
      (ap (cvm_result_by_rules t false) (of_append s (c ∷ d ∷ l) h e)
      ∙ rules_behind t false (cvm_rules_of_list s) (cvm_rule c d) (cvm_rules_from_pairs l) (cvm_rules_from_pairs m) k
      ∙ sym (ap (cvm_result_by_rules t false) (of_append s (c ∷ d ∷ m) h e)))

-- one byte after a list of even length is no rule
rules_odd : (s : List ℕ) (b : ℕ) → length s % 2 ≡ 0 → cvm_rules_of_list (s ++ b ∷ []) ≡ cvm_rules_of_list s
unfolding cvm_rules_from_pairs
rules_odd s b e =
    elim (bool_cases (leb 8 (length s))) [
      | inl h ↦ of_append s (b ∷ []) (leb-true _ _ h) e ∙ append-nil _
      | inr h ↦
          let k = leb-false 8 (length s) h in
          rules_short (drop 8 (s ++ b ∷ [])) (simp (length-drop, length-append) (omega arith))
          ∙ sym (rules_short (drop 8 s) (simp length-drop (omega arith)))
    ]

-- one byte after a list of even length changes nothing
pub odd_byte : (aip : ℕ) (t : CvmConditions) (s : List ℕ) (b : ℕ) → (length s ≡ 0 → ⊥) → length s % 2 ≡ 0
    → cvm_processing aip (present (s ++ b ∷ [])) t ≡ cvm_processing aip (present s) t
odd_byte aip t s b n e = alike aip t (s ++ b ∷ []) s (not_empty s _ n) n
    (ap (cvm_result_by_rules t false) (rules_odd s b e))

-- ---- the bits added to 95

-- byte 1 gets at most b6, byte 3 at most b8, b7 and b3
pub record Added (v : CvmResult) : Type 0 where
  pub missing : Bool
  pub failed : Bool
  pub unrecognised : Bool
  pub pin : Bool
  pub first-is : v.tvr1 ≡ bit_weight_if_set 6 missing
  pub third-is : v.tvr3 ≡ tvr_byte3_failed_unrecognised_online_pin failed unrecognised pin

added_by : (c d r : ℕ) (m : Cvm) (f u p : Bool) → Added (cvm_result c d r (tvr_byte3_failed_unrecognised_online_pin f u p) m)
unfolding if
added_by c d r m f u p = record {
  missing = false;
  failed = f;
  unrecognised = u;
  pin = p;
  first-is = refl;
  third-is =
      refl;
}

added_taken : (c d : ℕ) (u : Bool) → Added (cvm_result_of_supported c d u)
unfolding cvm_result_of_supported
added_taken c d u =
    if_ind Added _ _ _ (λ e. added_by c d 0 OnlinePin false u true) (λ e.
    if_ind Added _ _ _ (λ f. added_by c d 0 Signature false u false) (λ f.
    if_ind Added _ _ _ (λ g. added_by c d 2 NoCvm false u false) (λ g. added_by c d 0 OfflinePin false u false)))

added_none : (u : Bool) → Added (cvm_result_no_rule_succeeded u)
added_none u = added_by 0x3F 0 1 NoCvm true u false

added_unsuccessful : (c d : ℕ) (u : Bool) → Added (cvm_result_of_unsuccessful c d u)
unfolding cvm_result_of_unsuccessful
added_unsuccessful c d u = if_ind Added _ _ _ (λ e. added_by c d 1 NoCvm true u false) (λ e. added_none u)

added_rules : (t : CvmConditions) (u : Bool) (rs : List CvmRule) → Added (cvm_result_by_rules t u rs)
unfolding cvm_result_by_rules
added_rules t u [] = added_none u
added_rules t u (r ∷ rs) =
    if_ind Added _ _ _ (λ e. added_rules t u rs) (λ e.
    if_ind Added _ _ _ (λ f. added_taken r.code r.condition u) (λ f.
    if_ind Added _ _ _ (λ g. added_rules t (either u (not (cvm_recognised r.code))) rs) (λ g. added_unsuccessful r.code r.condition _)))

added_missing : (m : Bool) → Added (cvm_result_not_performed m)
unfolding if
added_missing m = record {
  missing = m;
  failed = false;
  unrecognised = false;
  pin = false;
  first-is = refl;
  third-is =
      refl;
}

added_list : (v : StoredValue) (t : CvmConditions) → Added (cvm_result_by_list v t)
added_list absent t = added_missing true
added_list (present []) t = added_missing true
added_list (present (b ∷ s)) t = added_rules t false (cvm_rules_of_list (b ∷ s))

pub bits_added : (aip : ℕ) (v : StoredValue) (t : CvmConditions) → Added (cvm_processing aip v t)
unfolding cvm_processing
bits_added aip v t = if_ind Added _ _ _ (λ e. added_list v t) (λ e. added_missing false)

bit_weight_6 : (m : Bool) → bit_weight_if_set 6 m ≤ 0x20
unfolding if
bit_weight_6 true = omega arith
bit_weight_6 false = omega arith

-- so they are at most 20 and C4
pub first_most : (aip : ℕ) (v : StoredValue) (t : CvmConditions) → (cvm_processing aip v t).tvr1 ≤ 0x20
first_most aip v t = let a = bits_added aip v t in rw a.first-is (bit_weight_6 a.missing)

third_byte_most : (f u p : Bool) → tvr_byte3_failed_unrecognised_online_pin f u p ≤ 0xC4
unfolding if
third_byte_most true true true = omega arith
third_byte_most true true false = omega arith
third_byte_most true false true = omega arith
third_byte_most true false false = omega arith
third_byte_most false true true = omega arith
third_byte_most false true false = omega arith
third_byte_most false false true = omega arith
third_byte_most false false false = omega arith

pub third_most : (aip : ℕ) (v : StoredValue) (t : CvmConditions) → (cvm_processing aip v t).tvr3 ≤ 0xC4
third_most aip v t = let a = bits_added aip v t in
    rw a.third-is (third_byte_most a.failed a.unrecognised a.pin)

-- none of the listed bits of a byte is set
abbrev clear : ℕ → List ℕ → Bool
clear x bs = every (λ (b : ℕ). not (byte_has_bit x b)) bs

clear_first : (m : Bool) → clear (bit_weight_if_set 6 m) (8 ∷ 7 ∷ 5 ∷ 4 ∷ 3 ∷ 2 ∷ 1 ∷ []) ≡ true
unfolding every both if
clear_first true = refl
clear_first false = refl

clear_third : (f u p : Bool) → clear (tvr_byte3_failed_unrecognised_online_pin f u p) (6 ∷ 5 ∷ 4 ∷ 2 ∷ 1 ∷ []) ≡ true
unfolding every both if
clear_third true true true = refl
clear_third true true false = refl
clear_third true false true = refl
clear_third true false false = refl
clear_third false true true = refl
clear_third false true false = refl
clear_third false false true = refl
clear_third false false false = refl

-- the other bits of byte 1 and of byte 3 are never added
pub other_first : (aip : ℕ) (v : StoredValue) (t : CvmConditions)
    → clear (cvm_processing aip v t).tvr1 (8 ∷ 7 ∷ 5 ∷ 4 ∷ 3 ∷ 2 ∷ 1 ∷ []) ≡ true
other_first aip v t = let a = bits_added aip v t in rw a.first-is (clear_first a.missing)

pub other_third : (aip : ℕ) (v : StoredValue) (t : CvmConditions)
    → clear (cvm_processing aip v t).tvr3 (6 ∷ 5 ∷ 4 ∷ 2 ∷ 1 ∷ []) ≡ true
other_third aip v t =
    let a = bits_added aip v t in rw a.third-is (clear_third a.failed a.unrecognised a.pin)

-- on-device CVM adds none at all
pub on_device_bits : (above : Bool) → ((on_device_cvm_result_by_above_limit above).tvr1 ≡ 0)
    × ((on_device_cvm_result_by_above_limit above).tvr3 ≡ 0)
unfolding on_device_cvm_result_by_above_limit if
on_device_bits true = (refl, refl)
on_device_bits false = (refl, refl)
