-- Added bits never raise the choice: what a stage holds it still holds when bits are added, and by each type a stage
-- that holds a bit gives a choice that ranks no higher than the one without. Where the codes alone have grown, the TVR
-- that is found is the same.
-- Assumes nothing.
use Rattle.std.specs.Prelude.{Some}
use mathlib.Core.Path.{◌≡◌, refl, sym, ap, subst, ◌∙◌}
use mathlib.Core.Bool.{Bool, true, false, not}
use mathlib.Core.List.{List}
use mathlib.Core.Logic.{inl, inr}
use Prim.Native.Nat.{ℕ, zero, suc, ◌+◌, ◌-◌, ◌/◌, ◌≤◌, ◌<◌}
use native.Mathlib.Nat.{zero-div}
use native.Mathlib.Omega.{arith}
use lib.ListN.{get_or}
use borrow.Author.Tests.{ne_eqb, not-false}
use Rattle.basics.specs.Choice.{if, both, either}
use Rattle.basics.proofs.Laws.{if_yes, if_no, bool_cases}
use Rattle.store.specs.Place.{absent}
use Rattle.analysis.specs.Bits.{has_bit_counted_from_zero_at_byte1b8}
use Rattle.analysis.specs.Value.{first_bytes_zero_padded}
use Rattle.analysis.specs.Choice.{denial_stage, all_zeros_action_code, all_ones_action_code, iac_or_default}
use Rattle.analysis.specs.Choice.{tvr_bit_is_in_either_action_code, lowest_bit_from_start_within_count, lowest_tvr_bit_in_codes, is_some_bit}
use Rattle.analysis.specs.Choice.{some_tvr_bit_in_codes_of_stage, online_capability_of_type, choice_by_stages}
use Rattle.analysis.specs.Choice.{terminal_action_analysis}
use Rattle.analysis.specs.Action.{terminal_type, card_and_kernel_support_on_device_cvm, auc_violated_in_store}
use Rattle.analysis.specs.Action.{restrictions_tvr_byte2, tvr_before_cvm, cvm_conditions_in, cvm_result_in, tvr_with_cvm}
use Rattle.analysis.specs.Action.{findings_of, action_codes_of, choice_for_tvr}
use Rattle.analysis.specs.declared.choice.ActionCodes.{ActionCodes}
use Rattle.analysis.specs.declared.choice.OnlineCapability.{OnlineCapability}
use Rattle.analysis.specs.declared.choice.OnlineCapability.TheVariants.{OnlineOnly, OnlineCapable, OfflineOnly}
use Rattle.analysis.specs.declared.choice.OnlineCapability.TheVariants.{Unlisted}
use Rattle.analysis.specs.declared.choice.Choice.{Choice}
use Rattle.analysis.specs.declared.choice.Choice.TheVariants.{Decline, Online, Offline}
use Rattle.analysis.proofs.Lowest.{none_passes}
use Rattle.laws.specs.Rank.{choice_rank, DeclineBelowOnlineBelowOffline}
use Rattle.laws.specs.Stricter.{FortyBitsWithin, AllFortyBitsSet, ActionCodesWithinAtStages}
use Rattle.laws.specs.Stricter.{StoredActionCodesWithin, AlikeButActionCodes, AddedBitsNeverRaiseChoice}
use Rattle.laws.specs.Stricter.{IacAppearingOrLeavingRules}

pub apart : {P : Type 0} → ◌≡◌ {A = Bool} false true → P
apart e = let z : ◌≡◌ {A = ℕ} 0 1 = cc in absurd (omega arith)

-- ---- a stage

-- a test that passes wherever another does finds a number where the other finds one
some_still : (f g : ℕ → Bool) (n i : ℕ) → ((m : ℕ) → m < i + n → f m ≡ true → g m ≡ true)
    → is_some_bit (lowest_bit_from_start_within_count f i n) ≡ true → is_some_bit (lowest_bit_from_start_within_count g i n) ≡ true
unfolding lowest_bit_from_start_within_count
some_still f g zero i h e = e
some_still f g (suc n) i h e =
    elim (bool_cases (g i)) [
      | inl t ↦ ap is_some_bit (if_yes (Some i) (lowest_bit_from_start_within_count g (suc i) n) t)
      | inr t ↦
          ap is_some_bit (if_no (Some i) (lowest_bit_from_start_within_count g (suc i) n) t)
          ∙ elim (bool_cases (f i)) [
            | inl u ↦ apart (sym t ∙ h i (omega arith) u)
            | inr u ↦
                some_still f g n (suc i) (λ m l. h m (omega arith))
                (sym (ap is_some_bit (if_no (Some i) (lowest_bit_from_start_within_count f (suc i) n) u)) ∙ e)
          ]
    ]

-- a bit of the TVR in one of two codes, when each of the three may have been added
both_still : (a b c x y z : Bool) → (a ≡ true → x ≡ true) → (b ≡ true → y ≡ true) → (c ≡ true → z ≡ true)
    → both a (either b c) ≡ true → both x (either y z) ≡ true
unfolding both either
both_still true true c x y z p q r e = simp (p refl, q refl)
both_still true false c x y z p q r e = simp (p refl, r e) (either_true y)
  where
    either_true : (t : Bool) → either t true ≡ true
    either_true true = refl
    either_true false = refl
both_still false b c x y z p q r e = apart e

module _ (r s : List ℕ) (ps qs : List ActionCodes) (grown : FortyBitsWithin r s)
    (codes : ActionCodesWithinAtStages ps qs) where
  -- a stage that held a bit still holds one
  held_still : (stage : ℕ) → stage < 3 → some_tvr_bit_in_codes_of_stage r ps stage ≡ true
      → some_tvr_bit_in_codes_of_stage s qs stage ≡ true
  unfolding some_tvr_bit_in_codes_of_stage lowest_tvr_bit_in_codes tvr_bit_is_in_either_action_code
  held_still stage l e =
      some_still _ _ 40 0
      (λ m u. both_still _ _ _ _ _ _ (grown m u) ((codes stage l).card m u) ((codes stage l).terminal m u))
      e

-- ---- the choice

pub ranked : DeclineBelowOnlineBelowOffline
ranked = record { decline_online = omega arith; online_offline = omega arith }

decline_lowest : (c : Choice) → choice_rank Decline ≤ choice_rank c
decline_lowest Decline = omega arith
decline_lowest Online = omega arith
decline_lowest Offline = omega arith

-- by the type and what the three stages hold
by_held : (k : OnlineCapability) (h o d x y z : Bool) → (h ≡ true → x ≡ true) → (o ≡ true → y ≡ true)
    → (d ≡ true → z ≡ true)
    → choice_rank (choice_by_stages k x y z) ≤ choice_rank (choice_by_stages k h o d)
by_held k h o d true y z p q r = decline_lowest (choice_by_stages k h o d)
by_held k true o d false y z p q r = apart (p refl)
by_held OnlineOnly false o d false y z p q r = omega arith
by_held OfflineOnly false o d false y true p q r = decline_lowest (choice_by_stages OfflineOnly false o d)
by_held OfflineOnly false o true false y false p q r = apart (r refl)
by_held OfflineOnly false o false false y false p q r = omega arith
by_held OnlineCapable false true d false true z p q r = omega arith
by_held OnlineCapable false false d false true z p q r = omega arith
by_held OnlineCapable false true d false false z p q r = apart (q refl)
by_held OnlineCapable false false d false false z p q r = omega arith
by_held Unlisted false o d false y z p q r = omega arith

lists : (r s : List ℕ) (kind : ℕ) (ps qs : List ActionCodes) → FortyBitsWithin r s → ActionCodesWithinAtStages ps qs
    → choice_rank (terminal_action_analysis s kind qs) ≤ choice_rank (terminal_action_analysis r kind ps)
unfolding terminal_action_analysis
lists r s kind ps qs g c =
    by_held (online_capability_of_type kind) _ _ _ _ _ _
    (held_still r s ps qs g c 0 (omega arith)) (held_still r s ps qs g c 1 (omega arith))
    (held_still r s ps qs g c 2 (omega arith))

-- ---- two stores

store_codes : (b c : List ℕ) → StoredActionCodesWithin b c
    → ActionCodesWithinAtStages (action_codes_of b) (action_codes_of c)
unfolding action_codes_of
store_codes b c w zero l = record { card = w.card_denial; terminal = w.terminal_denial }
store_codes b c w (suc zero) l = record { card = w.card_online; terminal = w.terminal_online }
store_codes b c w (suc (suc zero)) l = record { card = w.card_default; terminal = w.terminal_default }
store_codes b c w (suc (suc (suc i))) l = absurd (omega arith)

stores : (r s b c : List ℕ) → terminal_type c ≡ terminal_type b → FortyBitsWithin r s → StoredActionCodesWithin b c
    → choice_rank (choice_for_tvr c s) ≤ choice_rank (choice_for_tvr b r)
unfolding choice_for_tvr
stores r s b c e g w =
    subst (λ k. choice_rank (terminal_action_analysis s k (action_codes_of c))
    ≤ choice_rank (terminal_action_analysis r (terminal_type b) (action_codes_of b))) (sym e)
    (lists r s (terminal_type b) (action_codes_of b) (action_codes_of c) g (store_codes b c w))

-- ---- codes that grow alone

-- no code is read for the TVR
module _ (b c : List ℕ) (a : AlikeButActionCodes b c) where
  terms_same : cvm_conditions_in b ≡ cvm_conditions_in c
  unfolding cvm_conditions_in either
  terms_same = simp (
    a 0x9F33 refl,
    a 0x9C refl,
    a 0x9F35 refl,
    a 0x9F40 refl,
    a 0x5F2A refl,
    a 0x9F42 refl,
    a 0x9F02
        refl,
    a 0x8E refl,
  )

  verified_same : cvm_result_in b ≡ cvm_result_in c
  unfolding cvm_result_in card_and_kernel_support_on_device_cvm either
  verified_same = simp (a 0x82 refl, a 0xDF811B refl, a 0x9F02 refl, a 0xDF8126 refl, a 0x8E refl, terms_same)

  usage_same : auc_violated_in_store b ≡ auc_violated_in_store c
  unfolding auc_violated_in_store either
  usage_same = simp (
    a 0x9F07 refl,
    a 0x9F35 refl,
    a 0x9F40 refl,
    a 0x5F28 refl,
    a 0x9F1A refl,
    a 0x9C refl,
    a 0x9F03
        refl,
  )

  result_same : tvr_before_cvm b ≡ tvr_before_cvm c
  unfolding tvr_before_cvm restrictions_tvr_byte2 either
  result_same = simp (
    a 0x9F08 refl,
    a 0x9F09 refl,
    a 0x9A refl,
    a 0x5F24 refl,
    a 0x5F25 refl,
    a 0x9F02 refl,
    a 0xDF8123
        refl,
    usage_same,
  )

  bits_same : (findings_of b).bits ≡ (findings_of c).bits
  unfolding findings_of tvr_with_cvm
  bits_same = simp (verified_same, result_same)

  type_same : terminal_type c ≡ terminal_type b
  unfolding either
  type_same = simp (a 0x9F35 refl)

  codes_alone : StoredActionCodesWithin b c → choice_rank (choice_for_tvr c (findings_of c).bits)
      ≤ choice_rank (choice_for_tvr b (findings_of b).bits)
  codes_alone w = stores (findings_of b).bits (findings_of c).bits b c type_same
      (λ i l e. ap (λ s. has_bit_counted_from_zero_at_byte1b8 s i) (sym bits_same) ∙ e) w

pub never_loosens : AddedBitsNeverRaiseChoice
never_loosens = record { lists = lists; stores = stores; codes_alone = codes_alone }

-- ---- a code that is absent

-- zeros have no bit, and ones have all forty
zeros : (j : ℕ) → get_or all_zeros_action_code j 0 ≡ 0
zeros zero = refl
zeros (suc zero) = refl
zeros (suc (suc zero)) = refl
zeros (suc (suc (suc zero))) = refl
zeros (suc (suc (suc (suc zero)))) = refl
zeros (suc (suc (suc (suc (suc j))))) = refl

no_bit : (i : ℕ) → has_bit_counted_from_zero_at_byte1b8 all_zeros_action_code i ≡ false
unfolding has_bit_counted_from_zero_at_byte1b8
no_bit i = simp (zeros (i / 8 + 1 - 1), zero-div)

all_bits : AllFortyBitsSet all_ones_action_code
unfolding lowest_bit_from_start_within_count if has_bit_counted_from_zero_at_byte1b8
all_bits i l = not-false _ (none_passes (λ i. not (has_bit_counted_from_zero_at_byte1b8 all_ones_action_code i)) 40 0 refl i
    (omega arith) l)

-- an absent code that is not denial's is all ones
ones : (stage : ℕ) → (stage ≡ denial_stage → ⊥) → iac_or_default stage absent ≡ all_ones_action_code
unfolding iac_or_default
ones stage n = if_no all_zeros_action_code all_ones_action_code (ne_eqb stage denial_stage n)

pub absent_codes : IacAppearingOrLeavingRules
unfolding iac_or_default if
absent_codes =
    record {
      denial_appears = λ v i l e. apart (sym (no_bit i) ∙ e);
      denial_leaves = λ v none i l e. apart (sym (none i l) ∙ e);
      only_zeros = λ v w i l. elim (bool_cases (has_bit_counted_from_zero_at_byte1b8 (first_bytes_zero_padded 5 v) i))
          [ inl t ↦ apart (sym (no_bit i) ∙ w i l t) | inr t ↦ t ];
      other_appears = λ stage v n all i l e. all i l;
      only_ones = λ stage v n w i l. w i l (ap (λ s. has_bit_counted_from_zero_at_byte1b8 s i) (ones stage n) ∙ all_bits i l);
      other_leaves = λ stage v n i l e. ap (λ s. has_bit_counted_from_zero_at_byte1b8 s i) (ones stage n) ∙ all_bits i l;
    }
