-- What the session builds on: the TVR has five bytes, the first always 80, P1 is one of three, the one that the rule
-- gives by number, and the transaction limit goes by four objects. Each from its definition, a byte's bits being
-- different powers of two. Assumes nothing.
use mathlib.Core.Bool.{Bool, true, false}
use mathlib.Core.List.{List}
use mathlib.Core.Logic.{◌⊎◌, inl, inr}
use mathlib.Core.Path.{◌≡◌, refl, ap, ◌∙◌}
use Prim.Native.Nat.{ℕ, zero, suc, ◌<◌, ◌≤◌, ◌-◌, ◌^◌}
use native.Mathlib.Omega.{arith}
use lib.ListN.{length, get_or}
use Rattle.basics.specs.Choice.{if}
use Rattle.store.specs.Place.{object_value}
use Rattle.analysis.specs.Action.{card_and_kernel_support_on_device_cvm, transaction_limit, restrictions_tvr_byte2}
use Rattle.analysis.specs.Action.{tvr_before_cvm, tvr_with_cvm, findings_of}
use Rattle.analysis.specs.Bits.{bit_weight_if_set}
use Rattle.analysis.specs.Choice.{terminal_type_last_digit, online_capability_by_digit, choice_by_stages}
use Rattle.analysis.specs.Choice.{terminal_action_analysis, generate_ac_p1, generate_ac_p1_for}
use Rattle.analysis.specs.Digits.{is_one_of, first_amount_is_above}
use Rattle.analysis.specs.Restrictions.{tvr_byte2_version_expired_early_usage}
use Rattle.analysis.specs.Tvr.{tvr_byte4_amount_above_floor_limit, tvr_with_bits}
use Rattle.analysis.specs.declared.choice.ActionCodes.{ActionCodes}
use Rattle.analysis.specs.declared.choice.OnlineCapability.TheVariants.{OnlineOnly, OnlineCapable, OfflineOnly}
use Rattle.analysis.specs.declared.choice.OnlineCapability.TheVariants.{Unlisted}
use Rattle.analysis.specs.declared.choice.Choice.{Choice}
use Rattle.analysis.specs.declared.choice.Choice.TheVariants.{Decline, Online, Offline}
use Rattle.analysis.proofs.Listed.{is_none, one_is}

-- a bit adds at most its weight
bit_weight_most : (b : ℕ) (t : Bool) → bit_weight_if_set b t ≤ 2 ^ (b - 1)
unfolding if
bit_weight_most b true = omega arith
bit_weight_most b false = omega arith

restriction_byte : (version expired early usage : Bool) → tvr_byte2_version_expired_early_usage version expired early usage
    < 256
restriction_byte v x e u = omega (
  arith,
  bit_weight_most 8 v,
  bit_weight_most 7 x,
  bit_weight_most 6 e,
  bit_weight_most
      5 u,
)

floor_byte : (amount limit : List ℕ) → tvr_byte4_amount_above_floor_limit amount limit < 256
floor_byte a l = omega (arith, bit_weight_most 8 (first_amount_is_above a l))

restrictions_byte : (store : List ℕ) → restrictions_tvr_byte2 store < 256
unfolding restrictions_tvr_byte2
restrictions_byte store = restriction_byte _ _ _ _

module _ (store : List ℕ) where
  pub result_length : length (tvr_before_cvm store) ≡ 5
  unfolding tvr_before_cvm
  result_length = refl

  -- 9F34 has three bytes, and 95 five
  pub found_length : length (findings_of store).results ≡ 3
  unfolding findings_of
  found_length = refl

  pub bits_length : length (findings_of store).bits ≡ 5
  unfolding findings_of tvr_with_cvm tvr_with_bits tvr_before_cvm
  bits_length = refl

  -- byte 1 b8 is always set, and alone
  pub result_first : get_or (tvr_before_cvm store) 0 0 ≡ 0x80
  unfolding tvr_before_cvm
  result_first = refl

  pub result_bytes_lem : (i : ℕ) → get_or (tvr_before_cvm store) i 0 < 256
  unfolding tvr_before_cvm
  result_bytes_lem zero = omega arith
  result_bytes_lem (suc zero) = restrictions_byte store
  result_bytes_lem (suc (suc zero)) = omega arith
  result_bytes_lem (suc (suc (suc zero))) = floor_byte _ _
  result_bytes_lem (suc (suc (suc (suc zero)))) = omega arith
  result_bytes_lem (suc (suc (suc (suc (suc i))))) = omega arith

pub p1_cases : (c : Choice) → (generate_ac_p1 c ≡ 0x00) ⊎ ((generate_ac_p1 c ≡ 0x40) ⊎ (generate_ac_p1 c ≡ 0x80))
p1_cases Decline = inl refl
p1_cases Offline = inr (inl refl)
p1_cases Online = inr (inr refl)

-- ---- the choice by its number

-- by the digit's tests, of which the last two exclude each other, and by whether denial, online and default hold a bit
p1_by : (a b c h o d : Bool) → (b ≡ true → c ≡ false)
    → generate_ac_p1 (choice_by_stages (if a OnlineOnly (if b OnlineCapable (if c OfflineOnly Unlisted))) h o d)
    ≡ if h 0x00 (if a 0x80 (if c (if d 0x00 0x40) (if b (if o 0x80 0x40) 0x00)))
unfolding if
p1_by true b c true o d n = refl
p1_by true b c false o d n = refl
p1_by false true true h o d n = let z = n refl in cc
p1_by false true false true o d n = refl
p1_by false true false false true d n = refl
p1_by false true false false false d n = refl
p1_by false false true true o d n = refl
p1_by false false true false o true n = refl
p1_by false false true false o false n = refl
p1_by false false false true o d n = refl
p1_by false false false false o d n = refl

one_ending : (x : ℕ) → is_one_of x 2 5 ≡ true → is_one_of x 3 6 ≡ false
one_ending x e =
    is_none x 3 6
    (λ z. elim (one_is x 2 5 e) [
      | inl p ↦ elim z [ inl q ↦ omega arith | inr q ↦ omega arith ]
      | inr p ↦ elim z [ inl q ↦ omega arith | inr q ↦ omega arith ]
    ])

pub p1_is : (result : List ℕ) (kind : ℕ) (pairs : List ActionCodes)
    → generate_ac_p1 (terminal_action_analysis result kind pairs) ≡ generate_ac_p1_for result kind pairs
unfolding terminal_action_analysis generate_ac_p1_for online_capability_by_digit
p1_is result kind pairs = p1_by _ _ _ _ _ _ (one_ending (terminal_type_last_digit kind))

-- what is returned, and its number
pub asks : (result : List ℕ) (kind : ℕ) (pairs : List ActionCodes) {r : Choice}
    → r ≡ terminal_action_analysis result kind pairs
    → (r ≡ terminal_action_analysis result kind pairs) × (generate_ac_p1 r ≡ generate_ac_p1_for result kind pairs)
asks result kind pairs e = (e, ap generate_ac_p1 e ∙ p1_is result kind pairs)

-- the transaction limit goes by 82, DF811B, DF8124 and DF8125 alone
pub limit_same : (b c : List ℕ) → object_value b 0x82 ≡ object_value c 0x82
    → object_value b 0xDF811B ≡ object_value c 0xDF811B
    → object_value b 0xDF8124 ≡ object_value c 0xDF8124 → object_value b 0xDF8125 ≡ object_value c 0xDF8125
    → transaction_limit b ≡ transaction_limit c
unfolding transaction_limit card_and_kernel_support_on_device_cvm
limit_same b c p k l m = simp (p, k, l, m)
