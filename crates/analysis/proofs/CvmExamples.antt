-- Cardholder verification on both sides of each rule's edge, by computation.
-- Assumes nothing.
use mathlib.Core.Path.{◌≡◌, refl}
use mathlib.Core.Bool.{Bool, true, false}
use mathlib.Core.List.{List, [], ◌∷◌, ◌++◌, map}
use Prim.Native.Nat.{ℕ}
use lib.ListN.{replicate}
use Rattle.basics.specs.Choice.{if, both, either}
use Rattle.basics.specs.Number.{append_big_endian_bytes}
use Rattle.store.specs.Place.{absent, present}
use Rattle.analysis.specs.Value.{first_bytes_zero_padded}
use Rattle.analysis.specs.Cvm.{cvm_rules_from_pairs, cvm_amount_x, cvm_amount_y, cvm_recognised, cvm_supported}
use Rattle.analysis.specs.Cvm.{cvm_condition_met, cvm_result_of_supported, cvm_result_of_unsuccessful, cvm_result_by_rules}
use Rattle.analysis.specs.Cvm.{cvm_number, cvm_processing}
use Rattle.analysis.specs.declared.cvm.CvmConditions.{CvmConditions}
use Rattle.analysis.specs.declared.cvm.CvmResult.{CvmResult}

-- ---- whole lists

-- 12.34 by byte 2 of 9F33 and the CVM List (8E): cash, cashback, at an ATM, in the application's currency
abbrev terms : Bool → Bool → Bool → Bool → ℕ → List ℕ → CvmConditions
terms k b a u c l = record {
  capabilities = c;
  cash = k;
  cashback = b;
  atm = a;
  currency = u;
  amount = 1234;
  x =
      cvm_amount_x l;
  y = cvm_amount_y l;
}

abbrev purchase : ℕ → List ℕ → CvmConditions
purchase = terms false false false true

abbrev other_currency : ℕ → List ℕ → CvmConditions
other_currency = terms false false false false

abbrev cash_of : Bool → ℕ → List ℕ → CvmConditions
cash_of atm = terms true false atm true

abbrev with_cashback : ℕ → List ℕ → CvmConditions
with_cashback = terms false true false true

-- 9F34, what bytes 1 and 3 of 95 get, and the CVM's number
shown : CvmResult → List ℕ
shown v = v.code ∷ v.condition ∷ v.result ∷ v.tvr1 ∷ v.tvr3 ∷ cvm_number v.cvm ∷ []

-- by a list with no amounts: X and Y are 0
abbrev by_rules_of : (List ℕ → CvmConditions) → List ℕ → List ℕ
by_rules_of t s = shown (cvm_processing 0x10 (present (replicate 8 0 ++ s)) (t (replicate 8 0 ++ s)))

abbrev by_whole : (List ℕ → CvmConditions) → List ℕ → List ℕ
by_whole t l = shown (cvm_processing 0x10 (present l) (t l))

-- no verification by the AIP, whatever the list; no list; an empty one
not_asked :
    shown (cvm_processing 0xEF (present (replicate 8 0 ++ 0x42 ∷ 0x00 ∷ [])) (purchase 0x68 (replicate 8 0)))
    ∷ shown (cvm_processing 0xEF absent (purchase 0x68 []))
    ∷ shown (cvm_processing 0x10 absent (purchase 0x68 []))
    ∷ shown (cvm_processing 0x10 (present []) (purchase 0x68 []))
    ∷ []
    ≡ (0x3F ∷ 0x00 ∷ 0x00 ∷ 0x00 ∷ 0x00 ∷ 0x00 ∷ [])
    ∷ (0x3F ∷ 0x00 ∷ 0x00 ∷ 0x00 ∷ 0x00 ∷ 0x00 ∷ [])
    ∷ (0x3F ∷ 0x00 ∷ 0x00 ∷ 0x20 ∷ 0x00 ∷ 0x00 ∷ [])
    ∷ (0x3F ∷ 0x00 ∷ 0x00 ∷ 0x20 ∷ 0x00 ∷ 0x00 ∷ [])
    ∷ []
unfolding shown cvm_processing cvm_result_by_rules cvm_rules_from_pairs cvm_condition_met cvm_supported cvm_recognised
    cvm_result_of_supported cvm_result_of_unsuccessful if both either first_bytes_zero_padded append_big_endian_bytes
not_asked = refl

-- online PIN, else signature, else no CVM, each where it is supported
by_support :
    by_rules_of (purchase 0x68) (0x42 ∷ 0x03 ∷ 0x5E ∷ 0x03 ∷ 0x1F ∷ 0x03 ∷ [])
    ∷ by_rules_of (purchase 0x28) (0x42 ∷ 0x03 ∷ 0x5E ∷ 0x03 ∷ 0x1F ∷ 0x03 ∷ [])
    ∷ by_rules_of (purchase 0x08) (0x42 ∷ 0x03 ∷ 0x5E ∷ 0x03 ∷ 0x1F ∷ 0x03 ∷ [])
    ∷ by_rules_of (purchase 0x00) (0x42 ∷ 0x03 ∷ 0x5E ∷ 0x03 ∷ 0x1F ∷ 0x03 ∷ [])
    ∷ []
    ≡ (0x42 ∷ 0x03 ∷ 0x00 ∷ 0x00 ∷ 0x04 ∷ 0x02 ∷ [])
    ∷ (0x5E ∷ 0x03 ∷ 0x00 ∷ 0x00 ∷ 0x00 ∷ 0x01 ∷ [])
    ∷ (0x1F ∷ 0x03 ∷ 0x02 ∷ 0x00 ∷ 0x00 ∷ 0x00 ∷ [])
    ∷ (0x3F ∷ 0x00 ∷ 0x01 ∷ 0x00 ∷ 0x80 ∷ 0x00 ∷ [])
    ∷ []
unfolding shown cvm_processing cvm_result_by_rules cvm_rules_from_pairs cvm_condition_met cvm_supported cvm_recognised
    cvm_result_of_supported cvm_result_of_unsuccessful if both either first_bytes_zero_padded append_big_endian_bytes
by_support = refl

-- amounts equal to X and Y are neither under nor over; fail keeps its code and condition; one under and one over; X and
-- Y read as binary numbers; another currency, and the highest and the lowest amounts
by_amount :
    by_whole (purchase 0x68) (0x00 ∷ 0x00 ∷ 0x04 ∷ 0xD2 ∷ 0x00 ∷ 0x00 ∷ 0x04 ∷ 0xD2 ∷ 0x1E ∷ 0x06 ∷ 0x1E ∷ 0x07 ∷ 0x1E
    ∷ 0x08 ∷ 0x1E ∷ 0x09 ∷ 0x00 ∷ 0x00 ∷ [])
    ∷ by_whole (purchase 0x68) (0x00 ∷ 0x00 ∷ 0x04 ∷ 0xD1 ∷ 0x00 ∷ 0x00 ∷ 0x04 ∷ 0xD3 ∷ 0x42 ∷ 0x06 ∷ 0x5E ∷ 0x08 ∷ [])
    ∷ by_whole (purchase 0x68) (0x00 ∷ 0x00 ∷ 0x04 ∷ 0xD3 ∷ 0x00 ∷ 0x00 ∷ 0x04 ∷ 0xD1 ∷ 0x42 ∷ 0x06 ∷ 0x5E ∷ 0x08 ∷ [])
    ∷ by_whole (purchase 0x68) (0x00 ∷ 0x00 ∷ 0x04 ∷ 0xD1 ∷ 0x00 ∷ 0x00 ∷ 0x04 ∷ 0xD3 ∷ 0x42 ∷ 0x07 ∷ 0x5E ∷ 0x08 ∷ [])
    ∷ by_whole (purchase 0x68) (0x00 ∷ 0x00 ∷ 0x12 ∷ 0x35 ∷ 0x00 ∷ 0x00 ∷ 0x12 ∷ 0x33 ∷ 0x42 ∷ 0x07 ∷ 0x5E ∷ 0x08 ∷ [])
    ∷ by_whole (other_currency 0x68) (0xFF ∷ 0xFF ∷ 0xFF ∷ 0xFF ∷ 0x00 ∷ 0x00 ∷ 0x00 ∷ 0x00 ∷ 0x5E ∷ 0x06 ∷ 0x5E ∷ 0x09
    ∷ 0x1F ∷ 0x00 ∷ [])
    ∷ by_whole (purchase 0x68) (0xFF ∷ 0xFF ∷ 0xFF ∷ 0xFF ∷ 0x00 ∷ 0x00 ∷ 0x00 ∷ 0x00 ∷ 0x5E ∷ 0x06 ∷ 0x5E ∷ 0x09 ∷ 0x1F
    ∷ 0x00 ∷ [])
    ∷ by_whole (purchase 0x68) (0x00 ∷ 0x00 ∷ 0x00 ∷ 0x00 ∷ 0x00 ∷ 0x00 ∷ 0x00 ∷ 0x00 ∷ 0x5E ∷ 0x06 ∷ 0x5E ∷ 0x09 ∷ 0x1F
    ∷ 0x00 ∷ [])
    ∷ []
    ≡ (0x00 ∷ 0x00 ∷ 0x01 ∷ 0x00 ∷ 0x80 ∷ 0x00 ∷ [])
    ∷ (0x5E ∷ 0x08 ∷ 0x00 ∷ 0x00 ∷ 0x00 ∷ 0x01 ∷ [])
    ∷ (0x42 ∷ 0x06 ∷ 0x00 ∷ 0x00 ∷ 0x04 ∷ 0x02 ∷ [])
    ∷ (0x42 ∷ 0x07 ∷ 0x00 ∷ 0x00 ∷ 0x04 ∷ 0x02 ∷ [])
    ∷ (0x5E ∷ 0x08 ∷ 0x00 ∷ 0x00 ∷ 0x00 ∷ 0x01 ∷ [])
    ∷ (0x1F ∷ 0x00 ∷ 0x02 ∷ 0x00 ∷ 0x00 ∷ 0x00 ∷ [])
    ∷ (0x5E ∷ 0x06 ∷ 0x00 ∷ 0x00 ∷ 0x00 ∷ 0x01 ∷ [])
    ∷ (0x5E ∷ 0x09 ∷ 0x00 ∷ 0x00 ∷ 0x00 ∷ 0x01 ∷ [])
    ∷ []
unfolding shown cvm_processing cvm_result_by_rules cvm_rules_from_pairs cvm_condition_met cvm_supported cvm_recognised
    cvm_result_of_supported cvm_result_of_unsuccessful if both either first_bytes_zero_padded append_big_endian_bytes
by_amount = refl

-- an unrecognised CVM: the next rule where b7 indicates so, and the bit stays; none where b7 is clear or no rule is
-- left; no bit where the condition does not hold
unrecognised :
    by_rules_of (purchase 0x68) (0x46 ∷ 0x00 ∷ 0x1F ∷ 0x00 ∷ [])
    ∷ by_rules_of (purchase 0x68) (0x06 ∷ 0x00 ∷ 0x1F ∷ 0x00 ∷ [])
    ∷ by_rules_of (purchase 0x68) (0x46 ∷ 0x00 ∷ [])
    ∷ by_rules_of (purchase 0x68) (0x46 ∷ 0x01 ∷ 0x1F ∷ 0x00 ∷ [])
    ∷ by_rules_of (purchase 0x68) (0x46 ∷ 0x00 ∷ 0x42 ∷ 0x00 ∷ [])
    ∷ by_rules_of (purchase 0x68) (0x46 ∷ 0x00 ∷ 0x40 ∷ 0x00 ∷ [])
    ∷ by_rules_of (purchase 0x68) (0x46 ∷ 0x00 ∷ 0x1F ∷ 0x03 ∷ [])
    ∷ by_rules_of (purchase 0x60) (0x46 ∷ 0x00 ∷ 0x1F ∷ 0x03 ∷ [])
    ∷ []
    ≡ (0x1F ∷ 0x00 ∷ 0x02 ∷ 0x00 ∷ 0x40 ∷ 0x00 ∷ [])
    ∷ (0x3F ∷ 0x00 ∷ 0x01 ∷ 0x00 ∷ 0xC0 ∷ 0x00 ∷ [])
    ∷ (0x3F ∷ 0x00 ∷ 0x01 ∷ 0x00 ∷ 0xC0 ∷ 0x00 ∷ [])
    ∷ (0x1F ∷ 0x00 ∷ 0x02 ∷ 0x00 ∷ 0x00 ∷ 0x00 ∷ [])
    ∷ (0x42 ∷ 0x00 ∷ 0x00 ∷ 0x00 ∷ 0x44 ∷ 0x02 ∷ [])
    ∷ (0x40 ∷ 0x00 ∷ 0x01 ∷ 0x00 ∷ 0xC0 ∷ 0x00 ∷ [])
    ∷ (0x1F ∷ 0x03 ∷ 0x02 ∷ 0x00 ∷ 0x40 ∷ 0x00 ∷ [])
    ∷ (0x3F ∷ 0x00 ∷ 0x01 ∷ 0x00 ∷ 0xC0 ∷ 0x00 ∷ [])
    ∷ []
unfolding shown cvm_processing cvm_result_by_rules cvm_rules_from_pairs cvm_condition_met cvm_supported cvm_recognised
    cvm_result_of_supported cvm_result_of_unsuccessful if both either first_bytes_zero_padded append_big_endian_bytes
unrecognised = refl

-- fail with b7 and a rule left, with none left, and with b7 clear
fails :
    by_rules_of (purchase 0x68) (0x40 ∷ 0x00 ∷ 0x1F ∷ 0x00 ∷ [])
    ∷ by_rules_of (purchase 0x68) (0x40 ∷ 0x00 ∷ [])
    ∷ by_rules_of (purchase 0x68) (0x40 ∷ 0x00 ∷ 0x1F ∷ 0x01 ∷ [])
    ∷ by_rules_of (purchase 0x68) (0x00 ∷ 0x00 ∷ 0x1F ∷ 0x00 ∷ [])
    ∷ []
    ≡ (0x1F ∷ 0x00 ∷ 0x02 ∷ 0x00 ∷ 0x00 ∷ 0x00 ∷ [])
    ∷ (0x40 ∷ 0x00 ∷ 0x01 ∷ 0x00 ∷ 0x80 ∷ 0x00 ∷ [])
    ∷ (0x3F ∷ 0x00 ∷ 0x01 ∷ 0x00 ∷ 0x80 ∷ 0x00 ∷ [])
    ∷ (0x00 ∷ 0x00 ∷ 0x01 ∷ 0x00 ∷ 0x80 ∷ 0x00 ∷ [])
    ∷ []
unfolding shown cvm_processing cvm_result_by_rules cvm_rules_from_pairs cvm_condition_met cvm_supported cvm_recognised
    cvm_result_of_supported cvm_result_of_unsuccessful if both either first_bytes_zero_padded append_big_endian_bytes
fails = refl

-- an odd last byte is no rule, so the one before it is the last
odd_bytes :
    by_rules_of (purchase 0x48) (0x5E ∷ 0x00 ∷ 0x1F ∷ [])
    ∷ by_rules_of (purchase 0x48) (0x5E ∷ 0x00 ∷ 0x1F ∷ 0x00 ∷ [])
    ∷ by_rules_of (purchase 0x68) (0x5E ∷ 0x00 ∷ 0x1F ∷ [])
    ∷ by_rules_of (purchase 0x48) (0x1F ∷ [])
    ∷ by_rules_of (purchase 0x68) (0x40 ∷ 0x00 ∷ 0x1F ∷ [])
    ∷ []
    ≡ (0x3F ∷ 0x00 ∷ 0x01 ∷ 0x00 ∷ 0x80 ∷ 0x00 ∷ [])
    ∷ (0x1F ∷ 0x00 ∷ 0x02 ∷ 0x00 ∷ 0x00 ∷ 0x00 ∷ [])
    ∷ (0x5E ∷ 0x00 ∷ 0x00 ∷ 0x00 ∷ 0x00 ∷ 0x01 ∷ [])
    ∷ (0x3F ∷ 0x00 ∷ 0x01 ∷ 0x00 ∷ 0x80 ∷ 0x00 ∷ [])
    ∷ (0x40 ∷ 0x00 ∷ 0x01 ∷ 0x00 ∷ 0x80 ∷ 0x00 ∷ [])
    ∷ []
unfolding shown cvm_processing cvm_result_by_rules cvm_rules_from_pairs cvm_condition_met cvm_supported cvm_recognised
    cvm_result_of_supported cvm_result_of_unsuccessful if both either first_bytes_zero_padded append_big_endian_bytes
odd_bytes = refl

-- cash at an ATM and elsewhere, neither cash nor cashback, cashback
by_type :
    by_rules_of (cash_of true 0x68) (0x1E ∷ 0x04 ∷ 0x1F ∷ 0x02 ∷ 0x42 ∷ 0x01 ∷ [])
    ∷ by_rules_of (cash_of false 0x68) (0x1E ∷ 0x04 ∷ 0x1F ∷ 0x02 ∷ 0x42 ∷ 0x01 ∷ [])
    ∷ by_rules_of (purchase 0x68) (0x1E ∷ 0x04 ∷ 0x1F ∷ 0x02 ∷ 0x42 ∷ 0x01 ∷ [])
    ∷ by_rules_of (with_cashback 0x68) (0x1E ∷ 0x04 ∷ 0x1F ∷ 0x02 ∷ 0x42 ∷ 0x01 ∷ [])
    ∷ by_rules_of (with_cashback 0x68) (0x5E ∷ 0x02 ∷ 0x1F ∷ 0x01 ∷ 0x42 ∷ 0x05 ∷ [])
    ∷ by_rules_of (purchase 0x68) (0x1E ∷ 0x05 ∷ 0x1F ∷ 0x01 ∷ 0x42 ∷ 0x02 ∷ [])
    ∷ []
    ≡ (0x42 ∷ 0x01 ∷ 0x00 ∷ 0x00 ∷ 0x04 ∷ 0x02 ∷ [])
    ∷ (0x1E ∷ 0x04 ∷ 0x00 ∷ 0x00 ∷ 0x00 ∷ 0x01 ∷ [])
    ∷ (0x1F ∷ 0x02 ∷ 0x02 ∷ 0x00 ∷ 0x00 ∷ 0x00 ∷ [])
    ∷ (0x3F ∷ 0x00 ∷ 0x01 ∷ 0x00 ∷ 0x80 ∷ 0x00 ∷ [])
    ∷ (0x42 ∷ 0x05 ∷ 0x00 ∷ 0x00 ∷ 0x04 ∷ 0x02 ∷ [])
    ∷ (0x42 ∷ 0x02 ∷ 0x00 ∷ 0x00 ∷ 0x04 ∷ 0x02 ∷ [])
    ∷ []
unfolding shown cvm_processing cvm_result_by_rules cvm_rules_from_pairs cvm_condition_met cvm_supported cvm_recognised
    cvm_result_of_supported cvm_result_of_unsuccessful if both either first_bytes_zero_padded append_big_endian_bytes
by_type = refl

-- conditions that are not understood; b8 of a code is kept and not tested
reserved :
    by_rules_of (purchase 0x68) (0x06 ∷ 0x0A ∷ 0x06 ∷ 0x80 ∷ 0x9F ∷ 0x00 ∷ [])
    ∷ by_rules_of (purchase 0x68) (0xC2 ∷ 0x00 ∷ 0x9F ∷ 0x00 ∷ [])
    ∷ by_rules_of (purchase 0x28) (0xC2 ∷ 0x00 ∷ 0x9F ∷ 0x00 ∷ [])
    ∷ by_rules_of (purchase 0x28) (0x82 ∷ 0x00 ∷ 0x9F ∷ 0x00 ∷ [])
    ∷ by_rules_of (purchase 0x68) (0x80 ∷ 0x00 ∷ 0x1F ∷ 0x00 ∷ [])
    ∷ []
    ≡ (0x9F ∷ 0x00 ∷ 0x02 ∷ 0x00 ∷ 0x00 ∷ 0x00 ∷ [])
    ∷ (0xC2 ∷ 0x00 ∷ 0x00 ∷ 0x00 ∷ 0x04 ∷ 0x02 ∷ [])
    ∷ (0x9F ∷ 0x00 ∷ 0x02 ∷ 0x00 ∷ 0x00 ∷ 0x00 ∷ [])
    ∷ (0x3F ∷ 0x00 ∷ 0x01 ∷ 0x00 ∷ 0x80 ∷ 0x00 ∷ [])
    ∷ (0x80 ∷ 0x00 ∷ 0x01 ∷ 0x00 ∷ 0x80 ∷ 0x00 ∷ [])
    ∷ []
unfolding shown cvm_processing cvm_result_by_rules cvm_rules_from_pairs cvm_condition_met cvm_supported cvm_recognised
    cvm_result_of_supported cvm_result_of_unsuccessful if both either first_bytes_zero_padded append_big_endian_bytes
reserved = refl

-- an offline PIN that is supported; one that is not
offline :
    by_rules_of (purchase 0xF8) (0x44 ∷ 0x03 ∷ 0x1F ∷ 0x00 ∷ [])
    ∷ by_rules_of (purchase 0xF8) (0x41 ∷ 0x00 ∷ 0x1F ∷ 0x00 ∷ [])
    ∷ by_rules_of (purchase 0xF8) (0x43 ∷ 0x00 ∷ 0x1F ∷ 0x00 ∷ [])
    ∷ by_rules_of (purchase 0xF8) (0x05 ∷ 0x03 ∷ 0x1F ∷ 0x00 ∷ [])
    ∷ by_rules_of (purchase 0xE8) (0x44 ∷ 0x03 ∷ 0x1F ∷ 0x00 ∷ [])
    ∷ by_rules_of (purchase 0xE8) (0x44 ∷ 0x00 ∷ 0x1F ∷ 0x00 ∷ [])
    ∷ by_rules_of (purchase 0xE8) (0x04 ∷ 0x00 ∷ 0x1F ∷ 0x00 ∷ [])
    ∷ []
    ≡ (0x44 ∷ 0x03 ∷ 0x00 ∷ 0x00 ∷ 0x00 ∷ 0x04 ∷ [])
    ∷ (0x41 ∷ 0x00 ∷ 0x00 ∷ 0x00 ∷ 0x00 ∷ 0x04 ∷ [])
    ∷ (0x43 ∷ 0x00 ∷ 0x00 ∷ 0x00 ∷ 0x00 ∷ 0x04 ∷ [])
    ∷ (0x05 ∷ 0x03 ∷ 0x00 ∷ 0x00 ∷ 0x00 ∷ 0x04 ∷ [])
    ∷ (0x1F ∷ 0x00 ∷ 0x02 ∷ 0x00 ∷ 0x00 ∷ 0x00 ∷ [])
    ∷ (0x1F ∷ 0x00 ∷ 0x02 ∷ 0x00 ∷ 0x00 ∷ 0x00 ∷ [])
    ∷ (0x3F ∷ 0x00 ∷ 0x01 ∷ 0x00 ∷ 0x80 ∷ 0x00 ∷ [])
    ∷ []
unfolding shown cvm_processing cvm_result_by_rules cvm_rules_from_pairs cvm_condition_met cvm_supported cvm_recognised
    cvm_result_of_supported cvm_result_of_unsuccessful if both either first_bytes_zero_padded append_big_endian_bytes
offline = refl

-- ---- one test at a time

-- the codes of the table, and their neighbours
codes : List ℕ
codes = 0x00 ∷ 0x01 ∷ 0x02 ∷ 0x03 ∷ 0x04 ∷ 0x05 ∷ 0x06 ∷ 0x1D ∷ 0x1E ∷ 0x1F ∷ 0x20 ∷ 0x3F ∷ []

-- each bit alone, each combination, all bits, and all but each
supports :
    map (λ (c : ℕ). map (cvm_supported c) codes)
    (0x80 ∷ 0x40 ∷ 0x20 ∷ 0x10 ∷ 0x08 ∷ 0x07 ∷ 0xA0 ∷ 0x30 ∷ 0xFF ∷ 0x7F ∷ 0xBF ∷ 0xDF ∷ 0xEF ∷ 0xF7 ∷ [])
    ≡ (true ∷ true ∷ false ∷ false ∷ false ∷ false ∷ false ∷ false ∷ false ∷ false ∷ false ∷ false ∷ [])
    ∷ (true ∷ false ∷ true ∷ false ∷ false ∷ false ∷ false ∷ false ∷ false ∷ false ∷ false ∷ false ∷ [])
    ∷ (true ∷ false ∷ false ∷ false ∷ false ∷ false ∷ false ∷ false ∷ true ∷ false ∷ false ∷ false ∷ [])
    ∷ (true ∷ false ∷ false ∷ false ∷ true ∷ false ∷ false ∷ false ∷ false ∷ false ∷ false ∷ false ∷ [])
    ∷ (true ∷ false ∷ false ∷ false ∷ false ∷ false ∷ false ∷ false ∷ false ∷ true ∷ false ∷ false ∷ [])
    ∷ (true ∷ false ∷ false ∷ false ∷ false ∷ false ∷ false ∷ false ∷ false ∷ false ∷ false ∷ false ∷ [])
    ∷ (true ∷ true ∷ false ∷ true ∷ false ∷ false ∷ false ∷ false ∷ true ∷ false ∷ false ∷ false ∷ [])
    ∷ (true ∷ false ∷ false ∷ false ∷ true ∷ true ∷ false ∷ false ∷ true ∷ false ∷ false ∷ false ∷ [])
    ∷ (true ∷ true ∷ true ∷ true ∷ true ∷ true ∷ false ∷ false ∷ true ∷ true ∷ false ∷ false ∷ [])
    ∷ (true ∷ false ∷ true ∷ false ∷ true ∷ true ∷ false ∷ false ∷ true ∷ true ∷ false ∷ false ∷ [])
    ∷ (true ∷ true ∷ false ∷ true ∷ true ∷ true ∷ false ∷ false ∷ true ∷ true ∷ false ∷ false ∷ [])
    ∷ (true ∷ true ∷ true ∷ false ∷ true ∷ false ∷ false ∷ false ∷ false ∷ true ∷ false ∷ false ∷ [])
    ∷ (true ∷ true ∷ true ∷ true ∷ false ∷ false ∷ false ∷ false ∷ true ∷ true ∷ false ∷ false ∷ [])
    ∷ (true ∷ true ∷ true ∷ true ∷ true ∷ true ∷ false ∷ false ∷ true ∷ false ∷ false ∷ false ∷ [])
    ∷ []
unfolding codes cvm_supported if both
supports = refl

-- b7 and b8 do not matter
high_bits :
    map (λ (c : ℕ). cvm_supported 0x40 c) (0x02 ∷ 0x42 ∷ 0x82 ∷ 0xC2 ∷ 0x41 ∷ 0x5E ∷ [])
    ≡ true ∷ true ∷ true ∷ true ∷ false ∷ false ∷ []
unfolding cvm_supported if both
high_bits = refl

-- the CVMs of the table, whatever b7 and b8; their neighbours
recognises :
    map cvm_recognised (codes ++ 0x45 ∷ 0x46 ∷ 0xDE ∷ 0xDD ∷ [])
    ≡ true ∷ true ∷ true ∷ true ∷ true ∷ true ∷ false ∷ false ∷ true ∷ true ∷ false ∷ false ∷ true ∷ false ∷ true
    ∷ false ∷ []
unfolding codes cvm_recognised if either
recognises = refl

-- the condition codes 0 to 10, 80 and FF, with an online PIN
abbrev conditions : CvmConditions → List Bool
conditions t = map (cvm_condition_met t 0x42) (0 ∷ 1 ∷ 2 ∷ 3 ∷ 4 ∷ 5 ∷ 6 ∷ 7 ∷ 8 ∷ 9 ∷ 10 ∷ 0x80 ∷ 0xFF ∷ [])

-- the amount under both, equal to both, over both
abbrev amounts : ℕ → ℕ → ℕ → CvmConditions
amounts a m n = record {
  capabilities = 0;
  cash = false;
  cashback = false;
  atm = false;
  currency = true;
  amount = a;
  x =
      m;
  y = n;
}

met_conditions :
    conditions (purchase 0x40 [])
    ∷ conditions (purchase 0xBF [])
    ∷ conditions (cash_of true 0x40 [])
    ∷ conditions (cash_of false 0x40 [])
    ∷ conditions (with_cashback 0x40 [])
    ∷ conditions (other_currency 0x40 [])
    ∷ conditions (amounts 1234 1235 1233)
    ∷ conditions (amounts 1234 1234 1234)
    ∷ conditions (amounts 1234 1233 1235)
    ∷ conditions (amounts 999999999999 4294967295 4294967295)
    ∷ conditions (amounts 4294967296 0 1)
    ∷ []
    ≡ (true ∷ false ∷ true ∷ true ∷ false ∷ false ∷ false ∷ true ∷ false ∷ true ∷ false ∷ false ∷ false ∷ [])
    ∷ (true ∷ false ∷ true ∷ false ∷ false ∷ false ∷ false ∷ true ∷ false ∷ true ∷ false ∷ false ∷ false ∷ [])
    ∷ (true ∷ true ∷ false ∷ true ∷ false ∷ false ∷ false ∷ true ∷ false ∷ true ∷ false ∷ false ∷ false ∷ [])
    ∷ (true ∷ false ∷ false ∷ true ∷ true ∷ false ∷ false ∷ true ∷ false ∷ true ∷ false ∷ false ∷ false ∷ [])
    ∷ (true ∷ false ∷ false ∷ true ∷ false ∷ true ∷ false ∷ true ∷ false ∷ true ∷ false ∷ false ∷ false ∷ [])
    ∷ (true ∷ false ∷ true ∷ true ∷ false ∷ false ∷ false ∷ false ∷ false ∷ false ∷ false ∷ false ∷ false ∷ [])
    ∷ (true ∷ false ∷ true ∷ false ∷ false ∷ false ∷ true ∷ false ∷ false ∷ true ∷ false ∷ false ∷ false ∷ [])
    ∷ (true ∷ false ∷ true ∷ false ∷ false ∷ false ∷ false ∷ false ∷ false ∷ false ∷ false ∷ false ∷ false ∷ [])
    ∷ (true ∷ false ∷ true ∷ false ∷ false ∷ false ∷ false ∷ true ∷ true ∷ false ∷ false ∷ false ∷ false ∷ [])
    ∷ (true ∷ false ∷ true ∷ false ∷ false ∷ false ∷ false ∷ true ∷ false ∷ true ∷ false ∷ false ∷ false ∷ [])
    ∷ (true ∷ false ∷ true ∷ false ∷ false ∷ false ∷ false ∷ true ∷ false ∷ true ∷ false ∷ false ∷ false ∷ [])
    ∷ []
unfolding cvm_condition_met cvm_supported if both first_bytes_zero_padded append_big_endian_bytes
met_conditions = refl

-- X and Y are the first four bytes and the next four, the first byte the highest
read_amounts :
    cvm_amount_x (0x01 ∷ 0x02 ∷ 0x03 ∷ 0x04 ∷ 0xFF ∷ 0xFF ∷ 0xFF ∷ 0xFE ∷ 0x1F ∷ 0x00 ∷ [])
    ∷ cvm_amount_y (0x01 ∷ 0x02 ∷ 0x03 ∷ 0x04 ∷ 0xFF ∷ 0xFF ∷ 0xFF ∷ 0xFE ∷ 0x1F ∷ 0x00 ∷ [])
    ∷ []
    ≡ 0x01020304 ∷ 0xFFFFFFFE ∷ []
unfolding first_bytes_zero_padded append_big_endian_bytes
read_amounts = refl
