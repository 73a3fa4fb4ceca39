-- Cardholder verification (document 02, Item 5; Book C-2 7.5, steps CVM.5 to CVM.25): the CVM by the CVM List (8E), the
-- three bytes of 9F34, and the bits that the choice adds to 95. On a device with on-device CVM (document 02, Item 8;
-- CVM.1 to CVM.4) the CVM is by the amount.
-- Assumes nothing.
use Rattle.std.specs.Prelude.{Bool, true, false, not, List, [], ◌∷◌, ◌+◌, ◌%◌, drop}
use Rattle.basics.specs.Types.{Amount, Byte, Bytes, CvmNumber, TvrBytes, Value}
use Rattle.basics.specs.Choice.{when◌then◌else◌, ◌and◌, ◌or◌, ◌≤?◌, ◌<?◌, ◌=?◌}
use Rattle.basics.specs.Number.{big_endian_number}
use Rattle.store.specs.Place.{StoredValue, absent, present}
use Rattle.analysis.specs.Bits.{byte_has_bit, bit_weight_if_set}
use Rattle.analysis.specs.Digits.{is_one_of}
use Rattle.analysis.specs.Value.{first_bytes_zero_padded}
use Rattle.analysis.specs.declared.cvm.Cvm.{Cvm}
use Rattle.analysis.specs.declared.cvm.Cvm.TheVariants.{NoCvm, Signature, OnlinePin}
use Rattle.analysis.specs.declared.cvm.Cvm.TheVariants.{ConfirmationCode, OfflinePin}
use Rattle.analysis.specs.declared.cvm.CvmConditions.{CvmConditions}
use Rattle.analysis.specs.declared.cvm.CvmResult.{CvmResult}

-- ---- the CVMs

-- their numbers (Book C-2 A.1.117): 0 no CVM, 1 signature, 2 online PIN, 3 confirmation code verified. An offline PIN
-- has a proprietary value (CVM.18); ours is 4, and its result is unknown, since nobody has verified anything.
abbrev pub cvm_number : Cvm → CvmNumber
cvm_number NoCvm = 0
cvm_number Signature = 1
cvm_number OnlinePin = 2
cvm_number ConfirmationCode = 3
cvm_number OfflinePin = 4

-- the number where no CVM was chosen: not applicable
abbrev pub cvm_number_not_applicable : CvmNumber
cvm_number_not_applicable = 15

-- ---- the list

-- a rule of the CVM List: the code of a CVM, and the code of the condition under which it applies
pub record CvmRule : Type 0 where
  pub code : Byte
  pub condition : Byte

-- rules are pairs of bytes; an odd last byte is none
unfoldable pub cvm_rules_from_pairs : Bytes → List CvmRule
cvm_rules_from_pairs [] = []
cvm_rules_from_pairs (c ∷ []) = []
cvm_rules_from_pairs (c ∷ d ∷ s) = record { code = c; condition = d } ∷ cvm_rules_from_pairs s

-- the rules of the list, from byte 9 on
abbrev pub cvm_rules_of_list : Value → List CvmRule
cvm_rules_of_list list = cvm_rules_from_pairs (drop 8 list)

-- amounts X and Y of the list: bytes 1 to 4 and 5 to 8, binary
abbrev pub cvm_amount_x : Value → Amount
cvm_amount_x list = big_endian_number (first_bytes_zero_padded 4 list)

abbrev pub cvm_amount_y : Value → Amount
cvm_amount_y list = big_endian_number (first_bytes_zero_padded 4 (drop 4 list))

-- ---- a rule's code

-- the codes of the CVMs (Book 3, Annex C3): fail, plaintext PIN, online PIN, plaintext PIN and signature, enciphered
-- PIN, enciphered PIN and signature, signature, no CVM
abbrev pub cvm_code_fail : Byte
cvm_code_fail = 0x00

abbrev pub cvm_code_plaintext_pin : Byte
cvm_code_plaintext_pin = 0x01

abbrev pub cvm_code_online_pin : Byte
cvm_code_online_pin = 0x02

abbrev pub cvm_code_plaintext_pin_and_signature : Byte
cvm_code_plaintext_pin_and_signature = 0x03

abbrev pub cvm_code_enciphered_pin : Byte
cvm_code_enciphered_pin = 0x04

abbrev pub cvm_code_enciphered_pin_and_signature : Byte
cvm_code_enciphered_pin_and_signature = 0x05

abbrev pub cvm_code_signature : Byte
cvm_code_signature = 0x1E

abbrev pub cvm_code_no_cvm : Byte
cvm_code_no_cvm = 0x1F

-- the CVM: b6 to b1; b7 indicates that the next rule applies where this one is unsuccessful, b8 is reserved
abbrev pub cvm_method_of : Byte → Byte
cvm_method_of code = code % 64

-- CVM.15: fail, the offline PINs and the online one, signature and no CVM are recognised
unfoldable pub cvm_recognised : Byte → Bool
cvm_recognised code =
    cvm_method_of code ≤? cvm_code_enciphered_pin_and_signature or is_one_of (cvm_method_of code) cvm_code_signature cvm_code_no_cvm

-- CVM.17: by byte 2 of the terminal capabilities 9F33: b8 plaintext PIN, b7 online PIN, b6 signature, b5 enciphered
-- PIN, b4 no CVM; of a combination both are needed; to fail is always supported
unfoldable pub cvm_supported : Byte → Byte → Bool
cvm_supported capabilities code =
    when cvm_method_of code =? cvm_code_fail then true
    else when cvm_method_of code =? cvm_code_plaintext_pin then byte_has_bit capabilities 8
    else when cvm_method_of code =? cvm_code_online_pin then byte_has_bit capabilities 7
    else when cvm_method_of code =? cvm_code_plaintext_pin_and_signature then byte_has_bit capabilities 8
    and byte_has_bit capabilities 6
    else when cvm_method_of code =? cvm_code_enciphered_pin then byte_has_bit capabilities 5
    else when cvm_method_of code =? cvm_code_enciphered_pin_and_signature then byte_has_bit capabilities 5
    and byte_has_bit capabilities 6
    else when cvm_method_of code =? cvm_code_signature then byte_has_bit capabilities 6
    else when cvm_method_of code =? cvm_code_no_cvm then byte_has_bit capabilities 4
    else false

-- CVM.17: a supported CVM other than fail is taken
abbrev pub cvm_supported_not_fail : Byte → Byte → Bool
cvm_supported_not_fail capabilities code = cvm_supported capabilities code and not (cvm_method_of code =? cvm_code_fail)

-- ---- a rule's condition (CVM.10 to CVM.12)

-- the code of the condition under which a rule always applies
abbrev pub cvm_condition_always : Byte
cvm_condition_always = 0

-- by its code, a condition is understood, has its data and is true; an amount that equals X or Y is neither under nor
-- over it
unfoldable pub cvm_condition_met : CvmConditions → Byte → Byte → Bool
cvm_condition_met t code condition =
    when condition =? cvm_condition_always then true
    else when condition =? 1 then t.cash and t.atm  -- unattended cash
    else when condition =? 2 then not t.cash and not t.cashback  -- neither cash nor cashback
    else when condition =? 3 then cvm_supported t.capabilities code  -- the terminal supports the CVM
    else when condition =? 4 then t.cash and not t.atm  -- manual cash
    else when condition =? 5 then t.cashback  -- purchase with cashback
    else when not t.currency then false  -- the others are for amounts in the application's currency
    else when condition =? 6 then t.amount <? t.x  -- under X
    else when condition =? 7 then t.x <? t.amount  -- over X
    else when condition =? 8 then t.amount <? t.y  -- under Y
    else when condition =? 9 then t.y <? t.amount  -- over Y
    else false

-- ---- what comes of it

-- CVM Results: byte 1 where no CVM was performed, and the results of byte 3: unknown, failed, successful
abbrev pub cvm_code_not_performed : Byte
cvm_code_not_performed = 0x3F

abbrev pub cvm_result_unknown : Byte
cvm_result_unknown = 0

abbrev pub cvm_result_failed : Byte
cvm_result_failed = 1

abbrev pub cvm_result_successful : Byte
cvm_result_successful = 2

-- byte 3 of 95: verification not successful b8, unrecognised CVM b7, online PIN entered b3
abbrev pub tvr_byte3_failed_unrecognised_online_pin : Bool → Bool → Bool → Byte
tvr_byte3_failed_unrecognised_online_pin failed unrecognised pin =
    bit_weight_if_set 8 failed + bit_weight_if_set 7 unrecognised + bit_weight_if_set 3 pin

-- the three bytes of 9F34 (code, condition, result), byte 3 of 95, and the CVM
abbrev pub cvm_result : Byte → Byte → Byte → Byte → Cvm → CvmResult
cvm_result c d r bits m = record { code = c; condition = d; result = r; tvr1 = 0; tvr3 = bits; cvm = m }

-- CVM.18: a supported CVM is taken; the result of no CVM is successful (02), of the others unknown (00)
unfoldable pub cvm_result_of_supported : Byte → Byte → Bool → CvmResult
cvm_result_of_supported code condition unrecognised =
    let bits : Bool → Byte = λ pin. tvr_byte3_failed_unrecognised_online_pin false unrecognised pin in
    when cvm_method_of code =? cvm_code_online_pin then cvm_result code condition cvm_result_unknown (bits true) OnlinePin
    else when cvm_method_of code =? cvm_code_signature then cvm_result code condition cvm_result_unknown (bits false) Signature
    else when cvm_method_of code =? cvm_code_no_cvm then cvm_result code condition cvm_result_successful (bits false) NoCvm
    else cvm_result code condition cvm_result_unknown (bits false) OfflinePin

-- CVM.14 and CVM.25: no rule is left, or an unsuccessful one, other than fail, ends the list
abbrev pub cvm_result_no_rule_succeeded : Bool → CvmResult
cvm_result_no_rule_succeeded unrecognised =
    cvm_result cvm_code_not_performed cvm_condition_always cvm_result_failed
    (tvr_byte3_failed_unrecognised_online_pin true unrecognised false) NoCvm

-- CVM.22 to CVM.25: fail keeps its code and condition
unfoldable pub cvm_result_of_unsuccessful : Byte → Byte → Bool → CvmResult
cvm_result_of_unsuccessful code condition unrecognised =
    when cvm_method_of code =? cvm_code_fail then cvm_result code condition cvm_result_failed
    (tvr_byte3_failed_unrecognised_online_pin true unrecognised false) NoCvm
    else cvm_result_no_rule_succeeded unrecognised

-- CVM.19, CVM.20: the next rule follows an unsuccessful one with b7 where there is one
abbrev pub next_cvm_rule_applies : Byte → List CvmRule → Bool
next_cvm_rule_applies code [] = false
next_cvm_rule_applies code (r ∷ rs) = byte_has_bit code 7

-- CVM.9 to CVM.25, rule after rule; whether an unrecognised CVM was met so far
unfoldable pub cvm_result_by_rules : CvmConditions → Bool → List CvmRule → CvmResult
cvm_result_by_rules t u [] = cvm_result_no_rule_succeeded u
cvm_result_by_rules t u (r ∷ rs) =
    when not (cvm_condition_met t r.code r.condition) then cvm_result_by_rules t u rs
    else when cvm_supported_not_fail t.capabilities r.code then cvm_result_of_supported r.code r.condition u
    else when next_cvm_rule_applies r.code rs then cvm_result_by_rules t (u or not (cvm_recognised r.code)) rs
    else cvm_result_of_unsuccessful r.code r.condition (u or not (cvm_recognised r.code))

-- CVM.6 and CVM.8: no CVM, of which nothing is known; a list that is missing is byte 1 b6 of 95
abbrev pub cvm_result_not_performed : Bool → CvmResult
cvm_result_not_performed missing =
    record {
      code = cvm_code_not_performed;
      condition = cvm_condition_always;
      result = cvm_result_unknown;
      tvr1 =
          bit_weight_if_set 6 missing;
      tvr3 = 0;
      cvm = NoCvm;
    }

-- CVM.7: by the list, where there is one; an empty one counts as missing
abbrev pub cvm_result_by_list : StoredValue → CvmConditions → CvmResult
cvm_result_by_list absent t = cvm_result_not_performed true
cvm_result_by_list (present []) t = cvm_result_not_performed true
cvm_result_by_list (present (b ∷ s)) t = cvm_result_by_rules t false (cvm_rules_of_list (b ∷ s))

-- CVM.5: byte 1 b5 of the AIP (82) indicates whether verification is supported
unfoldable pub cvm_processing : Byte → StoredValue → CvmConditions → CvmResult
cvm_processing aip list t = when byte_has_bit aip 5 then cvm_result_by_list list t else cvm_result_not_performed false

-- ---- with on-device CVM

-- CVM.1: byte 1 of the AIP (82) has b2, and the terminal's kernel configuration DF811B has b6
unfoldable pub aip_and_configuration_support_on_device_cvm : Byte → Byte → Bool
aip_and_configuration_support_on_device_cvm aip configuration = byte_has_bit aip 2 and byte_has_bit configuration 6

-- CVM.2 to CVM.4: the device has verified its holder where the amount is above the Reader CVM Required Limit DF8126,
-- else there is no CVM; either is successful, and adds no bit to 95
unfoldable pub on_device_cvm_result_by_above_limit : Bool → CvmResult
on_device_cvm_result_by_above_limit above =
    when above then cvm_result cvm_code_plaintext_pin cvm_condition_always cvm_result_successful 0 ConfirmationCode
    else cvm_result cvm_code_not_performed cvm_condition_always cvm_result_successful 0 NoCvm

-- ---- where it is stored

-- the three bytes of 9F34: the code of the CVM, the condition, the result
abbrev pub cvm_results_bytes : CvmResult → Value
cvm_results_bytes v = v.code ∷ v.condition ∷ v.result ∷ []

-- the bits that are added to 95
abbrev pub cvm_tvr_bits : CvmResult → TvrBytes
cvm_tvr_bits v = v.tvr1 ∷ 0 ∷ v.tvr3 ∷ 0 ∷ 0 ∷ []

-- ---- what holds of it, proved in proofs/VerificationLaws
--   rules-behind   rules after one that decides do not matter, whatever is before it: one whose condition holds, and
--                  whose CVM is taken, or is unsuccessful with b7 clear (`decides`)
--   bytes-behind   the same on the bytes of a list, with its amounts and whole rules before that one
--   odd-byte       one byte after a list of even length, which is not empty, changes nothing
--   bits-added     byte 1 of 95 gets at most b6, byte 3 at most b8, b7 and b3
--   other-first, other-third
--                  so the other bits are clear
