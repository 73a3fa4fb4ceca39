-- Words and accounts by computation: which words are approvals, whose amount an approval adds, and where the account
-- starts anew.
-- Assumes nothing.
use mathlib.Core.Path.{◌≡◌, refl}
use mathlib.Core.Bool.{true, false}
use mathlib.Core.List.{List, [], ◌∷◌, map}
use Prim.Native.Nat.{ℕ}
use Rattle.basics.specs.Choice.{if, both}
use Rattle.basics.specs.Number.{nibbles, append_big_endian_bytes}
use Rattle.basics.specs.Recursion.{recurse_with_fuel, recurse_with_fuel_from_length}
use Rattle.tlv.specs.Tag.{tag_size, tag_size_from_second_byte, tag_size_from_third_byte, tag_at, tag_first_byte, is_template}
use Rattle.tlv.specs.Tag.{is_private}
use Rattle.tlv.specs.Length.{length_at, length_after81}
use Rattle.tlv.specs.Object.{header_of}
use Rattle.tlv.specs.Primitives.{primitive_at_front}
use Rattle.analysis.specs.Value.{first_bytes_zero_padded}
use Rattle.analysis.specs.Digits.{append_decimal_digits, amount_of}
use Rattle.cabinet_lookup.specs.Value.{leading_primitive_objects, first_value_of_tag, value_or_default}
use Rattle.cabinet_claim.specs.Account.{opening, start, answer, link_failed, CabinetCallMade, account}
use Rattle.cabinet_claim.specs.Account.{start_amount_in, is_refused_word, is_approved_word, account_after_call}
use Rattle.cabinet_claim.specs.Account.{account_after_calls, account_since_opening}
use Rattle.cabinet_claim.proofs.Words.{cabinet_call_made}

-- approved with no CVM, with a signature, with none reported; online request, declined, ended by a failed link, select
-- next; a command, refusal 30
approvals : map is_approved_word (0x00010000 ∷ 0x01010000 ∷ 0x0F010000 ∷ 0x00010100 ∷ 0x02010200 ∷ 0x0F010309 ∷ 0x0F010406
    ∷ 8 ∷ 0x2001E ∷ [])
    ≡ true ∷ true ∷ true ∷ false ∷ false ∷ false ∷ false ∷ false ∷ false ∷ []
unfolding both
approvals = refl

refusals : map is_refused_word (0 ∷ 8 ∷ 0x00010000 ∷ 0x01010000 ∷ 0x20014 ∷ 0x2001E ∷ 0x2001F ∷ []) ≡ false ∷ false
    ∷ false ∷ false ∷ true ∷ true ∷ true ∷ []
refusals = refl

-- start bytes with 9F02 of 400 after 9C, and of 1
four : List ℕ
four = 0x9C ∷ 0x01 ∷ 0x00 ∷ 0x9F ∷ 0x02 ∷ 0x06 ∷ 0x00 ∷ 0x00 ∷ 0x00 ∷ 0x00 ∷ 0x04 ∷ 0x00 ∷ []

one : List ℕ
one = 0x9F ∷ 0x02 ∷ 0x06 ∷ 0x00 ∷ 0x00 ∷ 0x00 ∷ 0x00 ∷ 0x00 ∷ 0x01 ∷ []

amounts : map start_amount_in (four ∷ one ∷ [] ∷ []) ≡ 400 ∷ 1 ∷ 0 ∷ []
unfolding four one leading_primitive_objects first_value_of_tag value_or_default recurse_with_fuel_from_length recurse_with_fuel
    primitive_at_front header_of tag_at tag_size tag_size_from_second_byte tag_size_from_third_byte length_at length_after81
    tag_first_byte is_template is_private append_big_endian_bytes if amount_of first_bytes_zero_padded nibbles append_decimal_digits
amounts = refl

-- a start of 400, another that is refused (21), an approval with a signature: 400 are approved
abbrev sold : List CabinetCallMade
sold = cabinet_call_made (start four []) 8 ∷ cabinet_call_made (start one []) 0x20015 ∷ cabinet_call_made (answer [] []) 5
    ∷ cabinet_call_made (answer [] []) 0x01010000 ∷ []

-- then a start of 1 whose link fails: nothing more; an opening that is refused (31): the same; one that is
-- accepted: anew
abbrev failed : List CabinetCallMade
failed = cabinet_call_made (start one []) 8 ∷ cabinet_call_made (link_failed []) 0x0F010309 ∷ []

accounts : (let a = account_since_opening 1000 sold in let b = account_after_calls a failed in
    a ∷ b ∷ account_after_call b (cabinet_call_made (opening 1000000000000) 0x2001F) ∷ account_after_call b
    (cabinet_call_made (opening 5) 0) ∷ [])
    ≡ account 1000 400 400 ∷ account 1000 1 400 ∷ account 1000 1 400 ∷ account 5 0 0 ∷ []
unfolding account_after_call account_after_calls both four one leading_primitive_objects first_value_of_tag value_or_default
    recurse_with_fuel_from_length recurse_with_fuel primitive_at_front header_of tag_at tag_size tag_size_from_second_byte
    tag_size_from_third_byte length_at length_after81 tag_first_byte is_template is_private append_big_endian_bytes if amount_of
    first_bytes_zero_padded nibbles append_decimal_digits
accounts = refl
