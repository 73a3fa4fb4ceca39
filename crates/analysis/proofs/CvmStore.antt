-- Cardholder verification over a store: one byte after a list of even length; and for on-device CVM, that neither 8E
-- nor a bit of 82 but byte 1 b2 matters, and that no bit of 95 is added.
-- Assumes nothing.
use mathlib.Core.Path.{◌≡◌, refl, sym, ap, ◌∙◌}
use mathlib.Core.Bool.{true}
use mathlib.Core.List.{List, [], ◌∷◌, ◌++◌}
use Prim.Native.Nat.{ℕ, zero, suc, ◌+◌, ◌%◌, ◌≤◌}
use native.Mathlib.Omega.{arith}
use lib.ListN.{length, drop, length-drop}
use lib.Seq.{drop-append-le}
use Rattle.basics.specs.Choice.{if}
use Rattle.basics.specs.Number.{big_endian_number}
use Rattle.basics.proofs.Laws.{if_yes}
use Rattle.store.specs.Place.{StoredValue, present, bytes_or_empty_if_absent, object_value}
use Rattle.store.specs.Held.{stored_bytes, stored_byte}
use Rattle.analysis.specs.Value.{first_bytes_zero_padded}
use Rattle.analysis.specs.Digits.{first_amount_is_above}
use Rattle.analysis.specs.Cvm.{cvm_amount_x, cvm_amount_y, on_device_cvm_result_by_above_limit}
use Rattle.analysis.specs.Action.{card_and_kernel_support_on_device_cvm, auc_violated_in_store, restrictions_tvr_byte2}
use Rattle.analysis.specs.Action.{tvr_before_cvm, cvm_conditions_in, cvm_result_in}
use Rattle.analysis.specs.Action.{tvr_with_cvm, findings_of, AlikeButAipAndCvmList, OnDeviceCvmIgnoresCvmList}
use Rattle.analysis.specs.Tvr.{tvr_byte4_amount_above_floor_limit, tvr_with_bits}
use Rattle.analysis.specs.declared.cvm.CvmResult.{CvmResult}
use Rattle.analysis.proofs.CvmLaws.{odd_byte, on_device_bits}

-- bytes after n others are not among the first n
front-append : (n : ℕ) (s l : List ℕ) → n ≤ length s → first_bytes_zero_padded n (s ++ l) ≡ first_bytes_zero_padded n s
unfolding first_bytes_zero_padded
front-append zero s l h = refl
front-append (suc n) [] l h = absurd (omega arith)
front-append (suc n) (x ∷ s) l h = ap (λ (t : List ℕ). x ∷ t) (front-append n s l (omega arith))

-- X and Y are in the first eight bytes
amount_x : (s l : List ℕ) → 8 ≤ length s → cvm_amount_x (s ++ l) ≡ cvm_amount_x s
amount_x s l h = ap big_endian_number (front-append 4 s l (omega arith))

amount_y : (s l : List ℕ) → 8 ≤ length s → cvm_amount_y (s ++ l) ≡ cvm_amount_y s
amount_y s l h = ap big_endian_number (ap (first_bytes_zero_padded 4) (drop-append-le 4 s l (omega arith)) ∙ front-append 4
    (drop 4 s) l (simp length-drop (omega arith)))

-- two stores that differ in 8E alone
pub record ApartFromList (b c : List ℕ) : Type 0 where
  pub same_82 : object_value b 0x82 ≡ object_value c 0x82
  pub same_9c : object_value b 0x9C ≡ object_value c 0x9C
  pub same_5f2a : object_value b 0x5F2A ≡ object_value c 0x5F2A
  pub same_9f02 : object_value b 0x9F02 ≡ object_value c 0x9F02
  pub same_9f33 : object_value b 0x9F33 ≡ object_value c 0x9F33
  pub same_9f35 : object_value b 0x9F35 ≡ object_value c 0x9F35
  pub same_9f40 : object_value b 0x9F40 ≡ object_value c 0x9F40
  pub same_9f42 : object_value b 0x9F42 ≡ object_value c 0x9F42
  pub same_df811b : object_value b 0xDF811B ≡ object_value c 0xDF811B
  pub same_df8126 : object_value b 0xDF8126 ≡ object_value c 0xDF8126

-- one byte after an 8E of even length changes nothing
module _ (b c s : List ℕ) (x : ℕ) (h : 8 ≤ length s) (e : length s % 2 ≡ 0) (a : ApartFromList b c)
    (f : object_value b 0x8E ≡ present (s ++ x ∷ [])) (g : object_value c 0x8E ≡ present s) where
  same_terms : cvm_conditions_in b ≡ cvm_conditions_in c
  unfolding cvm_conditions_in
  same_terms =
      let lx : cvm_amount_x (stored_bytes b 0x8E) ≡ cvm_amount_x (stored_bytes c 0x8E) =
      ap (λ (v : StoredValue). cvm_amount_x (bytes_or_empty_if_absent v)) f ∙ amount_x s _ h ∙ sym
      (ap (λ (v : StoredValue). cvm_amount_x (bytes_or_empty_if_absent v)) g) in
      let ly : cvm_amount_y (stored_bytes b 0x8E) ≡ cvm_amount_y (stored_bytes c 0x8E) =
      ap (λ (v : StoredValue). cvm_amount_y (bytes_or_empty_if_absent v)) f ∙ amount_y s _ h ∙ sym
      (ap (λ (v : StoredValue). cvm_amount_y (bytes_or_empty_if_absent v)) g) in
      simp (a.same_9c, a.same_5f2a, a.same_9f02, a.same_9f33, a.same_9f35, a.same_9f40, a.same_9f42, lx, ly)

  pub odd_byte_stored : cvm_result_in b ≡ cvm_result_in c
  unfolding cvm_result_in card_and_kernel_support_on_device_cvm
  odd_byte_stored =
      simp (a.same_82, a.same_df811b, a.same_9f02, a.same_df8126, f, g, same_terms)
      (ap (λ (v : CvmResult). if (card_and_kernel_support_on_device_cvm c)
      (on_device_cvm_result_by_above_limit (first_amount_is_above (stored_bytes c 0x9F02) (stored_bytes c 0xDF8126))) v)
      (odd_byte (stored_byte c 0x82 1) (cvm_conditions_in c) s x (λ z. omega arith) e))

-- ---- on-device CVM

-- with on-device CVM the CVM is by the amount and DF8126 alone
pub on_device_verified : (b : List ℕ) → card_and_kernel_support_on_device_cvm b ≡ true
    → cvm_result_in b ≡ on_device_cvm_result_by_above_limit (first_amount_is_above (stored_bytes b 0x9F02) (stored_bytes b 0xDF8126))
unfolding cvm_result_in
on_device_verified b p = if_yes _ _ p

-- of two devices with on-device CVM alike but for 82 and 8E, 9F34, 95 and the CVM are the same
module _ (b c : List ℕ) (p : card_and_kernel_support_on_device_cvm b ≡ true) (q : card_and_kernel_support_on_device_cvm c ≡ true)
    (a : AlikeButAipAndCvmList b c) where
  on_device_same : cvm_result_in b ≡ cvm_result_in c
  on_device_same =
      on_device_verified b p
      ∙ (simp (a 0x9F02 (λ z. omega arith) (λ z. omega arith), a 0xDF8126 (λ z. omega arith) (λ z. omega arith))
      (sym (on_device_verified c q)))

  usage_same : auc_violated_in_store b ≡ auc_violated_in_store c
  unfolding auc_violated_in_store
  usage_same =
      simp (
        a 0x9F07 (λ z. omega arith) (λ z. omega arith),
        a 0x9F35 (λ z. omega arith) (λ z. omega arith),
        a 0x9F40 (λ z. omega arith) (λ z. omega arith),
        a 0x5F28 (λ z. omega arith) (λ z. omega arith),
        a 0x9F1A (λ z. omega arith) (λ z. omega arith),
        a 0x9C (λ z. omega arith) (λ z. omega arith),
        a 0x9F03 (λ z. omega arith) (λ z. omega arith),
      )

  result_same : tvr_before_cvm b ≡ tvr_before_cvm c
  unfolding tvr_before_cvm restrictions_tvr_byte2
  result_same =
      simp (
        a 0x9F08 (λ z. omega arith) (λ z. omega arith),
        a 0x9F09 (λ z. omega arith) (λ z. omega arith),
        a 0x9A (λ z. omega arith) (λ z. omega arith),
        a 0x5F24 (λ z. omega arith) (λ z. omega arith),
        a 0x5F25 (λ z. omega arith) (λ z. omega arith),
        a 0x9F02 (λ z. omega arith) (λ z. omega arith),
        a 0xDF8123 (λ z. omega arith) (λ z. omega arith),
        usage_same,
      )

  on_device_alone : findings_of b ≡ findings_of c
  unfolding findings_of tvr_with_cvm
  on_device_alone = simp (on_device_same, result_same)

-- and 95 is what restrictions and floor limit make it
on_device_adds_none : (b : List ℕ) → card_and_kernel_support_on_device_cvm b ≡ true → tvr_with_cvm b ≡ tvr_before_cvm b
unfolding tvr_with_cvm tvr_before_cvm tvr_with_bits
on_device_adds_none b p =
    let z = on_device_bits (first_amount_is_above (stored_bytes b 0x9F02) (stored_bytes b 0xDF8126)) in
    let v = on_device_verified b p in
    let tvr1 : (cvm_result_in b).tvr1 ≡ 0 = ap (λ (w : CvmResult). w.tvr1) v ∙ z.0 in
    let tvr3 : (cvm_result_in b).tvr3 ≡ 0 = ap (λ (w : CvmResult). w.tvr3) v ∙ z.1 in
    let two : restrictions_tvr_byte2 b + 0 ≡ restrictions_tvr_byte2 b = omega arith in
    let four : tvr_byte4_amount_above_floor_limit (stored_bytes b 0x9F02) (stored_bytes b 0xDF8123) + 0
    ≡ tvr_byte4_amount_above_floor_limit (stored_bytes b 0x9F02) (stored_bytes b 0xDF8123) = omega arith in
    simp (tvr1, tvr3, two, four)

bits_are : (b : List ℕ) → (findings_of b).bits ≡ tvr_with_cvm b
unfolding findings_of
bits_are b = refl

pub on_device_rules : OnDeviceCvmIgnoresCvmList
on_device_rules = record { same = on_device_alone; no_bits = λ b p. bits_are b ∙ on_device_adds_none b p }
