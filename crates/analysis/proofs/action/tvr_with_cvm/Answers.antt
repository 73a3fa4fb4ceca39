-- `action::tvr_with_cvm` meets its contract: the added bits are at most 20 in byte 1 and C4 in byte 3, so the
-- sums are bytes.
-- Assumes nothing.
use mathlib.Core.List.{List}
use mathlib.Core.Path.{◌≡◌, ap}
use Prim.Native.Nat.{ℕ, ◌≤◌}
use native.Mathlib.Nat.{add-zero}
use native.Mathlib.Omega.{arith}
use lib.ListN.{get_or}
use Rattle.basics.proofs.Laws.{if_ind}
use Rattle.store.specs.Held.{stored_bytes}
use Rattle.analysis.specs.Action.{tvr_before_cvm, cvm_result_in, tvr_with_cvm}
use Rattle.analysis.specs.Digits.{first_amount_is_above}
use Rattle.analysis.specs.Tvr.{tvr_with_bits}
use Rattle.analysis.specs.declared.cvm.CvmResult.{CvmResult}
use Rattle.analysis.proofs.CvmLaws.{first_most, third_most, on_device_bits}
use Rattle.analysis.proofs.action.tvr_with_cvm.Goals as goal

-- bytes 1 and 3 of the TVR, and the most that is added to them
first-is : (b r : List ℕ) → r ≡ tvr_before_cvm b → get_or r 0 0 ≡ 0x80
unfolding tvr_before_cvm
first-is b r e = ap (λ (s : List ℕ). get_or s 0 0) e

third-is : (b r : List ℕ) → r ≡ tvr_before_cvm b → get_or r 2 0 ≡ 0
unfolding tvr_before_cvm
third-is b r e = ap (λ (s : List ℕ). get_or s 2 0) e

first-added : (b : List ℕ) → (cvm_result_in b).tvr1 ≤ 0x20
unfolding cvm_result_in
first-added b =
    if_ind (λ (v : CvmResult). v.tvr1 ≤ 0x20) _ _ _
    (λ e. let z = on_device_bits (first_amount_is_above (stored_bytes b 0x9F02) (stored_bytes b 0xDF8126)) in
    omega (arith, z.0)) (λ e. first_most _ _ _)

third-added : (b : List ℕ) → (cvm_result_in b).tvr3 ≤ 0xC4
unfolding cvm_result_in
third-added b =
    if_ind (λ (v : CvmResult). v.tvr3 ≤ 0xC4) _ _ _
    (λ e. let z = on_device_bits (first_amount_is_above (stored_bytes b 0x9F02) (stored_bytes b 0xDF8126)) in
    omega (arith, z.1)) (λ e. third_most _ _ _)

pub overflow_add-result : goal.overflow_add-result
overflow_add-result c =
    let b = c.args.bytes.now in
    omega (arith, first-is b _ c.tvr_before_cvm-result.ensures, first-added b)

pub returns : goal.returns
unfolding tvr_with_cvm tvr_before_cvm tvr_with_bits
returns c = simp (c.tvr_before_cvm-result.ensures, c.requires.0, c.requires.1, add-zero)
