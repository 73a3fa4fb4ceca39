-- One reading over the caller's store, by cases: nothing is requested, or an answer, whose count is small.
-- Assumes nothing.
use Rattle.std.specs.Prelude.{Option, Some, None}
use mathlib.Core.Path.{◌≡◌, refl, ap, subst⁻¹, ◌∙◌}
use mathlib.Core.Logic.{inl, inr}
use mathlib.Core.List.{List}
use Prim.Native.Nat.{ℕ, ◌+◌, ◌-◌, ◌*◌, ◌%◌, ◌≤◌, ◌<◌}
use native.Mathlib.Omega.{arith}
use lib.Dec.{ltb}
use lib.ListN.{length}
use borrow.Author.Tests.{eqb-true, ltb-true, ltb-false}
use Rattle.basics.proofs.Laws.{if_ind, bool_cases}
use Rattle.dictionary.specs.Rows.{store_size}
use Rattle.reading.specs.declared.Awaited.{Awaited}
use Rattle.reading.specs.declared.Reading.{Reading}
use Rattle.reading.specs.Answer.{ReadingOutcome, ReadingAndStoreMatchOutcome, verdict_number, read_answer}
use Rattle.reading.proofs.Stages.{answer_long}
use Rattle.test_reading.specs.Read.{ReturnsTestReading, test_read_awaited, awaited_by_number_if_store_sized, test_read}
use Rattle.test_reading.specs.Read.{reason_weight_in_word}

-- an answer is requested only where the store has its size
pub asked_sized : (size n sfi : ℕ) (a : Awaited) → awaited_by_number_if_store_sized size n sfi ≡ Some a
    → size ≡ store_size
unfolding awaited_by_number_if_store_sized
asked_sized size n sfi a =
    if_ind (λ (x : Option Awaited). x ≡ Some a → size ≡ store_size) _ _ _ (λ t e. eqb-true _ _ t)
    (λ t e. let z : ◌≡◌ {A = ℕ} 0 1 = cc in absurd (omega arith))

-- an answer that is too long counts no objects, and the others have few bytes
count_small : (a : Awaited) (b s c : List ℕ) (r : Reading) → ReadingAndStoreMatchOutcome r c (read_answer a b s)
    → 2 * r.objects ≤ length s - 2 → r.objects < reason_weight_in_word
count_small a b s c r g h =
    elim (bool_cases (ltb 258 (length s))) [
      | inl w ↦ let z : r.objects ≡ 0 = g.objects ∙ ap (λ (o : ReadingOutcome). o.objects)
          (answer_long a s b (ltb-true _ _ w)) in omega arith
      | inr w ↦ let m = ltb-false 258 (length s) w in omega arith
    ]

module _ (n sfi : ℕ) (b s : List ℕ) where
  reads : (x : Option Awaited) → awaited_by_number_if_store_sized (length b) n sfi ≡ x
      → test_read n sfi b s ≡ test_read_awaited x b s
  unfolding test_read
  reads x e = ap (λ (y : Option Awaited). test_read_awaited y b s) e

  -- a store of another size, or a number that is no answer
  pub unread : awaited_by_number_if_store_sized (length b) n sfi ≡ None
      → ReturnsTestReading 0xFFFFFFFF b (test_read n sfi b s)
  unread e = subst⁻¹ (ReturnsTestReading 0xFFFFFFFF b) (reads None e)
      (record { word = refl; store = refl })

  -- an answer, whose count is small
  pub read : (a : Awaited) (w : ℕ) (c : List ℕ) (r : Reading) → awaited_by_number_if_store_sized (length b) n sfi
      ≡ Some a
      → ReadingAndStoreMatchOutcome r c (read_answer a b s) → 2 * r.objects ≤ length s - 2
      → w ≡ verdict_number r.verdict * reason_weight_in_word + r.objects % reason_weight_in_word
      → ReturnsTestReading w c (test_read n sfi b s)
  read a w c r e g h k =
      let m = count_small a b s c r g h in
      let z : r.objects % reason_weight_in_word ≡ r.objects = omega arith in
      subst⁻¹ (ReturnsTestReading w c) (reads (Some a) e)
      (record {
        word = k ∙ ap (λ (x : ℕ). verdict_number r.verdict * reason_weight_in_word + x) z ∙ λ i. g.reason i
            * reason_weight_in_word + g.objects i;
        store = g.store;
      })
