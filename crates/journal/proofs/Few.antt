-- No accepted journal has more than 262 records: the count is kept from record to record (`Kept`).
-- Assumes nothing.
use Rattle.std.specs.Prelude.{Option, Some, None}
use mathlib.Core.Path.{◌≡◌, refl, sym, ◌∙◌}
use mathlib.Core.List.{List, [], ◌∷◌}
use Prim.Native.Nat.{ℕ, ◌+◌, ◌≤◌, ◌<◌}
use native.Mathlib.Omega.{arith}
use lib.Dec.{eqb, ltb}
use lib.ListN.{length, take, drop, length-drop}
use borrow.Author.Tests.{eqb-false}
use Rattle.basics.proofs.Laws.{if_ind}
use Rattle.basics.proofs.Recursion.{shorter_first}
use Rattle.journal.specs.declared.JournalVerdict.{JournalVerdict}
use Rattle.journal.specs.Record.{journal_record_size}
use Rattle.journal.specs.Verdict.{ExpectedNext, expected_at_start, judge_record, verdict_from, journal_verdict_of}
use Rattle.journal.proofs.Walk.{verdict_continues, unroll}
use Rattle.journal.proofs.Kept.{Kept, first-kept, judged_kept, few_records_lem}

same_number : (n m : ℕ) → JournalVerdict.Accepted n ≡ JournalVerdict.Accepted m → n ≡ m
same_number n m q = cc

not_mismatch : (n m : ℕ) → JournalVerdict.Mismatch n ≡ JournalVerdict.Accepted m → m ≤ 262
not_mismatch n m q = let z : ◌≡◌ {A = ℕ} 0 1 = cc in absurd (omega arith)

not_cut : (n m : ℕ) → JournalVerdict.Truncated n ≡ JournalVerdict.Accepted m → m ≤ 262
not_cut n m q = let z : ◌≡◌ {A = ℕ} 0 1 = cc in absurd (omega arith)

-- after a record that was judged
few_behind : (f : ExpectedNext → JournalVerdict) (n m : ℕ) (o : Option ExpectedNext)
    → ((t : ExpectedNext) → o ≡ Some t → f t ≡ JournalVerdict.Accepted m → m ≤ 262)
    → verdict_continues f n o ≡ JournalVerdict.Accepted m → m ≤ 262
few_behind f n m None g q = not_mismatch n m q
few_behind f n m (Some t) g q = g t refl q

abbrev Few : List ℕ → Type 0
Few s = (e : ExpectedNext) (n m : ℕ) → Kept e n → verdict_from e n s ≡ JournalVerdict.Accepted m → m ≤ 262

few_next : (s : List ℕ) → ((v : List ℕ) → length v < length s → Few v) → Few s
few_next [] k e n m h q = omega (arith, same_number n m (sym (unroll e n []) ∙ q), few_records_lem e n h)
few_next (b ∷ s) k e n m h q =
    if_ind (λ (v : JournalVerdict). v ≡ JournalVerdict.Accepted m → m ≤ 262) (eqb (journal_record_size b) 0) _ _
    (λ w r. not_mismatch (n + 1) m r)
    (λ w. if_ind (λ (v : JournalVerdict). v ≡ JournalVerdict.Accepted m → m ≤ 262)
    (ltb (length (b ∷ s)) (journal_record_size b)) _ _ (λ v r. not_cut (n + 1) m r)
    (λ v r. few_behind _ (n + 1) m (judge_record e (take (journal_record_size b) (b ∷ s)))
    (λ t j x. k (drop (journal_record_size b) (b ∷ s)) (shorter (eqb-false (journal_record_size b) 0 w)) t (n + 1) m
    (judged_kept e.session e.due _ n t h j) x) r)) (sym (unroll e n (b ∷ s)) ∙ q)
  where
    shorter : (journal_record_size b ≡ 0 → ⊥) → length (drop (journal_record_size b) (b ∷ s)) < length (b ∷ s)
    shorter z = omega (arith, length-drop (journal_record_size b) (b ∷ s))

pub accepted_few : (s : List ℕ) (m : ℕ) → journal_verdict_of s ≡ JournalVerdict.Accepted m → m ≤ 262
unfolding journal_verdict_of
accepted_few s m q = shorter_first Few few_next s expected_at_start 0 m first-kept q
