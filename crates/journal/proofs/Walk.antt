-- The laws of the verdict over bytes. Each record has a byte at least, so the bound of the recursion does not matter
-- (`unroll`); then one law for each thing that can be at the front.
-- Assumes nothing.
use Rattle.std.specs.Prelude.{Option, Some, None}
use mathlib.Core.Path.{◌≡◌, refl, sym, ap, ◌∙◌}
use mathlib.Core.Logic.{inl, inr}
use mathlib.Core.List.{List, [], ◌∷◌, ◌++◌}
use Prim.Native.Nat.{ℕ, suc, ◌+◌, ◌<◌}
use native.Mathlib.Omega.{arith}
use lib.Dec.{eqb, ltb}
use lib.ListN.{length, get_or, take, drop, length-drop, length-append}
use lib.Seq.{take_at, drop_at}
use borrow.Author.Tests.{eq-eqb, ne_eqb, lt-ltb, le-ltb}
use Rattle.basics.specs.Choice.{if}
use Rattle.basics.specs.Alike.{bytes_equal}
use Rattle.basics.proofs.Laws.{if_yes, if_no}
use Rattle.basics.proofs.Order.{equal_or_not}
use Rattle.basics.proofs.Recursion.{AsksShorter, recurse_unroll}
use Rattle.session_record.specs.declared.Session.{Session}
use Rattle.session.specs.Steps.{Step}
use Rattle.journal.specs.declared.JournalVerdict.{JournalVerdict}
use Rattle.journal.specs.Record.{journal_record_size, journal_reply_record, call_from_journal_record}
use Rattle.journal.specs.Verdict.{ExpectedNext, expect_reply_unless_empty, judge_record_by, judge_record}
use Rattle.journal.specs.Verdict.{VerdictContinuation, if_conforming, verdict_step, verdict_from, first_record_size}
use Rattle.journal.specs.Verdict.{reply_due_after}

-- ---- after a record, by what is expected then

abbrev pub verdict_continues : (ExpectedNext → JournalVerdict) → ℕ → Option ExpectedNext → JournalVerdict
verdict_continues k n o = if_conforming (JournalVerdict.Mismatch n) k o

abbrev pub reply_due_then : (ExpectedNext → List ℕ) → Option ExpectedNext → List ℕ
reply_due_then k o = if_conforming [] k o

-- what is expected after a step
abbrev pub reply_expected_after : Step → Option ExpectedNext
reply_expected_after st = expect_reply_unless_empty st.reply.session
    (journal_reply_record st.reply.answer st.buffer)

-- ---- the bound of the recursion does not matter

goes_same : (f g : ExpectedNext → JournalVerdict) (n : ℕ) (o : Option ExpectedNext) → ((e : ExpectedNext) → f e ≡ g e)
    → verdict_continues f n o ≡ verdict_continues g n o
goes_same f g n None h = refl
goes_same f g n (Some e) h = h e

next_same : (k k' : List ℕ → VerdictContinuation) (e : ExpectedNext) (n : ℕ) (s : List ℕ)
    → ((v : List ℕ) (t : ExpectedNext) (m : ℕ) → length v < length s → k v t m ≡ k' v t m)
    → verdict_step k s e n ≡ verdict_step k' s e n
next_same k k' e n [] same = refl
next_same k k' e n (b ∷ s) same = elim (equal_or_not (journal_record_size b) 0) [
  | inl z ↦ if_yes _ _ (eq-eqb (journal_record_size b) 0 z) ∙ sym (if_yes _ _ (eq-eqb (journal_record_size b) 0 z))
  | inr z ↦
      let l : length (drop (journal_record_size b) (b ∷ s)) < length (b ∷ s) =
      omega (arith, length-drop (journal_record_size b) (b ∷ s)) in
      ap (λ (x : JournalVerdict). if (eqb (journal_record_size b) 0) (JournalVerdict.Mismatch (n + 1))
      (if (ltb (length (b ∷ s)) (journal_record_size b)) (JournalVerdict.Truncated (n + 1)) x))
      (goes_same _ _ (n + 1) (judge_record e (take (journal_record_size b) (b ∷ s)))
      (λ t. same (drop (journal_record_size b) (b ∷ s)) t (n + 1) l))
]

asks : AsksShorter verdict_step
asks k k' s same = λ i e n. next_same k k' e n s (λ v t m h. ap (λ (f : VerdictContinuation). f t m) (same v h)) i

pub unroll : (e : ExpectedNext) (n : ℕ) (s : List ℕ) → verdict_from e n s ≡ verdict_step (λ v t m. verdict_from t m v) s e
    n
unfolding verdict_from
unroll e n s = ap (λ (f : VerdictContinuation). f e n) (recurse_unroll (λ e n. JournalVerdict.Accepted n) verdict_step
    asks s)

-- ---- what is at the front

pub ends : (e : ExpectedNext) (n : ℕ) → verdict_from e n [] ≡ JournalVerdict.Accepted n
ends e n = unroll e n []

pub unknown : (e : ExpectedNext) (n : ℕ) (l more : List ℕ) → 0 < length l → journal_record_size (get_or l 0 0) ≡ 0
    → verdict_from e n (l ++ more) ≡ JournalVerdict.Mismatch (n + 1)
unknown e n [] more h z = absurd (omega arith)
unknown e n (b ∷ s) more h z = unroll e n (b ∷ (s ++ more)) ∙ if_yes _ _ (eq-eqb (journal_record_size b) 0 z)

pub cut : (e : ExpectedNext) (n : ℕ) (l : List ℕ) → 0 < length l → length l < journal_record_size (get_or l 0 0)
    → verdict_from e n l ≡ JournalVerdict.Truncated (n + 1)
cut e n [] h z = absurd (omega arith)
cut e n (b ∷ s) h z =
    unroll e n (b ∷ s) ∙ if_no _ _ (ne_eqb (journal_record_size b) 0 (λ x. omega arith)) ∙ if_yes _ _
    (lt-ltb (length (b ∷ s)) (journal_record_size b) z)

pub whole : (e : ExpectedNext) (n : ℕ) (l more : List ℕ) → 0 < length l → length l ≡ journal_record_size (get_or l 0 0)
    → verdict_from e n (l ++ more) ≡ verdict_continues (λ t. verdict_from t (n + 1) more) (n + 1) (judge_record e l)
whole e n [] more h z = absurd (omega arith)
whole e n (b ∷ s) more h z =
    unroll e n (b ∷ (s ++ more)) ∙ if_no _ _ (ne_eqb (journal_record_size b) 0 (λ x. omega arith))
    ∙ if_no _ _ (le-ltb (length (b ∷ (s ++ more))) (journal_record_size b) (omega (arith, length-append s more)))
    ∙ goes_same _ _ (n + 1) (judge_record e (take (journal_record_size b) (b ∷ (s ++ more))))
    (λ t. ap (verdict_from t (n + 1)) (drop_at (b ∷ s) more (journal_record_size b) z))
    ∙ ap (λ (r : List ℕ). verdict_continues (λ t. verdict_from t (n + 1) more) (n + 1) (judge_record e r))
    (take_at (b ∷ s) more (journal_record_size b) z)

-- what is expected after a whole record at the front, and so after those that follow it
pub due_whole : (m : ℕ) (e : ExpectedNext) (l more : List ℕ) → 0 < length l → length l ≡ first_record_size l
    → reply_due_after (suc m) e (l ++ more) ≡ reply_due_then (λ t. reply_due_after m t more) (judge_record e l)
unfolding reply_due_after
due_whole m e [] more h z = absurd (omega arith)
due_whole m e (b ∷ s) more h z =
    ap (λ (r : List ℕ). reply_due_then (λ t. reply_due_after m t (drop (journal_record_size b) (b ∷ (s ++ more))))
    (judge_record e r)) (take_at (b ∷ s) more (journal_record_size b) z)
    ∙ ap (λ (r : List ℕ). reply_due_then (λ t. reply_due_after m t r) (judge_record e (b ∷ s)))
    (drop_at (b ∷ s) more (journal_record_size b) z)

-- ---- no bytes are no record

none_judged : (s : Session) (d : List ℕ) → judge_record_by s d [] ≡ None
unfolding call_from_journal_record bytes_equal if
none_judged s [] = refl
none_judged s (b ∷ d) = refl

pub nothing_judged : (e : ExpectedNext) → judge_record e [] ≡ None
nothing_judged e = none_judged e.session e.due
