-- One more byte keeps what a state reports. While the record is not whole nothing is said of it; a whole one is at the
-- front of what is left (`Walk`), and the state after it says the same of the bytes after it.
-- Assumes nothing.
use Rattle.std.specs.Prelude.{Option, Some, None}
use mathlib.Core.Path.{◌≡◌, refl, sym, ap, ◌∙◌}
use mathlib.Core.Bool.{Bool, true, false}
use mathlib.Core.Logic.{◌⊎◌, inl, inr}
use mathlib.Core.List.{List, [], ◌∷◌, ◌++◌, append_assoc, append-nil}
use Prim.Native.Nat.{ℕ, suc, ◌+◌, ◌-◌, ◌≤◌, ◌<◌}
use native.Mathlib.Omega.{arith}
use lib.Dec.{ltb}
use lib.ListN.{length, take, length-append}
use lib.Seq.{take_all}
use borrow.Author.Tests.{ltb-true, ltb-false}
use Rattle.basics.specs.Choice.{if}
use Rattle.basics.proofs.Laws.{if_ind}
use Rattle.basics.proofs.Order.{equal_or_not}
use Rattle.basics.proofs.Laws.{no}
use Rattle.journal.specs.declared.JournalVerdict.{JournalVerdict}
use Rattle.journal.specs.Verdict.{ExpectedNext, judge_record, verdict_from, journal_verdict_of, expected_at_start}
use Rattle.journal.specs.Verdict.{first_record_size, reply_due_after, expected_reply_at_mismatch}
use Rattle.journal.specs.Verdict.{expected_reply_at_first_mismatch}
use Rattle.journal.proofs.Walk.{verdict_continues, reply_due_then, ends, unknown, cut, whole, due_whole}
use Rattle.journal.proofs.Walk.{nothing_judged}
use Rattle.journal.proofs.Kept.{nothing, Kept, first-kept, judged_kept, few_records_lem}

-- ---- a checker without what its arrays hold after their sizes

-- no record was a mismatch; what is expected, or was expected where one was; how many records were seen; the part of a
-- record that is held
pub record State : Type 0 where
  pub conforming : Bool
  pub due : ExpectedNext
  pub number : ℕ
  pub part : List ℕ

abbrev pub state : Bool → ExpectedNext → ℕ → List ℕ → State
state r e n p = record { conforming = r; due = e; number = n; part = p }

-- after a record that was judged where e was expected
abbrev pub judged_state : ExpectedNext → ℕ → Option ExpectedNext → State
judged_state e n None = state false e n []
judged_state e n (Some t) = state true t n []

unfoldable pub whole_state : ExpectedNext → ℕ → List ℕ → State
whole_state e n l = if (ltb (length l) (first_record_size l)) (state true e n l)
    (judged_state e (n + 1) (judge_record e (take (first_record_size l) l)))

-- one more byte
abbrev pub step_by : Bool → ExpectedNext → ℕ → List ℕ → ℕ → State
step_by true e n p b = whole_state e n (p ++ (b ∷ []))
step_by false e n p b = state false e n p

-- ---- what it says

-- once the bytes `more` come and the journal ends
abbrev pub says : Bool → ExpectedNext → ℕ → List ℕ → List ℕ → JournalVerdict
says true e n p more = verdict_from e n (p ++ more)
says false e n p more = JournalVerdict.Mismatch n

-- what is expected after k more records is what is expected after them in the whole journal; once a record was a
-- mismatch, what was expected there
abbrev pub Owes : Bool → ExpectedNext → ℕ → List ℕ → List ℕ → Type 0
Owes true e n p s = (k : ℕ) (more : List ℕ) → reply_due_after k e (p ++ more) ≡ reply_due_after (n + k) expected_at_start
    (s ++ more)
Owes false e n p s = (more : List ℕ) → e.due ≡ reply_due_after (n - 1) expected_at_start (s ++ more)

-- the state is the one after the bytes s
pub record Keeps (r : Bool) (e : ExpectedNext) (n : ℕ) (p : List ℕ) (s : List ℕ) : Type 0 where
  pub said : (more : List ℕ) → says r e n p more ≡ journal_verdict_of (s ++ more)
  pub owes : Owes r e n p s
  pub part : (p ≡ []) ⊎ (length p < first_record_size p)
  pub kept : r ≡ true → Kept e n
  pub fits : length e.due ≤ 264
  pub few : n ≤ 263

abbrev pub KeepsAt : State → List ℕ → Type 0
KeepsAt st s = Keeps st.conforming st.due st.number st.part s

-- ---- the record that is held, with one more byte

one_more : (p : List ℕ) (b : ℕ) → length (p ++ (b ∷ [])) ≡ length p + 1
one_more p b = length-append p (b ∷ [])

-- a record that was not whole is whole with one more byte, or not yet
just_whole : (p : List ℕ) (b : ℕ) → (p ≡ []) ⊎ (length p < first_record_size p) → first_record_size (p ++ (b ∷ []))
    ≤ length (p ++ (b ∷ []))
    → (first_record_size (p ++ (b ∷ [])) ≡ 0 → ⊥) → length (p ++ (b ∷ [])) ≡ first_record_size (p ++ (b ∷ []))
just_whole [] b h l z = omega arith
just_whole (x ∷ p) b (inl e) l z = let w : ◌≡◌ {A = ℕ} 0 1 = cc in absurd (omega arith)
just_whole (x ∷ p) b (inr h) l z = omega (arith, one_more p b)

-- what is said after a record that is judged
behind : (e : ExpectedNext) (n : ℕ) (l more : List ℕ) → 0 < length l
    → ((first_record_size l ≡ 0 → ⊥) → length l ≡ first_record_size l)
    → verdict_continues (λ t. verdict_from t (n + 1) more) (n + 1) (judge_record e (take (first_record_size l) l))
    ≡ verdict_from e n (l ++ more)
behind e n l more h w =
    elim (equal_or_not (first_record_size l) 0) [
      | inl z ↦
          ap (λ (k : ℕ). verdict_continues (λ t. verdict_from t (n + 1) more) (n + 1) (judge_record e (take k l))) z
          ∙ ap (verdict_continues (λ t. verdict_from t (n + 1) more) (n + 1)) (nothing_judged e) ∙ sym
          (unknown e n l more h z)
      | inr z ↦
          let q = w z in
          ap (λ (r : List ℕ). verdict_continues (λ t. verdict_from t (n + 1) more) (n + 1) (judge_record e r))
          (take_all (first_record_size l) l (omega arith))
          ∙ sym (whole e n l more h q)
    ]

-- what is expected after it
behind_due : (k : ℕ) (e t : ExpectedNext) (l more : List ℕ) → 0 < length l
    → ((first_record_size l ≡ 0 → ⊥) → length l ≡ first_record_size l)
    → judge_record e (take (first_record_size l) l) ≡ Some t → reply_due_after k t more ≡ reply_due_after (suc k) e (l ++ more)
behind_due k e t l more h w j =
    elim (equal_or_not (first_record_size l) 0) [
      | inl z ↦ nothing (sym (nothing_judged e) ∙ ap (λ (m : ℕ). judge_record e (take m l)) (sym z) ∙ j)
      | inr z ↦
          let q = w z in
          ap (reply_due_then (λ x. reply_due_after k x more))
          (sym j ∙ ap (judge_record e) (take_all (first_record_size l) l (omega arith))) ∙ sym (due_whole k e l more h q)
    ]

-- ---- one more byte

module _ (s : List ℕ) (b : ℕ) where
  -- the byte belongs to what was to come
  moved : (more : List ℕ) → s ++ (b ∷ more) ≡ (s ++ (b ∷ [])) ++ more
  moved more = sym (append_assoc s (b ∷ []) more)

  module _ (e : ExpectedNext) (n : ℕ) (p : List ℕ) (k : Keeps true e n p s) where
    -- what was said and due with the byte to come is so with the byte held
    said_more : (more : List ℕ) → verdict_from e n ((p ++ (b ∷ [])) ++ more) ≡ journal_verdict_of ((s ++ (b ∷ [])) ++ more)
    said_more more = ap (verdict_from e n) (append_assoc p (b ∷ []) more) ∙ k.said (b ∷ more) ∙ ap journal_verdict_of
        (moved more)

    owes_more : (j : ℕ) (more : List ℕ) → reply_due_after j e ((p ++ (b ∷ [])) ++ more) ≡ reply_due_after (n + j)
        expected_at_start ((s ++ (b ∷ [])) ++ more)
    owes_more j more = ap (reply_due_after j e) (append_assoc p (b ∷ []) more) ∙ k.owes j (b ∷ more) ∙ ap
        (reply_due_after (n + j) expected_at_start) (moved more)

    there : 0 < length (p ++ (b ∷ []))
    there = omega (arith, one_more p b)

    module _ (w : first_record_size (p ++ (b ∷ [])) ≤ length (p ++ (b ∷ []))) where
      -- after a record that was judged
      judged_keeps : (o : Option ExpectedNext) → judge_record e (take (first_record_size (p ++ (b ∷ []))) (p ++ (b ∷ [])))
          ≡ o
          → KeepsAt (judged_state e (n + 1) o) (s ++ (b ∷ []))
      unfolding reply_due_after
      judged_keeps None j =
          record {
            said = λ more. ap (verdict_continues (λ t. verdict_from t (n + 1) more) (n + 1)) (sym j) ∙ behind e n
                (p ++ (b ∷ [])) more there (just_whole p b k.part w) ∙ said_more more;
            owes = λ more. owes_more 0 more ∙ (let z : n + 0 ≡ n + 1 - 1 = omega arith in
                ap (λ (m : ℕ). reply_due_after m expected_at_start ((s ++ (b ∷ [])) ++ more)) z);
            part = inl refl;
            kept = λ q. no q;
            fits = k.fits;
            few = omega (arith, few_records_lem e n (k.kept refl));
          }
      judged_keeps (Some t) j =
          let g = judged_kept e.session e.due (take (first_record_size (p ++ (b ∷ []))) (p ++ (b ∷ []))) n t
          (k.kept refl) j in
          record {
            said = λ more. ap (verdict_continues (λ t. verdict_from t (n + 1) more) (n + 1)) (sym j) ∙ behind e n
                (p ++ (b ∷ [])) more there (just_whole p b k.part w) ∙ said_more more;
            owes = λ i more. behind_due i e t (p ++ (b ∷ [])) more there (just_whole p b k.part w) j ∙ owes_more
                (suc i) more
                ∙ (let z : n + suc i ≡ n + 1 + i = omega arith in
                ap (λ (m : ℕ). reply_due_after m expected_at_start ((s ++ (b ∷ [])) ++ more)) z);
            part = inl refl;
            kept = λ q. g;
            fits = g.fits;
            few = omega (arith, few_records_lem e n (k.kept refl));
          }

    whole_keeps : KeepsAt (whole_state e n (p ++ (b ∷ []))) (s ++ (b ∷ []))
    unfolding whole_state
    whole_keeps =
        if_ind (λ (st : State). KeepsAt st (s ++ (b ∷ [])))
        (ltb (length (p ++ (b ∷ []))) (first_record_size (p ++ (b ∷ [])))) _ _
        (λ w. record {
          said = said_more;
          owes = owes_more;
          part = inr (ltb-true _ _ w);
          kept = k.kept;
          fits =
              k.fits;
          few = k.few;
        })
        (λ w. judged_keeps (ltb-false _ _ w) _ refl)

  pub step_keeps : (r : Bool) (e : ExpectedNext) (n : ℕ) (p : List ℕ) → Keeps r e n p s
      → KeepsAt (step_by r e n p b) (s ++ (b ∷ []))
  step_keeps true e n p k = whole_keeps e n p k
  step_keeps false e n p k =
      record {
        said = λ more. k.said (b ∷ more) ∙ ap journal_verdict_of (moved more);
        owes = λ more. k.owes (b ∷ more) ∙ ap (reply_due_after (n - 1) expected_at_start) (moved more);
        part = k.part;
        kept = k.kept;
        fits = k.fits;
        few = k.few;
      }

-- ---- the first state, and what is said at the end

pub first_keeps : Keeps true expected_at_start 0 [] []
unfolding journal_verdict_of
first_keeps =
    record {
      said = λ more. refl;
      owes =
          λ k more. (let z : k ≡ 0 + k = omega arith in ap (λ (m : ℕ). reply_due_after m expected_at_start more) z);
      part =
          inl refl;
      kept = λ q. first-kept;
      fits = omega arith;
      few = omega arith;
    }

module _ (s : List ℕ) where
  pub says_mismatch : (e : ExpectedNext) (n : ℕ) (p : List ℕ) → Keeps false e n p s
      → JournalVerdict.Mismatch n ≡ journal_verdict_of s
  says_mismatch e n p k = k.said [] ∙ ap journal_verdict_of (append-nil s)

  pub says_accepted : (e : ExpectedNext) (n : ℕ) → Keeps true e n [] s → JournalVerdict.Accepted n ≡ journal_verdict_of s
  says_accepted e n k = sym (ends e n) ∙ k.said [] ∙ ap journal_verdict_of (append-nil s)

  pub says_cut : (e : ExpectedNext) (n : ℕ) (p : List ℕ) → 0 < length p → Keeps true e n p s
      → JournalVerdict.Truncated (n + 1) ≡ journal_verdict_of s
  says_cut e n p h k =
      sym (cut e n p h (elim k.part [ inl z ↦ absurd (let y = ap length z in omega arith) | inr z ↦ z ]))
      ∙ ap (verdict_from e n) (sym (append-nil p)) ∙ k.said [] ∙ ap journal_verdict_of (append-nil s)

  -- what was expected where a record was a mismatch
  pub wanted_mismatch : (e : ExpectedNext) (n : ℕ) (p : List ℕ) → Keeps false e n p s
      → e.due ≡ expected_reply_at_first_mismatch s
  unfolding expected_reply_at_first_mismatch
  wanted_mismatch e n p k =
      k.owes [] ∙ ap (reply_due_after (n - 1) expected_at_start) (append-nil s) ∙ ap (expected_reply_at_mismatch s)
      (says_mismatch e n p k)
