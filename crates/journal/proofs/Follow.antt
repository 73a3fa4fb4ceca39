-- What a checker says that was fed the bytes s: each byte more keeps what its state says (`Pushed`, `Byte`), so at the
-- end it says the verdict over s. The laws that `feed` and `finish` cite.
-- Assumes nothing.
use Rattle.std.specs.Prelude.{Option, Some, None}
use mathlib.Core.Path.{◌≡◌, refl, sym, ap, subst, ◌∙◌}
use mathlib.Core.Bool.{Bool, true, false, not}
use mathlib.Core.Logic.{inl, inr}
use mathlib.Core.List.{List, [], ◌∷◌, ◌++◌, append_assoc, append-nil}
use Prim.Native.Nat.{ℕ, ◌+◌, ◌≤◌, ◌<◌}
use native.Mathlib.Omega.{arith}
use native.Mathlib.Numerals.{add-one}
use lib.Dec.{eqb, ltb}
use lib.ListN.{length, get_or, take, set, replicate, length-set, length-replicate}
use lib.Seq.{take-suc, length-take-le}
use borrow.Author.Tests.{eq-eqb, ne_eqb, lt-ltb, le-ltb, ltb-true}
use Rattle.basics.proofs.Laws.{if_yes, if_no, if_ind, bool_cases, either_left, either_no}
use Rattle.basics.specs.Choice.{either}
use Rattle.basics.proofs.Order.{equal_or_not}
use Rattle.journal.specs.declared.JournalVerdict.{JournalVerdict}
use Rattle.journal.specs.declared.JournalCheckState.{JournalCheckState}
use Rattle.journal.specs.declared.JournalChecker.{JournalChecker}
use Rattle.journal.specs.declared.ExpectedReplyRecord.{ExpectedReplyRecord}
use Rattle.journal.specs.Verdict.{ExpectedNext, judge_record, journal_verdict_of, first_record_size}
use Rattle.journal.specs.Verdict.{expected_reply_at_mismatch, expected_reply_at_first_mismatch}
use Rattle.journal.specs.Inner.{expected_next_in_state, check_state_after_record, new_checker}
use Rattle.journal.specs.Inner.{checker_conforming_within_bounds, checker_holding_one_more_byte}
use Rattle.journal.specs.Inner.{checker_after_judging_record, checker_judging_once_record_whole, checker_after_byte}
use Rattle.journal.specs.Inner.{checker_after_bytes, CheckerWasFed, checker_verdict, checker_expected_reply}
use Rattle.journal.proofs.Pushed.{State, Keeps, KeepsAt, step_keeps, first_keeps, says_mismatch, says_accepted}
use Rattle.journal.proofs.Pushed.{says_cut, wanted_mismatch}
use Rattle.journal.proofs.Byte.{state_of, Fine, stays_wrong, state_step, due_back, size_most}
use Rattle.journal.proofs.Kept.{few_records_lem}

-- ---- bytes one by one

pub pushed_append : (c : JournalChecker) (s v : List ℕ) → checker_after_bytes c (s ++ v) ≡ checker_after_bytes
    (checker_after_bytes c s) v
unfolding checker_after_bytes
pushed_append c [] v = refl
pushed_append c (b ∷ s) v = pushed_append (checker_after_byte c b) s v

pub pushed_none : (c : JournalChecker) (v : List ℕ) → c ≡ checker_after_bytes c (take 0 v)
unfolding checker_after_bytes
pushed_none c v = refl

pub pushed_more : (c d r : JournalChecker) (v : List ℕ) (i b : ℕ) → d ≡ checker_after_bytes c (take i v) → i < length v
    → b ≡ get_or v i 0 → r ≡ checker_after_byte d b
    → r ≡ checker_after_bytes c (take (i + 1) v)
unfolding checker_after_bytes
pushed_more c d r v i b k l e p =
    p ∙ ap (λ (x : JournalChecker). checker_after_byte x b) k ∙ ap (checker_after_byte (checker_after_bytes c (take i v))) e ∙
    sym (pushed_append c (take i v) (get_or v i 0 ∷ []))
    ∙ ap (checker_after_bytes c) (sym (take-suc v i 0 l) ∙ ap (λ (m : ℕ). take m v) (sym (add-one i)))

-- after a mismatching record nothing changes
pub stays_all : (c : JournalChecker) (v : List ℕ) → c.standing.conforming ≡ false → c ≡ checker_after_bytes c v
unfolding checker_after_bytes
stays_all c [] e = refl
stays_all c (b ∷ v) e = stays_all c v e ∙ ap (λ (x : JournalChecker). checker_after_bytes x v) (stays_wrong c b e)

-- what `feed` promises
pub fed : (c r : JournalChecker) (v w : List ℕ) → r ≡ checker_after_bytes c v → v ≡ w
    → (r ≡ checker_after_bytes c w) × ((s : List ℕ) → CheckerWasFed c s → CheckerWasFed r (s ++ w))
fed c r v w e q = (
  e ∙ ap (checker_after_bytes c) q,
  λ s h. e ∙ ap (checker_after_bytes c) q ∙ ap
      (λ (x : JournalChecker). checker_after_bytes x w) h ∙ sym (pushed_append new_checker s w),
)

-- ---- the checker after the bytes s

record Behind (c : JournalChecker) (s : List ℕ) : Type 0 where
  part : c.length < 1027
  size : c.standing.size ≡ length (expected_next_in_state c.standing).due
  held : length c.held ≡ 1027
  keeps : KeepsAt (state_of c) s

length_kept : (c : JournalChecker) (b : ℕ) → c.length < 1027 → (checker_after_byte c b).length < 1027
unfolding checker_after_byte checker_judging_once_record_whole
length_kept c b l =
    if_ind P (checker_conforming_within_bounds c) _ c
    (λ w. if_ind P (ltb (c.length + 1) (first_record_size h)) (checker_holding_one_more_byte c h)
    (checker_after_judging_record c h)
    (λ v. omega (arith, ltb-true (c.length + 1) (first_record_size h) v, size_most (get_or h 0 0))) (λ v. omega arith))
    (λ w. l)
  where
    P : JournalChecker → Type 0
    P x = x.length < 1027

    h : List ℕ
    h = set c.held c.length b

exact_kept : (s : JournalCheckState) (o : Option ExpectedNext) → s.size ≡ length (expected_next_in_state s).due
    → (check_state_after_record s o).size ≡ length (expected_next_in_state (check_state_after_record s o)).due
exact_kept s None e = e
exact_kept s (Some t) e = ap length (sym (due_back t))

size_kept : (c : JournalChecker) (b : ℕ) → c.standing.size ≡ length (expected_next_in_state c.standing).due
    → (checker_after_byte c b).standing.size ≡ length (expected_next_in_state (checker_after_byte c b).standing).due
unfolding checker_after_byte checker_judging_once_record_whole
size_kept c b l =
    if_ind P (checker_conforming_within_bounds c) _ c (λ w. if_ind P (ltb (c.length + 1) (first_record_size h))
    (checker_holding_one_more_byte c h) (checker_after_judging_record c h) (λ v. l)
    (λ v. exact_kept c.standing (judge_record (expected_next_in_state c.standing) (take (first_record_size h) h)) l))
    (λ w. l)
  where
    P : JournalChecker → Type 0
    P x = x.standing.size ≡ length (expected_next_in_state x.standing).due

    h : List ℕ
    h = set c.held c.length b

held_kept : (c : JournalChecker) (b : ℕ) → length c.held ≡ 1027 → length (checker_after_byte c b).held ≡ 1027
unfolding checker_after_byte checker_judging_once_record_whole
held_kept c b l =
    if_ind P (checker_conforming_within_bounds c) _ c (λ w. if_ind P (ltb (c.length + 1) (first_record_size h))
    (checker_holding_one_more_byte c h) (checker_after_judging_record c h) (λ v. long) (λ v. long)) (λ w. l)
  where
    P : JournalChecker → Type 0
    P x = length x.held ≡ 1027

    h : List ℕ
    h = set c.held c.length b

    long : length (set c.held c.length b) ≡ 1027
    long = length-set c.held c.length b ∙ l

behind_push : (c : JournalChecker) (b : ℕ) (s : List ℕ) → Behind c s → Behind (checker_after_byte c b) (s ++ (b ∷ []))
behind_push c b s h =
    record {
      part = length_kept c b h.part;
      size = size_kept c b h.size;
      held = held_kept c b h.held;
      keeps = subst (λ (st : State). KeepsAt st (s ++ (b ∷ []))) (sym (state_step c b f))
          (step_keeps s b c.standing.conforming (expected_next_in_state c.standing) c.records
          (take c.length c.held) h.keeps);
    }
  where
    f : Fine c
    f = record {
      part = h.part;
      size = let e = h.size in let k = h.keeps.fits in omega arith;
      records = let n = h.keeps.few in omega arith;
      held = h.held;
    }

behind_bytes : (c : JournalChecker) (s v : List ℕ) → Behind c s → Behind (checker_after_bytes c v) (s ++ v)
unfolding checker_after_bytes
behind_bytes c s [] h = subst (Behind c) (sym (append-nil s)) h
behind_bytes c s (b ∷ v) h = subst (Behind (checker_after_bytes (checker_after_byte c b) v)) (append_assoc s (b ∷ []) v)
    (behind_bytes (checker_after_byte c b) (s ++ (b ∷ [])) v (behind_push c b s h))

behind_first : Behind new_checker []
unfolding new_checker
behind_first = record { part = omega arith; size = refl; held = length-replicate {A = ℕ} 1027 0; keeps = first_keeps }

behind_all : (s : List ℕ) → Behind (checker_after_bytes new_checker s) s
behind_all s = behind_bytes new_checker [] s behind_first

-- ---- the verdict

-- every way out of the end
module _ (c : JournalChecker) where
  pub says_wrong : c.standing.conforming ≡ false → JournalVerdict.Mismatch c.records ≡ checker_verdict c
  unfolding checker_verdict
  says_wrong r = sym (if_yes _ _ (ap not r))

  pub says_whole : c.standing.conforming ≡ true → c.length ≡ 0 → JournalVerdict.Accepted c.records
      ≡ checker_verdict c
  unfolding checker_verdict
  says_whole r l = sym (if_no _ _ (ap not r) ∙ if_yes _ _ (eq-eqb c.length 0 l))

  pub says_held : c.standing.conforming ≡ true → (c.length ≡ 0 → ⊥) → c.records < 1000
      → JournalVerdict.Truncated (c.records + 1) ≡ checker_verdict c
  unfolding checker_verdict
  says_held r l n = sym (if_no _ _ (ap not r) ∙ if_no _ _ (ne_eqb c.length 0 l) ∙ ap JournalVerdict.Truncated
      (if_yes _ _ (lt-ltb c.records 1000 n)))

  pub says_many : c.standing.conforming ≡ true → (c.length ≡ 0 → ⊥) → 1000 ≤ c.records
      → JournalVerdict.Truncated c.records ≡ checker_verdict c
  unfolding checker_verdict
  says_many r l n = sym (if_no _ _ (ap not r) ∙ if_no _ _ (ne_eqb c.length 0 l) ∙ ap JournalVerdict.Truncated
      (if_no _ _ (le-ltb c.records 1000 n)))

-- every way out of `expected_reply_record`
module _ (c : JournalChecker) where
  pub wants_none : either c.standing.conforming (ltb 264 c.standing.size) ≡ true
      → record { bytes = replicate 264 0; size = 0 } ≡ checker_expected_reply c
  unfolding checker_expected_reply
  wants_none e = sym (if_yes _ _ e)

  pub wants_due : c.standing.conforming ≡ false → c.standing.size ≤ 264
      → record { bytes = c.standing.due; size = c.standing.size } ≡ checker_expected_reply c
  unfolding checker_expected_reply
  wants_due r h = sym (if_no _ _ (either_no _ _ r (le-ltb 264 c.standing.size h)))

module _ (c : JournalChecker) (s : List ℕ) (h : Behind c s) where
  keeps_as : (r : Bool) → c.standing.conforming ≡ r → Keeps r (expected_next_in_state c.standing) c.records
      (take c.length c.held) s
  keeps_as r e = subst (λ (x : Bool). Keeps x (expected_next_in_state c.standing) c.records
      (take c.length c.held) s) e h.keeps

  right_verdict : c.standing.conforming ≡ true → checker_verdict c ≡ journal_verdict_of s
  right_verdict r = elim (equal_or_not c.length 0) [
    | inl l ↦
        sym (says_whole c r l)
        ∙ says_accepted s (expected_next_in_state c.standing) c.records
        (subst (λ (k : ℕ). Keeps true (expected_next_in_state c.standing) c.records (take k c.held) s) l
        (keeps_as true r))
    | inr l ↦
        let k = h.part in
        sym (says_held c r l (omega (arith, few_records_lem _ _ ((keeps_as true r).kept refl))))
        ∙ says_cut s (expected_next_in_state c.standing) c.records (take c.length c.held)
        (omega (arith, length-take-le c.length c.held (omega (arith, h.held)))) (keeps_as true r)
  ]

  verdict_said : checker_verdict c ≡ journal_verdict_of s
  verdict_said = elim (bool_cases c.standing.conforming) [
    | inl r ↦ right_verdict r
    | inr r ↦ sym (says_wrong c r) ∙ says_mismatch s (expected_next_in_state c.standing) c.records
        (take c.length c.held) (keeps_as false r)
  ]

  -- no record was a mismatch
  wanted_right : c.standing.conforming ≡ true → [] ≡ expected_reply_at_first_mismatch s
  unfolding checker_verdict expected_reply_at_first_mismatch
  wanted_right r =
      sym (ap (expected_reply_at_mismatch s) (if_no _ _ (ap not r)) ∙ if_ind
      (λ (v : JournalVerdict). expected_reply_at_mismatch s v ≡ []) (eqb c.length 0) _ _ (λ w. refl) (λ w. refl))
      ∙ ap (expected_reply_at_mismatch s) verdict_said

  wanted_said : take (checker_expected_reply c).size (checker_expected_reply c).bytes ≡ expected_reply_at_first_mismatch s
  wanted_said = elim (bool_cases c.standing.conforming) [
    | inl r ↦ ap held (sym (wants_none c (either_left _ _ r))) ∙ wanted_right r
    | inr r ↦ ap held (sym (wants_due c r (let e = h.size in let k = h.keeps.fits in omega arith)))
        ∙ wanted_mismatch s (expected_next_in_state c.standing) c.records (take c.length c.held)
        (keeps_as false r)
  ]
    where
      held : ExpectedReplyRecord → List ℕ
      held w = take w.size w.bytes

-- a checker that was fed the bytes s says the verdict over them
pub verdict_follows : (s : List ℕ) → checker_verdict (checker_after_bytes new_checker s) ≡ journal_verdict_of s
verdict_follows s = verdict_said (checker_after_bytes new_checker s) s (behind_all s)

-- what `finish` promises
pub finished : (c : JournalChecker) (v : JournalVerdict) → v ≡ checker_verdict c
    → (v ≡ checker_verdict c) × ((s : List ℕ) → CheckerWasFed c s → v ≡ journal_verdict_of s)
finished c v e = (e, λ s h. e ∙ ap checker_verdict h ∙ verdict_follows s)

-- what `expected_reply_record` promises
pub wanted_follows : (c : JournalChecker) (w : ExpectedReplyRecord) → w ≡ checker_expected_reply c → w.size ≤ 264
    → (w ≡ checker_expected_reply c)
    × ((w.size ≤ 264) × ((s : List ℕ) → CheckerWasFed c s → take w.size w.bytes ≡ expected_reply_at_first_mismatch
    s))
wanted_follows c w e l = (
  e,
  (
    l,
    λ s h. ap held (e ∙ ap checker_expected_reply h) ∙ wanted_said (checker_after_bytes new_checker s) s
        (behind_all s),
  ),
)
  where
    held : ExpectedReplyRecord → List ℕ
    held w = take w.size w.bytes
