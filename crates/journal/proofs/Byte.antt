-- One more byte: the byte set after the part that is held is that part with one more byte, so the checker's state takes
-- the step of `Pushed`.
-- Assumes nothing.
use Rattle.std.specs.Prelude.{Option, Some, None}
use mathlib.Core.Path.{◌≡◌, refl, sym, ap, ◌∙◌}
use mathlib.Core.Bool.{Bool, true, false}
use mathlib.Core.Logic.{inl, inr}
use mathlib.Core.List.{List, [], ◌∷◌, ◌++◌}
use Prim.Native.Nat.{ℕ, zero, suc, ◌+◌, ◌≤◌, ◌<◌}
use native.Mathlib.Omega.{arith}
use native.Mathlib.Numerals.{add-one}
use lib.Dec.{eqb, ltb}
use lib.ListN.{length, get_or, take, set, length-append}
use lib.Seq.{length-take-le, take-suc-set, take-take, take-append_seam, get_or-take}
use borrow.Author.Tests.{lt-ltb, le-ltb, le-leb, lt-leb, ltb-true, ltb-false}
use Rattle.basics.proofs.Laws.{if_yes, if_no, if_ind, bool_cases, both_yes, both_no_left, both_no_right}
use Rattle.basics.specs.Choice.{if}
use Rattle.journal.specs.declared.JournalCheckState.{JournalCheckState}
use Rattle.journal.specs.declared.JournalChecker.{JournalChecker}
use Rattle.journal.specs.Record.{journal_record_size}
use Rattle.journal.specs.Verdict.{ExpectedNext, expected_next_of_session_and_due_reply, judge_record, first_record_size}
use Rattle.journal.specs.Inner.{expected_next_in_state, check_state_of, check_state_after_record}
use Rattle.journal.specs.Inner.{checker_holding_one_more_byte, checker_after_judging_record}
use Rattle.journal.specs.Inner.{checker_judging_once_record_whole, checker_after_byte}
use Rattle.journal.proofs.Pushed.{State, state, judged_state, whole_state, step_by}

-- ---- every way out of a push

module _ (c : JournalChecker) (b : ℕ) where
  pub stays_wrong : c.standing.conforming ≡ false → c ≡ checker_after_byte c b
  unfolding checker_after_byte
  stays_wrong e = sym (if_no _ _ (both_no_left _ _ e))

  pub stays_length : 1027 ≤ c.length → c ≡ checker_after_byte c b
  unfolding checker_after_byte
  stays_length h = sym (if_no _ _ (both_no_right _ _ (both_no_left _ _ (le-ltb c.length 1027 h))))

  pub stays_size : 264 < c.standing.size → c ≡ checker_after_byte c b
  unfolding checker_after_byte
  stays_size h =
      sym (if_no _ _ (both_no_right _ _ (both_no_right _ _ (both_no_left _ _ (lt-leb c.standing.size 264 h)))))

  pub stays_records : 1000 ≤ c.records → c ≡ checker_after_byte c b
  unfolding checker_after_byte
  stays_records h =
      sym (if_no _ _ (both_no_right _ _ (both_no_right _ _ (both_no_right _ _ (le-ltb c.records 1000 h)))))

  module _ (r : c.standing.conforming ≡ true) (l : c.length < 1027) (s : c.standing.size ≤ 264)
      (n : c.records < 1000) where
    pub goes : checker_judging_once_record_whole c (set c.held c.length b) ≡ checker_after_byte c b
    unfolding checker_after_byte
    goes =
        sym (if_yes _ _ (both_yes _ _ r (both_yes _ _ (lt-ltb c.length 1027 l)
        (both_yes _ _ (le-leb c.standing.size 264 s) (lt-ltb c.records 1000 n)))))

    pub holds_more : (size : ℕ) → size ≡ first_record_size (set c.held c.length b) → c.length + 1 < size
        → checker_holding_one_more_byte c (set c.held c.length b) ≡ checker_after_byte c b
    unfolding checker_judging_once_record_whole
    holds_more size e h = sym (if_yes _ _ (lt-ltb (c.length + 1) _ (let g = e in omega arith))) ∙ goes

    pub judges : (size : ℕ) (x : JournalCheckState) → size ≡ first_record_size (set c.held c.length b)
        → size ≤ c.length + 1
        → x ≡ check_state_after_record c.standing
        (judge_record (expected_next_in_state c.standing) (take size (set c.held c.length b)))
        → record { standing = x; held = set c.held c.length b; length = 0; records = c.records + 1 }
        ≡ checker_after_byte c b
    unfolding checker_judging_once_record_whole
    judges size x e h j =
        ap (λ (y : JournalCheckState). record {
          standing = y;
          held = set c.held c.length b;
          length = 0;
          records =
              c.records + 1;
        })
        (j ∙ ap
        (λ (m : ℕ). check_state_after_record c.standing
        (judge_record (expected_next_in_state c.standing) (take m (set c.held c.length b)))) e)
        ∙ sym
        (if_no _ _ (le-ltb (c.length + 1) (first_record_size (set c.held c.length b)) (let g = e in omega arith)))
        ∙ goes

-- ---- the state

abbrev pub state_of : JournalChecker → State
state_of c = state c.standing.conforming (expected_next_in_state c.standing) c.records
    (take c.length c.held)

-- what is expected is read back
pub due_back : (e : ExpectedNext) → take (length e.due) (check_state_of e).due ≡ e.due
due_back e = take-append_seam e.due _

judged_state_lem : (s : JournalCheckState) (n : ℕ) (o : Option ExpectedNext)
    → state (check_state_after_record s o).conforming (expected_next_in_state (check_state_after_record s o)) n []
    ≡ judged_state (expected_next_in_state s) n o
judged_state_lem s n None = refl
judged_state_lem s n (Some e) = ap (λ (d : List ℕ). state true (expected_next_of_session_and_due_reply e.session d) n []) (due_back e)

-- within the bounds
pub record Fine (c : JournalChecker) : Type 0 where
  pub part : c.length < 1027
  pub size : c.standing.size ≤ 264
  pub records : c.records < 1000
  pub held : length c.held ≡ 1027

module _ (h : List ℕ) (k b : ℕ) (room : k < length h) where
  longer : take (k + 1) (set h k b) ≡ take k h ++ (b ∷ [])
  longer = ap (λ (m : ℕ). take m (set h k b)) (add-one k) ∙ take-suc-set h k b room

  longer_length : length (take k h ++ (b ∷ [])) ≡ k + 1
  longer_length = length-append (take k h) (b ∷ []) ∙ ap (λ (m : ℕ). m + 1) (length-take-le k h (omega arith))

  same_size : first_record_size (take k h ++ (b ∷ [])) ≡ first_record_size (set h k b)
  same_size = ap first_record_size (sym longer) ∙ ap journal_record_size (get_or-take (k + 1) (set h k b) 0 0 (omega arith))

  same_record_lem : first_record_size (set h k b) ≤ k + 1
      → take (first_record_size (set h k b)) (set h k b) ≡ take (first_record_size (take k h ++ (b ∷ [])))
      (take k h ++ (b ∷ []))
  same_record_lem t =
      sym (take-take (first_record_size (set h k b)) (k + 1) (set h k b) t) ∙ ap (take (first_record_size (set h k b)))
      longer
      ∙ ap (λ (m : ℕ). take m (take k h ++ (b ∷ []))) (sym same_size)

module _ (c : JournalChecker) (b : ℕ) (f : Fine c) where
  room : c.length < length c.held
  room = let l = f.part in omega (arith, f.held)

  whole_state_lem : c.standing.conforming ≡ true → state_of (checker_judging_once_record_whole c (set c.held c.length b))
      ≡ whole_state (expected_next_in_state c.standing) c.records (take c.length c.held ++ (b ∷ []))
  unfolding checker_judging_once_record_whole whole_state
  whole_state_lem r =
      if_ind (λ (x : JournalChecker). state_of x ≡ whole_state (expected_next_in_state c.standing) c.records l)
      (ltb (c.length + 1) (first_record_size h)) (checker_holding_one_more_byte c h) (checker_after_judging_record c h)
      (λ w.
      ap (λ (x : Bool). state x (expected_next_in_state c.standing) c.records (take (c.length + 1) h)) r
      ∙ ap (state true (expected_next_in_state c.standing) c.records) (longer c.held c.length b room)
      ∙ sym
      (if_yes _ _
      (lt-ltb (length l) (first_record_size l)
      (omega (arith, ltb-true (c.length + 1) (first_record_size h) w, long, size)))))
      (λ w.
      judged_state_lem c.standing (c.records + 1)
      (judge_record (expected_next_in_state c.standing) (take (first_record_size h) h))
      ∙ ap (λ (v : List ℕ). judged_state (expected_next_in_state c.standing) (c.records + 1)
      (judge_record (expected_next_in_state c.standing) v))
      (same_record_lem c.held c.length b room (ltb-false (c.length + 1) (first_record_size h) w))
      ∙ sym
      (if_no _ _
      (le-ltb (length l) (first_record_size l)
      (omega (arith, ltb-false (c.length + 1) (first_record_size h) w, long, size)))))
    where
      h : List ℕ
      h = set c.held c.length b

      l : List ℕ
      l = take c.length c.held ++ (b ∷ [])

      long : length (take c.length c.held ++ (b ∷ [])) ≡ c.length + 1
      long = longer_length c.held c.length b room

      size : first_record_size (take c.length c.held ++ (b ∷ [])) ≡ first_record_size (set c.held c.length b)
      size = same_size c.held c.length b room

  pub state_step : state_of (checker_after_byte c b) ≡ step_by c.standing.conforming (expected_next_in_state c.standing)
      c.records (take c.length c.held) b
  state_step = elim (bool_cases c.standing.conforming) [
    | inl r ↦
        ap state_of (sym (goes c b r f.part f.size f.records)) ∙ whole_state_lem r ∙ sym
        (ap (λ (x : Bool). step_by x (expected_next_in_state c.standing) c.records (take c.length c.held) b) r)
    | inr r ↦
        ap state_of (sym (stays_wrong c b r)) ∙ ap (λ (x : Bool). state x (expected_next_in_state c.standing)
        c.records (take c.length c.held)) r
        ∙ sym
        (ap (λ (x : Bool). step_by x (expected_next_in_state c.standing) c.records (take c.length c.held) b) r)
  ]

-- ---- the size of a record

-- no byte is no kind
pub size_none : journal_record_size (get_or [] 0 0) ≡ 0
unfolding journal_record_size if
size_none = refl

pub size_most : (kind : ℕ) → journal_record_size kind ≤ 1027
unfolding journal_record_size
size_most kind =
    if_ind P (eqb kind 1) _ _ (λ w. omega arith)
    (λ w. if_ind P (eqb kind 2) _ _ (λ w. omega arith) (λ w. if_ind P (eqb kind 3) _ _ (λ w. omega arith)
    (λ w. if_ind P (eqb kind 4) _ _ (λ w. omega arith)
    (λ w. if_ind P (eqb kind 5) _ _ (λ w. omega arith)
    (λ w. if_ind P (eqb kind 6) _ _ (λ w. omega arith) (λ w. omega arith))))))
  where
    P : ℕ → Type 0
    P n = n ≤ 1027

-- as many bytes as a record has are the record, and none where there is no such kind
pub record_sized : (l : List ℕ) (size : ℕ) → size ≡ journal_record_size (get_or l 0 0) → size ≤ length l
    → length (take size l) ≡ journal_record_size (get_or (take size l) 0 0)
record_sized l zero e t = sym size_none
record_sized l (suc k) e t = length-take-le (suc k) l t ∙ e ∙ sym
    (ap journal_record_size (get_or-take (suc k) l 0 0 (omega arith)))
