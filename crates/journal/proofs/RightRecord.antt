-- The conforming record in place of a mismatching one: where a reply was expected, that reply's record and no other
-- continues the records before it. By induction over the records; the reply itself is whole, so it is judged as a
-- record, and only by being the same is one judged conforming.
-- Assumes nothing.
use Rattle.std.specs.Prelude.{Option, Some, None}
use mathlib.Core.Path.{◌≡◌, refl, sym, ap, subst, ◌∙◌}
use mathlib.Core.Bool.{false}
use mathlib.Core.Logic.{inl, inr}
use mathlib.Core.List.{List, [], ◌∷◌, ◌++◌, append_assoc, append-nil}
use Prim.Native.Nat.{ℕ, zero, suc, ◌+◌, ◌-◌, ◌%◌, ◌≤◌, ◌<◌}
use native.Mathlib.Omega.{arith}
use lib.Dec.{ltb}
use lib.ListN.{length, take, drop, length-append, take-append-drop}
use lib.Seq.{length-take-le, get_or-take}
use borrow.Author.Tests.{eq-eqb, ne_eqb, ltb-false}
use Rattle.basics.specs.Alike.{bytes_equal}
use Rattle.basics.proofs.Laws.{if_yes, if_no, if_ind, bool_cases}
use Rattle.basics.proofs.Order.{equal_or_not}
use Rattle.basics.proofs.Alike.{alike_refl, alike_eq}
use Rattle.basics.proofs.Recursion.{shorter_first}
use Rattle.session_record.specs.declared.Session.{Session}
use Rattle.session.specs.Calls.{Call, call_step}
use Rattle.journal.specs.declared.JournalVerdict.{JournalVerdict}
use Rattle.journal.specs.Record.{journal_record_size, call_from_journal_record, journal_reply_record}
use Rattle.journal.specs.Verdict.{ExpectedNext, expected_next_of_session_and_due_reply, expected_at_start, expect_reply_unless_empty, judge_call}
use Rattle.journal.specs.Verdict.{judge_record_by, judge_record, verdict_from, journal_verdict_of, first_record_size}
use Rattle.journal.specs.Verdict.{reply_due_after, expected_reply_at_mismatch, expected_reply_at_first_mismatch}
use Rattle.journal.specs.ConformingRecords.{OnlyConformingRecord, ExpectedReplyOnlyConforming}
use Rattle.journal.specs.ConformingRecords.{ExpectedReplyAtEvenRecords}
use Rattle.journal.proofs.Walk.{verdict_continues, reply_due_then, unroll, ends, whole, due_whole}
use Rattle.journal.proofs.Due.{reply_due}
use Rattle.journal.proofs.Kept.{nothing, due_one, Kept, first-kept, judged_kept}

-- ---- the ways of the record at the front

data Way (e : ExpectedNext) (n : ℕ) (s : List ℕ) : Type 0 where
  ended : s ≡ [] → verdict_from e n s ≡ JournalVerdict.Accepted n → Way e n s
  is_mismatch : verdict_from e n s ≡ JournalVerdict.Mismatch (n + 1) → Way e n s
  is_cut : verdict_from e n s ≡ JournalVerdict.Truncated (n + 1) → Way e n s
  goes : (t : ExpectedNext) (l rest : List ℕ) → s ≡ l ++ rest → 0 < length l → length l ≡ first_record_size l
      → judge_record e l ≡ Some t
      → verdict_from e n s ≡ verdict_from t (n + 1) rest → Way e n s

module _ (e : ExpectedNext) (n b : ℕ) (s : List ℕ) (z : journal_record_size b ≡ 0 → ⊥)
    (w : ltb (length (b ∷ s)) (journal_record_size b) ≡ false) where
  long : length (take (journal_record_size b) (b ∷ s)) ≡ journal_record_size b
  long = length-take-le (journal_record_size b) (b ∷ s) (ltb-false (length (b ∷ s)) (journal_record_size b) w)

  whole_way : (o : Option ExpectedNext) → judge_record e (take (journal_record_size b) (b ∷ s)) ≡ o → Way e n (b ∷ s)
  whole_way None j =
      is_mismatch (unroll e n (b ∷ s) ∙ if_no _ _ (ne_eqb (journal_record_size b) 0 z) ∙ if_no _ _ w ∙ ap
      (verdict_continues (λ t. verdict_from t (n + 1) (drop (journal_record_size b) (b ∷ s))) (n + 1)) j)
  whole_way (Some t) j =
      goes t (take (journal_record_size b) (b ∷ s)) (drop (journal_record_size b) (b ∷ s))
      (sym (take-append-drop (journal_record_size b) (b ∷ s)))
      (some_bytes (journal_record_size b) z long)
      (long ∙ sym
      (ap journal_record_size (get_or-take (journal_record_size b) (b ∷ s) 0 0 (not-zero (journal_record_size b) z)))) j
      (unroll e n (b ∷ s) ∙ if_no _ _ (ne_eqb (journal_record_size b) 0 z) ∙ if_no _ _ w ∙ ap
      (verdict_continues (λ t. verdict_from t (n + 1) (drop (journal_record_size b) (b ∷ s))) (n + 1)) j)
    where
      not-zero : (k : ℕ) → (k ≡ 0 → ⊥) → 0 < k
      not-zero k y = omega arith

      some_bytes : (k : ℕ) → (k ≡ 0 → ⊥) → length (take (journal_record_size b) (b ∷ s)) ≡ k
          → 0 < length (take (journal_record_size b) (b ∷ s))
      some_bytes k y q = omega arith

way : (e : ExpectedNext) (n : ℕ) (s : List ℕ) → Way e n s
way e n [] = ended refl (ends e n)
way e n (b ∷ s) = elim (equal_or_not (journal_record_size b) 0) [
  | inl z ↦ is_mismatch (unroll e n (b ∷ s) ∙ if_yes _ _ (eq-eqb (journal_record_size b) 0 z))
  | inr z ↦ elim (bool_cases (ltb (length (b ∷ s)) (journal_record_size b))) [
    | inl w ↦ is_cut (unroll e n (b ∷ s) ∙ if_no _ _ (ne_eqb (journal_record_size b) 0 z) ∙ if_yes _ _ w)
    | inr w ↦ whole_way e n b s z w _ refl
  ]
]

-- what is after a conforming record is judged the same wherever it stands
behind : (e t : ExpectedNext) (n : ℕ) (l v : List ℕ) → 0 < length l → length l ≡ first_record_size l
    → judge_record e l ≡ Some t
    → verdict_from e n (l ++ v) ≡ verdict_from t (n + 1) v
behind e t n l v h z j = whole e n l v h z ∙ ap (verdict_continues (λ t. verdict_from t (n + 1) v) (n + 1)) j

shorter : (s l rest : List ℕ) → s ≡ l ++ rest → 0 < length l → length rest < length s
shorter s l rest q h = omega (arith, ap length q, length-append l rest)

-- ---- the number of a verdict

accepted_same : (n m : ℕ) → JournalVerdict.Accepted n ≡ JournalVerdict.Accepted m → n ≡ m
accepted_same n m q = cc

mismatch_same : (n m : ℕ) → JournalVerdict.Mismatch n ≡ JournalVerdict.Mismatch m → n ≡ m
mismatch_same n m q = cc

module _ {P : Type 0} (n m : ℕ) where
  accepted_mismatch : JournalVerdict.Accepted n ≡ JournalVerdict.Mismatch m → P
  accepted_mismatch q = let z : ◌≡◌ {A = ℕ} 0 1 = cc in absurd (omega arith)

  mismatch_accepted : JournalVerdict.Mismatch n ≡ JournalVerdict.Accepted m → P
  mismatch_accepted q = let z : ◌≡◌ {A = ℕ} 0 1 = cc in absurd (omega arith)

  cut_mismatch : JournalVerdict.Truncated n ≡ JournalVerdict.Mismatch m → P
  cut_mismatch q = let z : ◌≡◌ {A = ℕ} 0 1 = cc in absurd (omega arith)

  cut_accepted : JournalVerdict.Truncated n ≡ JournalVerdict.Accepted m → P
  cut_accepted q = let z : ◌≡◌ {A = ℕ} 0 1 = cc in absurd (omega arith)

-- as many records are accepted as were before, and more where there are bytes
abbrev More : List ℕ → Type 0
More s = (e : ExpectedNext) (n m : ℕ) → verdict_from e n s ≡ JournalVerdict.Accepted m → n + due_one s ≤ m

more_one : (s : List ℕ) → due_one s ≤ 1
more_one [] = omega arith
more_one (b ∷ s) = omega arith

more_next : (s : List ℕ) → ((v : List ℕ) → length v < length s → More v) → More s
more_next s k e n m q = elim (way e n s) [
  | ended x v ↦ let y = ap due_one x in omega (arith, accepted_same n m (sym v ∙ q))
  | is_mismatch v ↦ mismatch_accepted (n + 1) m (sym v ∙ q)
  | is_cut v ↦ cut_accepted (n + 1) m (sym v ∙ q)
  | goes t l rest x h z j v ↦ omega (arith, more_one s, k rest (shorter s l rest x h) t (n + 1) m (sym v ∙ q))
]

-- a mismatching record is after those before
abbrev Later : List ℕ → Type 0
Later s = (e : ExpectedNext) (n m : ℕ) → verdict_from e n s ≡ JournalVerdict.Mismatch m → n + 1 ≤ m

later_next : (s : List ℕ) → ((v : List ℕ) → length v < length s → Later v) → Later s
later_next s k e n m q = elim (way e n s) [
  | ended x v ↦ accepted_mismatch n m (sym v ∙ q)
  | is_mismatch v ↦ omega (arith, mismatch_same (n + 1) m (sym v ∙ q))
  | is_cut v ↦ cut_mismatch (n + 1) m (sym v ∙ q)
  | goes t l rest x h z j v ↦ omega (arith, k rest (shorter s l rest x h) t (n + 1) m (sym v ∙ q))
]

later : (s : List ℕ) → Later s
later = shorter_first Later later_next

-- ---- where a reply is expected

module _ (s : Session) (d : List ℕ) (h : 0 < length d) (z : length d ≡ first_record_size d) (n : ℕ) where
  due_accepted : verdict_from (expected_next_of_session_and_due_reply s d) n d ≡ JournalVerdict.Accepted (n + 1)
  due_accepted =
      ap (verdict_from (expected_next_of_session_and_due_reply s d) n) (sym (append-nil d))
      ∙ behind (expected_next_of_session_and_due_reply s d) (expected_next_of_session_and_due_reply s []) n d [] h z (reply_due s d d h ∙ if_yes _ _ (alike_refl d)) ∙ ends
      (expected_next_of_session_and_due_reply s []) (n + 1)

  same_record_lem : (l : List ℕ) (t : ExpectedNext) → judge_record_by s d l ≡ Some t → l ≡ d
  same_record_lem l t j =
      if_ind (λ (o : Option ExpectedNext). o ≡ Some t → l ≡ d) (bytes_equal l d) (Some (expected_next_of_session_and_due_reply s [])) None
      (λ w q. alike_eq l d w) (λ w q. nothing q)
      (sym (reply_due s d l h) ∙ j)

  no_more : (t : ExpectedNext) (rest : List ℕ) → verdict_from t (n + 1) rest ≡ JournalVerdict.Accepted (n + 1)
      → rest ≡ []
  no_more t [] q = refl
  no_more t (b ∷ rest) q = absurd (omega (arith, shorter_first More more_next (b ∷ rest) t (n + 1) (n + 1) q))

  due_only : (r : List ℕ) → verdict_from (expected_next_of_session_and_due_reply s d) n r ≡ JournalVerdict.Accepted (n + 1) → r ≡ d
  due_only r q = elim (way (expected_next_of_session_and_due_reply s d) n r) [
    | ended x v ↦ absurd (omega (arith, accepted_same n (n + 1) (sym v ∙ q)))
    | is_mismatch v ↦ mismatch_accepted (n + 1) (n + 1) (sym v ∙ q)
    | is_cut v ↦ cut_accepted (n + 1) (n + 1) (sym v ∙ q)
    | goes t l rest x y w j v ↦ x ∙ ap (λ (u : List ℕ). l ++ u) (no_more t rest (sym v ∙ q)) ∙ append-nil l ∙
        same_record_lem l t j
  ]

-- ---- the whole journal

abbrev Only : List ℕ → Type 0
Only s = (e : ExpectedNext) (n k : ℕ) → Kept e n → verdict_from e n s ≡ JournalVerdict.Mismatch (n + 1 + k)
    → 0 < length (reply_due_after k e s)
    → OnlyConformingRecord (verdict_from e n) (n + 1 + k) s (reply_due_after k e s)

-- the record at the front
only_now : (s : List ℕ) (e : ExpectedNext) (n : ℕ) → Kept e n → 0 < length e.due
    → OnlyConformingRecord (verdict_from e n) (n + 1) s e.due
only_now s e n k h =
    let q : n ≡ n + 1 - 1 = omega arith in
    record {
      before = [];
      rest = s;
      splits = refl;
      so_far = ends e n ∙ ap JournalVerdict.Accepted q;
      conforming = due_accepted e.session e.due h (k.whole h) n;
      only = due_only e.session e.due h (k.whole h) n;
    }

-- after a conforming record
only_behind : (e t : ExpectedNext) (n m : ℕ) (s l rest d : List ℕ) → s ≡ l ++ rest → 0 < length l
    → length l ≡ first_record_size l → judge_record e l ≡ Some t
    → OnlyConformingRecord (verdict_from t (n + 1)) m rest d → OnlyConformingRecord (verdict_from e n) m s d
only_behind e t n m s l rest d x h z j o =
    record {
      before = l ++ o.before;
      rest = o.rest;
      splits = x ∙ ap (λ (v : List ℕ). l ++ v) o.splits ∙ sym (append_assoc l o.before o.rest);
      so_far = behind e t n l o.before h z j ∙ o.so_far;
      conforming = ap (verdict_from e n) (append_assoc l o.before d) ∙ behind e t n l (o.before ++ d) h z j ∙
          o.conforming;
      only = λ r q. o.only r (sym (behind e t n l (o.before ++ r) h z j) ∙ ap (verdict_from e n)
          (sym (append_assoc l o.before r)) ∙ q);
    }

only_next : (s : List ℕ) → ((v : List ℕ) → length v < length s → Only v) → Only s
unfolding reply_due_after
only_next s k e n zero y q h =
    let p : n + 1 ≡ n + 1 + 0 = omega arith in
    subst (λ (m : ℕ). OnlyConformingRecord (verdict_from e n) m s e.due) p (only_now s e n y h)
only_next s k e n (suc i) y q h = elim (way e n s) [
  | ended x v ↦ accepted_mismatch n (n + 1 + suc i) (sym v ∙ q)
  | is_mismatch v ↦ absurd (omega (arith, mismatch_same (n + 1) (n + 1 + suc i) (sym v ∙ q)))
  | is_cut v ↦ cut_mismatch (n + 1) (n + 1 + suc i) (sym v ∙ q)
  | goes t l rest x w z j v ↦
      let p : n + 1 + suc i ≡ n + 1 + 1 + i = omega arith in
      let d : reply_due_after i t rest ≡ reply_due_after (suc i) e s =
      ap (reply_due_then (λ u. reply_due_after i u rest)) (sym j) ∙ sym (due_whole i e l rest w z) ∙ ap
      (reply_due_after (suc i) e) (sym x) in
      subst (OnlyConformingRecord (verdict_from e n) (n + 1 + suc i) s) d
      (only_behind e t n (n + 1 + suc i) s l rest (reply_due_after i t rest) x w z j
      (subst (λ (m : ℕ). OnlyConformingRecord (verdict_from t (n + 1)) m rest (reply_due_after i t rest)) (sym p)
      (k rest (shorter s l rest x w) t (n + 1) i (judged_kept e.session e.due l n t y j)
      (sym v ∙ q ∙ ap JournalVerdict.Mismatch p) (subst (λ (u : List ℕ). 0 < length u) (sym d) h))))
]

-- where record n is a mismatch and the bytes expected are some, they continue the n - 1 conforming records before it,
-- and nothing else does
pub wanted_only : ExpectedReplyOnlyConforming
unfolding journal_verdict_of expected_reply_at_first_mismatch
wanted_only s n q h =
    let l = later s expected_at_start 0 n q in
    let p : n ≡ 0 + 1 + (n - 1) = omega arith in
    let d : expected_reply_at_first_mismatch s ≡ reply_due_after (n - 1) expected_at_start s = ap (expected_reply_at_mismatch s) q
    in
    subst (λ (m : ℕ). OnlyConformingRecord journal_verdict_of m s (expected_reply_at_first_mismatch s)) (sym p)
    (subst (OnlyConformingRecord journal_verdict_of (0 + 1 + (n - 1)) s) (sym d)
    (shorter_first Only only_next s expected_at_start 0 (n - 1) first-kept (q ∙ ap JournalVerdict.Mismatch p)
    (subst (λ (u : List ℕ). 0 < length u) d h)))

-- ---- a reply is expected at the records of even number

replied_due : (s : Session) (d : List ℕ) (t : ExpectedNext) → expect_reply_unless_empty s d ≡ Some t → due_one t.due ≡ 1
replied_due s [] t q = nothing q
replied_due s (b ∷ d) t q = let w : expected_next_of_session_and_due_reply s (b ∷ d) ≡ t = cc in ap (λ (u : ExpectedNext). due_one u.due)
    (sym w)

called_due : (s : Session) (c : Option Call) (t : ExpectedNext) → judge_call s c ≡ Some t → due_one t.due ≡ 1
called_due s None t q = nothing q
called_due s (Some c) t q = replied_due (call_step s c).reply.session
    (journal_reply_record (call_step s c).reply.answer (call_step s c).buffer) t q

-- a call and its reply take turns
turns : (s : Session) (d l : List ℕ) (t : ExpectedNext) → judge_record_by s d l ≡ Some t → due_one d + due_one t.due ≡ 1
turns s [] l t q = let w = called_due s (call_from_journal_record l) t q in omega (arith, w)
turns s (b ∷ d) l t q =
    let w : due_one t.due ≡ 0 =
    if_ind (λ (o : Option ExpectedNext). o ≡ Some t → due_one t.due ≡ 0) (bytes_equal l (b ∷ d))
    (Some (expected_next_of_session_and_due_reply s [])) None
    (λ x e. let z : expected_next_of_session_and_due_reply s [] ≡ t = cc in ap (λ (u : ExpectedNext). due_one u.due) (sym z))
    (λ x e. nothing e) q in
    omega (arith, w)

abbrev Even : List ℕ → Type 0
Even s = (e : ExpectedNext) (n k : ℕ) → verdict_from e n s ≡ JournalVerdict.Mismatch (n + 1 + k)
    → due_one (reply_due_after k e s) ≡ (due_one e.due + k) % 2

one_bit : (d : List ℕ) → due_one d ≡ (due_one d + 0) % 2
one_bit [] = refl
one_bit (b ∷ d) = refl

even_next : (s : List ℕ) → ((v : List ℕ) → length v < length s → Even v) → Even s
unfolding reply_due_after
even_next s k e n zero q = one_bit e.due
even_next s k e n (suc i) q = elim (way e n s) [
  | ended x v ↦ accepted_mismatch n (n + 1 + suc i) (sym v ∙ q)
  | is_mismatch v ↦ absurd (omega (arith, mismatch_same (n + 1) (n + 1 + suc i) (sym v ∙ q)))
  | is_cut v ↦ cut_mismatch (n + 1) (n + 1 + suc i) (sym v ∙ q)
  | goes t l rest x w z j v ↦
      let p : n + 1 + suc i ≡ n + 1 + 1 + i = omega arith in
      let d : reply_due_after i t rest ≡ reply_due_after (suc i) e s =
      ap (reply_due_then (λ u. reply_due_after i u rest)) (sym j) ∙ sym (due_whole i e l rest w z) ∙ ap
      (reply_due_after (suc i) e) (sym x) in
      let y = k rest (shorter s l rest x w) t (n + 1) i (sym v ∙ q ∙ ap JournalVerdict.Mismatch p) in
      let o = turns e.session e.due l t j in
      omega (arith, ap due_one (sym d), y, o)
]

due_some : (d : List ℕ) → due_one d ≡ 1 → 0 < length d
due_some [] q = absurd (omega (arith, q))
due_some (b ∷ d) q = omega arith

some_due : (d : List ℕ) → 0 < length d → due_one d ≡ 1
some_due [] h = absurd (omega (arith, h))
some_due (b ∷ d) h = refl

pub wanted_even : ExpectedReplyAtEvenRecords
unfolding journal_verdict_of expected_reply_at_first_mismatch
wanted_even s n q =
    let l = later s expected_at_start 0 n q in
    let p : n ≡ 0 + 1 + (n - 1) = omega arith in
    let d : expected_reply_at_first_mismatch s ≡ reply_due_after (n - 1) expected_at_start s = ap (expected_reply_at_mismatch s) q
    in
    let y = shorter_first Even even_next s expected_at_start 0 (n - 1) (q ∙ ap JournalVerdict.Mismatch p) in
    let w = ap due_one d in (
      λ e. due_some (expected_reply_at_first_mismatch s) (omega (arith, w, y, e)),
      λ h. let o =
          some_due (expected_reply_at_first_mismatch s) h in omega (arith, w, y, o),
    )
