-- The verdict says what it should, and nothing else has that verdict. All bytes part into conforming records and what
-- follows them (`split`); conforming records are those that calls write (`Written`, `ExactCalls`).
-- Assumes nothing.
use Rattle.std.specs.Prelude.{Option, Some, None}
use mathlib.Core.Path.{◌≡◌, refl, sym, ap, subst, ◌∙◌}
use mathlib.Core.Logic.{◌↔◌, inl, inr}
use mathlib.Core.List.{List, [], ◌∷◌, ◌++◌, append-nil, append_assoc}
use Prim.Native.Nat.{ℕ, zero, suc, ◌+◌, ◌≤◌, ◌<◌}
use native.Mathlib.Omega.{arith}
use lib.Dec.{eqb, ltb}
use lib.ListN.{length, get_or, take, drop, length-drop, take-append-drop}
use lib.Seq.{length-take-le, get_or-take}
use borrow.Author.Tests.{eqb-true, eqb-false, ltb-true, ltb-false}
use Rattle.basics.proofs.Laws.{if_ind}
use Rattle.basics.proofs.Order.{equal_or_not}
use Rattle.session_record.specs.Session.{fresh_session}
use Rattle.journal.specs.declared.JournalVerdict.{JournalVerdict}
use Rattle.journal.specs.Record.{journal_record_size, journal_of_records}
use Rattle.journal.specs.Verdict.{ExpectedNext, expected_at_start, judge_record, verdict_from, journal_verdict_of}
use Rattle.journal.specs.Verdict.{first_record_size}
use Rattle.journal.specs.ConformingRecords.{AllEntriesBelow256, AreConformingRecords}
use Rattle.journal.specs.ConformingRecords.{ByteCallsWriteJournalBeginningWith, NextRecordNotConforming}
use Rattle.journal.specs.ConformingRecords.{VerdictMatchesRest, VerdictHoldsOn}
use Rattle.journal.proofs.Walk.{verdict_continues, unroll, ends, unknown, cut, whole}
use Rattle.journal.proofs.Byte.{size_none}
use Rattle.journal.proofs.Written.{Walks, Walked, verdict_behind, all_walked}
use Rattle.journal.proofs.ExactCall.{same_some, nothing, bytes_front}
use Rattle.journal.proofs.ExactCalls.{writes}

-- ---- one more record after

joined_snoc : (rs : List (List ℕ)) (r : List ℕ) → journal_of_records (rs ++ (r ∷ [])) ≡ journal_of_records rs ++ r
unfolding journal_of_records
joined_snoc [] r = append-nil r
joined_snoc (x ∷ rs) r = ap (λ (l : List ℕ). x ++ l) (joined_snoc rs r) ∙ sym (append_assoc x (journal_of_records rs) r)

walks_snoc : {e u t : ExpectedNext} {rs : List (List ℕ)} (r : List ℕ) → Walks e rs u → 0 < length r
    → length r ≡ journal_record_size (get_or r 0 0) → judge_record u r ≡ Some t
    → Walks e (rs ++ (r ∷ [])) t
walks_snoc r Walks.done h z j = Walks.next h z j Walks.done
walks_snoc r (Walks.next h' z' j' w) h z j = Walks.next h' z' j' (walks_snoc r w h z j)

-- no record is empty
last_some : {e t : ExpectedNext} (rs : List (List ℕ)) (r : List ℕ) → Walks e (rs ++ (r ∷ [])) t → 0 < length r
last_some [] r (Walks.next h z j w) = h
last_some (x ∷ rs) r (Walks.next h z j w) = last_some rs r w

-- what is expected after records is one thing
last_judged : {e u : ExpectedNext} {rs : List (List ℕ)} (r : List ℕ) (t : ExpectedNext) → Walks e rs u
    → Walks e (rs ++ (r ∷ [])) t → judge_record u r ≡ Some t
last_judged r t Walks.done (Walks.next h z j Walks.done) = j
last_judged r t (Walks.next {t = m} {rs = rs} h z j w) (Walks.next {t = m'} h' z' j' v) =
    last_judged r t w (subst (λ (x : ExpectedNext). Walks x (rs ++ (r ∷ [])) t) (same_some (sym j' ∙ j)) v)

-- ---- all bytes: conforming records, and what follows them

-- where the records stop, and with which verdict
data Stops (u : ExpectedNext) (n : ℕ) : List ℕ → JournalVerdict → Type 0 where
  ended : Stops u n [] (JournalVerdict.Accepted n)
  strange : {rest : List ℕ} → 0 < length rest → first_record_size rest ≡ 0
      → Stops u n rest (JournalVerdict.Mismatch (n + 1))
  short : {rest : List ℕ} → length rest < first_record_size rest → Stops u n rest (JournalVerdict.Truncated (n + 1))
  mismatch : {rest : List ℕ} → 0 < first_record_size rest → first_record_size rest ≤ length rest
      → judge_record u (take (first_record_size rest) rest) ≡ None
      → Stops u n rest (JournalVerdict.Mismatch (n + 1))

record Split (e : ExpectedNext) (n : ℕ) (s : List ℕ) (v : JournalVerdict) : Type 0 where
  records : List (List ℕ)
  last : ExpectedNext
  rest : List ℕ
  walks : Walks e records last
  bytes : journal_of_records records ++ rest ≡ s
  stops : Stops last (n + length records) rest v

stops_at : (e : ExpectedNext) (n : ℕ) (s : List ℕ) (v : JournalVerdict) → Stops e n s v → Split e n s v
unfolding journal_of_records
stops_at e n s v x =
    let g : n ≡ n + 0 = omega arith in
    record {
      records = [];
      last = e;
      rest = s;
      walks = Walks.done;
      bytes = refl;
      stops =
          subst (λ (m : ℕ). Stops e m s v) g x;
    }

goes_on : (e t : ExpectedNext) (n : ℕ) (r more : List ℕ) (v : JournalVerdict) → 0 < length r
    → length r ≡ journal_record_size (get_or r 0 0) → judge_record e r ≡ Some t
    → Split t (n + 1) more v → Split e n (r ++ more) v
unfolding journal_of_records
goes_on e t n r more v h z j x =
    let g : n + 1 + length x.records ≡ n + suc (length x.records) = omega arith in
    record {
      records = r ∷ x.records;
      last = x.last;
      rest = x.rest;
      walks = Walks.next h z j x.walks;
      bytes = append_assoc r (journal_of_records x.records) x.rest ∙ ap (λ (l : List ℕ). r ++ l) x.bytes;
      stops = subst (λ (m : ℕ). Stops x.last m x.rest v) g x.stops;
    }

-- a whole record, by what is expected after it
by_judged : (e : ExpectedNext) (n b : ℕ) (s : List ℕ) → 0 < journal_record_size b → journal_record_size b ≤ length (b ∷ s)
    → ((t : ExpectedNext) → Split t (n + 1) (drop (journal_record_size b) (b ∷ s))
    (verdict_from t (n + 1) (drop (journal_record_size b) (b ∷ s))))
    → (o : Option ExpectedNext) → judge_record e (take (journal_record_size b) (b ∷ s)) ≡ o
    → Split e n (b ∷ s) (verdict_continues (λ t. verdict_from t (n + 1) (drop (journal_record_size b) (b ∷ s))) (n + 1) o)
by_judged e n b s h k ih None j = stops_at e n (b ∷ s) _ (Stops.mismatch h k j)
by_judged e n b s h k ih (Some t) j =
    let l : length (take (journal_record_size b) (b ∷ s)) ≡ journal_record_size b = length-take-le (journal_record_size b)
    (b ∷ s) k in
    let f : get_or (take (journal_record_size b) (b ∷ s)) 0 0 ≡ b = get_or-take (journal_record_size b) (b ∷ s) 0 0 h in
    subst (λ (x : List ℕ). Split e n x (verdict_from t (n + 1) (drop (journal_record_size b) (b ∷ s))))
    (take-append-drop (journal_record_size b) (b ∷ s))
    (goes_on e t n (take (journal_record_size b) (b ∷ s)) (drop (journal_record_size b) (b ∷ s)) _ (omega arith)
    (l ∙ ap journal_record_size (sym f)) j (ih t))

split : (k : ℕ) (e : ExpectedNext) (n : ℕ) (s : List ℕ) → length s < k → Split e n s (verdict_from e n s)
split zero e n s h = absurd (omega arith)
split (suc k) e n [] h = subst (Split e n []) (sym (ends e n)) (stops_at e n [] _ Stops.ended)
split (suc k) e n (b ∷ s) h =
    subst (Split e n (b ∷ s)) (sym (unroll e n (b ∷ s)))
    (if_ind (Split e n (b ∷ s)) (eqb (journal_record_size b) 0) _ _
    (λ z. stops_at e n (b ∷ s) _ (Stops.strange (omega arith) (eqb-true (journal_record_size b) 0 z)))
    (λ z. if_ind (Split e n (b ∷ s)) (ltb (length (b ∷ s)) (journal_record_size b)) _ _
    (λ c. stops_at e n (b ∷ s) _ (Stops.short (ltb-true (length (b ∷ s)) (journal_record_size b) c)))
    (λ c. let p : 0 < journal_record_size b = omega (arith, eqb-false (journal_record_size b) 0 z) in
    by_judged e n b s p (ltb-false (length (b ∷ s)) (journal_record_size b) c)
    (λ t. split k t (n + 1) (drop (journal_record_size b) (b ∷ s))
    (omega (arith, length-drop (journal_record_size b) (b ∷ s))))
    (judge_record e (take (journal_record_size b) (b ∷ s))) refl)))

-- ---- conforming records

right_walked : (rs : List (List ℕ)) → AreConformingRecords rs → Walked expected_at_start rs
right_walked rs x = subst (Walked expected_at_start) x.first (all_walked fresh_session x.calls (length rs))

walks_right : {u : ExpectedNext} {rs : List (List ℕ)} → Walks expected_at_start rs u
    → AllEntriesBelow256 (journal_of_records rs) → AreConformingRecords rs
walks_right w g = (writes w fresh_session refl g).writes

-- conforming records of bytes are written by calls of bytes
pub right_bytes : (rs : List (List ℕ)) → AreConformingRecords rs → AllEntriesBelow256 (journal_of_records rs)
    → ByteCallsWriteJournalBeginningWith fresh_session rs
right_bytes rs x g = writes (right_walked rs x).walks fresh_session refl g

-- ---- the verdict says so

-- bytes of an unknown kind continue no records: no record is empty
empty_wrong : (rs : List (List ℕ)) (rest : List ℕ) → first_record_size rest ≡ 0
    → AreConformingRecords (rs ++ (take (first_record_size rest) rest ∷ [])) → ⊥
empty_wrong rs rest k x =
    let z : length (take (first_record_size rest) rest) ≡ 0 = ap (λ (m : ℕ). length (take m rest)) k in
    let h = last_some rs (take (first_record_size rest) rest)
    (right_walked (rs ++ (take (first_record_size rest) rest ∷ [])) x).walks in
    absurd (omega arith)

behind : {u : ExpectedNext} (n : ℕ) {v : JournalVerdict} {rest : List ℕ} (rs : List (List ℕ)) → n ≡ 0 + length rs
    → Walks expected_at_start rs u → Stops u n rest v
    → VerdictMatchesRest rs rest v
behind n rs c w Stops.ended = (omega arith, refl)
behind n {rest = rest} rs c w (Stops.strange h k) =
    (omega arith, record { some = h; whole = omega arith; wrong = empty_wrong rs rest k })
behind n rs c w (Stops.short h) = (omega arith, h)
behind n {rest = rest} rs c w (Stops.mismatch h k j) = (
  omega arith,
  record {
    some = omega arith;
    whole = k;
    wrong = λ x. let y = right_walked (rs ++ (take (first_record_size rest) rest ∷ [])) x in
        nothing (sym j ∙ last_judged (take (first_record_size rest) rest) y.last w y.walks);
  },
)

module _ (s : List ℕ) (g : AllEntriesBelow256 s) where
  stopped : {u : ExpectedNext} {v : JournalVerdict} {rest : List ℕ} (n : ℕ) (rs : List (List ℕ)) → n ≡ 0 + length rs
      → Walks expected_at_start rs u → journal_of_records rs ++ rest ≡ s
      → Stops u n rest v → VerdictHoldsOn s v
  stopped {rest = rest} n rs c w e x =
      record {
        front = rs;
        rest = rest;
        splits = e;
        conforming = walks_right w (bytes_front (journal_of_records rs) rest (subst AllEntriesBelow256 (sym e) g));
        behind = behind n rs c w x;
      }

  says : (v : JournalVerdict) → journal_verdict_of s ≡ v → VerdictHoldsOn s v
  unfolding journal_verdict_of
  says v q =
      let x = subst (Split expected_at_start 0 s) q (split (suc (length s)) expected_at_start 0 s (omega arith)) in
      stopped (0 + length x.records) x.records refl x.walks x.bytes x.stops

-- ---- and of nothing else

-- the verdict after conforming records
after : (s : List ℕ) (rs : List (List ℕ)) (rest : List ℕ) (w : Walked expected_at_start rs)
    → journal_of_records rs ++ rest ≡ s
    → journal_verdict_of s ≡ verdict_from w.last (0 + length rs) rest
unfolding journal_verdict_of
after s rs rest w e = ap (verdict_from expected_at_start 0) (sym e) ∙ verdict_behind 0 rest w.walks

by_number : (f : ℕ → JournalVerdict) (n m : ℕ) → n + 1 ≡ m → f (0 + n + 1) ≡ f m
by_number f n m c = let e : 0 + n + 1 ≡ m = omega arith in ap f e

-- a whole record that no conforming kernel writes there is judged to be none
wrong_judged : (rs : List (List ℕ)) (u : ExpectedNext) (r : List ℕ) → Walks expected_at_start rs u → 0 < length r
    → length r ≡ journal_record_size (get_or r 0 0) → AllEntriesBelow256 (journal_of_records rs ++ r)
    → (AreConformingRecords (rs ++ (r ∷ [])) → ⊥) → judge_record u r ≡ None
wrong_judged rs u r w h z g f = go (judge_record u r) refl
  where
    go : (o : Option ExpectedNext) → judge_record u r ≡ o → o ≡ None
    go None j = refl
    go (Some t) j =
        absurd (f (walks_right (walks_snoc r w h z j) (subst AllEntriesBelow256 (sym (joined_snoc rs r)) g)))

wrong_mismatch : (rs : List (List ℕ)) (rest : List ℕ) (u : ExpectedNext) (n : ℕ) → Walks expected_at_start rs u
    → 0 < first_record_size rest → NextRecordNotConforming rs rest → AllEntriesBelow256 (journal_of_records rs ++ rest)
    → verdict_from u n rest ≡ JournalVerdict.Mismatch (n + 1)
wrong_mismatch rs rest u n w p x g =
    let r = take (first_record_size rest) rest in
    let more = drop (first_record_size rest) rest in
    let a : r ++ more ≡ rest = take-append-drop (first_record_size rest) rest in
    let l : length r ≡ first_record_size rest = length-take-le (first_record_size rest) rest x.whole in
    let k : get_or r 0 0 ≡ get_or rest 0 0 = get_or-take (first_record_size rest) rest 0 0 p in
    let z : length r ≡ journal_record_size (get_or r 0 0) = l ∙ ap journal_record_size (sym k) in
    let h : 0 < length r = omega (arith, p) in
    let b : AllEntriesBelow256 ((journal_of_records rs ++ r) ++ more) =
    subst AllEntriesBelow256 (ap (λ (v : List ℕ). journal_of_records rs ++ v) (sym a) ∙ sym
    (append_assoc (journal_of_records rs) r more)) g in
    ap (verdict_from u n) (sym a) ∙ whole u n r more h z
    ∙ ap (verdict_continues (λ t. verdict_from t (n + 1) more) (n + 1))
    (wrong_judged rs u r w h z (bytes_front (journal_of_records rs ++ r) more b) x.wrong)

-- a piece of a record has a byte, which says its kind
some_piece : (rest : List ℕ) → length rest < first_record_size rest → 0 < length rest
some_piece [] h = absurd (omega (arith, size_none))
some_piece (b ∷ rest) h = omega arith

module _ (s : List ℕ) (g : AllEntriesBelow256 s) where
  mismatch_said : (rs : List (List ℕ)) (rest : List ℕ) (w : Walked expected_at_start rs) → journal_of_records rs ++ rest ≡ s
      → NextRecordNotConforming rs rest
      → verdict_from w.last (0 + length rs) rest ≡ JournalVerdict.Mismatch (0 + length rs + 1)
  mismatch_said rs rest w e x = elim (equal_or_not (first_record_size rest) 0) [
    | inl z ↦
        ap (verdict_from w.last (0 + length rs)) (sym (append-nil rest)) ∙ unknown w.last (0 + length rs) rest []
        x.some z
    | inr z ↦ wrong_mismatch rs rest w.last (0 + length rs) w.walks (omega arith) x
        (subst AllEntriesBelow256 (sym e) g)
  ]

  said : (v : JournalVerdict) → VerdictHoldsOn s v → journal_verdict_of s ≡ v
  said (JournalVerdict.Accepted m) x =
      let w = right_walked x.front x.conforming in
      let e : 0 + length x.front ≡ m = omega (arith, x.behind.0) in
      after s x.front x.rest w x.splits ∙ ap (verdict_from w.last (0 + length x.front)) x.behind.1
      ∙ ends w.last (0 + length x.front) ∙ ap JournalVerdict.Accepted e
  said (JournalVerdict.Mismatch n) x =
      let w = right_walked x.front x.conforming in
      after s x.front x.rest w x.splits ∙ mismatch_said x.front x.rest w x.splits x.behind.1
      ∙ by_number JournalVerdict.Mismatch (length x.front) n x.behind.0
  said (JournalVerdict.Truncated n) x =
      let w = right_walked x.front x.conforming in
      after s x.front x.rest w x.splits
      ∙ cut w.last (0 + length x.front) x.rest (some_piece x.rest x.behind.1) x.behind.1
      ∙ by_number JournalVerdict.Truncated (length x.front) n x.behind.0

-- the verdict is v exactly where v says what holds of the bytes
pub exact : (s : List ℕ) → AllEntriesBelow256 s → (v : JournalVerdict) → (journal_verdict_of s ≡ v) ↔ VerdictHoldsOn s v
exact s g v = (says s g v, said s g v)
