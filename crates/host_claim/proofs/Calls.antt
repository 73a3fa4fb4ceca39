-- The claim over every list of a host's calls: by induction the bytes always hold the session that session's calls
-- since the last accepted opening lead to, in its ranges, at the front of the bytes that were opened. So each call is
-- session's call, and an opening is accepted.
-- Assumes nothing.
use mathlib.Core.Path.{◌≡◌, refl, sym, ap, subst, ◌∙◌}
use mathlib.Core.Bool.{Bool, true, false, not}
use mathlib.Core.Logic.{inl, inr}
use mathlib.Core.List.{List, [], ◌∷◌, map}
use Prim.Native.Nat.{ℕ, ◌≤◌}
use native.Mathlib.Omega.{arith}
use lib.Dec.{leb, eqb}
use lib.ListN.{length, drop}
use borrow.Author.Tests.{ne_eqb, le-leb, leb-true}
use Rattle.basics.specs.Choice.{both, either, every}
use Rattle.basics.specs.Reason.{refusal_record_out_of_ranges}
use Rattle.basics.proofs.Laws.{if_yes, if_no, bool_cases, both_yes, either_left, either_false}
use Rattle.session_record.specs.declared.CallResult.{CallResult}
use Rattle.session_record.specs.declared.Session.{Session}
use Rattle.session_record.specs.Session.{fresh_session}
use Rattle.session_record.specs.Ranges.{session_record_in_ranges}
use Rattle.session_record.proofs.Phases.{fresh_keeps}
use Rattle.layout.specs.Layout.{session_record_size, session_written_over_front_if_room, decoded_session}
use Rattle.layout.specs.Word.{result_word_kind, refusal_word, result_word}
use Rattle.layout.proofs.Laws.{command_below, outcome_kind}
use Rattle.session.specs.Calls.{Call, call_step, call_made, play_calls, final_session}
use Rattle.session_claim.proofs.Trace.{call_keeps}
use Rattle.basics.proofs.Laws.{no}
use Rattle.step_laws.proofs.Refusals.{Other, never_ranges}
use Rattle.host.specs.Hosted.{HostResult, HostOpened, host_open_word}
use Rattle.host.proofs.Sizes.{Small}
use Rattle.host_claim.specs.Calls.{HostCall, opening, on_session, HostCallMade, play_host_calls, final_session_bytes}
use Rattle.host_claim.specs.Words.{host_call_not_refused_with25, is_accepted_opening, has_accepted_opening}
use Rattle.host_claim.specs.Words.{calls_since_last_accepted_opening, host_commands_handed_out, host_calls_not_refused}
use Rattle.host_claim.specs.Words.{host_unanswered_commands, first_answer_call, host_afl_accepted_from_gpo_answer}
use Rattle.host_claim.specs.Words.{host_final_command_kind_by_gpo_answer}
use Rattle.host_claim.specs.Claim.{HostCallsAndBytesAfterInPublishedOrder, session_calls_among, host_view_of_call}
use Rattle.host_claim.specs.Claim.{HostCallsSameAsSessionCalls, HostCallsInOrderAndAsSessionCalls}
use Rattle.host_claim.proofs.Bytes.{record_held, record_behind, record_enough, record_over, as_session}
use Rattle.host_claim.proofs.Read.{completed_call, step_small}
use Rattle.host_claim.proofs.Proper.{session_proper, words_proper, commands_same, taken_same, unanswered_same}
use Rattle.host_claim.proofs.Proper.{afl_same, last_kind_same}

-- ---- the calls since the last accepted opening

-- they begin with the session that was present, or with a fresh one
abbrev origin : Bool → Session → Session
origin true s = fresh_session
origin false s = s

origin_fresh : (b : Bool) → origin b fresh_session ≡ fresh_session
origin_fresh true = refl
origin_fresh false = refl

-- no opening among calls: none at the front, and none after
none_front : (a b : Bool) → either a b ≡ false → a ≡ false
unfolding either
none_front true b e = no (sym e)
none_front false b e = refl

none_behind : (a b : Bool) → either a b ≡ false → b ≡ false
unfolding either
none_behind true b e = no (sym e)
none_behind false b e = e

none_since : (ms : List HostCallMade) → has_accepted_opening ms ≡ false → calls_since_last_accepted_opening ms ≡ ms
unfolding calls_since_last_accepted_opening has_accepted_opening
none_since [] e = refl
none_since (m ∷ ms) e =
    if_no _ _ (none_behind (is_accepted_opening m) (has_accepted_opening ms) e)
    ∙ if_no _ _ (none_front (is_accepted_opening m) (has_accepted_opening ms) e)

-- after an accepted opening
anew_since : (m : HostCallMade) (ms : List HostCallMade) → is_accepted_opening m ≡ true
    → calls_since_last_accepted_opening (m ∷ ms) ≡ calls_since_last_accepted_opening ms
unfolding calls_since_last_accepted_opening
anew_since m ms a = elim (bool_cases (has_accepted_opening ms)) [
  | inl e ↦ if_yes _ _ e
  | inr e ↦ if_no _ _ e ∙ if_yes _ _ a ∙ sym (none_since ms e)
]

-- ---- from a session s on: the calls x are session's, and the bytes l after them hold its session

record Since (before : List ℕ) (s : Session) (x : List HostCallMade) (l : List ℕ) : Type 0 where
  words : x ≡ map host_view_of_call (play_calls s (session_calls_among x))
  after : l ≡ session_written_over_front_if_room (final_session s (session_calls_among x)) before

moved : {b : List ℕ} {s t : Session} {x y : List HostCallMade} {l : List ℕ} → s ≡ t → x ≡ y
    → Since b s x l → Since b t y l
moved {b} {s} {t} {x} {y} {l} p q h =
    subst (λ (z : List HostCallMade). Since b t z l) q (subst (λ (z : Session). Since b z x l) p h)

-- a session's call as the host sees it, and one more at the front
abbrev called : Session → Call → HostCallMade
called s c = host_view_of_call (call_made s c (call_step s c))

longer : {b : List ℕ} (s : Session) (c : Call) {x : List HostCallMade} {l : List ℕ}
    → Since b (call_step s c).reply.session x l → Since b s (called s c ∷ x) l
unfolding play_calls final_session session_calls_among
longer s c h = record { words = ap (λ (y : List HostCallMade). called s c ∷ y) h.words; after = h.after }

-- all calls of a list from s on, and none of them refused with 25
record Through (before : List ℕ) (s : Session) (ms : List HostCallMade) (l : List ℕ) : Type 0 where
  since : Since before (origin (has_accepted_opening ms) s) (calls_since_last_accepted_opening ms) l
  not_25 : every host_call_not_refused_with25 ms ≡ true

-- an accepted opening at the front: the rest is from a fresh session on
after_opening : {b : List ℕ} (s : Session) {ms : List HostCallMade} {l : List ℕ}
    → Through b fresh_session ms l → Through b s (completed_call opening 0 [] ∷ ms) l
unfolding has_accepted_opening both every
after_opening s {ms} t =
    record {
      since = moved
          (origin_fresh (has_accepted_opening ms)
          ∙ sym (ap (λ (x : Bool). origin x s) (either_left true (has_accepted_opening ms) refl)))
          (sym (anew_since (completed_call opening 0 []) ms refl)) t.since;
      not_25 = t.not_25;
    }

-- a call of the session at the front
among : (s : Session) (c : Call) (ms : List HostCallMade) → has_accepted_opening (called s c ∷ ms) ≡ has_accepted_opening ms
unfolding has_accepted_opening both
among s c ms = either_false (has_accepted_opening ms) refl

call_since : {b : List ℕ} (s : Session) (c : Call) {ms : List HostCallMade} {l : List ℕ}
    → Through b (call_step s c).reply.session ms l
    → Since b (origin (has_accepted_opening (called s c ∷ ms)) s) (calls_since_last_accepted_opening (called s c ∷ ms)) l
unfolding calls_since_last_accepted_opening both
call_since s c {ms} t = elim (bool_cases (has_accepted_opening ms)) [
  | inl e ↦
      moved
      (ap (λ (x : Bool). origin x (call_step s c).reply.session) e
      ∙ sym (ap (λ (x : Bool). origin x s) (among s c ms ∙ e)))
      (sym (if_yes _ _ e)) t.since
  | inr e ↦
      moved (sym (ap (λ (x : Bool). origin x s) (among s c ms ∙ e))) (sym (if_no _ _ e ∙ if_no _ _ refl))
      (longer s c (moved (ap (λ (x : Bool). origin x (call_step s c).reply.session) e) (none_since ms e) t.since))
]

after_call : {b : List ℕ} (s : Session) (c : Call) {ms : List HostCallMade} {l : List ℕ}
    → host_call_not_refused_with25 (called s c) ≡ true → Through b (call_step s c).reply.session ms l
    → Through b s (called s c ∷ ms) l
unfolding every
after_call s c n t = record { since = call_since s c t; not_25 = both_yes _ _ n t.not_25 }

-- ---- no word of a session in its ranges is that of refusal 25

other_word : (a : CallResult) → Small a → Other a → not (eqb (result_word a) (refusal_word refusal_record_out_of_ranges))
    ≡ true
other_word a h o = ap not (ne_eqb (result_word a) (refusal_word refusal_record_out_of_ranges) (apart a h o))
  where
    apart : (a : CallResult) → Small a → Other a → result_word a ≡ refusal_word refusal_record_out_of_ranges → ⊥
    apart (CallResult.Command c) h o e = omega (arith, command_below c.size)
    apart (CallResult.Outcome x) h o e = let k = outcome_kind x (omega arith) in let m = ap result_word_kind e in
        omega arith
    apart (CallResult.Refused r) h o e = o (omega arith)

-- ---- every list of calls

final_keeps : (s : Session) (cs : List Call) → session_record_in_ranges s ≡ true
    → session_record_in_ranges (final_session s cs) ≡ true
unfolding final_session
final_keeps s [] i = i
final_keeps s (c ∷ cs) i = final_keeps (call_step s c).reply.session cs (call_keeps s c i)

module _ (before : List ℕ) (enough : session_record_size ≤ length before) where
  -- a call that does h, and the calls of a list after it
  abbrev AllOf : Session → HostCall → List HostCall → HostResult → Type 0
  AllOf s c cs h =
      Through before s (completed_call c h.word h.buffer ∷ play_host_calls h.session cs)
      (final_session_bytes h.session cs)

  through : (cs : List HostCall) (s : Session) → session_record_in_ranges s ≡ true
      → Through before s (play_host_calls (session_written_over_front_if_room s before) cs)
      (final_session_bytes (session_written_over_front_if_room s before) cs)
  unfolding play_host_calls final_session_bytes has_accepted_opening calls_since_last_accepted_opening play_calls final_session
      session_calls_among every
  through [] s i = record { since = record { words = refl; after = refl }; not_25 = refl }
  through (opening ∷ cs) s i =
      let w : host_open_word (session_written_over_front_if_room s before) ≡ 0 =
      if_yes _ _ (le-leb session_record_size _ (record_enough s i before enough)) in
      let o = record_over s i before enough fresh_session in
      subst (AllOf s opening cs) (λ j. record { word = sym w j; session = sym o j; buffer = [] })
      (after_opening s (through cs fresh_session fresh_keeps))
  through (on_session c ∷ cs) s i =
      let t = (call_step s c).reply.session in
      let o = record_over s i before enough t in
      let n = other_word (call_step s c).reply.answer (step_small s c) (never_ranges s c i) in
      subst (AllOf s (on_session c) cs)
      ((λ j. record { word = (called s c).word; session = sym o j; buffer = (called s c).buffer })
      ∙ sym (as_session (session_written_over_front_if_room s before) s c (record_held s i before enough)))
      (after_call s c n (through cs t (call_keeps s c i)))

  -- the calls since the last accepted opening, as session's
  module _ {x : List HostCallMade} {l : List ℕ} (h : Since before fresh_session x l) where
    abbrev cs : List Call
    cs = session_calls_among x

    ranges : session_record_in_ranges (final_session fresh_session cs) ≡ true
    ranges = final_keeps fresh_session cs fresh_keeps

    same_session : HostCallsSameAsSessionCalls before x l
    same_session =
        record {
          words = h.words;
          record_after = h.after;
          behind = ap (drop session_record_size) h.after ∙ record_behind (final_session fresh_session cs) ranges before
              enough;
          proper = session_proper cs;
          same_commands = ap host_commands_handed_out h.words ∙ commands_same cs;
          same_taken = ap host_calls_not_refused h.words ∙ taken_same cs;
          same_unanswered = ap host_unanswered_commands h.words ∙ unanswered_same cs;
          same_afl =
              ap (λ (xs : List HostCallMade). host_afl_accepted_from_gpo_answer (first_answer_call (host_calls_not_refused xs)))
              h.words ∙ afl_same cs;
          same_last_kind =
              ap (λ (xs : List HostCallMade). host_final_command_kind_by_gpo_answer
              (first_answer_call (host_calls_not_refused xs)))
              h.words ∙ last_kind_same cs;
        }

    since_proper : HostCallsAndBytesAfterInPublishedOrder x l
    since_proper =
        subst (λ (y : List HostCallMade). HostCallsAndBytesAfterInPublishedOrder y l) (sym h.words)
        (words_proper cs l (ap decoded_session h.after ∙ record_held (final_session fresh_session cs) ranges before
        enough))

-- an opening that gives 0 was accepted: the bytes are enough
accepted_enough : (l : List ℕ) → host_open_word l ≡ 0 → session_record_size ≤ length l
accepted_enough l e = elim (bool_cases (leb session_record_size (length l))) [
  | inl t ↦ leb-true session_record_size (length l) t
  | inr t ↦ let q : refusal_word refusal_record_out_of_ranges ≡ 0 = sym (if_no _ _ t) ∙ e in absurd (omega arith)
]

pub always : (before l : List ℕ) (cs : List HostCall) → HostOpened 0 before l
    → HostCallsInOrderAndAsSessionCalls before (play_host_calls l cs) (final_session_bytes l cs)
always before l cs e =
    let n = accepted_enough before (sym e.word) in
    let t = subst
    (λ (y : List ℕ). Through before fresh_session (play_host_calls y cs) (final_session_bytes y cs))
    (sym e.session) (through before n cs fresh_session fresh_keeps) in
    let h = moved (origin_fresh (has_accepted_opening (play_host_calls l cs))) refl t.since in
    record { demand_3 = since_proper before n h; as_session = same_session before n h; never_25 = t.not_25 }
