-- A whole run: what counting the calls reports, and the run's result where nothing is played and where all calls are.
-- Assumes nothing.
use Rattle.std.specs.Prelude.{Some, None, Option, Result, Ok, Err}
use mathlib.Core.Path.{◌≡◌, refl, sym, ap, subst, ◌∙◌}
use mathlib.Core.Bool.{true, false}
use mathlib.Core.Logic.{inl, inr}
use mathlib.Core.List.{List, []}
use Prim.Native.Nat.{ℕ, ◌*◌, ◌≤◌, ◌<◌}
use native.Mathlib.Omega.{arith}
use lib.ListN.{length}
use lib.Dec.{leb}
use borrow.Author.Tests.{leb-true, le-leb, lt-leb}
use Rattle.std.specs.Prelude.{is_err}
use Rattle.basics.proofs.Laws.{if_yes, if_no, bool_cases}
use Rattle.session_record.specs.declared.Session.{Session}
use Rattle.session_record.specs.Session.{fresh_session}
use Rattle.session_record.proofs.Phases.{fresh_keeps}
use Rattle.session.specs.Calls.{Call, play_calls, final_session}
use Rattle.session_claim.specs.Claim.{CallsAndSessionAfterInPublishedOrder}
use Rattle.session_claim.proofs.Trace.{always}
use Rattle.call_list.specs.declared.PlayError.{PlayError}
use Rattle.call_list.specs.declared.ListPlayed.{ListPlayed}
use Rattle.call_list.specs.Encoding.{parsed_calls}
use Rattle.call_list.specs.Inner.{calls_counted_in}
use Rattle.call_list.specs.Playing.{reply_size, reply_bytes_of_calls, call_bytes_after_play, calls_if_room_for_replies}
use Rattle.call_list.specs.Playing.{play_result_of, PlaysCalls, PlaysListInPublishedOrder}
use Rattle.call_list.specs.Inner.{CallsWithRoomForReplies, calls_or_empty}

-- ---- what counting reports

pub counted_some : (x : Option (List Call)) (n : ℕ) → calls_counted_in x ≡ Some n
    → (x ≡ Some (calls_or_empty x)) × (length (calls_or_empty x) ≡ n)
counted_some None n e = let z : ◌≡◌ {A = ℕ} 0 1 = cc in absurd (omega arith)
counted_some (Some cs) n e = (refl, cc)

-- ---- whether the calls are played

pub says_short : (x : Option (List Call)) (r : List ℕ) (n : ℕ) → calls_counted_in x ≡ Some n → length r < reply_size * n
    → play_result_of x r ≡ Err PlayError.TooShort
says_short x r n e h =
    let k = counted_some x n e in
    ap (λ (y : Option (List Call)). play_result_of y r) k.0 ∙ if_no _ _ (lt-leb _ _ (omega (arith, k.1)))

pub says_played : (x : Option (List Call)) (r : List ℕ) (n : ℕ) → calls_counted_in x ≡ Some n → reply_size * n ≤ length r
    → play_result_of x r ≡ Ok tt
says_played x r n e h =
    let k = counted_some x n e in
    ap (λ (y : Option (List Call)). play_result_of y r) k.0 ∙ if_yes _ _ (le-leb _ _ (omega (arith, k.1)))

not_played : (x : Option (List Call)) (r : List ℕ) (e : PlayError) → play_result_of x r ≡ Err e
    → calls_if_room_for_replies x r ≡ []
not_played None r e p = refl
not_played (Some cs) r e p = elim (bool_cases (leb (reply_size * length cs) (length r))) [
  | inl w ↦ (let q : Ok tt ≡ Err e = sym (if_yes _ _ w) ∙ p in let z : ◌≡◌ {A = ℕ} 0 1 = cc in absurd (omega arith))
  | inr w ↦ if_no _ _ w
]

-- all calls are played, and there is room for their replies
pub ready : (x : Option (List Call)) (r : List ℕ) (w : Result Unit PlayError) → false ≡ is_err w → w ≡ play_result_of x r
    → CallsWithRoomForReplies x r × (calls_if_room_for_replies x r ≡ calls_or_empty x)
ready x r (Err f) g p = let z : ◌≡◌ {A = ℕ} 0 1 = cc in absurd (omega arith)
ready None r (Ok tt) g p = let z : ◌≡◌ {A = ℕ} 0 1 = cc in absurd (omega arith)
ready (Some cs) r (Ok tt) g p = elim (bool_cases (leb (reply_size * length cs) (length r))) [
  | inl w ↦ (leb-true _ _ w, if_yes _ _ w)
  | inr w ↦ (let q : Err PlayError.TooShort ≡ Ok tt = sym (if_no _ _ w) ∙ sym p in let z : ◌≡◌ {A = ℕ} 0 1 = cc in
      absurd (omega arith))
]

pub ready_read : (x : Option (List Call)) (r : List ℕ) → CallsWithRoomForReplies x r
    → (x ≡ Some (calls_or_empty x)) × (reply_size * length (calls_or_empty x) ≤ length r)
ready_read None r h = absurd h
ready_read (Some cs) r h = (refl, h)

-- ---- the result

module _ (c r : List ℕ) where
  claimed : (s : Session) (cs : List Call) → s ≡ final_session fresh_session cs
      → CallsAndSessionAfterInPublishedOrder (play_calls fresh_session cs) s
  claimed s cs e = subst (CallsAndSessionAfterInPublishedOrder (play_calls fresh_session cs)) (sym e)
      (always fresh_session cs refl fresh_keeps)

  pub runs_not : (x : ListPlayed) (w : Result Unit PlayError) → true ≡ is_err w
      → x ≡ record { session = fresh_session; said = w } → w ≡ play_result_of (parsed_calls c) r
      → PlaysListInPublishedOrder x c r c r (calls_if_room_for_replies (parsed_calls c) r)
  unfolding play_calls final_session call_bytes_after_play reply_bytes_of_calls
  runs_not x (Ok tt) g e q = let z : ◌≡◌ {A = ℕ} 0 1 = cc in absurd (omega arith)
  runs_not x (Err f) g e q =
      subst (PlaysListInPublishedOrder x c r c r) (sym (not_played (parsed_calls c) r f (sym q)))
      (record {
        said = ap (λ (y : ListPlayed). y.said) e ∙ q;
        played = record { session = ap (λ (y : ListPlayed). y.session) e; calls_after_lem = refl; replies_after_lem = refl };
        claim = claimed x.session [] (ap (λ (y : ListPlayed). y.session) e);
      })

  pub runs_played : (s : Session) (w : Result Unit PlayError) (c' r' : List ℕ) → false ≡ is_err w
      → w ≡ play_result_of (parsed_calls c) r
      → PlaysCalls s c' r' c r (calls_or_empty (parsed_calls c))
      → PlaysListInPublishedOrder (record { session = s; said = w }) c' r' c r
      (calls_if_room_for_replies (parsed_calls c) r)
  runs_played s w c' r' g q p =
      subst (PlaysListInPublishedOrder (record { session = s; said = w }) c' r' c r)
      (sym (ready (parsed_calls c) r w g q).1)
      (record { said = q; played = p; claim = claimed s _ p.session })
