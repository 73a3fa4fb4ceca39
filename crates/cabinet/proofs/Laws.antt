-- How a call on a state comes about: the first tests as the code makes them, with the session's ranges left to the
-- kernel's step; the state around the store that a step left in its place; and a start on a fresh session and a
-- buffer of its own.
-- Assumes nothing.
use Rattle.std.specs.Prelude.{Some, Result, Ok, Err, Option, None}
use Rattle.std.specs.Option.{ok_or}
use mathlib.Core.Path.{◌≡◌, refl, sym, ap, subst, ◌∙◌}
use mathlib.Core.Bool.{Bool, true, false}
use mathlib.Core.List.{List, ◌++◌}
use mathlib.Core.Logic.{inl, inr}
use Prim.Native.Nat.{ℕ, ◌+◌, ◌-◌, ◌≤◌, ◌<◌}
use native.Mathlib.Omega.{arith}
use lib.Dec.{leb, ltb}
use lib.ListN.{length, take, drop, length-take, length-drop}
use lib.Seq.{take-append_seam}
use borrow.Author.Tests.{leb-true, le-leb, lt-leb, lt-ltb, le-ltb, ltb-false, eq-eqb, ne_eqb}
use borrow.Rule.Slice.PartMut.{put_mid, put_same}
use Rattle.basics.specs.Choice.{if, both}
use Rattle.basics.specs.Reason.{refusal_buffer_too_small, refusal_record_out_of_ranges, refusal_wrong_phase}
use Rattle.basics.proofs.Laws.{if_yes, if_no, bool_cases, both_yes, both_no_left, both_no_right, both_right}
use Rattle.dictionary.specs.Rows.{store_size}
use Rattle.session_record.specs.declared.CallResult.{CallResult}
use Rattle.session_record.specs.declared.CommandLength.{CommandLength}
use Rattle.session_record.specs.declared.Phase.{Phase}
use Rattle.session_record.specs.declared.Refusal.{Refusal}
use Rattle.session_record.specs.declared.Reply.{Reply}
use Rattle.session_record.specs.declared.Session.{Session}
use Rattle.session_record.specs.declared.Transition.{Transition}
use Rattle.session_record.specs.Session.{store_bytes, session_of, fresh_session, reply_of}
use Rattle.session_record.specs.Ranges.{session_record_in_ranges}
use Rattle.session_record.proofs.Phases.{store_size_lem, fresh_keeps, is_fresh}
use Rattle.session.specs.Steps as steps
use Rattle.session.specs.Steps.{NextAction, ask, end, CallEffect, refuse, follow, Step, step_of_next, step_of_effect}
use Rattle.session.specs.Steps.{least_buffer}
use Rattle.session.specs.Start.{start_effect, start_step}
use Rattle.session.proofs.Laws.{admitted_in}
use Rattle.layout.specs.Layout.{record_head_size, session_record_size, decoded_session}
use Rattle.layout.specs.Layout.{record_head_written_over_front_if_room}
use Rattle.layout.specs.Word.{refusal_word, result_word}
use Rattle.layout.proofs.Lists.{put_head}
use Rattle.layout.proofs.Laws.{held_store}
use Rattle.session.specs.Calls.{is_refusal}
use Rattle.session_record.specs.Session.{is_running, is_ended}
use Rattle.step_laws.proofs.EveryCall.{start_came, command_sent_lem, buffer_length}
use Rattle.step_laws.proofs.Ranges.{start_keeps}
use Rattle.cabinet.specs.declared.Amounts.{Amounts}
use Rattle.cabinet.specs.declared.CabinetWithoutStore.{CabinetWithoutStore}
use Rattle.cabinet.specs.State.{Cabinet, cabinet, greatest_twelve_digit_amount, cabinet_state_size}
use Rattle.cabinet.specs.State.{cabinet_written_over_front, remaining_in_cabinet_state, reserved_in_cabinet_state}
use Rattle.cabinet.specs.State.{stored_amount_authorized, running_session_amount_or_zero}
use Rattle.cabinet.specs.State.{reserved_matches_session_and_sum_in_range, decoded_cabinet_of_session}
use Rattle.cabinet.specs.State.{decoded_cabinet_if_valid}
use Rattle.cabinet.specs.Calls.{CabinetResult, ReturnsCabinetResult, refused_amount_over_remaining, cabinet_refusal}
use Rattle.cabinet.specs.Calls.{apply_to_cabinet_or_refuse, admit_cabinet_call, cabinet_result_with_amounts_settled}
use Rattle.cabinet.specs.Calls.{kernel_step_on_cabinet, session_for_new_start, cabinet_start_if_amount_remains}
use Rattle.cabinet.specs.Calls.{amount_of_start_step, cabinet_start_by_result, start_on_cabinet}
use Rattle.cabinet.specs.Inner.{cabinet_without_store, cabinet_admission_by_amounts_alone}
use Rattle.cabinet.specs.Inner.{cabinet_admission_for_session, admission_by_state_bytes, admission_by_state_and_buffer_size}
use Rattle.cabinet.specs.Inner.{cabinet_with_store_in, cabinet_call_if_session_in_ranges, cabinet_start_on_fresh}
use Rattle.cabinet.specs.Inner.{RefusesAsKernel, command_size_or_zero, command_copied_to_buffer, state_with_amounts, amounts_after_result}
use Rattle.cabinet.specs.Inner.{state_after_result, state_after_transition}
use Rattle.cabinet.proofs.State.{amounts_behind}

-- ---- what a state reports

-- the store of a state, as many bytes as it has
abbrev pub store_in : List ℕ → List ℕ
store_in l = take store_size (drop record_head_size l)

pub store_long : (l : List ℕ) → session_record_size ≤ length l → length (store_in l) ≡ store_size
store_long l h = simp (length-take, length-drop) (omega arith)

-- what is said of bytes that are too few, that hold no record, and of those that hold one, by the two tests
-- of the amounts
module _ (l : List ℕ) where
  pub holding_short : length l < cabinet_state_size → admission_by_state_bytes l ≡ None
  unfolding admission_by_state_bytes
  holding_short h = if_no _ _ (lt-leb _ _ h)

  module _ (h : cabinet_state_size ≤ length l) where
    pub holding_none_lem : decoded_session l ≡ None → admission_by_state_bytes l ≡ None
    unfolding admission_by_state_bytes
    holding_none_lem e = if_yes _ _ (le-leb _ _ h) ∙ ap (cabinet_admission_for_session l) e

    module _ (p : Phase) (n : ℕ) (e : decoded_session l ≡ Some (session_of p n (store_in l))) where
      holding_some : admission_by_state_bytes l ≡ cabinet_admission_by_amounts_alone
          (cabinet (session_of p n (store_in l)) (remaining_in_cabinet_state l) (reserved_in_cabinet_state l))
      unfolding admission_by_state_bytes
      holding_some = if_yes _ _ (le-leb _ _ h) ∙ ap (cabinet_admission_for_session l) e

      pub holding_undue : (reserved_in_cabinet_state l ≡ running_session_amount_or_zero p (store_in l) → ⊥)
          → admission_by_state_bytes l ≡ None
      unfolding reserved_matches_session_and_sum_in_range
      holding_undue f = holding_some ∙ if_no _ _ (both_no_left _ _ (ne_eqb _ _ f))

      pub holding_over : leb (remaining_in_cabinet_state l + reserved_in_cabinet_state l) greatest_twelve_digit_amount ≡ false
          → admission_by_state_bytes l ≡ None
      unfolding reserved_matches_session_and_sum_in_range
      holding_over f = holding_some ∙ if_no _ _ (both_no_right _ _ f)

      pub holding_fits : reserved_in_cabinet_state l ≡ running_session_amount_or_zero p (store_in l)
          → leb (remaining_in_cabinet_state l + reserved_in_cabinet_state l) greatest_twelve_digit_amount ≡ true
          → admission_by_state_bytes l ≡ Some
          (record {
            phase = p;
            count = n;
            amounts = record {
              remaining = remaining_in_cabinet_state l;
              reserved =
                  reserved_in_cabinet_state l;
            };
          })
      unfolding reserved_matches_session_and_sum_in_range
      holding_fits f g = holding_some ∙ if_yes _ _ (both_yes _ _ (eq-eqb _ _ f) g)

-- a test that is joined with one that passes
both_passed : (a b : Bool) → b ≡ true → both a b ≡ a
unfolding both
both_passed true b e = e
both_passed false b e = refl

module _ (l : List ℕ) where
  -- what is known of a state that a call is taken on: the bytes are enough, the amounts fit, and the ranges of the
  -- session alone decide
  pub record Told (h : CabinetWithoutStore) : Type 0 where
    pub enough : cabinet_state_size ≤ length l
    pub fits : h.amounts.remaining + h.amounts.reserved ≤ greatest_twelve_digit_amount
    pub held : decoded_cabinet_if_valid l ≡ if (session_record_in_ranges (cabinet_with_store_in h l).session)
        (Some (cabinet_with_store_in h l)) None

  held_refused : (x : Option Session) → cabinet_admission_for_session l x ≡ None → decoded_cabinet_of_session l x ≡ None
  held_refused None e = refl
  held_refused (Some s) e =
      elim
      (bool_cases
      (reserved_matches_session_and_sum_in_range (cabinet s (remaining_in_cabinet_state l) (reserved_in_cabinet_state l)))) [
        | inl t ↦
            let f : Some
            (cabinet_without_store (cabinet s (remaining_in_cabinet_state l) (reserved_in_cabinet_state l)))
            ≡ None = sym (if_yes _ _ t) ∙ e in
            let z : ◌≡◌ {A = ℕ} 0 1 = cc in
            absurd (omega arith)
        | inr t ↦ if_no _ _ (both_no_right _ _ t)
      ]

  held_taken : (x : Option Session) (h : CabinetWithoutStore) → decoded_session l ≡ x → cabinet_admission_for_session l x
      ≡ Some h
      → (h.amounts.remaining + h.amounts.reserved ≤ greatest_twelve_digit_amount)
      × (decoded_cabinet_of_session l x ≡ if (session_record_in_ranges (cabinet_with_store_in h l).session)
      (Some (cabinet_with_store_in h l)) None)
  unfolding reserved_matches_session_and_sum_in_range
  held_taken None h d e = let z : ◌≡◌ {A = ℕ} 0 1 = cc in absurd (omega arith)
  held_taken (Some s) h d e =
      elim
      (bool_cases
      (reserved_matches_session_and_sum_in_range (cabinet s (remaining_in_cabinet_state l) (reserved_in_cabinet_state l)))) [
        | inl t ↦
            let f : Some
            (cabinet_without_store (cabinet s (remaining_in_cabinet_state l) (reserved_in_cabinet_state l)))
            ≡ Some h = sym (if_yes _ _ t) ∙ e in
            let g : cabinet_without_store (cabinet s (remaining_in_cabinet_state l) (reserved_in_cabinet_state l)) ≡ h = cc in
            (subst Sum g (total t), subst Is g (is t))
        | inr t ↦
            let f : None ≡ Some h = sym (if_no _ _ t) ∙ e in
            let z : ◌≡◌ {A = ℕ} 0 1 = cc in
            absurd (omega arith)
      ]
    where
      Sum : CabinetWithoutStore → Type 0
      Sum k = k.amounts.remaining + k.amounts.reserved ≤ greatest_twelve_digit_amount

      Is : CabinetWithoutStore → Type 0
      Is k = decoded_cabinet_of_session l (Some s) ≡ if (session_record_in_ranges (cabinet_with_store_in k l).session)
          (Some (cabinet_with_store_in k l)) None

      own : Cabinet
      own = cabinet s (remaining_in_cabinet_state l) (reserved_in_cabinet_state l)

      total : reserved_matches_session_and_sum_in_range own ≡ true → Sum (cabinet_without_store own)
      total t = leb-true _ _ (both_right _ _ t)

      -- the session is that of the head and of the store in the bytes
      same : own ≡ cabinet_with_store_in (cabinet_without_store own) l
      same = ap (λ (b : List ℕ). cabinet (session_of s.phase s.count b) (remaining_in_cabinet_state l)
          (reserved_in_cabinet_state l)) (held_store l s d).1

      is : reserved_matches_session_and_sum_in_range own ≡ true → Is (cabinet_without_store own)
      is t =
          ap (λ (b : Bool). if b (Some own) None) (both_passed (session_record_in_ranges s) _ t)
          ∙ ap (λ (c : Cabinet). if (session_record_in_ranges c.session) (Some c) None) same

  pub state_refused : admission_by_state_bytes l ≡ None → decoded_cabinet_if_valid l ≡ None
  unfolding admission_by_state_bytes decoded_cabinet_if_valid
  state_refused e = elim (bool_cases (leb cabinet_state_size (length l))) [
    | inl t ↦ if_yes _ _ t ∙ held_refused (decoded_session l) (sym (if_yes _ _ t) ∙ e)
    | inr t ↦ if_no _ _ t
  ]

  pub state_taken : (h : CabinetWithoutStore) → admission_by_state_bytes l ≡ Some h → Told h
  unfolding admission_by_state_bytes decoded_cabinet_if_valid
  state_taken h e = elim (bool_cases (leb cabinet_state_size (length l))) [
    | inl t ↦
        let k = held_taken (decoded_session l) h refl (sym (if_yes _ _ t) ∙ e) in
        record { enough = leb-true _ _ t; fits = k.0; held = if_yes _ _ t ∙ k.1 }
    | inr t ↦
        let f : None ≡ Some h = sym (if_no _ _ t) ∙ e in
        let z : ◌≡◌ {A = ℕ} 0 1 = cc in
        absurd (omega arith)
  ]

-- ---- a call past its first tests

-- what is said where a state reports nothing, and where it reports
refused_by : (x : Option CabinetWithoutStore) (w : ℕ) → ok_or x (refusal_word refusal_record_out_of_ranges) ≡ Err w
    → (w ≡ refusal_word refusal_record_out_of_ranges) × (x ≡ None)
refused_by None w e = (cc, refl)
refused_by (Some h) w e = let z : ◌≡◌ {A = ℕ} 0 1 = cc in absurd (omega arith)

taken_by_lem : (x : Option CabinetWithoutStore) (h : CabinetWithoutStore)
    → ok_or x (refusal_word refusal_record_out_of_ranges) ≡ Ok h → x ≡ Some h
taken_by_lem None h e = let z : ◌≡◌ {A = ℕ} 0 1 = cc in absurd (omega arith)
taken_by_lem (Some k) h e = cc

module _ (l buf : List ℕ) where
  -- a call that is not taken gives its word, and touches nothing
  pub over_refused : {a : Result CabinetWithoutStore ℕ} (does : Cabinet → CabinetResult) (w : ℕ)
      → a ≡ admission_by_state_and_buffer_size l (length buf) → a ≡ Err w
      → ReturnsCabinetResult w l buf (admit_cabinet_call does l buf)
  unfolding admit_cabinet_call admission_by_state_and_buffer_size
  over_refused does w f g = elim (bool_cases (ltb (length buf) least_buffer)) [
    | inl t ↦
        let e : ◌≡◌ {A = Result CabinetWithoutStore ℕ} (Err (refusal_word refusal_buffer_too_small)) (Err w) =
        sym (if_yes _ _ t) ∙ sym f ∙ g in
        let k : w ≡ refusal_word refusal_buffer_too_small = cc in
        subst (ReturnsCabinetResult w l buf) (sym (if_yes _ _ t)) (record { word = k; state = refl; buffer = refl })
    | inr t ↦
        let k = refused_by (admission_by_state_bytes l) w (sym (if_no _ _ t) ∙ sym f ∙ g) in
        subst (ReturnsCabinetResult w l buf)
        (sym (if_no _ _ t ∙ ap (λ (x : Option Cabinet). apply_to_cabinet_or_refuse does l buf x) (state_refused l k.1)))
        (record { word = k.0; state = refl; buffer = refl })
  ]

  -- of one that is taken the buffer has room, and the state is as reported
  pub record Taken (h : CabinetWithoutStore) : Type 0 where
    pub room : least_buffer ≤ length buf
    pub told : Told l h

  pub over_taken : {a : Result CabinetWithoutStore ℕ} (h : CabinetWithoutStore) → a ≡ admission_by_state_and_buffer_size l (length buf)
      → a ≡ Ok h → Taken h
  unfolding admission_by_state_and_buffer_size
  over_taken h f g = elim (bool_cases (ltb (length buf) least_buffer)) [
    | inl t ↦
        let e : ◌≡◌ {A = Result CabinetWithoutStore ℕ} (Err (refusal_word refusal_buffer_too_small)) (Ok h) =
        sym (if_yes _ _ t) ∙ sym f ∙ g in
        let z : ◌≡◌ {A = ℕ} 0 1 = cc in
        absurd (omega arith)
    | inr t ↦ record { room = ltb-false _ _ t; told = state_taken l h (taken_by_lem (admission_by_state_bytes l) h (sym (if_no _ _ t) ∙ sym f ∙ g)) }
  ]

  -- and the session's ranges decide
  pub over_ranged : (does : Cabinet → CabinetResult) (h : CabinetWithoutStore) → Taken h
      → admit_cabinet_call does l buf ≡ cabinet_call_if_session_in_ranges does l buf (cabinet_with_store_in h l)
  unfolding admit_cabinet_call cabinet_call_if_session_in_ranges
  over_ranged does h k =
      if_no _ _ (le-ltb _ _ k.room) ∙ ap (apply_to_cabinet_or_refuse does l buf) k.told.held
      ∙ elim (bool_cases (session_record_in_ranges (cabinet_with_store_in h l).session)) [
        | inl t ↦ ap (apply_to_cabinet_or_refuse does l buf) (if_yes _ _ t) ∙ sym (if_yes _ _ t)
        | inr t ↦ ap (apply_to_cabinet_or_refuse does l buf) (if_no _ _ t) ∙ sym (if_no _ _ t)
      ]

-- a cabinet in its ranges, and one that is not
pub ranged_in : (does : Cabinet → CabinetResult) (l buf : List ℕ) (c : Cabinet) → session_record_in_ranges c.session
    ≡ true → cabinet_call_if_session_in_ranges does l buf c ≡ does c
unfolding cabinet_call_if_session_in_ranges
ranged_in does l buf c e = if_yes _ _ e

pub ranged_out : (does : Cabinet → CabinetResult) (l buf : List ℕ) (c : Cabinet) → session_record_in_ranges c.session
    ≡ false → cabinet_call_if_session_in_ranges does l buf c ≡ cabinet_refusal refusal_record_out_of_ranges l buf
unfolding cabinet_call_if_session_in_ranges
ranged_out does l buf c e = if_no _ _ e

-- a refusal's word
pub did_refuse : {d : CabinetResult} {w : ℕ} {l buf : List ℕ} (n : ℕ) → w ≡ refusal_word n → d ≡ cabinet_refusal n l buf
    → ReturnsCabinetResult w l buf d
did_refuse {d} {w} {l} {buf} n e q = subst (ReturnsCabinetResult w l buf) (sym q)
    (record { word = e; state = refl; buffer = refl })

-- ---- the state around the store that a step left in its place

-- an answer that is no refusal
pub not_refused : (x : CallResult) → ((r : Refusal) → x ≡ CallResult.Refused r → ⊥) → is_refusal x ≡ false
not_refused (CallResult.Command x) h = refl
not_refused (CallResult.Outcome e) h = refl
not_refused (CallResult.Refused r) h = absurd (h r refl)

pub finished_taken : (x : CallResult) (t : Transition) (a : Amounts) (l : List ℕ) → is_refusal x ≡ false
    → state_with_amounts (amounts_after_result x a) (record_head_written_over_front_if_room t.phase t.count l)
    ≡ state_after_result x t a l
finished_taken (CallResult.Command x) t a l e = refl
finished_taken (CallResult.Outcome x) t a l e = refl
finished_taken (CallResult.Refused r) t a l e = let z : ◌≡◌ {A = ℕ} 0 1 = cc in absurd (omega arith)

module _ (l buf : List ℕ) (h : cabinet_state_size ≤ length l) (st : Step) (t : Transition) (c : List ℕ)
    (z : length c ≡ store_size) (did : reply_of t c ≡ st.reply)
    (kept : (r : Refusal) → t.answer ≡ CallResult.Refused r → (put_mid record_head_size store_size l c ≡ l)
    × (st.buffer ≡ buf)) where
  -- with amounts after it
  around : (a : Amounts)
      → state_with_amounts a (record_head_written_over_front_if_room t.phase t.count
      (put_mid record_head_size store_size l c)) ≡ cabinet_written_over_front
      (cabinet st.reply.session a.remaining a.reserved) l
  around a =
      ap (state_with_amounts a) (put_head l c t.phase t.count (omega arith) z)
      ∙ amounts_behind (session_of t.phase t.count c) z l a h
      ∙ ap (λ (r : Reply). cabinet_written_over_front (cabinet r.session a.remaining a.reserved) l) did

  word-is : result_word t.answer ≡ result_word st.reply.answer
  word-is = ap (λ (r : Reply). result_word r.answer) did

  by_answer : (x : CallResult) → t.answer ≡ x → (a : Amounts) (w : ℕ) (l' b' : List ℕ)
      → (w ≡ result_word t.answer) × (l' ≡ state_after_transition t a (put_mid record_head_size store_size l c))
      → b' ≡ st.buffer
      → ReturnsCabinetResult w l' b' (cabinet_result_with_amounts_settled x st a.remaining a.reserved l buf)
  by_answer (CallResult.Command x) e a w l' b' k b =
      record {
        word = k.0 ∙ word-is;
        state = k.1 ∙ ap (λ (y : CallResult). state_after_result y t a (put_mid record_head_size store_size l c)) e ∙ around
            a;
        buffer = b;
      }
  by_answer (CallResult.Outcome x) e a w l' b' k b =
      record {
        word = k.0 ∙ word-is;
        state = k.1 ∙ ap (λ (y : CallResult). state_after_result y t a (put_mid record_head_size store_size l c)) e ∙ around
            (amounts_after_result (CallResult.Outcome x) a);
        buffer = b;
      }
  by_answer (CallResult.Refused r) e a w l' b' k b =
      record {
        word = k.0 ∙ ap result_word e;
        state = k.1 ∙ ap (λ (y : CallResult). state_after_result y t a (put_mid record_head_size store_size l c)) e ∙ (kept r
            e).0;
        buffer = b ∙ (kept r e).1;
      }

  pub settled_did : (a : Amounts) (w : ℕ) (l' b' : List ℕ)
      → (w ≡ result_word t.answer) × (l' ≡ state_after_transition t a (put_mid record_head_size store_size l c))
      → b' ≡ st.buffer
      → ReturnsCabinetResult w l' b' (cabinet_result_with_amounts_settled st.reply.answer st a.remaining
      a.reserved l buf)
  settled_did a w l' b' k b =
      subst
      (λ (x : CallResult). ReturnsCabinetResult w l' b'
      (cabinet_result_with_amounts_settled x st a.remaining a.reserved l buf)) (ap (λ (r : Reply). r.answer) did)
      (by_answer t.answer refl a w l' b' k b)

-- ---- answer, link failed and stop

module _ (step : Session → List ℕ → Step) (refuses : RefusesAsKernel step) (l buf : List ℕ) (h : CabinetWithoutStore)
    (k : Taken l buf h) where
  abbrev own : Session
  own = session_of h.phase h.count (store_in l)

  -- the kernel's step makes the test of the ranges
  by_kernel : cabinet_call_if_session_in_ranges (kernel_step_on_cabinet step l buf) l buf (cabinet_with_store_in h l)
      ≡ kernel_step_on_cabinet step l buf (cabinet_with_store_in h l)
  unfolding cabinet_call_if_session_in_ranges
  by_kernel = elim (bool_cases (session_record_in_ranges own)) [
    | inl t ↦ if_yes _ _ t
    | inr t ↦ if_no _ _ t ∙ ap (λ (st : Step). cabinet_result_with_amounts_settled st.reply.answer st
        h.amounts.remaining h.amounts.reserved l buf) (sym (refuses.ranges own buf k.room t))
  ]

  pub over-step : (w : ℕ) (l' b' c : List ℕ) (t : Transition) → steps.ReturnsStep (reply_of t c) b' (step own buf)
      → length c ≡ length (store_in l)
      → (w ≡ result_word t.answer) × (l' ≡ state_after_transition t h.amounts (put_mid record_head_size store_size l c))
      → ReturnsCabinetResult w l' b' (admit_cabinet_call (kernel_step_on_cabinet step l buf) l buf)
  over-step w l' b' c t did m f =
      subst (ReturnsCabinetResult w l' b') (sym (over_ranged l buf (kernel_step_on_cabinet step l buf) h k ∙ by_kernel))
      (settled_did l buf enough (step own buf) t c (m ∙ store_long l (omega arith)) did.reply kept h.amounts w l'
      b' f did.buffer)
    where
      enough : cabinet_state_size ≤ length l
      enough = k.told.enough

      -- a refusal leaves store and buffer
      kept : (r : Refusal) → t.answer ≡ CallResult.Refused r → (put_mid record_head_size store_size l c ≡ l)
          × ((step own buf).buffer ≡ buf)
      kept r e =
          let n = refuses.refusal own buf r (sym (ap (λ (x : Reply). x.answer) did.reply) ∙ e) in (
            ap (put_mid record_head_size store_size l) (ap (λ (x : Reply). store_bytes x.session) did.reply ∙ ap
                (λ (x : Step). store_bytes x.reply.session) n) ∙ put_same record_head_size store_size l,
            ap (λ (x : Step). x.buffer) n,
          )

-- ---- start: on a running session

running_not_ended : (p : Phase) → is_running p ≡ true → is_ended p ≡ false
running_not_ended Phase.Fresh e = refl
running_not_ended (Phase.Waiting w) e = refl
running_not_ended (Phase.Ended x) e = sym e

module _ (s : Session) (bytes l buf : List ℕ) (r : least_buffer ≤ length buf) (i : session_record_in_ranges s ≡ true) where
  running_step : (p : Phase) → s.phase ≡ p → is_running p ≡ true
      → start_step s bytes buf ≡ steps.refused_step s refusal_wrong_phase buf
  running_step p q e = admitted_in s buf _ r i ∙ ap
      (λ (x : Phase). step_of_effect s buf (start_effect x (store_bytes s) bytes)) q ∙ go p e
    where
      go : (p : Phase) → is_running p ≡ true → step_of_effect s buf (start_effect p (store_bytes s) bytes)
          ≡ steps.refused_step s refusal_wrong_phase buf
      go Phase.Fresh e = let z : ◌≡◌ {A = ℕ} 0 1 = cc in absurd (omega arith)
      go (Phase.Waiting w) e = refl
      go (Phase.Ended x) e = refl

  pub start_running : (n a : ℕ) → is_running s.phase ≡ true → start_on_cabinet bytes l buf (cabinet s n a)
      ≡ cabinet_refusal refusal_wrong_phase l buf
  unfolding session_for_new_start
  start_running n a e =
      ap (λ (x : Session). cabinet_start_by_result (start_step x bytes buf).reply.answer (start_step x bytes buf) n l buf)
      (if_no _ _ (running_not_ended s.phase e))
      ∙ ap (λ (st : Step). cabinet_start_by_result st.reply.answer st n l buf) (running_step s.phase refl e)

  -- on one that does not run: a fresh one
  made_fresh : (p : Phase) → s.phase ≡ p → is_running p ≡ false → if (is_ended p) fresh_session s ≡ fresh_session
  made_fresh Phase.Fresh q e = if_no _ _ refl ∙ is_fresh s i q
  made_fresh (Phase.Waiting w) q e = let z : ◌≡◌ {A = ℕ} 0 1 = cc in absurd (omega arith)
  made_fresh (Phase.Ended x) q e = if_yes _ _ refl

  pub start_idle : (n a : ℕ) → is_running s.phase ≡ false → start_on_cabinet bytes l buf (cabinet s n a)
      ≡ cabinet_start_on_fresh bytes n l buf
  unfolding session_for_new_start
  start_idle n a e =
      ap (λ (x : Session). cabinet_start_by_result (start_step x bytes buf).reply.answer (start_step x bytes buf) n l buf)
      (made_fresh s.phase refl e)

-- ---- start: a fresh session, with a buffer of its own

-- a step with one buffer and with another: the same reply, and the command at the front of the other
pub record Alike (x y : Step) (buf : List ℕ) : Type 0 where
  pub reply : x.reply ≡ y.reply
  pub buffer : y.buffer ≡ command_copied_to_buffer x.reply.answer x.buffer buf

module _ (bytes first buf : List ℕ) where
  alike_next : (n : ℕ) (x : NextAction) → Alike (step_of_next n first x) (step_of_next n buf x) buf
  alike_next n (ask c w b) =
      record {
        reply = refl;
        buffer = ap (λ (x : List ℕ). x ++ drop (length c) buf)
            (sym (take-append_seam c (drop (length c) first)));
      }
  alike_next n (end e m b) = record { reply = refl; buffer = refl }

  alike_effect : (s : Session) (x : CallEffect) → Alike (step_of_effect s first x) (step_of_effect s buf x) buf
  alike_effect s (refuse n) = record { reply = refl; buffer = refl }
  alike_effect s (follow x) = alike_next s.count x

  pub start_alike : least_buffer ≤ length first → least_buffer ≤ length buf
      → Alike (start_step fresh_session bytes first) (start_step fresh_session bytes buf) buf
  start_alike f r =
      subst (λ (x : Step). Alike x (start_step fresh_session bytes buf) buf)
      (sym (admitted_in fresh_session first _ f fresh_keeps))
      (subst
      (λ (y : Step). Alike (step_of_effect fresh_session first (start_effect Phase.Fresh (store_bytes fresh_session) bytes)) y
      buf) (sym (admitted_in fresh_session buf _ r fresh_keeps))
      (alike_effect fresh_session (start_effect Phase.Fresh (store_bytes fresh_session) bytes)))

taken_amount : (x : CallResult) (st : Step) (n : ℕ) (l buf : List ℕ) → is_refusal x ≡ false
    → cabinet_start_by_result x st n l buf ≡ cabinet_start_if_amount_remains st (amount_of_start_step st) n l buf
taken_amount (CallResult.Command x) st n l buf e = refl
taken_amount (CallResult.Outcome x) st n l buf e = refl
taken_amount (CallResult.Refused r) st n l buf e = let z : ◌≡◌ {A = ℕ} 0 1 = cc in absurd (omega arith)

-- an answer without a command copies nothing
pub handed_nothing : (x : CallResult) (f b : List ℕ) → ((c : CommandLength) → x ≡ CallResult.Command c → ⊥)
    → b ≡ command_copied_to_buffer x f b
handed_nothing (CallResult.Command x) f b h = absurd (h x refl)
handed_nothing (CallResult.Outcome e) f b h = refl
handed_nothing (CallResult.Refused r) f b h = refl

module _ (bytes l first buf : List ℕ) (n : ℕ) (f : least_buffer ≤ length first) (r : least_buffer ≤ length buf)
    (t : Transition) (c first' : List ℕ)
    (did : steps.ReturnsStep (reply_of t c) first' (start_step fresh_session bytes first)) where
  abbrev st : Step
  st = start_step fresh_session bytes buf

  alike : Alike (start_step fresh_session bytes first) st buf
  alike = start_alike bytes first buf f r

  reply_is : reply_of t c ≡ st.reply
  reply_is = did.reply ∙ alike.reply

  answer_is : t.answer ≡ st.reply.answer
  answer_is = ap (λ (x : Reply). x.answer) reply_is

  amount-is : amount_of_start_step st ≡ stored_amount_authorized c
  amount-is = sym (ap (λ (x : Reply). stored_amount_authorized (store_bytes x.session)) reply_is)

  -- the store keeps its size, and the command fits both buffers
  pub fresh_store : length c ≡ store_size
  fresh_store =
      ap (λ (x : Reply). length (store_bytes x.session)) did.reply
      ∙ store_size_lem (start_step fresh_session bytes first).reply.session
      (start_keeps fresh_session bytes first fresh_keeps)

  command_fits : (x : CallResult) → (start_step fresh_session bytes first).reply.answer ≡ x
      → command_size_or_zero x ≤ length first
  command_fits (CallResult.Command x) e = (command_sent_lem (start_came fresh_session bytes first) x e).fits
  command_fits (CallResult.Outcome x) e = omega arith
  command_fits (CallResult.Refused x) e = omega arith

  pub fresh_size : command_size_or_zero t.answer ≤ length first
  fresh_size = command_fits t.answer (sym (ap (λ (x : Reply). x.answer) did.reply))

  pub fresh_length : length first' ≡ length first
  fresh_length = ap length did.buffer ∙ buffer_length (start_came fresh_session bytes first)

  -- the kernel's refusal
  pub fresh_refused : (x : Refusal) (w : ℕ) → w ≡ refusal_word x.number → t.answer ≡ CallResult.Refused x
      → ReturnsCabinetResult w l buf (cabinet_start_on_fresh bytes n l buf)
  fresh_refused x w e q =
      subst (λ (y : CallResult). ReturnsCabinetResult w l buf (cabinet_start_by_result y st n l buf)) (sym q ∙ answer_is)
      (record { word = e; state = refl; buffer = refl })

  module _ (m : is_refusal t.answer ≡ false) where
    past : cabinet_start_on_fresh bytes n l buf ≡ cabinet_start_if_amount_remains st (stored_amount_authorized c) n l buf
    past = taken_amount st.reply.answer st n l buf (ap is_refusal (sym answer_is) ∙ m) ∙ ap
        (λ (a : ℕ). cabinet_start_if_amount_remains st a n l buf) amount-is

    -- 30
    pub fresh_left : (w : ℕ) → w ≡ refusal_word refused_amount_over_remaining → n < stored_amount_authorized c
        → ReturnsCabinetResult w l buf (cabinet_start_on_fresh bytes n l buf)
    unfolding cabinet_start_if_amount_remains
    fresh_left w e q = subst (ReturnsCabinetResult w l buf) (sym (past ∙ if_yes _ _ (lt-ltb _ _ q)))
        (record { word = e; state = refl; buffer = refl })

    -- the amount is reserved, and the command is copied over
    pub fresh_taken : cabinet_state_size ≤ length l → stored_amount_authorized c ≤ n
        → (w : ℕ) (l' b' : List ℕ) (a : Amounts) → a.remaining ≡ n - stored_amount_authorized c
        → a.reserved ≡ stored_amount_authorized c
        → (w ≡ result_word t.answer) × (l' ≡ state_after_transition t a (put_mid record_head_size store_size l c))
        → b' ≡ command_copied_to_buffer t.answer first' buf
        → ReturnsCabinetResult w l' b' (cabinet_start_on_fresh bytes n l buf)
    unfolding cabinet_start_if_amount_remains
    fresh_taken h q w l' b' a x y k b =
        subst (ReturnsCabinetResult w l' b')
        (sym
        (past ∙ if_no _ _ (le-ltb _ _ q) ∙ (λ i. cabinet_result_with_amounts_settled st.reply.answer st (sym x i)
        (sym y i) l buf)))
        (settled_did l buf h st t c fresh_store reply_is (λ u e. (let v : ◌≡◌ {A = ℕ} 0 1 = cc in absurd (omega arith)))
        a w l' b' k (b ∙ over))
      where
        over : command_copied_to_buffer t.answer first' buf ≡ st.buffer
        over =
            (λ i. command_copied_to_buffer (did.reply i).answer (did.buffer i) buf)
            ∙ sym alike.buffer
