-- A whole record against the call that it stands for: one law for each way out of the code.
-- Assumes nothing.
use Rattle.std.specs.Prelude.{Some, None}
use mathlib.Core.Path.{◌≡◌, sym, ap, ◌∙◌}
use mathlib.Core.Bool.{true, false}
use mathlib.Core.List.{List}
use Prim.Native.Nat.{ℕ, ◌+◌, ◌-◌, ◌≤◌, ◌<◌}
use native.Mathlib.Omega.{arith}
use lib.ListN.{length, get_or, take, drop}
use lib.Seq.{drop-drop}
use borrow.Author.Tests.{eq-eqb, ne_eqb, le-leb, lt-leb, leb-true}
use Rattle.basics.specs.Choice.{if, every}
use Rattle.basics.proofs.Laws.{if_yes, if_no, both_true, both_no_left, both_left}
use Rattle.store.specs.Held.{is_zero_byte}
use Rattle.tlv.proofs.Laws.{tail-is}
use Rattle.session_record.specs.declared.Session.{Session}
use Rattle.session_record.specs.declared.Reply.{Reply}
use Rattle.session.specs.Steps.{ReturnsStep}
use Rattle.session.specs.Start.{start_step}
use Rattle.session.specs.Answer.{answer_step}
use Rattle.step_laws.proofs.EveryCall.{start_came, answer_came}
use Rattle.journal.specs.declared.JournalCheckState.{JournalCheckState}
use Rattle.journal.specs.Record.{journal_record_size, journal_command_buffer, journal_record_length_field}
use Rattle.journal.specs.Record.{journal_record_data, journal_length_and_zero_padding_valid, is_too_long_answer_record}
use Rattle.journal.specs.Record.{answer_of259_zero_bytes, most_start_bytes_in_journal_record}
use Rattle.journal.specs.Record.{most_answer_bytes_in_journal_record}
use Rattle.session.specs.Calls.{link_failed, stop}
use Rattle.journal.specs.Record.{start_call_from_record, answer_call_from_record, call_from_journal_record}
use Rattle.journal.specs.Verdict.{expect_reply_unless_empty, judge_call}
use Rattle.journal.specs.Inner.{reply_record_with_whole_buffer, check_state_after_record}
use Rattle.journal.proofs.Walk.{reply_expected_after}
use Rattle.journal.proofs.Due.{stands_as, did_due}

-- ---- the length and the bytes after

pub fits_over : (n : ℕ) (r : List ℕ) → n < journal_record_length_field r → journal_length_and_zero_padding_valid n r ≡ false
unfolding journal_length_and_zero_padding_valid
fits_over n r h = both_no_left _ _ (lt-leb (journal_record_length_field r) n h)

pub fits_tail : (n : ℕ) (r : List ℕ) (k : ℕ) → k ≡ journal_record_length_field r → k ≤ n
    → every is_zero_byte (take (length r - (3 + k)) (drop (3 + k) r)) ≡ journal_length_and_zero_padding_valid n r
unfolding journal_length_and_zero_padding_valid
fits_tail n r k e h =
    ap (every is_zero_byte) (tail-is r (3 + k) ∙ ap (λ (m : ℕ). drop (3 + m) r) e ∙ sym
    (drop-drop (journal_record_length_field r) 3 r))
    ∙ sym (both_true _ (le-leb (journal_record_length_field r) n (let g = e in omega arith)))

pub fits_length : (n : ℕ) (r : List ℕ) → journal_length_and_zero_padding_valid n r ≡ true → journal_record_length_field r ≤ n
unfolding journal_length_and_zero_padding_valid
fits_length n r e = leb-true (journal_record_length_field r) n (both_left _ _ e)

pub long_no : (r : List ℕ) → (journal_record_length_field r ≡ 65535 → ⊥) → is_too_long_answer_record r ≡ false
unfolding is_too_long_answer_record
long_no r h = both_no_left _ _ (ne_eqb (journal_record_length_field r) 65535 h)

pub long_tail : (r : List ℕ) → journal_record_length_field r ≡ 65535 → every is_zero_byte (take (length r - 3) (drop 3 r))
    ≡ is_too_long_answer_record r
unfolding is_too_long_answer_record
long_tail r e = ap (every is_zero_byte) (tail-is r 3) ∙ sym (both_true _ (eq-eqb (journal_record_length_field r) 65535 e))

-- ---- what is expected after the call

abbrev Due : JournalCheckState → JournalCheckState → Reply → List ℕ → Type 0
Due x y q buf = x ≡ check_state_after_record y
    (expect_reply_unless_empty q.session (reply_record_with_whole_buffer q.answer buf))

brought_is : (r : List ℕ) (k : ℕ) → k ≡ journal_record_length_field r → take (3 + k - 3) (drop 3 r) ≡ journal_record_data r
brought_is r k e = let g : 3 + k - 3 ≡ journal_record_length_field r = let h = e in omega arith in
    ap (λ (m : ℕ). take m (drop 3 r)) g

module _ (s : Session) (r : List ℕ) (x y : JournalCheckState) where
  pub start_none : journal_length_and_zero_padding_valid most_start_bytes_in_journal_record r ≡ false
      → x ≡ check_state_after_record y None → x ≡ check_state_after_record y (judge_call s (start_call_from_record r))
  start_none f h = stands_as y (ap (judge_call s) (sym (if_no _ _ f))) h

  pub start_due : (k : ℕ) (q : Reply) (buf : List ℕ) → journal_length_and_zero_padding_valid most_start_bytes_in_journal_record r
      ≡ true → k ≡ journal_record_length_field r
      → ReturnsStep q buf (start_step s (take (3 + k - 3) (drop 3 r)) journal_command_buffer) → Due x y q buf
      → x ≡ check_state_after_record y (judge_call s (start_call_from_record r))
  start_due k q buf f e d h =
      stands_as y (ap (λ (v : List ℕ). reply_expected_after (start_step s v journal_command_buffer)) (brought_is r k e) ∙ ap
      (judge_call s) (sym (if_yes _ _ f)))
      (did_due y (start_came s (take (3 + k - 3) (drop 3 r)) journal_command_buffer) d h)

  pub long_due : (q : Reply) (buf : List ℕ) → is_too_long_answer_record r ≡ true
      → ReturnsStep q buf (answer_step s answer_of259_zero_bytes journal_command_buffer) → Due x y q buf
      → x ≡ check_state_after_record y (judge_call s (answer_call_from_record r))
  long_due q buf f d h = stands_as y (ap (judge_call s) (sym (if_yes _ _ f)))
      (did_due y (answer_came s answer_of259_zero_bytes journal_command_buffer) d h)

  pub answer_none : is_too_long_answer_record r ≡ false → journal_length_and_zero_padding_valid most_answer_bytes_in_journal_record r
      ≡ false → x ≡ check_state_after_record y None → x ≡ check_state_after_record y (judge_call s (answer_call_from_record r))
  answer_none g f h = stands_as y (ap (judge_call s) (sym (if_no _ _ g ∙ if_no _ _ f))) h

  pub answer_due : (k : ℕ) (q : Reply) (buf : List ℕ) → is_too_long_answer_record r ≡ false
      → journal_length_and_zero_padding_valid most_answer_bytes_in_journal_record r ≡ true → k ≡ journal_record_length_field r
      → ReturnsStep q buf (answer_step s (take (3 + k - 3) (drop 3 r)) journal_command_buffer) → Due x y q buf
      → x ≡ check_state_after_record y (judge_call s (answer_call_from_record r))
  answer_due k q buf g f e d h =
      stands_as y (ap (λ (v : List ℕ). reply_expected_after (answer_step s v journal_command_buffer)) (brought_is r k e) ∙ ap
      (judge_call s) (sym (if_no _ _ g ∙ if_yes _ _ f)))
      (did_due y (answer_came s (take (3 + k - 3) (drop 3 r)) journal_command_buffer) d h)

-- ---- by the kind

pub size_start : (k : ℕ) → k ≡ 1 → journal_record_size k ≡ 1027
unfolding journal_record_size if
size_start k e = ap journal_record_size e

pub size_answer : (k : ℕ) → k ≡ 2 → journal_record_size k ≡ 261
unfolding journal_record_size if
size_answer k e = ap journal_record_size e

module _ (r : List ℕ) where
  pub kind_start : get_or r 0 0 ≡ 1 → call_from_journal_record r ≡ start_call_from_record r
  unfolding call_from_journal_record
  kind_start e = if_yes _ _ (eq-eqb (get_or r 0 0) 1 e)

  pub kind_answer : get_or r 0 0 ≡ 2 → call_from_journal_record r ≡ answer_call_from_record r
  unfolding call_from_journal_record
  kind_answer e = if_no _ _ (ne_eqb (get_or r 0 0) 1 (λ z. omega arith)) ∙ if_yes _ _ (eq-eqb (get_or r 0 0) 2 e)

  pub kind_link : get_or r 0 0 ≡ 3 → call_from_journal_record r ≡ Some (link_failed journal_command_buffer)
  unfolding call_from_journal_record
  kind_link e =
      if_no _ _ (ne_eqb (get_or r 0 0) 1 (λ z. omega arith)) ∙ if_no _ _ (ne_eqb (get_or r 0 0) 2 (λ z. omega arith))
      ∙ if_yes _ _ (eq-eqb (get_or r 0 0) 3 e)

  pub kind_stop : get_or r 0 0 ≡ 4 → call_from_journal_record r ≡ Some (stop journal_command_buffer)
  unfolding call_from_journal_record
  kind_stop e =
      if_no _ _ (ne_eqb (get_or r 0 0) 1 (λ z. omega arith)) ∙ if_no _ _ (ne_eqb (get_or r 0 0) 2 (λ z. omega arith))
      ∙ if_no _ _ (ne_eqb (get_or r 0 0) 3 (λ z. omega arith)) ∙ if_yes _ _ (eq-eqb (get_or r 0 0) 4 e)

  pub kind_none : (get_or r 0 0 ≡ 1 → ⊥) → (get_or r 0 0 ≡ 2 → ⊥) → (get_or r 0 0 ≡ 3 → ⊥) → (get_or r 0 0 ≡ 4 → ⊥)
      → call_from_journal_record r ≡ None
  unfolding call_from_journal_record
  kind_none a b c d =
      if_no _ _ (ne_eqb (get_or r 0 0) 1 a) ∙ if_no _ _ (ne_eqb (get_or r 0 0) 2 b)
      ∙ if_no _ _ (ne_eqb (get_or r 0 0) 3 c) ∙ if_no _ _ (ne_eqb (get_or r 0 0) 4 d)
