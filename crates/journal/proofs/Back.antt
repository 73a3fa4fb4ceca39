-- A call's record is read back as that call: the length from its two bytes, the bytes from the front of the body,
-- zeros after them.
-- Assumes nothing.
use Rattle.std.specs.Prelude.{Some}
use mathlib.Core.Path.{◌≡◌, refl, ap, ◌∙◌}
use mathlib.Core.Bool.{true}
use mathlib.Core.List.{List, [], ◌∷◌}
use Prim.Native.Nat.{ℕ, zero, suc, ◌+◌, ◌-◌, ◌*◌, ◌/◌, ◌%◌, ◌≤◌, ◌<◌}
use native.Mathlib.Omega.{arith}
use lib.ListN.{length, take, drop, replicate}
use lib.Seq.{take-append_seam, drop-append_seam}
use borrow.Author.Tests.{le-leb, lt-leb}
use Rattle.basics.specs.Choice.{both, every}
use Rattle.basics.proofs.Laws.{if_yes, if_no, both_yes}
use Rattle.store.specs.Held.{is_zero_byte}
use Rattle.session.specs.Calls.{start, answer, link_failed, stop}
use Rattle.journal.specs.Record.{journal_command_buffer, journal_record_length_field, journal_record_data}
use Rattle.journal.specs.Record.{journal_length_and_zero_padding_valid, is_too_long_answer_record, answer_of259_zero_bytes}
use Rattle.journal.specs.Record.{zero_padded, length_then_padded_bytes}
use Rattle.journal.specs.Record.{journal_call_record, call_from_journal_record}
use Rattle.journal.proofs.Reading.{kind_start, kind_answer, kind_link, kind_stop, long_no}

zeros : (n : ℕ) → every is_zero_byte (replicate n 0) ≡ true
unfolding every both
zeros zero = refl
zeros (suc n) = zeros n

two_bytes : (n : ℕ) → n < 65536 → n / 256 % 256 * 256 + n % 256 ≡ n
two_bytes n h = omega arith

module _ (k n : ℕ) (v : List ℕ) (f : length v ≤ n) (small : n < 65535) where
  pub length_read : journal_record_length_field (k ∷ length_then_padded_bytes n v) ≡ length v
  length_read = two_bytes (length v) (omega arith)

  brought_read : journal_record_data (k ∷ length_then_padded_bytes n v) ≡ v
  brought_read = ap (λ (m : ℕ). take m (zero_padded n v)) length_read ∙ take-append_seam v (replicate (n - length v) 0)

  fits_read : journal_length_and_zero_padding_valid n (k ∷ length_then_padded_bytes n v) ≡ true
  unfolding journal_length_and_zero_padding_valid
  fits_read =
      both_yes _ _ (le-leb (journal_record_length_field (k ∷ length_then_padded_bytes n v)) n
      (let e = length_read in omega arith))
      (ap (λ (m : ℕ). every is_zero_byte (drop m (zero_padded n v))) length_read
      ∙ ap (every is_zero_byte) (drop-append_seam v (replicate (n - length v) 0)) ∙ zeros (n - length v))

pub start_back : (v : List ℕ) → length v ≤ 1024
    → call_from_journal_record (journal_call_record (start v journal_command_buffer)) ≡ Some (start v journal_command_buffer)
start_back v h =
    kind_start _ refl ∙ if_yes _ _ (fits_read 1 1024 v h (omega arith)) ∙ ap
    (λ (b : List ℕ). Some (start b journal_command_buffer)) (brought_read 1 1024 v h (omega arith))

pub answer_back : (v : List ℕ) → length v ≤ 258
    → call_from_journal_record (journal_call_record (answer v journal_command_buffer)) ≡ Some (answer v journal_command_buffer)
answer_back v h =
    ap (λ (b : List ℕ). call_from_journal_record (2 ∷ b)) (if_yes _ _ (le-leb (length v) 258 h))
    ∙ kind_answer _ refl ∙ if_no _ _
    (long_no (2 ∷ length_then_padded_bytes 258 v) (λ z. let e = length_read 2 258 v h (omega arith) in omega arith))
    ∙ if_yes _ _ (fits_read 2 258 v h (omega arith)) ∙ ap (λ (b : List ℕ). Some (answer b journal_command_buffer))
    (brought_read 2 258 v h (omega arith))

long_is : is_too_long_answer_record (2 ∷ 0xFF ∷ 0xFF ∷ replicate 258 0) ≡ true
unfolding is_too_long_answer_record
long_is = both_yes _ _ refl (zeros 258)

-- one that is too long for a record is read as such a one
pub long_back : (v : List ℕ) → 258 < length v
    → call_from_journal_record (journal_call_record (answer v journal_command_buffer))
    ≡ Some (answer answer_of259_zero_bytes journal_command_buffer)
long_back v h =
    ap (λ (b : List ℕ). call_from_journal_record (2 ∷ b)) (if_no _ _ (lt-leb (length v) 258 h)) ∙ kind_answer
    (2 ∷ 0xFF ∷ 0xFF ∷ replicate 258 0) refl ∙ if_yes _ _ long_is

pub link_back : call_from_journal_record (journal_call_record (link_failed journal_command_buffer))
    ≡ Some (link_failed journal_command_buffer)
link_back = kind_link (3 ∷ []) refl

pub stop_back : call_from_journal_record (journal_call_record (stop journal_command_buffer)) ≡ Some (stop journal_command_buffer)
stop_back = kind_stop (4 ∷ []) refl
