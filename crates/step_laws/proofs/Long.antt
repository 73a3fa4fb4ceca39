-- Every answer over 258 bytes gives the same step, and so does every start with over 1,024 bytes: what is read of them
-- is the same.
-- Assumes nothing.
use Rattle.std.specs.Prelude.{Option, Some, None}
use Rattle.afl.specs.declared.CardRecord.{CardRecord}
use mathlib.Core.Path.{◌≡◌, refl, sym, ap, ◌∙◌}
use mathlib.Core.List.{List}
use Prim.Native.Nat.{ℕ, ◌<◌}
use lib.Dec.{eqb}
use lib.ListN.{length}
use borrow.Author.Tests.{lt-leb}
use Rattle.basics.specs.Choice.{if}
use Rattle.basics.proofs.Laws.{if_no, both_no_right}
use Rattle.afl.specs.Records.{kth_record_of_accepted_afl}
use Rattle.reading.specs.declared.Awaited.{Awaited}
use Rattle.reading.specs.Answer as reading
use Rattle.analysis.specs.Cvm.{cvm_number, cvm_number_not_applicable}
use Rattle.session_record.specs.declared.AwaitedRecord.{AwaitedRecord}
use Rattle.session_record.specs.declared.AwaitedResponse.{AwaitedResponse}
use Rattle.session_record.specs.declared.Phase.{Phase}
use Rattle.session_record.specs.declared.Session.{Session}
use Rattle.session_record.specs.Session.{store_bytes, ending_for_reason}
use Rattle.session_record.specs.Ranges.{stored_afl}
use Rattle.start_data.specs.StartData.{most_start_bytes}
use Rattle.start_data.proofs.Laws.{load_long_same}
use Rattle.session.specs.Steps.{NextAction, end, read_response_then, step_if_admitted, effect_if_running, follow}
use Rattle.session.specs.Start.{start_effect_after_loading, start_effect, start_step}
use Rattle.session.specs.MagStripe.{next_if_track_takes_digits, next_on_checksum_response}
use Rattle.session.specs.Answer.{next_after_gpo_read, next_on_gpo_response, next_after_record_read, next_on_response_for_record_found}
use Rattle.session.specs.Answer.{next_on_record_response, next_after_cryptogram_read, next_on_cryptogram_response}
use Rattle.session.specs.Answer.{next_on_response, answer_step}

-- ---- start

module _ (s : Session) (x y buf : List ℕ) (h : most_start_bytes < length x) (k : most_start_bytes < length y) where
  start_in : (p : Phase) → start_effect p (store_bytes s) x ≡ start_effect p (store_bytes s) y
  start_in Phase.Fresh = ap start_effect_after_loading (load_long_same (store_bytes s) (store_bytes s) x y h k)
  start_in (Phase.Waiting w) = refl
  start_in (Phase.Ended e) = refl

  pub start_long : start_step s x buf ≡ start_step s y buf
  start_long = ap (step_if_admitted s buf) (start_in s.phase)

-- ---- answer

long_read : (a : Awaited) (b x : List ℕ) → 258 < length x → reading.read_answer a b x ≡ reading.reading_outcome 2 0 b
unfolding reading.read_answer reading.response_length_is2_to258
long_read a b x h = if_no _ _ (both_no_right _ _ (lt-leb (length x) 258 h))

module _ (s : Session) (x y buf : List ℕ) (h : 258 < length x) (k : 258 < length y) where
  same_read : (a : Awaited) (m : ℕ) (next : List ℕ → NextAction) → read_response_then a m (store_bytes s) x next
      ≡ read_response_then a m (store_bytes s) y next
  unfolding read_response_then
  same_read a m next =
      ap (λ (o : reading.ReadingOutcome). if (eqb o.reason 0) (next o.store)
      (end (ending_for_reason o.reason) m (store_bytes s)))
      (long_read a (store_bytes s) x h ∙ sym (long_read a (store_bytes s) y k))

  long_found : (p : AwaitedRecord) (f : Option CardRecord) → next_on_response_for_record_found p (store_bytes s) x f
      ≡ next_on_response_for_record_found p (store_bytes s) y f
  long_found p None = refl
  long_found p (Some r) = same_read (Awaited.Record (record { number = r.sfi })) cvm_number_not_applicable
      (next_after_record_read p)

  long_awaited : (w : AwaitedResponse) → next_on_response (store_bytes s) x w ≡ next_on_response (store_bytes s) y w
  unfolding next_on_gpo_response next_on_record_response next_on_cryptogram_response next_on_checksum_response
  long_awaited AwaitedResponse.Gpo = same_read Awaited.Gpo cvm_number_not_applicable next_after_gpo_read
  long_awaited (AwaitedResponse.Record p) = long_found p (kth_record_of_accepted_afl (stored_afl (store_bytes s)) p.number)
  long_awaited (AwaitedResponse.Cryptogram a) = same_read Awaited.Cryptogram (cvm_number a.cvm)
      (next_after_cryptogram_read a)
  long_awaited (AwaitedResponse.Checksum c) = same_read Awaited.Checksum cvm_number_not_applicable
      (next_if_track_takes_digits (store_bytes s))

  long_in : (p : Phase) → effect_if_running p (next_on_response (store_bytes s) x) ≡ effect_if_running p
      (next_on_response (store_bytes s) y)
  long_in Phase.Fresh = refl
  long_in (Phase.Waiting w) = ap follow (long_awaited w)
  long_in (Phase.Ended e) = refl

  pub answer_long : answer_step s x buf ≡ answer_step s y buf
  answer_long = ap (step_if_admitted s buf) (long_in s.phase)
