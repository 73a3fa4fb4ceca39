-- What the kernel's calls leave of a session that a cabinet holds: an answer leaves the amount 9F02, which no card
-- sets; a command leaves the session running.
-- Assumes nothing.
use mathlib.Core.Path.{◌≡◌, refl, ap, ◌∙◌}
use mathlib.Core.Bool.{true, false}
use mathlib.Core.List.{List}
use Prim.Native.Nat.{ℕ}
use native.Mathlib.Omega.{arith}
use lib.ListN.{length}
use Rattle.basics.specs.Number.{has_bit_of_weight}
use Rattle.basics.specs.Reason.{reason_link, reason_stopped}
use Rattle.dictionary.specs.Named.{row_amount}
use Rattle.dictionary.specs.Rows.{dictionary_rows, row_at, store_size, set_by_card}
use Rattle.dictionary.proofs.Named.{at_9f02}
use Rattle.store.specs.Place.{StoredValue, bytes_or_empty_if_absent, object_value}
use Rattle.reading.specs.declared.Awaited.{Awaited}
use Rattle.analysis.specs.Action.{findings_of}
use Rattle.analysis.specs.Digits.{amount_of}
use Rattle.analysis.proofs.Laws.{found_length, bits_length}
use Rattle.session_record.specs.declared.CallResult.{CallResult}
use Rattle.session_record.specs.declared.CommandLength.{CommandLength}
use Rattle.session_record.specs.declared.AwaitedRecord.{AwaitedRecord}
use Rattle.session_record.specs.declared.Reply.{Reply}
use Rattle.session_record.specs.declared.Session.{Session}
use Rattle.session_record.specs.Session.{store_bytes}
use Rattle.session_record.proofs.Phases.{store_size_lem, store_fits}
use Rattle.session.specs.Steps.{store_with_findings, Step, abort_step, link_failed_step, stop_step}
use Rattle.session.specs.Answer.{answer_step}
use Rattle.session_record.specs.Session.{is_running}
use Rattle.step_laws.proofs.Kept.{read_size, read_fits, read_start, found_other, digits_other}
use Rattle.step_laws.proofs.Ways.{without_command, Admitted, taken, GpoWay, RecordsWay, MagStripeWay, RecordWay}
use Rattle.step_laws.proofs.Ways.{CryptogramWay, ChecksumWay, AnswerWay, answer_way, BrokenWay, broken_way}
use Rattle.cabinet.specs.State.{stored_amount_authorized}

-- ---- what a step leaves

pub record Stays (s : Session) (st : Step) : Type 0 where
  pub value : object_value (store_bytes st.reply.session) 0x9F02 ≡ object_value (store_bytes s) 0x9F02
  pub waits : (x : CommandLength) → st.reply.answer ≡ CallResult.Command x → is_running st.reply.session.phase
      ≡ true

pub stays_amount : {s : Session} {st : Step} → Stays s st → stored_amount_authorized (store_bytes st.reply.session)
    ≡ stored_amount_authorized (store_bytes s)
stays_amount w = ap (λ (v : StoredValue). amount_of (bytes_or_empty_if_absent v)) w.value

-- an end hands out no command
no_command : {A : Type 0} {e : _} {x : CommandLength} → CallResult.Outcome e ≡ CallResult.Command x → A
no_command q = let z : ◌≡◌ {A = ℕ} 0 1 = cc in absurd (omega arith)

-- no card sets the amount
not_by_card : has_bit_of_weight (row_at row_amount).setters set_by_card ≡ false
unfolding dictionary_rows
not_by_card = refl

module _ (s : Session) (set_by_card buf : List ℕ) where
  reads : (a : Awaited) → Admitted s (length buf) → object_value (store_bytes (taken a s set_by_card)) 0x9F02
      ≡ object_value (store_bytes s) 0x9F02
  reads a i = read_start a (store_bytes s) set_by_card (store_size_lem s i.ranges) 0x9F02 row_amount at_9f02 not_by_card

  stays_gpo : {st : Step} → Admitted s (length buf) → GpoWay (taken Awaited.Gpo s set_by_card) buf st → Stays s st
  stays_gpo i (GpoWay.failed m r) = record { value = reads Awaited.Gpo i; waits = λ x q. no_command q }
  stays_gpo i (GpoWay.first r m a e) = record { value = reads Awaited.Gpo i; waits = λ x q. refl }

  finds : (a : Awaited) → Admitted s (length buf) → length (store_bytes (taken a s set_by_card)) ≡ store_size
      → (let b = store_bytes (taken a s set_by_card) in object_value (store_with_findings b (findings_of b)) 0x9F02
      ≡ object_value (store_bytes s) 0x9F02)
  finds a i l =
      let b = store_bytes (taken a s set_by_card) in
      found_other b (findings_of b) l (found_length b) (bits_length b) 0x9F02 row_amount at_9f02 (λ z. omega arith)
      (λ z. omega arith) ∙ reads a i

  stays_records : (k : ℕ) (a : Awaited) {st : Step} → Admitted s (length buf)
      → length (store_bytes (taken a s set_by_card)) ≡ store_size → RecordsWay k (taken a s set_by_card) buf st → Stays s st
  stays_records k a i l (RecordsWay.failed m r x) = record { value = reads a i; waits = λ x q. no_command q }
  stays_records k a i l RecordsWay.unlisted = record { value = finds a i l; waits = λ x q. no_command q }
  stays_records k a i l (RecordsWay.asked c f g) = record { value = finds a i l; waits = λ x q. refl }

  stays_mag_stripe : (k : ℕ) (a : Awaited) {st : Step} → Admitted s (length buf)
      → MagStripeWay k (taken a s set_by_card) buf st → Stays s st
  stays_mag_stripe k a i (MagStripeWay.failed m r) = record { value = reads a i; waits = λ x q. no_command q }
  stays_mag_stripe k a i (MagStripeWay.asked c f g) = record { value = reads a i; waits = λ x q. refl }

  stays_record : (p : AwaitedRecord) (a : Awaited) {st : Step} → Admitted s (length buf)
      → length (store_bytes (taken a s set_by_card)) ≡ store_size → RecordWay p (taken a s set_by_card) buf st → Stays s st
  stays_record p a i l (RecordWay.next r e) = record { value = reads a i; waits = λ x q. refl }
  stays_record p a i l (RecordWay.last e m w) = stays_records p.limit a i l w
  stays_record p a i l (RecordWay.striped e m w) = stays_mag_stripe p.limit a i w

  stays_cryptogram : (m : ℕ) {q : Reply} → Admitted s (length buf)
      → CryptogramWay m (taken Awaited.Cryptogram s set_by_card) q → Stays s (without_command q buf)
  stays_cryptogram k i (CryptogramWay.failed m r) =
      record { value = reads Awaited.Cryptogram i; waits = λ x q. no_command q }
  stays_cryptogram k i (CryptogramWay.decides o g) =
      record { value = reads Awaited.Cryptogram i; waits = λ x q. no_command q }

  stays_checksum : {q : Reply} → Admitted s (length buf) → ChecksumWay (taken Awaited.Checksum s set_by_card) q
      → Stays s (without_command q buf)
  stays_checksum i ChecksumWay.failed = record { value = reads Awaited.Checksum i; waits = λ x q. no_command q }
  stays_checksum i ChecksumWay.declined = record { value = reads Awaited.Checksum i; waits = λ x q. no_command q }
  stays_checksum i ChecksumWay.online =
      let w = read_fits Awaited.Checksum (store_bytes s) set_by_card (store_size_lem s i.ranges) (store_fits s i.ranges)
      in
      record {
        value = digits_other (store_bytes (taken Awaited.Checksum s set_by_card)) w.0 w.1 0x9F02 row_amount at_9f02
            (λ z. omega arith) ∙ reads Awaited.Checksum i;
        waits = λ x q. no_command q;
      }

  stays_answer : {st : Step} → AnswerWay s set_by_card buf st → Stays s st
  stays_answer (AnswerWay.refused m l) =
      record { value = refl; waits = λ x q. (let z : ◌≡◌ {A = ℕ} 0 1 = cc in absurd (omega arith)) }
  stays_answer (AnswerWay.unread k m i r h x) = record { value = refl; waits = λ x q. no_command q }
  stays_answer (AnswerWay.gpo i q z w) = stays_gpo i w
  stays_answer (AnswerWay.recorded p r i q e w) =
      stays_record p (Awaited.Record (record { number = r.sfi })) i
      (read_size (Awaited.Record (record { number = r.sfi })) (store_bytes s) set_by_card (store_size_lem s i.ranges)) w
  stays_answer (AnswerWay.cryptogram a i q w) = stays_cryptogram _ i w
  stays_answer (AnswerWay.checksum k i q w) = stays_checksum i w

  pub answer_stays : Stays s (answer_step s set_by_card buf)
  answer_stays = stays_answer (answer_way s set_by_card buf)

broken_stays : (s : Session) (n : ℕ) (buf : List ℕ) → Stays s (abort_step s n buf)
broken_stays s n buf = go (broken_way s n buf)
  where
    go : {st : Step} → BrokenWay s n buf st → Stays s st
    go (BrokenWay.refused m l) =
        record { value = refl; waits = λ x q. (let z : ◌≡◌ {A = ℕ} 0 1 = cc in absurd (omega arith)) }
    go (BrokenWay.broken m i h) = record { value = refl; waits = λ x q. no_command q }

pub link_stays : (s : Session) (buf : List ℕ) → Stays s (link_failed_step s buf)
link_stays s buf = broken_stays s reason_link buf

pub stop_stays : (s : Session) (buf : List ℕ) → Stays s (stop_step s buf)
stop_stays s buf = broken_stays s reason_stopped buf
