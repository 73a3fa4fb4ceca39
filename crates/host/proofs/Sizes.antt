-- What a call hands out is small: a command has at most 261 bytes, an outcome has a reason of at most 11, a refusal is
-- at most 25. A number of 16 bits holds each.
-- Assumes nothing.
use mathlib.Core.List.{List}
use Prim.Native.Nat.{ℕ, ◌≤◌}
use native.Mathlib.Omega.{arith}
use Rattle.command.proofs.Commands.{gpo_proper, cryptogram_proper, checksum_proper}
use Rattle.analysis.specs.Choice.{generate_ac_p1}
use Rattle.session_record.specs.declared.CallResult.{CallResult}
use Rattle.session_record.specs.declared.AwaitedRecord.{AwaitedRecord}
use Rattle.session_record.specs.declared.Reply.{Reply}
use Rattle.session_record.specs.declared.Session.{Session}
use Rattle.basics.specs.Reason.{refusal_record_out_of_ranges, reason_no_supported_mode, reason_link, reason_stopped}
use Rattle.session_record.specs.Session.{store_bytes}
use Rattle.session.specs.Steps.{Step, least_buffer, link_failed_step, stop_step}
use Rattle.session.specs.Start.{start_step}
use Rattle.session.specs.Answer.{answer_step}
use Rattle.step_laws.proofs.Ways.{GpoWay, RecordsWay, MagStripeWay, RecordWay, CryptogramWay, ChecksumWay, AnswerWay}
use Rattle.step_laws.proofs.Ways.{answer_way, analysed_session, asked_by, loaded_session, StartWay, start_way, BrokenWay}
use Rattle.step_laws.proofs.Ways.{broken_way}

abbrev pub Small : CallResult → Type 0
Small (CallResult.Command c) = c.size ≤ least_buffer
Small (CallResult.Outcome e) = e.reason ≤ reason_no_supported_mode
Small (CallResult.Refused r) = r.number ≤ refusal_record_out_of_ranges

abbrev pub SmallStep : Step → Type 0
SmallStep st = Small st.reply.answer

small_cryptogram : {m : ℕ} {t : Session} {q : Reply} → CryptogramWay m t q → Small q.answer
small_cryptogram (CryptogramWay.failed n r) = r.most
small_cryptogram (CryptogramWay.decides o g) = omega arith

small_checksum : {t : Session} {q : Reply} → ChecksumWay t q → Small q.answer
small_checksum ChecksumWay.failed = omega arith
small_checksum ChecksumWay.declined = omega arith
small_checksum ChecksumWay.online = omega arith

module _ {buf : List ℕ} where
  small_gpo : {t : Session} {st : Step} → GpoWay t buf st → SmallStep st
  small_gpo (GpoWay.failed n r) = r.most
  small_gpo (GpoWay.first r m a e) = omega arith

  small_records : {l : ℕ} {t : Session} {st : Step} → RecordsWay l t buf st → SmallStep st
  small_records (RecordsWay.failed n r x) = r.most
  small_records RecordsWay.unlisted = omega arith
  small_records {l} {t} (RecordsWay.asked c f g) = (cryptogram_proper (store_bytes (analysed_session t)) c
      (generate_ac_p1 (asked_by l t).choice) g).most

  small_mag_stripe : {l : ℕ} {t : Session} {st : Step} → MagStripeWay l t buf st → SmallStep st
  small_mag_stripe (MagStripeWay.failed n r) = r.most
  small_mag_stripe {l} {t} (MagStripeWay.asked c f g) = (checksum_proper (store_bytes t) c g).most

  small_record : (p : AwaitedRecord) {t : Session} {st : Step} → RecordWay p t buf st → SmallStep st
  small_record p (RecordWay.next r e) = omega arith
  small_record p (RecordWay.last e m w) = small_records w
  small_record p (RecordWay.striped e m w) = small_mag_stripe w

  small_answer : {s : Session} {card : List ℕ} {st : Step} → AnswerWay s card buf st → SmallStep st
  small_answer (AnswerWay.refused n l) = l
  small_answer (AnswerWay.unread m n i r h x) = r.most
  small_answer (AnswerWay.gpo i q z w) = small_gpo w
  small_answer (AnswerWay.recorded p r i q e w) = small_record p w
  small_answer (AnswerWay.cryptogram a i q w) = small_cryptogram w
  small_answer (AnswerWay.checksum k i q w) = small_checksum w

  small_start : {s : Session} {bytes : List ℕ} {st : Step} → StartWay s bytes buf st → SmallStep st
  small_start (StartWay.refused n l) = l
  small_start (StartWay.unlisted b i q e) = omega arith
  small_start {s} (StartWay.asked b c i q e f) = (gpo_proper (store_bytes (loaded_session s b)) c f).most

small_broken : {s : Session} {n : ℕ} {buf : List ℕ} {st : Step} → n ≤ reason_no_supported_mode → BrokenWay s n buf st
    → SmallStep st
small_broken h (BrokenWay.refused m l) = l
small_broken h (BrokenWay.broken m i x) = h

module _ (s : Session) (bytes buf : List ℕ) where
  pub answer_small : SmallStep (answer_step s bytes buf)
  answer_small = small_answer (answer_way s bytes buf)

  pub start_small : SmallStep (start_step s bytes buf)
  start_small = small_start (start_way s bytes buf)

module _ (s : Session) (buf : List ℕ) where
  pub link_small : SmallStep (link_failed_step s buf)
  link_small = small_broken (omega arith) (broken_way s reason_link buf)

  pub stop_small : SmallStep (stop_step s buf)
  stop_small = small_broken (omega arith) (broken_way s reason_stopped buf)
