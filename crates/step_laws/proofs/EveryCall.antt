-- What holds of every call, whatever it is given: a refusal changes nothing, the count follows the commands handed out,
-- the buffer keeps its length and what is after a command, an AFL with bytes stays as it is, and a start that ends does
-- so before any command. Each goes by the ways of Ways.antt.
-- Assumes nothing.
use mathlib.Core.Path.{◌≡◌, refl, ap, subst, ◌∙◌}
use mathlib.Core.Bool.{true}
use mathlib.Core.List.{List}
use Prim.Native.Nat.{ℕ, ◌+◌, ◌≤◌}
use native.Mathlib.Omega.{arith}
use lib.ListN.{length, drop, length-append, length-drop}
use lib.Seq.{drop_at}
use Rattle.dictionary.specs.Named.{row_afl}
use Rattle.dictionary.specs.Rows.{store_size}
use Rattle.dictionary.proofs.Named.{at_94}
use Rattle.store.specs.Place.{StoredValue, bytes_or_empty_if_absent, object_value}
use Rattle.afl.specs.Records.{accepts_afl}
use Rattle.command.specs.ReadRecord.{read_record_command}
use Rattle.afl.proofs.Laws.{accepted_length}
use Rattle.reading.specs.declared.Awaited.{Awaited}
use Rattle.command.proofs.Commands.{gpo_proper, cryptogram_proper, checksum_proper}
use Rattle.analysis.specs.Action.{findings_of}
use Rattle.analysis.specs.Cvm.{cvm_number_not_applicable}
use Rattle.analysis.specs.Choice.{generate_ac_p1}
use Rattle.analysis.proofs.Laws.{found_length, bits_length}
use Rattle.session_record.specs.declared.Outcome.{Outcome}
use Rattle.session_record.specs.declared.OutcomeParameters.{OutcomeParameters}
use Rattle.session_record.specs.declared.AwaitedRecord.{AwaitedRecord}
use Rattle.session_record.specs.declared.AwaitedResponse.{AwaitedResponse}
use Rattle.session_record.specs.declared.Phase.{Phase}
use Rattle.session_record.specs.declared.CommandLength.{CommandLength}
use Rattle.session_record.specs.declared.Refusal.{Refusal}
use Rattle.session_record.specs.declared.CallResult.{CallResult}
use Rattle.session_record.specs.declared.Session.{Session}
use Rattle.session_record.specs.declared.Reply.{Reply}
use Rattle.basics.specs.Reason.{reason_dol_broken_or_bad_length, reason_link, reason_stopped}
use Rattle.session_record.specs.Session.{store_bytes, ending_of, ending_for_reason, outcome_parameters}
use Rattle.session_record.specs.Ranges.{stored_afl}
use Rattle.session_record.proofs.Stored.{empty_lacks}
use Rattle.session_record.proofs.Phases.{store_size_lem, store_fits, on_fresh_lem}
use Rattle.session.specs.Steps.{Step, refused_step, abort_step, link_failed_step, stop_step}
use Rattle.session.specs.Start.{start_step}
use Rattle.session.specs.Answer.{answer_step}
use Rattle.step_laws.proofs.Kept.{read_size, read_fits, read_value, found_other, digits_other}
use Rattle.step_laws.proofs.Ways.{without_command, ended_reply, command_step, Admitted, with_store, taken, GpoWay}
use Rattle.step_laws.proofs.Ways.{RecordsWay, MagStripeWay, RecordWay, CryptogramWay, ChecksumWay, AnswerWay}
use Rattle.step_laws.proofs.Ways.{answer_way, analysed_session, asked_by, loaded_session, StartWay, start_way}
use Rattle.step_laws.proofs.Ways.{BrokenWay, broken_way}

-- ---- how a call comes out: refused, ended, or with a command; another store, and nothing else of the record

pub data Came (s : Session) (buf : List ℕ) : Step → Type 0 where
  refused : (n : ℕ) → Came s buf (refused_step s n buf)
  ended : (m : ℕ) (b : List ℕ) (o : Outcome) (n : ℕ)
      → Came s buf (without_command (ended_reply m s.count b (ending_of o n)) buf)
  sent : (b : List ℕ) (p : AwaitedResponse) (c : List ℕ) → length c ≤ length buf
      → Came s buf (command_step s.count b p c buf)

module _ (s : Session) (card buf : List ℕ) where
  came_gpo : (b : List ℕ) {st : Step} → Admitted s (length buf) → GpoWay (with_store s b) buf st → Came s buf st
  came_gpo b i (GpoWay.failed n r) = ended _ b _ n
  came_gpo b i (GpoWay.first r m a e) = sent b _ (read_record_command r) (omega (arith, i.room))

  came_records : (l : ℕ) (b : List ℕ) {st : Step} → Admitted s (length buf) → RecordsWay l (with_store s b) buf st
      → Came s buf st
  came_records l b i (RecordsWay.failed n r x) = ended _ b _ n
  came_records l b i RecordsWay.unlisted = ended _ _ _ _
  came_records l b i (RecordsWay.asked c f g) =
      sent _ _ c
      (omega (
        arith,
        i.room,
        (cryptogram_proper (store_bytes (analysed_session (with_store s b))) c
            (generate_ac_p1 (asked_by l (with_store s b)).choice) g).most,
      ))

  came_mag_stripe : {st : Step} (l : ℕ) (b : List ℕ) → Admitted s (length buf) → MagStripeWay l (with_store s b) buf st
      → Came s buf st
  came_mag_stripe l b i (MagStripeWay.failed n r) = ended _ b _ n
  came_mag_stripe l b i (MagStripeWay.asked c f g) = sent b _ c (omega (arith, i.room, (checksum_proper b c g).most))

  came_record : {st : Step} (p : AwaitedRecord) (b : List ℕ) → Admitted s (length buf)
      → RecordWay p (with_store s b) buf st → Came s buf st
  came_record p b i (RecordWay.next r e) = sent b _ (read_record_command r) (omega (arith, i.room))
  came_record p b i (RecordWay.last e m w) = came_records p.limit b i w
  came_record p b i (RecordWay.striped e m w) = came_mag_stripe p.limit b i w

  came_cryptogram : (m : ℕ) {q : Reply} (b : List ℕ) → CryptogramWay m (with_store s b) q
      → Came s buf (without_command q buf)
  came_cryptogram m b (CryptogramWay.failed n r) = ended m b _ n
  came_cryptogram m b (CryptogramWay.decides o g) = ended m b o 0

  came_checksum : (b : List ℕ) {q : Reply} → ChecksumWay (with_store s b) q → Came s buf (without_command q buf)
  came_checksum b ChecksumWay.failed = ended _ b _ _
  came_checksum b ChecksumWay.declined = ended _ b _ 0
  came_checksum b ChecksumWay.online = ended _ _ _ 0

  came_answer : {st : Step} → AnswerWay s card buf st → Came s buf st
  came_answer (AnswerWay.refused n l) = refused n
  came_answer (AnswerWay.unread m n i r h x) = ended m (store_bytes s) _ n
  came_answer (AnswerWay.gpo i q z w) = came_gpo _ i w
  came_answer (AnswerWay.recorded p r i q e w) = came_record p _ i w
  came_answer (AnswerWay.cryptogram a i q w) = came_cryptogram _ _ w
  came_answer (AnswerWay.checksum k i q w) = came_checksum _ w

  pub answer_came : Came s buf (answer_step s card buf)
  answer_came = came_answer (answer_way s card buf)

  came_start : {st : Step} → StartWay s card buf st → Came s buf st
  came_start (StartWay.refused n l) = refused n
  came_start (StartWay.unlisted b i q e) = ended _ _ _ _
  came_start (StartWay.asked b c i q e f) =
      sent _ _ c (omega (arith, i.room, (gpo_proper (store_bytes (loaded_session s b)) c f).most))

  pub start_came : Came s buf (start_step s card buf)
  start_came = came_start (start_way s card buf)

came_broken : (s : Session) (n : ℕ) (buf : List ℕ) {st : Step} → BrokenWay s n buf st → Came s buf st
came_broken s n buf (BrokenWay.refused m l) = refused m
came_broken s n buf (BrokenWay.broken m i h) = ended m (store_bytes s) _ n

pub link_came : (s : Session) (buf : List ℕ) → Came s buf (link_failed_step s buf)
link_came s buf = came_broken s reason_link buf (broken_way s reason_link buf)

pub stop_came : (s : Session) (buf : List ℕ) → Came s buf (stop_step s buf)
stop_came s buf = came_broken s reason_stopped buf (broken_way s reason_stopped buf)

-- ---- what follows of each

-- a refusal changes nothing
pub refused_nothing : {s : Session} {buf : List ℕ} {st : Step} → Came s buf st → (r : Refusal)
    → st.reply.answer ≡ CallResult.Refused r → st ≡ refused_step s r.number buf
refused_nothing {s} {buf} (Came.refused n) r e = let z : record { number = n } ≡ r = cc in
    ap (λ (x : Refusal). refused_step s x.number buf) z
refused_nothing (Came.ended m b o n) r e = let z : ◌≡◌ {A = ℕ} 0 1 = cc in absurd (omega arith)
refused_nothing (Came.sent b p c l) r e = let z : ◌≡◌ {A = ℕ} 0 1 = cc in absurd (omega arith)

-- the count never falls
pub count_grows : {s : Session} {buf : List ℕ} {st : Step} → Came s buf st → s.count ≤ st.reply.session.count
count_grows (Came.refused n) = omega arith
count_grows (Came.ended m b o n) = omega arith
count_grows (Came.sent b p c l) = omega arith

-- with a command it is one more; without one it stays, and so does the buffer
pub record Sent (s : Session) (buf : List ℕ) (st : Step) (n : ℕ) : Type 0 where
  pub count : st.reply.session.count ≡ s.count + 1
  pub behind : drop n st.buffer ≡ drop n buf
  pub fits : n ≤ length buf

pub command_sent_lem : {s : Session} {buf : List ℕ} {st : Step} → Came s buf st → (x : CommandLength)
    → st.reply.answer ≡ CallResult.Command x → Sent s buf st x.size
command_sent_lem (Came.refused n) x e = let z : ◌≡◌ {A = ℕ} 0 1 = cc in absurd (omega arith)
command_sent_lem (Came.ended m b o n) x e = let z : ◌≡◌ {A = ℕ} 0 1 = cc in absurd (omega arith)
command_sent_lem {s} {buf} (Came.sent b p c l) x e =
    let z : record { size = length c } ≡ x = cc in
    subst (λ (y : CommandLength). Sent s buf (command_step s.count b p c buf) y.size) z
    (record { count = refl; behind = drop_at c (drop (length c) buf) (length c) refl; fits = l })

pub record Still (s : Session) (buf : List ℕ) (st : Step) : Type 0 where
  pub count : st.reply.session.count ≡ s.count
  pub buffer : st.buffer ≡ buf

pub no_command : {s : Session} {buf : List ℕ} {st : Step} → Came s buf st
    → ((x : CommandLength) → st.reply.answer ≡ CallResult.Command x → ⊥) → Still s buf st
no_command (Came.refused n) f = record { count = refl; buffer = refl }
no_command (Came.ended m b o n) f = record { count = refl; buffer = refl }
no_command (Came.sent b p c l) f = absurd (f (record { size = length c }) refl)

-- the buffer keeps its length
pub buffer_length : {s : Session} {buf : List ℕ} {st : Step} → Came s buf st → length st.buffer ≡ length buf
buffer_length (Came.refused n) = refl
buffer_length (Came.ended m b o n) = refl
buffer_length (Came.sent b p c l) = simp (length-append, length-drop) (omega arith)

-- ---- an AFL with bytes stays as it is

module _ (s : Session) (card buf : List ℕ) (n : length (stored_afl (store_bytes s)) ≡ 0 → ⊥) where
  abbrev Same : Step → Type 0
  Same st = object_value (store_bytes st.reply.session) 0x94 ≡ object_value (store_bytes s) 0x94

  reads : (a : Awaited) → Admitted s (length buf) → object_value (store_bytes (taken a s card)) 0x94
      ≡ object_value (store_bytes s) 0x94
  reads a i = read_value a (store_bytes s) card (store_size_lem s i.ranges) 0x94 row_afl at_94 n

  same_gpo : {st : Step} → Admitted s (length buf) → GpoWay (taken Awaited.Gpo s card) buf st → Same st
  same_gpo i (GpoWay.failed m r) = reads Awaited.Gpo i
  same_gpo i (GpoWay.first r m a e) = reads Awaited.Gpo i

  same_records : (k : ℕ) (a : Awaited) {st : Step} → Admitted s (length buf) → length (store_bytes (taken a s card))
      ≡ store_size → RecordsWay k (taken a s card) buf st → Same st
  same_records k a i l (RecordsWay.failed m r x) = reads a i
  same_records k a i l RecordsWay.unlisted =
      let b = store_bytes (taken a s card) in
      found_other b (findings_of b) l (found_length b) (bits_length b) 0x94 row_afl at_94 (λ z. omega arith)
      (λ z. omega arith) ∙ reads a i
  same_records k a i l (RecordsWay.asked c f g) =
      let b = store_bytes (taken a s card) in
      found_other b (findings_of b) l (found_length b) (bits_length b) 0x94 row_afl at_94 (λ z. omega arith)
      (λ z. omega arith) ∙ reads a i

  same_mag_stripe : (k : ℕ) (a : Awaited) {st : Step} → Admitted s (length buf) → MagStripeWay k (taken a s card) buf st
      → Same st
  same_mag_stripe k a i (MagStripeWay.failed m r) = reads a i
  same_mag_stripe k a i (MagStripeWay.asked c f g) = reads a i

  same_record_lem : (p : AwaitedRecord) (a : Awaited) {st : Step} → Admitted s (length buf)
      → length (store_bytes (taken a s card)) ≡ store_size → RecordWay p (taken a s card) buf st → Same st
  same_record_lem p a i l (RecordWay.next r e) = reads a i
  same_record_lem p a i l (RecordWay.last e m w) = same_records p.limit a i l w
  same_record_lem p a i l (RecordWay.striped e m w) = same_mag_stripe p.limit a i w

  same_cryptogram : (m : ℕ) {q : Reply} → Admitted s (length buf) → CryptogramWay m (taken Awaited.Cryptogram s card) q
      → Same (without_command q buf)
  same_cryptogram k i (CryptogramWay.failed m r) = reads Awaited.Cryptogram i
  same_cryptogram k i (CryptogramWay.decides o g) = reads Awaited.Cryptogram i

  same_checksum : {q : Reply} → Admitted s (length buf) → ChecksumWay (taken Awaited.Checksum s card) q
      → Same (without_command q buf)
  same_checksum i ChecksumWay.failed = reads Awaited.Checksum i
  same_checksum i ChecksumWay.declined = reads Awaited.Checksum i
  same_checksum i ChecksumWay.online =
      let w = read_fits Awaited.Checksum (store_bytes s) card (store_size_lem s i.ranges) (store_fits s i.ranges) in
      digits_other (store_bytes (taken Awaited.Checksum s card)) w.0 w.1 0x94 row_afl at_94 (λ z. omega arith) ∙
      reads Awaited.Checksum i

  same_answer : {st : Step} → AnswerWay s card buf st → Same st
  same_answer (AnswerWay.refused m l) = refl
  same_answer (AnswerWay.unread k m i r h x) = refl
  same_answer (AnswerWay.gpo i q z w) = same_gpo i w
  same_answer (AnswerWay.recorded p r i q e w) =
      same_record_lem p (Awaited.Record (record { number = r.sfi })) i
      (read_size (Awaited.Record (record { number = r.sfi })) (store_bytes s) card (store_size_lem s i.ranges)) w
  same_answer (AnswerWay.cryptogram a i q w) = same_cryptogram _ i w
  same_answer (AnswerWay.checksum k i q w) = same_checksum i w

  pub answer_afl : Same (answer_step s card buf)
  answer_afl = same_answer (answer_way s card buf)

  -- a start meets none
  never_fresh : Admitted s (length buf) → s.phase ≡ Phase.Fresh → ⊥
  never_fresh i q =
      n (ap (λ (x : StoredValue). length (bytes_or_empty_if_absent x))
      (ap (λ (d : List ℕ). object_value d 0x94) (on_fresh_lem s i.ranges q).store ∙ empty_lacks 0x94))

  same_start : {st : Step} → StartWay s card buf st → Same st
  same_start (StartWay.refused m l) = refl
  same_start (StartWay.unlisted b i q e) = absurd (never_fresh i q)
  same_start (StartWay.asked b c i q e f) = absurd (never_fresh i q)

  pub start_afl : Same (start_step s card buf)
  start_afl = same_start (start_way s card buf)

-- link failed and stop leave the whole store
broken_store : (s : Session) (n : ℕ) (buf : List ℕ) → store_bytes (abort_step s n buf).reply.session ≡ store_bytes s
broken_store s n buf = go (broken_way s n buf)
  where
    go : {st : Step} → BrokenWay s n buf st → store_bytes st.reply.session ≡ store_bytes s
    go (BrokenWay.refused m l) = refl
    go (BrokenWay.broken m i h) = refl

pub link_store : (s : Session) (buf : List ℕ) → store_bytes (link_failed_step s buf).reply.session ≡ store_bytes s
link_store s buf = broken_store s reason_link buf

pub stop_store : (s : Session) (buf : List ℕ) → store_bytes (stop_step s buf).reply.session ≡ store_bytes s
stop_store s buf = broken_store s reason_stopped buf

-- an accepted AFL is one with bytes
pub accepted_bytes : (s : Session) → accepts_afl (stored_afl (store_bytes s)) ≡ true → length (stored_afl (store_bytes s))
    ≡ 0 → ⊥
accepted_bytes s a z = omega (arith, (accepted_length (stored_afl (store_bytes s)) a).1)

-- ---- a start that ends the session: its list gives no command (7), and none was handed out

pub start_ended : (s : Session) (bytes buf : List ℕ) (e : OutcomeParameters) → (start_step s bytes buf).reply.answer
    ≡ CallResult.Outcome e
    → (e ≡ outcome_parameters (ending_for_reason reason_dol_broken_or_bad_length) cvm_number_not_applicable)
    × ((start_step s bytes buf).reply.session.count ≡ 0)
start_ended s bytes buf e = go (start_way s bytes buf)
  where
    go : {st : Step} → StartWay s bytes buf st → st.reply.answer ≡ CallResult.Outcome e
        → (e ≡ outcome_parameters (ending_for_reason reason_dol_broken_or_bad_length) cvm_number_not_applicable)
        × (st.reply.session.count ≡ 0)
    go (StartWay.refused n l) p = let z : ◌≡◌ {A = ℕ} 0 1 = cc in absurd (omega arith)
    go (StartWay.unlisted b i q l) p = (cc, (on_fresh_lem s i.ranges q).count)
    go (StartWay.asked b c i q l f) p = let z : ◌≡◌ {A = ℕ} 0 1 = cc in absurd (omega arith)
