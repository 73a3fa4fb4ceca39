-- The ways out of each call's step, with what is known on each: a call's step is one of them, and every law on steps
-- goes by these cases.
-- Assumes nothing.
use Rattle.std.specs.Prelude.{Some, None, Option}
use mathlib.Core.Path.{◌≡◌, refl, sym, ap}
use mathlib.Core.Bool.{true, false}
use mathlib.Core.List.{List}
use Prim.Native.Nat.{ℕ, ◌+◌, ◌/◌, ◌≤◌}
use native.Mathlib.Omega.{arith}
use lib.ListN.{length}
use borrow.Author.Tests.{eqb-true, eqb-false, ltb-false, not-false}
use Rattle.basics.proofs.Laws.{if_ind}
use Rattle.afl.specs.declared.CardRecord.{CardRecord}
use Rattle.afl.specs.Records.{accepts_afl, kth_record_of_accepted_afl}
use Rattle.command.specs.ReadRecord.{read_record_command}
use Rattle.reading.specs.declared.Awaited.{Awaited}
use Rattle.reading.specs.Answer as reading
use Rattle.command.specs.WithList.{get_processing_options, generate_ac, compute_cryptographic_checksum}
use Rattle.analysis.specs.declared.choice.Choice.{Choice}
use Rattle.analysis.specs.Choice.{generate_ac_p1}
use Rattle.analysis.specs.Action.{transaction_limit, findings_of}
use Rattle.analysis.specs.Cvm.{cvm_number, cvm_number_not_applicable}
use Rattle.session_record.specs.declared.Outcome.{Outcome}
use Rattle.session_record.specs.declared.AwaitedRecord.{AwaitedRecord}
use Rattle.session_record.specs.declared.RequestedCryptogram.{RequestedCryptogram}
use Rattle.session_record.specs.declared.AwaitedChecksum.{AwaitedChecksum}
use Rattle.session_record.specs.declared.AwaitedResponse.{AwaitedResponse}
use Rattle.session_record.specs.declared.Phase.{Phase}
use Rattle.session_record.specs.declared.Session.{Session}
use Rattle.session_record.specs.declared.Reply.{Reply}
use Rattle.session_record.specs.Numbers.{reason_matches_outcome}
use Rattle.basics.specs.Reason.{refusal_bad_start_bytes, refusal_wrong_phase, refusal_buffer_too_small, refusal_bad_start_object}
use Rattle.basics.specs.Reason.{refusal_required_object_absent, refusal_record_out_of_ranges, reason_none}
use Rattle.basics.specs.Reason.{reason_object_not_allowed, reason_object_missing, reason_afl_invalid, reason_above_limit}
use Rattle.basics.specs.Reason.{reason_dol_broken_or_bad_length, reason_cryptogram_type_not_allowed, reason_no_supported_mode}
use Rattle.session_record.specs.declared.Ending.{Ending}
use Rattle.session_record.specs.Session.{store_bytes, ending_of, ending_for_reason, reply_of, ending_transition}
use Rattle.store.specs.Held.{stored_byte}
use Rattle.session_record.specs.Ranges.{emv_mode, emv_or_mag_stripe_mode, stored_afl, expiry_pan_and_cdol1_non_empty}
use Rattle.session_record.specs.Ranges.{track2_and_bitmaps_non_empty, zero_tvr, session_record_in_ranges}
use Rattle.session_record.proofs.Reasons.{decided}
use Rattle.tlv.specs.Primitives.{Object, primitive_objects}
use Rattle.start_data.specs.StartData.{LoadedStore, refusal, loaded, set_start_objects, loaded_after_setting}
use Rattle.start_data.specs.StartData.{loaded_from_objects, load_start_bytes}
use Rattle.session.specs.Steps.{NextAction, ask, end, held_cvm, request_command_or_end_for_dol, reason_of_next}
use Rattle.session.specs.Steps.{read_response_then, store_with_tvr, store_with_findings}
use Rattle.session.specs.Steps.{Step, CallEffect, step_of_next, refused_step, step_of_effect, least_buffer, step_if_admitted}
use Rattle.session.specs.Steps.{effect_if_running, abort_step}
use Rattle.session.specs.Start.{request_gpo, start_effect_after_loading, start_effect, start_step}
use Rattle.session.specs.Answer.{awaited_record_with_limit, request_kth_record_if_found, next_after_gpo_read, next_on_gpo_response}
use Rattle.session.specs.Answer.{request_cryptogram, requested_cryptogram, next_after_records_in_emv_mode, next_after_last_record}
use Rattle.session.specs.Answer.{next_after_record_read, next_on_response_for_record_found, next_on_record_response}
use Rattle.session.specs.Answer.{outcome_for_arqc, outcome_for_tc, outcome_for_cryptogram_type, ending_for_decision}
use Rattle.session.specs.Answer.{cryptogram_ending, next_after_cryptogram_read, next_on_cryptogram_response, next_on_response}
use Rattle.session.specs.Answer.{answer_step}
use Rattle.session.specs.MagStripe.{awaited_checksum_with_limit, request_checksum, next_after_records_in_mag_stripe_mode}
use Rattle.session.specs.MagStripe.{store_with_track_digits, next_after_checksum_read, next_if_track_takes_digits}
use Rattle.session.specs.MagStripe.{next_on_checksum_response}
use Rattle.session.proofs.Laws.{read_ind}

-- the session with a store of these bytes
abbrev pub with_store : Session → List ℕ → Session
with_store s b = record { phase = s.phase; count = s.count; store = record { bytes = b } }

-- ---- the forms of a step

-- no command: the whole buffer stays
abbrev pub without_command : Reply → List ℕ → Step
without_command r buf = record { reply = r; buffer = buf }

-- a session of count n and store b ends; m is the number of the CVM that is reported
abbrev pub ended_reply : ℕ → ℕ → List ℕ → Ending → Reply
ended_reply m n b e = reply_of (ending_transition m n e) b

-- it ends for a reason other than 0
abbrev pub failed_step : ℕ → ℕ → List ℕ → ℕ → List ℕ → Step
failed_step m n b r buf = step_of_next n buf (end (ending_for_reason r) m b)

-- a command, and what is awaited
abbrev pub command_step : ℕ → List ℕ → AwaitedResponse → List ℕ → List ℕ → Step
command_step n b w c buf = step_of_next n buf (ask c w b)

-- a reason that ends a session
pub record Reason (n : ℕ) : Type 0 where
  pub least : 1 ≤ n
  pub most : n ≤ reason_no_supported_mode

reason : (n : ℕ) → 1 ≤ n → n ≤ 11 → Reason n
reason n l m = record { least = l; most = m }

-- ---- the refusals that every call checks first

-- a call is admitted: the buffer has room, and the record is in its ranges
pub record Admitted (s : Session) (size : ℕ) : Type 0 where
  pub room : least_buffer ≤ size
  pub ranges : session_record_in_ranges s ≡ true

admitted_ind : (P : Step → Type 0) (s : Session) (buf : List ℕ) (x : CallEffect)
    → ((n : ℕ) → n ≤ refusal_record_out_of_ranges → P (refused_step s n buf))
    → (Admitted s (length buf) → P (step_of_effect s buf x)) → P (step_if_admitted s buf x)
unfolding step_if_admitted
admitted_ind P s buf x f g =
    if_ind P _ _ _ (λ e. f refusal_buffer_too_small (omega arith))
    (λ e. if_ind P _ _ _ (λ r. f refusal_record_out_of_ranges (omega arith))
    (λ r. g (record { room = ltb-false (length buf) least_buffer e; ranges = not-false _ r })))

-- ---- an answer

-- the session with the store that the reading of an answer leaves
abbrev pub taken : Awaited → Session → List ℕ → Session
taken a s card = with_store s (reading.read_answer a (store_bytes s) card).store

-- the reading gives a reason, or none
reading_ind : (P : NextAction → Type 0) (a : Awaited) (m : ℕ) (b card : List ℕ) (next : List ℕ → NextAction)
    → let o = reading.read_answer a b card in
    ((o.reason ≡ 0 → ⊥) → P (end (ending_for_reason o.reason) m b)) → (o.reason ≡ 0 → P (next o.store))
    → P (read_response_then a m b card next)
unfolding read_response_then
reading_ind P a m b card next f g = if_ind P _ _ _ (λ e. g (eqb-true _ 0 e)) (λ e. f (eqb-false _ 0 e))

-- a reading's reason is 1 to 3, or none
few_reasons : (a : Awaited) (b s : List ℕ) → (reading.read_answer a b s).reason ≤ 3
few_reasons a b s = read_ind (λ (o : reading.ReadingOutcome). o.reason ≤ 3) b (λ r n h. h) (λ n c. omega arith) a s

pub unread_reason : (a : Awaited) (b s : List ℕ) → ((reading.read_answer a b s).reason ≡ 0 → ⊥)
    → Reason (reading.read_answer a b s).reason
unread_reason a b s z = let f = few_reasons a b s in reason _ (omega arith) (omega arith)

not_list : (a : Awaited) (b s : List ℕ) → (reading.read_answer a b s).reason ≡ reason_dol_broken_or_bad_length → ⊥
not_list a b s z = let f = few_reasons a b s in omega arith

-- ---- after GPO

-- a store that gives no reason is in one of the modes with an accepted AFL
pub stored_none : (b : List ℕ) → reason_of_next (next_after_gpo_read b) ≡ reason_none → (emv_or_mag_stripe_mode b ≡ true)
    × (accepts_afl (stored_afl b) ≡ true)
unfolding next_after_gpo_read
stored_none b =
    if_ind P _ _ _ (λ t e. absurd (omega arith))
    (λ t. if_ind P _ _ _ (λ m e. absurd (omega arith))
    (λ m. if_ind P _ _ _ (λ a e. absurd (omega arith)) (λ a e. (not-false _ m, not-false _ a))))
  where
    P : NextAction → Type 0
    P x = reason_of_next x ≡ reason_none → (emv_or_mag_stripe_mode b ≡ true) × (accepts_afl (stored_afl b) ≡ true)

pub data GpoWay (t : Session) (buf : List ℕ) : Step → Type 0 where
  failed : (n : ℕ) → Reason n → GpoWay t buf (failed_step cvm_number_not_applicable t.count (store_bytes t) n buf)
  first : (r : CardRecord) → emv_or_mag_stripe_mode (store_bytes t) ≡ true → accepts_afl (stored_afl (store_bytes t)) ≡ true
      → kth_record_of_accepted_afl (stored_afl (store_bytes t)) 1 ≡ Some r
      → GpoWay t buf (command_step t.count (store_bytes t) (awaited_record_with_limit (transaction_limit (store_bytes t)) 1)
      (read_record_command r) buf)

pub gpo_way : (t : Session) (buf : List ℕ) → GpoWay t buf (step_of_next t.count buf (next_after_gpo_read (store_bytes t)))
unfolding next_after_gpo_read
gpo_way t buf =
    if_ind P _ _ _ (λ e. failed reason_object_missing (reason 4 (omega arith) (omega arith)))
    (λ e. if_ind P _ _ _ (λ m. failed reason_no_supported_mode (reason 11 (omega arith) (omega arith)))
    (λ m. if_ind P _ _ _ (λ a. failed reason_afl_invalid (reason 5 (omega arith) (omega arith)))
    (λ a. go (not-false _ m) (not-false _ a) (kth_record_of_accepted_afl (stored_afl (store_bytes t)) 1) refl)))
  where
    P : NextAction → Type 0
    P x = GpoWay t buf (step_of_next t.count buf x)

    go : emv_or_mag_stripe_mode (store_bytes t) ≡ true → accepts_afl (stored_afl (store_bytes t)) ≡ true → (x : Option CardRecord)
        → kth_record_of_accepted_afl (stored_afl (store_bytes t)) 1 ≡ x
        → P (request_kth_record_if_found (transaction_limit (store_bytes t)) 1 (store_bytes t)
        (end (ending_for_reason reason_afl_invalid) cvm_number_not_applicable (store_bytes t)) x)
    go m a None e = failed reason_afl_invalid (reason 5 (omega arith) (omega arith))
    go m a (Some r) e = first r m a e

-- ---- after the last record in EMV mode

-- the session with 9F34 and its TVR, and what is requested with a limit
abbrev pub analysed_session : Session → Session
analysed_session t = with_store t (store_with_findings (store_bytes t) (findings_of (store_bytes t)))

abbrev pub asked_by : ℕ → Session → RequestedCryptogram
asked_by l t = requested_cryptogram l (store_bytes t)

pub data RecordsWay (l : ℕ) (t : Session) (buf : List ℕ) : Step → Type 0 where
  failed : (n : ℕ) → Reason n → (n ≡ reason_dol_broken_or_bad_length → ⊥)
      → RecordsWay l t buf (failed_step cvm_number_not_applicable t.count (store_bytes t) n buf)
  unlisted : RecordsWay l t buf (failed_step (cvm_number (asked_by l t).cvm) t.count (store_bytes (analysed_session t))
      reason_dol_broken_or_bad_length buf)
  asked : (c : List ℕ) → expiry_pan_and_cdol1_non_empty (store_bytes t) ≡ true
      → generate_ac (generate_ac_p1 (asked_by l t).choice) (store_bytes (analysed_session t)) ≡ Some c
      → RecordsWay l t buf (command_step t.count (store_bytes (analysed_session t))
      (AwaitedResponse.Cryptogram (asked_by l t)) c buf)

pub records_way : (l : ℕ) (t : Session) (buf : List ℕ)
    → RecordsWay l t buf (step_of_next t.count buf (next_after_records_in_emv_mode l (store_bytes t)))
unfolding next_after_records_in_emv_mode request_cryptogram
records_way l t buf =
    if_ind P _ _ _ (λ e. failed reason_above_limit (reason 6 (omega arith) (omega arith)) (λ z. omega arith))
    (λ e. if_ind P _ _ _ (λ f. failed reason_object_missing (reason 4 (omega arith) (omega arith)) (λ z. omega arith))
    (λ f. go (not-false _ f) (generate_ac (generate_ac_p1 (asked_by l t).choice) (store_bytes (analysed_session t))) refl))
  where
    P : NextAction → Type 0
    P x = RecordsWay l t buf (step_of_next t.count buf x)

    go : expiry_pan_and_cdol1_non_empty (store_bytes t) ≡ true → (x : Option (List ℕ))
        → generate_ac (generate_ac_p1 (asked_by l t).choice) (store_bytes (analysed_session t)) ≡ x
        → P (request_command_or_end_for_dol (AwaitedResponse.Cryptogram (asked_by l t)) (store_bytes (analysed_session t)) x)
    go f None e = unlisted
    go f (Some c) e = asked c f e

-- ---- after the last record in mag-stripe mode

pub data MagStripeWay (l : ℕ) (t : Session) (buf : List ℕ) : Step → Type 0 where
  failed : (n : ℕ) → Reason n → MagStripeWay l t buf (failed_step cvm_number_not_applicable t.count (store_bytes t) n buf)
  asked : (c : List ℕ) → track2_and_bitmaps_non_empty (store_bytes t) ≡ true → compute_cryptographic_checksum (store_bytes t)
      ≡ Some c
      → MagStripeWay l t buf (command_step t.count (store_bytes t) (awaited_checksum_with_limit l) c buf)

mag_stripe_way : (l : ℕ) (t : Session) (buf : List ℕ)
    → MagStripeWay l t buf (step_of_next t.count buf (next_after_records_in_mag_stripe_mode l (store_bytes t)))
unfolding next_after_records_in_mag_stripe_mode request_checksum
mag_stripe_way l t buf =
    if_ind P _ _ _ (λ e. failed reason_above_limit (reason 6 (omega arith) (omega arith)))
    (λ e. if_ind P _ _ _ (λ f. failed reason_object_missing (reason 4 (omega arith) (omega arith)))
    (λ f. go (not-false _ f) (compute_cryptographic_checksum (store_bytes t)) refl))
  where
    P : NextAction → Type 0
    P x = MagStripeWay l t buf (step_of_next t.count buf x)

    go : track2_and_bitmaps_non_empty (store_bytes t) ≡ true → (x : Option (List ℕ))
        → compute_cryptographic_checksum (store_bytes t) ≡ x
        → P (request_command_or_end_for_dol (awaited_checksum_with_limit l) (store_bytes t) x)
    go f None e = failed reason_dol_broken_or_bad_length (reason 7 (omega arith) (omega arith))
    go f (Some c) e = asked c f e

-- ---- after a record

pub data RecordWay (p : AwaitedRecord) (t : Session) (buf : List ℕ) : Step → Type 0 where
  next : (r : CardRecord) → kth_record_of_accepted_afl (stored_afl (store_bytes t)) (p.number + 1) ≡ Some r
      → RecordWay p t buf (command_step t.count (store_bytes t) (awaited_record_with_limit p.limit (p.number + 1))
      (read_record_command r) buf)
  last : {st : Step} → kth_record_of_accepted_afl (stored_afl (store_bytes t)) (p.number + 1) ≡ None
      → emv_mode (store_bytes t) ≡ true → RecordsWay p.limit t buf st
      → RecordWay p t buf st
  striped : {st : Step} → kth_record_of_accepted_afl (stored_afl (store_bytes t)) (p.number + 1) ≡ None
      → emv_mode (store_bytes t) ≡ false → MagStripeWay p.limit t buf st
      → RecordWay p t buf st

pub record_way : (p : AwaitedRecord) (t : Session) (buf : List ℕ)
    → RecordWay p t buf (step_of_next t.count buf (next_after_record_read p (store_bytes t)))
unfolding next_after_record_read next_after_last_record
record_way p t buf = go (kth_record_of_accepted_afl (stored_afl (store_bytes t)) (p.number + 1)) refl
  where
    go : (x : Option CardRecord) → kth_record_of_accepted_afl (stored_afl (store_bytes t)) (p.number + 1) ≡ x
        → RecordWay p t buf
        (step_of_next t.count buf (request_kth_record_if_found p.limit (p.number + 1) (store_bytes t)
        (next_after_last_record p.limit (store_bytes t)) x))
    go None e = if_ind (λ (x : NextAction). RecordWay p t buf (step_of_next t.count buf x)) _ _ _
        (λ m. last e m (records_way p.limit t buf)) (λ m. striped e m (mag_stripe_way p.limit t buf))
    go (Some r) e = next r e

-- ---- after the cryptogram

pub data CryptogramWay (m : ℕ) (t : Session) : Reply → Type 0 where
  failed : (n : ℕ) → Reason n → CryptogramWay m t (ended_reply m t.count (store_bytes t) (ending_for_reason n))
  decides : (o : Outcome) → reason_matches_outcome o reason_none ≡ true
      → CryptogramWay m t (ended_reply m t.count (store_bytes t) (ending_of o reason_none))

-- a decision has no reason
abbrev Fine : Option Outcome → Type 0
Fine None = Unit {0}
Fine (Some o) = reason_matches_outcome o reason_none ≡ true

fine_online : (c : Choice) → Fine (outcome_for_arqc c)
fine_online Choice.Decline = tt
fine_online Choice.Online = decided.1
fine_online Choice.Offline = decided.1

fine_approved : (c : Choice) → Fine (outcome_for_tc c)
fine_approved Choice.Decline = tt
fine_approved Choice.Online = tt
fine_approved Choice.Offline = decided.0

fine_decision : (c : Choice) (kind : ℕ) → Fine (outcome_for_cryptogram_type c kind)
unfolding outcome_for_cryptogram_type
fine_decision c kind =
    if_ind Fine _ _ _ (λ e. decided.2)
    (λ e. if_ind Fine _ _ _ (λ f. fine_online c) (λ f. if_ind Fine _ _ _ (λ g. fine_approved c) (λ g. tt)))

pub cryptogram_way : (a : RequestedCryptogram) (t : Session)
    → CryptogramWay (cvm_number a.cvm) t (ended_reply (cvm_number a.cvm) t.count (store_bytes t)
    (cryptogram_ending a (store_bytes t)))
unfolding cryptogram_ending
cryptogram_way a t =
    if_ind (λ (e : Ending). CryptogramWay m t (ended_reply m t.count (store_bytes t) e)) _ _ _
    (λ e. failed reason_object_missing (reason 4 (omega arith) (omega arith)))
    (λ e. go (outcome_for_cryptogram_type a.choice (stored_byte (store_bytes t) 0x9F27 1 / 64))
    (fine_decision a.choice (stored_byte (store_bytes t) 0x9F27 1 / 64)))
  where
    m : ℕ
    m = cvm_number a.cvm

    go : (o : Option Outcome) → Fine o
        → CryptogramWay m t (ended_reply m t.count (store_bytes t) (ending_for_decision o))
    go None f = failed reason_cryptogram_type_not_allowed (reason 8 (omega arith) (omega arith))
    go (Some o) f = decides o f

-- ---- after the checksum

pub data ChecksumWay (t : Session) : Reply → Type 0 where
  failed : ChecksumWay t (ended_reply cvm_number_not_applicable t.count (store_bytes t)
      (ending_for_reason reason_object_missing))
  declined : ChecksumWay t (ended_reply cvm_number_not_applicable t.count (store_bytes t)
      (ending_of Outcome.Declined reason_none))
  online : ChecksumWay t (ended_reply cvm_number_not_applicable t.count (store_with_track_digits (store_bytes t))
      (ending_of Outcome.OnlineRequest reason_none))

-- ---- the CVM that a session holds

-- its number: not applicable but while the cryptogram is awaited
abbrev pub held_number : Phase → ℕ
held_number Phase.Fresh = cvm_number_not_applicable
held_number (Phase.Waiting w) = held_cvm w
held_number (Phase.Ended e) = cvm_number_not_applicable

-- ---- the call answer

pub data AnswerWay (s : Session) (card buf : List ℕ) : Step → Type 0 where
  refused : (n : ℕ) → n ≤ refusal_record_out_of_ranges → AnswerWay s card buf (refused_step s n buf)
  unread : (m n : ℕ) → Admitted s (length buf) → Reason n → m ≡ held_number s.phase
      → (n ≡ reason_dol_broken_or_bad_length → ⊥) → AnswerWay s card buf (failed_step m s.count (store_bytes s) n buf)
  gpo : {st : Step} → Admitted s (length buf) → s.phase ≡ Phase.Waiting AwaitedResponse.Gpo
      → (reading.read_answer Awaited.Gpo (store_bytes s) card).reason ≡ 0
      → GpoWay (taken Awaited.Gpo s card) buf st → AnswerWay s card buf st
  recorded : {st : Step} (p : AwaitedRecord) (r : CardRecord) → Admitted s (length buf)
      → s.phase ≡ Phase.Waiting (AwaitedResponse.Record p) → kth_record_of_accepted_afl (stored_afl (store_bytes s))
      p.number ≡ Some r
      → RecordWay p (taken (Awaited.Record (record { number = r.sfi })) s card) buf st → AnswerWay s card buf st
  cryptogram : {q : Reply} (a : RequestedCryptogram) → Admitted s (length buf)
      → s.phase ≡ Phase.Waiting (AwaitedResponse.Cryptogram a)
      → CryptogramWay (cvm_number a.cvm) (taken Awaited.Cryptogram s card) q
      → AnswerWay s card buf (without_command q buf)
  checksum : {q : Reply} (k : AwaitedChecksum) → Admitted s (length buf)
      → s.phase ≡ Phase.Waiting (AwaitedResponse.Checksum k) → ChecksumWay (taken Awaited.Checksum s card) q
      → AnswerWay s card buf (without_command q buf)

module _ (s : Session) (card buf : List ℕ) (i : Admitted s (length buf)) where
  abbrev P : NextAction → Type 0
  P x = AnswerWay s card buf (step_of_next s.count buf x)

  -- the reading's reason, or what follows it
  step_read : (a : Awaited) (w : AwaitedResponse) (f : List ℕ → NextAction) → s.phase ≡ Phase.Waiting w
      → ((reading.read_answer a (store_bytes s) card).reason ≡ 0 → P (f (reading.read_answer a (store_bytes s) card).store))
      → P (read_response_then a (held_cvm w) (store_bytes s) card f)
  step_read a w f q g =
      reading_ind P a (held_cvm w) (store_bytes s) card f
      (λ z. unread _ _ i (unread_reason a (store_bytes s) card z) (sym (ap held_number q))
      (not_list a (store_bytes s) card)) g

  step_gpo : s.phase ≡ Phase.Waiting AwaitedResponse.Gpo → P (next_on_gpo_response (store_bytes s) card)
  unfolding next_on_gpo_response
  step_gpo q = step_read Awaited.Gpo AwaitedResponse.Gpo next_after_gpo_read q
      (λ z. gpo i q z (gpo_way (taken Awaited.Gpo s card) buf))

  step_record : (p : AwaitedRecord) → s.phase ≡ Phase.Waiting (AwaitedResponse.Record p)
      → P (next_on_record_response p (store_bytes s) card)
  unfolding next_on_record_response
  step_record p q = go (kth_record_of_accepted_afl (stored_afl (store_bytes s)) p.number) refl
    where
      go : (x : Option CardRecord) → kth_record_of_accepted_afl (stored_afl (store_bytes s)) p.number ≡ x
          → P (next_on_response_for_record_found p (store_bytes s) card x)
      go None e = unread _ reason_afl_invalid i (reason 5 (omega arith) (omega arith))
          (sym (ap held_number q)) (λ z. omega arith)
      go (Some r) e =
          step_read (Awaited.Record (record { number = r.sfi })) (AwaitedResponse.Record p) (next_after_record_read p) q
          (λ z. recorded p r i q e (record_way p (taken (Awaited.Record (record { number = r.sfi })) s card) buf))

  step_cryptogram : (a : RequestedCryptogram) → s.phase ≡ Phase.Waiting (AwaitedResponse.Cryptogram a)
      → P (next_on_cryptogram_response a (store_bytes s) card)
  unfolding next_on_cryptogram_response
  step_cryptogram a q =
      step_read Awaited.Cryptogram (AwaitedResponse.Cryptogram a) (next_after_cryptogram_read a) q
      (λ z. cryptogram a i q (cryptogram_way a (taken Awaited.Cryptogram s card)))

  -- a track that cannot take the digits leaves the store, as a reading that gives a reason does
  step_checksum : (k : AwaitedChecksum) → s.phase ≡ Phase.Waiting (AwaitedResponse.Checksum k)
      → P (next_on_checksum_response (store_bytes s) card)
  unfolding next_on_checksum_response next_if_track_takes_digits next_after_checksum_read
  step_checksum k q =
      step_read Awaited.Checksum (AwaitedResponse.Checksum k) (next_if_track_takes_digits (store_bytes s)) q
      (λ z. if_ind P _ _ _
      (λ e. if_ind P _ _ _ (λ f. checksum k i q ChecksumWay.failed)
      (λ f. if_ind P _ _ _ (λ g. checksum k i q ChecksumWay.declined) (λ g. checksum k i q ChecksumWay.online)))
      (λ e. unread _ reason_object_not_allowed i (reason 3 (omega arith) (omega arith)) (sym (ap held_number q))
      (λ y. omega arith)))

  step_awaited : (w : AwaitedResponse) → s.phase ≡ Phase.Waiting w → P (next_on_response (store_bytes s) card w)
  step_awaited AwaitedResponse.Gpo q = step_gpo q
  step_awaited (AwaitedResponse.Record p) q = step_record p q
  step_awaited (AwaitedResponse.Cryptogram a) q = step_cryptogram a q
  step_awaited (AwaitedResponse.Checksum k) q = step_checksum k q

  step_in : (p : Phase) → s.phase ≡ p
      → AnswerWay s card buf (step_of_effect s buf (effect_if_running p (next_on_response (store_bytes s) card)))
  step_in Phase.Fresh q = refused refusal_wrong_phase (omega arith)
  step_in (Phase.Waiting w) q = step_awaited w q
  step_in (Phase.Ended e) q = refused refusal_wrong_phase (omega arith)

pub answer_way : (s : Session) (card buf : List ℕ) → AnswerWay s card buf (answer_step s card buf)
answer_way s card buf = admitted_ind (AnswerWay s card buf) s buf _ refused (λ i. step_in s card buf i s.phase refl)

-- ---- the call start

-- a loading is refused by 20, 23 or 24
pub load_most : (b bytes : List ℕ) (n : ℕ) → load_start_bytes b bytes ≡ refusal n → n ≤ refusal_required_object_absent
unfolding load_start_bytes
load_most b bytes n = if_ind P _ _ _ (λ e. by_run (primitive_objects bytes))
    (λ e. few refusal_bad_start_bytes (omega arith))
  where
    P : LoadedStore → Type 0
    P x = x ≡ refusal n → n ≤ refusal_required_object_absent

    few : (m : ℕ) → m ≤ refusal_required_object_absent → P (refusal m)
    few m h e = let z : m ≡ n = cc in omega arith

    by_set : (x : Option (List ℕ)) → P (loaded_after_setting x)
    by_set None = few refusal_bad_start_object (omega arith)
    by_set (Some c) = if_ind P _ _ _ (λ t e. let z : ◌≡◌ {A = ℕ} 0 1 = cc in absurd (omega arith))
        (λ t. few refusal_required_object_absent (omega arith))

    by_run : (x : Option (List Object)) → P (loaded_from_objects b x)
    by_run None = few refusal_bad_start_bytes (omega arith)
    by_run (Some os) = by_set (set_start_objects b os)

-- the session with the store that a start loaded
abbrev pub loaded_session : Session → List ℕ → Session
loaded_session s b = with_store s (store_with_tvr b zero_tvr)

pub data StartWay (s : Session) (bytes buf : List ℕ) : Step → Type 0 where
  refused : (n : ℕ) → n ≤ refusal_record_out_of_ranges → StartWay s bytes buf (refused_step s n buf)
  unlisted : (b : List ℕ) → Admitted s (length buf) → s.phase ≡ Phase.Fresh → load_start_bytes (store_bytes s) bytes
      ≡ loaded b
      → StartWay s bytes buf (failed_step cvm_number_not_applicable s.count (store_bytes (loaded_session s b))
      reason_dol_broken_or_bad_length buf)
  asked : (b c : List ℕ) → Admitted s (length buf) → s.phase ≡ Phase.Fresh → load_start_bytes (store_bytes s) bytes
      ≡ loaded b → get_processing_options (store_bytes (loaded_session s b)) ≡ Some c
      → StartWay s bytes buf (command_step s.count (store_bytes (loaded_session s b)) AwaitedResponse.Gpo c buf)

pub start_way : (s : Session) (bytes buf : List ℕ) → StartWay s bytes buf (start_step s bytes buf)
unfolding request_gpo
start_way s bytes buf = admitted_ind P s buf _ refused (λ i. go i s.phase refl)
  where
    P : Step → Type 0
    P = StartWay s bytes buf

    sent : (b : List ℕ) → Admitted s (length buf) → s.phase ≡ Phase.Fresh → load_start_bytes (store_bytes s) bytes
        ≡ loaded b → (x : Option (List ℕ)) → get_processing_options (store_bytes (loaded_session s b)) ≡ x
        → P (step_of_next s.count buf (request_command_or_end_for_dol AwaitedResponse.Gpo (store_bytes (loaded_session s b))
        x))
    sent b i q e None f = unlisted b i q e
    sent b i q e (Some c) f = asked b c i q e f

    by : Admitted s (length buf) → s.phase ≡ Phase.Fresh → (x : LoadedStore) → load_start_bytes (store_bytes s) bytes ≡ x
        → P (step_of_effect s buf (start_effect_after_loading x))
    by i q (refusal n) e = refused n (omega (arith, load_most (store_bytes s) bytes n e))
    by i q (loaded b) e = sent b i q e (get_processing_options (store_bytes (loaded_session s b))) refl

    go : Admitted s (length buf) → (p : Phase) → s.phase ≡ p
        → P (step_of_effect s buf (start_effect p (store_bytes s) bytes))
    go i Phase.Fresh q = by i q (load_start_bytes (store_bytes s) bytes) refl
    go i (Phase.Waiting w) q = refused refusal_wrong_phase (omega arith)
    go i (Phase.Ended e) q = refused refusal_wrong_phase (omega arith)

-- ---- link failed and stop

pub data BrokenWay (s : Session) (n : ℕ) (buf : List ℕ) : Step → Type 0 where
  refused : (m : ℕ) → m ≤ refusal_record_out_of_ranges → BrokenWay s n buf (refused_step s m buf)
  broken : (m : ℕ) → Admitted s (length buf) → m ≡ held_number s.phase
      → BrokenWay s n buf (failed_step m s.count (store_bytes s) n buf)

pub broken_way : (s : Session) (n : ℕ) (buf : List ℕ) → BrokenWay s n buf (abort_step s n buf)
broken_way s n buf = admitted_ind (BrokenWay s n buf) s buf _ refused (λ i. go i s.phase refl)
  where
    go : Admitted s (length buf) → (p : Phase) → s.phase ≡ p
        → BrokenWay s n buf
        (step_of_effect s buf
        (effect_if_running p (λ (w : AwaitedResponse). end (ending_for_reason n) (held_cvm w) (store_bytes s))))
    go i Phase.Fresh q = refused refusal_wrong_phase (omega arith)
    go i (Phase.Waiting w) q = broken _ i (sym (ap held_number q))
    go i (Phase.Ended e) q = refused refusal_wrong_phase (omega arith)
