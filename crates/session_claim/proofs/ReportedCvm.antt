-- The CVM that an outcome reports: not applicable exactly where no choice of a CVM was made or held. By the ways
-- of Ways.antt.
-- Assumes nothing.
use mathlib.Core.Path.{◌≡◌, refl, sym, ap, subst, ◌∙◌}
use mathlib.Core.Bool.{Bool, true, false, not}
use mathlib.Core.List.{List}
use Prim.Native.Nat.{ℕ}
use native.Mathlib.Omega.{arith}
use lib.Dec.{eqb}
use borrow.Author.Tests.{ne_eqb}
use lib.ListN.{length}
use Rattle.basics.proofs.Laws.{both_yes, both_no_left, both_no_right}
use Rattle.store.specs.Place.{StoredValue, bytes_or_empty_if_absent}
use Rattle.reading.specs.declared.Awaited.{Awaited}
use Rattle.analysis.specs.Bits.{value_has_bit}
use Rattle.basics.specs.Reason.{reason_dol_broken_or_bad_length, reason_link, reason_stopped}
use Rattle.analysis.specs.Cvm.{cvm_number, cvm_number_not_applicable}
use Rattle.analysis.specs.declared.cvm.Cvm.{Cvm}
use Rattle.session_record.specs.declared.Outcome.{Outcome}
use Rattle.session_record.specs.declared.OutcomeParameters.{OutcomeParameters}
use Rattle.session_record.specs.declared.RequestedCryptogram.{RequestedCryptogram}
use Rattle.session_record.specs.declared.AwaitedChecksum.{AwaitedChecksum}
use Rattle.session_record.specs.declared.Reply.{Reply}
use Rattle.session_record.specs.declared.AwaitedRecord.{AwaitedRecord}
use Rattle.session_record.specs.declared.AwaitedResponse.{AwaitedResponse}
use Rattle.session_record.specs.declared.Phase.{Phase}
use Rattle.session_record.specs.declared.CallResult.{CallResult}
use Rattle.session_record.specs.declared.Session.{Session}
use Rattle.session_record.specs.Session.{store_bytes, ending_of, outcome_parameters}
use Rattle.session_record.specs.Ranges.{emv_mode}
use Rattle.session_record.proofs.Phases.{store_size_lem, store_fits, on_record_lem}
use Rattle.session.specs.Steps.{Step, held_cvm, abort_step}
use Rattle.session.specs.Start.{start_step}
use Rattle.session.specs.Answer.{answer_step}
use Rattle.session.specs.Calls.{Call, start, answer, link_failed, stop, call_step}
use Rattle.session_claim.specs.ReportedCvm.{choice_made_before_end, choice_made_in, OutcomeCvmMatchesPhaseBefore}
use Rattle.session_claim.specs.ReportedCvm.{StepOutcomeCvmMatchesSessionBefore}
use Rattle.step_laws.proofs.Kept.{read_mode}
use Rattle.step_laws.proofs.Ways.{without_command, Admitted, taken, asked_by, held_number, GpoWay, RecordsWay}
use Rattle.step_laws.proofs.Ways.{MagStripeWay, RecordWay, CryptogramWay, ChecksumWay, AnswerWay, answer_way, StartWay}
use Rattle.step_laws.proofs.Ways.{start_way, BrokenWay, broken_way}

-- no CVM has the number of none
is_cvm : (m : Cvm) → eqb (cvm_number m) cvm_number_not_applicable ≡ false
is_cvm Cvm.NoCvm = refl
is_cvm Cvm.Signature = refl
is_cvm Cvm.OnlinePin = refl
is_cvm Cvm.ConfirmationCode = refl
is_cvm Cvm.OfflinePin = refl

-- what is not the cryptogram holds none
none_held_on : (w : AwaitedResponse) (v : Bool) (n : ℕ) → choice_made_before_end w v n ≡ false
    → OutcomeCvmMatchesPhaseBefore (Phase.Waiting w) v n cvm_number_not_applicable
none_held_on AwaitedResponse.Gpo v n h = record {
  applicable = refl;
  held = λ a q. let z : ◌≡◌ {A = ℕ} 0 1 = cc in
      absurd (omega arith);
}
none_held_on (AwaitedResponse.Record p) v n h = record {
  applicable = sym (ap not h);
  held = λ a q. let z : ◌≡◌ {A = ℕ}
      0 1 = cc in absurd (omega arith);
}
none_held_on (AwaitedResponse.Cryptogram a) v n h = let z : ◌≡◌ {A = ℕ} 0 1 = cc in absurd (omega arith)
none_held_on (AwaitedResponse.Checksum k) v n h = record {
  applicable = refl;
  held = λ a q. let z : ◌≡◌ {A = ℕ} 0 1 = cc
      in absurd (omega arith);
}

none_held : (p : Phase) (v : Bool) (n : ℕ) → choice_made_in p v n ≡ false
    → OutcomeCvmMatchesPhaseBefore p v n cvm_number_not_applicable
none_held Phase.Fresh v n h = record {
  applicable = refl;
  held = λ a q. let z : ◌≡◌ {A = ℕ} 0 1 = cc in
      absurd (omega arith);
}
none_held (Phase.Waiting w) v n h = none_held_on w v n h
none_held (Phase.Ended e) v n h = record {
  applicable = refl;
  held = λ a q. let z : ◌≡◌ {A = ℕ} 0 1 = cc in
      absurd (omega arith);
}

-- the cryptogram's holds one
one_held : (a : RequestedCryptogram) (v : Bool) (n : ℕ)
    → OutcomeCvmMatchesPhaseBefore (Phase.Waiting (AwaitedResponse.Cryptogram a)) v n (cvm_number a.cvm)
one_held a v n = record {
  applicable = is_cvm a.cvm;
  held = λ b q. let z : a ≡ b = cc in
      ap (λ (x : RequestedCryptogram). cvm_number x.cvm) z;
}

-- what is held, where the reason is not that of the list
held_on : (w : AwaitedResponse) (v : Bool) (n : ℕ) → (n ≡ reason_dol_broken_or_bad_length → ⊥)
    → OutcomeCvmMatchesPhaseBefore (Phase.Waiting w) v n (held_cvm w)
held_on AwaitedResponse.Gpo v n x = none_held_on AwaitedResponse.Gpo v n refl
held_on (AwaitedResponse.Record p) v n x = none_held_on (AwaitedResponse.Record p) v n
    (both_no_right _ _ (ne_eqb n reason_dol_broken_or_bad_length x))
held_on (AwaitedResponse.Cryptogram a) v n x = one_held a v n
held_on (AwaitedResponse.Checksum k) v n x = none_held_on (AwaitedResponse.Checksum k) v n refl

held : (p : Phase) (v : Bool) (n : ℕ) → (n ≡ reason_dol_broken_or_bad_length → ⊥)
    → OutcomeCvmMatchesPhaseBefore p v n (held_number p)
held Phase.Fresh v n x = none_held Phase.Fresh v n refl
held (Phase.Waiting w) v n x = held_on w v n x
held (Phase.Ended e) v n x = none_held (Phase.Ended e) v n refl

-- made on CDOL1 (8C), in EMV mode
on_list : (p : AwaitedRecord) (v : Bool) (m : Cvm) → v ≡ true
    → OutcomeCvmMatchesPhaseBefore (Phase.Waiting (AwaitedResponse.Record p)) v reason_dol_broken_or_bad_length (cvm_number m)
on_list p v m e =
    record {
      applicable = is_cvm m ∙ sym (ap not (both_yes v true e refl));
      held = λ a q. let z : ◌≡◌ {A = ℕ} 0 1 = cc in absurd (omega arith);
    }

module _ (s : Session) where
  abbrev emv : Bool
  emv = emv_mode (store_bytes s)

  -- an end that reports m for the reason n
  told : (o : Outcome) (n m : ℕ) → OutcomeCvmMatchesPhaseBefore s.phase emv n m
      → (e : OutcomeParameters) → CallResult.Outcome (outcome_parameters (ending_of o n) m) ≡ CallResult.Outcome e
      → OutcomeCvmMatchesPhaseBefore s.phase emv e.reason e.cvm
  told o n m h e p =
      let z : outcome_parameters (ending_of o n) m ≡ e = cc in
      subst (λ (x : OutcomeParameters). OutcomeCvmMatchesPhaseBefore s.phase emv x.reason x.cvm) z h

  told_held : (o : Outcome) (n m : ℕ) → m ≡ held_number s.phase → (n ≡ reason_dol_broken_or_bad_length → ⊥)
      → (e : OutcomeParameters) → CallResult.Outcome (outcome_parameters (ending_of o n) m) ≡ CallResult.Outcome e
      → OutcomeCvmMatchesPhaseBefore s.phase emv e.reason e.cvm
  told_held o n m h x = told o n m (subst (λ (k : ℕ). OutcomeCvmMatchesPhaseBefore s.phase emv n k) (sym h)
      (held s.phase emv n x))

  told_in : (p : Phase) → s.phase ≡ p → (o : Outcome) (n m : ℕ) → OutcomeCvmMatchesPhaseBefore p emv n m
      → (e : OutcomeParameters) → CallResult.Outcome (outcome_parameters (ending_of o n) m) ≡ CallResult.Outcome e
      → OutcomeCvmMatchesPhaseBefore s.phase emv e.reason e.cvm
  told_in p q o n m h = told o n m (subst (λ (x : Phase). OutcomeCvmMatchesPhaseBefore x emv n m) (sym q) h)

  -- an end on a session that has made none
  told_none : (p : Phase) → s.phase ≡ p → (o : Outcome) (n : ℕ) → choice_made_in p emv n ≡ false
      → (e : OutcomeParameters) → CallResult.Outcome (outcome_parameters (ending_of o n) cvm_number_not_applicable)
      ≡ CallResult.Outcome e → OutcomeCvmMatchesPhaseBefore s.phase emv e.reason e.cvm
  told_none p q o n h = told_in p q o n cvm_number_not_applicable (none_held p emv n h)

-- ---- the calls

module _ (s : Session) (card buf : List ℕ) where
  gpo_tells : s.phase ≡ Phase.Waiting AwaitedResponse.Gpo → {t : Session} {st : Step} → GpoWay t buf st
      → StepOutcomeCvmMatchesSessionBefore s st
  gpo_tells q (GpoWay.failed n r) e p = told_none s (Phase.Waiting AwaitedResponse.Gpo) q _ n refl e p
  gpo_tells q (GpoWay.first r m a f) e p = let z : ◌≡◌ {A = ℕ} 0 1 = cc in absurd (omega arith)

  -- past the reading of a record, in the mode v that was before it
  module _ (k : AwaitedRecord) (q : s.phase ≡ Phase.Waiting (AwaitedResponse.Record k)) where
    records_tells : emv_mode (store_bytes s) ≡ true → {t : Session} {st : Step} → RecordsWay k.limit t buf st
        → StepOutcomeCvmMatchesSessionBefore s st
    records_tells m (RecordsWay.failed n r x) e p = told_none s (Phase.Waiting (AwaitedResponse.Record k)) q _ n
        (both_no_right _ _ (ne_eqb n reason_dol_broken_or_bad_length x)) e p
    records_tells m {t} RecordsWay.unlisted e p =
        told_in s (Phase.Waiting (AwaitedResponse.Record k)) q _ reason_dol_broken_or_bad_length
        (cvm_number (asked_by k.limit t).cvm) (on_list k _ (asked_by k.limit t).cvm m) e p
    records_tells m (RecordsWay.asked c f g) e p = let z : ◌≡◌ {A = ℕ} 0 1 = cc in absurd (omega arith)

    mag_stripe_tells : emv_mode (store_bytes s) ≡ false → {t : Session} {st : Step} → MagStripeWay k.limit t buf st
        → StepOutcomeCvmMatchesSessionBefore s st
    mag_stripe_tells m (MagStripeWay.failed n r) e p = told_none s (Phase.Waiting (AwaitedResponse.Record k)) q _ n
        (both_no_left _ _ m) e p
    mag_stripe_tells m (MagStripeWay.asked c f g) e p = let z : ◌≡◌ {A = ℕ} 0 1 = cc in absurd (omega arith)

    record_tells : {t : Session} → emv_mode (store_bytes t) ≡ emv_mode (store_bytes s) → {st : Step} → RecordWay k t buf st
        → StepOutcomeCvmMatchesSessionBefore s st
    record_tells v (RecordWay.next r f) e p = let z : ◌≡◌ {A = ℕ} 0 1 = cc in absurd (omega arith)
    record_tells v (RecordWay.last f m w) e p = records_tells (sym v ∙ m) w e p
    record_tells v (RecordWay.striped f m w) e p = mag_stripe_tells (sym v ∙ m) w e p

  checksum_tells : (k : AwaitedChecksum) → s.phase ≡ Phase.Waiting (AwaitedResponse.Checksum k)
      → {t : Session} {y : Reply} → ChecksumWay t y → StepOutcomeCvmMatchesSessionBefore s (without_command y buf)
  checksum_tells k q ChecksumWay.failed e p = told_none s (Phase.Waiting (AwaitedResponse.Checksum k)) q _ _ refl e p
  checksum_tells k q ChecksumWay.declined e p = told_none s (Phase.Waiting (AwaitedResponse.Checksum k)) q _ _ refl e p
  checksum_tells k q ChecksumWay.online e p = told_none s (Phase.Waiting (AwaitedResponse.Checksum k)) q _ _ refl e p

  -- the reading of a record leaves the mode
  same_mode : (i : Admitted s (length buf)) (k : AwaitedRecord) → s.phase ≡ Phase.Waiting (AwaitedResponse.Record k)
      → (a : Awaited) → emv_mode (store_bytes (taken a s card)) ≡ emv_mode (store_bytes s)
  same_mode i k q a =
      ap (λ (x : StoredValue). value_has_bit (bytes_or_empty_if_absent x) 2 8)
      (read_mode a (store_bytes s) card (store_size_lem s i.ranges) (store_fits s i.ranges)
      (on_record_lem s i.ranges k q).mode)

  answer_tells : StepOutcomeCvmMatchesSessionBefore s (answer_step s card buf)
  answer_tells = go (answer_way s card buf)
    where
      go : {st : Step} → AnswerWay s card buf st → StepOutcomeCvmMatchesSessionBefore s st
      go (AnswerWay.refused n l) e p = let z : ◌≡◌ {A = ℕ} 0 1 = cc in absurd (omega arith)
      go (AnswerWay.unread m n i r h x) e p = told_held s _ n m h x e p
      go (AnswerWay.gpo i q z w) e p = gpo_tells q w e p
      go (AnswerWay.recorded k r i q f w) e p =
          record_tells k q (same_mode i k q (Awaited.Record (record { number = r.sfi }))) w e p
      go (AnswerWay.cryptogram a i q (CryptogramWay.failed n r)) e p =
          told_in s (Phase.Waiting (AwaitedResponse.Cryptogram a)) q _ n _ (one_held a _ n) e p
      go (AnswerWay.cryptogram a i q (CryptogramWay.decides o g)) e p =
          told_in s (Phase.Waiting (AwaitedResponse.Cryptogram a)) q o _ _ (one_held a _ _) e p
      go (AnswerWay.checksum k i q w) e p = checksum_tells k q w e p

  start_tells : StepOutcomeCvmMatchesSessionBefore s (start_step s card buf)
  start_tells = go (start_way s card buf)
    where
      go : {st : Step} → StartWay s card buf st → StepOutcomeCvmMatchesSessionBefore s st
      go (StartWay.refused n l) e p = let z : ◌≡◌ {A = ℕ} 0 1 = cc in absurd (omega arith)
      go (StartWay.unlisted b i q f) e p = told_none s Phase.Fresh q _ reason_dol_broken_or_bad_length refl e p
      go (StartWay.asked b c i q f g) e p = let z : ◌≡◌ {A = ℕ} 0 1 = cc in absurd (omega arith)

broken_tells : (s : Session) (n : ℕ) (buf : List ℕ) → (n ≡ reason_dol_broken_or_bad_length → ⊥)
    → StepOutcomeCvmMatchesSessionBefore s (abort_step s n buf)
broken_tells s n buf x = go (broken_way s n buf)
  where
    go : {st : Step} → BrokenWay s n buf st → StepOutcomeCvmMatchesSessionBefore s st
    go (BrokenWay.refused m l) e p = let z : ◌≡◌ {A = ℕ} 0 1 = cc in absurd (omega arith)
    go (BrokenWay.broken m i h) e p = told_held s _ n m h x e p

pub tells_cvm : (s : Session) (c : Call) → StepOutcomeCvmMatchesSessionBefore s (call_step s c)
tells_cvm s (start bytes buf) = start_tells s bytes buf
tells_cvm s (answer card buf) = answer_tells s card buf
tells_cvm s (link_failed buf) = broken_tells s reason_link buf (λ z. omega arith)
tells_cvm s (stop buf) = broken_tells s reason_stopped buf (λ z. omega arith)
