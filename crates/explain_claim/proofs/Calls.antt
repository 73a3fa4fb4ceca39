-- From a fresh session on no list of calls leads to a refusal, and what is explained is the choice that was handed out.
-- What every call keeps: while the cryptogram is awaited, the choice that is held is the one of the store, and what it
-- goes by is as it was. So a decision is explained unless its answer brought a code; two inductions over the calls,
-- each by the same cases, carry both.
-- Assumes nothing.
use Rattle.std.specs.Prelude.{Option, Some, None}
use mathlib.Core.Path.{◌≡◌, refl, sym, ap, ap₂, subst, ◌∙◌}
use mathlib.Core.Bool.{Bool, true, false, not}
use mathlib.Core.Logic.{◌⊎◌, inl, inr}
use mathlib.Core.List.{List, [], ◌∷◌, ◌++◌, map}
use Prim.Native.Nat.{ℕ, ◌+◌}
use native.Mathlib.Omega.{arith}
use lib.ListN.{length, get_or}
use lib.Dec.{eqb}
use borrow.Author.Tests.{eqb-true, eqb-false, not-false}
use Rattle.basics.specs.Choice.{if, both}
use Rattle.basics.specs.Reason.{reason_none, reason_object_missing, reason_dol_broken_or_bad_length, reason_link, reason_stopped}
use Rattle.dictionary.specs.Rows.{store_size}
use Rattle.dictionary.specs.Named.{row_aip, row_kernel_configuration}
use Rattle.dictionary.proofs.Named.{at_82, at_df811b}
use Rattle.basics.proofs.Laws.{if_ind, if_yes, if_no, both_yes, both_left, both_right, both_no_left, both_no_right}
use Rattle.basics.proofs.Laws.{both_true, either_left, either_right}
use Rattle.store.specs.Place.{StoredValue, bytes_or_empty_if_absent, is_present, object_value}
use Rattle.analysis.specs.Bits.{value_has_bit}
use Rattle.command.specs.ReadRecord.{read_record_command}
use Rattle.reading.specs.declared.Awaited.{Awaited}
use Rattle.reading.specs.Answer as reading
use Rattle.command.specs.WithList.{generate_ac}
use Rattle.command.proofs.Commands as list
use Rattle.analysis.specs.declared.choice.Choice.{Choice}
use Rattle.analysis.specs.Choice.{generate_ac_p1}
use Rattle.analysis.specs.Action.{transaction_limit, findings_of}
use Rattle.analysis.specs.Cvm.{cvm_number, cvm_number_not_applicable}
use Rattle.session_record.specs.declared.RequestedCryptogram.{RequestedCryptogram}
use Rattle.session_record.specs.declared.AwaitedChecksum.{AwaitedChecksum}
use Rattle.session_record.specs.declared.Ending.{Ending}
use Rattle.session_record.specs.declared.Outcome.{Outcome}
use Rattle.session_record.specs.declared.AwaitedResponse.{AwaitedResponse}
use Rattle.session_record.specs.declared.Phase.{Phase}
use Rattle.session_record.specs.declared.AwaitedRecord.{AwaitedRecord}
use Rattle.session_record.specs.declared.Reply.{Reply}
use Rattle.session_record.specs.declared.Session.{Session}
use Rattle.session_record.specs.Session.{store_bytes, ending_of, ending_for_reason}
use Rattle.session_record.specs.Ranges.{mag_stripe_mode, session_record_in_ranges}
use Rattle.session_record.proofs.Phases.{store_size_lem, store_fits, on_cryptogram_lem, on_checksum_lem}
use Rattle.session.specs.Steps.{NextAction, end, read_response_then, store_with_findings, Step, step_of_next, step_of_effect}
use Rattle.session.specs.Steps.{step_if_admitted, effect_if_running, abort_step}
use Rattle.session.specs.Start.{start_step}
use Rattle.session.specs.MagStripe.{awaited_checksum_with_limit}
use Rattle.session.specs.Answer.{awaited_record_with_limit, requested_cryptogram, outcome_for_cryptogram_type}
use Rattle.session.specs.Answer.{ending_for_decision, cid_atc_and_cryptogram_present, cryptogram_ending}
use Rattle.session.specs.Answer.{next_on_cryptogram_response, next_on_response, answer_step}
use Rattle.session_claim.specs.Calls.{calls_accepted, last_element, commands_sent as commands_of}
use Rattle.session.specs.Calls.{Call, start, answer, link_failed, stop, call_step, CallMade, call_made, play_calls}
use Rattle.session.specs.Calls.{final_session, is_refusal}
use Rattle.session_claim.specs.Order.{begins_with_two_bytes}
use Rattle.step_laws.proofs.Kept.{read_size, read_fits, read_mode, digits_other}
use Rattle.session_claim.proofs.Trace.{by, by_front, call_keeps}
use Rattle.step_laws.proofs.Ways as ways
use Rattle.step_laws.proofs.Ways.{without_command, ended_reply, command_step, Reason, unread_reason, GpoWay, RecordsWay}
use Rattle.step_laws.proofs.Ways.{MagStripeWay, RecordWay, ChecksumWay, AnswerWay, answer_way, StartWay, start_way}
use Rattle.step_laws.proofs.Ways.{BrokenWay, broken_way}
use Rattle.explain.specs.declared.Explanation.{Explanation}
use Rattle.explain.specs.Explain.{recomputed_choice, stored_cryptogram_type, aip_indicates_mag_stripe, explanation_in_phase}
use Rattle.explain.specs.Explain.{explanation_of}
use Rattle.explain.proofs.Laws.{mag_stripe_mode_is}
use Rattle.explain.proofs.Complete.{running_complete, waiting_answers, ended_answers, reason_answers}
use Rattle.explain.proofs.Complete.{mag_stripe_answers, phase_answers}
use Rattle.explain_claim.specs.Explained.{awaits_cryptogram}
use Rattle.explain_claim.specs.Explained.{is_final_ac_answer_bringing_iac, last_call_is_final_ac_answer_bringing_iac}
use Rattle.explain_claim.specs.Explained.{generate_ac_p1s, stores_when_generate_ac_sent}
use Rattle.explain_claim.specs.Explained.{ExplanationTrueUnlessLastCallBringsIac}
use Rattle.explain_claim.proofs.Kept.{SameTerminal, SameCard, same_choice, same_complete, read_results}
use Rattle.explain_claim.proofs.Kept.{read_terminal, read_configuration, read_card, asked_choice}
use Rattle.explain_claim.proofs.Chosen.{apart, not_asked, is_asked, other_instruction, record_command_kind, Asks}
use Rattle.explain_claim.proofs.Chosen.{generate_sent, KeptChoice, kept_on, chosen_now, is_early, ends_with_code}
use Rattle.explain_claim.proofs.Chosen.{Traced, TracedBy, fresh_traced, sent_by, stores_by, Traces, none_added}
use Rattle.explain_claim.proofs.Chosen.{none_traced, refused_traced, joined, explains_clause, p1_clause}
use Rattle.explain_claim.proofs.Chosen.{stage_clause, bit_clause, no_bit_clause, holder_clause, lower_clause}
use Rattle.explain_claim.proofs.Chosen.{not_lower_clause}

-- an explanation that is no refusal
no_refusal : {P : Type 0} → Explanation.NoChoice ≡ Explanation.Refused → P
no_refusal e = let z : ◌≡◌ {A = ℕ} 0 1 = cc in absurd (omega arith)

-- ---- what calls keep

-- the choice that is held is the one of the store
abbrev pub Held : Session → Type 0
Held s = (a : RequestedCryptogram) → s.phase ≡ Phase.Waiting (AwaitedResponse.Cryptogram a)
    → a.choice ≡ recomputed_choice (store_bytes s)

-- the session is explained, unless the last call brought a code
abbrev Answers : Bool → Session → Type 0
Answers brought s = brought ≡ false → explanation_of s ≡ Explanation.Refused → ⊥

-- what a call that is not refused leaves
record After (s : Session) (c : Call) (st : Step) : Type 0 where
  taken_on : is_refusal st.reply.answer ≡ false
  held : Held st.reply.session
  answers : Answers (is_final_ac_answer_bringing_iac (call_made s c st)) st.reply.session
  traces : Traces s st (is_final_ac_answer_bringing_iac (call_made s c st))

-- a refusal leaves the session
record Left (s : Session) (st : Step) : Type 0 where
  refused : is_refusal st.reply.answer ≡ true
  same : st.reply.session ≡ s

-- a call is one of the two, where the session that it leaves is in its ranges
abbrev Leaves : Session → Call → Step → Type 0
Leaves s c st = session_record_in_ranges st.reply.session ≡ true → Left s st ⊎ After s c st

left : (s : Session) {c : Call} {st : Step} → is_refusal st.reply.answer ≡ true → st.reply.session ≡ s
    → Leaves s c st
left s r e i = inl (record { refused = r; same = e })

module _ (s : Session) (c : Call) (buf : List ℕ) where
  -- it ended for a reason
  failed : (m n : ℕ) (b : List ℕ) → Reason n
      → Leaves s c (without_command (ended_reply m s.count b (ending_for_reason n)) buf)
  failed m n b r i =
      inr (record {
        taken_on = refl;
        held = λ a q. (let z : ◌≡◌ {A = ℕ} 0 1 = cc in absurd (omega arith));
        answers = λ x. phase_answers _ (Phase.Ended (ending_for_reason n)) i refl
            (reason_answers (ending_for_reason n) b (λ z. omega (arith, r.least)));
        traces = λ ps qs d t. record {
          early = λ e. apart e;
          waiting = λ e. apart e;
          decided = λ x e. no e;
          mode = λ e. no e;
        };
      })
    where
      no : {P : Type 0} → eqb n reason_none ≡ true → P
      no e = absurd (omega (arith, r.least, eqb-true n reason_none e))

  -- it waits, and no choice was made
  early : (r : AwaitedResponse) (b x : List ℕ) → awaits_cryptogram (Phase.Waiting r) ≡ false
      → (is_early (Phase.Waiting r) ≡ true → is_early s.phase ≡ true)
      → begins_with_two_bytes 0x80 0xAE x ≡ false → (explanation_in_phase (Phase.Waiting r) b ≡ Explanation.Refused → ⊥)
      → Leaves s c (command_step s.count b r x buf)
  early r b x n w f e i =
      inr (record {
        taken_on = refl;
        held = λ a q. apart (sym n ∙ ap awaits_cryptogram q);
        answers = λ z. phase_answers _ (Phase.Waiting r) i refl e;
        traces = λ ps qs d t. record {
          early = λ z. (
            ap₂ (λ (l : List ℕ) (xs : List (List ℕ)). l ++ map (λ (y : List ℕ). get_or y 2 0) xs) (t.early (w z)).0
                (not_asked x buf f),
            ap₂ (λ (l xs : List (List ℕ)). l ++ map (λ (y : List ℕ). b) xs) (t.early (w z)).1 (not_asked x buf f),
          );
          waiting = λ z. apart (sym n ∙ z);
          decided = λ y z. apart z;
          mode = λ z. apart z;
        };
      })

-- ---- start, link failed and stop

start_leaves : (s : Session) (bytes buf : List ℕ) → Leaves s (start bytes buf) (start_step s bytes buf)
start_leaves s bytes buf = go (start_way s bytes buf)
  where
    go : {st : Step} → StartWay s bytes buf st → Leaves s (start bytes buf) st
    go (StartWay.refused n l) = left s refl refl
    go (StartWay.unlisted b i q e) = failed s (start bytes buf) buf _ reason_dol_broken_or_bad_length _
        (record { least = omega arith; most = omega arith })
    go (StartWay.asked b c i q e f) =
        early s (start bytes buf) buf AwaitedResponse.Gpo _ c refl (λ z. ap is_early q)
        (other_instruction 0xA8 c (λ z. omega arith) (list.gpo_proper _ c f)) (λ z. no_refusal z)

broken_leaves : (s : Session) (c : Call) (n : ℕ) (buf : List ℕ) → Reason n → Leaves s c (abort_step s n buf)
broken_leaves s c n buf r = go (broken_way s n buf)
  where
    go : {st : Step} → BrokenWay s n buf st → Leaves s c st
    go (BrokenWay.refused m l) = left s refl refl
    go (BrokenWay.broken m i h) = failed s c buf m n (store_bytes s) r

-- ---- the answer to GENERATE AC

module _ (s : Session) (a : RequestedCryptogram) (card buf : List ℕ) (i : session_record_in_ranges s ≡ true)
    (q : s.phase ≡ Phase.Waiting (AwaitedResponse.Cryptogram a)) (h : a.choice ≡ recomputed_choice (store_bytes s))
  where
    abbrev o : reading.ReadingOutcome
    o = reading.read_answer Awaited.Cryptogram (store_bytes s) card

    -- a decision on the stored cryptogram: what the choice goes by stays, unless a code is brought
    decision_answers : (x : Outcome) → cid_atc_and_cryptogram_present o.store ≡ true
        → outcome_for_cryptogram_type a.choice (stored_cryptogram_type o.store) ≡ Some x
        → Leaves s (answer card buf)
        (without_command (ended_reply (cvm_number a.cvm) s.count o.store (ending_of x reason_none)) buf)
    unfolding is_final_ac_answer_bringing_iac
    decision_answers x t e k =
        inr (record {
          taken_on = refl;
          held = λ y z. absurd (apart (ap awaits_cryptogram z));
          answers = λ n. phase_answers _ (Phase.Ended (ending_of x reason_none)) k refl
              (ended_answers o.store (same_complete (store_bytes s) o.store terminal results
              (running_complete (store_bytes s) (on_cryptogram_lem s i a q).runs))
              (ending_of x reason_none) refl not_mag_stripe (both_left _ _ t)
              (ap (λ (y : Choice). outcome_for_cryptogram_type y (stored_cryptogram_type o.store)) (choice n) ∙ e));
          traces = λ ps qs d y. none_added ps qs (record {
            early = λ z. apart z;
            waiting = λ z. apart z;
            decided = λ n z m. kept (y.waiting (ap awaits_cryptogram q)) n;
            mode = λ z. not_mag_stripe ∙ sym (mag_stripe_mode_is o.store ∙ both_no_left _ _ not_mag_stripe);
          });
        })
      where
        -- the reading leaves the mode
        not_mag_stripe : aip_indicates_mag_stripe o.store ≡ false
        not_mag_stripe =
            let m = (on_cryptogram_lem s i a q).mode in
            both_no_right _ _
            (ap not (ap (λ (y : StoredValue). value_has_bit (bytes_or_empty_if_absent y) 2 8)
            (read_mode Awaited.Cryptogram (store_bytes s) card (store_size_lem s i) (store_fits s i) (either_left _ _ m)) ∙
            m))

        terminal : SameTerminal (store_bytes s) o.store
        terminal = read_terminal Awaited.Cryptogram (store_bytes s) card (store_size_lem s i)

        results : object_value o.store 0x95 ≡ object_value (store_bytes s) 0x95
        results = read_results Awaited.Cryptogram (store_bytes s) card (store_size_lem s i)

        NoCode : Type 0
        NoCode = is_final_ac_answer_bringing_iac
            (call_made s (answer card buf)
            (without_command (ended_reply (cvm_number a.cvm) s.count o.store (ending_of x reason_none)) buf))
            ≡ false

        codes : NoCode → SameCard (store_bytes s) o.store
        codes n = read_card Awaited.Cryptogram (store_bytes s) card (store_size_lem s i) (store_fits s i)
            (sym (both_true _ (ap awaits_cryptogram q) ∙ both_true _ refl) ∙ n)

        choice : NoCode → recomputed_choice o.store ≡ a.choice
        choice n = same_choice (store_bytes s) o.store terminal (codes n) results ∙ sym h

        kept : {ps : List ℕ} {qs : List (List ℕ)} → KeptChoice ps qs (store_bytes s) → NoCode
            → KeptChoice ps qs o.store
        kept k n = kept_on k terminal (codes n) results

    -- the decision, or a reason
    end_answers : (x : Option Outcome) → cid_atc_and_cryptogram_present o.store ≡ true
        → outcome_for_cryptogram_type a.choice (stored_cryptogram_type o.store) ≡ x
        → Leaves s (answer card buf)
        (without_command (ended_reply (cvm_number a.cvm) s.count o.store (ending_for_decision x)) buf)
    end_answers None t e = failed s (answer card buf) buf _ 8 _ (record { least = omega arith; most = omega arith })
    end_answers (Some x) t e = decision_answers x t e

    reply_leaves : Leaves s (answer card buf)
        (step_of_next s.count buf (next_on_cryptogram_response a (store_bytes s) card))
    unfolding next_on_cryptogram_response read_response_then cryptogram_ending
    reply_leaves =
        if_ind P _ _ _
        (λ z. if_ind (λ (e : Ending). P (end e (cvm_number a.cvm) o.store)) _ _ _
        (λ t. failed s (answer card buf) buf _ 4 _ (record { least = omega arith; most = omega arith }))
        (λ t. end_answers (outcome_for_cryptogram_type a.choice (stored_cryptogram_type o.store)) (not-false _ t)
        refl))
        (λ z. failed s (answer card buf) buf _ o.reason _ (unread_reason Awaited.Cryptogram (store_bytes s) card
        (eqb-false _ _ z)))
      where
        P : NextAction → Type 0
        P x = Leaves s (answer card buf) (step_of_next s.count buf x)

    cryptogram_leaves : Leaves s (answer card buf) (answer_step s card buf)
    unfolding step_if_admitted
    cryptogram_leaves =
        if_ind P _ _ _ (λ e. left s refl refl)
        (λ e. if_ind P _ _ _ (λ r. left s refl refl)
        (λ r. subst (λ (p : Phase). P (step_of_effect s buf (effect_if_running p (next_on_response (store_bytes s) card))))
        (sym q) reply_leaves))
      where
        P : Step → Type 0
        P = Leaves s (answer card buf)

-- ---- the call answer

module _ (s : Session) (card buf : List ℕ) (i : session_record_in_ranges s ≡ true) where
  abbrev c : Call
  c = answer card buf

  gpo_leaves : (b : List ℕ) {st : Step} → is_early s.phase ≡ true → GpoWay (ways.with_store s b) buf st → Leaves s c st
  gpo_leaves b y (GpoWay.failed n r) = failed s c buf _ n b r
  gpo_leaves b y (GpoWay.first r m a e) =
      early s c buf (awaited_record_with_limit (transaction_limit b) 1) b (read_record_command r) refl (λ z. y)
      (record_command_kind r) (λ z. no_refusal z)

  -- the cryptogram is requested: the choice is the one of the store that the analysis leaves
  asked_leaves : (m : ℕ) (b x : List ℕ) → length b ≡ store_size → is_early s.phase ≡ true
      → generate_ac (generate_ac_p1 (requested_cryptogram m b).choice) (store_with_findings b (findings_of b)) ≡ Some x
      → Leaves s c (command_step s.count (store_with_findings b (findings_of b))
      (AwaitedResponse.Cryptogram (requested_cryptogram m b)) x buf)
  asked_leaves m b x l y g k =
      inr (record {
        taken_on = refl;
        held =
            λ a q. (let z : requested_cryptogram m b ≡ a = cc in
            subst (λ (y : RequestedCryptogram). y.choice ≡ recomputed_choice (store_with_findings b (findings_of b))) z
            (asked_choice b l m));
        answers = λ n. phase_answers _ (Phase.Waiting (AwaitedResponse.Cryptogram (requested_cryptogram m b))) k refl
            (waiting_answers (store_with_findings b (findings_of b))
            (running_complete _ (on_cryptogram_lem _ k (requested_cryptogram m b) refl).runs) (requested_cryptogram m b)
            (asked_choice b l m));
        traces = λ ps qs d t. record {
          early = λ z. apart z;
          waiting = λ z. chosen_now (store_with_findings b (findings_of b))
              (ap₂ (λ (u : List ℕ) (xs : List (List ℕ)). u ++ map (λ (w : List ℕ). get_or w 2 0) xs) (t.early y).0
              (is_asked x buf sent.0)
              ∙ ap (λ (n : ℕ). n ∷ []) (sent.1 ∙ ap generate_ac_p1 (asked_choice b l m)))
              (ap₂ (λ (u xs : List (List ℕ)). u ++ map (λ (w : List ℕ). store_with_findings b (findings_of b)) xs)
              (t.early y).1 (is_asked x buf sent.0));
          decided = λ n z. apart z;
          mode = λ z. apart z;
        };
      })
    where
      sent : Asks (generate_ac_p1 (requested_cryptogram m b).choice) x
      sent = generate_sent (generate_ac_p1 (requested_cryptogram m b).choice) (store_with_findings b (findings_of b)) x g

  records_leaves : (m : ℕ) (b : List ℕ) {st : Step} → length b ≡ store_size → is_early s.phase ≡ true
      → RecordsWay m (ways.with_store s b) buf st → Leaves s c st
  records_leaves m b l y (RecordsWay.failed n r x) = failed s c buf _ n b r
  records_leaves m b l y RecordsWay.unlisted = failed s c buf _ reason_dol_broken_or_bad_length _
      (record { least = omega arith; most = omega arith })
  records_leaves m b l y (RecordsWay.asked x f g) = asked_leaves m b x l y g

  -- the checksum is requested: no choice is made
  mag_stripe_leaves : {st : Step} (m : ℕ) (b : List ℕ) → MagStripeWay m (ways.with_store s b) buf st → Leaves s c st
  mag_stripe_leaves m b (MagStripeWay.failed n r) = failed s c buf _ n b r
  mag_stripe_leaves m b (MagStripeWay.asked x f g) =
      early s c buf (awaited_checksum_with_limit m) b x refl (λ z. apart z)
      (other_instruction 0x2A x (λ z. omega arith) (list.checksum_proper b x g)) (λ z. no_refusal z)

  record_leaves : {st : Step} (p : AwaitedRecord) (b : List ℕ) → length b ≡ store_size → is_early s.phase ≡ true
      → RecordWay p (ways.with_store s b) buf st → Leaves s c st
  record_leaves p b l y (RecordWay.next r e) =
      early s c buf (awaited_record_with_limit p.limit (p.number + 1)) b (read_record_command r) refl (λ z. y)
      (record_command_kind r) (λ z. no_refusal z)
  record_leaves p b l y (RecordWay.last e m w) = records_leaves p.limit b l y w
  record_leaves p b l y (RecordWay.striped e m w) = mag_stripe_leaves p.limit b w

  -- the answer to the checksum: an end with reason 0 says that no choice was made
  module _ (k : AwaitedChecksum) (q : s.phase ≡ Phase.Waiting (AwaitedResponse.Checksum k)) where
    ends : (x : Outcome) (d : List ℕ) → object_value d 0x82 ≡ object_value (store_bytes s) 0x82
        → object_value d 0xDF811B ≡ object_value (store_bytes s) 0xDF811B
        → Leaves s c (without_command (ended_reply cvm_number_not_applicable s.count d (ending_of x reason_none)) buf)
    ends x d e g j =
        inr (record {
          taken_on = refl;
          held = λ y z. absurd (apart (ap awaits_cryptogram z));
          answers = λ n. phase_answers _ (Phase.Ended (ending_of x reason_none)) j refl
              (mag_stripe_answers (ending_of x reason_none) d refl mag_stripe);
          traces = λ ps qs f t. none_added ps qs (record {
            early = λ z. apart z;
            waiting = λ z. apart z;
            decided = λ n z m. apart (sym m ∙ mag_stripe);
            mode = λ z. mag_stripe ∙ sym in_mode_lem;
          });
        })
      where
        in_mode_lem : mag_stripe_mode d ≡ true
        in_mode_lem =
            ap₂
            (λ (y w : StoredValue). both (is_present y) (both (not (value_has_bit (bytes_or_empty_if_absent y) 2 8))
            (not (value_has_bit (bytes_or_empty_if_absent w) 1 8)))) e g
            ∙ (on_checksum_lem s i k q).mode

        mag_stripe : aip_indicates_mag_stripe d ≡ true
        mag_stripe =
            let m = (on_checksum_lem s i k q).mode in
            ap (λ (y : StoredValue). both (is_present y) (not (value_has_bit (bytes_or_empty_if_absent y) 2 8))) e ∙ both_yes _
            _ (both_left _ _ m) (both_left _ _ (both_right _ _ m))

    same_82 : object_value (store_bytes (ways.taken Awaited.Checksum s card)) 0x82 ≡ object_value (store_bytes s) 0x82
    same_82 = read_mode Awaited.Checksum (store_bytes s) card (store_size_lem s i) (store_fits s i)
        (either_right _ _ (on_checksum_lem s i k q).mode)

    same_configuration : object_value (store_bytes (ways.taken Awaited.Checksum s card)) 0xDF811B
        ≡ object_value (store_bytes s) 0xDF811B
    same_configuration = read_configuration Awaited.Checksum (store_bytes s) card (store_size_lem s i)

    checksum_leaves : {y : Reply} → ChecksumWay (ways.taken Awaited.Checksum s card) y
        → Leaves s c (without_command y buf)
    checksum_leaves ChecksumWay.failed = failed s c buf _ reason_object_missing _
        (record { least = omega arith; most = omega arith })
    checksum_leaves ChecksumWay.declined = ends Outcome.Declined _ same_82 same_configuration
    checksum_leaves ChecksumWay.online =
        let w = read_fits Awaited.Checksum (store_bytes s) card (store_size_lem s i) (store_fits s i) in
        ends Outcome.OnlineRequest _ (digits_other (store_bytes (ways.taken Awaited.Checksum s card)) w.0 w.1 0x82
        row_aip at_82 (λ z. omega arith) ∙ same_82)
        (digits_other (store_bytes (ways.taken Awaited.Checksum s card)) w.0 w.1 0xDF811B row_kernel_configuration
        at_df811b (λ z. omega arith) ∙ same_configuration)

  answer_leaves : Held s → Leaves s c (answer_step s card buf)
  answer_leaves h = go (answer_way s card buf) refl
    where
      go : {st : Step} → AnswerWay s card buf st → st ≡ answer_step s card buf → Leaves s c st
      go (AnswerWay.refused n l) e = left s refl refl
      go (AnswerWay.unread m n k r z x) e = failed s c buf m n (store_bytes s) r
      go (AnswerWay.gpo k q z w) e = gpo_leaves _ (ap is_early q) w
      go (AnswerWay.recorded p r k q f w) e =
          record_leaves p _ (read_size (Awaited.Record (record { number = r.sfi })) (store_bytes s) card
          (store_size_lem s i)) (ap is_early q) w
      go (AnswerWay.cryptogram a k q w) e = subst (Leaves s c) (sym e) (cryptogram_leaves s a card buf i q (h a q))
      go (AnswerWay.checksum x k q w) e = checksum_leaves x q w

-- ---- every call, and every list of calls

call_leaves : (s : Session) (c : Call) → session_record_in_ranges s ≡ true → Held s → Leaves s c (call_step s c)
call_leaves s (start bytes buf) i h = start_leaves s bytes buf
call_leaves s (answer card buf) i h = answer_leaves s card buf i h
call_leaves s (link_failed buf) i h = broken_leaves s (link_failed buf) reason_link buf
    (record { least = omega arith; most = omega arith })
call_leaves s (stop buf) i h = broken_leaves s (stop buf) reason_stopped buf
    (record { least = omega arith; most = omega arith })

-- one call, and what holds of the calls after it
one_call : (s : Session) (c : Call) (d : Bool) → Left s (call_step s c) ⊎ After s c (call_step s c) → Held s → Answers d s
    → (tk : List CallMade) (f : Session)
    → ((x : Bool) → Held (call_step s c).reply.session → Answers x (call_step s c).reply.session
    → Answers (by x is_final_ac_answer_bringing_iac (last_element tk)) f)
    → Answers
    (by d is_final_ac_answer_bringing_iac
    (last_element (if (is_refusal (call_step s c).reply.answer) tk (call_made s c (call_step s c) ∷ tk)))) f
one_call s c d (inl r) h f tk t more =
    subst (λ (ms : List CallMade). Answers (by d is_final_ac_answer_bringing_iac (last_element ms)) t)
    (sym (if_yes _ _ r.refused))
    (more d (subst Held (sym r.same) h) (subst (Answers d) (sym r.same) f))
one_call s c d (inr a) h f tk t more =
    subst (λ (ms : List CallMade). Answers (by d is_final_ac_answer_bringing_iac (last_element ms)) t)
    (sym (if_no _ _ a.taken_on))
    (subst (λ (x : Bool). Answers x t) (by_front d (is_final_ac_answer_bringing_iac m) is_final_ac_answer_bringing_iac m tk refl)
    (more (is_final_ac_answer_bringing_iac m) a.held a.answers))
  where
    m : CallMade
    m = call_made s c (call_step s c)

-- what is held after a call
held_after : (s : Session) (c : Call) → Left s (call_step s c) ⊎ After s c (call_step s c) → Held s
    → Held (call_step s c).reply.session
held_after s c (inl r) h = subst Held (sym r.same) h
held_after s c (inr a) h = a.held

all_keep : (s : Session) (cs : List Call) → session_record_in_ranges s ≡ true → session_record_in_ranges (final_session s cs)
    ≡ true
unfolding final_session
all_keep s [] i = i
all_keep s (c ∷ cs) i = all_keep (call_step s c).reply.session cs (call_keeps s c i)

on : (s : Session) (cs : List Call) (d : Bool) → session_record_in_ranges s ≡ true → Held s → Answers d s
    → Answers (by d is_final_ac_answer_bringing_iac (last_element (calls_accepted (play_calls s cs)))) (final_session s cs)
unfolding play_calls final_session calls_accepted last_element
on s [] d i h f = f
on s (c ∷ cs) d i h f =
    one_call s c d (call_leaves s c i h (call_keeps s c i)) h f _ _
    (λ x g e. on (call_step s c).reply.session cs x (call_keeps s c i) g e)

by_last_is : (x : Option CallMade) → by false is_final_ac_answer_bringing_iac x ≡ last_call_is_final_ac_answer_bringing_iac x
by_last_is None = refl
by_last_is (Some m) = refl

-- one call, and what is traced of it and of the calls after it
one_trace : (s : Session) (c : Call) (d : Bool) → Left s (call_step s c) ⊎ After s c (call_step s c)
    → (ps : List ℕ) (qs : List (List ℕ)) → Traced ps qs d s
    → (tk : List CallMade) (xs : List (List ℕ)) (us : List (List ℕ)) (f : Session)
    → ((x : Bool) → Traced (ps ++ generate_ac_p1s (sent_by (call_step s c))) (qs ++ stores_by (call_step s c)) x
    (call_step s c).reply.session
    → Traced ((ps ++ generate_ac_p1s (sent_by (call_step s c))) ++ generate_ac_p1s xs) ((qs ++ stores_by (call_step s c)) ++ us)
    (by x is_final_ac_answer_bringing_iac (last_element tk)) f)
    → Traced (ps ++ generate_ac_p1s (sent_by (call_step s c) ++ xs)) (qs ++ (stores_by (call_step s c) ++ us))
    (by d is_final_ac_answer_bringing_iac
    (last_element (if (is_refusal (call_step s c).reply.answer) tk (call_made s c (call_step s c) ∷ tk)))) f
one_trace s c d (inl r) ps qs t tk xs us f more =
    joined ps qs (sent_by (call_step s c)) xs (stores_by (call_step s c)) us
    (subst (λ (ms : List CallMade). Traced ((ps ++ generate_ac_p1s (sent_by (call_step s c))) ++ generate_ac_p1s xs)
    ((qs ++ stores_by (call_step s c)) ++ us) (by d is_final_ac_answer_bringing_iac (last_element ms)) f)
    (sym (if_yes _ _ r.refused)) (more d (refused_traced ps qs s (call_step s c) r.refused r.same t)))
one_trace s c d (inr a) ps qs t tk xs us f more =
    joined ps qs (sent_by (call_step s c)) xs (stores_by (call_step s c)) us
    (subst (λ (ms : List CallMade). Traced ((ps ++ generate_ac_p1s (sent_by (call_step s c))) ++ generate_ac_p1s xs)
    ((qs ++ stores_by (call_step s c)) ++ us) (by d is_final_ac_answer_bringing_iac (last_element ms)) f)
    (sym (if_no _ _ a.taken_on))
    (subst (λ (x : Bool). Traced ((ps ++ generate_ac_p1s (sent_by (call_step s c))) ++ generate_ac_p1s xs)
    ((qs ++ stores_by (call_step s c)) ++ us) x f)
    (by_front d (is_final_ac_answer_bringing_iac m) is_final_ac_answer_bringing_iac m tk refl)
    (more (is_final_ac_answer_bringing_iac m) (a.traces ps qs d t))))
  where
    m : CallMade
    m = call_made s c (call_step s c)

traced_on : (s : Session) (cs : List Call) (d : Bool) → session_record_in_ranges s ≡ true → Held s
    → (ps : List ℕ) (qs : List (List ℕ)) → Traced ps qs d s
    → Traced (ps ++ generate_ac_p1s (commands_of (play_calls s cs))) (qs ++ stores_when_generate_ac_sent (play_calls s cs))
    (by d is_final_ac_answer_bringing_iac (last_element (calls_accepted (play_calls s cs)))) (final_session s cs)
unfolding play_calls final_session calls_accepted last_element commands_of stores_when_generate_ac_sent
traced_on s [] d i h ps qs t = none_traced ps qs t
traced_on s (c ∷ cs) d i h ps qs t =
    one_trace s c d (call_leaves s c i h (call_keeps s c i)) ps qs t _ _ _ _
    (λ x e. traced_on (call_step s c).reply.session cs x (call_keeps s c i)
    (held_after s c (call_leaves s c i h (call_keeps s c i)) h) _ _ e)

pub always : (s : Session) (cs : List Call) → s.phase ≡ Phase.Fresh → session_record_in_ranges s ≡ true
    → ExplanationTrueUnlessLastCallBringsIac (play_calls s cs) (final_session s cs)
always s cs q i =
    record {
      explained = λ n. record {
        never_25 = answered n;
        explains = explains_clause ms (final_session s cs) in_ranges traced n (answered n);
        p1 = p1_clause ms (final_session s cs) in_ranges traced n;
        stage = stage_clause ms (final_session s cs) in_ranges traced n;
        bit = bit_clause ms (final_session s cs) in_ranges traced n;
        no_bit = no_bit_clause ms (final_session s cs) in_ranges traced n;
        holder = holder_clause ms (final_session s cs) in_ranges traced n;
        lower = lower_clause ms (final_session s cs) in_ranges traced n;
        not_lower = not_lower_clause ms (final_session s cs) in_ranges traced n;
      };
      mode = traced.mode;
    }
  where
    ms : List CallMade
    ms = play_calls s cs

    no_choice_lem : Held s
    no_choice_lem a z = apart (ap awaits_cryptogram (sym q ∙ z))

    answered : Answers (ends_with_code ms) (final_session s cs)
    answered =
        subst (λ (x : Bool). Answers x (final_session s cs)) (by_last_is (last_element (calls_accepted ms)))
        (on s cs false i no_choice_lem (λ n. phase_answers s Phase.Fresh i q (λ z. no_refusal z)))

    in_ranges : session_record_in_ranges (final_session s cs) ≡ true
    in_ranges = all_keep s cs i

    traced : TracedBy ms (final_session s cs)
    traced =
        subst (λ (x : Bool). Traced (generate_ac_p1s (commands_of ms)) (stores_when_generate_ac_sent ms) x (final_session s cs))
        (by_last_is (last_element (calls_accepted ms)))
        (traced_on s cs false i no_choice_lem [] [] (fresh_traced s q))
