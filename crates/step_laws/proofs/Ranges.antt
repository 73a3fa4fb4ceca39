-- A call on a record that is in its ranges returns a record that is in its ranges: way by way, by what each leaves of
-- the clauses.
-- Assumes nothing.
use Rattle.std.specs.Prelude.{Some, None}
use mathlib.Core.Path.{◌≡◌, refl, sym, ap, subst, ◌∙◌}
use mathlib.Core.Bool.{true, false}
use mathlib.Core.List.{List}
use Prim.Native.Nat.{ℕ, ◌+◌, ◌≤◌, ◌<◌}
use native.Mathlib.Omega.{arith}
use lib.ListN.{length, get_or}
use borrow.Author.Tests.{ltb-true}
use Rattle.basics.specs.Choice.{every}
use Rattle.basics.specs.Number.{has_bit_of_weight}
use Rattle.basics.proofs.Laws.{both_left, both_right, either_false}
use Rattle.dictionary.specs.Named.{row_pan, row_expiration_date, row_aip, row_cdol1, row_afl, row_tvr, row_cvm_results, row_iad}
use Rattle.dictionary.specs.Named.{row_ac, row_cid, row_terminal_type, row_atc, row_cvc3_track2}
use Rattle.dictionary.specs.Rows.{dictionary_rows, row_at, store_size, find_row, set_by_start}
use Rattle.dictionary.specs.TerminalType.{listed_terminal_type}
use Rattle.dictionary.proofs.Named.{at_5a, at_82, at_8c, at_94, at_5f24, at_9f10, at_9f26, at_9f27, at_9f35, at_9f36}
use Rattle.dictionary.proofs.Named.{at_9f61}
use Rattle.store.specs.Place.{StoredValue, absent, bytes_or_empty_if_absent, is_present, object_value}
use Rattle.afl.specs.Records.{accepts_afl, afl_record_count, kth_record_of_accepted_afl}
use Rattle.afl.proofs.Laws.{accepted_total, record_inside, record_there}
use Rattle.reading.specs.declared.Awaited.{Awaited}
use Rattle.analysis.specs.Bits.{value_has_bit}
use Rattle.analysis.specs.Action.{transaction_limit, findings_of}
use Rattle.analysis.specs.declared.action.AnalysisFindings.{AnalysisFindings}
use Rattle.analysis.proofs.Laws.{found_length, bits_length}
use Rattle.session_record.specs.declared.Outcome.{Outcome}
use Rattle.session_record.specs.declared.AwaitedRecord.{AwaitedRecord}
use Rattle.session_record.specs.declared.AwaitedResponse.{AwaitedResponse}
use Rattle.session_record.specs.declared.Phase.{Phase}
use Rattle.session_record.specs.declared.Session.{Session}
use Rattle.session_record.specs.declared.Reply.{Reply}
use Rattle.session_record.specs.Numbers.{outcome_of_nonzero_reason}
use Rattle.basics.specs.Reason.{reason_object_missing, reason_dol_broken_or_bad_length, reason_link, reason_stopped}
use Rattle.session_record.specs.Session.{store_bytes, ending_of}
use Rattle.store.specs.Held.{stored_bytes}
use Rattle.session_record.specs.Ranges.{emv_mode, emv_or_mag_stripe_mode, stored_afl, stored_afl_record_count}
use Rattle.session_record.specs.Ranges.{expiry_pan_and_cdol1_non_empty, track2_and_bitmaps_non_empty, most_commands, zero_tvr}
use Rattle.session_record.specs.Ranges.{session_record_in_ranges}
use Rattle.session_record.proofs.Clauses.{AllObjectsFit, RunningClauses, FreshClauses, GpoClauses, RecordClauses}
use Rattle.session_record.proofs.Laws.{all_fits, fits_all, all_brought}
use Rattle.session_record.proofs.Stored.{empty_lacks}
use Rattle.session_record.proofs.Reasons.{decided, outcome_goes}
use Rattle.session_record.proofs.Phases.{store_size_lem, store_fits, on_fresh_lem, on_gpo_lem, on_record_lem, count_most, ended_session}
use Rattle.session_record.proofs.Phases.{waiting_keeps, ended_keeps, fails_keeps}
use Rattle.start_data.specs.StartData.{loaded, load_start_bytes}
use Rattle.start_data.proofs.Laws.{load_brought, load_size, load_fits, load_untouched_of, load_listed}
use Rattle.session.specs.Steps.{Step, store_with_tvr, store_with_findings, abort_step, link_failed_step, stop_step}
use Rattle.session.specs.Start.{start_step}
use Rattle.session.specs.Answer.{awaited_record_with_limit, requested_cryptogram, answer_step}
use Rattle.session.specs.MagStripe.{awaited_checksum_with_limit, store_with_track_digits}
use Rattle.step_laws.proofs.Kept.{Waits, gpo_plain, record_plain, read_waits, read_fits, read_either}
use Rattle.step_laws.proofs.Kept.{read_afl, read_limit, bits_size, bits_fits, bits_here, bits_other}
use Rattle.step_laws.proofs.Kept.{bits_hold, found_size, found_fits, found_runs, found_9f34, found_other}
use Rattle.step_laws.proofs.Kept.{found_limit, digits_size, digits_fits}
use Rattle.step_laws.proofs.Ways.{Reason, with_store, taken, GpoWay, RecordsWay, MagStripeWay, RecordWay}
use Rattle.step_laws.proofs.Ways.{CryptogramWay, ChecksumWay, AnswerWay, answer_way, loaded_session}
use Rattle.step_laws.proofs.Ways.{analysed_session, StartWay, start_way, BrokenWay, broken_way}

-- a session that ends for a reason
failing : (t : Session) (n : ℕ) → Reason n → length (store_bytes t) ≡ store_size → AllObjectsFit (store_bytes t)
    → t.count ≤ most_commands
    → session_record_in_ranges (ended_session t (ending_of (outcome_of_nonzero_reason n) n)) ≡ true
failing t n r l f c = ended_keeps t (outcome_of_nonzero_reason n) n (outcome_goes n r.least r.most) l f c

list_reason : Reason reason_dol_broken_or_bad_length
list_reason = record { least = omega arith; most = omega arith }

-- ---- after GPO

module _ (s : Session) (i : session_record_in_ranges s ≡ true) (q : s.phase ≡ Phase.Waiting AwaitedResponse.Gpo)
    (card buf : List ℕ) where
  gpo_on : GpoClauses s.count (store_bytes s)
  gpo_on = on_gpo_lem s i q

  gpo_before : Waits (store_bytes s)
  gpo_before = record { size = store_size_lem s i; fits = store_fits s i; runs = gpo_on.runs; zero_95 = gpo_on.zero_95 }

  gpo_after : Waits (store_bytes (taken Awaited.Gpo s card))
  gpo_after = read_waits Awaited.Gpo gpo_plain (store_bytes s) card gpo_before

  gpo_keeps : {st : Step} → GpoWay (taken Awaited.Gpo s card) buf st → session_record_in_ranges st.reply.session ≡ true
  gpo_keeps (GpoWay.failed n r) = failing (taken Awaited.Gpo s card) n r gpo_after.size gpo_after.fits
      (count_most s i)
  gpo_keeps (GpoWay.first r m a e) =
      waiting_keeps (taken Awaited.Gpo s card)
      (Phase.Waiting (awaited_record_with_limit (transaction_limit (store_bytes (taken Awaited.Gpo s card))) 1))
      (s.count + 1) gpo_after.size gpo_after.fits
      (record {
        runs = gpo_after.runs;
        mode = m;
        zero_95 = gpo_after.zero_95;
        limit = refl;
        afl = a;
        first = omega arith;
        last = (accepted_total (stored_afl (store_bytes (taken Awaited.Gpo s card))) a).0;
        count = omega (arith, gpo_on.count);
      })

-- ---- after a record

module _ (s : Session) (i : session_record_in_ranges s ≡ true) (p : AwaitedRecord)
    (q : s.phase ≡ Phase.Waiting (AwaitedResponse.Record p)) (sfi : ℕ) (card buf : List ℕ) where
  record_on : RecordClauses p s.count (store_bytes s)
  record_on = on_record_lem s i p q

  abbrev t : Session
  t = taken (Awaited.Record (record { number = sfi })) s card

  record_before : Waits (store_bytes s)
  record_before = record {
    size = store_size_lem s i;
    fits = store_fits s i;
    runs = record_on.runs;
    zero_95 =
        record_on.zero_95;
  }

  record_after : Waits (store_bytes t)
  record_after = read_waits (Awaited.Record (record { number = sfi })) (record_plain sfi) (store_bytes s) card
      record_before

  mode : emv_or_mag_stripe_mode (store_bytes t) ≡ true
  mode = read_either (Awaited.Record (record { number = sfi })) (store_bytes s) card record_before.size
      record_before.fits record_on.mode

  limited : p.limit ≡ transaction_limit (store_bytes t)
  limited = record_on.limit ∙ sym (read_limit (Awaited.Record (record { number = sfi })) (store_bytes s) card
      record_before.size record_before.fits record_on.mode)

  same : stored_afl (store_bytes t) ≡ stored_afl (store_bytes s)
  same = ap bytes_or_empty_if_absent (read_afl (Awaited.Record (record { number = sfi })) (store_bytes s) card
      record_before.size record_on.afl)

  located : accepts_afl (stored_afl (store_bytes t)) ≡ true
  located = ap accepts_afl same ∙ record_on.afl

  inside : p.number ≤ stored_afl_record_count (store_bytes t)
  inside = subst (λ (v : List ℕ). p.number ≤ afl_record_count v) (sym same) record_on.last

  -- where the AFL names no record after this one, it was the last
  at_last : kth_record_of_accepted_afl (stored_afl (store_bytes t)) (p.number + 1) ≡ None
      → p.number ≡ stored_afl_record_count (store_bytes t)
  at_last e = omega (arith, inside, past)
    where
      past : p.number + 1 ≤ stored_afl_record_count (store_bytes t) → ⊥
      past h =
          let w = record_there (stored_afl (store_bytes t)) (p.number + 1) (record { sfi = 0; number = 0 }) located
          (omega arith) h in
          let z : ◌≡◌ {A = ℕ} 0 1 = cc in omega arith

  records_keeps : p.number ≡ stored_afl_record_count (store_bytes t) → emv_mode (store_bytes t) ≡ true → {st : Step}
      → RecordsWay p.limit t buf st → session_record_in_ranges st.reply.session ≡ true
  unfolding expiry_pan_and_cdol1_non_empty every requested_cryptogram
  records_keeps d v (RecordsWay.failed n r x) = failing t n r record_after.size record_after.fits (count_most s i)
  records_keeps d v RecordsWay.unlisted =
      failing (analysed_session t) reason_dol_broken_or_bad_length list_reason (found_size b f l n m)
      (found_fits b f l n m record_after.fits) (count_most s i)
    where
      b : List ℕ
      b = store_bytes t

      f : AnalysisFindings
      f = findings_of (store_bytes t)

      l : length b ≡ store_size
      l = record_after.size

      n : length f.results ≡ 3
      n = found_length (store_bytes t)

      m : length f.bits ≡ 5
      m = bits_length (store_bytes t)
  records_keeps d v (RecordsWay.asked c h g) =
      waiting_keeps (analysed_session t)
      (Phase.Waiting (AwaitedResponse.Cryptogram (requested_cryptogram p.limit (store_bytes t)))) (s.count + 1)
      (found_size b f l n m) (found_fits b f l n m record_after.fits)
      (record {
        runs = found_runs b f l n m record_after.runs;
        mode = ap (λ (x : StoredValue). value_has_bit (bytes_or_empty_if_absent x) 2 8)
            (found_other b f l n m 0x82 row_aip at_82 (λ z. omega arith) (λ z. omega arith)) ∙ v;
        afl = ap accepts_afl kept ∙ located;
        some_5f24 = filled 0x5F24 row_expiration_date at_5f24 (λ z. omega arith) (λ z. omega arith)
            (ltb-true 0 _ (both_left _ _ h));
        some_5a = filled 0x5A row_pan at_5a (λ z. omega arith) (λ z. omega arith)
            (ltb-true 0 _ (both_left _ _ (both_right _ _ h)));
        some_8c = filled 0x8C row_cdol1 at_8c (λ z. omega arith) (λ z. omega arith)
            (ltb-true 0 _ (both_left _ _ (both_right _ _ (both_right _ _ h))));
        verified = ap is_present (found_9f34 b f l n m);
        limit = limited ∙ sym (found_limit b f l n m);
        count = omega (arith, record_on.count, d, ap afl_record_count kept);
      })
    where
      b : List ℕ
      b = store_bytes t

      f : AnalysisFindings
      f = findings_of (store_bytes t)

      l : length b ≡ store_size
      l = record_after.size

      n : length f.results ≡ 3
      n = found_length (store_bytes t)

      m : length f.bits ≡ 5
      m = bits_length (store_bytes t)

      kept : stored_afl (store_with_findings b f) ≡ stored_afl b
      kept = ap bytes_or_empty_if_absent (found_other b f l n m 0x94 row_afl at_94 (λ z. omega arith) (λ z. omega arith))

      filled : (u j : ℕ) → find_row dictionary_rows u ≡ Some j → (j ≡ row_tvr → ⊥) → (j ≡ row_cvm_results → ⊥)
          → 0 < length (stored_bytes b u) → 0 < length (stored_bytes (store_with_findings b f) u)
      filled u j e ne nf k = subst (λ (x : StoredValue). 0 < length (bytes_or_empty_if_absent x))
          (sym (found_other b f l n m u j e ne nf)) k

  mag_stripe_keeps : p.number ≡ stored_afl_record_count (store_bytes t) → emv_mode (store_bytes t) ≡ false → {st : Step}
      → MagStripeWay p.limit t buf st → session_record_in_ranges st.reply.session ≡ true
  unfolding track2_and_bitmaps_non_empty every
  mag_stripe_keeps d v (MagStripeWay.failed n r) = failing t n r record_after.size record_after.fits
      (count_most s i)
  mag_stripe_keeps d v (MagStripeWay.asked c h g) =
      waiting_keeps t (Phase.Waiting (awaited_checksum_with_limit p.limit)) (s.count + 1) record_after.size
      record_after.fits
      (record {
        runs = record_after.runs;
        mode = sym (either_false _ v) ∙ mode;
        zero_95 = record_after.zero_95;
        afl = located;
        some_9f6b = ltb-true 0 _ (both_left _ _ h);
        some_9f65 = ltb-true 0 _ (both_left _ _ (both_right _ _ h));
        some_9f66 = ltb-true 0 _ (both_left _ _ (both_right _ _ (both_right _ _ h)));
        some_9f67 = ltb-true 0 _ (both_left _ _ (both_right _ _ (both_right _ _ (both_right _ _ h))));
        limit = limited;
        count = omega (arith, record_on.count, d);
      })

  record_keeps : {st : Step} → RecordWay p t buf st → session_record_in_ranges st.reply.session ≡ true
  record_keeps (RecordWay.next r e) =
      waiting_keeps t (Phase.Waiting (awaited_record_with_limit p.limit (p.number + 1))) (s.count + 1)
      record_after.size record_after.fits
      (record {
        runs = record_after.runs;
        mode = mode;
        zero_95 = record_after.zero_95;
        limit = limited;
        afl = located;
        first = omega arith;
        last = (record_inside (stored_afl (store_bytes t)) (p.number + 1) r e).1;
        count = omega (arith, record_on.count);
      })
  record_keeps (RecordWay.last e m w) = records_keeps (at_last e) m w
  record_keeps (RecordWay.striped e m w) = mag_stripe_keeps (at_last e) m w

-- ---- the cryptogram

cryptogram_keeps : (s : Session) (card : List ℕ) (m : ℕ) → session_record_in_ranges s ≡ true → {r : Reply}
    → CryptogramWay m (taken Awaited.Cryptogram s card) r → session_record_in_ranges r.session ≡ true
cryptogram_keeps s card m i (CryptogramWay.failed n r) =
    let w = read_fits Awaited.Cryptogram (store_bytes s) card (store_size_lem s i) (store_fits s i) in
    failing (taken Awaited.Cryptogram s card) n r w.0 w.1 (count_most s i)
cryptogram_keeps s card m i (CryptogramWay.decides o g) =
    let w = read_fits Awaited.Cryptogram (store_bytes s) card (store_size_lem s i) (store_fits s i) in
    ended_keeps (taken Awaited.Cryptogram s card) o 0 g w.0 w.1 (count_most s i)

-- ---- the checksum

checksum_keeps : (s : Session) (card : List ℕ) → session_record_in_ranges s ≡ true → {r : Reply}
    → ChecksumWay (taken Awaited.Checksum s card) r → session_record_in_ranges r.session ≡ true
checksum_keeps s card i ChecksumWay.failed =
    let w = read_fits Awaited.Checksum (store_bytes s) card (store_size_lem s i) (store_fits s i) in
    failing (taken Awaited.Checksum s card) reason_object_missing (record { least = omega arith; most = omega arith })
    w.0 w.1 (count_most s i)
checksum_keeps s card i ChecksumWay.declined =
    let w = read_fits Awaited.Checksum (store_bytes s) card (store_size_lem s i) (store_fits s i) in
    ended_keeps (taken Awaited.Checksum s card) Outcome.Declined 0 decided.2 w.0 w.1 (count_most s i)
checksum_keeps s card i ChecksumWay.online =
    let w = read_fits Awaited.Checksum (store_bytes s) card (store_size_lem s i) (store_fits s i) in
    let b = store_bytes (taken Awaited.Checksum s card) in
    ended_keeps (with_store s (store_with_track_digits b)) Outcome.OnlineRequest 0 decided.1
    (digits_size b w.0 w.1) (digits_fits b w.0 w.1) (count_most s i)

-- ---- the calls

pub answer_keeps : (s : Session) (card buf : List ℕ) → session_record_in_ranges s ≡ true
    → session_record_in_ranges (answer_step s card buf).reply.session ≡ true
answer_keeps s card buf i = go (answer_way s card buf)
  where
    go : {st : Step} → AnswerWay s card buf st → session_record_in_ranges st.reply.session ≡ true
    go (AnswerWay.refused n l) = i
    go (AnswerWay.unread m n k r h x) = fails_keeps s n r.least r.most i
    go (AnswerWay.gpo k q z w) = gpo_keeps s i q card buf w
    go (AnswerWay.recorded p r k q e w) = record_keeps s i p q r.sfi card buf w
    go (AnswerWay.cryptogram a k q w) = cryptogram_keeps s card _ i w
    go (AnswerWay.checksum c k q w) = checksum_keeps s card i w

broken_keeps : (s : Session) (n : ℕ) (buf : List ℕ) → Reason n → session_record_in_ranges s ≡ true
    → session_record_in_ranges (abort_step s n buf).reply.session ≡ true
broken_keeps s n buf r i = go (broken_way s n buf)
  where
    go : {st : Step} → BrokenWay s n buf st → session_record_in_ranges st.reply.session ≡ true
    go (BrokenWay.refused m l) = i
    go (BrokenWay.broken m k h) = fails_keeps s n r.least r.most i

pub link_keeps : (s : Session) (buf : List ℕ) → session_record_in_ranges s ≡ true
    → session_record_in_ranges (link_failed_step s buf).reply.session ≡ true
link_keeps s buf i = broken_keeps s reason_link buf (record { least = omega arith; most = omega arith }) i

pub stop_keeps : (s : Session) (buf : List ℕ) → session_record_in_ranges s ≡ true
    → session_record_in_ranges (stop_step s buf).reply.session ≡ true
stop_keeps s buf i = broken_keeps s reason_stopped buf (record { least = omega arith; most = omega arith }) i

-- ---- start

-- rows that a start may not set
not_set : (has_bit_of_weight (row_at row_aip).setters set_by_start ≡ false)
    × (has_bit_of_weight (row_at row_afl).setters set_by_start ≡ false)
    × (has_bit_of_weight (row_at row_iad).setters set_by_start ≡ false)
    × (has_bit_of_weight (row_at row_ac).setters set_by_start ≡ false)
    × (has_bit_of_weight (row_at row_cid).setters set_by_start ≡ false)
    × (has_bit_of_weight (row_at row_atc).setters set_by_start ≡ false)
    × (has_bit_of_weight (row_at row_cvc3_track2).setters set_by_start ≡ false)
unfolding dictionary_rows
not_set = (refl, refl, refl, refl, refl, refl, refl)

module _ (s : Session) (i : session_record_in_ranges s ≡ true) (q : s.phase ≡ Phase.Fresh) (bytes buf b : List ℕ)
    (e : load_start_bytes (store_bytes s) bytes ≡ loaded b) where
  fresh_on : FreshClauses s.count (store_bytes s)
  fresh_on = on_fresh_lem s i q

  none_yet : (t : ℕ) → object_value (store_bytes s) t ≡ absent
  none_yet t = ap (λ (d : List ℕ). object_value d t) fresh_on.store ∙ empty_lacks t

  size : length b ≡ store_size
  size = load_size (store_bytes s) bytes b e (store_size_lem s i)

  fits : AllObjectsFit b
  fits = all_fits b (load_fits (store_bytes s) bytes b e (store_size_lem s i) (fits_all (store_bytes s) (store_fits s i)))

  lacking : (t k : ℕ) → find_row dictionary_rows t ≡ Some k → has_bit_of_weight (row_at k).setters set_by_start ≡ false
      → (k ≡ row_tvr → ⊥) → object_value (store_with_tvr b zero_tvr) t ≡ absent
  lacking t k f n ne = bits_other b zero_tvr size refl t k f ne ∙ load_untouched_of (store_bytes s) bytes b e
      (store_size_lem s i) t k f n ∙ none_yet t

  running : RunningClauses (store_with_tvr b zero_tvr)
  running =
      record {
        results = ap is_present (bits_here b zero_tvr size refl);
        brought = λ k h m. bits_hold b zero_tvr size refl (row_at k).tag
            (all_brought b (load_brought (store_bytes s) bytes b e) k h m);
        terminal = ap (λ (x : StoredValue). listed_terminal_type (get_or (bytes_or_empty_if_absent x) 0 0))
            (bits_other b zero_tvr size refl 0x9F35 row_terminal_type at_9f35 (λ z. omega arith))
            ∙ load_listed (store_bytes s) bytes b e (store_size_lem s i) (ap is_present (none_yet 0x9F35));
        no_9f10 = lacking 0x9F10 row_iad at_9f10 not_set.2 (λ z. omega arith);
        no_9f26 = lacking 0x9F26 row_ac at_9f26 not_set.3 (λ z. omega arith);
        no_9f27 = lacking 0x9F27 row_cid at_9f27 not_set.4 (λ z. omega arith);
        no_9f36 = lacking 0x9F36 row_atc at_9f36 not_set.5 (λ z. omega arith);
        no_9f61 = lacking 0x9F61 row_cvc3_track2 at_9f61 not_set.6 (λ z. omega arith);
      }

  start_fails : session_record_in_ranges
      (ended_session (loaded_session s b) (ending_of (outcome_of_nonzero_reason reason_dol_broken_or_bad_length)
      reason_dol_broken_or_bad_length)) ≡ true
  start_fails = failing (loaded_session s b) reason_dol_broken_or_bad_length list_reason (bits_size b zero_tvr size refl)
      (bits_fits b zero_tvr size refl fits) (count_most s i)

  start_waits : session_record_in_ranges
      (record {
        phase = Phase.Waiting AwaitedResponse.Gpo;
        count = s.count + 1;
        store =
            record { bytes = store_with_tvr b zero_tvr };
      }) ≡ true
  start_waits =
      waiting_keeps (loaded_session s b) (Phase.Waiting AwaitedResponse.Gpo) (s.count + 1)
      (bits_size b zero_tvr size refl) (bits_fits b zero_tvr size refl fits)
      (record {
        runs = running;
        no_82 = lacking 0x82 row_aip at_82 not_set.0 (λ z. omega arith);
        no_94 = lacking 0x94 row_afl at_94 not_set.1 (λ z. omega arith);
        zero_95 = bits_here b zero_tvr size refl;
        count = omega (arith, fresh_on.count);
      })

pub start_keeps : (s : Session) (bytes buf : List ℕ) → session_record_in_ranges s ≡ true
    → session_record_in_ranges (start_step s bytes buf).reply.session ≡ true
start_keeps s bytes buf i = go (start_way s bytes buf)
  where
    go : {st : Step} → StartWay s bytes buf st → session_record_in_ranges st.reply.session ≡ true
    go (StartWay.refused n l) = i
    go (StartWay.unlisted b k q e) = start_fails s i q bytes buf b e
    go (StartWay.asked b c k q e f) = start_waits s i q bytes buf b e
