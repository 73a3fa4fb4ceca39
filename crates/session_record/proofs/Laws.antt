-- The ranges test passes exactly when every clause holds: `clauses` and `clauses_pass`, from one pair of laws
-- for each part.
-- Assumes nothing.
use mathlib.Core.Path.{◌≡◌, refl, sym, ap, ◌∙◌}
use mathlib.Core.Bool.{true, false}
use mathlib.Core.Logic.{◌⊎◌, inl, inr}
use mathlib.Core.List.{List}
use Prim.Native.Nat.{ℕ, ◌+◌, ◌≤◌, ◌<◌}
use native.Mathlib.Omega.{arith}
use lib.Dec.{eqb, leb}
use lib.ListN.{length, replicate}
use borrow.Author.Tests.{eq-eqb, ne_eqb, eqb-true, eqb-false, le-leb, leb-true, lt-ltb, ltb-true}
use Rattle.basics.specs.Choice.{both, every}
use Rattle.basics.proofs.Laws.{bool_cases, both_yes, both_left, both_right, either_left, either_right, either_false}
use Rattle.basics.proofs.Table.{at}
use Rattle.dictionary.specs.Rows.{Row, dictionary_rows, blank_row, row_at, optional_at_start, required_at_start, row_count}
use Rattle.dictionary.specs.Rows.{store_size}
use Rattle.analysis.specs.Action.{transaction_limit}
use Rattle.session_record.specs.declared.AwaitedRecord.{AwaitedRecord}
use Rattle.session_record.specs.declared.RequestedCryptogram.{RequestedCryptogram}
use Rattle.session_record.specs.declared.AwaitedChecksum.{AwaitedChecksum}
use Rattle.session_record.specs.declared.Ending.{Ending}
use Rattle.session_record.specs.declared.AwaitedResponse.{AwaitedResponse}
use Rattle.session_record.specs.declared.Phase.{Phase}
use Rattle.session_record.specs.declared.Session.{Session}
use Rattle.session_record.specs.Session.{store_bytes}
use Rattle.store.specs.Held.{has_object}
use Rattle.session_record.specs.Ranges.{stored_object_absent_or_fits_row, all_stored_objects_fit_rows}
use Rattle.session_record.specs.Ranges.{is_present_if_required_at_start, all_required_at_start_present}
use Rattle.session_record.specs.Ranges.{last_response_objects_absent, in_running_ranges, stored_afl_record_count}
use Rattle.session_record.specs.Ranges.{expiry_pan_and_cdol1_non_empty, track2_and_bitmaps_non_empty, in_fresh_ranges}
use Rattle.session_record.specs.Ranges.{in_gpo_ranges, in_record_ranges, in_cryptogram_ranges, in_checksum_ranges}
use Rattle.session_record.specs.Ranges.{most_commands, in_ended_ranges, in_waiting_ranges, in_phase_ranges}
use Rattle.session_record.specs.Ranges.{session_record_in_ranges}
use Rattle.session_record.proofs.Clauses.{AllObjectsFit, RunningClauses, FreshClauses, GpoClauses, RecordClauses}
use Rattle.session_record.proofs.Clauses.{CryptogramClauses, ChecksumClauses, EndedClauses, WaitingClauses}
use Rattle.session_record.proofs.Clauses.{PhaseClauses, RangesClauses}
use Rattle.session_record.proofs.Every.{every_all}
use Rattle.store.proofs.Rows.{rows_length}
use Rattle.session_record.proofs.Values.{absent_of, is_lacking, zeros_of, zeros_are, zero_results, results_zero}

-- ---- every stored object fits

pub all_fits : (b : List ℕ) → all_stored_objects_fit_rows b ≡ true → AllObjectsFit b
unfolding all_stored_objects_fit_rows stored_object_absent_or_fits_row
all_fits b e k h =
    let w = at (stored_object_absent_or_fits_row b) dictionary_rows blank_row e k (omega (arith, rows_length)) in
    record { length_byte = leb-true _ _ (both_left _ _ w); value = both_right _ _ w }

pub fits_all : (b : List ℕ) → AllObjectsFit b → all_stored_objects_fit_rows b ≡ true
unfolding all_stored_objects_fit_rows stored_object_absent_or_fits_row
fits_all b f =
    every_all (stored_object_absent_or_fits_row b) dictionary_rows blank_row
    (λ k h. let w = f k (omega (arith, rows_length)) in both_yes _ _ (le-leb _ _ w.length_byte) w.value)

-- ---- running

-- a start must bring a row's object or need not
must_bit : every (λ (r : Row). leb r.must required_at_start) dictionary_rows ≡ true
unfolding dictionary_rows every both
must_bit = refl

pub all_brought : (b : List ℕ) → all_required_at_start_present b ≡ true → (k : ℕ) → k < row_count
    → (row_at k).must ≡ required_at_start → has_object b (row_at k).tag ≡ true
unfolding all_required_at_start_present is_present_if_required_at_start
all_brought b e k h m =
    sym (either_false _ (ne_eqb (row_at k).must 0 (λ z. omega arith))) ∙ at (is_present_if_required_at_start b)
    dictionary_rows blank_row e k (omega (arith, rows_length))

pub brought_all : (b : List ℕ) → ((k : ℕ) → k < row_count → (row_at k).must ≡ required_at_start
    → has_object b (row_at k).tag ≡ true) → all_required_at_start_present b ≡ true
unfolding all_required_at_start_present is_present_if_required_at_start
brought_all b f = every_all (is_present_if_required_at_start b) dictionary_rows blank_row
    (λ k h. go k h (bool_cases (eqb (row_at k).must optional_at_start)))
  where
    go : (k : ℕ) → k < length dictionary_rows → (eqb (row_at k).must optional_at_start ≡ true)
        ⊎ (eqb (row_at k).must optional_at_start ≡ false) → is_present_if_required_at_start b (row_at k) ≡ true
    go k h (inl y) = either_left _ _ y
    go k h (inr n) =
        let l : (row_at k).must ≤ 1 = leb-true _ _ (at (λ (r : Row). leb r.must required_at_start) dictionary_rows
        blank_row must_bit k h) in
        let z = eqb-false (row_at k).must optional_at_start n in
        either_right _ _ (f k (omega (arith, rows_length)) (omega arith))

pub runs : (b : List ℕ) → in_running_ranges b ≡ true → RunningClauses b
unfolding in_running_ranges last_response_objects_absent every
runs b e =
    let p = both_right _ _ e in
    let q = both_right _ _ p in
    let u = both_right _ _ q in
    let v = both_right _ _ u in
    let w = both_right _ _ v in
    let x = both_right _ _ w in
    record {
      results = both_left _ _ e;
      brought = all_brought b (both_left _ _ p);
      terminal = both_left _ _ q;
      no_9f10 = absent_of _ (both_left _ _ u);
      no_9f26 = absent_of _ (both_left _ _ v);
      no_9f27 = absent_of _ (both_left _ _ w);
      no_9f36 = absent_of _ (both_left _ _ x);
      no_9f61 = absent_of _ (both_left _ _ (both_right _ _ x));
    }

pub running_passes : (b : List ℕ) → RunningClauses b → in_running_ranges b ≡ true
unfolding in_running_ranges last_response_objects_absent every
running_passes b r =
    both_yes _ _ r.results
    (both_yes _ _ (brought_all b r.brought)
    (both_yes _ _ r.terminal
    (both_yes _ _ (is_lacking b 0x9F10 r.no_9f10)
    (both_yes _ _ (is_lacking b 0x9F26 r.no_9f26)
    (both_yes _ _ (is_lacking b 0x9F27 r.no_9f27)
    (both_yes _ _ (is_lacking b 0x9F36 r.no_9f36)
    (both_yes _ _ (is_lacking b 0x9F61 r.no_9f61) refl)))))))

-- ---- phase by phase

pub fresh_clauses : (n : ℕ) (b : List ℕ) → length b ≡ store_size → in_fresh_ranges n b ≡ true → FreshClauses n b
unfolding in_fresh_ranges
fresh_clauses n b l e =
    record {
      count = eqb-true n 0 (both_left _ _ e);
      store = zeros_of b (both_right _ _ e) ∙ ap
          (λ (m : ℕ). replicate m 0) l;
    }

pub fresh_passes : (n : ℕ) (b : List ℕ) → FreshClauses n b → in_fresh_ranges n b ≡ true
unfolding in_fresh_ranges
fresh_passes n b c = both_yes _ _ (eq-eqb n 0 c.count) (rw c.store (zeros_are store_size))

pub gpo_clauses : (n : ℕ) (b : List ℕ) → AllObjectsFit b → in_gpo_ranges n b ≡ true → GpoClauses n b
unfolding in_gpo_ranges
gpo_clauses n b f e =
    let p = both_right _ _ e in
    let q = both_right _ _ p in
    let u = both_right _ _ q in
    let r = runs b (both_left _ _ e) in
    record {
      runs = r;
      no_82 = absent_of _ (both_left _ _ p);
      no_94 = absent_of _ (both_left _ _ q);
      zero_95 = zero_results b f r.results (both_left _ _ u);
      count = eqb-true n 1 (both_right _ _ u);
    }

pub gpo_passes : (n : ℕ) (b : List ℕ) → GpoClauses n b → in_gpo_ranges n b ≡ true
unfolding in_gpo_ranges
gpo_passes n b c =
    both_yes _ _ (running_passes b c.runs)
    (both_yes _ _ (is_lacking b 0x82 c.no_82)
    (both_yes _ _ (is_lacking b 0x94 c.no_94)
    (both_yes _ _ (results_zero b c.zero_95)
    (eq-eqb n 1 c.count))))

pub record_clauses : (p : AwaitedRecord) (n : ℕ) (b : List ℕ) → AllObjectsFit b → in_record_ranges p n b ≡ true
    → RecordClauses p n b
unfolding in_record_ranges
record_clauses p n b f e =
    let q = both_right _ _ e in
    let u = both_right _ _ q in
    let k = both_right _ _ u in
    let v = both_right _ _ k in
    let w = both_right _ _ v in
    let r = runs b (both_left _ _ e) in
    record {
      runs = r;
      mode = both_left _ _ q;
      zero_95 = zero_results b f r.results (both_left _ _ u);
      limit = eqb-true p.limit (transaction_limit b) (both_left _ _ k);
      afl = both_left _ _ v;
      first = leb-true 1 p.number (both_left _ _ (both_left _ _ w));
      last = leb-true p.number (stored_afl_record_count b) (both_right _ _ (both_left _ _ w));
      count = eqb-true n (1 + p.number) (both_right _ _ w);
    }

pub record_passes : (p : AwaitedRecord) (n : ℕ) (b : List ℕ) → RecordClauses p n b → in_record_ranges p n b ≡ true
unfolding in_record_ranges
record_passes p n b c =
    both_yes _ _ (running_passes b c.runs)
    (both_yes _ _ c.mode
    (both_yes _ _ (results_zero b c.zero_95)
    (both_yes _ _ (eq-eqb p.limit (transaction_limit b) c.limit)
    (both_yes _ _ c.afl
    (both_yes _ _
    (both_yes _ _ (le-leb 1 p.number c.first) (le-leb p.number (stored_afl_record_count b) c.last))
    (eq-eqb n (1 + p.number) c.count))))))

pub cryptogram_clauses : (a : RequestedCryptogram) (n : ℕ) (b : List ℕ) → in_cryptogram_ranges a n b ≡ true
    → CryptogramClauses a n b
unfolding in_cryptogram_ranges expiry_pan_and_cdol1_non_empty every
cryptogram_clauses a n b e =
    let p = both_right _ _ e in
    let q = both_right _ _ p in
    let k = both_left _ _ q in
    let v = both_right _ _ q in
    let l = both_right _ _ v in
    let u = both_right _ _ l in
    record {
      runs = runs b (both_left _ _ e);
      mode = both_left _ _ p;
      verified = both_left _ _ v;
      limit = eqb-true a.limit (transaction_limit b) (both_left _ _ l);
      afl = both_left _ _ u;
      some_5f24 = ltb-true 0 _ (both_left _ _ k);
      some_5a = ltb-true 0 _ (both_left _ _ (both_right _ _ k));
      some_8c = ltb-true 0 _ (both_left _ _ (both_right _ _ (both_right _ _ k)));
      count = eqb-true n (2 + stored_afl_record_count b) (both_right _ _ u);
    }

pub cryptogram_passes : (a : RequestedCryptogram) (n : ℕ) (b : List ℕ) → CryptogramClauses a n b
    → in_cryptogram_ranges a n b ≡ true
unfolding in_cryptogram_ranges expiry_pan_and_cdol1_non_empty every
cryptogram_passes a n b c =
    both_yes _ _ (running_passes b c.runs)
    (both_yes _ _ c.mode
    (both_yes _ _
    (both_yes _ _ (lt-ltb 0 _ c.some_5f24)
    (both_yes _ _ (lt-ltb 0 _ c.some_5a) (both_yes _ _ (lt-ltb 0 _ c.some_8c) refl)))
    (both_yes _ _ c.verified
    (both_yes _ _ (eq-eqb a.limit (transaction_limit b) c.limit)
    (both_yes _ _ c.afl
    (eq-eqb n (2 + stored_afl_record_count b) c.count))))))

pub checksum_clauses : (x : AwaitedChecksum) (n : ℕ) (b : List ℕ) → AllObjectsFit b → in_checksum_ranges x n b ≡ true
    → ChecksumClauses x n b
unfolding in_checksum_ranges track2_and_bitmaps_non_empty every
checksum_clauses x n b f e =
    let p = both_right _ _ e in
    let z = both_right _ _ p in
    let q = both_right _ _ z in
    let k = both_left _ _ q in
    let k2 = both_right _ _ k in
    let k3 = both_right _ _ k2 in
    let l = both_right _ _ q in
    let u = both_right _ _ l in
    let r = runs b (both_left _ _ e) in
    record {
      runs = r;
      mode = both_left _ _ p;
      zero_95 = zero_results b f r.results (both_left _ _ z);
      afl = both_left _ _ u;
      some_9f6b = ltb-true 0 _ (both_left _ _ k);
      some_9f65 = ltb-true 0 _ (both_left _ _ k2);
      some_9f66 = ltb-true 0 _ (both_left _ _ k3);
      some_9f67 = ltb-true 0 _ (both_left _ _ (both_right _ _ k3));
      limit = eqb-true x.limit (transaction_limit b) (both_left _ _ l);
      count = eqb-true n (2 + stored_afl_record_count b) (both_right _ _ u);
    }

pub checksum_passes : (x : AwaitedChecksum) (n : ℕ) (b : List ℕ) → ChecksumClauses x n b → in_checksum_ranges x n b ≡ true
unfolding in_checksum_ranges track2_and_bitmaps_non_empty every
checksum_passes x n b c =
    both_yes _ _ (running_passes b c.runs)
    (both_yes _ _ c.mode
    (both_yes _ _ (results_zero b c.zero_95)
    (both_yes _ _
    (both_yes _ _ (lt-ltb 0 _ c.some_9f6b)
    (both_yes _ _ (lt-ltb 0 _ c.some_9f65)
    (both_yes _ _ (lt-ltb 0 _ c.some_9f66) (both_yes _ _ (lt-ltb 0 _ c.some_9f67) refl))))
    (both_yes _ _ (eq-eqb x.limit (transaction_limit b) c.limit)
    (both_yes _ _ c.afl
    (eq-eqb n (2 + stored_afl_record_count b) c.count))))))

pub ended_clauses : (x : Ending) (n : ℕ) → in_ended_ranges x n ≡ true → EndedClauses x n
unfolding in_ended_ranges
ended_clauses x n e = record { count = leb-true n most_commands (both_left _ _ e); reason = both_right _ _ e }

pub ended_passes : (x : Ending) (n : ℕ) → EndedClauses x n → in_ended_ranges x n ≡ true
unfolding in_ended_ranges
ended_passes x n c = both_yes _ _ (le-leb n most_commands c.count) c.reason

-- ---- the whole test

module _ (n : ℕ) (b : List ℕ) where
  waiting_clauses : (w : AwaitedResponse) → AllObjectsFit b → in_waiting_ranges w n b ≡ true → WaitingClauses w n b
  waiting_clauses AwaitedResponse.Gpo f e = gpo_clauses n b f e
  waiting_clauses (AwaitedResponse.Record p) f e = record_clauses p n b f e
  waiting_clauses (AwaitedResponse.Cryptogram a) f e = cryptogram_clauses a n b e
  waiting_clauses (AwaitedResponse.Checksum x) f e = checksum_clauses x n b f e

  waiting_passes : (w : AwaitedResponse) → WaitingClauses w n b → in_waiting_ranges w n b ≡ true
  waiting_passes AwaitedResponse.Gpo c = gpo_passes n b c
  waiting_passes (AwaitedResponse.Record p) c = record_passes p n b c
  waiting_passes (AwaitedResponse.Cryptogram a) c = cryptogram_passes a n b c
  waiting_passes (AwaitedResponse.Checksum x) c = checksum_passes x n b c

  phase_clauses : (p : Phase) → length b ≡ store_size → AllObjectsFit b → in_phase_ranges p n b ≡ true → PhaseClauses p n b
  phase_clauses Phase.Fresh l f e = fresh_clauses n b l e
  phase_clauses (Phase.Waiting w) l f e = waiting_clauses w f e
  phase_clauses (Phase.Ended x) l f e = ended_clauses x n e

  phase_passes : (p : Phase) → PhaseClauses p n b → in_phase_ranges p n b ≡ true
  phase_passes Phase.Fresh c = fresh_passes n b c
  phase_passes (Phase.Waiting w) c = waiting_passes w c
  phase_passes (Phase.Ended x) c = ended_passes x n c

-- a record that passes keeps every clause
pub clauses : (s : Session) → session_record_in_ranges s ≡ true → RangesClauses s
unfolding session_record_in_ranges
clauses s e =
    let p = both_right _ _ e in
    let l = eqb-true (length (store_bytes s)) store_size (both_left _ _ e) in
    let f = all_fits (store_bytes s) (both_left _ _ p) in
    record { size = l; fits = f; phase = phase_clauses s.count (store_bytes s) s.phase l f (both_right _ _ p) }

-- a record that keeps every clause passes
pub clauses_pass : (s : Session) → RangesClauses s → session_record_in_ranges s ≡ true
unfolding session_record_in_ranges
clauses_pass s r =
    both_yes _ _ (eq-eqb (length (store_bytes s)) store_size r.size)
    (both_yes _ _ (fits_all (store_bytes s) r.fits) (phase_passes s.count (store_bytes s) s.phase r.phase))
