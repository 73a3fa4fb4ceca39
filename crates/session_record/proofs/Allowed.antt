-- Records that keep their ranges though a stricter test might refuse them. Assumes nothing.
use Rattle.std.specs.Prelude.{Some}
use mathlib.Core.Path.{◌≡◌, refl, sym, ap, subst, ◌∙◌}
use mathlib.Core.Bool.{true}
use mathlib.Core.List.{List}
use Prim.Native.Nat.{ℕ, ◌+◌, ◌≤◌, ◌<◌}
use native.Mathlib.Omega.{arith}
use lib.ListN.{length}
use Rattle.basics.specs.Choice.{both, every}
use Rattle.dictionary.specs.Rows.{dictionary_rows, row_at, row_count, store_size, find_row}
use Rattle.dictionary.specs.Named.{row_pan, row_aip, row_cdol1, row_afl, row_tvr, row_cvm_results, row_expiration_date}
use Rattle.dictionary.specs.Named.{row_kernel_configuration, row_limit_no_on_device_cvm, row_limit_on_device_cvm}
use Rattle.dictionary.specs.Form.{length_and_digits_fit_row}
use Rattle.dictionary.proofs.Fit.{fits_length}
use Rattle.dictionary.proofs.Named.{at_5a, at_82, at_8c, at_94, at_95, at_5f24, at_9f34, at_df811b, at_df8124}
use Rattle.dictionary.proofs.Named.{at_df8125}
use Rattle.store.specs.Place.{StoredValue, bytes_or_empty_if_absent, object_value, put_row, is_present}
use Rattle.afl.specs.Records.{accepts_afl, afl_record_count}
use Rattle.analysis.specs.Bits.{value_has_bit}
use Rattle.analysis.proofs.Laws.{limit_same}
use Rattle.session_record.specs.declared.Outcome.{Outcome}
use Rattle.session_record.specs.declared.RequestedCryptogram.{RequestedCryptogram}
use Rattle.session_record.specs.declared.AwaitedResponse.{AwaitedResponse}
use Rattle.session_record.specs.declared.Phase.{Phase}
use Rattle.session_record.specs.declared.Session.{Session}
use Rattle.basics.specs.Reason.{reason_none}
use Rattle.session_record.specs.Session.{store_bytes, fresh_session, ending_of}
use Rattle.session_record.specs.Ranges.{session_record_in_ranges}
use Rattle.session_record.proofs.Clauses.{GpoClauses, CryptogramClauses, PhaseClauses}
use Rattle.session_record.proofs.Laws.{clauses_pass}
use Rattle.session_record.proofs.Stored.{empty_fits, put_size, put_named, put_runs, fits_kept, apart_from}
use Rattle.session_record.proofs.Stored.{running_tags, results_apart}
use Rattle.session_record.proofs.Reasons.{decided}
use Rattle.session_record.proofs.Phases.{store_size_lem, store_fits, on_gpo_lem, on_cryptogram_lem, ended_session}
use Rattle.session_record.proofs.Phases.{ended_keeps}

-- a session with a value put into its store
abbrev put_in : Session → ℕ → List ℕ → Session
put_in s k v =
    record { phase = s.phase; count = s.count; store = record { bytes = put_row dictionary_rows (store_bytes s) k v } }

-- an approved record with count 0
pub approved_at_none : session_record_in_ranges (ended_session fresh_session (ending_of Outcome.Approved reason_none)) ≡ true
approved_at_none = ended_keeps fresh_session Outcome.Approved reason_none decided.0 refl empty_fits (omega arith)

account_apart : apart_from running_tags (row_at row_pan) ≡ true
unfolding dictionary_rows every both apart_from
account_apart = refl

-- waiting on GPO with an account number in the store
pub gpo_with_5a : (s : Session) → session_record_in_ranges s ≡ true → s.phase ≡ Phase.Waiting AwaitedResponse.Gpo
    → (v : List ℕ) → length_and_digits_fit_row (row_at row_pan) v ≡ true → session_record_in_ranges (put_in s row_pan v) ≡ true
gpo_with_5a s e q v w =
    clauses_pass (put_in s row_pan v)
    (record {
      size = put_size b row_pan v l h g;
      fits = fits_kept b row_pan v l h w (store_fits s e);
      phase = subst (λ (p : Phase). PhaseClauses p s.count (store_bytes (put_in s row_pan v))) (sym q) after;
    })
  where
    b : List ℕ
    b = store_bytes s

    l : length b ≡ store_size
    l = store_size_lem s e

    h : row_pan < row_count
    h = omega arith

    g : length v ≤ (row_at row_pan).greatest
    g = (fits_length (row_at row_pan) v w).1

    c : GpoClauses s.count b
    c = on_gpo_lem s e q

    after : GpoClauses s.count (put_row dictionary_rows b row_pan v)
    after = record {
      runs = put_runs b row_pan v l h g account_apart c.runs;
      no_82 = put_named b row_pan v l h g 0x82 row_aip at_82 (λ z. omega arith) ∙ c.no_82;
      no_94 = put_named b row_pan v l h g 0x94 row_afl at_94 (λ z. omega arith) ∙ c.no_94;
      zero_95 = put_named b row_pan v l h g 0x95 row_tvr at_95 (λ z. omega arith) ∙ c.zero_95;
      count = c.count;
    }

-- waiting on the cryptogram with any five TVR bytes, zeros too
pub cryptogram_with_any_95 : (s : Session) (a : RequestedCryptogram) → session_record_in_ranges s ≡ true
    → s.phase ≡ Phase.Waiting (AwaitedResponse.Cryptogram a) → (v : List ℕ) → length_and_digits_fit_row (row_at row_tvr) v
    ≡ true → session_record_in_ranges (put_in s row_tvr v) ≡ true
cryptogram_with_any_95 s a e q v w =
    clauses_pass (put_in s row_tvr v)
    (record {
      size = put_size b row_tvr v l h g;
      fits = fits_kept b row_tvr v l h w (store_fits s e);
      phase = subst (λ (p : Phase). PhaseClauses p s.count (store_bytes (put_in s row_tvr v))) (sym q) after;
    })
  where
    b : List ℕ
    b = store_bytes s

    l : length b ≡ store_size
    l = store_size_lem s e

    h : row_tvr < row_count
    h = omega arith

    g : length v ≤ (row_at row_tvr).greatest
    g = (fits_length (row_at row_tvr) v w).1

    c : CryptogramClauses a s.count b
    c = on_cryptogram_lem s e a q

    same : (t j : ℕ) → find_row dictionary_rows t ≡ Some j → (j ≡ row_tvr → ⊥)
        → object_value b t ≡ object_value (put_row dictionary_rows b row_tvr v) t
    same t j x y = sym (put_named b row_tvr v l h g t j x y)

    after : CryptogramClauses a s.count (put_row dictionary_rows b row_tvr v)
    after = record {
      runs = put_runs b row_tvr v l h g results_apart c.runs;
      mode = subst (λ (x : StoredValue). value_has_bit (bytes_or_empty_if_absent x) 2 8 ≡ true)
          (same 0x82 row_aip at_82 (λ z. omega arith)) c.mode;
      afl = subst (λ (x : StoredValue). accepts_afl (bytes_or_empty_if_absent x) ≡ true)
          (same 0x94 row_afl at_94 (λ z. omega arith)) c.afl;
      some_5f24 = subst (λ (x : StoredValue). 0 < length (bytes_or_empty_if_absent x))
          (same 0x5F24 row_expiration_date at_5f24 (λ z. omega arith)) c.some_5f24;
      some_5a = subst (λ (x : StoredValue). 0 < length (bytes_or_empty_if_absent x))
          (same 0x5A row_pan at_5a (λ z. omega arith)) c.some_5a;
      some_8c = subst (λ (x : StoredValue). 0 < length (bytes_or_empty_if_absent x))
          (same 0x8C row_cdol1 at_8c (λ z. omega arith)) c.some_8c;
      limit = c.limit
          ∙ limit_same _ _ (same 0x82 row_aip at_82 (λ z. omega arith))
          (same 0xDF811B row_kernel_configuration at_df811b (λ z. omega arith))
          (same 0xDF8124 row_limit_no_on_device_cvm at_df8124 (λ z. omega arith))
          (same 0xDF8125 row_limit_on_device_cvm at_df8125 (λ z. omega arith));
      verified = subst (λ (x : StoredValue). is_present x ≡ true) (same 0x9F34 row_cvm_results at_9f34 (λ z. omega arith))
          c.verified;
      count = c.count ∙ ap (λ (x : StoredValue). 2 + afl_record_count (bytes_or_empty_if_absent x))
          (same 0x94 row_afl at_94 (λ z. omega arith));
    }
