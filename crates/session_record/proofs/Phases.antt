-- What a session that is in its ranges is in each phase, and how a record built anew keeps them: from the
-- clauses and back.
-- Assumes nothing.
use mathlib.Core.Path.{◌≡◌, refl, sym, subst, ◌∙◌}
use mathlib.Core.Logic.{inl, inr}
use mathlib.Core.Bool.{true}
use mathlib.Core.List.{List}
use Prim.Native.Nat.{ℕ, ◌≤◌}
use native.Mathlib.Omega.{arith}
use lib.ListN.{length, replicate}
use Rattle.basics.proofs.Laws.{bool_cases, both_left, either_false}
use Rattle.dictionary.specs.Rows.{store_size}
use Rattle.store.specs.Place.{StoredValue, absent, present, bytes_or_empty_if_absent, is_present, object_value}
use Rattle.afl.specs.Records.{accepts_afl}
use Rattle.afl.proofs.Laws.{accepted_total, accepted_length}
use Rattle.analysis.specs.Bits.{value_has_bit}
use Rattle.session_record.specs.declared.Outcome.{Outcome}
use Rattle.session_record.specs.declared.AwaitedRecord.{AwaitedRecord}
use Rattle.session_record.specs.declared.RequestedCryptogram.{RequestedCryptogram}
use Rattle.session_record.specs.declared.AwaitedChecksum.{AwaitedChecksum}
use Rattle.session_record.specs.declared.Ending.{Ending}
use Rattle.session_record.specs.declared.AwaitedResponse.{AwaitedResponse}
use Rattle.session_record.specs.declared.Phase.{Phase}
use Rattle.session_record.specs.declared.Session.{Session}
use Rattle.session_record.specs.Numbers.{reason_matches_outcome, outcome_of_nonzero_reason}
use Rattle.basics.specs.Reason.{reason_no_supported_mode}
use Rattle.session_record.specs.Session.{store_bytes, fresh_session, session_in_phase_with_count, ending_of}
use Rattle.store.specs.Held.{has_object}
use Rattle.session_record.specs.Ranges.{emv_mode, emv_or_mag_stripe_mode, stored_afl, most_commands}
use Rattle.session_record.specs.Ranges.{session_record_in_ranges}
use Rattle.session_record.proofs.Clauses.{AllObjectsFit, FreshClauses, GpoClauses, RecordClauses}
use Rattle.session_record.proofs.Clauses.{CryptogramClauses, ChecksumClauses, EndedClauses, WaitingClauses}
use Rattle.session_record.proofs.Clauses.{PhaseClauses}
use Rattle.session_record.proofs.Values.{bytes_there}
use Rattle.session_record.proofs.Laws.{clauses, clauses_pass}
use Rattle.session_record.proofs.Stored.{empty_fits}
use Rattle.session_record.proofs.Reasons.{outcome_goes}

-- the session ended: count and store stay
abbrev pub ended_session : Session → Ending → Session
ended_session s e = record { phase = Phase.Ended e; count = s.count; store = s.store }

-- ---- from the ranges

module _ (s : Session) (e : session_record_in_ranges s ≡ true) where
  pub store_size_lem : length (store_bytes s) ≡ store_size
  store_size_lem = (clauses s e).size

  pub store_fits : AllObjectsFit (store_bytes s)
  store_fits = (clauses s e).fits

  in_phase_lem : (p : Phase) → s.phase ≡ p → PhaseClauses p s.count (store_bytes s)
  in_phase_lem p q = subst (λ (x : Phase). PhaseClauses x s.count (store_bytes s)) q (clauses s e).phase

  on_waiting : (w : AwaitedResponse) → s.phase ≡ Phase.Waiting w → WaitingClauses w s.count (store_bytes s)
  on_waiting w q = in_phase_lem (Phase.Waiting w) q

  pub on_fresh_lem : s.phase ≡ Phase.Fresh → FreshClauses s.count (store_bytes s)
  on_fresh_lem q = in_phase_lem Phase.Fresh q

  pub on_gpo_lem : s.phase ≡ Phase.Waiting AwaitedResponse.Gpo → GpoClauses s.count (store_bytes s)
  on_gpo_lem q = on_waiting AwaitedResponse.Gpo q

  pub on_record_lem : (p : AwaitedRecord) → s.phase ≡ Phase.Waiting (AwaitedResponse.Record p)
      → RecordClauses p s.count (store_bytes s)
  on_record_lem p q = on_waiting (AwaitedResponse.Record p) q

  pub on_cryptogram_lem : (a : RequestedCryptogram) → s.phase ≡ Phase.Waiting (AwaitedResponse.Cryptogram a)
      → CryptogramClauses a s.count (store_bytes s)
  on_cryptogram_lem a q = on_waiting (AwaitedResponse.Cryptogram a) q

  pub on_checksum_lem : (k : AwaitedChecksum) → s.phase ≡ Phase.Waiting (AwaitedResponse.Checksum k)
      → ChecksumClauses k s.count (store_bytes s)
  on_checksum_lem k q = on_waiting (AwaitedResponse.Checksum k) q

  pub on_ended : (x : Ending) → s.phase ≡ Phase.Ended x → EndedClauses x s.count
  on_ended x q = in_phase_lem (Phase.Ended x) q

  -- a fresh record that is in its ranges is the fresh one
  pub is_fresh : s.phase ≡ Phase.Fresh → s ≡ fresh_session
  is_fresh q = let c = on_fresh_lem q in built s Phase.Fresh 0 (replicate store_size 0) q c.count c.store
    where
      built : (s : Session) (p : Phase) (n : ℕ) (b : List ℕ) → s.phase ≡ p → s.count ≡ n → store_bytes s ≡ b
          → s ≡ record { phase = p; count = n; store = record { bytes = b } }
      built s p n b x y z = simp (sym x, sym y, sym z)

-- an AFL that meets the rules is there, and so is 82 with a bit set
pub afl_there : (b : List ℕ) → accepts_afl (stored_afl b) ≡ true → has_object b 0x94 ≡ true
afl_there b a = bytes_there (object_value b 0x94) (omega (arith, (accepted_length (stored_afl b) a).1))

pub mode_there : (b : List ℕ) → emv_mode b ≡ true → has_object b 0x82 ≡ true
mode_there b e = go (object_value b 0x82) e
  where
    go : (x : StoredValue) → value_has_bit (bytes_or_empty_if_absent x) 2 8 ≡ true → is_present x ≡ true
    go absent m = cc
    go (present v) m = refl

-- in either mode 82 is present
pub either_there : (b : List ℕ) → emv_or_mag_stripe_mode b ≡ true → has_object b 0x82 ≡ true
either_there b e = elim (bool_cases (emv_mode b)) [
  | inl y ↦ mode_there b y
  | inr n ↦ both_left _ _ (sym (either_false _ n) ∙ e)
]

-- a count is at most 130 in every phase
module _ (n : ℕ) (b : List ℕ) where
  waiting_most : (w : AwaitedResponse) → WaitingClauses w n b → n ≤ most_commands
  waiting_most AwaitedResponse.Gpo c = omega (arith, c.count)
  waiting_most (AwaitedResponse.Record p) c = omega (arith, c.count, c.last, accepted_total (stored_afl b) c.afl)
  waiting_most (AwaitedResponse.Cryptogram a) c = omega (arith, c.count, accepted_total (stored_afl b) c.afl)
  waiting_most (AwaitedResponse.Checksum x) c = omega (arith, c.count, accepted_total (stored_afl b) c.afl)

  phase_most : (p : Phase) → PhaseClauses p n b → n ≤ most_commands
  phase_most Phase.Fresh c = omega (arith, c.count)
  phase_most (Phase.Waiting w) c = waiting_most w c
  phase_most (Phase.Ended x) c = c.count

pub count_most : (s : Session) → session_record_in_ranges s ≡ true → s.count ≤ most_commands
count_most s e = phase_most s.count (store_bytes s) s.phase (clauses s e).phase

-- ---- records built anew

pub fresh_keeps : session_record_in_ranges fresh_session ≡ true
fresh_keeps = clauses_pass fresh_session
    (record { size = refl; fits = empty_fits; phase = record { count = refl; store = refl } })

pub waiting_keeps : (s : Session) (p : Phase) (n : ℕ) → length (store_bytes s) ≡ store_size → AllObjectsFit (store_bytes s)
    → PhaseClauses p n (store_bytes s)
    → session_record_in_ranges (session_in_phase_with_count s p n) ≡ true
waiting_keeps s p n l f c = clauses_pass (session_in_phase_with_count s p n) (record { size = l; fits = f; phase = c })

module _ (s : Session) (o : Outcome) (n : ℕ) (g : reason_matches_outcome o n ≡ true) where
  pub ended_keeps : length (store_bytes s) ≡ store_size → AllObjectsFit (store_bytes s) → s.count ≤ most_commands
      → session_record_in_ranges (ended_session s (ending_of o n)) ≡ true
  ended_keeps l f c = clauses_pass (ended_session s (ending_of o n))
      (record { size = l; fits = f; phase = record { count = c; reason = g } })

  -- a record that is in its ranges keeps them when it ends
  pub ends_keeps : session_record_in_ranges s ≡ true → session_record_in_ranges (ended_session s (ending_of o n)) ≡ true
  ends_keeps e = ended_keeps (store_size_lem s e) (store_fits s e) (count_most s e)

-- and when it ends for a reason other than none
pub fails_keeps : (s : Session) (n : ℕ) → 1 ≤ n → n ≤ reason_no_supported_mode → session_record_in_ranges s ≡ true
    → session_record_in_ranges (ended_session s (ending_of (outcome_of_nonzero_reason n) n)) ≡ true
fails_keeps s n low high e = ends_keeps s (outcome_of_nonzero_reason n) n (outcome_goes n low high) e
