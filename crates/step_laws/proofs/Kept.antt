-- What the reading of an answer, the TVR and the CVM Results leave of what the ranges speak of: each put is one that
-- its row allows.
-- Assumes nothing.
use Rattle.std.specs.Prelude.{Some}
use mathlib.Core.Path.{◌≡◌, refl, sym, ap, ap₂, subst, ◌∙◌}
use mathlib.Core.Bool.{true, false, not}
use mathlib.Core.List.{List, ◌∷◌}
use Prim.Native.Nat.{ℕ, ◌/◌, ◌%◌, ◌≤◌, ◌<◌}
use native.Mathlib.Omega.{arith}
use lib.ListN.{length}
use borrow.Author.Tests.{le-leb, eqb-true}
use Rattle.basics.specs.Choice.{both, either, every}
use Rattle.basics.specs.Number.{has_bit_of_weight}
use Rattle.basics.proofs.Laws.{if_no, both_yes}
use Rattle.dictionary.specs.Named.{row_aip, row_afl, row_tvr, row_cvm_results, row_track2_data, row_kernel_configuration}
use Rattle.dictionary.specs.Named.{row_limit_no_on_device_cvm, row_limit_on_device_cvm}
use Rattle.dictionary.specs.Rows.{dictionary_rows, row_at, row_count, store_size, find_row, set_by_card}
use Rattle.dictionary.specs.Form.{digits_match_form, length_and_digits_fit_row}
use Rattle.dictionary.proofs.Fit.{fits_length}
use Rattle.dictionary.proofs.Named.{at_82, at_94, at_95, at_9f34, at_9f6b, at_df811b, at_df8124, at_df8125}
use Rattle.store.specs.Place.{StoredValue, absent, present, bytes_or_empty_if_absent, is_present, object_value, put_row}
use Rattle.store.proofs.Laws.{by_row}
use Rattle.afl.specs.Records.{accepts_afl}
use Rattle.afl.proofs.Laws.{accepted_length}
use Rattle.reading.specs.declared.Awaited.{Awaited}
use Rattle.reading.specs.Taking.{PrimitiveItem}
use Rattle.reading.specs.Answer.{response_bit, read_answer}
use Rattle.reading.proofs.Kept.{Put, read_holds, read_grows}
use Rattle.analysis.specs.Bits.{value_has_bit}
use Rattle.analysis.specs.Action.{transaction_limit}
use Rattle.analysis.proofs.Laws.{limit_same}
use Rattle.analysis.specs.declared.action.AnalysisFindings.{AnalysisFindings}
use Rattle.store.specs.Held.{has_object, stored_bytes}
use Rattle.session_record.specs.Ranges.{absent_or_length_and_digits_fit_row, emv_or_mag_stripe_mode, stored_afl, zero_tvr}
use Rattle.session_record.proofs.Clauses.{AllObjectsFit, RunningClauses}
use Rattle.session_record.proofs.Stored.{put_size, put_here, put_named, put_holds, put_apart, put_runs, fits_kept}
use Rattle.session_record.proofs.Stored.{apart_from, apart_rest, card_apart, running_tags, results_apart}
use Rattle.session_record.proofs.Values.{value_fits, held_length}
use Rattle.session_record.proofs.Phases.{either_there}
use Rattle.mag_stripe.specs.Digits.{track_with_digits_if_possible}
use Rattle.mag_stripe.proofs.Laws.{length-filled}
use Rattle.session.specs.Steps.{store_with_tvr, store_with_findings}
use Rattle.session.specs.MagStripe.{stored_track2, stored_bitmaps, stored_digit_values, store_with_track_digits}
use Rattle.session.proofs.Laws.{results_fit, results_place, cvm_fits, cvm_place, track_fits, track_place}

-- what a running session holds before its TVR is set
pub record Waits (b : List ℕ) : Type 0 where
  pub size : length b ≡ store_size
  pub fits : AllObjectsFit b
  pub runs : RunningClauses b
  pub zero_95 : object_value b 0x95 ≡ present zero_tvr

-- ---- the reading of an answer

-- an answer other than the last one's brings nothing that only the last may: its bit is one of the two lowest
abbrev pub Plain : Awaited → Type 0
Plain a = (x : ℕ) → has_bit_of_weight x (response_bit a) ≡ true → x % 4 ≡ 0 → ⊥

pub gpo_plain : Plain Awaited.Gpo
gpo_plain x h e = let w = eqb-true (x / 1 % 2) 1 h in omega arith

pub record_plain : (n : ℕ) → Plain (Awaited.Record (record { number = n }))
record_plain n x h e = let w = eqb-true (x / 2 % 2) 1 h in omega arith

pub read_waits : (a : Awaited) → Plain a → (b s : List ℕ) → Waits b → Waits (read_answer a b s).store
read_waits a n b s w =
    let h = read_holds P a step b s (w.size, (w.fits, w.runs, w.zero_95)) in
    record { size = h.0; fits = h.1.0; runs = h.1.1; zero_95 = h.1.2 }
  where
    P : List ℕ → Type 0
    P d = AllObjectsFit d × RunningClauses d × (object_value d 0x95 ≡ present zero_tvr)

    step : (d : List ℕ) (k : ℕ) (i : PrimitiveItem) → length d ≡ store_size → Unit {0} → Put (response_bit a) d k i → P d
        → P (put_row dictionary_rows d k i.value)
    step d k i l q p h =
        let g = (fits_length (row_at k) i.value p.fits).1 in
        let f = card_apart k p.row p.card (λ e. n _ p.brought e) in (
          fits_kept d k i.value l p.row p.fits h.0,
          put_runs d k i.value l p.row g (apart_rest 0x95 running_tags (row_at k) f) h.1,
          put_apart d k i.value l p.row g (0x95 ∷ running_tags) f 0 (omega arith) ∙ h.2,
        )

-- every answer leaves a store of its size whose objects fit
pub read_fits : (a : Awaited) (b s : List ℕ) → length b ≡ store_size → AllObjectsFit b
    → (length (read_answer a b s).store ≡ store_size) × AllObjectsFit (read_answer a b s).store
read_fits a b s l f = read_holds AllObjectsFit a (λ d k i m q p h. fits_kept d k i.value m p.row p.fits h) b s
    (l, f)

pub read_size : (a : Awaited) (b s : List ℕ) → length b ≡ store_size → length (read_answer a b s).store ≡ store_size
read_size a b s l = (read_grows a b s l).size ∙ l

-- a tag whose value has bytes keeps it
pub read_value : (a : Awaited) (b s : List ℕ) → length b ≡ store_size → (t k : ℕ) → find_row dictionary_rows t ≡ Some k
    → (length (stored_bytes b t) ≡ 0 → ⊥)
    → object_value (read_answer a b s).store t ≡ object_value b t
read_value a b s l t k e n =
    by_row dictionary_rows _ t k e
    ∙ (read_grows a b s l).kept k
    (λ z. n (ap (λ (x : StoredValue). length (bytes_or_empty_if_absent x)) (by_row dictionary_rows b t k e) ∙ z))
    ∙ sym (by_row dictionary_rows b t k e)

-- 82 is present with its two bytes in either mode, and so has an accepted 94 bytes
aip_two : (row_at row_aip).least ≡ 2
unfolding dictionary_rows
aip_two = refl

pub mode_bytes : (b : List ℕ) → AllObjectsFit b → emv_or_mag_stripe_mode b ≡ true → 0 < length (stored_bytes b 0x82)
mode_bytes b f m = omega (arith, (held_length b f 0x82 row_aip at_82 (either_there b m)).0, aip_two)

pub read_mode : (a : Awaited) (b s : List ℕ) → length b ≡ store_size → AllObjectsFit b → emv_or_mag_stripe_mode b ≡ true
    → object_value (read_answer a b s).store 0x82 ≡ object_value b 0x82
read_mode a b s l f m = read_value a b s l 0x82 row_aip at_82 (λ z. omega (arith, mode_bytes b f m, z))

pub read_afl : (a : Awaited) (b s : List ℕ) → length b ≡ store_size → accepts_afl (stored_afl b) ≡ true
    → object_value (read_answer a b s).store 0x94 ≡ object_value b 0x94
read_afl a b s l m = read_value a b s l 0x94 row_afl at_94 (λ z. omega (arith, (accepted_length (stored_afl b) m).1))

-- what no card sets stays, and so does the transaction limit past GPO
pub read_start : (a : Awaited) (b s : List ℕ) → length b ≡ store_size → (t j : ℕ) → find_row dictionary_rows t ≡ Some j
    → has_bit_of_weight (row_at j).setters set_by_card ≡ false
    → object_value (read_answer a b s).store t ≡ object_value b t
read_start a b s l t j e n = (read_holds P a step b s (l, refl)).1
  where
    P : List ℕ → Type 0
    P d = object_value d t ≡ object_value b t

    step : (d : List ℕ) (k : ℕ) (i : PrimitiveItem) → length d ≡ store_size → Unit {0} → Put (response_bit a) d k i → P d
        → P (put_row dictionary_rows d k i.value)
    step d k i m q p h =
        let g = (fits_length (row_at k) i.value p.fits).1 in
        let apart : j ≡ k → ⊥ = λ z. let w = sym n ∙ ap (λ (x : ℕ). has_bit_of_weight (row_at x).setters set_by_card) z ∙
        p.card in let y : ◌≡◌ {A = ℕ} 0 1 = cc in omega arith in
        put_named d k i.value m p.row g t j e apart ∙ h

-- the objects of the limit are the start's
by_start : (has_bit_of_weight (row_at row_kernel_configuration).setters set_by_card ≡ false)
    × (has_bit_of_weight (row_at row_limit_no_on_device_cvm).setters set_by_card ≡ false)
    × (has_bit_of_weight (row_at row_limit_on_device_cvm).setters set_by_card ≡ false)
unfolding dictionary_rows
by_start = (refl, refl, refl)

-- the mode stays
pub read_either : (a : Awaited) (b s : List ℕ) → length b ≡ store_size → AllObjectsFit b → emv_or_mag_stripe_mode b ≡ true
    → emv_or_mag_stripe_mode (read_answer a b s).store ≡ true
read_either a b s l f m =
    ap₂ (λ (x y : StoredValue). either (value_has_bit (bytes_or_empty_if_absent x) 2 8)
    (both (is_present x) (both (not (value_has_bit (bytes_or_empty_if_absent x) 2 8))
    (not (value_has_bit (bytes_or_empty_if_absent y) 1 8)))))
    (read_mode a b s l f m) (read_start a b s l 0xDF811B row_kernel_configuration at_df811b by_start.0)
    ∙ m

pub read_limit : (a : Awaited) (b s : List ℕ) → length b ≡ store_size → AllObjectsFit b → emv_or_mag_stripe_mode b ≡ true
    → transaction_limit (read_answer a b s).store ≡ transaction_limit b
read_limit a b s l f m =
    limit_same _ _ (read_mode a b s l f m) (read_start a b s l 0xDF811B row_kernel_configuration at_df811b by_start.0)
    (read_start a b s l 0xDF8124 row_limit_no_on_device_cvm at_df8124 by_start.1)
    (read_start a b s l 0xDF8125 row_limit_on_device_cvm at_df8125 by_start.2)

-- ---- the TVR

-- 95 takes any five bytes
bits_fitting : (v : List ℕ) → length v ≡ 5 → length_and_digits_fit_row (row_at row_tvr) v ≡ true
unfolding dictionary_rows length_and_digits_fit_row digits_match_form
bits_fitting v e = both_yes _ _ (le-leb 5 (length v) (omega arith))
    (both_yes _ _ (le-leb (length v) 5 (omega arith)) (if_no _ _ refl ∙ if_no _ _ refl))

module _ (b v : List ℕ) (l : length b ≡ store_size) (n : length v ≡ 5) where
  put : store_with_tvr b v ≡ put_row dictionary_rows b row_tvr v
  unfolding store_with_tvr
  put = ap (λ (k : ℕ). put_row dictionary_rows b k v) results_place

  room : length v ≤ (row_at row_tvr).greatest
  room = omega (arith, results_fit)

  here : row_tvr < row_count
  here = omega arith

  pub bits_size : length (store_with_tvr b v) ≡ store_size
  bits_size = ap length put ∙ put_size b row_tvr v l here room

  pub bits_fits : AllObjectsFit b → AllObjectsFit (store_with_tvr b v)
  bits_fits f = subst (λ (d : List ℕ). AllObjectsFit d) (sym put) (fits_kept b row_tvr v l here (bits_fitting v n) f)

  pub bits_runs : RunningClauses b → RunningClauses (store_with_tvr b v)
  bits_runs r = subst (λ (d : List ℕ). RunningClauses d) (sym put) (put_runs b row_tvr v l here room results_apart r)

  pub bits_here : object_value (store_with_tvr b v) 0x95 ≡ present v
  bits_here = ap (λ (d : List ℕ). object_value d 0x95) put ∙ put_here b row_tvr v l here room 0x95 at_95

  -- every other tag keeps its value, and what is there stays there
  pub bits_other : (t j : ℕ) → find_row dictionary_rows t ≡ Some j → (j ≡ row_tvr → ⊥) → object_value (store_with_tvr b v) t
      ≡ object_value b t
  bits_other t j e ne = ap (λ (d : List ℕ). object_value d t) put ∙ put_named b row_tvr v l here room t j e ne

  pub bits_hold : (t : ℕ) → has_object b t ≡ true → has_object (store_with_tvr b v) t ≡ true
  bits_hold t h = ap (λ (d : List ℕ). has_object d t) put ∙ put_holds b row_tvr v l here room t h

-- ---- what the analysis found: 9F34, and the TVR after it

-- 9F34 takes any three bytes, and is the session's own
cvm_fitting : (v : List ℕ) → length v ≡ 3 → length_and_digits_fit_row (row_at row_cvm_results) v ≡ true
unfolding dictionary_rows length_and_digits_fit_row digits_match_form
cvm_fitting v e = both_yes _ _ (le-leb 3 (length v) (omega arith))
    (both_yes _ _ (le-leb (length v) 3 (omega arith)) (if_no _ _ refl ∙ if_no _ _ refl))

cvm_apart : apart_from running_tags (row_at row_cvm_results) ≡ true
unfolding dictionary_rows every both apart_from
cvm_apart = refl

module _ (b : List ℕ) (f : AnalysisFindings) (l : length b ≡ store_size) (n : length f.results ≡ 3)
    (m : length f.bits ≡ 5) where
  found : store_with_findings b f ≡ store_with_tvr (put_row dictionary_rows b row_cvm_results f.results) f.bits
  unfolding store_with_findings
  found = ap (λ (k : ℕ). store_with_tvr (put_row dictionary_rows b k f.results) f.bits) cvm_place

  there : row_cvm_results < row_count
  there = omega arith

  fit : length f.results ≤ (row_at row_cvm_results).greatest
  fit = omega (arith, cvm_fits)

  put_sized : length (put_row dictionary_rows b row_cvm_results f.results) ≡ store_size
  put_sized = put_size b row_cvm_results f.results l there fit

  pub found_size : length (store_with_findings b f) ≡ store_size
  found_size = ap length found ∙ bits_size _ f.bits put_sized m

  pub found_fits : AllObjectsFit b → AllObjectsFit (store_with_findings b f)
  found_fits g =
      subst (λ (e : List ℕ). AllObjectsFit e) (sym found)
      (bits_fits _ f.bits put_sized m (fits_kept b row_cvm_results f.results l there (cvm_fitting f.results n)
      g))

  pub found_runs : RunningClauses b → RunningClauses (store_with_findings b f)
  found_runs r =
      subst (λ (e : List ℕ). RunningClauses e) (sym found)
      (bits_runs _ f.bits put_sized m (put_runs b row_cvm_results f.results l there fit cvm_apart r))

  pub found_9f34 : object_value (store_with_findings b f) 0x9F34 ≡ present f.results
  found_9f34 =
      ap (λ (e : List ℕ). object_value e 0x9F34) found ∙ bits_other _ f.bits put_sized m 0x9F34 row_cvm_results at_9f34
      (λ z. omega arith)
      ∙ put_here b row_cvm_results f.results l there fit 0x9F34 at_9f34

  pub found_95 : object_value (store_with_findings b f) 0x95 ≡ present f.bits
  found_95 = ap (λ (e : List ℕ). object_value e 0x95) found ∙ bits_here _ f.bits put_sized m

  -- every other tag keeps its value
  pub found_other : (t j : ℕ) → find_row dictionary_rows t ≡ Some j → (j ≡ row_tvr → ⊥) → (j ≡ row_cvm_results → ⊥)
      → object_value (store_with_findings b f) t ≡ object_value b t
  found_other t j e ne nf =
      ap (λ (x : List ℕ). object_value x t) found ∙ bits_other _ f.bits put_sized m t j e ne
      ∙ put_named b row_cvm_results f.results l there fit t j e nf

  -- and so the transaction limit stays
  pub found_limit : transaction_limit (store_with_findings b f) ≡ transaction_limit b
  found_limit =
      limit_same _ _ (found_other 0x82 row_aip at_82 (λ z. omega arith) (λ z. omega arith))
      (found_other 0xDF811B row_kernel_configuration at_df811b (λ z. omega arith) (λ z. omega arith))
      (found_other 0xDF8124 row_limit_no_on_device_cvm at_df8124 (λ z. omega arith) (λ z. omega arith))
      (found_other 0xDF8125 row_limit_on_device_cvm at_df8125 (λ z. omega arith) (λ z. omega arith))

-- ---- the digits in the stored track

-- 9F6B takes any bytes up to its greatest length
track_fitting : (v : List ℕ) → length v ≤ 19 → length_and_digits_fit_row (row_at row_track2_data) v ≡ true
unfolding dictionary_rows length_and_digits_fit_row digits_match_form
track_fitting v e = both_yes _ _ (le-leb 0 (length v) (omega arith))
    (both_yes _ _ (le-leb (length v) 19 e) (if_no _ _ refl ∙ if_no _ _ refl))

module _ (b : List ℕ) (l : length b ≡ store_size) (f : AllObjectsFit b) where
  track_short : length (stored_track2 b) ≤ 19
  track_short = go (object_value b 0x9F6B) (value_fits b f 0x9F6B row_track2_data at_9f6b)
    where
      go : (x : StoredValue) → absent_or_length_and_digits_fit_row (row_at row_track2_data) x ≡ true
          → length (bytes_or_empty_if_absent x) ≤ 19
      go absent e = omega arith
      go (present v) e = omega (arith, (fits_length (row_at row_track2_data) v e).1, track_fits)

  abbrev digits : List ℕ
  digits = track_with_digits_if_possible (stored_track2 b) (stored_bitmaps b) (stored_digit_values b)

  digits_short : length digits ≤ 19
  digits_short = omega (arith, length-filled (stored_track2 b) (stored_bitmaps b) (stored_digit_values b), track_short)

  digits_put : store_with_track_digits b ≡ put_row dictionary_rows b row_track2_data digits
  unfolding store_with_track_digits
  digits_put = ap (λ (k : ℕ). put_row dictionary_rows b k digits) track_place

  in_track : row_track2_data < row_count
  in_track = omega arith

  digits_room : length digits ≤ (row_at row_track2_data).greatest
  digits_room = omega (arith, digits_short, track_fits)

  pub digits_size : length (store_with_track_digits b) ≡ store_size
  digits_size = ap length digits_put ∙ put_size b row_track2_data digits l in_track digits_room

  pub digits_fits : AllObjectsFit (store_with_track_digits b)
  digits_fits = subst (λ (d : List ℕ). AllObjectsFit d) (sym digits_put)
      (fits_kept b row_track2_data digits l in_track (track_fitting digits digits_short) f)

  -- every other tag keeps its value
  pub digits_other : (t j : ℕ) → find_row dictionary_rows t ≡ Some j → (j ≡ row_track2_data → ⊥)
      → object_value (store_with_track_digits b) t ≡ object_value b t
  digits_other t j e ne = ap (λ (d : List ℕ). object_value d t) digits_put ∙ put_named b row_track2_data digits l in_track
      digits_room t j e ne
