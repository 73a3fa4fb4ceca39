-- How a step comes about: the refusals that every call checks first, an answer that is accepted or not, and each way
-- out of a step. The proofs of the code cite these and do not unfold the steps.
-- Assumes nothing.
use Rattle.std.specs.Prelude.{Some, None, Option}
use Rattle.command.specs.declared.DolCommandSize.{DolCommandSize}
use mathlib.Core.Path.{◌≡◌, refl, sym, ap, ap₂, ◌∙◌}
use mathlib.Core.Bool.{true, false, not}
use mathlib.Core.List.{List, [], ◌∷◌}
use Prim.Native.Nat.{ℕ, ◌+◌, ◌-◌, ◌≤◌, ◌<◌}
use native.Mathlib.Omega.{arith}
use lib.ListN.{length, take, drop, length-take}
use borrow.Author.Tests.{lt-ltb, le-ltb, eq-eqb, ne_eqb}
use Rattle.basics.proofs.Laws.{if_yes, if_no, if_ind}
use Rattle.dictionary.specs.Rows.{dictionary_rows, row_at}
use Rattle.dictionary.specs.Named.{row_number_found_or_zero, row_number_of_tag_or_zero, row_afl, row_tvr, row_cvm_results}
use Rattle.dictionary.specs.Named.{row_track2_data}
use Rattle.dictionary.proofs.Named.{at_94, at_95, at_9f34, at_9f6b}
use Rattle.store.specs.Place.{StoredValue, bytes_or_empty_if_absent, row_offset, row_place_bytes, value_in_place, row_value}
use Rattle.store.specs.Place.{put_row}
use Rattle.mag_stripe.specs.Digits.{track_with_digits_if_possible}
use Rattle.afl.specs.declared.CardRecord.{CardRecord}
use Rattle.afl.specs.Records.{kth_record_of_accepted_afl}
use Rattle.afl.proofs.Laws.{accepted_total, record_accepted, record_inside, record_named}
use Rattle.command.specs.declared.DolCommandSize.{DolCommandSize as Handed}
use Rattle.command.specs.WithList.{dol_command_of, buffer_with_command}
use Rattle.reading.specs.declared.Awaited.{Awaited}
use Rattle.reading.specs.declared.ResponseVerdict.{ResponseVerdict}
use Rattle.reading.specs.declared.ResponseVerdict.TheVariants.{Accepted, BadStatus, Malformed, NotAllowed}
use Rattle.reading.specs.declared.Reading.{Reading}
use Rattle.reading.specs.Answer as reading
use Rattle.reading.specs.Taking.{PrimitiveItem}
use Rattle.analysis.specs.declared.choice.Choice.{Choice}
use Rattle.analysis.specs.Action.{findings_of, choice_for_tvr}
use Rattle.analysis.specs.declared.action.AnalysisFindings.{AnalysisFindings}
use Rattle.session_record.specs.declared.Ending.{Ending}
use Rattle.session_record.specs.declared.AwaitedResponse.{AwaitedResponse}
use Rattle.session_record.specs.declared.Phase.{Phase}
use Rattle.session_record.specs.declared.Session.{Session}
use Rattle.session_record.specs.declared.Reply.{Reply}
use Rattle.session_record.specs.declared.Transition.{Transition}
use Rattle.basics.specs.Reason.{refusal_wrong_phase, refusal_buffer_too_small, refusal_record_out_of_ranges}
use Rattle.basics.specs.Reason.{reason_object_not_allowed}
use Rattle.basics.specs.Reason.{reason_dol_broken_or_bad_length}
use Rattle.session_record.specs.Session.{session_of, ending_for_reason, reply_of}
use Rattle.session_record.specs.Ranges.{emv_mode, stored_afl}
use Rattle.session_record.specs.Ranges.{zero_tvr, session_record_in_ranges}
use Rattle.session_record.proofs.Tags.{bytes_are}
use Rattle.std.specs.Prelude.{Result, Ok, Err}
use Rattle.session_record.specs.declared.Refusal.{Refusal}
use Rattle.start_data.specs.StartData.{LoadedStore, LoadResultAndStoreMatchLoaded}
use Rattle.start_data.proofs.Laws.{was_taken, was_refused}
use Rattle.session.specs.declared.NextStep.{NextStep}
use Rattle.session.specs.Steps.{ReturnsNext, next_step_of, store_after_next, buffer_after_next, transition_of_next}
use Rattle.session.specs.Steps.{NextAction, ask, end, end_for_reason, held_cvm, request_command_or_end_for_dol}
use Rattle.session.specs.Steps.{read_response_then, store_with_tvr, store_with_findings}
use Rattle.session.specs.Steps.{Step, ReturnsStep, CallEffect, refuse, step_of_next, refused_step, step_of_effect}
use Rattle.session.specs.Steps.{least_buffer, step_if_admitted}
use Rattle.session.specs.Start.{request_gpo, start_effect_after_loading, start_effect}
use Rattle.session.specs.Answer.{request_cryptogram}
use Rattle.session.specs.Answer.{requested_cryptogram, next_after_records_in_emv_mode, next_after_last_record}
use Rattle.session.specs.MagStripe.{next_after_records_in_mag_stripe_mode, stored_track2, stored_bitmaps}
use Rattle.session.specs.MagStripe.{stored_digit_values, stored_track_can_take_digits, store_with_track_digits}
use Rattle.session.specs.MagStripe.{next_after_checksum_read, next_if_track_takes_digits, next_on_checksum_response}

-- ---- a step by an equation

pub did_as : {r : Reply} {b : List ℕ} {s t : Step} → s ≡ t → ReturnsStep r b t → ReturnsStep r b s
did_as e d = record {
  reply = d.reply ∙ ap (λ (x : Step). x.reply) (sym e);
  buffer =
      d.buffer ∙ ap (λ (x : Step). x.buffer) (sym e);
}

-- a transition by an equation, with the store b
pub reply_as : {t u : Transition} (b : List ℕ) → t ≡ u → reply_of t b ≡ reply_of u b
reply_as b e = ap (λ (x : Transition). reply_of x b) e

-- no command: the buffer stands as it was, and the transition t is u, with the store b
pub did_without_command : {t u : Transition} (b : List ℕ) {buf : List ℕ} {s : Step} → t ≡ u
    → s ≡ record { reply = reply_of u b; buffer = buf } → ReturnsStep (reply_of t b) buf s
did_without_command b e f = did_as f (record { reply = reply_as b e; buffer = refl })

-- what follows, by an equation
pub did_next : {r : NextStep} {b buf c : List ℕ} {x y : NextAction} → x ≡ y → ReturnsNext r b buf c y → ReturnsNext r b buf c x
did_next {buf = buf} e d = record {
  next = d.next ∙ ap next_step_of (sym e);
  store = d.store ∙ ap store_after_next (sym e);
  buffer = d.buffer ∙ ap (buffer_after_next buf) (sym e);
}

-- the session ends: the buffer stays
pub did_end : {r : NextStep} {b buf : List ℕ} {m : ℕ} {e : Ending} {x : NextAction} → r ≡ NextStep.End e m → x ≡ end e m b
    → ReturnsNext r b buf buf x
did_end h f = did_next f (record { next = h; store = refl; buffer = refl })

-- the step of a session of count n, by what was returned
pub did_step : {r : NextStep} {t : Transition} {b buf c : List ℕ} (n : ℕ) (x : NextAction) → t ≡ transition_of_next n r
    → ReturnsNext r b buf c x → ReturnsStep (reply_of t b) c (step_of_next n buf x)
did_step n (ask c w b) e d =
    record { reply = ap₂ reply_of (e ∙ ap (transition_of_next n) d.next) d.store; buffer = d.buffer }
did_step n (end o m b) e d =
    record { reply = ap₂ reply_of (e ∙ ap (transition_of_next n) d.next) d.store; buffer = d.buffer }

-- ---- the refusals that every call checks first

module _ (s : Session) (buf : List ℕ) (x : CallEffect) where
  pub admitted_short : length buf < least_buffer → step_if_admitted s buf x ≡ refused_step s refusal_buffer_too_small buf
  unfolding step_if_admitted
  admitted_short h = if_yes _ _ (lt-ltb (length buf) least_buffer h)

  pub admitted_ranges : least_buffer ≤ length buf → session_record_in_ranges s ≡ false
      → step_if_admitted s buf x ≡ refused_step s refusal_record_out_of_ranges buf
  unfolding step_if_admitted
  admitted_ranges h e = if_no _ _ (le-ltb (length buf) least_buffer h) ∙ if_yes _ _ (ap not e)

  pub admitted_in : least_buffer ≤ length buf → session_record_in_ranges s ≡ true
      → step_if_admitted s buf x ≡ step_of_effect s buf x
  unfolding step_if_admitted
  admitted_in h e = if_no _ _ (le-ltb (length buf) least_buffer h) ∙ if_no _ _ (ap not e)

-- past both the phase decides
pub admitted_on : (s : Session) (buf : List ℕ) (f : Phase → CallEffect) {p : Phase} → least_buffer ≤ length buf
    → session_record_in_ranges s ≡ true → s.phase ≡ p → step_if_admitted s buf (f s.phase) ≡ step_of_effect s buf (f p)
admitted_on s buf f h e q = admitted_in s buf (f s.phase) h e ∙ ap (λ (x : Phase). step_of_effect s buf (f x)) q

-- ---- an answer that is accepted, or not

-- a verdict other than accepted has a number other than 0
not_accepted : (v : ResponseVerdict) → (v ≡ Accepted → ⊥) → reading.verdict_number v ≡ 0 → ⊥
not_accepted Accepted h e = h refl
not_accepted BadStatus h e = omega arith
not_accepted Malformed h e = omega arith
not_accepted NotAllowed h e = omega arith

-- how a reading comes about: with the store as it was and a reason of at most 3, or with another store and none
module _ (P : reading.ReadingOutcome → Type 0) (b : List ℕ) (same : (r n : ℕ) → r ≤ 3
    → P (reading.reading_outcome r n b)) (anew : (n : ℕ) (c : List ℕ) → P (reading.reading_outcome 0 n c)) where
  parts_ind : (a : Awaited) (n : ℕ) (x : Option (List PrimitiveItem)) → P (reading.read_body_items a b n x)
  parts_ind a n None = same 2 n (omega arith)
  parts_ind a n (Some is) = if_ind P _ _ _ (λ g. anew n _) (λ g. same 3 n (omega arith))

  tree_ind : (a : Awaited) (x : Option reading.ResponseBody) → P (reading.read_parsed_body a b x)
  tree_ind a None = same 2 0 (omega arith)
  tree_ind a (Some body) = parts_ind a (reading.body_object_count body) (reading.response_body_items a body)

  pub read_ind : (a : Awaited) (s : List ℕ) → P (reading.read_answer a b s)
  unfolding reading.read_answer reading.read_body
  read_ind a s =
      if_ind P _ _ _
      (λ l. if_ind P _ _ _
      (λ t. if_ind P _ _ _ (λ r. tree_ind a (reading.parse_response_body (take (length s - 2) s)))
      (λ r. same 0 0 (omega arith)))
      (λ t. same 1 0 (omega arith)))
      (λ l. same 2 0 (omega arith))

-- a reading that gives a reason leaves the store as it was
unread_store : (a : Awaited) (b s : List ℕ) → ((reading.read_answer a b s).reason ≡ 0 → ⊥)
    → (reading.read_answer a b s).store ≡ b
unread_store a b s = read_ind (λ (o : reading.ReadingOutcome). (o.reason ≡ 0 → ⊥) → o.store ≡ b) b (λ r n h z. refl)
    (λ n c z. absurd (z refl)) a s

-- the answer s, awaited as a and read as r on the store b, left the store d
module _ (a : Awaited) (m : ℕ) (b s : List ℕ) (next : List ℕ → NextAction) {r : Reading} {d : List ℕ}
    (g : reading.ReadingAndStoreMatchOutcome r d (reading.read_answer a b s)) where
  abbrev o : reading.ReadingOutcome
  o = reading.read_answer a b s

  pub read_goes : r.verdict ≡ Accepted → read_response_then a m b s next ≡ next d
  unfolding read_response_then
  read_goes e = if_yes _ _ (eq-eqb _ 0 (sym g.reason ∙ ap reading.verdict_number e)) ∙ ap next (sym g.store)

  pub read_ends : (r.verdict ≡ Accepted → ⊥) → read_response_then a m b s next
      ≡ end (ending_for_reason (reading.verdict_number r.verdict)) m d
  unfolding read_response_then
  read_ends h =
      let z : (o.reason ≡ 0 → ⊥) = λ e. not_accepted r.verdict h (g.reason ∙ e) in
      if_no _ _ (ne_eqb _ 0 z) ∙ ap₂ (λ (n : ℕ) (c : List ℕ). end (ending_for_reason n) m c) (sym g.reason)
      (sym (g.store ∙ unread_store a b s z))

-- ---- the TVR

-- 95 has room for them
pub results_fit : (row_at row_tvr).greatest ≡ 5
unfolding dictionary_rows
results_fit = refl

pub results_place : row_number_of_tag_or_zero 0x95 ≡ row_tvr
unfolding row_number_of_tag_or_zero
results_place = ap row_number_found_or_zero at_95

-- the bits as they are stored
pub results_stored : (b v : List ℕ) {k : List ℕ} → k ≡ put_row dictionary_rows b row_tvr v → store_with_tvr b v ≡ k
unfolding store_with_tvr
results_stored b v g = ap (λ (n : ℕ). put_row dictionary_rows b n v) results_place ∙ sym g

-- 9F34 has room for the CVM Results
pub cvm_fits : (row_at row_cvm_results).greatest ≡ 3
unfolding dictionary_rows
cvm_fits = refl

pub cvm_place : row_number_of_tag_or_zero 0x9F34 ≡ row_cvm_results
unfolding row_number_of_tag_or_zero
cvm_place = ap row_number_found_or_zero at_9f34

-- what was found as it is stored
pub findings_stored : (b : List ℕ) (f : AnalysisFindings) {k l : List ℕ}
    → k ≡ put_row dictionary_rows b row_cvm_results f.results → l ≡ put_row dictionary_rows k row_tvr f.bits
    → store_with_findings b f ≡ l
unfolding store_with_findings
findings_stored b f p q =
    ap (λ (n : ℕ). store_with_tvr (put_row dictionary_rows b n f.results) f.bits) cvm_place
    ∙ ap (λ (d : List ℕ). store_with_tvr d f.bits) (sym p) ∙ results_stored _ f.bits q

-- three bytes' parts by equations
pub three : {A : Type 0} (f : List ℕ → List ℕ → List ℕ → A) {x y z u v w : List ℕ} → x ≡ u → y ≡ v → z ≡ w
    → f x y z ≡ f u v w
three f p q e = λ i. f (p i) (q i) (e i)

-- a row's value is at most as long as its room
held_short : (p : List ℕ) (m : ℕ) → length p ≤ m + 1 → length (bytes_or_empty_if_absent (value_in_place p)) ≤ m
unfolding value_in_place
held_short [] m h = omega arith
held_short (n ∷ v) m h =
    if_ind (λ (x : StoredValue). length (bytes_or_empty_if_absent x) ≤ m) _ _ _ (λ e. omega arith)
    (λ e. let t = length-take (n - 1) v in omega arith)

pub value_short : (b : List ℕ) (k : ℕ) → length (bytes_or_empty_if_absent (row_value dictionary_rows b k)) ≤ (row_at k).greatest
unfolding row_value row_place_bytes
value_short b k =
    held_short (take ((row_at k).greatest + 1) (drop (row_offset dictionary_rows k) b)) (row_at k).greatest
    (let t = length-take ((row_at k).greatest + 1) (drop (row_offset dictionary_rows k) b) in omega arith)

-- 9F6B has room for a track
pub track_fits : (row_at row_track2_data).greatest ≡ 19
unfolding dictionary_rows
track_fits = refl

pub track_place : row_number_of_tag_or_zero 0x9F6B ≡ row_track2_data
unfolding row_number_of_tag_or_zero
track_place = ap row_number_found_or_zero at_9f6b

-- the track with the digits as it is stored
pub digits_stored : (b v : List ℕ) {k : List ℕ} → v ≡ track_with_digits_if_possible (stored_track2 b) (stored_bitmaps b)
    (stored_digit_values b) → k ≡ put_row dictionary_rows b row_track2_data v → k ≡ store_with_track_digits b
unfolding store_with_track_digits
digits_stored b v e p = p ∙ (λ i. put_row dictionary_rows b (sym track_place i) (e i))

-- ---- start

-- a phase other than fresh
pub not_fresh : (p : Phase) (b bytes : List ℕ) → (p ≡ Phase.Fresh → ⊥)
    → start_effect p b bytes ≡ refuse refusal_wrong_phase
not_fresh Phase.Fresh b bytes h = absurd (h refl)
not_fresh (Phase.Waiting w) b bytes h = refl
not_fresh (Phase.Ended e) b bytes h = refl

-- the step of a loading on a fresh session
abbrev loading : ℕ → List ℕ → List ℕ → LoadedStore → Step
loading n b buf x = step_of_effect (session_of Phase.Fresh n b) buf (start_effect_after_loading x)

-- the loading of a fresh session said r and left the store d
module _ (n : ℕ) (b buf : List ℕ) {r : Result Unit Refusal} {d : List ℕ} where
  pub loading_refused : {f : Refusal} (x : LoadedStore) → LoadResultAndStoreMatchLoaded r d b x
      → r ≡ Err f → loading n b buf x ≡ refused_step (session_of Phase.Fresh n d) f.number buf
  loading_refused {f} x g e =
      let w = was_refused x g e in
      ap (loading n b buf) w.0 ∙ ap (λ (c : List ℕ). refused_step (session_of Phase.Fresh n c) f.number buf) (sym w.1)

  pub loading_taken : {k : List ℕ} (x : LoadedStore) → LoadResultAndStoreMatchLoaded r d b x → r ≡ (Ok tt)
      → k ≡ put_row dictionary_rows d row_tvr zero_tvr → loading n b buf x ≡ step_of_next n buf (request_gpo k)
  loading_taken x g e f = ap (loading n b buf) (was_taken x g e) ∙ ap (λ (c : List ℕ). step_of_next n buf (request_gpo c))
      (results_stored d zero_tvr f)

-- ---- a record of the AFL, by the row's value and a number

module _ {v : List ℕ} {k : ℕ} {r x : Option CardRecord} (f : r ≡ kth_record_of_accepted_afl v k) (e : r ≡ x) where
  pub found_as : (b : List ℕ) (n : ℕ) → v ≡ bytes_or_empty_if_absent (row_value dictionary_rows b row_afl) → k ≡ n
      → kth_record_of_accepted_afl (stored_afl b) n ≡ x
  found_as b n p q = sym (f ∙ ap₂ kth_record_of_accepted_afl (p ∙ bytes_are b 0x94 row_afl at_94) q) ∙ e

-- one that is present has a file of five bits, and is one of the first 128
pub found_there : (v : List ℕ) (k : ℕ) {r : Option CardRecord} {w : CardRecord} → r ≡ kth_record_of_accepted_afl v k
    → r ≡ Some w → (w.sfi < 32) × (k ≤ 128)
found_there v k {r} {w} f e =
    let g = sym f ∙ e in (
      omega (arith, (record_named v k w g).1),
      omega
          (arith, (record_inside v k w g).1, (accepted_total v (record_accepted v k w g)).1),
    )

-- ---- a command that carries a filled list, by what was written

module _ (d : List ℕ) (v : AwaitedResponse) (buf : List ℕ) {b : List ℕ} {t : NextStep} {w : Option DolCommandSize} where
  pub handed_none : (x : Option (List ℕ)) → w ≡ dol_command_of x → b ≡ buffer_with_command x buf → w ≡ None
      → t ≡ NextStep.End (ending_for_reason reason_dol_broken_or_bad_length) (held_cvm v)
      → ReturnsNext t d buf b (request_command_or_end_for_dol v d x)
  handed_none None e f g h = record { next = h; store = refl; buffer = f }
  handed_none (Some c) e f g h = let z : ◌≡◌ {A = ℕ} 0 1 = cc in absurd (omega arith)

  pub handed_some : {k : Handed} (x : Option (List ℕ)) → w ≡ dol_command_of x → b ≡ buffer_with_command x buf
      → w ≡ Some k
      → t ≡ NextStep.Command v k.len
      → ReturnsNext t d buf b (request_command_or_end_for_dol v d x)
  handed_some None e f g h = let z : ◌≡◌ {A = ℕ} 0 1 = cc in absurd (omega arith)
  handed_some {k} (Some c) e f g h =
      let z : k ≡ record { len = length c } = cc in
      record { next = h ∙ ap (λ (y : Handed). NextStep.Command v y.len) z; store = refl; buffer = f }

-- ---- after the last record

module _ (b : List ℕ) where
  module _ (limit : ℕ) where
    -- by the mode
    pub last_emv : emv_mode b ≡ true → next_after_last_record limit b ≡ next_after_records_in_emv_mode limit b
    unfolding next_after_last_record
    last_emv e = if_yes _ _ e

    pub last_mag_stripe : emv_mode b ≡ false → next_after_last_record limit b ≡ next_after_records_in_mag_stripe_mode limit b
    unfolding next_after_last_record
    last_mag_stripe e = if_no _ _ e

    -- what is found, stored and chosen on
    pub analysed_as : {f : AnalysisFindings} {k l : List ℕ} {x : Choice} → f ≡ findings_of b
        → x ≡ choice_for_tvr b f.bits
        → k ≡ put_row dictionary_rows b row_cvm_results f.results → l ≡ put_row dictionary_rows k row_tvr f.bits
        → request_cryptogram (requested_cryptogram limit b) (store_with_findings b (findings_of b)) ≡ request_cryptogram
        (record { choice = x; cvm = f.cvm; limit = limit }) l
    unfolding requested_cryptogram
    analysed_as {f} e c p q =
        ap₂ request_cryptogram
        (ap (λ (g : AnalysisFindings). record { choice = choice_for_tvr b g.bits; cvm = g.cvm; limit = limit })
        (sym e)
        ∙ ap (λ (y : Choice). record { choice = y; cvm = f.cvm; limit = limit }) (sym c))
        (ap (store_with_findings b) (sym e) ∙ findings_stored b f p q)

-- ---- the answer to the checksum

module _ (b : List ℕ) where
  pub taken_sound : (d : List ℕ) → stored_track_can_take_digits b ≡ true
      → next_if_track_takes_digits b d ≡ next_after_checksum_read d
  unfolding next_if_track_takes_digits
  taken_sound d e = if_yes _ _ e

  -- a track that cannot take the digits: by the reading's verdict v
  module _ (card : List ℕ) (v : ResponseVerdict) (e : stored_track_can_take_digits b ≡ false)
      (q : reading.verdict_number v ≡ (reading.read_answer Awaited.Checksum b card).reason) where
    pub unsound_read : (v ≡ Accepted → ⊥) → next_on_checksum_response b card
        ≡ end_for_reason (reading.verdict_number v) b
    unfolding next_on_checksum_response read_response_then
    unsound_read h =
        if_no _ _
        (ne_eqb _ 0 (λ (y : (reading.read_answer Awaited.Checksum b card).reason ≡ 0). not_accepted v h (q ∙ y)))
        ∙ ap (λ (x : ℕ). end_for_reason x b) (sym q)

    pub unsound_kept : v ≡ Accepted → next_on_checksum_response b card ≡ end_for_reason reason_object_not_allowed b
    unfolding next_on_checksum_response read_response_then next_if_track_takes_digits
    unsound_kept z = if_yes _ _ (eq-eqb _ 0 (sym q ∙ ap reading.verdict_number z)) ∙ if_no _ _ e
