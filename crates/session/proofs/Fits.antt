-- A command that follows is at most as long as the least buffer. So a step over the front of a caller's buffer, with the
-- bytes that are behind it, is the step over the whole buffer.
-- Assumes nothing.
use Rattle.std.specs.Prelude.{Option, Some, None}
use mathlib.Core.Path.{◌≡◌, refl, sym, ap, ◌∙◌}
use mathlib.Core.List.{List, ◌++◌, append_assoc}
use Prim.Native.Nat.{ℕ, ◌≤◌}
use native.Mathlib.Omega.{arith}
use lib.ListN.{length, drop, take-append-drop}
use lib.Seq.{drop-append-le, length-take-le}
use Rattle.std.specs.Array.{IsFirstChunk}
use Rattle.basics.proofs.Laws.{if_ind}
use Rattle.basics.specs.Reason.{reason_afl_invalid}
use Rattle.afl.specs.declared.CardRecord.{CardRecord}
use Rattle.command.specs.WithList.{get_processing_options, generate_ac, compute_cryptographic_checksum}
use Rattle.command.proofs.Commands.{gpo_proper, cryptogram_proper, checksum_proper}
use Rattle.analysis.specs.Choice.{generate_ac_p1}
use Rattle.reading.specs.declared.Awaited.{Awaited}
use Rattle.start_data.specs.StartData.{LoadedStore, refusal, loaded}
use Rattle.session_record.specs.declared.AwaitedRecord.{AwaitedRecord}
use Rattle.session_record.specs.declared.AwaitedResponse.{AwaitedResponse}
use Rattle.session_record.specs.declared.RequestedCryptogram.{RequestedCryptogram}
use Rattle.session_record.specs.declared.Reply.{Reply}
use Rattle.session_record.specs.declared.Session.{Session}
use Rattle.session.specs.Steps.{NextAction, ask, end, end_for_reason, request_command_or_end_for_dol, read_response_then}
use Rattle.session.specs.Steps.{Step, ReturnsStep, CallEffect, refuse, follow, step_of_next, step_of_effect, least_buffer}
use Rattle.session.proofs.Laws.{did_as}
use Rattle.session.specs.Start.{request_gpo, start_effect_after_loading}
use Rattle.session.specs.Answer.{request_kth_record_if_found, next_after_gpo_read}
use Rattle.session.specs.Answer.{next_on_gpo_response, request_cryptogram, next_after_records_in_emv_mode}
use Rattle.session.specs.Answer.{next_after_last_record, next_after_record_read, next_on_response_for_record_found}
use Rattle.session.specs.Answer.{next_on_record_response, next_on_cryptogram_response, next_on_response}
use Rattle.session.specs.MagStripe.{request_checksum, next_after_records_in_mag_stripe_mode, next_after_checksum_read}
use Rattle.session.specs.MagStripe.{next_if_track_takes_digits, next_on_checksum_response, awaited_checksum_with_limit}

-- ---- what follows, and its command

abbrev pub Fits : NextAction → Type 0
Fits (ask c w b) = length c ≤ least_buffer
Fits (end e m b) = Unit

abbrev pub EffectFits : CallEffect → Type 0
EffectFits (refuse n) = Unit
EffectFits (follow x) = Fits x

request_fits : (w : AwaitedResponse) (b : List ℕ) (x : Option (List ℕ)) → ((c : List ℕ) → x ≡ Some c → length c ≤ least_buffer)
    → Fits (request_command_or_end_for_dol w b x)
request_fits w b None h = tt
request_fits w b (Some c) h = h c refl

gpo_fits : (b : List ℕ) → Fits (request_gpo b)
unfolding request_gpo
gpo_fits b = request_fits AwaitedResponse.Gpo b (get_processing_options b) (λ c p. (gpo_proper b c p).most)

cryptogram_fits : (a : RequestedCryptogram) (b : List ℕ) → Fits (request_cryptogram a b)
unfolding request_cryptogram
cryptogram_fits a b =
    request_fits (AwaitedResponse.Cryptogram a) b (generate_ac (generate_ac_p1 a.choice) b)
    (λ c p. (cryptogram_proper b c (generate_ac_p1 a.choice) p).most)

checksum_fits : (l : ℕ) (b : List ℕ) → Fits (request_checksum l b)
unfolding request_checksum
checksum_fits l b =
    request_fits (awaited_checksum_with_limit l) b (compute_cryptographic_checksum b) (λ c p. (checksum_proper b c p).most)

record_fits : (l k : ℕ) (b : List ℕ) (x : NextAction) → Fits x → (r : Option CardRecord)
    → Fits (request_kth_record_if_found l k b x r)
record_fits l k b x h None = h
record_fits l k b x h (Some r) = omega arith

read_fits : (a : Awaited) (m : ℕ) (b card : List ℕ) (next : List ℕ → NextAction) → ((d : List ℕ) → Fits (next d))
    → Fits (read_response_then a m b card next)
unfolding read_response_then
read_fits a m b card next h = if_ind Fits _ _ _ (λ e. h _) (λ e. tt)

-- ---- the calls

after_gpo_fits : (b : List ℕ) → Fits (next_after_gpo_read b)
unfolding next_after_gpo_read
after_gpo_fits b =
    if_ind Fits _ _ _ (λ e. tt)
    (λ e. if_ind Fits _ _ _ (λ f. tt)
    (λ f. if_ind Fits _ _ _ (λ g. tt) (λ g. record_fits _ _ b (end_for_reason reason_afl_invalid b) tt _)))

emv_fits : (l : ℕ) (b : List ℕ) → Fits (next_after_records_in_emv_mode l b)
unfolding next_after_records_in_emv_mode
emv_fits l b =
    if_ind Fits _ _ _ (λ e. tt) (λ e. if_ind Fits _ _ _ (λ f. tt) (λ f. cryptogram_fits _ _))

mag_stripe_fits : (l : ℕ) (b : List ℕ) → Fits (next_after_records_in_mag_stripe_mode l b)
unfolding next_after_records_in_mag_stripe_mode
mag_stripe_fits l b = if_ind Fits _ _ _ (λ e. tt) (λ e. if_ind Fits _ _ _ (λ f. tt) (λ f. checksum_fits l b))

last_fits : (l : ℕ) (b : List ℕ) → Fits (next_after_last_record l b)
unfolding next_after_last_record
last_fits l b = if_ind Fits _ _ _ (λ e. emv_fits l b) (λ e. mag_stripe_fits l b)

after_record_fits : (p : AwaitedRecord) (b : List ℕ) → Fits (next_after_record_read p b)
unfolding next_after_record_read
after_record_fits p b = record_fits _ _ b (next_after_last_record p.limit b) (last_fits p.limit b) _

record_found_fits : (p : AwaitedRecord) (b card : List ℕ) (r : Option CardRecord)
    → Fits (next_on_response_for_record_found p b card r)
record_found_fits p b card None = tt
record_found_fits p b card (Some r) = read_fits _ _ b card (next_after_record_read p) (after_record_fits p)

checksum_read_fits : (b d : List ℕ) → Fits (next_if_track_takes_digits b d)
unfolding next_if_track_takes_digits next_after_checksum_read
checksum_read_fits b d =
    if_ind Fits _ _ _ (λ e. if_ind Fits _ _ _ (λ f. tt) (λ f. if_ind Fits _ _ _ (λ g. tt) (λ g. tt))) (λ e. tt)

pub response_fits : (b card : List ℕ) (w : AwaitedResponse) → Fits (next_on_response b card w)
unfolding next_on_gpo_response next_on_record_response next_on_cryptogram_response next_on_checksum_response
response_fits b card AwaitedResponse.Gpo = read_fits _ _ b card next_after_gpo_read after_gpo_fits
response_fits b card (AwaitedResponse.Record p) = record_found_fits p b card _
response_fits b card (AwaitedResponse.Cryptogram a) = read_fits _ _ b card _ (λ d. tt)
response_fits b card (AwaitedResponse.Checksum c) = read_fits _ _ b card (next_if_track_takes_digits b) (checksum_read_fits b)

pub start_fits : (x : LoadedStore) → EffectFits (start_effect_after_loading x)
start_fits (refusal n) = tt
start_fits (loaded b) = gpo_fits _

-- ---- the step

-- the front of a buffer, long enough for every command, and the rest of it
module _ (front rest : List ℕ) (h : length front ≡ least_buffer) where
  pub step_behind : {r : Reply} {after : List ℕ} (n : ℕ) (x : NextAction) → Fits x → ReturnsStep r after (step_of_next n front x)
      → ReturnsStep r (after ++ rest) (step_of_next n (front ++ rest) x)
  step_behind n (ask c w b) f d =
      let k : length c ≤ length front = omega arith in
      record {
        reply = d.reply;
        buffer =
            ap (λ (y : List ℕ). y ++ rest) d.buffer
            ∙ append_assoc c (drop (length c) front) rest
            ∙ ap (λ (y : List ℕ). c ++ y) (sym (drop-append-le (length c) front rest k));
      }
  step_behind n (end e m b) f d = record { reply = d.reply; buffer = ap (λ (y : List ℕ). y ++ rest) d.buffer }

  pub effect_behind : {r : Reply} {after : List ℕ} (s : Session) (x : CallEffect) → EffectFits x
      → ReturnsStep r after (step_of_effect s front x) → ReturnsStep r (after ++ rest) (step_of_effect s (front ++ rest) x)
  effect_behind s (refuse n) f d = record { reply = d.reply; buffer = ap (λ (y : List ℕ). y ++ rest) d.buffer }
  effect_behind s (follow x) f d = step_behind s.count x f d

-- the front of a call's buffer, as long as the least buffer
module _ (buf : List ℕ) {front : List ℕ} (g : IsFirstChunk buf front least_buffer) where
  whole : front ++ drop least_buffer buf ≡ buf
  whole = ap (λ (y : List ℕ). y ++ drop least_buffer buf) g.same ∙ take-append-drop least_buffer buf

  -- it stays, and so does the buffer
  pub stays_whole : {r : Reply} {s : Step} → ReturnsStep r buf s → ReturnsStep r (front ++ drop least_buffer buf) s
  stays_whole d = record { reply = d.reply; buffer = whole ∙ d.buffer }

  -- a step over it is the step over the buffer
  pub effect_on_whole : {r : Reply} {after : List ℕ} (s : Session) (x : CallEffect) → EffectFits x
      → ReturnsStep r after (step_of_effect s front x)
      → ReturnsStep r (after ++ drop least_buffer buf) (step_of_effect s buf x)
  effect_on_whole s x f d =
      let l : length front ≡ least_buffer = ap length g.same ∙ length-take-le least_buffer buf g.enough in
      did_as (ap (λ (y : List ℕ). step_of_effect s y x) (sym whole)) (effect_behind front (drop least_buffer buf) l s x f d)
