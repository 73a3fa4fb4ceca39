-- Demand 3: from a session in any phase, the commands of any further calls are the front of what is left of the
-- published order. One induction over the calls, each by the way its step went.
-- Assumes nothing.
use Rattle.std.specs.Prelude.{Some, None, Option}
use mathlib.Core.Path.{◌≡◌, refl, sym, ap, subst, ◌∙◌}
use mathlib.Core.Bool.{Bool, true, false}
use mathlib.Core.Logic.{◌⊎◌, inl, inr}
use mathlib.Core.List.{List, [], ◌∷◌, ◌++◌, map}
use Prim.Native.Nat.{ℕ, ◌+◌, ◌-◌, ◌≤◌}
use native.Mathlib.Omega.{arith}
use lib.ListN.{length, get_or, take, drop, length-append, length-take, length-drop, length-map}
use lib.Seq.{take_at, drop_at}
use lib.Dec.{eqb}
use borrow.Author.Tests.{eq-eqb, ne_eqb}
use Rattle.basics.specs.Choice.{if}
use Rattle.basics.proofs.Laws.{if_ind, if_yes, if_no, bool_cases, either_left, both_yes, both_no_left, both_no_right}
use Rattle.store.specs.Place.{bytes_or_empty_if_absent}
use Rattle.store.specs.Held.{stored_bytes}
use Rattle.afl.specs.declared.CardRecord.{CardRecord}
use Rattle.afl.specs.Records.{afl_records, afl_record_count, accepts_afl, kth_record_of_accepted_afl}
use Rattle.command.specs.ReadRecord.{read_record_command}
use Rattle.afl.proofs.Laws.{record_split, record_inside, record_there, accepted_length}
use Rattle.afl.proofs.Records.{records_length}
use Rattle.reading.specs.declared.Awaited.{Awaited}
use Rattle.reading.specs.Answer as reading
use Rattle.command.proofs.Commands as list
use Rattle.analysis.specs.Action.{transaction_limit, findings_of}
use Rattle.analysis.specs.Choice.{generate_ac_p1}
use Rattle.session_record.specs.declared.Outcome.{Outcome}
use Rattle.session_record.specs.declared.AwaitedRecord.{AwaitedRecord}
use Rattle.session_record.specs.declared.AwaitedResponse.{AwaitedResponse}
use Rattle.session_record.specs.declared.Phase.{Phase}
use Rattle.session_record.specs.declared.Session.{Session}
use Rattle.session_record.specs.declared.Reply.{Reply}
use Rattle.basics.specs.Reason.{reason_link, reason_stopped}
use Rattle.session_record.specs.Session.{store_bytes, ending_of, ending_for_reason}
use Rattle.session_record.specs.Ranges.{emv_mode, stored_afl, zero_tvr, session_record_in_ranges}
use Rattle.session_record.proofs.Phases.{store_size_lem, store_fits, on_fresh_lem, on_gpo_lem, on_record_lem, count_most}
use Rattle.session.specs.Steps.{end, held_cvm, Step, refused_step, step_of_effect, store_with_tvr, store_with_findings}
use Rattle.session.specs.Steps.{step_if_admitted, effect_if_running, abort_step}
use Rattle.session.specs.Start.{start_step}
use Rattle.session.specs.Answer.{awaited_record_with_limit, gpo_reason, answer_step}
use Rattle.session.specs.MagStripe.{awaited_checksum_with_limit}
use Rattle.step_laws.proofs.Kept.{read_fits, read_mode, mode_bytes, read_afl}
use Rattle.step_laws.proofs.Ways as ways
use Rattle.step_laws.proofs.Ways.{without_command, ended_reply, command_step, GpoWay, RecordsWay, MagStripeWay, RecordWay}
use Rattle.step_laws.proofs.Ways.{CryptogramWay, ChecksumWay, AnswerWay, answer_way, StartWay, start_way}
use Rattle.step_laws.proofs.Ways.{analysed_session, asked_by, loaded_session}
use Rattle.step_laws.proofs.Ranges.{start_keeps, answer_keeps, link_keeps, stop_keeps}
use Rattle.session_claim.specs.Calls.{commands_sent, calls_accepted, last_element, is_answer, has_answer}
use Rattle.session_claim.specs.Calls.{commands_with_no_later_answer, unanswered_commands}
use Rattle.session.specs.Calls.{Call, start, answer, link_failed, stop, call_step, CallMade, call_made, play_calls}
use Rattle.session.specs.Calls.{final_session, is_refusal, call_result, command_sent}
use Rattle.session.proofs.Results.{is_command}
use Rattle.session_claim.specs.Order.{afl_in_gpo_response, aip_in_gpo_response, first_answer, afl_accepted_from_gpo_answer}
use Rattle.session_claim.specs.Order.{CommandKind, gpo, record_command_kind, cryptogram, checksum, command_kind}
use Rattle.session_claim.specs.Order.{final_command_kind_for_aip, final_command_kind_by_gpo_answer, published_order}
use Rattle.session_claim.specs.Claim.{CallsAndSessionAfterInPublishedOrder, stage_after_accepted_result}
use Rattle.session_claim.specs.Claim.{stage_after_last_accepted_call, most_commands_for_accepted_afl}
use Rattle.basics.specs.Choice.{one_if}
use Rattle.session_record.specs.Session.{SessionStage, fresh, running, ended, session_stage_of, is_running, is_ended}
use Rattle.session_claim.proofs.Brought.{afl_brought, aip_brought}
use Rattle.session_claim.proofs.Rules.{sent_by_rules, answer_off}
use Rattle.basics.proofs.Laws.{no}

-- ---- the kinds of commands

first_two : (c : List ℕ) (a b : ℕ) → take 2 c ≡ a ∷ b ∷ [] → (get_or c 0 0 ≡ a) × (get_or c 1 0 ≡ b)
first_two [] a b e = (ap (λ (l : List ℕ). get_or l 0 0) e, ap (λ (l : List ℕ). get_or l 1 0) e)
first_two (x ∷ []) a b e = (ap (λ (l : List ℕ). get_or l 0 0) e, ap (λ (l : List ℕ). get_or l 1 0) e)
first_two (x ∷ y ∷ c) a b e = (ap (λ (l : List ℕ). get_or l 0 0) e, ap (λ (l : List ℕ). get_or l 1 0) e)

kind_gpo : (c : List ℕ) → list.Proper 0xA8 c → command_kind c ≡ gpo
unfolding command_kind
kind_gpo c p = let t = first_two c 0x80 0xA8 p.starts in
    if_yes _ _ (both_yes _ _ (eq-eqb _ 0x80 t.0) (eq-eqb _ 0xA8 t.1))

kind_cryptogram : (c : List ℕ) → list.Proper 0xAE c → command_kind c ≡ cryptogram
unfolding command_kind
kind_cryptogram c p =
    let t = first_two c 0x80 0xAE p.starts in
    if_no _ _ (both_no_right _ _ (ne_eqb (get_or c 1 0) 0xA8 (λ z. omega (arith, t.1))))
    ∙ if_yes _ _ (both_yes _ _ (eq-eqb _ 0x80 t.0) (eq-eqb _ 0xAE t.1))

kind_checksum : (c : List ℕ) → list.Proper 0x2A c → command_kind c ≡ checksum
unfolding command_kind
kind_checksum c p =
    let t = first_two c 0x80 0x2A p.starts in
    if_no _ _ (both_no_right _ _ (ne_eqb (get_or c 1 0) 0xA8 (λ z. omega (arith, t.1))))
    ∙ if_no _ _ (both_no_right _ _ (ne_eqb (get_or c 1 0) 0xAE (λ z. omega (arith, t.1))))
    ∙ if_yes _ _ (both_yes _ _ (eq-eqb _ 0x80 t.0) (eq-eqb _ 0x2A t.1))

abbrev reads : CardRecord → CommandKind
reads r = record_command_kind (read_record_command r)

kind_record : (r : CardRecord) → command_kind (read_record_command r) ≡ reads r
unfolding command_kind
kind_record r =
    if_no _ _ (both_no_left _ _ (ne_eqb 0 0x80 (λ z. omega arith))) ∙ if_no _ _
    (both_no_left _ _ (ne_eqb 0 0x80 (λ z. omega arith)))
    ∙ if_no _ _ (both_no_left _ _ (ne_eqb 0 0x80 (λ z. omega arith)))

-- ---- the front of a list

abbrev Front : List CommandKind → List CommandKind → Type 0
Front [] ys = Unit {0}
Front (x ∷ xs) [] = ⊥
Front (x ∷ xs) (y ∷ ys) = (x ≡ y) × Front xs ys

front_take : (xs ys : List CommandKind) → Front xs ys → xs ≡ take (length xs) ys
front_take [] ys f = refl
front_take (x ∷ xs) [] f = absurd f
front_take (x ∷ xs) (y ∷ ys) f =
    subst (λ (z : CommandKind). x ∷ xs ≡ z ∷ take (length xs) ys) f.0
    (ap (λ (l : List CommandKind). x ∷ l) (front_take xs ys f.1))

front_length : (xs ys : List CommandKind) → Front xs ys → length xs ≤ length ys
front_length [] ys f = omega arith
front_length (x ∷ xs) [] f = absurd f
front_length (x ∷ xs) (y ∷ ys) f = let h = front_length xs ys f.1 in omega arith

front_cons : (x y : CommandKind) (xs ys zs : List CommandKind) → ys ≡ y ∷ zs → x ≡ y → Front xs zs → Front (x ∷ xs) ys
front_cons x y xs ys zs e k f = subst (Front (x ∷ xs)) (sym e) (k, f)

-- nothing is sent once nothing is left
none_left : (sent : List (List ℕ)) (r : List CommandKind) → Front (map command_kind sent) []
    → Front (map command_kind sent) r × (length sent ≡ 0)
none_left [] r f = (tt, refl)
none_left (c ∷ sent) r f = absurd f

-- ---- what is left of the published order in each phase: by the stored AFL and AIP, or by those that the first
-- answer brings

-- the last command of a store's mode
abbrev last_on : List ℕ → CommandKind
last_on b = final_command_kind_for_aip (Some (stored_bytes b 0x82))

last_emv : (b : List ℕ) → emv_mode b ≡ true → last_on b ≡ cryptogram
unfolding final_command_kind_for_aip
last_emv b e = if_yes _ _ e

last_mag_stripe : (b : List ℕ) → emv_mode b ≡ false → last_on b ≡ checksum
unfolding final_command_kind_for_aip
last_mag_stripe b e = if_no _ _ e

-- the order that the first answer gives
abbrev order_of : Option CallMade → List CommandKind
order_of x = published_order (final_command_kind_by_gpo_answer x) (afl_accepted_from_gpo_answer x)

abbrev rest_on : AwaitedResponse → List ℕ → Option CallMade → List CommandKind
rest_on AwaitedResponse.Gpo b x = drop 1 (order_of x)
rest_on (AwaitedResponse.Record p) b x = map reads (drop p.number (afl_records (stored_afl b))) ++ (last_on b ∷ [])
rest_on (AwaitedResponse.Cryptogram a) b x = []
rest_on (AwaitedResponse.Checksum k) b x = []

abbrev rest : Phase → List ℕ → Option CallMade → List CommandKind
rest Phase.Fresh b x = order_of x
rest (Phase.Waiting w) b x = rest_on w b x
rest (Phase.Ended e) b x = []

published_front : (k : CommandKind) (a : Option (List ℕ)) → published_order k a ≡ gpo ∷ drop 1 (published_order k a)
unfolding published_order
published_front k None = refl
published_front k (Some l) = refl

published_length : (k : CommandKind) (a : Option (List ℕ)) → length (published_order k a) ≡ most_commands_for_accepted_afl a
unfolding published_order
published_length k None = refl
published_length k (Some l) = simp (length-append, length-map) (omega (arith, records_length l))

-- the record after the k-th
next_record : (l : List ℕ) (k : ℕ) (r : CardRecord) → kth_record_of_accepted_afl l (k + 1) ≡ Some r
    → drop k (afl_records l) ≡ r ∷ drop (k + 1) (afl_records l)
next_record l k r e =
    ap (drop k) (record_split l (k + 1) r e)
    ∙ drop_at (take (k + 1 - 1) (afl_records l)) (r ∷ drop (k + 1) (afl_records l)) k
    (length-take (k + 1 - 1) (afl_records l) ∙ omega (arith, records_length l, (record_inside l (k + 1) r e).1))

empty : (x : List CardRecord) → length x ≡ 0 → x ≡ []
empty [] e = refl
empty (r ∷ x) e = absurd (omega arith)

no_record : (l : List ℕ) (k : ℕ) → accepts_afl l ≡ true → kth_record_of_accepted_afl l (k + 1) ≡ None
    → drop k (afl_records l) ≡ []
no_record l k a e = empty (drop k (afl_records l)) (length-drop k (afl_records l) ∙ omega (arith, records_length l, past))
  where
    past : k + 1 ≤ afl_record_count l → ⊥
    past h =
        let w = record_there l (k + 1) (record { sfi = 0; number = 0 }) a (omega arith) h in
        let z : ◌≡◌ {A = ℕ} 0 1 = cc in omega arith

-- ---- the first answer among calls that were taken

-- an answer at the front is the first; other calls are skipped
module _ (m : CallMade) (tk : List CallMade) where
  answer_first : is_answer m.call ≡ true → first_answer (m ∷ tk) ≡ Some m
  unfolding first_answer
  answer_first e = if_yes _ _ e

  passed_over : is_answer m.call ≡ false → first_answer (m ∷ tk) ≡ first_answer tk
  unfolding first_answer
  passed_over e = if_no _ _ e

-- ---- the last call taken, or what the session was before

abbrev pub by : {A : Type 0} → A → (CallMade → A) → Option CallMade → A
by d g None = d
by d g (Some m) = g m

by_last : {A : Type 0} (d e : A) (g : CallMade → A) (m : CallMade) (tk : List CallMade) → by d g (last_element (m ∷ tk))
    ≡ by e g (last_element (m ∷ tk))
unfolding last_element
by_last d e g m [] = refl
by_last d e g m (x ∷ tk) = by_last d e g x tk

pub by_front : {A : Type 0} (d e : A) (g : CallMade → A) (m : CallMade) (tk : List CallMade) → e ≡ g m
    → by e g (last_element tk) ≡ by d g (last_element (m ∷ tk))
unfolding last_element
by_front d e g m [] q = q
by_front d e g m (x ∷ tk) q = by_last e d g x tk

running_is : (p : Phase) → is_running p ≡ true → is_ended p ≡ false
running_is Phase.Fresh e = no e
running_is (Phase.Waiting w) e = refl
running_is (Phase.Ended x) e = no e

-- ---- unanswered: the command x that a running session waits on, and those that come after

-- of these commands, one is out, the last
abbrev OneOut : List (List ℕ) → List (List ℕ) → Type 0
OneOut sent out = (length out ≡ 1) × (last_element out ≡ last_element sent)

abbrev Waits : Bool → List (List ℕ) → List CallMade → Type 0
Waits true sent tk = (x : List ℕ)
    → OneOut (x ∷ sent) (if (has_answer tk) (commands_with_no_later_answer tk) (x ∷ commands_with_no_later_answer tk))
Waits false sent tk = OneOut sent (commands_with_no_later_answer tk)

-- no call: the command x is out
no_answer : (b : Bool) → b ≡ true → Waits b [] []
unfolding has_answer commands_with_no_later_answer
no_answer true e = λ x. subst (OneOut (x ∷ [])) (sym (if_no _ _ refl)) (refl, refl)
no_answer false e = no e

-- a call that hands out the command x leaves it as the one that is out: an answer, or on a session that does not run
module _ (m : CallMade) (x : List ℕ) (sent : List (List ℕ)) (tk : List CallMade)
    (e : command_sent (call_result m) m.step.buffer ≡ x ∷ []) (w : Waits true sent tk) where
  out_now : OneOut (x ∷ sent) (commands_with_no_later_answer (m ∷ tk))
  unfolding commands_with_no_later_answer
  out_now =
      subst
      (λ (c : List (List ℕ)). OneOut (x ∷ sent)
      (if (has_answer tk) (commands_with_no_later_answer tk) (c ++ commands_with_no_later_answer tk))) (sym e) (w x)

  one_more : (b : Bool) → (b ≡ true → is_answer m.call ≡ true) → Waits b (x ∷ sent) (m ∷ tk)
  unfolding has_answer last_element
  one_more true a = λ y. subst (OneOut (y ∷ x ∷ sent)) (sym (if_yes _ _ (either_left _ _ (a refl)))) out_now
  one_more false a = out_now

-- the stage that a call leaves
abbrev told : CallMade → SessionStage
told m = stage_after_accepted_result (call_result m)

-- ---- the claim from a session s on: the commands sent, the calls taken, the session at the end

record Run (s : Session) (sent : List (List ℕ)) (tk : List CallMade) (f : Session) : Type 0 where
  count : f.count ≡ s.count + length sent
  stage : session_stage_of f.phase ≡ by (session_stage_of s.phase) told (last_element tk)
  waiting : is_running f.phase ≡ true → Waits (is_running s.phase) sent tk
  calls : length tk + one_if (is_ended s.phase) ≡ length sent + one_if (is_ended f.phase)
  order : Front (map command_kind sent) (rest s.phase (store_bytes s) (first_answer tk))
  ranges : session_record_in_ranges f ≡ true

no_calls : (s : Session) → session_record_in_ranges s ≡ true → Run s [] [] s
unfolding last_element
no_calls s i =
    record {
      count = omega arith;
      stage = refl;
      waiting = no_answer (is_running s.phase);
      calls = omega arith;
      order =
          tt;
      ranges = i;
    }

-- a step takes the claim from the session that it leaves to the one before
abbrev Goes : Session → Call → Step → Type 0
Goes s c st =
    (sent : List (List ℕ)) (tk : List CallMade) (f : Session) → Run st.reply.session sent tk f
    → Run s (command_sent st.reply.answer st.buffer ++ sent)
    (if (is_refusal st.reply.answer) tk (call_made s c st ∷ tk)) f

goes_refused : (s : Session) (c : Call) (n : ℕ) (buf : List ℕ) → Goes s c (refused_step s n buf)
goes_refused s c n buf sent tk f r = subst (λ (x : List CallMade). Run s sent x f) (sym (if_yes _ _ refl)) r

goes_ended : (s : Session) (c : Call) (k : ℕ) (b : List ℕ) (o : Outcome) (n : ℕ) (buf : List ℕ)
    → is_ended s.phase ≡ false → Goes s c (without_command (ended_reply k s.count b (ending_of o n)) buf)
goes_ended s c k b o n buf e sent tk f r =
    subst (λ (x : List CallMade). Run s sent x f) (sym (if_no _ _ refl))
    (record {
      count = r.count;
      stage = r.stage ∙ by_front (session_stage_of s.phase) ended told m tk refl;
      waiting = λ q. absurd (omega (arith, r.calls, left.1, ap one_if (running_is f.phase q)));
      calls = omega (arith, r.calls, ap one_if e);
      order = left.0;
      ranges = r.ranges;
    })
  where
    m : CallMade
    m = call_made s c (without_command (ended_reply k s.count b (ending_of o n)) buf)

    left : Front (map command_kind sent) (rest s.phase (store_bytes s) (first_answer (m ∷ tk))) × (length sent ≡ 0)
    left = none_left sent _ r.order

-- with a command: what is left begins with it
abbrev Leads : Session → Call → List ℕ → AwaitedResponse → List ℕ → List ℕ → Type 0
Leads s c b w x buf =
    (sent : List (List ℕ)) (tk : List CallMade) → Front (map command_kind sent) (rest_on w b (first_answer tk))
    → Front (command_kind x ∷ map command_kind sent)
    (rest s.phase (store_bytes s) (first_answer (call_made s c (command_step s.count b w x buf) ∷ tk)))

goes_sent : (s : Session) (c : Call) (b : List ℕ) (w : AwaitedResponse) (x buf : List ℕ) → is_ended s.phase ≡ false
    → (is_running s.phase ≡ true → is_answer c ≡ true) → Leads s c b w x buf
    → Goes s c (command_step s.count b w x buf)
goes_sent s c b w x buf e z next sent tk f r =
    subst (λ (y : List CallMade). Run s (take (length x) (x ++ drop (length x) buf) ∷ sent) y f) (sym (if_no _ _ refl))
    (subst (λ (y : List ℕ). Run s (y ∷ sent) (m ∷ tk) f) (sym sent_bytes)
    (record {
      count = omega (arith, r.count);
      stage = r.stage ∙ by_front (session_stage_of s.phase) running told m tk refl;
      waiting = λ q. one_more m x sent tk (ap (λ (y : List ℕ). y ∷ []) sent_bytes) (r.waiting q) (is_running s.phase)
          z;
      calls = omega (arith, r.calls, ap one_if e);
      order = next sent tk r.order;
      ranges = r.ranges;
    }))
  where
    m : CallMade
    m = call_made s c (command_step s.count b w x buf)

    sent_bytes : take (length x) (x ++ drop (length x) buf) ≡ x
    sent_bytes = take_at x (drop (length x) buf) (length x) refl

-- ---- start

start_goes : (s : Session) (bytes buf : List ℕ) → Goes s (start bytes buf) (start_step s bytes buf)
start_goes s bytes buf = go (start_way s bytes buf)
  where
    go : {st : Step} → StartWay s bytes buf st → Goes s (start bytes buf) st
    go (StartWay.refused n l) = goes_refused s (start bytes buf) n buf
    go (StartWay.unlisted b i q e) = goes_ended s (start bytes buf) _ (store_with_tvr b zero_tvr) _ _ buf (ap is_ended q)
    go (StartWay.asked b c i q e f) =
        goes_sent s (start bytes buf) (store_with_tvr b zero_tvr) AwaitedResponse.Gpo c buf (ap is_ended q)
        (λ w. no (sym (ap is_running q) ∙ w))
        (λ sent tk h. let m = call_made s (start bytes buf) (command_step s.count (store_bytes (loaded_session s b))
        AwaitedResponse.Gpo c buf) in
        subst (λ (p : Phase). Front (command_kind c ∷ map command_kind sent)
        (rest p (store_bytes s) (first_answer (m ∷ tk)))) (sym q)
        (subst (λ (x : Option CallMade). Front (command_kind c ∷ map command_kind sent) (order_of x))
        (sym (passed_over m tk refl))
        (front_cons (command_kind c) gpo (map command_kind sent) (order_of (first_answer tk))
        (drop 1 (order_of (first_answer tk)))
        (published_front _ (afl_accepted_from_gpo_answer (first_answer tk)))
        (kind_gpo c (list.gpo_proper (store_bytes (loaded_session s b)) c f)) h)))

-- ---- answer

module _ (s : Session) (card buf : List ℕ) where
  abbrev call : Call
  call = answer card buf

  gpo_goes : session_record_in_ranges s ≡ true → s.phase ≡ Phase.Waiting AwaitedResponse.Gpo
      → (reading.read_answer Awaited.Gpo (store_bytes s) card).reason ≡ 0
      → {st : Step} → GpoWay (ways.taken Awaited.Gpo s card) buf st
      → (is_command st.reply.answer ≡ true → eqb (gpo_reason (store_bytes s) card) 0 ≡ true) → Goes s call st
  unfolding published_order
  gpo_goes i q z (GpoWay.failed n r) k = goes_ended s call _ _ _ n buf (ap is_ended q)
  gpo_goes i q z (GpoWay.first r v a e) k =
      goes_sent s call b (awaited_record_with_limit (transaction_limit b) 1) (read_record_command r) buf (ap is_ended q)
      (λ w. refl)
      (λ sent tk h. subst (λ (p : Phase). Front (command_kind (read_record_command r) ∷ map command_kind sent)
      (rest p (store_bytes s) (first_answer (m ∷ tk)))) (sym q)
      (subst (λ (x : Option CallMade). Front (command_kind (read_record_command r) ∷ map command_kind sent)
      (drop 1 (order_of x))) (sym (answer_first m tk refl))
      (subst (λ (x : Option (List ℕ)). Front (command_kind (read_record_command r) ∷ map command_kind sent)
      (drop 1 (published_order (final_command_kind_for_aip (aip_in_gpo_response card)) x))) (sym (if_yes _ _ (k refl) ∙ here))
      (subst (λ (x : Option (List ℕ)). Front (command_kind (read_record_command r) ∷ map command_kind sent)
      (drop 1 (published_order (final_command_kind_for_aip x) (Some l)))) (sym told)
      (front_cons (command_kind (read_record_command r)) (reads r) (map command_kind sent)
      (drop 1 (published_order (last_on b) (Some l))) (map reads (drop 1 (afl_records l)) ++ (last_on b ∷ []))
      (ap (λ (x : List CardRecord). map reads x ++ (last_on b ∷ [])) (next_record l 0 r e)) (kind_record r) h)))))
    where
      b : List ℕ
      b = (reading.read_answer Awaited.Gpo (store_bytes s) card).store

      l : List ℕ
      l = stored_afl b

      m : CallMade
      m = call_made s call (command_step s.count b (awaited_record_with_limit (transaction_limit b) 1)
          (read_record_command r) buf)

      here : afl_in_gpo_response card ≡ Some l
      here = afl_brought (store_bytes s) card (store_size_lem s i) z (ap bytes_or_empty_if_absent (on_gpo_lem s i q).no_94)
          (omega (arith, (accepted_length l a).1))

      told : aip_in_gpo_response card ≡ Some (stored_bytes b 0x82)
      told =
          aip_brought (store_bytes s) card (store_size_lem s i) z (ap bytes_or_empty_if_absent (on_gpo_lem s i q).no_82)
          (mode_bytes b (read_fits Awaited.Gpo (store_bytes s) card (store_size_lem s i) (store_fits s i)).1 v)

  module _ (i : session_record_in_ranges s ≡ true) (p : AwaitedRecord)
      (q : s.phase ≡ Phase.Waiting (AwaitedResponse.Record p)) (w : Awaited) where
    abbrev b : List ℕ
    b = (reading.read_answer w (store_bytes s) card).store

    same : stored_afl b ≡ stored_afl (store_bytes s)
    same = ap bytes_or_empty_if_absent (read_afl w (store_bytes s) card (store_size_lem s i) (on_record_lem s i p q).afl)

    same_mode : stored_bytes b 0x82 ≡ stored_bytes (store_bytes s) 0x82
    same_mode = ap bytes_or_empty_if_absent (read_mode w (store_bytes s) card (store_size_lem s i) (store_fits s i)
        (on_record_lem s i p q).mode)

    -- a claim on what is left of the read store's records is one on what is left
    left : (xs : List CommandKind) (x : Option CallMade) → Front xs (rest_on (AwaitedResponse.Record p) b x)
        → Front xs (rest s.phase (store_bytes s) x)
    left xs x h =
        subst (λ (y : Phase). Front xs (rest y (store_bytes s) x)) (sym q)
        (subst (λ (l : List ℕ). Front xs (map reads (drop p.number (afl_records l)) ++ (last_on (store_bytes s) ∷ [])))
        same
        (subst
        (λ (v : List ℕ). Front xs (map reads (drop p.number (afl_records (stored_afl b)))
        ++ (final_command_kind_for_aip (Some v) ∷ []))) same_mode h))

    -- the last command y, where no record is left
    last_goes : (d : List ℕ) (f : AwaitedResponse) (c : List ℕ) (y : CommandKind)
        → ((t : Option CallMade) → rest_on f d t ≡ [])
        → kth_record_of_accepted_afl (stored_afl b) (p.number + 1) ≡ None → last_on b ≡ y → command_kind c ≡ y
        → Goes s call (command_step s.count d f c buf)
    last_goes d f c y n e m k =
        goes_sent s call d f c buf (ap is_ended q) (λ w. refl)
        (λ sent tk h. left (command_kind c ∷ map command_kind sent)
        (first_answer (call_made s call (command_step s.count d f c buf) ∷ tk))
        (front_cons (command_kind c) y (map command_kind sent) (map reads (drop p.number (afl_records (stored_afl b)))
        ++ (last_on b ∷ [])) []
        (ap (λ (x : List CardRecord). map reads x ++ (last_on b ∷ []))
        (no_record (stored_afl b) p.number (ap accepts_afl same ∙ (on_record_lem s i p q).afl) e)
        ∙ ap (λ (x : CommandKind). x ∷ []) m)
        k (subst (Front (map command_kind sent)) (n (first_answer tk)) h)))

    records_goes : kth_record_of_accepted_afl (stored_afl b) (p.number + 1) ≡ None → emv_mode b ≡ true
        → {st : Step} → RecordsWay p.limit (ways.taken w s card) buf st → Goes s call st
    records_goes e m (RecordsWay.failed n r x) = goes_ended s call _ b _ n buf (ap is_ended q)
    records_goes e m RecordsWay.unlisted = goes_ended s call _ _ _ _ buf (ap is_ended q)
    records_goes e m (RecordsWay.asked c f g) =
        last_goes (store_with_findings b (findings_of b))
        (AwaitedResponse.Cryptogram (asked_by p.limit (ways.taken w s card))) c cryptogram (λ t. refl) e
        (last_emv b m)
        (kind_cryptogram c (list.cryptogram_proper (store_bytes (analysed_session (ways.taken w s card))) c
        (generate_ac_p1 (asked_by p.limit (ways.taken w s card)).choice) g))

    mag_stripe_goes : kth_record_of_accepted_afl (stored_afl b) (p.number + 1) ≡ None → emv_mode b ≡ false
        → {st : Step} → MagStripeWay p.limit (ways.taken w s card) buf st → Goes s call st
    mag_stripe_goes e m (MagStripeWay.failed n r) = goes_ended s call _ b _ n buf (ap is_ended q)
    mag_stripe_goes e m (MagStripeWay.asked c f g) =
        last_goes b (awaited_checksum_with_limit p.limit) c checksum (λ t. refl) e (last_mag_stripe b m)
        (kind_checksum c (list.checksum_proper b c g))

    record_goes : {st : Step} → RecordWay p (ways.taken w s card) buf st → Goes s call st
    record_goes (RecordWay.next r e) =
        goes_sent s call b (awaited_record_with_limit p.limit (p.number + 1)) (read_record_command r) buf (ap is_ended q)
        (λ w. refl)
        (λ sent tk h. left (command_kind (read_record_command r) ∷ map command_kind sent)
        (first_answer
        (call_made s call (command_step s.count (store_bytes (ways.taken w s card))
        (awaited_record_with_limit p.limit (p.number + 1)) (read_record_command r) buf) ∷ tk))
        (front_cons (command_kind (read_record_command r)) (reads r) (map command_kind sent)
        (map reads (drop p.number (afl_records (stored_afl b))) ++ (last_on b ∷ []))
        (map reads (drop (p.number + 1) (afl_records (stored_afl b))) ++ (last_on b ∷ []))
        (ap (λ (x : List CardRecord). map reads x ++ (last_on b ∷ [])) (next_record (stored_afl b) p.number r e))
        (kind_record r) h))
    record_goes (RecordWay.last e m v) = records_goes e m v
    record_goes (RecordWay.striped e m v) = mag_stripe_goes e m v

  cryptogram_goes : (m : ℕ) → is_ended s.phase ≡ false → {y : Reply}
      → CryptogramWay m (ways.taken Awaited.Cryptogram s card) y → Goes s call (without_command y buf)
  cryptogram_goes m e (CryptogramWay.failed n r) = goes_ended s call _ _ _ n buf e
  cryptogram_goes m e (CryptogramWay.decides o g) = goes_ended s call _ _ o _ buf e

  checksum_goes : is_ended s.phase ≡ false → {y : Reply} → ChecksumWay (ways.taken Awaited.Checksum s card) y
      → Goes s call (without_command y buf)
  checksum_goes e ChecksumWay.failed = goes_ended s call _ _ _ _ buf e
  checksum_goes e ChecksumWay.declined = goes_ended s call _ _ Outcome.Declined _ buf e
  checksum_goes e ChecksumWay.online = goes_ended s call _ _ Outcome.OnlineRequest _ buf e

  answer_goes : Goes s call (answer_step s card buf)
  answer_goes = go (answer_way s card buf) (answer_off s card buf) (sent_by_rules s card buf)
    where
      runs : (is_running s.phase ≡ false → false ≡ true) → (is_running s.phase ≡ true)
          ⊎ (is_running s.phase ≡ false) → is_ended s.phase ≡ false
      runs o (inl y) = running_is s.phase y
      runs o (inr n) = no (o n)

      go : {st : Step} → AnswerWay s card buf st → (is_running s.phase ≡ false → is_refusal st.reply.answer ≡ true)
          → (s.phase ≡ Phase.Waiting AwaitedResponse.Gpo → is_command st.reply.answer ≡ true
          → eqb (gpo_reason (store_bytes s) card) 0 ≡ true) → Goes s call st
      go (AnswerWay.refused n l) o k = goes_refused s call n buf
      go (AnswerWay.unread m n i r h x) o k = goes_ended s call _ (store_bytes s) _ n buf
          (runs o (bool_cases (is_running s.phase)))
      go (AnswerWay.gpo i q z w) o k = gpo_goes i.ranges q z w (k q)
      go (AnswerWay.recorded p r i q e w) o k = record_goes i.ranges p q
          (Awaited.Record (record { number = r.sfi })) w
      go (AnswerWay.cryptogram a i q w) o k = cryptogram_goes _ (ap is_ended q) w
      go (AnswerWay.checksum c i q w) o k = checksum_goes (ap is_ended q) w

-- ---- link failed and stop

broken_goes : (s : Session) (c : Call) (n : ℕ) (buf : List ℕ) → Goes s c (abort_step s n buf)
unfolding step_if_admitted
broken_goes s c n buf =
    if_ind P _ _ _ (λ e. goes_refused s c _ buf)
    (λ e. if_ind P _ _ _ (λ r. goes_refused s c _ buf) (λ r. go s.phase refl))
  where
    P : Step → Type 0
    P = Goes s c

    go : (p : Phase) → s.phase ≡ p
        → P
        (step_of_effect s buf
        (effect_if_running p (λ (w : AwaitedResponse). end (ending_for_reason n) (held_cvm w) (store_bytes s))))
    go Phase.Fresh q = goes_refused s c _ buf
    go (Phase.Waiting w) q = goes_ended s c _ (store_bytes s) _ n buf (ap is_ended q)
    go (Phase.Ended x) q = goes_refused s c _ buf

-- ---- every call, and every list of calls

call_goes : (s : Session) (c : Call) → Goes s c (call_step s c)
call_goes s (start bytes buf) = start_goes s bytes buf
call_goes s (answer card buf) = answer_goes s card buf
call_goes s (link_failed buf) = broken_goes s (link_failed buf) reason_link buf
call_goes s (stop buf) = broken_goes s (stop buf) reason_stopped buf

pub call_keeps : (s : Session) (c : Call) → session_record_in_ranges s ≡ true
    → session_record_in_ranges (call_step s c).reply.session ≡ true
call_keeps s (start bytes buf) i = start_keeps s bytes buf i
call_keeps s (answer card buf) i = answer_keeps s card buf i
call_keeps s (link_failed buf) i = link_keeps s buf i
call_keeps s (stop buf) i = stop_keeps s buf i

runs_on : (s : Session) (cs : List Call) → session_record_in_ranges s ≡ true
    → Run s (commands_sent (play_calls s cs)) (calls_accepted (play_calls s cs)) (final_session s cs)
unfolding play_calls final_session commands_sent calls_accepted
runs_on s [] i = no_calls s i
runs_on s (c ∷ cs) i = call_goes s c _ _ _ (runs_on (call_step s c).reply.session cs (call_keeps s c i))

-- ---- the claim, from a fresh session

none_yet : (o : Option CallMade) → by fresh told o ≡ stage_after_last_accepted_call o
none_yet None = refl
none_yet (Some m) = refl

most_one : (x : Bool) → one_if x ≤ 1
most_one true = omega arith
most_one false = omega arith

pub always : (s : Session) (cs : List Call) → s.phase ≡ Phase.Fresh → session_record_in_ranges s ≡ true
    → CallsAndSessionAfterInPublishedOrder (play_calls s cs) (final_session s cs)
unfolding unanswered_commands
always s cs q i =
    record {
      order = front_take (map command_kind (commands_sent ms)) (order_of (first_answer (calls_accepted ms))) front ∙ ap
          (λ (n : ℕ). take n (order_of (first_answer (calls_accepted ms)))) number;
      count = omega (arith, r.count, (on_fresh_lem s i q).count);
      bound = omega (
        arith,
        front_length (map command_kind (commands_sent ms)) (order_of (first_answer (calls_accepted ms)))
            front,
        number,
        published_length (final_command_kind_by_gpo_answer (first_answer (calls_accepted ms)))
            (afl_accepted_from_gpo_answer (first_answer (calls_accepted ms))),
      );
      never_over = few;
      stage = r.stage ∙ ap (λ (p : Phase). by (session_stage_of p) told (last_element (calls_accepted ms))) q ∙ none_yet
          (last_element (calls_accepted ms));
      one_unanswered = λ w. (out w).0;
      last_unanswered = λ w. (out w).1;
      calls = all;
      never_over_131 = omega (arith, all, few, most_one (is_ended (final_session s cs).phase));
    }
  where
    ms : List CallMade
    ms = play_calls s cs

    r : Run s (commands_sent (play_calls s cs)) (calls_accepted (play_calls s cs)) (final_session s cs)
    r = runs_on s cs i

    front : Front (map command_kind (commands_sent ms)) (order_of (first_answer (calls_accepted ms)))
    front =
        subst (λ (p : Phase). Front (map command_kind (commands_sent ms))
        (rest p (store_bytes s) (first_answer (calls_accepted ms)))) q r.order

    number : length (map command_kind (commands_sent ms)) ≡ length (commands_sent ms)
    number = length-map (commands_sent ms) command_kind

    few : length (commands_sent ms) ≤ 130
    few = omega (arith, count_most (final_session s cs) r.ranges, r.count)

    out : is_running (final_session s cs).phase ≡ true
        → OneOut (commands_sent ms) (commands_with_no_later_answer (calls_accepted ms))
    out w = subst (λ (p : Phase). Waits (is_running p) (commands_sent ms) (calls_accepted ms)) q (r.waiting w)

    all : length (calls_accepted ms) ≡ length (commands_sent ms) + one_if (is_ended (final_session s cs).phase)
    all = omega (arith, r.calls, ap (λ (p : Phase). one_if (is_ended p)) q)
