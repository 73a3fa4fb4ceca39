-- What calls keep of a choice: P1 of the GENERATE AC that was handed out, the store that it left, and that since then
-- what the choice goes by has not changed. So what explain reports of the final store it says of that one, and each
-- clause on the choice follows.
-- Assumes nothing.
use Rattle.std.specs.Prelude.{Some, None, Option}
use mathlib.Core.Path.{◌≡◌, refl, sym, ap, ap₂, subst, ◌∙◌}
use mathlib.Core.Bool.{Bool, true, false, not}
use mathlib.Core.Logic.{inl, inr}
use mathlib.Core.List.{List, [], ◌∷◌, ◌++◌, map, append-nil, append_assoc, map-append}
use Prim.Native.Nat.{ℕ, ◌≤◌, ◌<◌}
use native.Mathlib.Omega.{arith}
use lib.ListN.{length, get_or, take, drop}
use lib.Seq.{take_at}
use lib.Dec.{eqb}
use borrow.Author.Tests.{eq-eqb, ne_eqb, eqb-true, eqb-false, ltb-false, not-true}
use Rattle.basics.specs.Choice.{if, both, either}
use Rattle.basics.specs.Reason.{reason_none}
use Rattle.basics.proofs.Laws.{bool_cases, if_ind, if_yes, if_no}
use Rattle.basics.proofs.Laws.{both_yes, both_left, both_right, both_no_left, both_no_right}
use Rattle.store.specs.Place.{StoredValue, bytes_or_empty_if_absent, object_value}
use Rattle.afl.specs.declared.CardRecord.{CardRecord}
use Rattle.command.specs.ReadRecord.{read_record_command}
use Rattle.command.specs.WithList.{proprietary_command, command_if_data_is1_to255_bytes, generate_ac}
use Rattle.command.proofs.Commands as list
use Rattle.analysis.specs.Value.{first_bytes_zero_padded}
use Rattle.analysis.specs.Choice.{tvr_bit_is_in_either_action_code, lowest_tvr_bit_in_codes, denial_stage, online_stage}
use Rattle.analysis.specs.Choice.{default_stage, no_action_codes, some_tvr_bit_in_codes_of_stage, online_capability_of_type}
use Rattle.analysis.specs.Choice.{generate_ac_p1}
use Rattle.analysis.specs.Action.{terminal_type, action_codes_of}
use Rattle.analysis.specs.declared.choice.Choice.{Choice}
use Rattle.analysis.specs.declared.choice.ActionCodes.{ActionCodes}
use Rattle.laws.specs.Rank.{choice_rank}
use Rattle.session_record.specs.declared.CallResult.{CallResult}
use Rattle.session_record.specs.declared.RequestedCryptogram.{RequestedCryptogram}
use Rattle.session_record.specs.declared.Ending.{Ending}
use Rattle.session_record.specs.declared.AwaitedResponse.{AwaitedResponse}
use Rattle.session_record.specs.declared.Phase.{Phase}
use Rattle.session_record.specs.declared.Session.{Session}
use Rattle.session_record.specs.Session.{store_bytes}
use Rattle.session_record.specs.Ranges.{mag_stripe_mode, session_record_in_ranges}
use Rattle.session.specs.Steps.{Step}
use Rattle.session_claim.specs.Calls.{commands_sent, calls_accepted, last_element}
use Rattle.session.specs.Calls.{CallMade, is_refusal, command_sent}
use Rattle.session_claim.specs.Order.{begins_with_two_bytes}
use Rattle.explain.specs.declared.ForcedChoiceCause.{ForcedChoiceCause}
use Rattle.explain.specs.declared.Explanation.{Explanation}
use Rattle.explain.specs.declared.Stage.{Stage}
use Rattle.explain.specs.Explain.{stored_tvr, recomputed_choice, deciding_stage_by_denial_bit, deciding_stage_in}
use Rattle.explain.specs.Explain.{deciding_stage_if_its_data_present, action_code_holder_of_bit, action_codes_of_stage}
use Rattle.explain.specs.Explain.{explanation_by_bit}
use Rattle.explain.specs.Explain.{explanation_at_stage, explanation_awaiting_cryptogram, rank_of_cryptogram_type}
use Rattle.explain.specs.Explain.{stored_cryptogram_type, requested_cryptogram_type, explanation_of_decision}
use Rattle.explain.specs.Explain.{explanation_of_ending}
use Rattle.explain.specs.Explain.{aip_indicates_mag_stripe, explanation_in_phase, explanation_of}
use Rattle.explain.specs.Promise.{choice_forced_by, choice_unforced_at, ForcedChoiceExplained, UnforcedChoiceExplained}
use Rattle.explain.specs.Promise.{ExplanationHolds}
use Rattle.explain.proofs.Laws.{deciding_stage_lem, ended_reason, by_reason, by_mag_stripe, by_choice, same_p1, told}
use Rattle.explain_claim.specs.Explained.{awaits_cryptogram, is_ended_with_reason_none, choice_made_and_not_ended_for_reason}
use Rattle.explain_claim.specs.Explained.{last_call_is_final_ac_answer_bringing_iac, generate_ac_commands, generate_ac_p1s}
use Rattle.explain_claim.specs.Explained.{stores_when_generate_ac_sent, HoldsAtOnlyGenerateAc}
use Rattle.explain_claim.specs.Explained.{tvr_bit_set_and_in_stage_codes, StageDecides, LowestTvrBitInStageCodes}
use Rattle.explain_claim.specs.Explained.{NoTvrBitInStageCodes, CauseNamesHolderOfBit}
use Rattle.explain_claim.specs.Explained.{explained_choice, explained_stage, ChoiceRankIsCryptogramRank}
use Rattle.explain_claim.proofs.Kept.{SameTerminal, SameCard, same_choice}

-- a test does not both fail and pass
pub apart : {P : Type 0} → ◌≡◌ {A = Bool} false true → P
apart e = let z : ◌≡◌ {A = ℕ} 0 1 = cc in absurd (omega arith)

-- ---- one rank

pub one_rank : ChoiceRankIsCryptogramRank
unfolding rank_of_cryptogram_type if
one_rank Choice.Decline = refl
one_rank Choice.Online = refl
one_rank Choice.Offline = refl

-- ---- GENERATE AC among commands

generate_append : (xs ys : List (List ℕ)) → generate_ac_commands (xs ++ ys) ≡ generate_ac_commands xs ++ generate_ac_commands
    ys
unfolding generate_ac_commands
generate_append [] ys = refl
generate_append (c ∷ xs) ys =
    elim (bool_cases (begins_with_two_bytes 0x80 0xAE c)) [
      | inl t ↦
          if_yes _ _ t ∙ ap (λ (l : List (List ℕ)). c ∷ l) (generate_append xs ys)
          ∙ sym (ap (λ (l : List (List ℕ)). l ++ generate_ac_commands ys) (if_yes _ _ t))
      | inr t ↦
          if_no _ _ t ∙ generate_append xs ys ∙ sym (ap (λ (l : List (List ℕ)). l ++ generate_ac_commands ys)
          (if_no _ _ t))
    ]

p1s_append : (xs ys : List (List ℕ)) → generate_ac_p1s (xs ++ ys) ≡ generate_ac_p1s xs ++ generate_ac_p1s ys
p1s_append xs ys = ap (map third) (generate_append xs ys) ∙ map-append third (generate_ac_commands xs)
    (generate_ac_commands ys)
  where
    third : List ℕ → ℕ
    third c = get_or c 2 0

-- what is at the front of a buffer, where a command x was put there
put_in : (x buf : List ℕ) → take (length x) (x ++ drop (length x) buf) ≡ x
put_in x buf = take_at x (drop (length x) buf) (length x) refl

module _ (x buf : List ℕ) where
  pub not_asked : begins_with_two_bytes 0x80 0xAE x ≡ false
      → generate_ac_commands (take (length x) (x ++ drop (length x) buf) ∷ []) ≡ []
  unfolding generate_ac_commands
  not_asked t = ap (λ (c : List ℕ). generate_ac_commands (c ∷ [])) (put_in x buf) ∙ if_no _ _ t

  pub is_asked : begins_with_two_bytes 0x80 0xAE x ≡ true
      → generate_ac_commands (take (length x) (x ++ drop (length x) buf) ∷ []) ≡ x ∷ []
  unfolding generate_ac_commands
  is_asked t = ap (λ (c : List ℕ). generate_ac_commands (c ∷ [])) (put_in x buf) ∙ if_yes _ _ t

-- the second byte of a command
second : (c : List ℕ) (a b : ℕ) → take 2 c ≡ a ∷ b ∷ [] → get_or c 1 0 ≡ b
second [] a b e = ap (λ (l : List ℕ). get_or l 1 0) e
second (x ∷ []) a b e = ap (λ (l : List ℕ). get_or l 1 0) e
second (x ∷ y ∷ c) a b e = ap (λ (l : List ℕ). get_or l 1 0) e

-- of another instruction
pub other_instruction : (ins : ℕ) (c : List ℕ) → (ins ≡ 0xAE → ⊥) → list.Proper ins c → begins_with_two_bytes 0x80 0xAE c
    ≡ false
other_instruction ins c n p =
    both_no_right _ _ (ne_eqb (get_or c 1 0) 0xAE (λ z. n (sym (second c 0x80 ins p.starts) ∙ z)))

pub record_command_kind : (r : CardRecord) → begins_with_two_bytes 0x80 0xAE (read_record_command r) ≡ false
record_command_kind r = both_no_left _ _ (ne_eqb 0 0x80 (λ z. omega arith))

-- GENERATE AC, with its P1
abbrev pub Asks : ℕ → List ℕ → Type 0
Asks p1 c = (begins_with_two_bytes 0x80 0xAE c ≡ true) × (get_or c 2 0 ≡ p1)

sent_is : (p1 : ℕ) (x : Option (List ℕ)) (c : List ℕ) → command_if_data_is1_to255_bytes (proprietary_command 0xAE p1 0) x
    ≡ Some c → Asks p1 c
unfolding command_if_data_is1_to255_bytes
sent_is p1 None c = λ e. let z : ◌≡◌ {A = ℕ} 0 1 = cc in absurd (omega arith)
sent_is p1 (Some v) c =
    if_ind P _ _ _
    (λ t e. let z : proprietary_command 0xAE p1 0 v ≡ c = cc in (
      ap (begins_with_two_bytes 0x80 0xAE) (sym z) ∙ both_yes _ _ (eq-eqb 0x80 0x80 refl) (eq-eqb 0xAE 0xAE refl),
      ap (λ (l : List ℕ). get_or l 2 0) (sym z),
    ))
    (λ t e. let z : ◌≡◌ {A = ℕ} 0 1 = cc in absurd (omega arith))
  where
    P : Option (List ℕ) → Type 0
    P y = y ≡ Some c → Asks p1 c

pub generate_sent : (p1 : ℕ) (store c : List ℕ) → generate_ac p1 store ≡ Some c → Asks p1 c
unfolding generate_ac
generate_sent p1 store c e = sent_is p1 _ c e

-- ---- what is kept of a choice

-- ps are the P1s handed out, qs the stores of the choices, b is the store now: there was one choice, it is the one that
-- b gives, and what it goes by is as it was
pub record KeptChoice (ps : List ℕ) (qs : List (List ℕ)) (b : List ℕ) : Type 0 where
  pub p1 : ps ≡ generate_ac_p1 (recomputed_choice b) ∷ []
  pub store : List ℕ
  pub only : qs ≡ store ∷ []
  pub terminal : SameTerminal store b
  pub card : SameCard store b
  pub results : object_value b 0x95 ≡ object_value store 0x95

-- it is made now
pub chosen_now : {ps : List ℕ} {qs : List (List ℕ)} (b : List ℕ) → ps ≡ generate_ac_p1 (recomputed_choice b) ∷ []
    → qs ≡ b ∷ []
    → KeptChoice ps qs b
chosen_now b p o =
    record {
      p1 = p;
      store = b;
      only = o;
      terminal = record { type = refl; denial_code_lem = refl; default_code_lem = refl; online_code_lem = refl };
      card = record { denial_code_lem = refl; default_code_lem = refl; online_code_lem = refl };
      results = refl;
    }

-- it is kept on, where what it goes by stays
pub kept_on : {ps : List ℕ} {qs : List (List ℕ)} {b d : List ℕ} → KeptChoice ps qs b → SameTerminal b d → SameCard b d
    → object_value d 0x95 ≡ object_value b 0x95 → KeptChoice ps qs d
kept_on {ps} {qs} {b} {d} k t c r =
    record {
      p1 = k.p1 ∙ ap (λ (x : Choice). generate_ac_p1 x ∷ []) (sym (same_choice b d t c r));
      store = k.store;
      only = k.only;
      terminal = record {
        type = t.type ∙ k.terminal.type;
        denial_code_lem = t.denial_code_lem ∙ k.terminal.denial_code_lem;
        default_code_lem = t.default_code_lem ∙ k.terminal.default_code_lem;
        online_code_lem = t.online_code_lem ∙ k.terminal.online_code_lem;
      };
      card = record {
        denial_code_lem = c.denial_code_lem ∙ k.card.denial_code_lem;
        default_code_lem = c.default_code_lem ∙ k.card.default_code_lem;
        online_code_lem = c.online_code_lem ∙ k.card.online_code_lem;
      };
      results = r ∙ k.results;
    }

-- before the last command
abbrev pub is_early : Phase → Bool
is_early Phase.Fresh = true
is_early (Phase.Waiting AwaitedResponse.Gpo) = true
is_early (Phase.Waiting (AwaitedResponse.Record p)) = true
is_early (Phase.Waiting (AwaitedResponse.Cryptogram a)) = false
is_early (Phase.Waiting (AwaitedResponse.Checksum c)) = false
is_early (Phase.Ended e) = false

-- what holds of a session after calls that handed out ps, with the stores qs; code is whether the last of them brought
-- a code
pub record Traced (ps : List ℕ) (qs : List (List ℕ)) (code : Bool) (s : Session) : Type 0 where
  pub early : is_early s.phase ≡ true → (ps ≡ []) × (qs ≡ [])
  pub waiting : awaits_cryptogram s.phase ≡ true → KeptChoice ps qs (store_bytes s)
  pub decided : code ≡ false → is_ended_with_reason_none s.phase ≡ true → aip_indicates_mag_stripe (store_bytes s) ≡ false
      → KeptChoice ps qs (store_bytes s)
  pub mode : is_ended_with_reason_none s.phase ≡ true → aip_indicates_mag_stripe (store_bytes s)
      ≡ mag_stripe_mode (store_bytes s)

-- a fresh session
pub fresh_traced : (s : Session) → s.phase ≡ Phase.Fresh → Traced [] [] false s
fresh_traced s q =
    record {
      early = λ e. (refl, refl);
      waiting = λ e. apart (sym (ap awaits_cryptogram q) ∙ e);
      decided = λ n e. apart (sym (ap is_ended_with_reason_none q) ∙ e);
      mode = λ e. apart (sym (ap is_ended_with_reason_none q) ∙ e);
    }

-- what a step adds
abbrev pub sent_by : Step → List (List ℕ)
sent_by st = command_sent st.reply.answer st.buffer

abbrev pub stores_by : Step → List (List ℕ)
stores_by st = map (λ (c : List ℕ). store_bytes st.reply.session) (generate_ac_commands (sent_by st))

-- a step takes what was traced to the session that it leaves
abbrev pub Traces : Session → Step → Bool → Type 0
Traces s st code =
    (ps : List ℕ) (qs : List (List ℕ)) (d : Bool) → Traced ps qs d s
    → Traced (ps ++ generate_ac_p1s (sent_by st)) (qs ++ stores_by st) code st.reply.session

-- a refusal hands nothing out, and leaves the session
nothing_sent : (a : CallResult) (buf : List ℕ) → is_refusal a ≡ true → command_sent a buf ≡ []
nothing_sent (CallResult.Command x) buf e = apart e
nothing_sent (CallResult.Outcome x) buf e = apart e
nothing_sent (CallResult.Refused x) buf e = refl

module _ (ps : List ℕ) (qs : List (List ℕ)) where
  -- nothing was added
  pub none_traced : {code : Bool} {s : Session} → Traced ps qs code s → Traced (ps ++ generate_ac_p1s []) (qs ++ []) code
      s
  unfolding generate_ac_commands
  none_traced {code} {s} t =
      subst (λ (l : List ℕ). Traced l (qs ++ []) code s) (sym (append-nil ps))
      (subst (λ (l : List (List ℕ)). Traced ps l code s) (sym (append-nil qs)) t)

  pub none_added : {code : Bool} {s : Session} → Traced ps qs code s
      → Traced (ps ++ generate_ac_p1s []) (qs ++ map (λ (c : List ℕ). store_bytes s) (generate_ac_commands [])) code s
  unfolding generate_ac_commands
  none_added {code} {s} t = none_traced t

  pub refused_traced : {d : Bool} (s : Session) (st : Step) → is_refusal st.reply.answer ≡ true
      → st.reply.session ≡ s → Traced ps qs d s
      → Traced (ps ++ generate_ac_p1s (sent_by st)) (qs ++ stores_by st) d st.reply.session
  refused_traced {d} s st r e t =
      subst P (sym (nothing_sent st.reply.answer st.buffer r)) (none_added (subst (Traced ps qs d) (sym e) t))
    where
      P : List (List ℕ) → Type 0
      P cs =
          Traced (ps ++ generate_ac_p1s cs) (qs ++ map (λ (c : List ℕ). store_bytes st.reply.session)
          (generate_ac_commands cs)) d
          st.reply.session

  -- the commands of one call, and of those after it
  pub joined : (xs ys : List (List ℕ)) (us vs : List (List ℕ)) {code : Bool} {s : Session}
      → Traced ((ps ++ generate_ac_p1s xs) ++ generate_ac_p1s ys) ((qs ++ us) ++ vs) code s
      → Traced (ps ++ generate_ac_p1s (xs ++ ys)) (qs ++ (us ++ vs)) code s
  joined xs ys us vs {code} {s} t =
      subst (λ (l : List ℕ). Traced l (qs ++ (us ++ vs)) code s)
      (append_assoc ps (generate_ac_p1s xs) (generate_ac_p1s ys) ∙ ap (λ (l : List ℕ). ps ++ l) (sym (p1s_append xs ys)))
      (subst (λ (l : List (List ℕ)). Traced ((ps ++ generate_ac_p1s xs) ++ generate_ac_p1s ys) l code s)
      (append_assoc qs us vs) t)

-- ---- what explain reports of the store, it says of the one at the time of the choice

module _ {ps : List ℕ} {qs : List (List ℕ)} (b : List ℕ) (k : KeptChoice ps qs b) where
  tvr_same : stored_tvr b ≡ stored_tvr k.store
  tvr_same = ap (λ (v : StoredValue). first_bytes_zero_padded 5 (bytes_or_empty_if_absent v)) k.results

  codes_same : action_codes_of b ≡ action_codes_of k.store
  unfolding action_codes_of
  codes_same =
      let c = k.card in
      let t = k.terminal in
      rw (c.denial_code_lem, t.denial_code_lem, c.online_code_lem, t.online_code_lem, c.default_code_lem, t.default_code_lem)

  type_same : terminal_type b ≡ terminal_type k.store
  type_same = ap (λ (v : StoredValue). get_or (bytes_or_empty_if_absent v) 0 0) k.terminal.type

  pair_same : (stage : Stage) → action_codes_of_stage b stage ≡ action_codes_of_stage k.store stage
  unfolding action_codes_of_stage
  pair_same Stage.Denial = ap (λ (l : List ActionCodes). get_or l denial_stage no_action_codes) codes_same
  pair_same Stage.OnlineOnly = refl
  pair_same Stage.Default = ap (λ (l : List ActionCodes). get_or l default_stage no_action_codes) codes_same
  pair_same Stage.Online = ap (λ (l : List ActionCodes). get_or l online_stage no_action_codes) codes_same

  bit_same : (stage : Stage) (i : ℕ) → tvr_bit_is_in_either_action_code (stored_tvr b) (action_codes_of_stage b stage) i
      ≡ tvr_bit_set_and_in_stage_codes k.store stage i
  bit_same stage i = ap₂ (λ (r : List ℕ) (p : ActionCodes). tvr_bit_is_in_either_action_code r p i) tvr_same (pair_same stage)

  -- the stage that decided
  then_decided : (stage : Stage) → deciding_stage_if_its_data_present b ≡ Some stage
      → StageDecides stage k.store
  unfolding deciding_stage_in
  then_decided stage e =
      sym (ap₂ deciding_stage_by_denial_bit (ap online_capability_of_type type_same)
      (ap₂ (λ (r : List ℕ) (l : List ActionCodes). some_tvr_bit_in_codes_of_stage r l denial_stage) tvr_same codes_same))
      ∙ deciding_stage_lem b stage e

  then_lowest : (c : ForcedChoiceCause) → ForcedChoiceExplained b c
      → LowestTvrBitInStageCodes c.stage c.bit k.store
  unfolding tvr_bit_is_in_either_action_code
  then_lowest c n =
      record {
        within = n.within;
        held = sym (bit_same c.stage c.bit) ∙ both_yes _ _ n.set n.held;
        lowest = λ j h. sym (bit_same c.stage j) ∙ n.lowest j h;
      }

  then_none : (stage : Stage) → UnforcedChoiceExplained b stage → NoTvrBitInStageCodes stage k.store
  then_none stage n i h = sym (bit_same stage i) ∙ n.none i h

  then_held : (c : ForcedChoiceCause) → ForcedChoiceExplained b c → CauseNamesHolderOfBit c k.store
  then_held c n = n.holder ∙ ap (λ (p : ActionCodes). action_code_holder_of_bit p c.bit) (pair_same c.stage)

-- ---- every explanation, as explain comes to it

-- no number is another, so no constructor is
none-some : {A P : Type 0} {x : A} → None ≡ Some x → P
none-some e = let z : ◌≡◌ {A = ℕ} 0 1 = cc in absurd (omega arith)

some-none : {A P : Type 0} {x : A} → Some x ≡ None → P
some-none e = let z : ◌≡◌ {A = ℕ} 0 1 = cc in absurd (omega arith)

module _ (b : List ℕ) where
  -- what is not refused explains a choice
  abbrev Explains : Explanation → Type 0
  Explains r = (r ≡ Explanation.Refused → ⊥) → explained_choice b r ≡ None → ⊥

  stage_explains : (stage : Stage) → Explains (explanation_at_stage b stage)
  unfolding explanation_at_stage
  stage_explains stage = go (lowest_tvr_bit_in_codes (stored_tvr b) (action_codes_of_stage b stage))
    where
      go : (l : Option ℕ) → Explains (explanation_by_bit stage (action_codes_of_stage b stage) l)
      go (Some i) n e = some-none e
      go None n e = some-none e

  waiting_explains : (a : RequestedCryptogram) (d : Option Stage) → Explains (explanation_awaiting_cryptogram a b d)
  waiting_explains a None = λ n e. n refl
  waiting_explains a (Some stage) = if_ind Explains _ _ _ (λ t. stage_explains stage) (λ t n e. n refl)

  decided_explains : (x : Ending) (d : Option Stage) → Explains (explanation_of_decision x b d)
  decided_explains x None = λ n e. n refl
  decided_explains x (Some stage) =
      if_ind Explains _ _ _ (λ t n e. n refl)
      (λ t. if_ind Explains _ _ _ (λ u n e. n refl)
      (λ u. if_ind Explains _ _ _ (λ v n e. some-none e) (λ v. stage_explains stage)))

  -- a stage is named only where the cryptogram is no lower
  abbrev NotLower : Explanation → Type 0
  NotLower r =
      (stage : Stage) → explained_stage r ≡ Some stage
      → rank_of_cryptogram_type (requested_cryptogram_type (recomputed_choice b)) ≤ rank_of_cryptogram_type
      (stored_cryptogram_type b)

  decided_rank : (x : Ending) (d : Option Stage) → NotLower (explanation_of_decision x b d)
  decided_rank x None = λ g e. none-some e
  decided_rank x (Some stage) =
      if_ind NotLower _ _ _ (λ t g e. none-some e)
      (λ t. if_ind NotLower _ _ _ (λ u g e. none-some e)
      (λ u. if_ind NotLower _ _ _ (λ v g e. none-some e) (λ v g e. ltb-false _ _ v)))

-- ---- the clauses

-- an explanation of a choice
abbrev of_choice : Explanation → Bool
of_choice Explanation.Refused = false
of_choice (Explanation.Reason n) = false
of_choice Explanation.NoChoice = false
of_choice Explanation.LowerCryptogram = true
of_choice (Explanation.Forced c) = true
of_choice (Explanation.Unforced stage) = true

-- a list of calls ended with an answer that brought a code
abbrev pub ends_with_code : List CallMade → Bool
ends_with_code ms = last_call_is_final_ac_answer_bringing_iac (last_element (calls_accepted ms))

-- what is traced of a list of calls, and what is kept of its choice
abbrev pub TracedBy : List CallMade → Session → Type 0
TracedBy ms s = Traced (generate_ac_p1s (commands_sent ms)) (stores_when_generate_ac_sent ms) (ends_with_code ms) s

abbrev KeptBy : List CallMade → Session → Type 0
KeptBy ms s = KeptChoice (generate_ac_p1s (commands_sent ms)) (stores_when_generate_ac_sent ms) (store_bytes s)

module _ (ms : List CallMade) (s : Session) (i : session_record_in_ranges s ≡ true) (t : TracedBy ms s)
    (n : ends_with_code ms ≡ false) where
  -- so a choice is kept
  kept : of_choice (explanation_of s) ≡ true → KeptBy ms s
  unfolding explanation_of
  kept e = go s.phase refl (sym (ap of_choice (if_yes _ _ i)) ∙ e)
    where
      go : (p : Phase) → s.phase ≡ p → of_choice (explanation_in_phase p (store_bytes s)) ≡ true → KeptBy ms s
      go Phase.Fresh q e = apart e
      go (Phase.Waiting AwaitedResponse.Gpo) q e = apart e
      go (Phase.Waiting (AwaitedResponse.Record p)) q e = apart e
      go (Phase.Waiting (AwaitedResponse.Cryptogram a)) q e = t.waiting (ap awaits_cryptogram q)
      go (Phase.Waiting (AwaitedResponse.Checksum k)) q e = apart e
      go (Phase.Ended x) q e =
          elim (bool_cases (eqb x.reason reason_none)) [
            | inl z ↦
                elim (bool_cases (aip_indicates_mag_stripe (store_bytes s))) [
                  | inl m ↦ apart (sym (ap of_choice (by_mag_stripe x (store_bytes s) (eqb-true _ _ z) m)) ∙ e)
                  | inr m ↦ t.decided n (ap is_ended_with_reason_none q ∙ z) m
                ]
            | inr z ↦
                let w = eqb-false _ _ z in
                apart (sym (ap of_choice (by_reason x (store_bytes s) w ∙ ended_reason x (store_bytes s) w)) ∙ e)
          ]

  says : ExplanationHolds s (explanation_of s)
  says = told s refl

  -- by the phase
  phase_says : (p : Phase) → s.phase ≡ p → explanation_of s ≡ explanation_in_phase p (store_bytes s)
  unfolding explanation_of
  phase_says p q = if_yes _ _ i ∙ ap (λ (x : Phase). explanation_in_phase x (store_bytes s)) q

  decided_says : (x : Ending) → s.phase ≡ Phase.Ended x → eqb x.reason reason_none ≡ true
      → aip_indicates_mag_stripe (store_bytes s) ≡ false → explanation_of s ≡ explanation_of_decision x (store_bytes s)
      (deciding_stage_if_its_data_present (store_bytes s))
  unfolding explanation_of_ending
  decided_says x q z m = phase_says (Phase.Ended x) q ∙ by_choice x (store_bytes s) m ∙ if_yes _ _ z

  pub explains_clause : (explanation_of s ≡ Explanation.Refused → ⊥) → choice_made_and_not_ended_for_reason s ≡ true
      → explained_choice (store_bytes s) (explanation_of s) ≡ None → ⊥
  unfolding either both
  explains_clause r h e = go s.phase refl h
    where
      by_explained : {x : Explanation} → explanation_of s ≡ x → Explains (store_bytes s) x → ⊥
      by_explained z f = f (λ y. r (z ∙ y)) (sym (ap (explained_choice (store_bytes s)) z) ∙ e)

      go : (p : Phase) → s.phase ≡ p
          → either (awaits_cryptogram p) (both (is_ended_with_reason_none p) (not (mag_stripe_mode (store_bytes s)))) ≡ true → ⊥
      go Phase.Fresh q w = apart w
      go (Phase.Waiting AwaitedResponse.Gpo) q w = apart w
      go (Phase.Waiting (AwaitedResponse.Record p)) q w = apart w
      go (Phase.Waiting (AwaitedResponse.Cryptogram a)) q w =
          by_explained (phase_says (Phase.Waiting (AwaitedResponse.Cryptogram a)) q)
          (waiting_explains (store_bytes s) a (deciding_stage_if_its_data_present (store_bytes s)))
      go (Phase.Waiting (AwaitedResponse.Checksum k)) q w = apart w
      go (Phase.Ended x) q w =
          let z = both_left (eqb x.reason reason_none) _ w in
          let m = t.mode (ap is_ended_with_reason_none q ∙ z) ∙ not-true _ (both_right (eqb x.reason reason_none) _ w) in
          by_explained (decided_says x q z m)
          (decided_explains (store_bytes s) x (deciding_stage_if_its_data_present (store_bytes s)))

  pub p1_clause : (choice : Choice) → explained_choice (store_bytes s) (explanation_of s) ≡ Some choice
      → generate_ac_p1s (commands_sent ms) ≡ generate_ac_p1 choice ∷ []
  p1_clause choice = go (explanation_of s) refl
    where
      P1 : Type 0
      P1 = generate_ac_p1s (commands_sent ms) ≡ generate_ac_p1 choice ∷ []

      is : recomputed_choice (store_bytes s) ≡ choice → of_choice (explanation_of s) ≡ true → P1
      is z e = (kept e).p1 ∙ ap (λ (c : Choice). generate_ac_p1 c ∷ []) z

      go : (r : Explanation) → explanation_of s ≡ r → explained_choice (store_bytes s) r ≡ Some choice → P1
      go Explanation.Refused q e = let z : ◌≡◌ {A = ℕ} 0 1 = cc in absurd (omega arith)
      go (Explanation.Reason m) q e = let z : ◌≡◌ {A = ℕ} 0 1 = cc in absurd (omega arith)
      go Explanation.NoChoice q e = let z : ◌≡◌ {A = ℕ} 0 1 = cc in absurd (omega arith)
      go Explanation.LowerCryptogram q e = let z : recomputed_choice (store_bytes s) ≡ choice = cc in is z (ap of_choice q)
      go (Explanation.Forced c) q e =
          let z : choice_forced_by c.stage ≡ choice = cc in is ((says.named c q).choice ∙ z) (ap of_choice q)
      go (Explanation.Unforced g) q e =
          let z : choice_unforced_at g ≡ choice = cc in is ((says.unnamed g q).choice ∙ z) (ap of_choice q)

  -- a fact of the store at the time of the choice
  at : {P : List ℕ → Type 0} (k : KeptBy ms s) → P k.store → HoldsAtOnlyGenerateAc ms P
  at k p = record { store = k.store; only = k.only; fact = p }

  pub stage_clause : (stage : Stage) → explained_stage (explanation_of s) ≡ Some stage
      → HoldsAtOnlyGenerateAc ms (StageDecides stage)
  stage_clause stage = go (explanation_of s) refl
    where
      is : (g : Stage) → g ≡ stage → deciding_stage_if_its_data_present (store_bytes s) ≡ Some g
          → of_choice (explanation_of s) ≡ true
          → HoldsAtOnlyGenerateAc ms (StageDecides stage)
      is g z d e =
          let k = kept e in
          at k (subst (λ (x : Stage). StageDecides x k.store) z (then_decided (store_bytes s) k g d))

      go : (r : Explanation) → explanation_of s ≡ r → explained_stage r ≡ Some stage
          → HoldsAtOnlyGenerateAc ms (StageDecides stage)
      go Explanation.Refused q e = let z : ◌≡◌ {A = ℕ} 0 1 = cc in absurd (omega arith)
      go (Explanation.Reason m) q e = let z : ◌≡◌ {A = ℕ} 0 1 = cc in absurd (omega arith)
      go Explanation.NoChoice q e = let z : ◌≡◌ {A = ℕ} 0 1 = cc in absurd (omega arith)
      go Explanation.LowerCryptogram q e = let z : ◌≡◌ {A = ℕ} 0 1 = cc in absurd (omega arith)
      go (Explanation.Forced c) q e =
          let z : c.stage ≡ stage = cc in is c.stage z (says.named c q).decides (ap of_choice q)
      go (Explanation.Unforced g) q e = let z : g ≡ stage = cc in is g z (says.unnamed g q).decides (ap of_choice q)

  pub bit_clause : (c : ForcedChoiceCause) → explanation_of s ≡ Explanation.Forced c
      → HoldsAtOnlyGenerateAc ms (LowestTvrBitInStageCodes c.stage c.bit)
  bit_clause c q = let k = kept (ap of_choice q) in at k (then_lowest (store_bytes s) k c (says.named c q))

  pub no_bit_clause : (stage : Stage) → explanation_of s ≡ Explanation.Unforced stage
      → HoldsAtOnlyGenerateAc ms (NoTvrBitInStageCodes stage)
  no_bit_clause stage q = let k = kept (ap of_choice q) in
      at k (then_none (store_bytes s) k stage (says.unnamed stage q))

  pub holder_clause : (c : ForcedChoiceCause) → explanation_of s ≡ Explanation.Forced c
      → HoldsAtOnlyGenerateAc ms (CauseNamesHolderOfBit c)
  holder_clause c q = let k = kept (ap of_choice q) in at k (then_held (store_bytes s) k c (says.named c q))

  -- the choice whose P1 was handed out is the one that the store gives, and so is its rank
  rank_same : (choice : Choice) → generate_ac_p1s (commands_sent ms) ≡ generate_ac_p1 choice ∷ []
      → of_choice (explanation_of s) ≡ true
      → rank_of_cryptogram_type (requested_cryptogram_type (recomputed_choice (store_bytes s))) ≡ choice_rank choice
  rank_same choice e o = ap (λ (c : Choice). rank_of_cryptogram_type (requested_cryptogram_type c)) same ∙ one_rank choice
    where
      same : recomputed_choice (store_bytes s) ≡ choice
      same = same_p1 _ _ (ap (λ (l : List ℕ). get_or l 0 0) (sym (kept o).p1 ∙ e))

  pub lower_clause : explanation_of s ≡ Explanation.LowerCryptogram → (choice : Choice)
      → generate_ac_p1s (commands_sent ms) ≡ generate_ac_p1 choice ∷ []
      → rank_of_cryptogram_type (stored_cryptogram_type (store_bytes s)) < choice_rank choice
  lower_clause q choice e = let r = rank_same choice e (ap of_choice q) in omega (arith, r, says.lower q)

  pub not_lower_clause : is_ended_with_reason_none s.phase ≡ true → (stage : Stage) → explained_stage (explanation_of s)
      ≡ Some stage
      → (choice : Choice) → generate_ac_p1s (commands_sent ms) ≡ generate_ac_p1 choice ∷ []
      → choice_rank choice ≤ rank_of_cryptogram_type (stored_cryptogram_type (store_bytes s))
  not_lower_clause d stage f choice e =
      let r = rank_same choice e (of_stage (explanation_of s) f) in omega (arith, r, go s.phase refl d)
    where
      of_stage : (r : Explanation) → explained_stage r ≡ Some stage → of_choice r ≡ true
      of_stage Explanation.Refused z = none-some z
      of_stage (Explanation.Reason m) z = none-some z
      of_stage Explanation.NoChoice z = none-some z
      of_stage Explanation.LowerCryptogram z = none-some z
      of_stage (Explanation.Forced c) z = refl
      of_stage (Explanation.Unforced g) z = refl

      go : (p : Phase) → s.phase ≡ p → is_ended_with_reason_none p ≡ true
          → rank_of_cryptogram_type (requested_cryptogram_type (recomputed_choice (store_bytes s))) ≤ rank_of_cryptogram_type
          (stored_cryptogram_type (store_bytes s))
      go Phase.Fresh q w = apart w
      go (Phase.Waiting r) q w = apart w
      go (Phase.Ended x) q w =
          elim (bool_cases (aip_indicates_mag_stripe (store_bytes s))) [
            | inl m ↦
                let y = phase_says (Phase.Ended x) q ∙ by_mag_stripe x (store_bytes s) (eqb-true _ _ w) m in
                none-some (sym (ap explained_stage y) ∙ f)
            | inr m ↦
                let y = sym (ap explained_stage (decided_says x q w m)) ∙ f in
                decided_rank (store_bytes s) x (deciding_stage_if_its_data_present (store_bytes s)) stage y
          ]
