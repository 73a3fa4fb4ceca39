-- What holds of every call over the caller's bytes: how it comes about, that a refusal leaves all of the caller's bytes
-- as they were, and that its word tells a command, an outcome and a refusal apart.
-- Assumes nothing.
use Rattle.std.specs.Prelude.{Some, None, Option}
use mathlib.Core.Path.{◌≡◌, refl, ap, subst⁻¹, ◌∙◌}
use mathlib.Core.List.{List}
use Prim.Native.Nat.{ℕ, ◌≤◌, ◌<◌}
use native.Mathlib.Omega.{arith}
use lib.Dec.{ltb}
use lib.ListN.{length, take, drop, length-take, length-drop}
use borrow.Author.Tests.{lt-ltb, le-ltb}
use borrow.Rule.Slice.PartMut.{put_mid}
use Rattle.basics.proofs.Laws.{if_yes, if_no, if_ind}
use Rattle.session_record.specs.declared.CallResult.{CallResult}
use Rattle.session_record.specs.declared.Reply.{Reply}
use Rattle.session_record.specs.declared.Session.{Session}
use Rattle.session_record.specs.declared.Transition.{Transition}
use Rattle.dictionary.specs.Rows.{store_size}
use Rattle.basics.specs.Reason.{refusal_buffer_too_small, refusal_record_out_of_ranges}
use Rattle.session_record.specs.Session.{ending_of, outcome_parameters, session_of, reply_of}
use Rattle.session.specs.Steps.{Step, ReturnsStep, least_buffer, link_failed_step, stop_step}
use Rattle.session.specs.Start.{start_step}
use Rattle.session.specs.Answer.{answer_step}
use Rattle.step_laws.proofs.EveryCall.{Came, answer_came, start_came, link_came, stop_came}
use Rattle.layout.specs.declared.SessionRecordHead.{SessionRecordHead}
use Rattle.layout.specs.Layout.{record_head_size, session_written_over_front_if_room}
use Rattle.layout.specs.Layout.{record_head_written_over_front_if_room, decoded_session, decoded_record_head}
use Rattle.layout.specs.Word.{result_word_kind, word_kind_command, word_kind_outcome, word_kind_refusal, refusal_word}
use Rattle.layout.specs.Word.{outcome_word, result_word}
use Rattle.layout.proofs.Lists.{put_head}
use Rattle.layout.proofs.Laws.{held_none, held_some, held_session, written_back, command_length, command_kind_lem}
use Rattle.layout.proofs.Laws.{outcome_kind, refusal_kind}
use Rattle.host.proofs.Sizes.{Small, SmallStep, answer_small, start_small, link_small, stop_small}
use Rattle.host.specs.Hosted.{HostResult, ReturnsHostResult, host_result_of_step, host_step_or_refusal}
use Rattle.host.specs.Hosted.{perform_host_call_if_admitted}

-- ---- how a call comes about

module _ (step : Session → List ℕ → Step) (l buf : List ℕ) where
  -- a call that is not taken gives its word, and touches nothing
  pub over_short : length buf < least_buffer → (w : ℕ) → w ≡ refusal_word refusal_buffer_too_small
      → ReturnsHostResult w l buf (perform_host_call_if_admitted step l buf)
  unfolding perform_host_call_if_admitted
  over_short r w e = subst⁻¹ (ReturnsHostResult w l buf) (if_yes _ _ (lt-ltb _ _ r))
      (record { word = e; session = refl; buffer = refl })

  module _ (r : least_buffer ≤ length buf) where
    pub over_none : decoded_record_head (decoded_session l) ≡ None → (w : ℕ) → w ≡ refusal_word refusal_record_out_of_ranges
        → ReturnsHostResult w l buf (perform_host_call_if_admitted step l buf)
    unfolding perform_host_call_if_admitted
    over_none f w e = subst⁻¹ (ReturnsHostResult w l buf)
        (if_no _ _ (le-ltb _ _ r) ∙ ap (host_step_or_refusal step l buf) (held_none _ f))
        (record { word = e; session = refl; buffer = refl })

    -- one that is taken is the step on the session of the bytes: the store that it left in its place, and its head
    -- before that
    pub over-step : (h : SessionRecordHead) → decoded_record_head (decoded_session l) ≡ Some h
        → (w : ℕ) (l' b' c : List ℕ) (t : Transition)
        → ReturnsStep (reply_of t c) b' (step (session_of h.phase h.count (take store_size (drop record_head_size l)))
        buf) → length c ≡ length (take store_size (drop record_head_size l)) → w ≡ result_word t.answer
        → l' ≡ record_head_written_over_front_if_room t.phase t.count (put_mid record_head_size store_size l c)
        → ReturnsHostResult w l' b' (perform_host_call_if_admitted step l buf)
    unfolding perform_host_call_if_admitted
    over-step h e w l' b' c t did m f g =
        let enough = (held_some l h e).0 in
        let z : length c ≡ store_size = m ∙ simp (length-take, length-drop) (omega arith) in
        subst⁻¹ (ReturnsHostResult w l' b')
        (if_no _ _ (le-ltb _ _ r) ∙ ap (host_step_or_refusal step l buf) (held_session l h e))
        (record {
          word = f ∙ ap (λ (x : Reply). result_word x.answer) did.reply;
          session = g ∙ put_head l c t.phase t.count enough z ∙ ap
              (λ (x : Reply). session_written_over_front_if_room x.session l) did.reply;
          buffer = did.buffer;
        })

-- ---- words

-- what a word says of an answer: the three kinds are apart
abbrev pub Tells : CallResult → ℕ → Type 0
Tells (CallResult.Command c) w = (w ≡ c.size) × (w ≤ 261) × (result_word_kind w ≡ word_kind_command)
Tells (CallResult.Outcome e) w = (w ≡ outcome_word e) × (result_word_kind w ≡ word_kind_outcome)
Tells (CallResult.Refused r) w = (w ≡ refusal_word r.number) × (result_word_kind w ≡ word_kind_refusal)

pub tells : (a : CallResult) → Small a → Tells a (result_word a)
tells (CallResult.Command c) h = let e = command_length c.size (omega arith) in
    (e, omega arith, command_kind_lem c.size)
tells (CallResult.Outcome e) h = (refl, outcome_kind e (omega arith))
tells (CallResult.Refused r) h = (refl, refusal_kind r.number (omega arith))

-- ---- a refusal leaves all of the caller's bytes as they were

pub record Kept (l buf : List ℕ) (h : HostResult) : Type 0 where
  pub session : h.session ≡ l
  pub buffer : h.buffer ≡ buf

-- a step whose word is that of a refusal is one
came_kept : {s : Session} {l buf : List ℕ} {st : Step} → decoded_session l ≡ Some s → SmallStep st → Came s buf st
    → result_word_kind (result_word st.reply.answer) ≡ word_kind_refusal → Kept l buf (host_result_of_step l st)
came_kept {s} {l} e z (Came.refused n) h = record { session = written_back l s e; buffer = refl }
came_kept e z (Came.ended m b o n) h =
    absurd (omega (arith, h, outcome_kind (outcome_parameters (ending_of o n) m) (omega arith)))
came_kept e z (Came.sent b p c k) h = absurd (omega (arith, h, command_kind_lem (length c)))

module _ (step : Session → List ℕ → Step) (came : (s : Session) (b : List ℕ) → Came s b (step s b))
    (small : (s : Session) (b : List ℕ) → SmallStep (step s b)) where
  stepped_kept : (l buf : List ℕ) (x : Option Session) → decoded_session l ≡ x
      → result_word_kind (host_step_or_refusal step l buf x).word ≡ word_kind_refusal
      → Kept l buf (host_step_or_refusal step l buf x)
  stepped_kept l buf None e h = record { session = refl; buffer = refl }
  stepped_kept l buf (Some s) e h = came_kept e (small s buf) (came s buf) h

  refusal_kept : (l buf : List ℕ) → result_word_kind (perform_host_call_if_admitted step l buf).word ≡ word_kind_refusal
      → Kept l buf (perform_host_call_if_admitted step l buf)
  unfolding perform_host_call_if_admitted
  refusal_kept l buf =
      if_ind (λ (h : HostResult). result_word_kind h.word ≡ word_kind_refusal → Kept l buf h)
      (ltb (length buf) least_buffer) _ _ (λ t h. record { session = refl; buffer = refl })
      (λ t. stepped_kept l buf (decoded_session l) refl)

module _ (l bytes buf : List ℕ) where
  pub start_kept : let h = perform_host_call_if_admitted (λ s b. start_step s bytes b) l buf in result_word_kind h.word
      ≡ word_kind_refusal → Kept l buf h
  start_kept = refusal_kept (λ s b. start_step s bytes b) (λ s b. start_came s bytes b) (λ s b. start_small s bytes b) l
      buf

  pub answer_kept : let h = perform_host_call_if_admitted (λ s b. answer_step s bytes b) l buf in result_word_kind h.word
      ≡ word_kind_refusal → Kept l buf h
  answer_kept = refusal_kept (λ s b. answer_step s bytes b) (λ s b. answer_came s bytes b)
      (λ s b. answer_small s bytes b) l buf

module _ (l buf : List ℕ) where
  pub link_kept : result_word_kind (perform_host_call_if_admitted link_failed_step l buf).word ≡ word_kind_refusal
      → Kept l buf (perform_host_call_if_admitted link_failed_step l buf)
  link_kept = refusal_kept link_failed_step link_came link_small l buf

  pub stop_kept : result_word_kind (perform_host_call_if_admitted stop_step l buf).word ≡ word_kind_refusal
      → Kept l buf (perform_host_call_if_admitted stop_step l buf)
  stop_kept = refusal_kept stop_step stop_came stop_small l buf
