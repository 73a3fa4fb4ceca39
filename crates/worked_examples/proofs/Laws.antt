-- A call on a session in its ranges is the step of its phase, and one that is refused first is known by the buffer or
-- the ranges alone: so each example computes one step, and the ranges are shown once a session. Assumes nothing.
use mathlib.Core.Path.{◌≡◌, ap, ◌∙◌}
use mathlib.Core.Bool.{true, false}
use mathlib.Core.List.{List, [], map, ◌++◌}
use Prim.Native.Nat.{ℕ, ◌≤◌, ◌<◌}
use lib.Dec.{lit≤, lit<}
use lib.ListN.{length}
use Rattle.basics.specs.Reason.{reason_link, reason_stopped}
use Rattle.store.specs.Place.{StoredValue, object_value}
use Rattle.session_record.specs.declared.CallResult.{CallResult}
use Rattle.session_record.specs.declared.Session.{Session}
use Rattle.session_record.specs.Session.{store_bytes, ending_for_reason}
use Rattle.session_record.specs.Ranges.{session_record_in_ranges}
use Rattle.session_record.specs.declared.AwaitedResponse.{AwaitedResponse}
use Rattle.session.specs.Steps.{Step, end, held_cvm, step_of_effect, least_buffer, effect_if_running}
use Rattle.session.specs.Start.{start_effect}
use Rattle.session.specs.Answer.{next_on_response}
use Rattle.session.proofs.Laws.{admitted_short, admitted_ranges, admitted_in}
use Rattle.session.specs.Calls.{start, answer, link_failed, stop, command_sent}
use Rattle.tlv.specs.Encoding.{object_bytes}
use Rattle.worked_examples.specs.Calls.{buffer_of261, buffer_of260, refusal_result, result_of, result_of_answer}
use Rattle.worked_examples.specs.Calls.{results_of_answers, command_of, stored_value_after_answer}
use Rattle.worked_examples.specs.Calls.{with9000, with6a82, answer_of259_bytes, too_long_answer, truncated_object}
use Rattle.worked_examples.specs.Calls.{with_trailing_byte, wrapped_in61, tvr_object_from_card}
use Rattle.worked_examples.specs.ReadingOrder.{ReasonsInReadingOrder, ReadingReasonsBeforeLaterReason}

enough : least_buffer ≤ length buffer_of261
enough = lit≤ tt

short : length buffer_of260 < least_buffer
short = lit< tt

abbrev told : Step → CallResult
told st = st.reply.answer

abbrev handed : Step → List (List ℕ)
handed st = command_sent st.reply.answer st.buffer

-- the own step of an answer, and of link failed and stop
abbrev answered : Session → List ℕ → Step
answered s card = step_of_effect s buffer_of261 (effect_if_running s.phase (next_on_response (store_bytes s) card))

abbrev aborted : Session → ℕ → Step
aborted s reason = step_of_effect s buffer_of261
    (effect_if_running s.phase (λ (w : AwaitedResponse). end (ending_for_reason reason) (held_cvm w) (store_bytes s)))

-- ---- in the ranges

module _ (s : Session) (i : session_record_in_ranges s ≡ true) where
  pub start_in : (bytes : List ℕ) {a : CallResult}
      → told (step_of_effect s buffer_of261 (start_effect s.phase (store_bytes s) bytes)) ≡ a
      → result_of s (start bytes buffer_of261) ≡ a
  unfolding result_of
  start_in bytes e = ap told (admitted_in s buffer_of261 _ enough i) ∙ e

  pub answer_in : (card : List ℕ) {a : CallResult} → told (answered s card) ≡ a → result_of s (answer card buffer_of261)
      ≡ a
  unfolding result_of
  answer_in card e = ap told (admitted_in s buffer_of261 _ enough i) ∙ e

  pub link_in : {a : CallResult} → told (aborted s reason_link) ≡ a → result_of s (link_failed buffer_of261) ≡ a
  unfolding result_of
  link_in e = ap told (admitted_in s buffer_of261 _ enough i) ∙ e

  pub stop_in : {a : CallResult} → told (aborted s reason_stopped) ≡ a → result_of s (stop buffer_of261) ≡ a
  unfolding result_of
  stop_in e = ap told (admitted_in s buffer_of261 _ enough i) ∙ e

  pub says_in : (card : List ℕ) {a : CallResult} → told (answered s card) ≡ a → result_of_answer s card ≡ a
  unfolding result_of_answer
  says_in card e = ap told (admitted_in s buffer_of261 _ enough i) ∙ e

  pub each_in : (cards : List (List ℕ)) {answers : List CallResult} → map (λ card. told (answered s card)) cards
      ≡ answers → results_of_answers s cards ≡ answers
  unfolding results_of_answers result_of_answer
  each_in cards e =
      (λ k. map
      (λ card. told (admitted_in s buffer_of261 (effect_if_running s.phase (next_on_response (store_bytes s) card)) enough
      i k)) cards) ∙ e

  pub start_sends_in : (bytes : List ℕ) {c : List (List ℕ)}
      → handed (step_of_effect s buffer_of261 (start_effect s.phase (store_bytes s) bytes)) ≡ c
      → command_of s (start bytes buffer_of261) ≡ c
  unfolding command_of
  start_sends_in bytes e = ap handed (admitted_in s buffer_of261 _ enough i) ∙ e

  pub sends_in : (card : List ℕ) {c : List (List ℕ)} → handed (answered s card) ≡ c
      → command_of s (answer card buffer_of261) ≡ c
  unfolding command_of
  sends_in card e = ap handed (admitted_in s buffer_of261 _ enough i) ∙ e

  pub stored_in : (card : List ℕ) (tag : ℕ) {v : StoredValue}
      → object_value (store_bytes (answered s card).reply.session) tag ≡ v
      → stored_value_after_answer s card tag ≡ v
  unfolding stored_value_after_answer
  stored_in card tag e = ap (λ (x : Step). object_value (store_bytes x.reply.session) tag)
      (admitted_in s buffer_of261 _ enough i) ∙ e

  -- the order of a reading's reasons, each answer by its own step
  abbrev step_on : List ℕ → CallResult
  step_on card = told (answered s card)

  pub order_in : (outer other : ℕ) (ended : ℕ → CallResult) → step_on too_long_answer ≡ ended 2
      → step_on (answer_of259_bytes outer tvr_object_from_card) ≡ ended 2
      → step_on (with6a82 (truncated_object outer)) ≡ ended 1 → step_on (with6a82 (object_bytes other [])) ≡ ended 1
      → step_on (with6a82 (object_bytes outer tvr_object_from_card)) ≡ ended 1
      → step_on (with9000 (with_trailing_byte (object_bytes outer tvr_object_from_card))) ≡ ended 2
      → step_on (with9000 (object_bytes other tvr_object_from_card)) ≡ ended 2
      → step_on (with9000 (object_bytes other [])) ≡ ended 2 → ReasonsInReadingOrder s outer other ended
  order_in outer other ended a b c d e f g h =
      record {
        length_status = says_in _ a;
        length_objects = says_in _ b;
        status_encoding = says_in _ c;
        status_outer_tag = says_in _ d;
        status_objects = says_in _ e;
        encoding_objects = says_in _ f;
        outer_tag_objects = says_in _ g;
        outer_tag_missing = says_in _ h;
      }

  pub before_in : (outer : ℕ) (contents : List ℕ) (ended : ℕ → CallResult) → step_on (answer_of259_bytes outer contents)
      ≡ ended 2
      → step_on (with6a82 (object_bytes outer contents)) ≡ ended 1
      → step_on (with9000 (with_trailing_byte (object_bytes outer contents))) ≡ ended 2
      → step_on (with9000 (wrapped_in61 (object_bytes outer contents))) ≡ ended 2
      → step_on (with9000 (object_bytes outer (contents ++ tvr_object_from_card))) ≡ ended 3
      → ReadingReasonsBeforeLaterReason s outer contents ended
  before_in outer contents ended a b c d e =
      record {
        length = says_in _ a;
        status = says_in _ b;
        encoding = says_in _ c;
        outer_tag_lem = says_in _ d;
        objects =
            says_in _ e;
      }

-- ---- out of them

module _ (s : Session) (o : session_record_in_ranges s ≡ false) where
  pub start_out : (bytes : List ℕ) → result_of s (start bytes buffer_of261) ≡ refusal_result 25
  unfolding result_of
  start_out bytes = ap told (admitted_ranges s buffer_of261 _ enough o)

  pub answer_out : (card : List ℕ) → result_of s (answer card buffer_of261) ≡ refusal_result 25
  unfolding result_of
  answer_out card = ap told (admitted_ranges s buffer_of261 _ enough o)

  pub link_out : result_of s (link_failed buffer_of261) ≡ refusal_result 25
  unfolding result_of
  link_out = ap told (admitted_ranges s buffer_of261 _ enough o)

  pub stop_out : result_of s (stop buffer_of261) ≡ refusal_result 25
  unfolding result_of
  stop_out = ap told (admitted_ranges s buffer_of261 _ enough o)

-- ---- a buffer that is too short

module _ (s : Session) where
  pub start_short : (bytes : List ℕ) → result_of s (start bytes buffer_of260) ≡ refusal_result 22
  unfolding result_of
  start_short bytes = ap told (admitted_short s buffer_of260 _ short)

  pub answer_short : (card : List ℕ) → result_of s (answer card buffer_of260) ≡ refusal_result 22
  unfolding result_of
  answer_short card = ap told (admitted_short s buffer_of260 _ short)

  pub link_short : result_of s (link_failed buffer_of260) ≡ refusal_result 22
  unfolding result_of
  link_short = ap told (admitted_short s buffer_of260 _ short)

  pub stop_short : result_of s (stop buffer_of260) ≡ refusal_result 22
  unfolding result_of
  stop_short = ap told (admitted_short s buffer_of260 _ short)
