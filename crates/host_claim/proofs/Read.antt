-- What is read off the words and the buffers of session's calls is what session_claim reads off their replies: a word
-- tells
-- command, outcome and refusal apart, and a command's length, since no call hands out more than 261 bytes. Each reading
-- by induction over the calls.
-- Assumes nothing.
use Rattle.std.specs.Prelude.{Option, Some, None}
use mathlib.Core.Path.{◌≡◌, refl, sym, ap, ap₂, ◌∙◌}
use mathlib.Core.Bool.{Bool, true, false}
use mathlib.Core.List.{List, [], ◌∷◌, ◌++◌, map}
use Prim.Native.Nat.{ℕ}
use native.Mathlib.Omega.{arith}
use lib.Dec.{eqb}
use lib.ListN.{take}
use Rattle.basics.specs.Choice.{if, either}
use Rattle.basics.proofs.Laws.{if_yes, if_no, if_ap, if_ind}
use Rattle.session_record.specs.declared.CallResult.{CallResult}
use Rattle.session_record.specs.declared.Session.{Session}
use Rattle.layout.specs.Word.{result_word_kind, word_kind_command, word_kind_outcome, word_kind_refusal, result_word}
use Rattle.session_claim.specs.Calls.{commands_sent, calls_accepted, last_element, is_answer, has_answer}
use Rattle.session_claim.specs.Calls.{commands_with_no_later_answer, unanswered_commands}
use Rattle.session.specs.Calls.{Call, start, answer, link_failed, stop, call_step, CallMade, play_calls, is_refusal}
use Rattle.session.specs.Calls.{call_result, call_refused, command_sent}
use Rattle.session.proofs.Results.{is_command, is_outcome}
use Rattle.session_claim.specs.Order.{first_answer, final_command_kind_by_gpo_answer}
use Rattle.session_claim.specs.Claim.{stage_after_accepted_result, stage_after_last_accepted_call}
use Rattle.host.proofs.Sizes.{Small, SmallStep, start_small, answer_small, link_small, stop_small}
use Rattle.host.proofs.Laws.{tells}
use Rattle.host_claim.specs.Calls.{HostCall, HostCallMade}
use Rattle.host_claim.specs.Words.{is_command_word, is_outcome_word, is_refusal_word, host_commands_handed_out}
use Rattle.host_claim.specs.Words.{host_calls_not_refused, has_answer_call, host_commands_with_no_later_answer}
use Rattle.host_claim.specs.Words.{host_unanswered_commands, first_answer_call, host_final_command_kind_by_gpo_answer}
use Rattle.host_claim.specs.Words.{stage_after_accepted_word, host_stage_after_last_accepted_call}
use Rattle.host_claim.specs.Claim.{host_view_of_call}

-- a call that was made, of its parts
abbrev pub completed_call : HostCall → ℕ → List ℕ → HostCallMade
completed_call c w buf = record { call = c; word = w; buffer = buf }

-- ---- a word

-- the number of its kind
abbrev kind_number : CallResult → ℕ
kind_number (CallResult.Command c) = word_kind_command
kind_number (CallResult.Outcome e) = word_kind_outcome
kind_number (CallResult.Refused r) = word_kind_refusal

kind_is : (a : CallResult) → Small a → result_word_kind (result_word a) ≡ kind_number a
kind_is (CallResult.Command c) h = (tells (CallResult.Command c) h).2
kind_is (CallResult.Outcome e) h = (tells (CallResult.Outcome e) h).1
kind_is (CallResult.Refused r) h = (tells (CallResult.Refused r) h).1

-- so the word's kind is compared as the answer's is
module _ (a : CallResult) (h : Small a) (n : ℕ) where
  kind_read : eqb (result_word_kind (result_word a)) n ≡ eqb (kind_number a) n
  kind_read = ap (λ (k : ℕ). eqb k n) (kind_is a h)

pub word_command : (a : CallResult) → Small a → is_command_word (result_word a) ≡ is_command a
word_command (CallResult.Command c) h = kind_read (CallResult.Command c) h word_kind_command
word_command (CallResult.Outcome e) h = kind_read (CallResult.Outcome e) h word_kind_command
word_command (CallResult.Refused r) h = kind_read (CallResult.Refused r) h word_kind_command

word_outcome : (a : CallResult) → Small a → is_outcome_word (result_word a) ≡ is_outcome a
word_outcome (CallResult.Command c) h = kind_read (CallResult.Command c) h word_kind_outcome
word_outcome (CallResult.Outcome e) h = kind_read (CallResult.Outcome e) h word_kind_outcome
word_outcome (CallResult.Refused r) h = kind_read (CallResult.Refused r) h word_kind_outcome

word_refusal : (a : CallResult) → Small a → is_refusal_word (result_word a) ≡ is_refusal a
word_refusal (CallResult.Command c) h = kind_read (CallResult.Command c) h word_kind_refusal
word_refusal (CallResult.Outcome e) h = kind_read (CallResult.Outcome e) h word_kind_refusal
word_refusal (CallResult.Refused r) h = kind_read (CallResult.Refused r) h word_kind_refusal

-- the stage that a word reports is the one of the answer
word_stage : (a : CallResult) → Small a → stage_after_accepted_word (result_word a) ≡ stage_after_accepted_result a
word_stage (CallResult.Command c) h = if_yes _ _ (word_command (CallResult.Command c) h)
word_stage (CallResult.Outcome e) h = if_no _ _ (word_command (CallResult.Outcome e) h) ∙ if_yes _ _
    (word_outcome (CallResult.Outcome e) h)
word_stage (CallResult.Refused r) h = if_no _ _ (word_command (CallResult.Refused r) h) ∙ if_no _ _
    (word_outcome (CallResult.Refused r) h)

-- the command of a call, by its word
command_read : (a : CallResult) (buf : List ℕ) → Small a
    → if (is_command_word (result_word a)) (take (result_word a) buf ∷ []) [] ≡ command_sent a buf
command_read (CallResult.Command c) buf h =
    if_yes _ _ (word_command (CallResult.Command c) h) ∙ ap (λ (n : ℕ). take n buf ∷ [])
    (tells (CallResult.Command c) h).0
command_read (CallResult.Outcome e) buf h = if_no _ _ (word_command (CallResult.Outcome e) h)
command_read (CallResult.Refused r) buf h = if_no _ _ (word_command (CallResult.Refused r) h)

-- ---- what is known of each call of a list

-- it is the session's step, and what it hands out is small
pub record Known (m : CallMade) : Type 0 where
  pub is_step : m.step ≡ call_step m.before m.call
  pub small : Small (call_result m)

abbrev pub All : (CallMade → Type 0) → List CallMade → Type 0
All P [] = Unit {0}
All P (m ∷ ms) = P m × All P ms

pub step_small : (s : Session) (c : Call) → SmallStep (call_step s c)
step_small s (start bytes buf) = start_small s bytes buf
step_small s (answer card buf) = answer_small s card buf
step_small s (link_failed buf) = link_small s buf
step_small s (stop buf) = stop_small s buf

pub play_known : (s : Session) (cs : List Call) → All Known (play_calls s cs)
unfolding play_calls
play_known s [] = tt
play_known s (c ∷ cs) = (
  record { is_step = refl; small = step_small s c },
  play_known (call_step s c).reply.session
      cs,
)

-- of the calls that were taken the same is known, and that they were not refused
pub taken_all : (P : CallMade → Type 0) (ms : List CallMade) → All P ms
    → All (λ m. P m × (call_refused m ≡ false)) (calls_accepted ms)
unfolding calls_accepted
taken_all P [] k = tt
taken_all P (m ∷ ms) k =
    let r = taken_all P ms k.1 in
    if_ind (All (λ x. P x × (call_refused x ≡ false))) (call_refused m) _ _ (λ e. r) (λ e. ((k.0, e), r))

-- and of the first answer and the last call among them
pub first_all : (P : CallMade → Type 0) (ms : List CallMade) (m : CallMade) → All P ms → first_answer ms ≡ Some m → P m
unfolding first_answer
first_all P [] m k e = let z : ◌≡◌ {A = ℕ} 0 1 = cc in absurd (omega arith)
first_all P (x ∷ ms) m k e =
    if_ind (λ (o : Option CallMade). o ≡ Some m → P m) (is_answer x.call) _ _ (λ t q. found q)
    (λ t. first_all P ms m k.1) e
  where
    found : Some x ≡ Some m → P m
    found q = let r : x ≡ m = cc in rw r at k.0

-- the first answer is an answer
pub first_answers : (ms : List CallMade) (m : CallMade) → first_answer ms ≡ Some m → is_answer m.call ≡ true
unfolding first_answer
first_answers [] m e = let z : ◌≡◌ {A = ℕ} 0 1 = cc in absurd (omega arith)
first_answers (x ∷ ms) m e =
    if_ind (λ (o : Option CallMade). o ≡ Some m → is_answer m.call ≡ true) (is_answer x.call) _ _
    (λ t q. let r : x ≡ m = cc in ap (λ (y : CallMade). is_answer y.call) (sym r) ∙ t)
    (λ t. first_answers ms m) e

last_all : (P : CallMade → Type 0) (ms : List CallMade) (m : CallMade) → All P ms → last_element ms ≡ Some m → P m
unfolding last_element
last_all P [] m k e = let z : ◌≡◌ {A = ℕ} 0 1 = cc in absurd (omega arith)
last_all P (x ∷ []) m k e = let q : x ≡ m = cc in rw q at k.0
last_all P (x ∷ y ∷ ms) m k e = last_all P (y ∷ ms) m k.1 e

-- ---- the readings

pub read_commands : (ms : List CallMade) → All Known ms → host_commands_handed_out (map host_view_of_call ms)
    ≡ commands_sent ms
unfolding host_commands_handed_out commands_sent
read_commands [] k = refl
read_commands (m ∷ ms) k =
    ap₂ (λ (x y : List (List ℕ)). x ++ y) (command_read (call_result m) m.step.buffer k.0.small)
    (read_commands ms k.1)

pub read_taken : (ms : List CallMade) → All Known ms → host_calls_not_refused (map host_view_of_call ms) ≡ map host_view_of_call
    (calls_accepted ms)
unfolding host_calls_not_refused calls_accepted
read_taken [] k = refl
read_taken (m ∷ ms) k =
    ap₂ (λ (b : Bool) (x : List HostCallMade). if b x (host_view_of_call m ∷ x))
    (word_refusal (call_result m) k.0.small)
    (read_taken ms k.1)
    ∙ sym (if_ap (map host_view_of_call) (call_refused m) (calls_accepted ms) (m ∷ calls_accepted ms))

read_answers : (ms : List CallMade) → has_answer_call (map host_view_of_call ms) ≡ has_answer ms
unfolding has_answer_call has_answer
read_answers [] = refl
read_answers (m ∷ ms) = ap (either (is_answer m.call)) (read_answers ms)

read_out : (ms : List CallMade) → All Known ms → host_commands_with_no_later_answer (map host_view_of_call ms)
    ≡ commands_with_no_later_answer ms
unfolding host_commands_with_no_later_answer commands_with_no_later_answer
read_out [] k = refl
read_out (m ∷ ms) k =
    let c = command_read (call_result m) m.step.buffer k.0.small in
    λ i. if (read_answers ms i) (read_out ms k.1 i) (c i ++ read_out ms k.1 i)

-- what is known, without that it was not refused
known_of : (ms : List CallMade) → All (λ m. Known m × (call_refused m ≡ false)) ms → All Known ms
known_of [] k = tt
known_of (m ∷ ms) k = (k.0.0, known_of ms k.1)

pub read_unanswered : (ms : List CallMade) → All Known ms → host_unanswered_commands (map host_view_of_call ms)
    ≡ unanswered_commands ms
unfolding host_unanswered_commands unanswered_commands
read_unanswered ms k =
    ap host_commands_with_no_later_answer (read_taken ms k) ∙ read_out (calls_accepted ms)
    (known_of (calls_accepted ms) (taken_all Known ms k))

-- the first answer and the last call, if there is one
abbrev pub as_read : Option CallMade → Option HostCallMade
as_read None = None
as_read (Some m) = Some (host_view_of_call m)

read_first : (ms : List CallMade) → first_answer_call (map host_view_of_call ms) ≡ as_read (first_answer ms)
unfolding first_answer_call first_answer
read_first [] = refl
read_first (m ∷ ms) =
    ap (if (is_answer m.call) (Some (host_view_of_call m))) (read_first ms)
    ∙ sym (if_ap as_read (is_answer m.call) (Some m) (first_answer ms))

pub read_first_taken : (ms : List CallMade) → All Known ms
    → first_answer_call (host_calls_not_refused (map host_view_of_call ms)) ≡ as_read (first_answer (calls_accepted ms))
read_first_taken ms k = ap first_answer_call (read_taken ms k) ∙ read_first (calls_accepted ms)

read-last : (ms : List CallMade) → last_element (map host_view_of_call ms) ≡ as_read (last_element ms)
unfolding last_element
read-last [] = refl
read-last (x ∷ []) = refl
read-last (x ∷ y ∷ ms) = read-last (y ∷ ms)

by_kind : (x : Option CallMade) → host_final_command_kind_by_gpo_answer (as_read x) ≡ final_command_kind_by_gpo_answer x
by_kind None = refl
by_kind (Some m) = refl

pub read_last_kind : (ms : List CallMade) → All Known ms
    → host_final_command_kind_by_gpo_answer (first_answer_call (host_calls_not_refused (map host_view_of_call ms)))
    ≡ final_command_kind_by_gpo_answer (first_answer (calls_accepted ms))
read_last_kind ms k = ap host_final_command_kind_by_gpo_answer (read_first_taken ms k) ∙ by_kind
    (first_answer (calls_accepted ms))

-- ---- what the last call taken says

pub read_stage : (ms : List CallMade) → All Known ms
    → host_stage_after_last_accepted_call (last_element (host_calls_not_refused (map host_view_of_call ms)))
    ≡ stage_after_last_accepted_call (last_element (calls_accepted ms))
read_stage ms k = ap host_stage_after_last_accepted_call (ap last_element (read_taken ms k) ∙ read-last (calls_accepted ms)) ∙
    go (last_element (calls_accepted ms)) refl
  where
    go : (x : Option CallMade) → last_element (calls_accepted ms) ≡ x → host_stage_after_last_accepted_call (as_read x)
        ≡ stage_after_last_accepted_call x
    go None e = refl
    go (Some m) e = word_stage (call_result m)
        (last_all Known (calls_accepted ms) m (known_of (calls_accepted ms) (taken_all Known ms k)) e).small
