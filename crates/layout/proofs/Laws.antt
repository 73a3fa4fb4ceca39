-- The layout is strict: what is encoded is read back, what was read is encoded as the bytes it was read from, and a
-- word reports its kind.
-- Assumes nothing.
use Rattle.std.specs.Prelude.{Some, None, Option}
use mathlib.Core.Path.{◌≡◌, refl, sym, ap, ap₂, ◌∙◌}
use mathlib.Core.Bool.{true, false}
use mathlib.Core.List.{List, [], ◌∷◌, ◌++◌, append_assoc}
use mathlib.Core.Logic.{inl, inr}
use Prim.Native.Nat.{ℕ, ◌≤◌, ◌<◌}
use native.Mathlib.Omega.{arith}
use lib.Dec.{eqb}
use lib.ListN.{length, get_or, take, drop, length-append, length-drop, take-append-drop}
use lib.Seq.{take_at, drop-drop}
use borrow.Author.Tests.{eq-eqb, eqb-true, le-leb, leb-true, lt-leb}
use Rattle.basics.specs.Alike.{bytes_equal}
use Rattle.basics.specs.Choice.{if}
use Rattle.basics.specs.Types.{Bytes}
use Rattle.basics.proofs.Alike.{alike_refl, alike_eq}
use Rattle.basics.proofs.Laws.{if_yes, if_no, if_ind, both_yes, both_left, both_right, both_no_left, both_no_right}
use Rattle.basics.proofs.Laws.{bool_cases, no}
use Rattle.dictionary.specs.Rows.{store_size}
use Rattle.analysis.specs.declared.choice.Choice.{Choice}
use Rattle.analysis.specs.Choice.{generate_ac_p1}
use Rattle.analysis.specs.declared.cvm.Cvm.{Cvm}
use Rattle.analysis.specs.Cvm.{cvm_number}
use Rattle.session_record.specs.declared.Outcome.{Outcome}
use Rattle.session_record.specs.declared.OutcomeParameters.{OutcomeParameters}
use Rattle.session_record.specs.declared.AwaitedResponse.{AwaitedResponse}
use Rattle.session_record.specs.declared.Phase.{Phase}
use Rattle.session_record.specs.declared.Session.{Session}
use Rattle.session_record.specs.Numbers.{outcome_number}
use Rattle.session_record.specs.Session.{store_bytes, session_of, ending_of}
use Rattle.layout.specs.declared.PhaseFields.{PhaseFields}
use Rattle.layout.specs.declared.SessionRecordHead.{SessionRecordHead}
use Rattle.layout.specs.Layout.{layout_version, record_head_size, session_record_size, phase_fields}
use Rattle.layout.specs.Layout.{phase_fields_of_awaited, phase_fields_of, big_endian_bytes, record_head_bytes}
use Rattle.layout.specs.Layout.{encoded_session}
use Rattle.layout.specs.Layout.{element_with_number, choice_of_p1, cvm_of_number, outcome_of_number, awaited_of_phase_fields}
use Rattle.layout.specs.Layout.{phase_of_phase_fields, phase_fields_in, phase_in_head, command_count_in_head}
use Rattle.layout.specs.Layout.{session_written_over_front_if_room, has_at_least_record_length_and_canonical_head, decoded_session}
use Rattle.layout.specs.Layout.{decoded_record_head, decoded_store_or_unchanged}
use Rattle.layout.proofs.Number.{bytes_length, bytes_number}
use Rattle.layout.specs.Word.{result_word_kind, word_kind_command, word_kind_outcome, word_kind_refusal, command_word}
use Rattle.layout.specs.Word.{outcome_word, refusal_word}

-- ---- codes

choice_back : (c : Choice) → choice_of_p1 (generate_ac_p1 c) ≡ c
unfolding element_with_number if
choice_back Choice.Decline = refl
choice_back Choice.Online = refl
choice_back Choice.Offline = refl

cvm_back : (m : Cvm) → cvm_of_number (cvm_number m) ≡ m
unfolding element_with_number if
cvm_back Cvm.NoCvm = refl
cvm_back Cvm.Signature = refl
cvm_back Cvm.OnlinePin = refl
cvm_back Cvm.ConfirmationCode = refl
cvm_back Cvm.OfflinePin = refl

outcome_back : (o : Outcome) → outcome_of_number (outcome_number o) ≡ o
unfolding element_with_number if
outcome_back Outcome.Approved = refl
outcome_back Outcome.OnlineRequest = refl
outcome_back Outcome.Declined = refl
outcome_back Outcome.Ended = refl
outcome_back Outcome.SelectNext = refl

-- a phase is read back from its code
awaited_back : (w : AwaitedResponse) → awaited_of_phase_fields (phase_fields_of_awaited w) ≡ w
unfolding awaited_of_phase_fields if
awaited_back AwaitedResponse.Gpo = refl
awaited_back (AwaitedResponse.Record p) = refl
awaited_back (AwaitedResponse.Cryptogram a) =
    ap₂ (λ (c : Choice) (m : Cvm). AwaitedResponse.Cryptogram (record { choice = c; cvm = m; limit = a.limit }))
    (choice_back a.choice) (cvm_back a.cvm)
awaited_back (AwaitedResponse.Checksum c) = refl

waiting_back : (w : AwaitedResponse) → phase_of_phase_fields (phase_fields_of_awaited w)
    ≡ Phase.Waiting (awaited_of_phase_fields (phase_fields_of_awaited w))
unfolding phase_of_phase_fields if
waiting_back AwaitedResponse.Gpo = refl
waiting_back (AwaitedResponse.Record p) = refl
waiting_back (AwaitedResponse.Cryptogram a) = refl
waiting_back (AwaitedResponse.Checksum c) = refl

phase_back : (p : Phase) → phase_of_phase_fields (phase_fields_of p) ≡ p
unfolding phase_of_phase_fields if
phase_back Phase.Fresh = refl
phase_back (Phase.Waiting w) = waiting_back w ∙ ap Phase.Waiting (awaited_back w)
phase_back (Phase.Ended e) = ap (λ (o : Outcome). Phase.Ended (ending_of o e.reason)) (outcome_back e.outcome)

-- ---- which bytes are a record

-- the session that a record at the front of the bytes has
abbrev pub session_in : Bytes → Session
session_in l = session_of (phase_in_head l) (command_count_in_head l) (take store_size (drop record_head_size l))

-- the head that the phase and the count of the bytes have
abbrev pub own_head : Bytes → Bytes
own_head l = record_head_bytes (phase_fields_of (phase_in_head l)) (command_count_in_head l)

module _ (l : List ℕ) where
  pub decoded_short : length l < session_record_size → decoded_session l ≡ None
  unfolding decoded_session has_at_least_record_length_and_canonical_head
  decoded_short h = if_no _ _ (both_no_left _ _ (lt-leb session_record_size (length l) h))

  pub decoded_head : bytes_equal (own_head l) (take record_head_size l) ≡ false → decoded_session l ≡ None
  unfolding decoded_session has_at_least_record_length_and_canonical_head
  decoded_head e = if_no _ _ (both_no_right _ _ e)

  pub decoded_some : session_record_size ≤ length l → bytes_equal (own_head l) (take record_head_size l) ≡ true
      → decoded_session l ≡ Some (session_in l)
  unfolding decoded_session has_at_least_record_length_and_canonical_head
  decoded_some h e = if_yes _ _ (both_yes _ _ (le-leb session_record_size (length l) h) e)

-- bytes of another version are no record
other_version : (l : List ℕ) → eqb (get_or l 0 0) layout_version ≡ false → bytes_equal (own_head l) (take record_head_size l)
    ≡ false
unfolding bytes_equal
other_version [] e = refl
other_version (v ∷ t) e =
    both_no_left _ _ (elim (bool_cases (eqb layout_version v)) [
      | inl y ↦ no (sym e ∙ eq-eqb v layout_version (sym (eqb-true layout_version v y)))
      | inr n ↦ n
    ])

pub decoded_version : (l : List ℕ) → eqb (get_or l 0 0) layout_version ≡ false → decoded_session l ≡ None
decoded_version l e = decoded_head l (other_version l e)

-- ---- the two laws

-- the code of a head is read back from its bytes
code_back : (c : PhaseFields) (n : ℕ) (rest : List ℕ) → phase_fields_in (record_head_bytes c n ++ rest) ≡ c
unfolding big_endian_bytes
code_back c n rest = ap (phase_fields c.number c.datum c.reason c.cvm) (bytes_number 7 c.limit)

-- a record at the front of any bytes is read back; a session's store always has its size
pub decode-encode : (s : Session) (rest : List ℕ) → length (store_bytes s) ≡ store_size
    → decoded_session (encoded_session s ++ rest) ≡ Some s
unfolding encoded_session big_endian_bytes
decode-encode s rest z =
    let c = phase_fields_of s.phase in
    let p : phase_in_head (encoded_session s ++ rest) ≡ s.phase = ap phase_of_phase_fields
    (code_back c s.count (store_bytes s ++ rest)) ∙ phase_back s.phase in
    decoded_some (encoded_session s ++ rest) (simp length-append (omega arith))
    (ap (λ (x : Phase). bytes_equal (record_head_bytes (phase_fields_of x) s.count) (record_head_bytes c s.count)) p ∙
    alike_refl (record_head_bytes c s.count))
    ∙ (λ i. Some (session_of (p i) s.count (take_at (store_bytes s) rest store_size z i)))

-- what the test of a record reports of bytes
record Known (l : List ℕ) : Type 0 where
  enough : session_record_size ≤ length l
  head : own_head l ≡ take record_head_size l

known : (l : List ℕ) → has_at_least_record_length_and_canonical_head l ≡ true → Known l
unfolding has_at_least_record_length_and_canonical_head
known l t = record {
  enough = leb-true session_record_size (length l) (both_left _ _ t);
  head =
      alike_eq _ _ (both_right _ _ t);
}

encode_known : (l : List ℕ) → Known l → encoded_session (session_in l) ++ drop session_record_size l ≡ l
unfolding encoded_session
encode_known l k =
    let b = take store_size (drop record_head_size l) in
    let g : b ++ drop session_record_size l ≡ drop record_head_size l = ap (λ (x : List ℕ). b ++ x)
    (sym (drop-drop store_size record_head_size l)) ∙ take-append-drop store_size (drop record_head_size l) in
    append_assoc (own_head l) b (drop session_record_size l)
    ∙ (ap (λ (x : List ℕ). own_head l ++ x) g
    ∙ (ap (λ (x : List ℕ). x ++ drop record_head_size l) k.head ∙ take-append-drop record_head_size l))

-- ---- what is said of bytes, as callers take it apart

pub held_none : (x : Option Session) → decoded_record_head x ≡ None → x ≡ None
held_none None e = refl
held_none (Some s) e = let z : ◌≡◌ {A = ℕ} 0 1 = cc in absurd (omega arith)

-- bytes that hold a record are enough, and hold the session of their head and store
pub held_some : (l : List ℕ) (h : SessionRecordHead) → decoded_record_head (decoded_session l) ≡ Some h
    → (session_record_size ≤ length l) × (decoded_session l ≡ Some (session_in l))
unfolding decoded_session
held_some l h e = elim (bool_cases (has_at_least_record_length_and_canonical_head l)) [
  | inl t ↦ ((known l t).enough, if_yes _ _ t)
  | inr t ↦
      let f : None ≡ Some h = sym (ap decoded_record_head (if_no _ _ t)) ∙ e in
      let z : ◌≡◌ {A = ℕ} 0 1 = cc in
      absurd (omega arith)
]

-- the store of the session that bytes hold is theirs after the head
pub held_store : (l : List ℕ) (s : Session) → decoded_session l ≡ Some s → (session_record_size ≤ length l)
    × (store_bytes s ≡ take store_size (drop record_head_size l))
held_store l s e =
    let h = held_some l (record { phase = s.phase; count = s.count }) (ap decoded_record_head e) in
    let f : Some s ≡ Some (session_in l) = sym e ∙ h.1 in
    let g : s ≡ session_in l = cc in
    (h.0, ap store_bytes g)

-- the session that was read is the one of the head that is said and the store that is left
pub was_record : (x : Option Session) (h : SessionRecordHead) (b c : List ℕ)
    → decoded_record_head x ≡ Some h → c ≡ decoded_store_or_unchanged x b
    → x ≡ Some (session_of h.phase h.count c)
was_record None h b c e f = let z : ◌≡◌ {A = ℕ} 0 1 = cc in absurd (omega arith)
was_record (Some s) h b c e f =
    let g : record { phase = s.phase; count = s.count } ≡ h = cc in
    λ i. Some (session_of (g i).phase (g i).count (sym f i))

-- bytes that hold a record hold the session of its head and of the store after it
pub held_session : (l : List ℕ) (h : SessionRecordHead) → decoded_record_head (decoded_session l) ≡ Some h
    → decoded_session l ≡ Some (session_of h.phase h.count (take store_size (drop record_head_size l)))
held_session l h e = was_record (decoded_session l) h [] _ e
    (sym (ap (λ (x : Option Session). decoded_store_or_unchanged x []) (held_some l h e).1))

-- a session that was read is encoded as the bytes it was read from
pub encode-decode : (l : List ℕ) (s : Session) → decoded_session l ≡ Some s
    → encoded_session s ++ drop session_record_size l ≡ l
unfolding decoded_session
encode-decode l s e = elim (bool_cases (has_at_least_record_length_and_canonical_head l)) [
  | inl t ↦
      let f : Some (session_in l) ≡ Some s = sym (if_yes _ _ t) ∙ e in
      let g : session_in l ≡ s = cc in
      ap (λ (x : Session). encoded_session x ++ drop session_record_size l) (sym g) ∙ encode_known l (known l t)
  | inr t ↦
      let f : None ≡ Some s = sym (if_no _ _ t) ∙ e in
      let z : ◌≡◌ {A = ℕ} 0 1 = cc in
      absurd (omega arith)
]

-- so writing it back changes nothing
pub written_back : (l : List ℕ) (s : Session) → decoded_session l ≡ Some s → session_written_over_front_if_room s l ≡ l
unfolding session_written_over_front_if_room
written_back l s e = if_ind (λ (x : List ℕ). x ≡ l) _ _ _ (λ t. encode-decode l s e) (λ t. refl)

-- the caller's bytes keep their number, and those after the record stay
pub written_length : (l : List ℕ) (s : Session) → length (store_bytes s) ≡ store_size
    → length (session_written_over_front_if_room s l) ≡ length l
unfolding session_written_over_front_if_room encoded_session
written_length l s z =
    if_ind (λ (x : List ℕ). length x ≡ length l) _ _ _
    (λ t. let h = leb-true session_record_size (length l) t in simp (length-append, length-drop, bytes_length)
    (omega arith)) (λ t. refl)

-- ---- words

-- a command that a word can hold is its length, and below every outcome
pub command_length : (n : ℕ) → n < 0x10000 → command_word n ≡ n
unfolding command_word
command_length n h = omega arith

pub command_below : (n : ℕ) → command_word n < 0x10000
unfolding command_word
command_below n = omega arith

outcome_most : (o : Outcome) → outcome_number o ≤ 4
outcome_most Outcome.Approved = omega arith
outcome_most Outcome.OnlineRequest = omega arith
outcome_most Outcome.Declined = omega arith
outcome_most Outcome.Ended = omega arith
outcome_most Outcome.SelectNext = omega arith

-- the kind of a command is its own, whatever its length; so is that of an outcome whose reason is a byte, whatever its
-- CVM, and that of a refusal whose number has 16 bits
pub command_kind_lem : (n : ℕ) → result_word_kind (command_word n) ≡ word_kind_command
command_kind_lem n = omega (arith, command_below n)

pub outcome_kind : (e : OutcomeParameters) → e.reason < 256 → result_word_kind (outcome_word e) ≡ word_kind_outcome
outcome_kind e h = omega (arith, outcome_most e.outcome)

pub refusal_kind : (n : ℕ) → n < 0x10000 → result_word_kind (refusal_word n) ≡ word_kind_refusal
refusal_kind n h = omega arith
