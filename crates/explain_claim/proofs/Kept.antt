-- What calls leave of what the choice goes by: the reading of the answer to GENERATE AC changes no object that the card
-- may not set, so the choice stays unless the answer brings an action code; and the choice that is requested is the one
-- of the store that the analysis leaves.
-- Assumes nothing.
use Rattle.std.specs.Prelude.{Some}
use mathlib.Core.Path.{◌≡◌, refl, sym, ap, ◌∙◌}
use mathlib.Core.Bool.{Bool, true, false, not}
use mathlib.Core.Logic.{inl, inr}
use mathlib.Core.List.{List}
use Prim.Native.Nat.{ℕ, ◌≤◌}
use native.Mathlib.Omega.{arith}
use lib.ListN.{length, get_or}
use Rattle.basics.specs.Choice.{either}
use Rattle.basics.proofs.Laws.{bool_cases, both_true}
use Rattle.dictionary.specs.Named.{row_tvr, row_iac_default, row_iac_denial, row_iac_online, row_cvm_results, row_terminal_type}
use Rattle.dictionary.specs.Named.{row_kernel_configuration, row_tac_default, row_tac_denial, row_tac_online}
use Rattle.dictionary.specs.Rows.{dictionary_rows, row_at, find_row, store_size}
use Rattle.dictionary.specs.TerminalType.{listed_terminal_type}
use Rattle.dictionary.proofs.Fit.{fits_length}
use Rattle.dictionary.proofs.Named.{at_95, at_9f0d, at_9f0e, at_9f0f, at_9f35, at_df811b, at_df8120, at_df8121}
use Rattle.dictionary.proofs.Named.{at_df8122}
use Rattle.store.specs.Place.{StoredValue, bytes_or_empty_if_absent, is_present, row_value, object_value}
use Rattle.store.specs.Place.{put_row}
use Rattle.store.specs.Held.{has_object, stored_bytes}
use Rattle.store.proofs.Laws.{by_row, put_other}
use Rattle.store.proofs.Rows.{fits_row}
use Rattle.reading.specs.declared.Awaited.{Awaited}
use Rattle.reading.specs.Taking.{PrimitiveItem, card_may_set}
use Rattle.reading.specs.Answer.{response_bit, read_answer}
use Rattle.reading.proofs.Kept.{Put, read_holds}
use Rattle.analysis.specs.Value.{first_bytes_zero_padded}
use Rattle.analysis.specs.Action.{action_codes_of, choice_for_tvr, findings_of}
use Rattle.analysis.specs.declared.action.AnalysisFindings.{AnalysisFindings}
use Rattle.analysis.proofs.Value.{front_whole}
use Rattle.analysis.proofs.Laws.{found_length, bits_length}
use Rattle.session_record.proofs.Clauses.{AllObjectsFit}
use Rattle.session_record.proofs.Values.{absent_of, held_length}
use Rattle.session.specs.Steps.{store_with_findings}
use Rattle.session.specs.Answer.{requested_cryptogram}
use Rattle.step_laws.proofs.Kept.{read_value, found_95, found_other}
use Rattle.explain.specs.Explain.{recomputed_choice}
use Rattle.explain.proofs.Complete.{Complete}
use Rattle.explain_claim.specs.Explained.{object_appears, some_iac_appears}

-- one of two tests fails where neither passes
either_left_no : (a b : Bool) → either a b ≡ false → a ≡ false
unfolding either
either_left_no true b e = e
either_left_no false b e = refl

either_right_no : (a b : Bool) → either a b ≡ false → b ≡ false
unfolding either
either_right_no true b e = cc
either_right_no false b e = e

-- ---- the objects that the choice goes by

-- the terminal's type and codes stay
pub record SameTerminal (b d : List ℕ) : Type 0 where
  pub type : object_value d 0x9F35 ≡ object_value b 0x9F35
  pub denial_code_lem : object_value d 0xDF8121 ≡ object_value b 0xDF8121
  pub default_code_lem : object_value d 0xDF8120 ≡ object_value b 0xDF8120
  pub online_code_lem : object_value d 0xDF8122 ≡ object_value b 0xDF8122

-- and so do the card's codes
pub record SameCard (b d : List ℕ) : Type 0 where
  pub denial_code_lem : object_value d 0x9F0E ≡ object_value b 0x9F0E
  pub default_code_lem : object_value d 0x9F0D ≡ object_value b 0x9F0D
  pub online_code_lem : object_value d 0x9F0F ≡ object_value b 0x9F0F

module _ (b d : List ℕ) (t : SameTerminal b d) where
  pub same_chosen : SameCard b d → (result : List ℕ) → choice_for_tvr d result ≡ choice_for_tvr b result
  unfolding choice_for_tvr action_codes_of
  same_chosen c result =
      rw (t.type, c.denial_code_lem, t.denial_code_lem, c.online_code_lem, t.online_code_lem, c.default_code_lem, t.default_code_lem)

  pub same_choice : SameCard b d → object_value d 0x95 ≡ object_value b 0x95 → recomputed_choice d ≡ recomputed_choice b
  same_choice c r = same_chosen c _ ∙ ap
      (λ (v : StoredValue). choice_for_tvr b (first_bytes_zero_padded 5 (bytes_or_empty_if_absent v))) r

  pub same_complete : object_value d 0x95 ≡ object_value b 0x95 → Complete b → Complete d
  same_complete r w =
      record {
        results = ap is_present r ∙ w.results;
        denial_code_lem = ap is_present t.denial_code_lem ∙ w.denial_code_lem;
        default_code_lem = ap is_present t.default_code_lem ∙ w.default_code_lem;
        online_code_lem = ap is_present t.online_code_lem ∙ w.online_code_lem;
        terminal = ap (λ (v : StoredValue). listed_terminal_type (get_or (bytes_or_empty_if_absent v) 0 0)) t.type ∙
            w.terminal;
      }

-- ---- the reading of an answer

-- a row that the card may not set stays
read_own : (a : Awaited) (b s : List ℕ) → length b ≡ store_size → (k : ℕ) → card_may_set (row_at k) ≡ false
    → row_value dictionary_rows (read_answer a b s).store k ≡ row_value dictionary_rows b k
read_own a b s l k n = (read_holds P a step b s (l, refl)).1
  where
    P : List ℕ → Type 0
    P d = row_value dictionary_rows d k ≡ row_value dictionary_rows b k

    step : (d : List ℕ) (j : ℕ) (i : PrimitiveItem) → length d ≡ store_size → Unit {0} → Put (response_bit a) d j i → P d
        → P (put_row dictionary_rows d j i.value)
    step d j i m u p h =
        put_other dictionary_rows d j i.value
        (fits_row d j i.value m p.row (fits_length (row_at j) i.value p.fits).1) k
        (λ z. (let y : ◌≡◌ {A = Bool} false true = sym n ∙ ap (λ (x : ℕ). card_may_set (row_at x)) z ∙ p.card in
        let w : ◌≡◌ {A = ℕ} 0 1 = cc in omega arith)) ∙ h

-- the session's 95 and what a start sets alone
not_card : (card_may_set (row_at row_tvr) ≡ false) × (card_may_set (row_at row_terminal_type) ≡ false)
    × (card_may_set (row_at row_tac_default) ≡ false) × (card_may_set (row_at row_tac_denial) ≡ false)
    × (card_may_set (row_at row_tac_online) ≡ false) × (card_may_set (row_at row_kernel_configuration) ≡ false)
unfolding dictionary_rows
not_card = (refl, refl, refl, refl, refl, refl)

module _ (a : Awaited) (b s : List ℕ) (l : length b ≡ store_size) where
  abbrev read : List ℕ
  read = (read_answer a b s).store

  own_value : (t k : ℕ) → find_row dictionary_rows t ≡ Some k → card_may_set (row_at k) ≡ false
      → object_value read t ≡ object_value b t
  own_value t k e n = by_row dictionary_rows read t k e ∙ read_own a b s l k n ∙ sym (by_row dictionary_rows b t k e)

  pub read_results : object_value read 0x95 ≡ object_value b 0x95
  read_results = own_value 0x95 row_tvr at_95 not_card.0

  pub read_terminal : SameTerminal b read
  read_terminal =
      record {
        type = own_value 0x9F35 row_terminal_type at_9f35 not_card.1;
        denial_code_lem = own_value 0xDF8121 row_tac_denial at_df8121 not_card.3;
        default_code_lem = own_value 0xDF8120 row_tac_default at_df8120 not_card.2;
        online_code_lem = own_value 0xDF8122 row_tac_online at_df8122 not_card.4;
      }

  pub read_configuration : object_value read 0xDF811B ≡ object_value b 0xDF811B
  read_configuration = own_value 0xDF811B row_kernel_configuration at_df811b not_card.5

  -- an object of the card with bytes stays, and one that is absent stays absent unless the answer brings it
  code_kept : AllObjectsFit b → (t k : ℕ) → find_row dictionary_rows t ≡ Some k → 1 ≤ (row_at k).least
      → object_appears b read t ≡ false → object_value read t ≡ object_value b t
  code_kept f t k e m n =
      elim (bool_cases (has_object b t)) [
        | inl y ↦ read_value a b s l t k e (λ z. omega (arith, (held_length b f t k e y).0))
        | inr y ↦ absent_of (object_value read t) (ap not (sym (both_true (has_object read t) (ap not y)) ∙ n)) ∙ sym
            (absent_of (object_value b t) (ap not y))
      ]

  pub read_card : AllObjectsFit b → some_iac_appears b read ≡ false → SameCard b read
  unfolding some_iac_appears dictionary_rows
  read_card f n =
      record {
        denial_code_lem = code_kept f 0x9F0E row_iac_denial at_9f0e (omega arith)
            (either_left_no _ _ (either_right_no _ _ n));
        default_code_lem = code_kept f 0x9F0D row_iac_default at_9f0d (omega arith) (either_left_no _ _ n);
        online_code_lem = code_kept f 0x9F0F row_iac_online at_9f0f (omega arith)
            (either_right_no _ _ (either_right_no _ _ n));
      }

-- ---- the analysis

module _ (b : List ℕ) (l : length b ≡ store_size) where
  abbrev f : AnalysisFindings
  f = findings_of b

  abbrev analysed : List ℕ
  analysed = store_with_findings b f

  other : (t k : ℕ) → find_row dictionary_rows t ≡ Some k → (k ≡ row_tvr → ⊥) → (k ≡ row_cvm_results → ⊥)
      → object_value analysed t ≡ object_value b t
  other = found_other b f l (found_length b) (bits_length b)

  bits : first_bytes_zero_padded 5 (stored_bytes analysed 0x95) ≡ f.bits
  bits = ap (λ (v : StoredValue). first_bytes_zero_padded 5 (bytes_or_empty_if_absent v))
      (found_95 b f l (found_length b) (bits_length b)) ∙ front_whole 5 f.bits (bits_length b)

  terminal : SameTerminal b analysed
  terminal =
      record {
        type = other 0x9F35 row_terminal_type at_9f35 (λ z. omega arith) (λ z. omega arith);
        denial_code_lem = other 0xDF8121 row_tac_denial at_df8121 (λ z. omega arith) (λ z. omega arith);
        default_code_lem = other 0xDF8120 row_tac_default at_df8120 (λ z. omega arith) (λ z. omega arith);
        online_code_lem = other 0xDF8122 row_tac_online at_df8122 (λ z. omega arith) (λ z. omega arith);
      }

  card : SameCard b analysed
  card =
      record {
        denial_code_lem = other 0x9F0E row_iac_denial at_9f0e (λ z. omega arith) (λ z. omega arith);
        default_code_lem = other 0x9F0D row_iac_default at_9f0d (λ z. omega arith) (λ z. omega arith);
        online_code_lem = other 0x9F0F row_iac_online at_9f0f (λ z. omega arith) (λ z. omega arith);
      }

  -- the choice that is requested is the one of the store that the analysis leaves
  pub asked_choice : (l : ℕ) → (requested_cryptogram l b).choice ≡ recomputed_choice analysed
  unfolding requested_cryptogram
  asked_choice l = sym (same_chosen b analysed terminal card (first_bytes_zero_padded 5 (stored_bytes analysed 0x95)) ∙ ap
      (choice_for_tvr b) bits)
