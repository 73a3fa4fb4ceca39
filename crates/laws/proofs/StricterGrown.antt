-- The terminal's online code that gets bits in any store, with nothing else changed: what the law on codes alone
-- requires holds, so it is about something.
-- Assumes nothing.
use mathlib.Core.Path.{◌≡◌, sym, ap, ◌∙◌}
use mathlib.Core.List.{List}
use Prim.Native.Nat.{ℕ, ◌≤◌}
use native.Mathlib.Omega.{arith}
use lib.ListN.{length}
use Rattle.basics.specs.Choice.{either}
use Rattle.dictionary.specs.Named.{row_tac_online}
use Rattle.dictionary.specs.Rows.{dictionary_rows, store_size}
use Rattle.dictionary.proofs.Named.{at_df8122}
use Rattle.store.specs.Place.{StoredValue, bytes_or_empty_if_absent, put_row, object_value}
use Rattle.store.proofs.Laws.{Fits}
use Rattle.store.proofs.Rows.{fits_row}
use Rattle.analysis.specs.Bits.{has_bit_counted_from_zero_at_byte1b8}
use Rattle.analysis.specs.Value.{first_bytes_zero_padded}
use Rattle.analysis.specs.Choice.{denial_stage, online_stage, default_stage, iac_or_default}
use Rattle.analysis.specs.Action.{findings_of, choice_for_tvr}
use Rattle.laws.specs.Rank.{choice_rank}
use Rattle.laws.specs.Stricter.{FortyBitsWithin, stored_iac_or_value_if_absent, stored_tac_or_zeros}
use Rattle.laws.specs.Stricter.{StoredActionCodesWithin, is_action_code_tag, AlikeButActionCodes}
use Rattle.laws.proofs.StricterLaws.{apart, never_loosens}
use Rattle.laws.proofs.StricterStored.{put_own, put_kept}

module _ (b v : List ℕ) (l : length b ≡ store_size) (n : length v ≤ 5)
    (w : FortyBitsWithin (stored_tac_or_zeros b 0xDF8122) (first_bytes_zero_padded 5 v)) where
  abbrev grown : List ℕ
  grown = put_row dictionary_rows b row_tac_online v

  fits : Fits dictionary_rows b row_tac_online v
  unfolding dictionary_rows
  fits = fits_row b row_tac_online v l (omega arith) n

  kept : (u : ℕ) → (u ≡ 0xDF8122 → ⊥) → object_value b u ≡ object_value grown u
  kept = put_kept b 0xDF8122 row_tac_online v at_df8122 fits

  alike : AlikeButActionCodes b grown
  unfolding either
  alike u e = kept u (λ z. apart (sym e ∙ ap is_action_code_tag z))

  card_same : (stage u : ℕ) → (u ≡ 0xDF8122 → ⊥) → FortyBitsWithin (stored_iac_or_value_if_absent b stage u)
      (stored_iac_or_value_if_absent grown stage u)
  card_same stage u ne i h e = ap (λ (x : StoredValue). has_bit_counted_from_zero_at_byte1b8 (iac_or_default stage x) i)
      (sym (kept u ne)) ∙ e

  terminal_same : (u : ℕ) → (u ≡ 0xDF8122 → ⊥) → FortyBitsWithin (stored_tac_or_zeros b u) (stored_tac_or_zeros grown u)
  terminal_same u ne i h e =
      ap (λ (x : StoredValue). has_bit_counted_from_zero_at_byte1b8 (first_bytes_zero_padded 5 (bytes_or_empty_if_absent x)) i)
      (sym (kept u ne)) ∙ e

  codes : StoredActionCodesWithin b grown
  codes =
      record {
        card_denial = card_same denial_stage 0x9F0E (λ z. omega arith);
        card_online = card_same online_stage 0x9F0F (λ z. omega arith);
        card_default = card_same default_stage 0x9F0D (λ z. omega arith);
        terminal_denial = terminal_same 0xDF8121 (λ z. omega arith);
        terminal_online = λ i h e.
            ap (λ (x : StoredValue). has_bit_counted_from_zero_at_byte1b8 (first_bytes_zero_padded 5 (bytes_or_empty_if_absent x)) i)
            (put_own b 0xDF8122 row_tac_online v at_df8122 fits) ∙ w i h e;
        terminal_default = terminal_same 0xDF8120 (λ z. omega arith);
      }

  pub no_higher : choice_rank (choice_for_tvr grown (findings_of grown).bits)
      ≤ choice_rank (choice_for_tvr b (findings_of b).bits)
  no_higher = never_loosens.codes_alone b grown alike codes
