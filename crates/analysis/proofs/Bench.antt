-- Rows of the bench table (document 01) that speak of the choice, at every store that holds what a row names: the
-- choice over its values is computed. Assumes nothing.
use mathlib.Core.List.{List, [], ◌∷◌}
use mathlib.Core.Path.{◌≡◌, refl, ap, ◌∙◌}
use Prim.Native.Nat.{ℕ}
use Rattle.basics.specs.Choice.{if, both, either}
use Rattle.store.specs.Place.{StoredValue, absent, present, object_value}
use Rattle.analysis.specs.Action.{action_codes_of, choice_for_tvr}
use Rattle.analysis.specs.Bits.{has_bit_counted_from_zero_at_byte1b8}
use Rattle.analysis.specs.Choice.{denial_stage, online_stage, default_stage, tvr_bit_is_in_either_action_code}
use Rattle.analysis.specs.Choice.{lowest_bit_from_start_within_count, lowest_tvr_bit_in_codes, iac_or_default, action_codes_at}
use Rattle.analysis.specs.Choice.{some_tvr_bit_in_codes_of_stage, online_capability_by_digit, terminal_action_analysis}
use Rattle.analysis.specs.Value.{first_bytes_zero_padded}
use Rattle.analysis.specs.declared.choice.Choice.TheVariants.{Decline, Online, Offline}
use Rattle.analysis.specs.declared.choice.Choice.{Choice}

abbrev zeros : List ℕ
zeros = 0 ∷ 0 ∷ 0 ∷ 0 ∷ 0 ∷ []

-- 95 is 80 00 00 00 00
abbrev result : List ℕ
result = 0x80 ∷ 0 ∷ 0 ∷ 0 ∷ 0 ∷ []

-- the terminal's codes are zero and there is no 9F0E
pub record Plain (store : List ℕ) : Type 0 where
  pub denial_card : object_value store 0x9F0E ≡ absent
  pub denial_terminal : object_value store 0xDF8121 ≡ present zeros
  pub online_terminal : object_value store 0xDF8122 ≡ present zeros
  pub default_terminal : object_value store 0xDF8120 ≡ present zeros

-- then the type, 9F0F and 9F0D decide
abbrev asked : ℕ → StoredValue → StoredValue → Choice
asked kind online_code default_code =
    terminal_action_analysis result kind (action_codes_at denial_stage absent zeros ∷ action_codes_at online_stage online_code
    zeros ∷ action_codes_at default_stage default_code zeros ∷ [])

asked_of : (store : List ℕ) (kind : ℕ) → Plain store → object_value store 0x9F35 ≡ present (kind ∷ [])
    → choice_for_tvr store result ≡ asked kind (object_value store 0x9F0F) (object_value store 0x9F0D)
unfolding choice_for_tvr action_codes_of
asked_of store kind p e = simp (e, p.denial_card, p.denial_terminal, p.online_terminal, p.default_terminal)

asked_rows : (v : StoredValue) → (asked 0x22 absent v ≡ Online)
    × ((asked 0x22 (present zeros) v ≡ Offline) × (asked 0x23 v absent ≡ Decline))
unfolding if both either has_bit_counted_from_zero_at_byte1b8 tvr_bit_is_in_either_action_code lowest_bit_from_start_within_count lowest_tvr_bit_in_codes
    iac_or_default some_tvr_bit_in_codes_of_stage online_capability_by_digit terminal_action_analysis first_bytes_zero_padded
asked_rows v = (refl, (refl, refl))

-- type 22 goes online with no 9F0F and stays offline with a zero one; type 23 with no 9F0D declines
pub choice_rows : (store : List ℕ) → Plain store
    → (object_value store 0x9F35 ≡ present (0x22 ∷ []) → object_value store 0x9F0F ≡ absent
    → choice_for_tvr store result ≡ Online)
    × ((object_value store 0x9F35 ≡ present (0x22 ∷ []) → object_value store 0x9F0F ≡ present zeros
    → choice_for_tvr store result ≡ Offline)
    × (object_value store 0x9F35 ≡ present (0x23 ∷ []) → object_value store 0x9F0D ≡ absent
    → choice_for_tvr store result ≡ Decline))
choice_rows store p = (
  λ e o. asked_of store 0x22 p e ∙ ap (λ (v : StoredValue). asked 0x22 v (object_value store 0x9F0D)) o ∙ (asked_rows
      _).0,
  (
    λ e o. asked_of store 0x22 p e ∙ ap (λ (v : StoredValue). asked 0x22 v (object_value store 0x9F0D)) o ∙ (asked_rows
        _).1.0,
    λ e d. asked_of store 0x23 p e ∙ ap (asked 0x23 (object_value store 0x9F0F)) d ∙ (asked_rows _).1.1,
  ),
)
