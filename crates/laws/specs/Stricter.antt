-- Stricter codes never loosen (document 02, Item 13): where bits are added to the TVR or to the action codes of card
-- (IAC) and terminal (TAC), each as it is read, with the terminal type kept, the new choice ranks no higher than the
-- old. Any number of the seven may have grown at once, and the type may be any number, listed or not.
-- Assumes nothing.
use Rattle.std.specs.Prelude.{◌≡◌, Bool, true, false, List, ℕ, ◌≤◌, ◌<◌, get_or}
use Rattle.basics.specs.Types.{Value, StoreBytes, TvrBytes, Tag}
use Rattle.basics.specs.Choice.{◌or◌, ◌=?◌}
use Rattle.store.specs.Place.{absent, present, object_value}
use Rattle.store.specs.Held.{stored_bytes}
use Rattle.analysis.specs.Bits.{has_bit_counted_from_zero_at_byte1b8}
use Rattle.analysis.specs.Value.{first_bytes_zero_padded}
use Rattle.analysis.specs.Choice.{denial_stage, online_stage, default_stage, iac_or_default, no_action_codes}
use Rattle.analysis.specs.Choice.{terminal_action_analysis}
use Rattle.analysis.specs.Action.{terminal_type, findings_of, choice_for_tvr}
use Rattle.analysis.specs.declared.choice.ActionCodes.{ActionCodes}
use Rattle.laws.specs.Rank.{choice_rank}

-- ---- containment, bit by bit

-- the second value is the first with bits added, or with none: each of the forty bits, byte 1 b8 to byte 5 b1, that
-- the first has is in the second too
abbrev pub FortyBitsWithin : Value → Value → Type 0
FortyBitsWithin s t =
    (i : ℕ) → i < 40 → has_bit_counted_from_zero_at_byte1b8 s i ≡ true → has_bit_counted_from_zero_at_byte1b8 t i ≡ true

-- all forty bits are set
abbrev pub AllFortyBitsSet : Value → Type 0
AllFortyBitsSet s = (i : ℕ) → i < 40 → has_bit_counted_from_zero_at_byte1b8 s i ≡ true

-- none of the forty bits is set
abbrev pub NoneOfFortyBitsSet : Value → Type 0
NoneOfFortyBitsSet s = (i : ℕ) → i < 40 → has_bit_counted_from_zero_at_byte1b8 s i ≡ false

-- of two pairs, the card's code and the terminal's
pub record ActionCodesWithin (old_codes new_codes : ActionCodes) : Type 0 where
  pub card : FortyBitsWithin old_codes.card new_codes.card
  pub terminal : FortyBitsWithin old_codes.terminal new_codes.terminal

-- at each of the three stages
abbrev pub ActionCodesWithinAtStages : List ActionCodes → List ActionCodes → Type 0
ActionCodesWithinAtStages ps qs =
    (stage : ℕ) → stage < 3 → ActionCodesWithin (get_or ps stage no_action_codes) (get_or qs stage no_action_codes)

-- ---- codes of a store, as they are read

-- the card's code of a stage under its tag: zeros for denial and ones for the others where it is absent
abbrev pub stored_iac_or_value_if_absent : StoreBytes → ℕ → Tag → Value
stored_iac_or_value_if_absent store stage tag = iac_or_default stage (object_value store tag)

-- the terminal's code under its tag: zeros where it is absent, which no running session's is
abbrev pub stored_tac_or_zeros : StoreBytes → Tag → Value
stored_tac_or_zeros store tag = first_bytes_zero_padded 5 (stored_bytes store tag)

-- each of the six codes of the old store b is contained in the new store c's; stages and tags are document 01's pairs
pub record StoredActionCodesWithin (old_store new_store : StoreBytes) : Type 0 where
  pub card_denial : FortyBitsWithin (stored_iac_or_value_if_absent old_store denial_stage 0x9F0E)
      (stored_iac_or_value_if_absent new_store denial_stage 0x9F0E)
  pub card_online : FortyBitsWithin (stored_iac_or_value_if_absent old_store online_stage 0x9F0F)
      (stored_iac_or_value_if_absent new_store online_stage 0x9F0F)
  pub card_default : FortyBitsWithin (stored_iac_or_value_if_absent old_store default_stage 0x9F0D)
      (stored_iac_or_value_if_absent new_store default_stage 0x9F0D)
  pub terminal_denial : FortyBitsWithin (stored_tac_or_zeros old_store 0xDF8121) (stored_tac_or_zeros new_store 0xDF8121)
  pub terminal_online : FortyBitsWithin (stored_tac_or_zeros old_store 0xDF8122) (stored_tac_or_zeros new_store 0xDF8122)
  pub terminal_default : FortyBitsWithin (stored_tac_or_zeros old_store 0xDF8120) (stored_tac_or_zeros new_store 0xDF8120)

-- a tag is one of the six codes'
abbrev pub is_action_code_tag : Tag → Bool
is_action_code_tag tag =
    tag =? 0x9F0E or tag =? 0x9F0F or tag =? 0x9F0D
    or tag =? 0xDF8121 or tag =? 0xDF8122 or tag =? 0xDF8120

-- two stores are alike but for the six codes
abbrev pub AlikeButActionCodes : StoreBytes → StoreBytes → Type 0
AlikeButActionCodes b c = (tag : Tag) → is_action_code_tag tag ≡ false → object_value b tag ≡ object_value c tag

-- ---- what `choice_rank` promises

-- added bits never raise the choice. Old are the TVR r, the pairs ps and the store b; new are s, qs and c
pub record AddedBitsNeverRaiseChoice : Type 0 where
  -- over any TVR, type and pairs of codes
  pub lists : (r s : TvrBytes) (kind : ℕ) (ps qs : List ActionCodes) → FortyBitsWithin r s
      → ActionCodesWithinAtStages ps qs
      → choice_rank (terminal_action_analysis s kind qs) ≤ choice_rank (terminal_action_analysis r kind ps)
  -- over any two stores of one terminal type, on any TVR
  pub stores : (r s : TvrBytes) (b c : StoreBytes) → terminal_type c ≡ terminal_type b → FortyBitsWithin r s
      → StoredActionCodesWithin b c
      → choice_rank (choice_for_tvr c s) ≤ choice_rank (choice_for_tvr b r)
  -- over any two stores alike but for the codes, on the TVR that is found in each: what a session requests
  pub codes_alone : (b c : StoreBytes) → AlikeButActionCodes b c → StoredActionCodesWithin b c
      → choice_rank (choice_for_tvr c (findings_of c).bits) ≤ choice_rank (choice_for_tvr b (findings_of b).bits)

-- a card's code of a stage that appears with the value v, and one that goes away, is an addition
abbrev pub AppearingIacOnlyAddsBits : ℕ → Value → Type 0
AppearingIacOnlyAddsBits stage v = FortyBitsWithin (iac_or_default stage absent) (iac_or_default stage (present v))

abbrev pub DisappearingIacOnlyAddsBits : ℕ → Value → Type 0
DisappearingIacOnlyAddsBits stage v = FortyBitsWithin (iac_or_default stage (present v)) (iac_or_default stage absent)

-- whether a card's code that appears, or goes away, is an addition; a stage other than denial is online or default
pub record IacAppearingOrLeavingRules : Type 0 where
  -- a denial code that appears always is
  pub denial_appears : (v : Value) → AppearingIacOnlyAddsBits denial_stage v
  -- a denial code that goes away is an addition where it has no bit, and only there
  pub denial_leaves : (v : Value) → NoneOfFortyBitsSet (first_bytes_zero_padded 5 v)
      → DisappearingIacOnlyAddsBits denial_stage v
  pub only_zeros : (v : Value) → DisappearingIacOnlyAddsBits denial_stage v
      → NoneOfFortyBitsSet (first_bytes_zero_padded 5 v)
  -- an online or default code that appears is an addition where it is all ones, and only there
  pub other_appears : (stage : ℕ) (v : Value) → (stage ≡ denial_stage → ⊥)
      → AllFortyBitsSet (first_bytes_zero_padded 5 v) → AppearingIacOnlyAddsBits stage v
  pub only_ones : (stage : ℕ) (v : Value) → (stage ≡ denial_stage → ⊥) → AppearingIacOnlyAddsBits stage v
      → AllFortyBitsSet (first_bytes_zero_padded 5 v)
  -- an online or default code that goes away always is an addition
  pub other_leaves : (stage : ℕ) (v : Value) → (stage ≡ denial_stage → ⊥) → DisappearingIacOnlyAddsBits stage v
