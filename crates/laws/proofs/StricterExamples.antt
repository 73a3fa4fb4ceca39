-- Changes computed: additions by which the choice falls, so that the law is about something, additions that keep it,
-- and changes that are no additions and raise it, with the ranks before and after. A change is of the TVR, the type and
-- the codes; what is computed holds in the stores made of them. Whether it is an addition is computed too, by a test
-- over the forty bits of each list that is correct in both directions.
-- Assumes nothing.
use mathlib.Core.Path.{◌≡◌, refl, sym, ap, ap₂, ◌∙◌}
use mathlib.Core.Bool.{Bool, true, false}
use mathlib.Core.List.{List, [], ◌∷◌, map, ◌++◌}
use Prim.Native.Nat.{ℕ, ◌+◌, ◌*◌, ◌≤◌}
use lib.ListN.{get_or}
use borrow.Author.Tests.{eqb-true, eq-eqb}
use Rattle.basics.specs.Choice.{if, both, either, every, ◌and◌, ◌=?◌}
use Rattle.basics.proofs.Laws.{both_left, both_right, both_yes}
use Rattle.dictionary.specs.Rows.{dictionary_rows, row_found_shifted, find_row}
use Rattle.store.specs.Place.{StoredValue, absent, bytes_or_empty_if_absent, object_value}
use Rattle.analysis.specs.Bits.{has_bit_counted_from_zero_at_byte1b8}
use Rattle.analysis.specs.Value.{first_bytes_zero_padded}
use Rattle.analysis.specs.Choice.{denial_stage, online_stage, default_stage, tvr_bit_is_in_either_action_code, lowest_bit_from_start_within_count}
use Rattle.analysis.specs.Choice.{lowest_tvr_bit_in_codes, all_zeros_action_code, all_ones_action_code, iac_or_default}
use Rattle.analysis.specs.Choice.{action_codes_at, some_tvr_bit_in_codes_of_stage, online_capability_by_digit}
use Rattle.analysis.specs.Choice.{terminal_action_analysis}
use Rattle.analysis.specs.Action.{terminal_type, action_codes_of, choice_for_tvr}
use Rattle.analysis.specs.declared.choice.Choice.{Choice}
use Rattle.analysis.specs.declared.choice.Choice.TheVariants.{Decline, Online, Offline}
use Rattle.laws.specs.Rank.{choice_rank}
use Rattle.laws.specs.Stricter.{FortyBitsWithin, StoredActionCodesWithin}
use Rattle.laws.proofs.StricterContained.{contained, contained_within, within_contained}
use Rattle.laws.proofs.StricterLaws.{never_loosens}
use Rattle.laws.proofs.StricterStored.{value_among, store_of, have_room, stored}

-- ---- what the choice is made of

-- the tags of the type and of the codes: denial, online, default, each of card and terminal
abbrev tags : List ℕ
tags = 0x9F35 ∷ 0x9F0E ∷ 0xDF8121 ∷ 0x9F0F ∷ 0xDF8122 ∷ 0x9F0D ∷ 0xDF8120 ∷ []

-- the TVR, and the values of these tags
record State : Type 0 where
  bits : List ℕ
  values : List StoredValue

-- a TVR, with what a store holds
abbrev in_store : List ℕ → List ℕ → State
in_store r b = record { bits = r; values = map (object_value b) tags }

-- the type; the codes of a stage
abbrev type_of : State → ℕ
type_of x = get_or (bytes_or_empty_if_absent (get_or x.values 0 absent)) 0 0

abbrev card_value : State → ℕ → StoredValue
card_value x stage = get_or x.values (2 * stage + 1) absent

abbrev terminal_bytes : State → ℕ → List ℕ
terminal_bytes x stage = bytes_or_empty_if_absent (get_or x.values (2 * stage + 2) absent)

abbrev choice : State → Choice
choice x =
    terminal_action_analysis x.bits (type_of x)
    (action_codes_at denial_stage (card_value x denial_stage) (terminal_bytes x denial_stage)
    ∷ action_codes_at online_stage (card_value x online_stage) (terminal_bytes x online_stage)
    ∷ action_codes_at default_stage (card_value x default_stage) (terminal_bytes x default_stage)
    ∷ [])

-- of a store it is the choice there
choice_is : (r b : List ℕ) → choice (in_store r b) ≡ choice_for_tvr b r
unfolding choice_for_tvr action_codes_of
choice_is r b = refl

-- ---- an addition

-- the codes of a stage are contained in the new ones, each as it is read
abbrev card_adds : State → State → ℕ → Bool
card_adds x y stage = contained (iac_or_default stage (card_value x stage)) (iac_or_default stage (card_value y stage))

abbrev terminal_adds : State → State → ℕ → Bool
terminal_adds x y stage = contained (first_bytes_zero_padded 5 (terminal_bytes x stage))
    (first_bytes_zero_padded 5 (terminal_bytes y stage))

abbrev codes_add : State → State → Bool
codes_add x y =
    card_adds x y denial_stage and card_adds x y online_stage and card_adds x y default_stage
    and terminal_adds x y denial_stage and terminal_adds x y online_stage and terminal_adds x y default_stage

-- the type is kept, and the TVR and all codes are contained in the new ones
abbrev is_addition : State → State → Bool
is_addition x y = type_of y =? type_of x and contained x.bits y.bits and codes_add x y

-- of two stores the test says what the law requires
module _ (r s b c : List ℕ) where
  codes_added : codes_add (in_store r b) (in_store s c) ≡ true → StoredActionCodesWithin b c
  codes_added e =
      let e1 = both_right _ _ e in
      let e2 = both_right _ _ e1 in
      let e3 = both_right _ _ e2 in
      let e4 = both_right _ _ e3 in
      record {
        card_denial = contained_within _ _ (both_left _ _ e);
        card_online = contained_within _ _ (both_left _ _ e1);
        card_default = contained_within _ _ (both_left _ _ e2);
        terminal_denial = contained_within _ _ (both_left _ _ e3);
        terminal_online = contained_within _ _ (both_left _ _ e4);
        terminal_default = contained_within _ _ (both_right _ _ e4);
      }

  -- where it passes the law speaks of the change
  never_higher : is_addition (in_store r b) (in_store s c) ≡ true → choice_rank (choice_for_tvr c s)
      ≤ choice_rank (choice_for_tvr b r)
  never_higher e =
      let more = both_right _ _ e in
      never_loosens.stores r s b c (eqb-true _ _ (both_left _ _ e)) (contained_within _ _ (both_left _ _ more))
      (codes_added (both_right _ _ more))

  -- where it fails the law does not
  addition_passes : terminal_type c ≡ terminal_type b → FortyBitsWithin r s → StoredActionCodesWithin b c
      → is_addition (in_store r b) (in_store s c) ≡ true
  addition_passes e g w =
      both_yes _ _ (eq-eqb _ _ e)
      (both_yes _ _ (within_contained _ _ g)
      (both_yes _ _ (within_contained _ _ w.card_denial)
      (both_yes _ _ (within_contained _ _ w.card_online)
      (both_yes _ _ (within_contained _ _ w.card_default)
      (both_yes _ _ (within_contained _ _ w.terminal_denial)
      (both_yes _ _ (within_contained _ _ w.terminal_online) (within_contained _ _ w.terminal_default)))))))

-- ---- changes

-- a TVR, with objects by tag and value
abbrev state : List ℕ → List (ℕ × List ℕ) → State
state r l = record { bits = r; values = map (value_among l) tags }

-- a TVR and objects, before and after
record Change : Type 0 where
  old_bits : List ℕ
  old : List (ℕ × List ℕ)
  new_bits : List ℕ
  new : List (ℕ × List ℕ)

abbrev change : List ℕ → List (ℕ × List ℕ) → List ℕ → List (ℕ × List ℕ) → Change
change r l s m = record { old_bits = r; old = l; new_bits = s; new = m }

-- the codes change alone, the TVR alone
abbrev codes : List ℕ → List (ℕ × List ℕ) → List (ℕ × List ℕ) → Change
codes r l m = change r l r m

abbrev result : List ℕ → List ℕ → List (ℕ × List ℕ) → Change
result r s l = change r l s l

abbrev old_choice : Change → Choice
old_choice x = choice (state x.old_bits x.old)

abbrev new_choice : Change → Choice
new_choice x = choice (state x.new_bits x.new)

-- the change is an addition
abbrev adds : Change → Bool
adds x = is_addition (state x.old_bits x.old) (state x.new_bits x.new)

-- the choices before and after, each with its rank
abbrev ranks : Change → List (Choice × ℕ)
ranks x = (old_choice x, choice_rank (old_choice x)) ∷ (new_choice x, choice_rank (new_choice x)) ∷ []

-- a terminal of a type with codes of zeros, and no code of the card
abbrev terminal : ℕ → List (ℕ × List ℕ)
terminal kind = (0x9F35, kind ∷ []) ∷ (0xDF8121, all_zeros_action_code) ∷ (0xDF8122, all_zeros_action_code)
    ∷ (0xDF8120, all_zeros_action_code) ∷ []

-- byte 1 b8; byte 2 b7; both; byte 5 b1; byte 5 b2
abbrev first : List ℕ
first = 0x80 ∷ 0 ∷ 0 ∷ 0 ∷ 0 ∷ []

abbrev expiry : List ℕ
expiry = 0 ∷ 0x40 ∷ 0 ∷ 0 ∷ 0 ∷ []

abbrev first_and_expiry : List ℕ
first_and_expiry = 0x80 ∷ 0x40 ∷ 0 ∷ 0 ∷ 0 ∷ []

abbrev last : List ℕ
last = 0 ∷ 0 ∷ 0 ∷ 0 ∷ 0x01 ∷ []

abbrev last_but_one : List ℕ
last_but_one = 0 ∷ 0 ∷ 0 ∷ 0 ∷ 0x02 ∷ []

-- ---- additions by which the choice falls

abbrev falling : List Change
falling =
    -- types 22 and 25, online: zeros of the card get byte 1 b8; they go away; the terminal's code gets it
    codes first ((0x9F0F, all_zeros_action_code) ∷ terminal 0x22) ((0x9F0F, first) ∷ terminal 0x22)
    ∷ codes first ((0x9F0F, all_zeros_action_code) ∷ terminal 0x22) (terminal 0x22)
    ∷ codes first ((0x9F0F, all_zeros_action_code) ∷ terminal 0x25) ((0x9F0F, all_zeros_action_code) ∷ (0xDF8122, first)
    ∷ terminal 0x25)
    -- types 22, 34 and 21, denial: a code of the card appears; one gets a bit more; the terminal's gets one
    ∷ codes first (terminal 0x22) ((0x9F0E, first) ∷ terminal 0x22)
    ∷ codes first ((0x9F0E, expiry) ∷ terminal 0x34) ((0x9F0E, first_and_expiry) ∷ terminal 0x34)
    ∷ codes expiry (terminal 0x21) ((0xDF8121, expiry) ∷ terminal 0x21)
    -- types 23 and 26, default: zeros of the card get a bit; they go away; the terminal's code gets one, the
    -- card's has another
    ∷ codes first ((0x9F0D, all_zeros_action_code) ∷ terminal 0x23) ((0x9F0D, first) ∷ terminal 0x23)
    ∷ codes first ((0x9F0D, all_zeros_action_code) ∷ terminal 0x26) (terminal 0x26)
    ∷ codes expiry ((0x9F0D, first) ∷ terminal 0x23) ((0x9F0D, first) ∷ (0xDF8120, expiry) ∷ terminal 0x23)
    -- the TVR gets byte 5 b1, which the online, the denial, the default code has
    ∷ result all_zeros_action_code last ((0x9F0F, last) ∷ terminal 0x22)
    ∷ result all_zeros_action_code last ((0x9F0E, last) ∷ (0x9F0D, all_zeros_action_code) ∷ terminal 0x36)
    ∷ result all_zeros_action_code last ((0x9F0D, last) ∷ terminal 0x13)
    -- the TVR and two codes at once; by the TVR alone, or by the codes alone, the choice is kept: see below
    ∷ change all_zeros_action_code ((0x9F0F, all_zeros_action_code) ∷ terminal 0x25) last
    ((0x9F0F, last) ∷ (0xDF8121, last) ∷ terminal 0x25)
    ∷ []

falling_adds : map adds falling ≡ true ∷ true ∷ true ∷ true ∷ true ∷ true ∷ true ∷ true ∷ true ∷ true ∷ true ∷ true
    ∷ true ∷ []
unfolding value_among lowest_bit_from_start_within_count iac_or_default has_bit_counted_from_zero_at_byte1b8 first_bytes_zero_padded both either if
falling_adds = refl

falling_ranks : map ranks falling
    ≡ ((Offline, 2) ∷ (Online, 1) ∷ [])
    ∷ ((Offline, 2) ∷ (Online, 1) ∷ [])
    ∷ ((Offline, 2) ∷ (Online, 1) ∷ [])
    ∷ ((Online, 1) ∷ (Decline, 0) ∷ [])
    ∷ ((Online, 1) ∷ (Decline, 0) ∷ [])
    ∷ ((Online, 1) ∷ (Decline, 0) ∷ [])
    ∷ ((Offline, 2) ∷ (Decline, 0) ∷ [])
    ∷ ((Offline, 2) ∷ (Decline, 0) ∷ [])
    ∷ ((Offline, 2) ∷ (Decline, 0) ∷ [])
    ∷ ((Offline, 2) ∷ (Online, 1) ∷ [])
    ∷ ((Offline, 2) ∷ (Decline, 0) ∷ [])
    ∷ ((Offline, 2) ∷ (Decline, 0) ∷ [])
    ∷ ((Offline, 2) ∷ (Decline, 0) ∷ [])
    ∷ []
unfolding value_among terminal_action_analysis online_capability_by_digit some_tvr_bit_in_codes_of_stage lowest_tvr_bit_in_codes
    lowest_bit_from_start_within_count tvr_bit_is_in_either_action_code iac_or_default has_bit_counted_from_zero_at_byte1b8 first_bytes_zero_padded both
    either if
falling_ranks = refl

-- ---- additions by which the choice is kept

abbrev keeping : List Change
keeping =
    -- the last one's TVR alone, and its codes alone
    result all_zeros_action_code last ((0x9F0F, all_zeros_action_code) ∷ terminal 0x25)
    ∷ codes all_zeros_action_code ((0x9F0F, all_zeros_action_code) ∷ terminal 0x25)
    ((0x9F0F, last) ∷ (0xDF8121, last) ∷ terminal 0x25)
    -- a code of ones appears, of online and of default; a denial code of zeros goes away
    ∷ codes first (terminal 0x22) ((0x9F0F, all_ones_action_code) ∷ terminal 0x22)
    ∷ codes first (terminal 0x23) ((0x9F0D, all_ones_action_code) ∷ terminal 0x23)
    ∷ codes first ((0x9F0E, all_zeros_action_code) ∷ terminal 0x22) (terminal 0x22)
    -- a type that is not listed declines on any codes
    ∷ codes first (terminal 0x27) ((0x9F0E, first) ∷ terminal 0x27)
    ∷ []

keeping_adds : map adds keeping ≡ true ∷ true ∷ true ∷ true ∷ true ∷ true ∷ []
unfolding value_among lowest_bit_from_start_within_count iac_or_default has_bit_counted_from_zero_at_byte1b8 first_bytes_zero_padded both either if
keeping_adds = refl

keeping_ranks : map ranks keeping
    ≡ ((Offline, 2) ∷ (Offline, 2) ∷ [])
    ∷ ((Offline, 2) ∷ (Offline, 2) ∷ [])
    ∷ ((Online, 1) ∷ (Online, 1) ∷ [])
    ∷ ((Decline, 0) ∷ (Decline, 0) ∷ [])
    ∷ ((Online, 1) ∷ (Online, 1) ∷ [])
    ∷ ((Decline, 0) ∷ (Decline, 0) ∷ [])
    ∷ []
unfolding value_among terminal_action_analysis online_capability_by_digit some_tvr_bit_in_codes_of_stage lowest_tvr_bit_in_codes
    lowest_bit_from_start_within_count tvr_bit_is_in_either_action_code iac_or_default has_bit_counted_from_zero_at_byte1b8 first_bytes_zero_padded both
    either if
keeping_ranks = refl

-- ---- changes that are no additions, by which the choice rises

abbrev rising : List Change
rising =
    -- a code of zeros appears, of online and of default; a denial code with a bit goes away
    codes first (terminal 0x22) ((0x9F0F, all_zeros_action_code) ∷ terminal 0x22)
    ∷ codes first (terminal 0x23) ((0x9F0D, all_zeros_action_code) ∷ terminal 0x23)
    ∷ codes first ((0x9F0E, first) ∷ terminal 0x22) (terminal 0x22)
    -- the TVR loses a bit
    ∷ result first all_zeros_action_code ((0x9F0F, first) ∷ terminal 0x22)
    -- the terminal's online code is a greater number, by its bytes and in one byte, and loses a bit
    ∷ codes expiry ((0x9F0F, all_zeros_action_code) ∷ (0xDF8122, expiry) ∷ terminal 0x22)
    ((0x9F0F, all_zeros_action_code) ∷ (0xDF8122, first) ∷ terminal 0x22)
    ∷ codes last ((0x9F0F, all_zeros_action_code) ∷ (0xDF8122, last) ∷ terminal 0x22)
    ((0x9F0F, all_zeros_action_code) ∷ (0xDF8122, last_but_one) ∷ terminal 0x22)
    -- another type
    ∷ codes first ((0x9F0F, all_zeros_action_code) ∷ terminal 0x21) ((0x9F0F, all_zeros_action_code) ∷ terminal 0x22)
    ∷ []

rising_adds : map adds rising ≡ false ∷ false ∷ false ∷ false ∷ false ∷ false ∷ false ∷ []
unfolding value_among lowest_bit_from_start_within_count iac_or_default has_bit_counted_from_zero_at_byte1b8 first_bytes_zero_padded both either if
rising_adds = refl

rising_ranks : map ranks rising
    ≡ ((Online, 1) ∷ (Offline, 2) ∷ [])
    ∷ ((Decline, 0) ∷ (Offline, 2) ∷ [])
    ∷ ((Decline, 0) ∷ (Online, 1) ∷ [])
    ∷ ((Online, 1) ∷ (Offline, 2) ∷ [])
    ∷ ((Online, 1) ∷ (Offline, 2) ∷ [])
    ∷ ((Online, 1) ∷ (Offline, 2) ∷ [])
    ∷ ((Online, 1) ∷ (Offline, 2) ∷ [])
    ∷ []
unfolding value_among terminal_action_analysis online_capability_by_digit some_tvr_bit_in_codes_of_stage lowest_tvr_bit_in_codes
    lowest_bit_from_start_within_count tvr_bit_is_in_either_action_code iac_or_default has_bit_counted_from_zero_at_byte1b8 first_bytes_zero_padded both
    either if
rising_ranks = refl

-- ---- in stores

-- each change is one between two stores that are made of its objects
abbrev storable : Change → Bool
storable x = have_room x.old and have_room x.new

all_storable : every storable (falling ++ keeping ++ rising) ≡ true
unfolding every both have_room find_row row_found_shifted if dictionary_rows
all_storable = refl

same_values : (f g : ℕ → StoredValue) → ((t : ℕ) → f t ≡ g t) → (ts : List ℕ) → map f ts ≡ map g ts
same_values f g e [] = refl
same_values f g e (t ∷ ts) = ap₂ (λ (x : StoredValue) (xs : List StoredValue). x ∷ xs) (e t) (same_values f g e ts)

-- such a store holds what the choice is made of, so the choice there is the one that is computed
module _ (r : List ℕ) (l : List (ℕ × List ℕ)) (h : have_room l ≡ true) where
  in_store_lem : in_store r (store_of l) ≡ state r l
  in_store_lem = ap (λ (vs : List StoredValue). record { bits = r; values = vs }) (same_values _ _ (stored l h) tags)

  choice_stored : choice_for_tvr (store_of l) r ≡ choice (state r l)
  choice_stored = sym (choice_is r (store_of l)) ∙ ap choice in_store_lem

-- and the change is an addition there exactly where the test passes
adds_stored : (x : Change) → storable x ≡ true → is_addition (in_store x.old_bits (store_of x.old))
    (in_store x.new_bits (store_of x.new)) ≡ adds x
adds_stored x h = ap₂ is_addition (in_store_lem x.old_bits x.old (both_left _ _ h))
    (in_store_lem x.new_bits x.new (both_right _ _ h))
