-- The laws of taking objects: one for each way an object goes, and objects one after the other. Assumes nothing.
use Rattle.std.specs.Prelude.{Option, Some, None}
use mathlib.Core.Path.{◌≡◌, refl, sym, ap, ◌∙◌}
use mathlib.Core.Bool.{Bool, true, false, not}
use mathlib.Core.List.{List, [], ◌∷◌}
use Prim.Native.Nat.{ℕ}
use Rattle.basics.specs.Choice.{both}
use Rattle.basics.proofs.Laws.{if_yes, if_no, both_true, both_right, both_no_left}
use Rattle.tlv.specs.Tag.{is_private}
use Rattle.dictionary.specs.declared.RowAttributes.{RowAttributes}
use Rattle.dictionary.specs.Rows.{Row, dictionary_rows, row_at, find_row}
use Rattle.dictionary.specs.Packing.{attributes_of, row_with_attributes_and_tag_zero}
use Rattle.dictionary.specs.Form.{length_and_digits_fit_row}
use Rattle.store.specs.Place.{is_row_absent_or_empty, put_row}
use Rattle.reading.specs.Taking.{PrimitiveItem, allowed_in_template, card_may_set, row_allows_value_from_card}
use Rattle.reading.specs.Taking.{row_allows_value_and_absent_or_empty}
use Rattle.reading.specs.Taking.{StoringState, storing_state, store_known_item, store_item_of_row_found, store_item}
use Rattle.reading.specs.Taking.{store_next_item, store_all_items}

-- ---- one object

module _ (answer : ℕ) (b : List ℕ) (i : PrimitiveItem) (x : Option ℕ) (p : x ≡ find_row dictionary_rows i.tag) where
  pub item_unknown : x ≡ None → store_item answer b i ≡ storing_state true b
  unfolding store_item
  item_unknown q = ap (store_item_of_row_found answer b i) (sym p ∙ q)

  module _ (k : ℕ) (q : x ≡ Some k) where
    known : store_item answer b i ≡ store_known_item answer b i k
    unfolding store_item
    known = ap (store_item_of_row_found answer b i) (sym p ∙ q)

    pub item_skipped : both (is_private i.tag) (not (card_may_set (row_at k))) ≡ true
        → store_item answer b i ≡ storing_state true b
    item_skipped s = known ∙ if_yes _ _ s

    pub item_barred : both (is_private i.tag) (not (card_may_set (row_at k))) ≡ false
        → row_allows_value_from_card answer (row_at k) i.around i.value ≡ false
        → store_item answer b i ≡ storing_state false b
    unfolding row_allows_value_and_absent_or_empty
    item_barred s a = known ∙ if_no _ _ s ∙ if_no _ _ (both_no_left _ _ a)

    -- an object that may come is put where no bytes are present yet
    pub item_put : both (is_private i.tag) (not (card_may_set (row_at k))) ≡ false
        → row_allows_value_from_card answer (row_at k) i.around i.value ≡ true
        → is_row_absent_or_empty dictionary_rows b k ≡ true
        → store_item answer b i ≡ storing_state true (put_row dictionary_rows b k i.value)
    unfolding row_allows_value_and_absent_or_empty
    item_put s a e = known ∙ if_no _ _ s ∙ if_yes _ _ (both_true _ a ∙ e)

    pub item_again : both (is_private i.tag) (not (card_may_set (row_at k))) ≡ false
        → row_allows_value_from_card answer (row_at k) i.around i.value ≡ true
        → is_row_absent_or_empty dictionary_rows b k ≡ false → store_item answer b i ≡ storing_state false b
    unfolding row_allows_value_and_absent_or_empty
    item_again s a e = known ∙ if_no _ _ s ∙ if_no _ _ (both_true _ a ∙ e)

-- attributes of a row: what is skipped and what may come by them
pub row_skipped : (t : ℕ) (x : Row) {r : Bool} {a : RowAttributes}
    → r ≡ both (is_private t) (not (card_may_set (row_with_attributes_and_tag_zero a))) → a ≡ attributes_of x
    → r ≡ both (is_private t) (not (card_may_set x))
row_skipped t x e f =
    e ∙ ap (λ (z : RowAttributes). both (is_private t) (not (card_may_set (row_with_attributes_and_tag_zero z)))) f

pub row_comes : (answer : ℕ) (x : Row) (around : ℕ) (v : List ℕ) {r : Bool} {a : RowAttributes}
    → r ≡ row_allows_value_from_card answer (row_with_attributes_and_tag_zero a) around v → a ≡ attributes_of x
    → r ≡ row_allows_value_from_card answer x around v
unfolding row_allows_value_from_card allowed_in_template length_and_digits_fit_row
row_comes answer x around v e f =
    e ∙ ap (λ (z : RowAttributes). row_allows_value_from_card answer (row_with_attributes_and_tag_zero z) around v) f

-- a value that may come fits its row
pub may_come_fits : (answer : ℕ) (r : Row) (around : ℕ) (v : List ℕ) → row_allows_value_from_card answer r around v ≡ true
    → length_and_digits_fit_row r v ≡ true
unfolding row_allows_value_from_card
may_come_fits answer r around v e = both_right _ _ (both_right _ _ (both_right _ _ e))

-- ---- one after the other

pub next_good : (answer : ℕ) {g : Bool} (b : List ℕ) (i : PrimitiveItem) → g ≡ true
    → store_next_item answer (storing_state g b) i ≡ store_item answer b i
unfolding store_next_item
next_good answer b i e = if_yes _ _ e

pub next_bad : (answer : ℕ) {g : Bool} (b : List ℕ) (i : PrimitiveItem) → g ≡ false
    → store_next_item answer (storing_state g b) i ≡ storing_state g b
unfolding store_next_item
next_bad answer b i e = if_no _ _ e

-- the objects after one that was taken
pub took : (answer : ℕ) (w : StoringState) {v : StoringState} (i : PrimitiveItem) (is : List PrimitiveItem)
    → v ≡ store_next_item answer w i → store_all_items answer w (i ∷ is) ≡ store_all_items answer v is
unfolding store_all_items
took answer w i is e = ap (λ (z : StoringState). store_all_items answer z is) (sym e)

pub took_all : (answer : ℕ) (w : StoringState) → store_all_items answer w [] ≡ w
unfolding store_all_items
took_all answer w = refl
