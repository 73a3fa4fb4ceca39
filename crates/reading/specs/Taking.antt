-- Taking a card's primitive objects into a store (document 01, "Reading an answer"; Book C-2, 4.1.3): in the order of
-- the bytes, each skipped, stored, or not allowed.
-- Assumes nothing.
use Rattle.std.specs.Prelude.{Bool, true, false, not, List, [], ◌∷◌, ◌++◌, ℕ, Option, Some, None}
use Rattle.basics.specs.Types.{StoreBytes, Value, Tag, RowNumber}
use Rattle.basics.specs.Choice.{when◌then◌else◌, ◌and◌, ◌=?◌}
use Rattle.basics.specs.Number.{has_bit_of_weight}
use Rattle.tlv.specs.Tag.{is_private}
use Rattle.tlv.specs.Tree.{Forest, end, leaf, node}
use Rattle.dictionary.specs.Rows.{Row, dictionary_rows, row_at, find_row, set_by_card, in_template70, in_template77}
use Rattle.dictionary.specs.Rows.{in_template_a5, in_template_bf0c, in_template6f}
use Rattle.dictionary.specs.Form.{length_and_digits_fit_row}
use Rattle.store.specs.Place.{is_row_absent_or_empty, put_row}

-- a primitive object as it is in an answer: the tag of the template directly around it, its own tag, its value
pub record PrimitiveItem : Type 0 where
  pub around : Tag
  pub tag : Tag
  pub value : Value

-- an object of these parts
abbrev pub primitive_item : Tag → Tag → Value → PrimitiveItem
primitive_item a t v = record { around = a; tag = t; value = v }

-- the primitive objects of a tree, in the order of the bytes
unfoldable pub primitive_items : Tag → Forest → List PrimitiveItem
primitive_items a end = []
primitive_items a (leaf t v r) = primitive_item a t v ∷ primitive_items a r
primitive_items a (node t f r) = primitive_items t f ++ primitive_items a r

-- a template is one of a set of templates; one other than these five is in none
abbrev pub is_template_in_set : ℕ → Tag → Bool
is_template_in_set templates around =
    when around =? 0x70 then has_bit_of_weight templates in_template70
    else when around =? 0x77 then has_bit_of_weight templates in_template77
    else when around =? 0xA5 then has_bit_of_weight templates in_template_a5
    else when around =? 0xBF0C then has_bit_of_weight templates in_template_bf0c
    else when around =? 0x6F then has_bit_of_weight templates in_template6f
    else false

-- a row's object may be directly inside this template
unfoldable pub allowed_in_template : Row → Tag → Bool
allowed_in_template r around = is_template_in_set r.templates around

-- a row's object may be set by the card
abbrev pub card_may_set : Row → Bool
card_may_set r = has_bit_of_weight r.setters set_by_card

-- the card may bring a row's object in this answer, directly inside this template, with this value: it fits the row
unfoldable pub row_allows_value_from_card : ℕ → Row → Tag → Value → Bool
row_allows_value_from_card answer r around v =
    card_may_set r
    and has_bit_of_weight r.answers answer
    and allowed_in_template r around
    and length_and_digits_fit_row r v

-- the card may set row k's object so, and no non-empty one is present
unfoldable pub row_allows_value_and_absent_or_empty : ℕ → StoreBytes → RowNumber → Tag → Value → Bool
row_allows_value_and_absent_or_empty answer b k around v =
    row_allows_value_from_card answer (row_at k) around v and is_row_absent_or_empty dictionary_rows b k

-- the store while objects are taken, and whether every one so far was allowed
pub record StoringState : Type 0 where
  pub good : Bool
  pub store : StoreBytes

-- a store of these parts
abbrev pub storing_state : Bool → StoreBytes → StoringState
storing_state g b = record { good = g; store = b }

-- a known object is skipped if it is private and not for the card to set, stored if it is allowed, else not allowed
abbrev pub store_known_item : ℕ → StoreBytes → PrimitiveItem → RowNumber → StoringState
store_known_item answer b i k =
    when is_private i.tag and not (card_may_set (row_at k)) then storing_state true b
    else when row_allows_value_and_absent_or_empty answer b k i.around i.value then storing_state true
    (put_row dictionary_rows b k i.value)
    else storing_state false b

-- by its row in the table; an unknown one is skipped
abbrev pub store_item_of_row_found : ℕ → StoreBytes → PrimitiveItem → Option ℕ → StoringState
store_item_of_row_found answer b i None = storing_state true b
store_item_of_row_found answer b i (Some k) = store_known_item answer b i k

-- one object
unfoldable pub store_item : ℕ → StoreBytes → PrimitiveItem → StoringState
store_item answer b i = store_item_of_row_found answer b i (find_row dictionary_rows i.tag)

-- nothing is taken after an object that is not allowed
unfoldable pub store_next_item : ℕ → StoringState → PrimitiveItem → StoringState
store_next_item answer w i =
    when w.good then store_item answer w.store i
    else w

-- one object after the other
unfoldable pub store_all_items : ℕ → StoringState → List PrimitiveItem → StoringState
store_all_items answer w [] = w
store_all_items answer w (i ∷ is) = store_all_items answer (store_next_item answer w i) is
