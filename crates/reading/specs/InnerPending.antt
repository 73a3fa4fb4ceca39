-- The values that an answer brings, pending while the store stays as it was: each by its row and its place in the
-- bytes; and the store with them in it, which is what the rules of specs/Taking speak of.
-- This file states no rule of document 01: a reader of the rules can skip it. It is for private functions and their
-- callers' proofs.
-- Assumes nothing.
use Rattle.std.specs.Prelude.{Option, Some, None, Result, Ok, Err}
use Rattle.std.specs.Prelude.{◌≡◌, true, false, not, List, [], ◌∷◌, ℕ, ◌+◌, ◌*◌, ◌/◌, ◌%◌, ◌≤◌, ◌<◌, length, get_or, set, take}
use Rattle.basics.specs.Choice.{when◌then◌else◌, ◌and◌, ◌=?◌}
use Rattle.basics.specs.Types.{Bytes, StoreBytes, RowNumber, Length, Count}
use Rattle.tlv.specs.Tag.{is_private}
use Rattle.dictionary.specs.Rows.{dictionary_rows, row_at, row_count, find_row, store_size}
use Rattle.store.specs.Place.{is_row_absent_or_empty, put_row}
use Rattle.reading.specs.declared.ResponseVerdict.{ResponseVerdict}
use Rattle.reading.specs.declared.ResponseVerdict.TheVariants.{NotAllowed}
use Rattle.reading.specs.Taking.{PrimitiveItem, card_may_set, row_allows_value_from_card, StoringState, storing_state}
use Rattle.reading.specs.Taking.{store_all_items}
use Rattle.reading.specs.InnerItems.{packed_item_value_in, packed_item_value_length, ItemValueInside, most_listed_items}

-- ---- one object, before the store is asked

-- a known object is skipped, with no row, if it is private and not for the card to set, else for its row if it is allowed
-- here
unfoldable pub judge_known_item : ℕ → PrimitiveItem → RowNumber → Result (Option RowNumber) ResponseVerdict
judge_known_item answer i k =
    when is_private i.tag and not (card_may_set (row_at k)) then Ok None
    else when row_allows_value_from_card answer (row_at k) i.around i.value then Ok (Some k)
    else Err NotAllowed

-- by its row in the table; an unknown one is skipped
abbrev pub judge_item_of_row_found : ℕ → PrimitiveItem → Option ℕ → Result (Option RowNumber) ResponseVerdict
judge_item_of_row_found answer i None = Ok None
judge_item_of_row_found answer i (Some k) = judge_known_item answer i k

abbrev pub judge_item : ℕ → PrimitiveItem → Result (Option RowNumber) ResponseVerdict
judge_item answer i = judge_item_of_row_found answer i (find_row dictionary_rows i.tag)

-- and into the store b: an object for row k is put where no non-empty one is present
abbrev pub store_judged_item : StoreBytes → PrimitiveItem → Result (Option RowNumber) ResponseVerdict → StoringState
store_judged_item b i (Ok None) = storing_state true b
store_judged_item b i (Err v) = storing_state false b
store_judged_item b i (Ok (Some k)) =
    when is_row_absent_or_empty dictionary_rows b k then storing_state true (put_row dictionary_rows b k i.value)
    else storing_state false b

-- ---- a pending value in one number: 2^16 times its row, 256 times the place of the byte before it, its length

abbrev pub packed_pending_entry : RowNumber → ℕ → ℕ
packed_pending_entry k x = k * 0x10000 + x % 0x10000

abbrev pub pending_entry_row : ℕ → RowNumber
pending_entry_row x = x / 0x10000

-- the store b with the values of the bytes s in it, one after the other
unfoldable pub store_with_pending : Bytes → StoreBytes → List ℕ → StoreBytes
store_with_pending s b [] = b
store_with_pending s b (x ∷ xs) =
    store_with_pending s (put_row dictionary_rows b (pending_entry_row x) (packed_item_value_in s x)) xs

-- a pending value fits its row and lies in the bytes
pub record PendingEntryFitsRowAndBytes (answer_bytes : Bytes) (packed_entry : ℕ) : Type 0 where
  pub row : pending_entry_row packed_entry < row_count
  pub most : packed_item_value_length packed_entry ≤ (row_at (pending_entry_row packed_entry)).greatest
  pub inside : ItemValueInside answer_bytes packed_entry

-- and so do all of some
abbrev pub AllPendingEntriesFitRowAndBytes : Bytes → List ℕ → Type 0
AllPendingEntriesFitRowAndBytes s [] = Unit {0}
AllPendingEntriesFitRowAndBytes s (x ∷ xs) = PendingEntryFitsRowAndBytes s x × AllPendingEntriesFitRowAndBytes s xs

-- the first k numbers of l are pending values
pub record IsPendingList (answer_bytes : Bytes) (entry_count : Count) (packed_entries : List ℕ) : Type 0 where
  pub room : length packed_entries ≡ most_listed_items
  pub few : entry_count ≤ most_listed_items
  pub fitting : AllPendingEntriesFitRowAndBytes answer_bytes (take entry_count packed_entries)

-- a mark for row k, for which a value of n bytes is pending
abbrev pub mark_row_filled_if_non_empty : List ℕ → RowNumber → Length → List ℕ
mark_row_filled_if_non_empty filled k n =
    when n =? 0 then filled
    else set filled k 1

-- the values xs are pending for the store b, with a mark for each row that has bytes pending
pub record PendingEntriesAndMarksForStore (answer_bytes : Bytes) (store_before : StoreBytes)
    (packed_entries filled_marks : List ℕ) : Type 0 where
  pub fitting : AllPendingEntriesFitRowAndBytes answer_bytes packed_entries
  pub sized : length store_before ≡ store_size
  pub marks : length filled_marks ≡ row_count
  pub free : (k : ℕ) → k < row_count
      → is_row_absent_or_empty dictionary_rows (store_with_pending answer_bytes store_before packed_entries) k
      ≡ (is_row_absent_or_empty dictionary_rows store_before k and get_or filled_marks k 0 =? 0)

-- ---- all objects

-- the objects `is` in an answer to the store b: r is said of them, and l lists what is pending
abbrev pub ItemsVerdictMatchesStoringItems : ℕ → Bytes → StoreBytes → List PrimitiveItem → Result ℕ ResponseVerdict → List ℕ
    → Type 0
ItemsVerdictMatchesStoringItems answer s b is (Err v) l =
    (v ≡ NotAllowed) × ((store_all_items answer (storing_state true b) is).good ≡ false)
ItemsVerdictMatchesStoringItems answer s b is (Ok k) l =
    (store_all_items answer (storing_state true b) is ≡ storing_state true (store_with_pending s b (take k l)))
    × IsPendingList s k l
