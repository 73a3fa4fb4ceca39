-- The primitive objects of some bytes as a list of numbers, which a walk makes and the judgement goes over: one number
-- for each object, its tag, the template directly around it, and the place of its value.
-- This file states no rule of document 01: a reader of the rules can skip it. It is for private functions and their
-- callers' proofs; `primitive_items` of specs/Taking is the list that the rules speak of.
-- Assumes nothing.
use Rattle.std.specs.Prelude.{Option, Some, None}
use Rattle.std.specs.Prelude.{◌≡◌, List, [], ◌∷◌, ◌++◌, ℕ, ◌+◌, ◌-◌, ◌*◌, ◌/◌, ◌%◌, ◌≤◌, length, take, drop}
use Rattle.basics.specs.Types.{Bytes, Value, Tag, Length, Offset, Count}
use Rattle.tlv.specs.Tree.{Forest, object_count}
use Rattle.reading.specs.declared.VisitTally.{VisitTally}
use Rattle.reading.specs.Taking.{PrimitiveItem, primitive_item, primitive_items}

-- ---- an object in one number: 2^40 times its tag, 2^16 times the tag around it, 256 times the place of the byte
-- before its value, its length

abbrev pub packed_item : Tag → Tag → Offset → Length → ℕ
packed_item t around start n = t * 0x10000000000 + around * 0x10000 + (start - 1) * 256 + n

abbrev pub packed_item_tag : ℕ → Tag
packed_item_tag x = x / 0x10000000000

abbrev pub packed_item_template_tag : ℕ → Tag
packed_item_template_tag x = x / 0x10000 % 0x1000000

-- where its value starts, how many bytes it has, and these bytes of s
abbrev pub packed_item_value_start : ℕ → Offset
packed_item_value_start x = x / 256 % 256 + 1

abbrev pub packed_item_value_length : ℕ → Length
packed_item_value_length x = x % 256

abbrev pub packed_item_value_in : Bytes → ℕ → Value
packed_item_value_in s x = take (packed_item_value_length x) (drop (packed_item_value_start x) s)

-- the object of s that a number stands for
abbrev pub unpacked_item : Bytes → ℕ → PrimitiveItem
unpacked_item s x = primitive_item (packed_item_template_tag x) (packed_item_tag x) (packed_item_value_in s x)

-- ---- a list of them

-- room for more than 256 bytes can have
abbrev pub most_listed_items : Count
most_listed_items = 128

-- the objects of s that the numbers of a list stand for
unfoldable pub unpacked_items : Bytes → List ℕ → List PrimitiveItem
unpacked_items s [] = []
unpacked_items s (x ∷ xs) = unpacked_item s x ∷ unpacked_items s xs

-- an object's value lies inside s, and so do those of all
abbrev pub ItemValueInside : Bytes → ℕ → Type 0
ItemValueInside s x = packed_item_value_start x + packed_item_value_length x ≤ length s

abbrev pub AllItemValuesInside : Bytes → List ℕ → Type 0
AllItemValuesInside s [] = Unit {0}
AllItemValuesInside s (x ∷ xs) = ItemValueInside s x × AllItemValuesInside s xs

-- the first k numbers of l stand for objects of s
pub record IsItemList (answer_bytes : Bytes) (item_count : Count) (packed_items : List ℕ) : Type 0 where
  pub room : length packed_items ≡ most_listed_items
  pub few : item_count ≤ most_listed_items
  pub inside : AllItemValuesInside answer_bytes (take item_count packed_items)

-- and these are the objects
abbrev pub unpacked_first_items : Bytes → Count → List ℕ → List PrimitiveItem
unpacked_first_items s k l = unpacked_items s (take k l)

-- ---- a walk over a template's contents

-- n objects visited, k of them listed
abbrev pub tally : Count → Count → VisitTally
tally n k = record { objects = n; items = k }

-- what a walk from a to e in s must find after n objects, of which l lists k: the contents lie in the first 256 bytes,
-- and the list has room for all that they can hold, an object having two bytes at least
pub record TemplateWalkHasRoom (answer_bytes : Bytes) (from to : Offset) (visited_count listed_count : Count)
    (packed_items : List ℕ) : Type 0 where
  pub begins : from ≤ to
  pub ends : to ≤ length answer_bytes
  pub short : to ≤ 256
  pub fewer : listed_count ≤ visited_count
  pub half : 2 * visited_count + (to - from) ≤ 256
  pub room : length packed_items ≡ most_listed_items
  pub inside : AllItemValuesInside answer_bytes (take listed_count packed_items)

-- n objects visited, of which l lists `is`: r is reported
pub record WalkListedItems (answer_bytes : Bytes) (packed_items : List ℕ) (walk_result : Option VisitTally)
    (visited_count : Count) (listed : List PrimitiveItem) : Type 0 where
  pub reports : walk_result ≡ Some (tally visited_count (length listed))
  pub items : IsItemList answer_bytes (length listed) packed_items
  pub are : unpacked_first_items answer_bytes (length listed) packed_items ≡ listed

-- a tree directly inside the template `around`, after n objects of which `is` are listed: its count is added, its
-- objects are listed behind them, and k holds of both; r is what is reported where there is no tree
abbrev pub ListsTreeThen : Tag → Option Forest → Option VisitTally → (Count → List PrimitiveItem → Type 0) → Count
    → List PrimitiveItem
    → Type 0
ListsTreeThen around None r k n is = r ≡ None
ListsTreeThen around (Some f) r k n is = k (n + object_count f) (is ++ primitive_items around f)

-- a walk after n objects, of which l lists k, reports r and leaves l'
abbrev pub WalkListsTree : Bytes → Tag → Option Forest → Count → Count → List ℕ → Option VisitTally → List ℕ → Type 0
WalkListsTree s around f n k l r l' = ListsTreeThen around f r (WalkListedItems s l' r) n (unpacked_first_items s k l)
