-- What a search finds, by the tree of the bytes (tlv, specs/Tree): malformed exactly where there is no tree, absent
-- exactly where no object of the tree has the tag, else a place that has the first such object's value.
-- Assumes nothing.
use Rattle.std.specs.Prelude.{◌≡◌, ◌+◌, ◌≤◌, length, take, drop, Option, Some, None}
use Rattle.basics.specs.Types.{Bytes, Tag, Value}
use Rattle.basics.specs.Choice.{when◌then◌else◌, ◌≤?◌, ◌=?◌}
use Rattle.tlv.specs.Tree.{Forest, end, leaf, node, parse_tree}
use Rattle.find.specs.declared.ValueSpan.{ValueSpan}
use Rattle.find.specs.declared.TagFound.{TagFound}
use Rattle.find.specs.declared.TagFound.TheVariants.{At, Absent, Malformed}

-- the tree of a card's bytes: at most 65,535 of them, templates nested at most four levels deep
abbrev pub tree_of_card_bytes : Bytes → Option Forest
tree_of_card_bytes bytes = when length bytes ≤? 65535 then parse_tree 4 bytes else None

-- an object's value: the bytes of a primitive one, the objects that a template holds
pub data TreeValue : Type 0 where
  primitive : Value → TreeValue
  template : Forest → TreeValue

-- one of two parts, the second where the first has none
unfoldable pub tree_value_or : Option TreeValue → Option TreeValue → Option TreeValue
tree_value_or None y = y
tree_value_or (Some v) y = Some v

-- the value of the tree's first object of the tag, a template before what it holds
unfoldable pub first_value_of_tag_in_tree : Tag → Forest → Option TreeValue
first_value_of_tag_in_tree tag end = None
first_value_of_tag_in_tree tag (leaf t v r) = when t =? tag then Some (primitive v) else first_value_of_tag_in_tree tag r
first_value_of_tag_in_tree tag (node t f r) =
    when t =? tag then Some (template f)
    else tree_value_or (first_value_of_tag_in_tree tag f) (first_value_of_tag_in_tree tag r)

-- these bytes are that value: of a template, bytes that parse to what it holds
abbrev pub BytesAreTreeValue : TreeValue → Bytes → Type 0
BytesAreTreeValue (primitive v) s = s ≡ v
BytesAreTreeValue (template f) s = parse_tree 3 s ≡ Some f

-- a place inside the bytes, with that value in it
pub record TreeValueAtSpan (bytes : Bytes) (tree_value : TreeValue) (span : ValueSpan) : Type 0 where
  pub inside : span.start + span.len ≤ length bytes
  pub value : BytesAreTreeValue tree_value (take span.len (drop span.start bytes))

-- what is found of such a value
abbrev pub TagFoundMatchesValue : Bytes → Option TreeValue → TagFound → Type 0
TagFoundMatchesValue bytes None r = r ≡ Absent
TagFoundMatchesValue bytes (Some v) r = (p : ValueSpan) × ((r ≡ At p) × TreeValueAtSpan bytes v p)

-- what is found of a tag in bytes of this tree
abbrev pub TagFoundMatchesTree : Tag → Bytes → Option Forest → TagFound → Type 0
TagFoundMatchesTree tag bytes None r = r ≡ Malformed
TagFoundMatchesTree tag bytes (Some f) r = TagFoundMatchesValue bytes (first_value_of_tag_in_tree tag f) r
