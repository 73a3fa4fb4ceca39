-- The value of a tag in two lists of start objects, the site's and the maker's defaults (document 02, Item 14).
-- Assumes nothing.
use Rattle.std.specs.Prelude.{List, [], ◌∷◌, Option, Some, None}
use Rattle.basics.specs.Types.{StartBytes, Tag, Value}
use Rattle.basics.specs.Choice.{when◌then◌else◌, ◌=?◌}
use Rattle.tlv.specs.Primitives.{Object}
pub use Rattle.tlv.specs.Primitives.{objects_from_front, leading_primitive_objects_step}
unfoldable pub use Rattle.tlv.specs.Primitives.{leading_primitive_objects}

-- ---- one list. The objects that it holds, `leading_primitive_objects`: the whole primitive ones from its front, one
-- immediately after another, no 00 in between; bytes from a broken object or a template on hold nothing

-- the value of the first object of the tag
unfoldable pub first_value_of_tag : Tag → List Object → Option Value
first_value_of_tag tag [] = None
first_value_of_tag tag (o ∷ os) = when o.tag =? tag then Some o.value else first_value_of_tag tag os

-- ---- two lists

-- a value that is present, an empty one too, else another
unfoldable pub value_or_default : Option Value → Value → Value
value_or_default None w = w
value_or_default (Some v) w = v

-- the site's value of the tag, else that of the defaults, else no bytes
abbrev pub lookup_value : Tag → StartBytes → StartBytes → Value
lookup_value tag site defaults =
    value_or_default (first_value_of_tag tag (leading_primitive_objects site))
    (value_or_default (first_value_of_tag tag (leading_primitive_objects defaults)) [])

-- ---- what holds of it, proved in proofs/Laws for all lists
--   held-unroll    held s ≡ nextHeld held s: the steps allowed do not matter
