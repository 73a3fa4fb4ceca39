-- Primitive objects concatenated (document 01, refusal 20): whole, with nothing in between, no template.
-- Assumes nothing.
use Rattle.tlv.specs.declared.TlvHeader.{TlvHeader}
use Rattle.tlv.specs.declared.PrimitiveObject.{PrimitiveObject}
use Rattle.std.specs.Prelude.{Bool, true, false, List, [], ◌∷◌, ℕ, Option, Some, None}
use Rattle.basics.specs.Choice.{when◌then◌else◌}
use Rattle.basics.specs.Recursion.{recurse_with_fuel_from_length}
use Rattle.tlv.specs.Object.{header_of, header_value, behind_object}

-- a primitive object: its tag and its value
pub record Object : Type 0 where
  pub tag : ℕ
  pub value : List ℕ

-- an object of these parts
abbrev pub tlv_object : ℕ → List ℕ → Object
tlv_object t v = record { tag = t; value = v }

-- an object and those after it; none where those are none
unfoldable pub prepend_object : Object → Option (List Object) → Option (List Object)
prepend_object o None = None
prepend_object o (Some os) = Some (o ∷ os)

-- a template, known or not, is no primitive object
abbrev pub front_broken_if_template : Option TlvHeader → Option TlvHeader
front_broken_if_template None = None
front_broken_if_template (Some h) =
    when h.template then None
    else Some h

-- the primitive object at the front of the bytes
unfoldable pub primitive_at_front : List ℕ → Option TlvHeader
primitive_at_front s = front_broken_if_template (header_of s)

-- that object, and what k reads of the bytes after it
abbrev pub object_then_rest : (List ℕ → Option (List Object)) → List ℕ → Option TlvHeader → Option (List Object)
object_then_rest k s None = None
object_then_rest k s (Some h) = prepend_object (tlv_object h.tag (header_value s h)) (k (behind_object s h))

-- nothing more, or one object and what k reads of the bytes after it
abbrev pub primitive_objects_step : (List ℕ → Option (List Object)) → List ℕ → Option (List Object)
primitive_objects_step k [] = Some []
primitive_objects_step k (b ∷ s) = object_then_rest k (b ∷ s) (primitive_at_front (b ∷ s))

-- the primitive objects of the bytes in order, or none where the bytes are not a run of them. The bytes after an object
-- are fewer than its list's, so the recursion ends by itself (`unroll`).
unfoldable pub primitive_objects : List ℕ → Option (List Object)
primitive_objects s = recurse_with_fuel_from_length None primitive_objects_step s

-- the bytes are a run of whole primitive objects
abbrev pub are_primitive_objects_parsed : Option (List Object) → Bool
are_primitive_objects_parsed None = false
are_primitive_objects_parsed (Some os) = true

-- the object at the front and what k reads of the bytes after it, or nothing where the bytes begin with none
abbrev pub objects_from_front : (List ℕ → List Object) → List ℕ → Option TlvHeader → List Object
objects_from_front k s None = []
objects_from_front k s (Some h) = tlv_object h.tag (header_value s h) ∷ k (behind_object s h)

-- one step: the object at the front, and what k reads of the bytes after it
abbrev pub leading_primitive_objects_step : (List ℕ → List Object) → List ℕ → List Object
leading_primitive_objects_step k s = objects_from_front k s (primitive_at_front s)

-- the primitive objects at the front of the bytes in order, up to the first bytes that are no whole primitive object. The
-- recursion ends by itself (`leading_unroll`).
unfoldable pub leading_primitive_objects : List ℕ → List Object
leading_primitive_objects s = recurse_with_fuel_from_length [] leading_primitive_objects_step s

-- what an iterator's item reads as
abbrev pub object_read : PrimitiveObject → Object
object_read o = tlv_object o.tag o.value.now

-- ---- what holds of it, proved in proofs/Primitives for all lists
--   unroll            primitives s ≡ nextObject primitives s
--   primitives-end, primitives-broken, primitives-object    the objects at each thing that can be at the front
--   primitive-fits    a primitive object lies inside its list and takes two bytes at least
--   leading_unroll    leading_primitive_objects s ≡ leading_primitive_objects_step leading_primitive_objects s
--   leading_end, leading_broken, leading_object    the leading objects at each thing that can be at the front
--   leading_of_run    where the bytes are a run of objects, the leading objects are those
--   leading_few       two bytes at least for each leading object
