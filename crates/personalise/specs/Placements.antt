-- Placements (document 02, Item 4, the layout): two bytes each, the number of a record and the number of an object,
-- both counted from 1, records in the AFL's order and objects in the list's. A byte past the end reads as 0.
-- Assumes nothing.
use Rattle.std.specs.Prelude.{Bool, true, false, List, [], ◌∷◌, ℕ, suc}
use Rattle.basics.specs.Types.{Bytes, Count, RecordNumber}
use Rattle.basics.specs.Choice.{when◌then◌else◌, ◌and◌, ◌or◌, ◌=?◌}
use Rattle.tlv.specs.Primitives.{Object}
use Rattle.personalise.specs.declared.Placement.{Placement}

-- the number of an object in the list, from 1
abbrev pub ObjectNumber : Type 0
ObjectNumber = ℕ

-- the object of number o goes into the record of number r
abbrev pub placement : RecordNumber → ObjectNumber → Placement
placement r o = record { into = r; object = o }

-- the placements in some bytes
unfoldable pub placements_in : Bytes → List Placement
placements_in [] = []
placements_in (r ∷ []) = placement r 0 ∷ []
placements_in (r ∷ o ∷ s) = placement r o ∷ placements_in s

-- how many placements pass a test
unfoldable pub count_placements_where : (Placement → Bool) → List Placement → Count
count_placements_where f [] = 0
count_placements_where f (p ∷ ps) = when f p then suc (count_placements_where f ps) else count_placements_where f ps

-- some placement passes a test
unfoldable pub any_placement : (Placement → Bool) → List Placement → Bool
any_placement f [] = false
any_placement f (p ∷ ps) = f p or any_placement f ps

-- a placement names object j
abbrev pub places_object_number : ObjectNumber → Placement → Bool
places_object_number j p = p.object =? j

-- a placement puts object j into record k
abbrev pub puts_object_into : RecordNumber → ObjectNumber → Placement → Bool
puts_object_into k j p = p.into =? k and p.object =? j

-- each of the objects, which are numbered from j on, is named by one placement and no more
unfoldable pub each_placed_once : List Placement → ObjectNumber → List Object → Bool
each_placed_once ps j [] = true
each_placed_once ps j (o ∷ os) = count_placements_where (places_object_number j) ps =? 1 and each_placed_once ps (suc j) os

-- those of the objects, numbered from j on, that some placement puts into record k, in the list's order
unfoldable pub objects_in_record_from : List Placement → RecordNumber → ObjectNumber → List Object → List Object
objects_in_record_from ps k j [] = []
objects_in_record_from ps k j (o ∷ os) =
    when any_placement (puts_object_into k j) ps then o ∷ objects_in_record_from ps k (suc j) os
    else objects_in_record_from ps k (suc j) os
