-- The objects of a list with their numbers, as a loop over `PrimitiveObjects(..).enumerate()` has them.
-- Assumes nothing.
use Rattle.std.specs.Prelude.{Option, Some, None}
use mathlib.Core.Path.{◌≡◌, ap, ◌∙◌}
use mathlib.Core.List.{List, [], ◌∷◌}
use Prim.Native.Nat.{ℕ, ◌+◌, ◌≤◌}
use native.Mathlib.Omega.{arith}
use lib.ListN.{length, drop}
use Rattle.std.specs.declared.iter.Enumerate.{Enumerate}
use Rattle.std.specs.Iterator.{Yields, YieldsFirstBy}
use Rattle.std.specs.Iterator.Adapters.{enumerate_steps}
use Rattle.std.specs.List.{enumerate_from}
use Rattle.std.proofs.lemmas.Iterator.{YieldsList}
use Rattle.std.proofs.lemmas.Iterator.Consumers.{YieldsList-from_first, YieldsList-from_enumerate}
use Rattle.std.proofs.lemmas.Iterator.Consumers.{YieldsList-turn, YieldsList-end}
use Rattle.tlv.specs.declared.PrimitiveObject.{PrimitiveObject}
use Rattle.tlv.specs.declared.PrimitiveObjects.{PrimitiveObjects}
use Rattle.tlv.specs.Primitives.{Object, leading_primitive_objects, object_read}
use Rattle.personalise.proofs.Listed.{objects_most, object_numbered, objects_passed}

abbrev objects_of : PrimitiveObjects → List Object
objects_of w = leading_primitive_objects w.0.now

abbrev Step : Enumerate PrimitiveObjects → Option (ℕ × PrimitiveObject) → Enumerate PrimitiveObjects → Type 0
Step = enumerate_steps (YieldsFirstBy object_read objects_of)

-- the loop's iterator t is that of the objects w, numbered from 0
module _ {t e : Enumerate PrimitiveObjects} {w : PrimitiveObjects} (gives : t ≡ e) (source : e.iter ≡ w) (count : e.count ≡ 0) where
  objects_same : objects_of t.iter ≡ objects_of w
  objects_same = ap (λ (x : Enumerate PrimitiveObjects). objects_of x.iter) gives ∙ ap objects_of source

  numbered_from : t.count ≡ 0
  numbered_from = ap (λ (x : Enumerate PrimitiveObjects). x.count) gives ∙ count

  -- no more of them than bytes
  pub walk_short : t.count + length (objects_of t.iter) ≤ length w.0.now
  walk_short = omega (arith, numbered_from, ap length objects_same, objects_most w.0.now)

  road : YieldsList Step (λ p. (p.0, object_read p.1)) t (enumerate_from 0 (objects_of w))
  road = YieldsList-from_enumerate (YieldsList-from_first object_read objects_of {s = t.iter} (objects_of w) objects_same) numbered_from

  -- after the objects xs
  module _ (xs : List (ℕ × PrimitiveObject)) (u : Enumerate PrimitiveObjects) (y : Yields Step t xs u)
      {r : Option (ℕ × PrimitiveObject)} (v : Enumerate PrimitiveObjects) where
    pub object_on : {i : ℕ} {o : PrimitiveObject} → r ≡ Some (i, o) → Step u r v
        → (i ≡ length xs) × (drop (length xs) (objects_of w) ≡ object_read o ∷ drop (length xs + 1) (objects_of w))
    object_on {i} {o} is p =
        let q = object_numbered (objects_of w) (length xs) i (object_read o) (YieldsList-turn road xs u y r v (i, o) is p) in
        (q.0, q.2)

    pub objects_end : r ≡ None → Step u r v → drop (length xs) (objects_of w) ≡ []
    objects_end is p = objects_passed (objects_of w) (length xs) (YieldsList-end road xs u y r v is p).1
