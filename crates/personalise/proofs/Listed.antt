-- The list of objects, one at a time: what is said of the run that is left after an object. The loops cite these.
-- Assumes nothing.
use Rattle.std.specs.Prelude.{Some, None, Option}
use mathlib.Core.Path.{◌≡◌, refl, sym, ap, ◌∙◌}
use mathlib.Core.Bool.{Bool, true, false, not}
use mathlib.Core.Logic.{inl, inr}
use mathlib.Core.List.{List, [], ◌∷◌, ◌++◌}
use Prim.Native.Nat.{ℕ, suc, ◌+◌, ◌<◌, ◌≤◌}
use native.Mathlib.Numerals.{add-one}
use native.Mathlib.Omega.{arith}
use lib.ListN.{length, get_or, drop, length-take, length-drop, length-append}
use borrow.Author.Tests.{eq-eqb, ne_eqb}
use Rattle.std.specs.List.{enumerate_from}
use Rattle.std.proofs.lemmas.List.{drop_more, drop_all}
use Rattle.std.proofs.lemmas.List.FromFn.{length-enumerate_from, get_or-enumerate_from}
use Rattle.basics.specs.Choice.{both, every}
use Rattle.basics.proofs.Laws.{if_yes, if_no, bool_cases, both_true, both_no_left, both_no_right}
use Rattle.basics.proofs.Recursion.{shorter_first}
use Rattle.tlv.specs.declared.TlvHeader.{TlvHeader}
use Rattle.tlv.specs.Primitives.{Object, prepend_object, primitive_at_front, primitive_objects, are_primitive_objects_parsed}
use Rattle.tlv.specs.Primitives.{leading_primitive_objects}
use Rattle.tlv.specs.Encoding.{object_bytes}
use Rattle.tlv.proofs.Primitives.{primitive_fits, primitives_end, primitives_broken, first_of, rest_of, parts}
use Rattle.tlv.proofs.Primitives.{leading_broken, leading_object, leading_of_run}
use Rattle.dictionary.specs.Rows.{dictionary_rows, row_at, find_row, in_record_response}
use Rattle.reading.specs.Taking.{row_allows_value_from_card}
use Rattle.personalise.specs.declared.Placement.{Placement}
use Rattle.personalise.specs.Objects.{tag_record_template, row_allows_value_in_record, tag_and_value_allowed_in_record}
use Rattle.personalise.specs.Objects.{lacks_tag, tags_distinct, objects_or_empty, parsed_objects_or_empty}
use Rattle.personalise.specs.Placements.{count_placements_where, any_placement, places_object_number, puts_object_into}
use Rattle.personalise.specs.Placements.{each_placed_once, objects_in_record_from}
use Rattle.personalise.specs.Records.{encoded_objects}
use Rattle.personalise.specs.Inner.{list_parsed_and_lacks_tag, parsed_objects_valid_and_placed_once}
use Rattle.personalise.specs.Inner.{encoded_object_size, encoded_size_if_placed_in_record}
use Rattle.personalise.specs.Inner.{object_bytes_if_placed_in_record}

-- ---- one object

module _ (o : Object) (x : Option ℕ) (p : x ≡ find_row dictionary_rows o.tag) where
  pub settable_unknown : x ≡ None → tag_and_value_allowed_in_record o ≡ false
  unfolding tag_and_value_allowed_in_record
  settable_unknown q = ap (λ (y : Option ℕ). row_allows_value_in_record y o.value) (sym p ∙ q)

  pub settable_at : (k : ℕ) → x ≡ Some k → tag_and_value_allowed_in_record o ≡ row_allows_value_from_card in_record_response
      (row_at k) tag_record_template o.value
  unfolding tag_and_value_allowed_in_record
  settable_at k q = ap (λ (y : Option ℕ). row_allows_value_in_record y o.value) (sym p ∙ q)

-- ---- an object and the run after it

same_tag : (t : ℕ) (o : Object) (x : Option (List Object)) → o.tag ≡ t → list_parsed_and_lacks_tag t (prepend_object o x)
    ≡ false
unfolding prepend_object lacks_tag every
same_tag t o None e = refl
same_tag t o (Some os) e = both_no_left _ _ (ap not (eq-eqb _ _ e))

other_tag : (t : ℕ) (o : Object) (x : Option (List Object)) → (o.tag ≡ t → ⊥)
    → list_parsed_and_lacks_tag t (prepend_object o x) ≡ list_parsed_and_lacks_tag t x
unfolding prepend_object lacks_tag every
other_tag t o None e = refl
other_tag t o (Some os) e = both_true _ (ap not (ne_eqb _ _ e))

-- three tests that pass, each before its own others
shuffle : (s e l d c f : Bool) → s ≡ true → l ≡ true → c ≡ true → both (both s e) (both (both l d) (both c f))
    ≡ both e (both d f)
unfolding both
shuffle true e true d true f p q r = refl
shuffle true e true d false f p q r = cc
shuffle true e false d c f p q r = cc
shuffle false e l d c f p q r = cc

module _ (ps : List Placement) (j : ℕ) (o : Object) where
  keeps_not_set : (x : Option (List Object)) → tag_and_value_allowed_in_record o ≡ false
      → parsed_objects_valid_and_placed_once ps j (prepend_object o x) ≡ false
  unfolding prepend_object every tags_distinct each_placed_once
  keeps_not_set None e = refl
  keeps_not_set (Some os) e = both_no_left _ _ (both_no_left _ _ e)

  keeps_twice : (x : Option (List Object)) → list_parsed_and_lacks_tag o.tag x ≡ false
      → parsed_objects_valid_and_placed_once ps j (prepend_object o x) ≡ false
  unfolding prepend_object every tags_distinct each_placed_once
  keeps_twice None e = refl
  keeps_twice (Some os) e = both_no_right _ _ (both_no_left _ _ (both_no_left _ _ e))

  keeps_not_once : (x : Option (List Object)) → (count_placements_where (places_object_number j) ps ≡ 1 → ⊥)
      → parsed_objects_valid_and_placed_once ps j (prepend_object o x) ≡ false
  unfolding prepend_object every tags_distinct each_placed_once
  keeps_not_once None e = refl
  keeps_not_once (Some os) e = both_no_right _ _ (both_no_right _ _ (both_no_left _ _ (ne_eqb _ _ e)))

  keeps_next : (x : Option (List Object)) → tag_and_value_allowed_in_record o ≡ true → list_parsed_and_lacks_tag o.tag x
      ≡ true → count_placements_where (places_object_number j) ps ≡ 1
      → parsed_objects_valid_and_placed_once ps j (prepend_object o x) ≡ parsed_objects_valid_and_placed_once ps (suc j) x
  unfolding prepend_object every tags_distinct each_placed_once
  keeps_next None a b e = refl
  keeps_next (Some os) a b e = shuffle _ _ _ _ _ _ a b (eq-eqb _ _ e)

-- ---- by the bytes that are left, as the code makes their parts

module _ (s : List ℕ) where
  pub lacks_end : (t : ℕ) → length s ≡ 0 → list_parsed_and_lacks_tag t (primitive_objects s) ≡ true
  unfolding lacks_tag every
  lacks_end t z = ap (list_parsed_and_lacks_tag t) (primitives_end s z)

  pub keeps_end : (ps : List Placement) (j : ℕ) → length s ≡ 0
      → parsed_objects_valid_and_placed_once ps j (primitive_objects s) ≡ true
  unfolding every tags_distinct each_placed_once both
  keeps_end ps j z = ap (parsed_objects_valid_and_placed_once ps j) (primitives_end s z)

  module _ (n : length s ≡ 0 → ⊥) where
    pub lacks_broken : (t : ℕ) → primitive_at_front s ≡ None → list_parsed_and_lacks_tag t (primitive_objects s)
        ≡ false
    lacks_broken t e = ap (list_parsed_and_lacks_tag t) (primitives_broken s n e)

    pub keeps_broken : (ps : List Placement) (j : ℕ) → primitive_at_front s ≡ None
        → parsed_objects_valid_and_placed_once ps j (primitive_objects s) ≡ false
    keeps_broken ps j e = ap (parsed_objects_valid_and_placed_once ps j) (primitives_broken s n e)

module _ (s : List ℕ) (h : TlvHeader) (e : primitive_at_front s ≡ Some h) where
  pub rest_less : length (rest_of s h) < length s
  rest_less = let f = primitive_fits s h e in simp (length-take, length-drop) (omega arith)

  parts_at : primitive_objects s ≡ prepend_object (first_of s h) (primitive_objects (rest_of s h))
  parts_at = let f = primitive_fits s h e in parts s (λ z. omega arith) h e

  pub lacks_here : (t : ℕ) → h.tag ≡ t → list_parsed_and_lacks_tag t (primitive_objects s) ≡ false
  lacks_here t q = ap (list_parsed_and_lacks_tag t) parts_at ∙ same_tag t (first_of s h)
      (primitive_objects (rest_of s h)) q

  pub lacks_on : (t : ℕ) → (h.tag ≡ t → ⊥) → list_parsed_and_lacks_tag t (primitive_objects s) ≡ list_parsed_and_lacks_tag t
      (primitive_objects (rest_of s h))
  lacks_on t q = ap (list_parsed_and_lacks_tag t) parts_at ∙ other_tag t (first_of s h)
      (primitive_objects (rest_of s h)) q

  module _ (ps : List Placement) (j : ℕ) where
    pub run_not_set : tag_and_value_allowed_in_record (first_of s h) ≡ false
        → parsed_objects_valid_and_placed_once ps j (primitive_objects s) ≡ false
    run_not_set q = ap (parsed_objects_valid_and_placed_once ps j) parts_at ∙ keeps_not_set ps j (first_of s h)
        (primitive_objects (rest_of s h)) q

    pub run_twice : list_parsed_and_lacks_tag h.tag (primitive_objects (rest_of s h)) ≡ false
        → parsed_objects_valid_and_placed_once ps j (primitive_objects s) ≡ false
    run_twice q = ap (parsed_objects_valid_and_placed_once ps j) parts_at ∙ keeps_twice ps j (first_of s h)
        (primitive_objects (rest_of s h)) q

    pub run_not_once : (count_placements_where (places_object_number j) ps ≡ 1 → ⊥)
        → parsed_objects_valid_and_placed_once ps j (primitive_objects s) ≡ false
    run_not_once q = ap (parsed_objects_valid_and_placed_once ps j) parts_at ∙ keeps_not_once ps j (first_of s h)
        (primitive_objects (rest_of s h)) q

    pub run_next : tag_and_value_allowed_in_record (first_of s h) ≡ true
        → list_parsed_and_lacks_tag h.tag (primitive_objects (rest_of s h)) ≡ true
        → count_placements_where (places_object_number j) ps ≡ 1
        → parsed_objects_valid_and_placed_once ps j (primitive_objects s) ≡ parsed_objects_valid_and_placed_once ps (j + 1)
        (primitive_objects (rest_of s h))
    run_next a b q = rw add-one (ap (parsed_objects_valid_and_placed_once ps j) parts_at ∙ keeps_next ps j
        (first_of s h) (primitive_objects (rest_of s h)) a b q)

-- ---- the objects, as `PrimitiveObjects` gives them

-- those of a run are the list's
pub listed_is : (s : List ℕ) → are_primitive_objects_parsed (primitive_objects s) ≡ true
    → primitive_objects s ≡ Some (leading_primitive_objects s)
listed_is s r = go (primitive_objects s) refl
  where
    go : (x : Option (List Object)) → primitive_objects s ≡ x → primitive_objects s ≡ Some (leading_primitive_objects s)
    go None p = let q = sym (ap are_primitive_objects_parsed p) ∙ r in cc
    go (Some os) p = p ∙ ap Some (sym (leading_of_run s os p))

pub listed_or_empty : (s : List ℕ) → are_primitive_objects_parsed (primitive_objects s) ≡ true
    → parsed_objects_or_empty s ≡ leading_primitive_objects s
listed_or_empty s r = ap objects_or_empty (listed_is s r)

-- no more than bytes
abbrev AtMostBytes : List ℕ → Type 0
AtMostBytes s = length (leading_primitive_objects s) ≤ length s

most_step : (s : List ℕ) → ((v : List ℕ) → length v < length s → AtMostBytes v) → AtMostBytes s
most_step s ih = go (primitive_at_front s) refl
  where
    go : (x : Option TlvHeader) → primitive_at_front s ≡ x → AtMostBytes s
    go None p = let e = ap length (leading_broken s p) in omega arith
    go (Some h) p =
        let f = primitive_fits s h p in
        let l : length (rest_of s h) < length s = simp (length-take, length-drop) (omega arith) in
        let i = ih (rest_of s h) l in
        let e = ap length (leading_object s h p) in
        omega arith

pub objects_most : (s : List ℕ) → length (leading_primitive_objects s) ≤ length s
objects_most = shorter_first AtMostBytes most_step

-- the one that a loop over them has after n, with its number, and those that are left
pub object_numbered : (os : List Object) (n i : ℕ) (o : Object) → (n < length (enumerate_from 0 os))
    × ((i, o) ≡ get_or (enumerate_from 0 os) n (i, o))
    → (i ≡ n) × (n < length os) × (drop n os ≡ o ∷ drop (n + 1) os)
object_numbered os n i o t =
    let h : n < length os = omega (arith, t.0, length-enumerate_from 0 os) in
    let q = t.1 ∙ get_or-enumerate_from 0 os n (i, o) h in (
      omega (arith, ap (λ (x : ℕ × Object). x.0) q),
      h,
      drop_more os n o h ∙ ap (λ (x : Object). x ∷ drop (n + 1) os)
          (sym (ap (λ (x : ℕ × Object). x.1) q)),
    )

-- after the last none is left
pub objects_passed : (os : List Object) (n : ℕ) → n ≡ length (enumerate_from 0 os) → drop n os ≡ []
objects_passed os n e = drop_all n os (omega (arith, e, length-enumerate_from 0 os))

-- ---- sizes

pub object_length : (t : ℕ) (v : List ℕ) → length (object_bytes t v) ≡ encoded_object_size t (length v)
object_length t v = simp length-append

content_joins : (o : Object) (os : List Object) → length (encoded_objects (o ∷ os)) ≡ encoded_object_size o.tag
    (length o.value) + length (encoded_objects os)
unfolding encoded_objects
content_joins o os = length-append (object_bytes o.tag o.value) (encoded_objects os) ∙ rw
    (object_length o.tag o.value)

-- an object and those after it, in record k
pub content-length : (ps : List Placement) (k j : ℕ) (o : Object) (os : List Object)
    → length (encoded_objects (objects_in_record_from ps k j (o ∷ os))) ≡ encoded_size_if_placed_in_record ps k j o.tag
    (length o.value) + length (encoded_objects (objects_in_record_from ps k (suc j) os))
unfolding objects_in_record_from
content-length ps k j o os =
    let rest = objects_in_record_from ps k (suc j) os in
    elim (bool_cases (any_placement (puts_object_into k j) ps)) [
      | inl y ↦ (
          let a = ap (λ (x : List Object). length (encoded_objects x)) (if_yes (o ∷ rest) rest y) in
          let b : encoded_size_if_placed_in_record ps k j o.tag (length o.value) ≡ encoded_object_size o.tag
          (length o.value) = if_yes _ _ y in
          omega (arith, a, b, content_joins o rest)
          )
      | inr f ↦ (
          let a = ap (λ (x : List Object). length (encoded_objects x)) (if_no (o ∷ rest) rest f) in
          let b : encoded_size_if_placed_in_record ps k j o.tag (length o.value) ≡ 0 = if_no _ _ f in
          omega (arith, a, b)
          )
    ]

pub content_more : (ps : List Placement) (k j : ℕ) (o : Object) (os : List Object)
    → length (encoded_objects (objects_in_record_from ps k j (o ∷ os))) ≡ encoded_size_if_placed_in_record ps k j o.tag
    (length o.value) + length (encoded_objects (objects_in_record_from ps k (j + 1) os))
content_more ps k j o os = rw add-one (content-length ps k j o os)

-- ---- bytes

pub content_bytes : (ps : List Placement) (k j : ℕ) (o : Object) (os : List Object)
    → encoded_objects (objects_in_record_from ps k j (o ∷ os)) ≡ object_bytes_if_placed_in_record ps k j o.tag o.value
    ++ encoded_objects (objects_in_record_from ps k (suc j) os)
unfolding objects_in_record_from encoded_objects
content_bytes ps k j o os =
    let rest = objects_in_record_from ps k (suc j) os in
    elim (bool_cases (any_placement (puts_object_into k j) ps)) [
      | inl y ↦ ap encoded_objects (if_yes (o ∷ rest) rest y) ∙ ap (λ (x : List ℕ). x ++ encoded_objects rest)
          (sym (if_yes (object_bytes o.tag o.value) [] y))
      | inr f ↦ ap encoded_objects (if_no (o ∷ rest) rest f) ∙ ap (λ (x : List ℕ). x ++ encoded_objects rest)
          (sym (if_no (object_bytes o.tag o.value) [] f))
    ]

pub content_none : (ps : List Placement) (k j : ℕ) → encoded_objects (objects_in_record_from ps k j []) ≡ []
unfolding objects_in_record_from encoded_objects
content_none ps k j = refl
