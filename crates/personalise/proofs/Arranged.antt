-- The objects in the order of the records are those of the list, rearranged: each is placed in one record, so it is
-- inserted once into the order of those after it. Puts of different rows commute, so both orders give the same store.
-- Assumes nothing.
use mathlib.Core.Path.{◌≡◌, refl, sym, ap, ap₂, ◌∙◌}
use mathlib.Core.Bool.{Bool, true, false, not}
use mathlib.Core.Logic.{inl, inr}
use mathlib.Core.List.{List, [], ◌∷◌, ◌++◌}
use Prim.Native.Nat.{ℕ, zero, suc, ◌+◌, ◌<◌, ◌≤◌}
use native.Mathlib.Omega.{arith}
use lib.Dec.{eqb}
use borrow.Author.Tests.{eq-eqb, ne_eqb, eqb-true, eqb-false, leb-true, not-true}
use Rattle.basics.specs.Choice.{both, either, every}
use Rattle.basics.proofs.Laws.{if_yes, if_no, bool_cases, both_yes, both_left, both_right, both_no_right, either_no}
use Rattle.basics.proofs.Laws.{either_false}
use Rattle.basics.proofs.Order.{equal_or_not}
use Rattle.tlv.specs.Primitives.{Object}
use Rattle.personalise.specs.declared.Placement.{Placement}
use Rattle.personalise.specs.Objects.{lacks_tag, tags_distinct}
use Rattle.personalise.specs.Placements.{count_placements_where, any_placement, places_object_number, puts_object_into}
use Rattle.personalise.specs.Placements.{each_placed_once, objects_in_record_from}
use Rattle.personalise.proofs.Clauses.{places_in_record}

-- ---- lists rearranged

-- the object o inserted somewhere into a list
pub data Insert (o : Object) : List Object → List Object → Type 0 where
  here : {l : List Object} → Insert o l (o ∷ l)
  there : {x : Object} {l m : List Object} → Insert o l m → Insert o (x ∷ l) (x ∷ m)

-- the first list is the second rearranged
pub data Perm : List Object → List Object → Type 0 where
  none : Perm [] []
  add : {o : Object} {l m os : List Object} → Insert o l m → Perm l os → Perm m (o ∷ os)

insert_behind : {o : Object} (x : List Object) {l m : List Object} → Insert o l m → Insert o (x ++ l) (x ++ m)
insert_behind [] i = i
insert_behind (y ∷ x) i = there (insert_behind x i)

-- a test at every object
insert_every : (f : Object → Bool) {o : Object} {l m : List Object} → Insert o l m → f o ≡ true → every f l ≡ true
    → every f m ≡ true
unfolding every
insert_every f here a e = both_yes _ _ a e
insert_every f (there i) a e = both_yes _ _ (both_left _ _ e) (insert_every f i a (both_right _ _ e))

pub perm_every : (f : Object → Bool) {m os : List Object} → Perm m os → every f os ≡ true → every f m ≡ true
unfolding every
perm_every f none e = refl
perm_every f (add i p) e = insert_every f i (both_left _ _ e) (perm_every f p (both_right _ _ e))

-- two tags differ either way round
flip : (a b : ℕ) → not (eqb a b) ≡ true → not (eqb b a) ≡ true
flip a b e = ap not (ne_eqb b a (λ z. eqb-false a b (not-true _ e) (sym z)))

insert_distinct : {o : Object} {l m : List Object} → Insert o l m → lacks_tag o.tag l ≡ true → tags_distinct l ≡ true
    → tags_distinct m ≡ true
unfolding tags_distinct lacks_tag every
insert_distinct here t d = both_yes _ _ t d
insert_distinct {o} (there {x} i) t d =
    both_yes _ _ (insert_every (λ y. not (eqb y.tag x.tag)) i (flip x.tag o.tag (both_left _ _ t))
    (both_left _ _ d))
    (insert_distinct i (both_right _ _ t) (both_right _ _ d))

pub perm_distinct : {m os : List Object} → Perm m os → tags_distinct os ≡ true → tags_distinct m ≡ true
unfolding tags_distinct lacks_tag every
perm_distinct none d = refl
perm_distinct (add {o} i p) d =
    insert_distinct i (perm_every (λ y. not (eqb y.tag o.tag)) p (both_left _ _ d))
    (perm_distinct p (both_right _ _ d))

-- ---- the record of an object

none_named : (j k : ℕ) (ps : List Placement) → count_placements_where (places_object_number j) ps ≡ 0
    → any_placement (puts_object_into k j) ps ≡ false
unfolding count_placements_where any_placement
none_named j k [] e = refl
none_named j k (p ∷ ps) e = elim (bool_cases (places_object_number j p)) [
  | inl y ↦ absurd (let z = if_yes (suc (count_placements_where (places_object_number j) ps))
      (count_placements_where (places_object_number j) ps) y in omega arith)
  | inr n ↦ either_no _ _ (both_no_right _ _ n)
      (none_named j k ps
      (sym (if_no (suc (count_placements_where (places_object_number j) ps))
      (count_placements_where (places_object_number j) ps) n)
      ∙ e))
]

-- an object that one placement names is in one record, of those that placements name
pub record Alone (ps : List Placement) (j n : ℕ) : Type 0 where
  pub place : ℕ
  pub only : (k : ℕ) → any_placement (puts_object_into k j) ps ≡ eqb place k
  pub low : 1 ≤ place
  pub high : place ≤ n

drop_right : (a b c : Bool) → b ≡ true → c ≡ false → either (both a b) c ≡ a
unfolding both either
drop_right true true false y z = refl
drop_right true true true y z = cc
drop_right true false c y z = cc
drop_right false b false y z = refl
drop_right false b true y z = cc

alone : (j n : ℕ) (ps : List Placement) → count_placements_where (places_object_number j) ps ≡ 1
    → every (places_in_record n) ps ≡ true → Alone ps j n
unfolding count_placements_where any_placement every
alone j n [] e r = absurd (omega arith)
alone j n (p ∷ ps) e r = elim (bool_cases (places_object_number j p)) [
  | inl y ↦ (
      let z = if_yes (suc (count_placements_where (places_object_number j) ps))
      (count_placements_where (places_object_number j) ps) y in
      let c : count_placements_where (places_object_number j) ps ≡ 0 = omega arith in
      let b = both_left _ _ r in
      record {
        place = p.into;
        only = λ k. drop_right (eqb p.into k) (eqb p.object j) (any_placement (puts_object_into k j) ps) y
            (none_named j k ps c);
        low = leb-true 1 p.into (both_left _ _ b);
        high = leb-true p.into n (both_right _ _ b);
      }
      )
  | inr f ↦ (
      let a =
      alone j n ps
      (sym (if_no (suc (count_placements_where (places_object_number j) ps))
      (count_placements_where (places_object_number j) ps)
      f) ∙ e) (both_right _ _ r) in
      record {
        place = a.place;
        only = λ k. either_false _ (both_no_right _ _ f) ∙ a.only k;
        low = a.low;
        high =
            a.high;
      }
      )
]

-- ---- the order of the records

-- the objects of n records from k on, record by record; the list's are numbered from j on
unfoldable pub ordered : List Placement → ℕ → ℕ → ℕ → List Object → List Object
ordered ps k zero j os = []
ordered ps k (suc n) j os = objects_in_record_from ps k j os ++ ordered ps (suc k) n j os

-- objects of no number
ordered_nil : (ps : List Placement) (k n j : ℕ) → ordered ps k n j [] ≡ []
unfolding ordered objects_in_record_from
ordered_nil ps k zero j = refl
ordered_nil ps k (suc n) j = ordered_nil ps (suc k) n j

module _ (ps : List Placement) (j : ℕ) (o : Object) (os : List Object) where
  skipped : (k : ℕ) → any_placement (puts_object_into k j) ps ≡ false → objects_in_record_from ps k j (o ∷ os)
      ≡ objects_in_record_from ps k (suc j) os
  unfolding objects_in_record_from
  skipped k e = if_no _ _ e

  taken : (k : ℕ) → any_placement (puts_object_into k j) ps ≡ true → objects_in_record_from ps k j (o ∷ os) ≡ o
      ∷ objects_in_record_from ps k (suc j) os
  unfolding objects_in_record_from
  taken k e = if_yes _ _ e

  module _ (r : ℕ) (only : (k : ℕ) → any_placement (puts_object_into k j) ps ≡ eqb r k) where
    elsewhere : (k : ℕ) → (r ≡ k → ⊥) → any_placement (puts_object_into k j) ps ≡ false
    elsewhere k ne = only k ∙ ne_eqb r k ne

    -- after its record the object does not stand
    passed : (n k : ℕ) → r < k → ordered ps k n j (o ∷ os) ≡ ordered ps k n (suc j) os
    unfolding ordered
    passed zero k h = refl
    passed (suc n) k h = ap₂ (λ (x y : List Object). x ++ y) (skipped k (elsewhere k (λ e. omega arith)))
        (passed n (suc k) (omega arith))

    inserted : (n k : ℕ) → k ≤ r → r < k + n → Insert o (ordered ps k n (suc j) os) (ordered ps k n j (o ∷ os))
    unfolding ordered
    inserted zero k h l = absurd (omega arith)
    inserted (suc n) k h l = elim (equal_or_not r k) [
      | inl e ↦ rw (taken k (only k ∙ eq-eqb r k e), passed n (suc k) (omega arith)) here
      | inr ne ↦ rw (skipped k (elsewhere k ne))
          (insert_behind (objects_in_record_from ps k (suc j) os) (inserted n (suc k) (omega arith) (omega arith)))
    ]

-- the objects in the order of the records are the list's, rearranged
pub arranged : (ps : List Placement) (n j : ℕ) (os : List Object) → each_placed_once ps j os ≡ true
    → every (places_in_record n) ps ≡ true → Perm (ordered ps 1 n j os) os
unfolding each_placed_once
arranged ps n j [] e r = rw (ordered_nil ps 1 n j) none
arranged ps n j (o ∷ os) e r =
    let a = alone j n ps (eqb-true _ _ (both_left _ _ e)) r in
    add (inserted ps j o os a.place a.only n 1 a.low (omega (arith, a.high)))
    (arranged ps n (suc j) os (both_right _ _ e) r)
