-- The laws of setting objects: one for each way an object goes, and objects one after the other.
-- Assumes nothing.
use Rattle.std.specs.Prelude.{Some, None, Option}
use mathlib.Core.Path.{◌≡◌, refl, sym, ap, subst, ◌∙◌}
use mathlib.Core.Bool.{Bool, true, false}
use mathlib.Core.List.{List, [], ◌∷◌}
use Prim.Native.Nat.{ℕ}
use native.Mathlib.Omega.{arith}
use Rattle.std.specs.Prelude.{Result, Ok, Err}
use Rattle.basics.specs.Reason.{refusal_bad_start_object}
use Rattle.session_record.specs.declared.Refusal.{Refusal}
use Rattle.basics.proofs.Laws.{if_yes, if_no, both_left, both_right}
use Rattle.tlv.specs.Primitives.{Object, primitive_objects, are_primitive_objects_parsed, leading_primitive_objects}
use Rattle.tlv.proofs.Primitives.{leading_of_run}
use Rattle.dictionary.specs.Rows.{dictionary_rows, row_at, find_row}
use Rattle.dictionary.specs.Form.{length_and_digits_fit_row}
use Rattle.store.specs.Place.{put_row}
use Rattle.start_data.specs.StartData.{start_may_set_object_in_row, set_object_of_row_found, set_start_object}
use Rattle.start_data.specs.StartData.{continue_setting, set_start_objects, set_parsed_start_objects}
use Rattle.start_data.specs.StartData.{ReportsWhetherObjectsSet}
use Rattle.start_data.specs.Inner.{ReportsSetOrRefused}

-- ---- one object

module _ (b : List ℕ) (o : Object) (x : Option ℕ) (p : x ≡ find_row dictionary_rows o.tag) where
  pub set_unknown : x ≡ None → set_start_object b o ≡ Some b
  unfolding set_start_object
  set_unknown q = ap (set_object_of_row_found b o) (sym p ∙ q)

  module _ (k : ℕ) (q : x ≡ Some k) where
    pub set_taken : start_may_set_object_in_row b k o ≡ true
        → set_start_object b o ≡ Some (put_row dictionary_rows b k o.value)
    unfolding set_start_object
    set_taken s = ap (set_object_of_row_found b o) (sym p ∙ q) ∙ if_yes _ _ s

    pub set_refused : start_may_set_object_in_row b k o ≡ false → set_start_object b o ≡ None
    unfolding set_start_object
    set_refused s = ap (set_object_of_row_found b o) (sym p ∙ q) ∙ if_no _ _ s

-- an object that may be set fits its row
pub settable_fits : (b : List ℕ) (k : ℕ) (o : Object) → start_may_set_object_in_row b k o ≡ true
    → length_and_digits_fit_row (row_at k) o.value ≡ true
unfolding start_may_set_object_in_row
settable_fits b k o e = both_left _ _ (both_right _ _ e)

-- ---- what is said and left

pub says_set : {r : Bool} {c : List ℕ} {x : Option (List ℕ)} → x ≡ Some c → r ≡ true → ReportsWhetherObjectsSet r c x
says_set {r} {c} e f = subst (ReportsWhetherObjectsSet r c) (sym e) (f, refl)

pub says_not : {r : Bool} (c : List ℕ) {x : Option (List ℕ)} → x ≡ None → r ≡ false → ReportsWhetherObjectsSet r c x
says_not {r} c e f = subst (ReportsWhetherObjectsSet r c) (sym e) f

pub was_set : {r : Bool} {c : List ℕ} (x : Option (List ℕ)) → ReportsWhetherObjectsSet r c x → r ≡ true → x ≡ Some c
was_set None s f = cc
was_set (Some d) s f = ap Some (sym s.1)

pub was_not : {r : Bool} (c : List ℕ) (x : Option (List ℕ)) → ReportsWhetherObjectsSet r c x → r ≡ false → x ≡ None
was_not c None s f = refl
was_not c (Some d) s f = cc

-- what is reported as a result
pub was_ok : {r : Result Unit Refusal} {u : Unit {0}} {c : List ℕ} (x : Option (List ℕ)) → ReportsSetOrRefused r c x → r ≡ Ok u
    → x ≡ Some c
was_ok {r} {u} {c} x s e = go r s e
  where
    go : (r : Result Unit Refusal) → ReportsSetOrRefused r c x → r ≡ Ok u → x ≡ Some c
    go (Ok v) s e = was_set x s refl
    go (Err q) s e = cc

pub was_err : {r : Result Unit Refusal} {q : Refusal} (c : List ℕ) (x : Option (List ℕ)) → ReportsSetOrRefused r c x
    → r ≡ Err q → (x ≡ None) × (q ≡ record { number = refusal_bad_start_object })
was_err {r} {q} c x s e = go r s e
  where
    go : (r : Result Unit Refusal) → ReportsSetOrRefused r c x → r ≡ Err q
        → (x ≡ None) × (q ≡ record { number = refusal_bad_start_object })
    go (Ok v) s e = let z : ◌≡◌ {A = ℕ} 0 1 = cc in absurd (omega arith)
    go (Err p) s e = let z : p ≡ q = cc in (was_not c x s.0 refl, sym z ∙ s.1)

pub says_err : {r : Result Unit Refusal} (c : List ℕ) {x : Option (List ℕ)} → x ≡ None
    → r ≡ Err (record { number = refusal_bad_start_object }) → ReportsSetOrRefused r c x
says_err {r} c {x} e f = subst (λ (r : Result Unit Refusal). ReportsSetOrRefused r c x) (sym f) (says_not c e refl, refl)

-- ---- one after the other

-- setting the objects of a run is setting those at the front of its bytes
pub set_run : (b s : List ℕ) → are_primitive_objects_parsed (primitive_objects s) ≡ true
    → set_parsed_start_objects b (primitive_objects s) ≡ set_start_objects b (leading_primitive_objects s)
unfolding set_parsed_start_objects
set_run b s e = go (primitive_objects s) refl e
  where
    go : (x : Option (List Object)) → primitive_objects s ≡ x → are_primitive_objects_parsed x ≡ true
        → set_parsed_start_objects b x ≡ set_start_objects b (leading_primitive_objects s)
    go None p e = cc
    go (Some os) p e = ap (set_start_objects b) (sym (leading_of_run s os p))

module _ (b : List ℕ) {l : List Object} where
  pub set_end : l ≡ [] → set_start_objects b l ≡ Some b
  unfolding set_start_objects
  set_end e = ap (set_start_objects b) e

  module _ (o : Object) (os : List Object) (e : l ≡ o ∷ os) where
    pub set_on : (c : List ℕ) → set_start_object b o ≡ Some c → set_start_objects b l ≡ set_start_objects c os
    unfolding set_start_objects
    set_on c f = ap (set_start_objects b) e ∙ ap (λ y. continue_setting y (λ d. set_start_objects d os)) f

    pub set_stopped : set_start_object b o ≡ None → set_start_objects b l ≡ None
    unfolding set_start_objects
    set_stopped f = ap (set_start_objects b) e ∙ ap (λ y. continue_setting y (λ d. set_start_objects d os)) f
