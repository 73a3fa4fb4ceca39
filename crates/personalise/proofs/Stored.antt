-- Objects put into a store: each in its own row, so that the order does not matter, and a row is free until its
-- object is put.
-- Assumes nothing.
use mathlib.Core.Path.{◌≡◌, refl, sym, ap, ◌∙◌}
use mathlib.Core.Bool.{true, not}
use mathlib.Core.List.{List, [], ◌∷◌, ◌++◌}
use Prim.Native.Nat.{ℕ}
use lib.Dec.{eqb}
use lib.ListN.{length, replicate}
use borrow.Author.Tests.{eqb-false, not-true}
use Rattle.basics.specs.Choice.{every}
use Rattle.basics.proofs.Laws.{both_left, both_right}
use Rattle.tlv.specs.Primitives.{Object}
use Rattle.dictionary.specs.Rows.{dictionary_rows, row_at, store_size}
use Rattle.dictionary.specs.Named.{row_number_found_or_zero, row_number_of_tag_or_zero}
use Rattle.dictionary.proofs.Find.{found}
use Rattle.store.specs.Place.{StoredValue, bytes_or_empty_if_absent, row_value, is_row_absent_or_empty, put_row}
use Rattle.store.proofs.Laws.{Fits, put_length, put_other, put_put, empty_holds_nothing}
use Rattle.store.proofs.Rows.{rows_size, fits_row}
use Rattle.personalise.specs.Objects.{tag_and_value_allowed_in_record, lacks_tag, tags_distinct}
use Rattle.personalise.specs.Read.{put_objects, empty_store_bytes}
use Rattle.personalise.proofs.Known.{Known, known}
use Rattle.personalise.proofs.Arranged.{Insert, here, there, Perm, none, add, perm_every}

-- one object put
abbrev pub put : List ℕ → Object → List ℕ
put b o = put_row dictionary_rows b (row_number_of_tag_or_zero o.tag) o.value

pub known_place : (o : Object) (k : Known o) → row_number_of_tag_or_zero o.tag ≡ k.place
unfolding row_number_of_tag_or_zero
known_place o k = ap row_number_found_or_zero k.found

-- it fits its row
fits : (b : List ℕ) (o : Object) → tag_and_value_allowed_in_record o ≡ true → length b ≡ store_size
    → Fits dictionary_rows b (row_number_of_tag_or_zero o.tag) o.value
fits b o s l = let k = known o s in rw (known_place o k) (fits_row b k.place o.value l k.row k.most)

pub put_size : (b : List ℕ) (o : Object) → tag_and_value_allowed_in_record o ≡ true → length b ≡ store_size
    → length (put b o) ≡ store_size
put_size b o s l = put_length dictionary_rows b (row_number_of_tag_or_zero o.tag) o.value (fits b o s l) ∙ l

-- objects of two tags have two rows
two_rows : (o x : Object) → tag_and_value_allowed_in_record o ≡ true → tag_and_value_allowed_in_record x ≡ true
    → not (eqb x.tag o.tag) ≡ true → row_number_of_tag_or_zero x.tag ≡ row_number_of_tag_or_zero o.tag → ⊥
two_rows o x s t d e =
    let k = known o s in
    let m = known x t in
    let f = (found dictionary_rows o.tag k.place k.found).1 in
    let g = (found dictionary_rows x.tag m.place m.found).1 in
    let q : m.place ≡ k.place = sym (known_place x m) ∙ e ∙ known_place o k in
    eqb-false x.tag o.tag (not-true _ d) (sym g ∙ ap (λ (i : ℕ). (row_at i).tag) q ∙ f)

swap : (b : List ℕ) (o x : Object) → tag_and_value_allowed_in_record o ≡ true → tag_and_value_allowed_in_record x ≡ true
    → not (eqb x.tag o.tag) ≡ true → length b ≡ store_size → put (put b x) o ≡ put (put b o) x
swap b o x s t d l = put_put dictionary_rows b (row_number_of_tag_or_zero x.tag) (row_number_of_tag_or_zero o.tag) x.value
    o.value (two_rows o x s t d) (fits b x t l) (fits b o s l)

-- ---- the order does not matter

insert_put : {o : Object} (b : List ℕ) {l m : List Object} → Insert o l m → tag_and_value_allowed_in_record o ≡ true
    → every tag_and_value_allowed_in_record l ≡ true → lacks_tag o.tag l ≡ true → length b ≡ store_size
    → put_objects b m ≡ put_objects (put b o) l
unfolding put_objects every lacks_tag
insert_put b here s e t z = refl
insert_put {o} b (there {x} {l} i) s e t z =
    insert_put (put b x) i s (both_right _ _ e) (both_right _ _ t) (put_size b x (both_left _ _ e) z)
    ∙ ap (λ (c : List ℕ). put_objects c l) (swap b o x s (both_left _ _ e) (both_left _ _ t) z)

pub perm_put : (b : List ℕ) {m os : List Object} → Perm m os → every tag_and_value_allowed_in_record os ≡ true
    → tags_distinct os ≡ true → length b ≡ store_size → put_objects b m ≡ put_objects b os
unfolding put_objects every tags_distinct lacks_tag
perm_put b none e d z = refl
perm_put b (add {o} i p) e d z =
    insert_put b i (both_left _ _ e) (perm_every tag_and_value_allowed_in_record p (both_right _ _ e))
    (perm_every (λ y. not (eqb y.tag o.tag)) p (both_left _ _ d)) z
    ∙ perm_put (put b o) p (both_right _ _ e) (both_right _ _ d) (put_size b o (both_left _ _ e) z)

-- ---- free rows

-- the row of each object is free
abbrev pub FreeIn : List ℕ → List Object → Type 0
FreeIn b [] = Unit {0}
FreeIn b (o ∷ os) = (is_row_absent_or_empty dictionary_rows b (row_number_of_tag_or_zero o.tag) ≡ true) × FreeIn b os

-- a put leaves free the rows of objects with other tags
pub free_put : (b : List ℕ) (o : Object) (os : List Object) → tag_and_value_allowed_in_record o ≡ true
    → every tag_and_value_allowed_in_record os ≡ true → lacks_tag o.tag os ≡ true → length b ≡ store_size
    → FreeIn b os → FreeIn (put b o) os
unfolding every lacks_tag
free_put b o [] s e t l f = tt
free_put b o (x ∷ os) s e t l f = (
  ap (λ (v : StoredValue). eqb (length (bytes_or_empty_if_absent v)) 0)
      (put_other dictionary_rows b (row_number_of_tag_or_zero o.tag) o.value (fits b o s l)
      (row_number_of_tag_or_zero x.tag)
      (two_rows o x s (both_left _ _ e) (both_left _ _ t))) ∙ f.0,
  free_put b o os s (both_right _ _ e) (both_right _ _ t) l f.1,
)

-- so do several
pub free_behind : (b : List ℕ) (x y : List Object) → every tag_and_value_allowed_in_record (x ++ y) ≡ true
    → tags_distinct (x ++ y) ≡ true → length b ≡ store_size → FreeIn b (x ++ y)
    → (length (put_objects b x) ≡ store_size) × FreeIn (put_objects b x) y
unfolding put_objects every tags_distinct
free_behind b [] y e d l f = (l, f)
free_behind b (o ∷ x) y e d l f =
    free_behind (put b o) x y (both_right _ _ e) (both_right _ _ d) (put_size b o (both_left _ _ e) l)
    (free_put b o (x ++ y) (both_left _ _ e) (both_right _ _ e) (both_left _ _ d) l f.1)

-- puts one after the other
pub put_join : (b : List ℕ) (x y : List Object) → put_objects b (x ++ y) ≡ put_objects (put_objects b x) y
unfolding put_objects
put_join b [] y = refl
put_join b (o ∷ x) y = put_join (put b o) x y

-- every row of the empty store is free
pub empty_free : (os : List Object) → FreeIn empty_store_bytes os
empty_free [] = tt
empty_free (o ∷ os) = (
  ap
      (λ (n : ℕ). eqb
      (length (bytes_or_empty_if_absent (row_value dictionary_rows (replicate n 0) (row_number_of_tag_or_zero o.tag)))) 0)
      (sym rows_size)
      ∙ ap (λ (v : StoredValue). eqb (length (bytes_or_empty_if_absent v)) 0)
      (empty_holds_nothing dictionary_rows (row_number_of_tag_or_zero o.tag)),
  empty_free os,
)
