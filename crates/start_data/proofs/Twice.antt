-- A known tag twice: the first object of the tag is there once it is set, what is there stays there, and a second
-- one is refused.
-- Assumes nothing.
use Rattle.std.specs.Prelude.{Some, Option, None}
use mathlib.Core.Path.{◌≡◌, refl, sym, ap, subst, ◌∙◌}
use mathlib.Core.Bool.{true, not}
use mathlib.Core.Logic.{◌⊎◌, inl, inr}
use mathlib.Core.List.{List, ◌∷◌, ◌++◌}
use Prim.Native.Nat.{ℕ}
use lib.ListN.{length}
use Rattle.basics.proofs.Laws.{both_no_left, both_no_right, bool_cases}
use Rattle.basics.proofs.Order.{equal_or_not}
use Rattle.tlv.specs.Primitives.{Object}
use Rattle.dictionary.specs.Rows.{dictionary_rows, find_row, store_size}
use Rattle.store.specs.Place.{is_present, row_value, put_row}
use Rattle.store.proofs.Laws.{put_length, put-get, put_other}
use Rattle.start_data.specs.StartData.{start_may_set_object_in_row, set_start_object, continue_setting, set_start_objects}
use Rattle.start_data.proofs.Setting.{set_taken, set_refused}
use Rattle.start_data.proofs.Laws.{Put, put_of, put_place, none_after}

abbrev There : ℕ → List ℕ → Type 0
There k b = is_present (row_value dictionary_rows b k) ≡ true

-- a put leaves there what is there, and puts its own
put_there : (b : List ℕ) (j : ℕ) (o : Object) → length b ≡ store_size → Put b j o → (k : ℕ) → (There k b) ⊎ (k ≡ j)
    → There k (put_row dictionary_rows b j o.value)
put_there b j o l p k x = elim (equal_or_not k j) [
  | inl e ↦ ap is_present (ap (row_value dictionary_rows (put_row dictionary_rows b j o.value)) e ∙ put-get dictionary_rows
      b j o.value (put_place b j o l p))
  | inr n ↦ elim x [
    | inl t ↦ ap is_present (put_other dictionary_rows b j o.value (put_place b j o l p) k n) ∙ t
    | inr e ↦ absurd (n e)
  ]
]

-- an object whose row is there is refused
there_refused : (b : List ℕ) (o : Object) (k : ℕ) → find_row dictionary_rows o.tag ≡ Some k → There k b
    → set_start_object b o ≡ None
unfolding start_may_set_object_in_row
there_refused b o k e t =
    set_refused b o (find_row dictionary_rows o.tag) refl k e
    (both_no_right _ _ (both_no_right _ _ (both_no_left _ _ (ap not t))))

-- once an object of a known tag is set, its row is there
set_there : (b : List ℕ) (o : Object) (k : ℕ) → length b ≡ store_size → find_row dictionary_rows o.tag ≡ Some k
    → (x : Option (List ℕ)) → set_start_object b o ≡ x → (rest : List ℕ → Option (List ℕ))
    → ((d : List ℕ) → (length d ≡ store_size) × There k d → rest d ≡ None) → continue_setting x rest ≡ None
set_there b o k l e None q rest h = refl
set_there b o k l e (Some d) q rest h = elim (bool_cases (start_may_set_object_in_row b k o)) [
  | inl s ↦ (let p = put_of b o k e s in
      let z : put_row dictionary_rows b k o.value ≡ d =
      (let w = set_taken b o (find_row dictionary_rows o.tag) refl k e s in cc) in
      h d (subst (λ (y : List ℕ). (length y ≡ store_size) × There k y) z
      (put_length dictionary_rows b k o.value (put_place b k o l p) ∙ l, put_there b k o l p k (inr refl))))
  | inr s ↦ (let w = set_refused b o (find_row dictionary_rows o.tag) refl k e s in cc)
]

-- two objects of a known tag, whatever is around them, are refused, empty ones too
pub twice_refused : (b : List ℕ) (xs ys zs : List Object) (o p : Object) (k : ℕ) → length b ≡ store_size
    → find_row dictionary_rows o.tag ≡ Some k → o.tag ≡ p.tag → set_start_objects b (xs ++ (o ∷ (ys ++ (p ∷ zs)))) ≡ None
unfolding set_start_objects
twice_refused b xs ys zs o p k l e q = none_after (λ d. Unit {0}) (λ d j r m w t. tt) (o ∷ (ys ++ (p ∷ zs))) first xs b
    (l, tt)
  where
    second : (d : List ℕ) → (length d ≡ store_size) × There k d → set_start_objects d (p ∷ zs) ≡ None
    second d h = ap (λ (x : Option (List ℕ)). continue_setting x (λ c. set_start_objects c zs))
        (there_refused d p k (ap (find_row dictionary_rows) (sym q) ∙ e) h.1)

    first : (c : List ℕ) → (length c ≡ store_size) × Unit {0} → set_start_objects c (o ∷ (ys ++ (p ∷ zs))) ≡ None
    first c h =
        set_there c o k h.0 e (set_start_object c o) refl (λ d. set_start_objects d (ys ++ (p ∷ zs)))
        (none_after (There k) (λ d j r m w t. put_there d j r m w k (inl t)) (p ∷ zs) second ys)
