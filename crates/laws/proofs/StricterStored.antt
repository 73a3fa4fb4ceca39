-- A store made of objects that are put one by one into the empty one: what it holds under each tag, by the laws of the
-- store and with no byte of it computed. A value that is put changes no other tag's.
-- Assumes nothing.
use Rattle.std.specs.Prelude.{Option, Some, None}
use mathlib.Core.Path.{◌≡◌, refl, sym, ap, subst, ◌∙◌}
use mathlib.Core.Bool.{Bool, true, false}
use mathlib.Core.List.{List, [], ◌∷◌}
use mathlib.Core.Logic.{inl, inr}
use Prim.Native.Nat.{ℕ}
use lib.ListN.{length, replicate, length-replicate}
use borrow.Author.Tests.{leb-true, eqb-true, eqb-false}
use Rattle.basics.specs.Choice.{if, ◌and◌, ◌≤?◌, ◌=?◌}
use Rattle.basics.proofs.Laws.{if_yes, if_no, bool_cases, both_left, both_right}
use Rattle.dictionary.specs.Named.{row_number_found_or_zero, row_number_of_tag_or_zero}
use Rattle.dictionary.specs.Rows.{dictionary_rows, row_in, row_at, find_row, store_size}
use Rattle.dictionary.proofs.Find.{found}
use Rattle.dictionary.proofs.Lent.{row-found}
use Rattle.store.specs.Place.{StoredValue, absent, present, put_row, row_value, object_value}
use Rattle.store.proofs.Laws.{Fits, put-get, put_length, put_other, by_row, unknown_absent, empty_holds_nothing}
use Rattle.store.proofs.Rows.{rows_size, fits_row}
use Rattle.laws.proofs.StricterLaws.{apart}

-- ---- one value put

module _ (b : List ℕ) (t k : ℕ) (v : List ℕ) (at : find_row dictionary_rows t ≡ Some k) (f : Fits dictionary_rows b k v)
  where
    -- its own tag has it
    pub put_own : object_value (put_row dictionary_rows b k v) t ≡ present v
    put_own = by_row dictionary_rows (put_row dictionary_rows b k v) t k at ∙ put-get dictionary_rows b k v f

    -- every other tag keeps its value
    pub put_kept : (u : ℕ) → (u ≡ t → ⊥) → object_value b u ≡ object_value (put_row dictionary_rows b k v) u
    put_kept u ne = go (find_row dictionary_rows u) refl
      where
        go : (x : Option ℕ) → find_row dictionary_rows u ≡ x → object_value b u ≡ object_value (put_row dictionary_rows b k v)
            u
        go None e = unknown_absent dictionary_rows b u e ∙ sym
            (unknown_absent dictionary_rows (put_row dictionary_rows b k v) u e)
        go (Some j) e =
            by_row dictionary_rows b u j e
            ∙ sym
            (put_other dictionary_rows b k v f j
            (λ z. ne (sym (found dictionary_rows u j e).1 ∙ ap (λ (n : ℕ). (row_in dictionary_rows n).tag) z ∙ (found
            dictionary_rows t k at).1)))
            ∙ sym (by_row dictionary_rows (put_row dictionary_rows b k v) u j e)

-- ---- objects

-- what they have under a tag: the first of it
unfoldable pub value_among : List (ℕ × List ℕ) → ℕ → StoredValue
value_among [] tag = absent
value_among ((t, v) ∷ more) tag = if (t =? tag) (present v) (value_among more tag)

-- their store: the last one is put first
unfoldable pub store_of : List (ℕ × List ℕ) → List ℕ
store_of [] = replicate store_size 0
store_of ((t, v) ∷ more) = put_row dictionary_rows (store_of more) (row_number_of_tag_or_zero t) v

-- each tag is known, and its row has room for the value
abbrev pub room_at : ℕ → Option ℕ → Bool
room_at n None = false
room_at n (Some k) = n ≤? (row_at k).greatest

unfoldable pub have_room : List (ℕ × List ℕ) → Bool
have_room [] = true
have_room ((t, v) ∷ more) = room_at (length v) (find_row dictionary_rows t) and have_room more

-- ---- what their store holds

record Room (b : List ℕ) (t : ℕ) (v : List ℕ) : Type 0 where
  at : find_row dictionary_rows t ≡ Some (row_number_of_tag_or_zero t)
  fits : Fits dictionary_rows b (row_number_of_tag_or_zero t) v

room : (b : List ℕ) (t : ℕ) (v : List ℕ) → length b ≡ store_size → room_at (length v) (find_row dictionary_rows t) ≡ true
    → Room b t v
unfolding row_number_of_tag_or_zero
room b t v l h = go (find_row dictionary_rows t) refl h
  where
    go : (x : Option ℕ) → find_row dictionary_rows t ≡ x → room_at (length v) x ≡ true → Room b t v
    go None e g = apart g
    go (Some k) e g =
        let at : find_row dictionary_rows t ≡ Some (row_number_found_or_zero (find_row dictionary_rows t)) =
        e ∙ ap (λ (x : Option ℕ). Some (row_number_found_or_zero x)) (sym e) in
        let g2 = subst (λ (x : Option ℕ). room_at (length v) x ≡ true) (sym e ∙ at) g in
        record {
          at = at;
          fits = fits_row b (row_number_found_or_zero (find_row dictionary_rows t)) v l (row-found t at)
              (leb-true _ _ g2);
        }

length_of : (l : List (ℕ × List ℕ)) → have_room l ≡ true → length (store_of l) ≡ store_size
unfolding store_of have_room
length_of [] h = length-replicate {A = ℕ} store_size 0
length_of ((t, v) ∷ more) h =
    let n = length_of more (both_right _ _ h) in
    put_length dictionary_rows (store_of more) (row_number_of_tag_or_zero t) v
    (room (store_of more) t v n (both_left _ _ h)).fits ∙ n

empty_holds : (u : ℕ) → object_value (replicate store_size 0) u ≡ absent
empty_holds u = go (find_row dictionary_rows u) refl
  where
    go : (x : Option ℕ) → find_row dictionary_rows u ≡ x → object_value (replicate store_size 0) u ≡ absent
    go None e = unknown_absent dictionary_rows (replicate store_size 0) u e
    go (Some k) e =
        by_row dictionary_rows (replicate store_size 0) u k e
        ∙ subst (λ (n : ℕ). row_value dictionary_rows (replicate n 0) k ≡ absent) rows_size
        (empty_holds_nothing dictionary_rows k)

pub stored : (l : List (ℕ × List ℕ)) → have_room l ≡ true → (u : ℕ) → object_value (store_of l) u ≡ value_among l u
unfolding store_of have_room value_among
stored [] h u = empty_holds u
stored ((t, v) ∷ more) h u =
    let m = both_right _ _ h in
    let r = room (store_of more) t v (length_of more m) (both_left _ _ h) in
    elim (bool_cases (t =? u)) [
      | inl e ↦
          ap (object_value (put_row dictionary_rows (store_of more) (row_number_of_tag_or_zero t) v)) (sym (eqb-true t u e))
          ∙ put_own (store_of more) t (row_number_of_tag_or_zero t) v r.at r.fits
          ∙ sym (if_yes (present v) (value_among more u) e)
      | inr e ↦
          sym (put_kept (store_of more) t (row_number_of_tag_or_zero t) v r.at r.fits u (λ z. eqb-false t u e (sym z)))
          ∙ stored more m u
          ∙ sym (if_no (present v) (value_among more u) e)
    ]
