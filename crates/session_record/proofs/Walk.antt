-- A walk over the rows, from one object that is present to the next: what it passed fits, what a start must bring is
-- counted, and the rows from there on decide. All that a start must bring is present exactly when the count is that of
-- the dictionary. Assumes nothing.
use mathlib.Core.Path.{◌≡◌, refl, sym, ap, ap₂, subst, ◌∙◌}
use mathlib.Core.Bool.{Bool, true, false, not}
use mathlib.Core.Logic.{inl, inr}
use mathlib.Core.List.{List, [], ◌∷◌}
use Prim.Native.Nat.{ℕ, zero, suc, ◌+◌, ◌-◌, ◌≤◌, ◌<◌}
use native.Mathlib.Omega.{arith}
use native.Mathlib.Numerals.{add-one}
use borrow.Author.Tests.{eq-eqb, ne_eqb}
use lib.Dec.{eqb}
use lib.ListN.{length, get_or, drop, drop_of_length-le}
use lib.Seq.{drop-cons}
use Rattle.basics.specs.Choice.{if, both, either, every}
use Rattle.basics.proofs.Laws.{if_yes, if_no, both_true, both_no_left, either_left, either_right, either_no}
use Rattle.basics.proofs.Order.{equal_or_not}
use Rattle.dictionary.specs.Rows.{Row, dictionary_rows, blank_row, row_at, row_count, optional_at_start}
use Rattle.dictionary.specs.Named.{required_at_start_count}
use Rattle.store.specs.Place.{row_offset, row_place_bytes, row_length_plus_one_or_zero}
use Rattle.store.specs.Held.{has_object}
use Rattle.store.proofs.Laws.{there_is, length_byte_at}
use Rattle.store.proofs.Rows.{rows_length}
use Rattle.session_record.specs.Ranges.{stored_object_absent_or_fits_row, all_stored_objects_fit_rows}
use Rattle.session_record.specs.Ranges.{is_present_if_required_at_start, all_required_at_start_present}
use Rattle.session_record.specs.Inner.{AbsentRowsPassed, required_at_start_count_in, required_rows}
use Rattle.session_record.specs.Inner.{all_fit_and_required_present_if_asked}
use Rattle.session_record.proofs.Every.{every_no, every_yes, every_done}
use Rattle.session_record.proofs.Tags.{row-found, held_is}
use Rattle.session_record.proofs.Fit.{place_absent, object_place, Stands}

-- ---- what a start must bring, counted

-- how many of the objects of some rows that a start must bring are present
unfoldable pub brought_in : List ℕ → List Row → ℕ
brought_in b [] = 0
brought_in b (r ∷ rs) = if (has_object b r.tag) r.must 0 + brought_in b rs

part : (t : Bool) (m : ℕ) → if t m 0 ≤ m
unfolding if
part true m = omega arith
part false m = omega arith

-- at most all of them
at_most : (b : List ℕ) (table : List Row) → brought_in b table ≤ required_at_start_count_in table
unfolding brought_in required_at_start_count_in
at_most b [] = omega arith
at_most b (r ∷ rs) = omega (arith, part (has_object b r.tag) r.must, at_most b rs)

-- two equations that hold together have one test
alike : (a b c d : ℕ) → (a ≡ b → c ≡ d) → (c ≡ d → a ≡ b) → eqb a b ≡ eqb c d
alike a b c d f g =
    elim (equal_or_not a b) [
      | inl e ↦ eq-eqb a b e ∙ sym (eq-eqb c d (f e))
      | inr n ↦ ne_eqb a b n ∙ sym (ne_eqb c d (λ e. n (g e)))
    ]

-- one more row, after rows of whose q objects n are there
one_more : (m : ℕ) (t : Bool) (n q : ℕ) → n ≤ q → both (either (eqb m optional_at_start) t) (eqb n q) ≡ eqb (if t m 0 + n)
    (m + q)
unfolding if
one_more m true n q l = both_true _ (either_right _ _ refl) ∙ alike n q (m + n) (m + q) (λ e. omega arith)
    (λ e. omega arith)
one_more m false n q l =
    elim (equal_or_not m 0) [
      | inl z ↦ both_true _ (either_left _ _ (eq-eqb m 0 z)) ∙ alike n q (0 + n) (m + q) (λ e. omega arith)
          (λ e. omega arith)
      | inr z ↦ both_no_left _ _ (either_no _ _ (ne_eqb m 0 z) refl) ∙ sym (ne_eqb (0 + n) (m + q) (λ e. omega arith))
    ]

-- all are there exactly when as many are
counted : (b : List ℕ) (table : List Row) → every (is_present_if_required_at_start b) table ≡ eqb (brought_in b table)
    (required_at_start_count_in table)
unfolding every is_present_if_required_at_start brought_in required_at_start_count_in
counted b [] = refl
counted b (r ∷ rs) =
    ap (both (either (eqb r.must optional_at_start) (has_object b r.tag))) (counted b rs)
    ∙ one_more r.must (has_object b r.tag) (brought_in b rs) (required_at_start_count_in rs) (at_most b rs)

-- ---- past objects that are absent

pub passed_none : (b : List ℕ) (k at : ℕ) → k ≤ row_count → at ≡ row_offset dictionary_rows k → AbsentRowsPassed b k k at
passed_none b k at h e = record { later = omega arith; within = h; place = e; absent = λ j l m. absurd (omega arith) }

pub passed_more : (b : List ℕ) (from k at w : ℕ) → AbsentRowsPassed b from k at → k < row_count → Stands k at w
    → get_or b at 0 ≡ 0 → AbsentRowsPassed b from (k + 1) (at + w + 1)
passed_more b from k at w p h s z =
    record {
      later = omega (arith, p.later);
      within = omega arith;
      place = s.next;
      absent =
          λ j l m.
          elim (equal_or_not j k) [
            | inl e ↦ ap (λ (x : ℕ). get_or b x 0) (ap (row_offset dictionary_rows) e ∙ sym p.place) ∙ z
            | inr n ↦ p.absent j l (omega arith)
          ];
    }

-- ---- the walk

-- it is at row k, and has counted n objects
pub record Walk (b : List ℕ) (k n : ℕ) : Type 0 where
  pub fits : all_stored_objects_fit_rows b ≡ every (stored_object_absent_or_fits_row b) (drop k dictionary_rows)
  pub count : brought_in b dictionary_rows ≡ n + brought_in b (drop k dictionary_rows)

pub walk_start : (b : List ℕ) → Walk b 0 0
unfolding all_stored_objects_fit_rows
walk_start b = record { fits = refl; count = omega arith }

pub walk_most : (b : List ℕ) (k n : ℕ) → Walk b k n → n ≤ required_at_start_count
walk_most b k n w = omega (arith, w.count, at_most b dictionary_rows, required_rows)

module _ (b : List ℕ) (k n : ℕ) (w : Walk b k n) (h : k < row_count) where
  -- an object is present by the byte where its place starts
  there : has_object b (row_at k).tag ≡ not (eqb (get_or b (row_offset dictionary_rows k) 0) 0)
  there = held_is b _ k (row-found k h) refl refl ∙ there_is dictionary_rows b k ∙ ap (λ (x : ℕ). not (eqb x 0))
      (length_byte_at dictionary_rows b k)

  counted_on : brought_in b (drop k dictionary_rows) ≡ if (has_object b (row_at k).tag) (row_at k).must 0
      + brought_in b (drop (k + 1) dictionary_rows)
  unfolding brought_in
  counted_on = let l : k < length dictionary_rows = omega (arith, rows_length) in
      rw (add-one, drop-cons dictionary_rows k blank_row)

  fits_on : stored_object_absent_or_fits_row b (row_at k) ≡ true
      → all_stored_objects_fit_rows b ≡ every (stored_object_absent_or_fits_row b) (drop (k + 1) dictionary_rows)
  fits_on e = w.fits ∙ every_yes (stored_object_absent_or_fits_row b) dictionary_rows blank_row k (omega (arith, rows_length))
      e

  -- past a row whose object is absent
  walk_past : get_or b (row_offset dictionary_rows k) 0 ≡ 0 → Walk b (k + 1) n
  unfolding row_length_plus_one_or_zero
  walk_past z =
      let i = if_no (row_at k).must 0 (there ∙ ap not (eq-eqb _ _ z)) in
      record {
        fits = fits_on (object_place b k h ∙ place_absent (row_at k) (row_place_bytes dictionary_rows b k)
            (length_byte_at dictionary_rows b k ∙ z));
        count = omega (arith, w.count, counted_on);
      }

  -- past one whose object is present and fits
  pub walk_held : (at m : ℕ) → at ≡ row_offset dictionary_rows k → 0 < get_or b at 0 → m ≡ (row_at k).must
      → stored_object_absent_or_fits_row b (row_at k) ≡ true → Walk b (k + 1) (n + m)
  walk_held at m p l q e =
      let x = ap (λ (o : ℕ). get_or b o 0) p in
      let i = if_yes (row_at k).must 0
      (there ∙ ap not (ne_eqb (get_or b (row_offset dictionary_rows k) 0) 0 (λ z. omega arith))) in
      record { fits = fits_on e; count = omega (arith, w.count, counted_on) }

  -- one that does not fit decides
  pub walk_no : (asked : Bool) → stored_object_absent_or_fits_row b (row_at k) ≡ false
      → all_fit_and_required_present_if_asked asked b ≡ false
  walk_no asked e = both_no_left _ _ (w.fits ∙ every_no (stored_object_absent_or_fits_row b) dictionary_rows blank_row k
      (omega (arith, rows_length)) e)

-- past m rows whose objects are absent
skip : (b : List ℕ) (n m k e : ℕ) → Walk b k n → k + m ≡ e → e ≤ row_count
    → ((j : ℕ) → k ≤ j → j < e → get_or b (row_offset dictionary_rows j) 0 ≡ 0) → Walk b e n
skip b n zero k e w q h p = let i : k ≡ e = omega arith in subst (λ (x : ℕ). Walk b x n) i w
skip b n (suc m) k e w q h p =
    skip b n m (k + 1) e (walk_past b k n w (omega arith) (p k (omega arith) (omega arith))) (omega arith) h
    (λ j l. p j (omega arith))

pub walk_on : (b : List ℕ) (k n row at : ℕ) → Walk b k n → AbsentRowsPassed b k row at → Walk b row n
walk_on b k n row at w p = skip b n (row - k) k row w (omega (arith, p.later)) p.within p.absent

-- at the end the count decides
pub walk_end : (asked : Bool) (b : List ℕ) (k n : ℕ) → Walk b k n → row_count ≤ k
    → all_fit_and_required_present_if_asked asked b ≡ either (not asked) (eqb n required_at_start_count)
unfolding all_required_at_start_present brought_in
walk_end asked b k n w h =
    let l : length dictionary_rows ≤ k = omega (arith, rows_length) in
    let z : brought_in b (drop k dictionary_rows) ≡ 0 = ap (brought_in b) (drop_of_length-le dictionary_rows l) in
    let c : brought_in b dictionary_rows ≡ n = omega (arith, w.count) in
    both_true _ (w.fits ∙ every_done (stored_object_absent_or_fits_row b) dictionary_rows blank_row k l)
    ∙ ap (either (not asked)) (counted b dictionary_rows ∙ ap₂ eqb c required_rows)
