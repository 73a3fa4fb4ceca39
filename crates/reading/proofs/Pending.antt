-- Pending values, on lists and numbers: what is said of an object is what the rules say of it, what one value more does
-- to the store with them in it, which rows have no bytes then, and the judgement one object on (`Judging`).
-- Assumes nothing.
use Rattle.std.specs.Prelude.{Option, Some, None, Result, Ok, Err}
use mathlib.Core.Path.{◌≡◌, refl, sym, ap, ap₂, subst, ◌∙◌}
use mathlib.Core.Bool.{Bool, true, false, not}
use mathlib.Core.Logic.{◌⊎◌, inl, inr}
use mathlib.Core.List.{List, [], ◌∷◌, ◌++◌}
use Prim.Native.Nat.{ℕ, zero, suc, ◌+◌, ◌≤◌, ◌<◌}
use native.Mathlib.Numerals.{add-one}
use native.Mathlib.Omega.{arith}
use lib.Dec.{eqb, leb}
use lib.ListN.{length, get_or, set, take, drop, replicate, length-drop, length-set, get_or-replicate}
use lib.Seq.{take-suc, take-suc-set, drop-cons, get_or-set_same, get_or-set_other, get_or-take, length-take-le}
use borrow.Author.Tests.{eq-eqb, ne_eqb, eqb-true, le-leb, lt-leb}
use Rattle.basics.specs.Choice.{if, both}
use Rattle.basics.proofs.Laws.{if_yes, if_no, if_ind, both_left, both_right, both_yes, both_true, both_no_left}
use Rattle.basics.proofs.Laws.{both_no_right}
use Rattle.basics.proofs.Order.{equal_or_not, le-or-gt}
use Rattle.tlv.specs.Tag.{is_private}
use Rattle.dictionary.specs.declared.RowAttributes.{RowAttributes}
use Rattle.dictionary.specs.Rows.{dictionary_rows, row_at, row_count, find_row, store_size}
use Rattle.dictionary.specs.Packing.{attributes_of, row_with_attributes_and_tag_zero}
use Rattle.dictionary.proofs.Fit.{fits_length}
use Rattle.dictionary.proofs.Lent.{row-found}
use Rattle.store.specs.Place.{StoredValue, bytes_or_empty_if_absent, row_offset, row_length_plus_one_or_zero, is_row_absent_or_empty}
use Rattle.store.specs.Place.{put_row}
use Rattle.store.proofs.Laws.{Fits, put_length, put-get, put_other, length_byte_at}
use Rattle.store.proofs.Rows.{fits_row, free_yes, free_no}
use Rattle.reading.specs.declared.ResponseVerdict.{ResponseVerdict}
use Rattle.reading.specs.declared.ResponseVerdict.TheVariants.{NotAllowed}
use Rattle.reading.specs.Taking.{PrimitiveItem, card_may_set, row_allows_value_from_card}
use Rattle.reading.specs.Taking.{row_allows_value_and_absent_or_empty, StoringState, storing_state}
use Rattle.reading.specs.Taking.{store_known_item, store_item_of_row_found, store_item, store_next_item, store_all_items}
use Rattle.reading.specs.InnerItems.{packed_item_tag, packed_item_template_tag, unpacked_item, packed_item_value_in}
use Rattle.reading.specs.InnerItems.{packed_item_value_start, packed_item_value_length, ItemValueInside}
use Rattle.reading.specs.InnerItems.{most_listed_items, unpacked_items, IsItemList, unpacked_first_items}
use Rattle.reading.specs.InnerPending.{judge_known_item, judge_item_of_row_found, judge_item, store_judged_item}
use Rattle.reading.specs.InnerPending.{packed_pending_entry, pending_entry_row}
use Rattle.reading.specs.InnerPending.{store_with_pending, mark_row_filled_if_non_empty, PendingEntryFitsRowAndBytes}
use Rattle.reading.specs.InnerPending.{AllPendingEntriesFitRowAndBytes, IsPendingList, PendingEntriesAndMarksForStore}
use Rattle.reading.proofs.Laws.{row_skipped, row_comes, may_come_fits, next_good, next_bad, took, took_all}
use Rattle.reading.proofs.Items.{inside_at}

-- ---- one object

judged_known : (answer : ℕ) (b : List ℕ) (i : PrimitiveItem) (k : ℕ)
    → store_known_item answer b i k ≡ store_judged_item b i (judge_known_item answer i k)
unfolding judge_known_item row_allows_value_and_absent_or_empty if both
judged_known answer b i k = by_tests (both (is_private i.tag) (not (card_may_set (row_at k))))
    (row_allows_value_from_card answer (row_at k) i.around i.value)
  where
    by_tests : (p a : Bool)
        → if p (storing_state true b)
        (if (both a (is_row_absent_or_empty dictionary_rows b k))
        (storing_state true (put_row dictionary_rows b k i.value))
        (storing_state false b))
        ≡ store_judged_item b i (if p (Ok None) (if a (Ok (Some k)) (Err NotAllowed)))
    by_tests true a = refl
    by_tests false true = refl
    by_tests false false = refl

pub item_judged : (answer : ℕ) (b : List ℕ) (i : PrimitiveItem)
    → store_item answer b i ≡ store_judged_item b i (judge_item answer i)
unfolding store_item
item_judged answer b i = go (find_row dictionary_rows i.tag)
  where
    go : (x : Option ℕ) → store_item_of_row_found answer b i x ≡ store_judged_item b i (judge_item_of_row_found answer i x)
    go None = refl
    go (Some k) = judged_known answer b i k

-- a value that is for a row fits it, and one other verdict is reported
abbrev ForFits : PrimitiveItem → Result (Option ℕ) ResponseVerdict → Type 0
ForFits i (Ok None) = Unit {0}
ForFits i (Err v) = v ≡ NotAllowed
ForFits i (Ok (Some k)) = (k < row_count) × (length i.value ≤ (row_at k).greatest)

pub row_fits : (answer : ℕ) (i : PrimitiveItem) {r : Result (Option ℕ) ResponseVerdict} → judge_item answer i ≡ r
    → ForFits i r
unfolding judge_known_item
row_fits answer i e = subst (ForFits i) e (go (find_row dictionary_rows i.tag) refl)
  where
    go : (x : Option ℕ) → find_row dictionary_rows i.tag ≡ x → ForFits i (judge_item_of_row_found answer i x)
    go None q = tt
    go (Some k) q =
        if_ind (ForFits i) _ _ _ (λ _. tt)
        (λ _. if_ind (ForFits i) _ _ _
        (λ a. (
          row-found i.tag q,
          (fits_length (row_at k) i.value (may_come_fits answer (row_at k) i.around i.value a)).1,
        )) (λ _. refl))

-- ---- an object's number, as the code judges it: its tag, its row's attributes, the template around it and its value

-- what is said where c is whether it may come into row k
pub record Said (answer : ℕ) (s : List ℕ) (n k : ℕ) (c : Bool) : Type 0 where
  pub barred : c ≡ false → Err NotAllowed ≡ judge_item answer (unpacked_item s n)
  pub row : c ≡ true → Ok (Some k) ≡ judge_item answer (unpacked_item s n)

module _ (answer : ℕ) (s : List ℕ) (n : ℕ) {tag : ℕ} (t : tag ≡ packed_item_tag n) {x : Option ℕ}
    (p : x ≡ find_row dictionary_rows tag) where
  abbrev object : PrimitiveItem
  object = unpacked_item s n

  by_row : judge_item answer object ≡ judge_item_of_row_found answer object x
  by_row = ap (judge_item_of_row_found answer object) (sym (p ∙ ap (find_row dictionary_rows) t))

  module _ (k : ℕ) (q : x ≡ Some k) {a : RowAttributes} (u : a ≡ attributes_of (row_at k)) {z : Bool}
      (e : z ≡ both (is_private tag) (not (card_may_set (row_with_attributes_and_tag_zero a)))) where
    known : judge_item answer object ≡ judge_known_item answer object k
    known = by_row ∙ ap (judge_item_of_row_found answer object) q

    skips : z ≡ both (is_private (packed_item_tag n)) (not (card_may_set (row_at k)))
    skips = row_skipped tag (row_at k) e u ∙ ap (λ (m : ℕ). both (is_private m) (not (card_may_set (row_at k)))) t

    pub said_skipped : z ≡ true → Ok None ≡ judge_item answer object
    unfolding judge_known_item
    said_skipped y = sym (known ∙ if_yes _ _ (sym skips ∙ y))

    module _ (left : z ≡ false) {around : ℕ} (d : around ≡ packed_item_template_tag n) {v : List ℕ}
        (w : v ≡ packed_item_value_in s n) {c : Bool}
        (m : c ≡ row_allows_value_from_card answer (row_with_attributes_and_tag_zero a) around v) where
      allows : c ≡ row_allows_value_from_card answer (row_at k) (packed_item_template_tag n) (packed_item_value_in s n)
      allows = row_comes answer (row_at k) around v m u ∙ ap₂ (row_allows_value_from_card answer (row_at k)) d w

      pub said : Said answer s n k c
      unfolding judge_known_item
      said = record {
        barred = λ y. sym (known ∙ if_no _ _ (sym skips ∙ left) ∙ if_no _ _ (sym allows ∙ y));
        row = λ y. sym (known ∙ if_no _ _ (sym skips ∙ left) ∙ if_yes _ _ (sym allows ∙ y));
      }

-- ---- a pending value

-- its number taken apart: its own row, and the object's place and length
pub unpacked_pending : (k x : ℕ) → let y = packed_pending_entry k x in
    (pending_entry_row y ≡ k)
    × ((packed_item_value_start y ≡ packed_item_value_start x) × (packed_item_value_length y ≡ packed_item_value_length x))
unpacked_pending k x = (omega arith, (omega arith, omega arith))

pub laid_more : (s b xs : List ℕ) (x : ℕ)
    → store_with_pending s b (xs ++ (x ∷ [])) ≡ put_row dictionary_rows (store_with_pending s b xs) (pending_entry_row x)
    (packed_item_value_in s x)
unfolding store_with_pending
laid_more s b [] x = refl
laid_more s b (y ∷ xs) x = laid_more s (put_row dictionary_rows b (pending_entry_row y) (packed_item_value_in s y)) xs x

fitting_more : (s xs : List ℕ) (x : ℕ) → AllPendingEntriesFitRowAndBytes s xs → PendingEntryFitsRowAndBytes s x
    → AllPendingEntriesFitRowAndBytes s (xs ++ (x ∷ []))
fitting_more s [] x h f = (f, tt)
fitting_more s (y ∷ xs) x h f = (h.0, fitting_more s xs x h.1 f)

-- a value's bytes are as many as its length
value_long : (s : List ℕ) (x : ℕ) → ItemValueInside s x → length (packed_item_value_in s x) ≡ packed_item_value_length x
value_long s x h = length-take-le (packed_item_value_length x) (drop (packed_item_value_start x) s)
    (simp length-drop (omega arith))

pub value_most : (s : List ℕ) (x : ℕ) → PendingEntryFitsRowAndBytes s x → length (packed_item_value_in s x)
    ≤ (row_at (pending_entry_row x)).greatest
value_most s x f = rw (value_long s x f.inside) f.most

put_fits : (s b : List ℕ) (x : ℕ) → length b ≡ store_size → PendingEntryFitsRowAndBytes s x
    → Fits dictionary_rows b (pending_entry_row x) (packed_item_value_in s x)
put_fits s b x l f = fits_row b (pending_entry_row x) (packed_item_value_in s x) l f.row (value_most s x f)

-- the store keeps its size
pub pending_sized : (s b xs : List ℕ) → length b ≡ store_size → AllPendingEntriesFitRowAndBytes s xs
    → length (store_with_pending s b xs) ≡ store_size
unfolding store_with_pending
pending_sized s b [] l h = l
pending_sized s b (x ∷ xs) l h =
    pending_sized s (put_row dictionary_rows b (pending_entry_row x) (packed_item_value_in s x)) xs
    (put_length dictionary_rows b (pending_entry_row x) (packed_item_value_in s x) (put_fits s b x l h.0) ∙ l) h.1

-- ---- a value more, for a row k that is free: the object x

module _ (s b xs f : List ℕ) (h : PendingEntriesAndMarksForStore s b xs f) (k x : ℕ) (row : k < row_count)
    (inside : ItemValueInside s x)
    (most : packed_item_value_length x ≤ (row_at k).greatest)
    (free : is_row_absent_or_empty dictionary_rows (store_with_pending s b xs) k ≡ true) where
  abbrev number : ℕ
  number = packed_pending_entry k x

  parts : (pending_entry_row number ≡ k) × ((packed_item_value_start number ≡ packed_item_value_start x)
      × (packed_item_value_length number ≡ packed_item_value_length x))
  parts = unpacked_pending k x

  number_fits : PendingEntryFitsRowAndBytes s number
  number_fits = record {
    row = rw parts.0 row;
    most = rw (parts.0, parts.1.1) most;
    inside = rw (parts.1.0, parts.1.1) inside;
  }

  pub more_put : store_with_pending s b (xs ++ (number ∷ [])) ≡ put_row dictionary_rows (store_with_pending s b xs) k
      (packed_item_value_in s x)
  more_put = laid_more s b xs number
      ∙ ap₂ (put_row dictionary_rows (store_with_pending s b xs)) parts.0 (rw (parts.1.0, parts.1.1))

  fits_here : Fits dictionary_rows (store_with_pending s b xs) k (packed_item_value_in s x)
  fits_here = fits_row (store_with_pending s b xs) k (packed_item_value_in s x)
      (pending_sized s b xs h.sized h.fitting) row
      (rw (value_long s x inside) most)

  -- what is free before: the store's place, and no mark
  was_free : (is_row_absent_or_empty dictionary_rows b k ≡ true) × (get_or f k 0 ≡ 0)
  was_free = let e = sym (h.free k row) ∙ free in (both_left _ _ e, eqb-true _ 0 (both_right _ _ e))

  -- with these marks
  module _ (f' : List ℕ) (marks : length f' ≡ row_count) (mark : eqb (get_or f' k 0) 0 ≡ eqb (packed_item_value_length x) 0)
      (others : (j : ℕ) → (j ≡ k → ⊥) → get_or f' j 0 ≡ get_or f j 0) where
    free_put : (j : ℕ) → j < row_count → (j ≡ k) ⊎ (j ≡ k → ⊥)
        → is_row_absent_or_empty dictionary_rows (put_row dictionary_rows (store_with_pending s b xs) k (packed_item_value_in s x))
        j ≡ both
        (is_row_absent_or_empty dictionary_rows b j) (eqb (get_or f' j 0) 0)
    free_put j i (inl e) =
        subst
        (λ (y : ℕ). is_row_absent_or_empty dictionary_rows
        (put_row dictionary_rows (store_with_pending s b xs) k (packed_item_value_in s x)) y ≡ both
        (is_row_absent_or_empty dictionary_rows b y) (eqb (get_or f' y 0) 0)) (sym e)
        (ap (λ (y : StoredValue). eqb (length (bytes_or_empty_if_absent y)) 0)
        (put-get dictionary_rows (store_with_pending s b xs) k (packed_item_value_in s x) fits_here)
        ∙ ap (λ (n : ℕ). eqb n 0) (value_long s x inside) ∙ sym mark ∙ sym (both_true _ was_free.0))
    free_put j i (inr n) =
        ap (λ (y : StoredValue). eqb (length (bytes_or_empty_if_absent y)) 0)
        (put_other dictionary_rows (store_with_pending s b xs) k (packed_item_value_in s x) fits_here j n) ∙ h.free j i
        ∙ ap (λ (y : ℕ). both (is_row_absent_or_empty dictionary_rows b j) (eqb y 0)) (sym (others j n))

    values_put : PendingEntriesAndMarksForStore s b (xs ++ (number ∷ [])) f'
    values_put = record {
      fitting = fitting_more s xs number h.fitting number_fits;
      sized = h.sized;
      marks = marks;
      free = λ j i. ap (λ (y : List ℕ). is_row_absent_or_empty dictionary_rows y j) more_put ∙ free_put j i
          (equal_or_not j k);
    }

  pub values_more : PendingEntriesAndMarksForStore s b (xs ++ (number ∷ []))
      (mark_row_filled_if_non_empty f k (packed_item_value_length x))
  values_more = elim (equal_or_not (packed_item_value_length x) 0) [
    | inl z ↦
        subst (PendingEntriesAndMarksForStore s b (xs ++ (number ∷ []))) (sym (if_yes _ _ (eq-eqb _ _ z)))
        (values_put f h.marks (ap (λ (y : ℕ). eqb y 0) was_free.1 ∙ sym (eq-eqb _ _ z)) (λ j i. refl))
    | inr z ↦
        subst (PendingEntriesAndMarksForStore s b (xs ++ (number ∷ []))) (sym (if_no _ _ (ne_eqb _ _ z)))
        (values_put (set f k 1) (length-set f k 1 ∙ h.marks)
        (ap (λ (y : ℕ). eqb y 0) (get_or-set_same f k 1 0 (omega (arith, h.marks))) ∙ sym (ne_eqb _ _ z))
        (λ j i. get_or-set_other f k j 1 0 i))
  ]

-- ---- whether a row is free

module _ (b f : List ℕ) (k : ℕ) (row : k < row_count) (sized : length b ≡ store_size) where
  pub marked : (get_or f k 0 ≡ 0 → ⊥) → false ≡ both (is_row_absent_or_empty dictionary_rows b k) (eqb (get_or f k 0) 0)
  marked n = sym (both_no_right _ _ (ne_eqb _ _ n))

  pub unmarked : get_or f k 0 ≡ 0
      → leb (row_length_plus_one_or_zero dictionary_rows b k) 1 ≡ both (is_row_absent_or_empty dictionary_rows b k)
      (eqb (get_or f k 0) 0)
  unmarked z =
      let e = length_byte_at dictionary_rows b k in
      ap (λ (x : ℕ). leb x 1) e
      ∙ elim (le-or-gt (get_or b (row_offset dictionary_rows k) 0) 1) [
        | inl i ↦ le-leb _ _ i ∙ sym (both_yes _ _ (free_yes b k sized row i) (eq-eqb _ _ z))
        | inr i ↦ lt-leb _ _ i ∙ sym (both_no_left _ _ (free_no b k sized row i))
      ]

-- ---- the objects one after the other

-- one that is not allowed decides for all
pub all_bad : (answer : ℕ) {w : StoringState} (b : List ℕ) (is : List PrimitiveItem) → w ≡ storing_state false b
    → (store_all_items answer w is).good ≡ false
unfolding store_all_items
all_bad answer {w = w} b [] e = ap (λ (w : StoringState). w.good) e
all_bad answer {w = w} b (i ∷ is) e =
    all_bad answer {w = store_next_item answer w i} b is (ap (λ (w : StoringState). store_next_item answer w i) e ∙ next_bad answer b i refl)

and-true : (x : Bool) → both x true ≡ x
unfolding both
and-true true = refl
and-true false = refl

-- i of n objects of l₀ are judged: the first p numbers of l are pending for the store b, and those from i on are as
-- they were
pub record Judging (answer : ℕ) (s b l₀ : List ℕ) (n : ℕ) (l filled : List ℕ) (p i : ℕ) : Type 0 where
  pub room : length l ≡ most_listed_items
  pub few : p ≤ i
  pub more : i ≤ n
  pub rest : (j : ℕ) → i ≤ j → get_or l j 0 ≡ get_or l₀ j 0
  pub values : PendingEntriesAndMarksForStore s b (take p l) filled
  pub same : store_all_items answer (storing_state true b) (unpacked_first_items s n l₀) ≡ store_all_items answer
      (storing_state true (store_with_pending s b (take p l))) (unpacked_items s (drop i (take n l₀)))

pub judging_none : (answer : ℕ) (s b l : List ℕ) (n : ℕ) → length b ≡ store_size → length l ≡ most_listed_items
    → Judging answer s b l n l (replicate row_count 0) 0 0
unfolding store_with_pending
judging_none answer s b l n e m = record {
  room = m;
  few = omega arith;
  more = omega arith;
  rest = λ j h. refl;
  values = record {
    fitting = tt;
    sized = e;
    marks = refl;
    free = λ k r. sym (ap (λ (x : ℕ). both (is_row_absent_or_empty dictionary_rows b k) (eqb x 0))
        (get_or-replicate row_count k 0 0 r)
        ∙ and-true (is_row_absent_or_empty dictionary_rows b k));
  };
  same = refl;
}

module _ {answer : ℕ} {s b l₀ : List ℕ} {n : ℕ} {l filled : List ℕ} {p i : ℕ} (g : IsItemList s n l₀)
    (w : Judging answer s b l₀ n l filled p i) where
  taken_length : length (take n l₀) ≡ n
  taken_length = length-take-le n l₀ (omega (arith, g.room, g.few))

  -- at the end all are judged
  pub judged_all : n ≤ i
      → (store_all_items answer (storing_state true b) (unpacked_first_items s n l₀) ≡ storing_state true
      (store_with_pending s b (take p l)))
      × IsPendingList s p l
  unfolding unpacked_items
  judged_all h =
      let z : drop i (take n l₀) ≡ [] = drop_past (take n l₀) i (omega (arith, taken_length)) in (
        w.same ∙ ap (λ (xs : List ℕ). store_all_items answer (storing_state true (store_with_pending s b (take p l)))
            (unpacked_items s xs)) z
            ∙ took_all answer _,
        record { room = w.room; few = omega (arith, w.few, w.more, g.few); fitting = w.values.fitting },
      )
    where
      drop_past : (xs : List ℕ) (j : ℕ) → length xs ≤ j → drop j xs ≡ []
      drop_past [] zero h = refl
      drop_past [] (suc j) h = refl
      drop_past (x ∷ xs) zero h = absurd (omega arith)
      drop_past (x ∷ xs) (suc j) h = drop_past xs j (omega arith)

  module _ (h : i < n) where
    -- the next object
    abbrev x : ℕ
    x = get_or l i 0

    x-is : x ≡ get_or (take n l₀) i 0
    x-is = w.rest i (omega arith) ∙ sym (get_or-take n l₀ i 0 h)

    pub next_inside : ItemValueInside s x
    next_inside = subst (ItemValueInside s) (sym x-is)
        (inside_at s (take n l₀) i g.inside (omega (arith, taken_length)))

    abbrev left : List PrimitiveItem
    left = unpacked_items s (drop (i + 1) (take n l₀))

    next_items : unpacked_items s (drop i (take n l₀)) ≡ unpacked_item s x ∷ left
    unfolding unpacked_items
    next_items =
        let d : drop i (take n l₀) ≡ get_or (take n l₀) i 0 ∷ drop (i + 1) (take n l₀) = rw (add-one i)
        (drop-cons (take n l₀) i 0 (omega (arith, taken_length))) in
        ap (unpacked_items s) d
        ∙ ap (λ (y : ℕ). unpacked_item s y ∷ left) (sym x-is)

    -- by what is said of it
    next_taken : (v : Result (Option ℕ) ResponseVerdict) → v ≡ judge_item answer (unpacked_item s x)
        → store_all_items answer (storing_state true b) (unpacked_first_items s n l₀) ≡ store_all_items answer
        (store_judged_item (store_with_pending s b (take p l)) (unpacked_item s x) v) left
    next_taken v e =
        w.same ∙ ap (store_all_items answer (storing_state true (store_with_pending s b (take p l)))) next_items
        ∙ took answer (storing_state true (store_with_pending s b (take p l))) (unpacked_item s x) left
        (sym (next_good answer (store_with_pending s b (take p l)) (unpacked_item s x) refl
        ∙ item_judged answer (store_with_pending s b (take p l)) (unpacked_item s x)
        ∙ ap (store_judged_item (store_with_pending s b (take p l)) (unpacked_item s x)) (sym e)))

-- an object that is next, and what is said of it
pub record NextItem (answer : ℕ) (s b l₀ : List ℕ) (n : ℕ) (l filled : List ℕ) (p i : ℕ)
    (w : Judging answer s b l₀ n l filled p i) (v : Result (Option ℕ) ResponseVerdict) : Type 0 where
  pub list : IsItemList s n l₀
  pub more : i < n
  pub says : v ≡ judge_item answer (unpacked_item s (get_or l i 0))

pub next_item : {answer : ℕ} {s b l₀ : List ℕ} {n : ℕ} {l filled : List ℕ} {p i : ℕ} {v : Result (Option ℕ) ResponseVerdict}
    → IsItemList s n l₀ → (w : Judging answer s b l₀ n l filled p i) → i < n
    → v ≡ judge_item answer (unpacked_item s (get_or l i 0)) → NextItem answer s b l₀ n l filled p i w v
next_item g w m e = record { list = g; more = m; says = e }

module _ {answer : ℕ} {s b l₀ : List ℕ} {n : ℕ} {l filled : List ℕ} {p i : ℕ}
    {w : Judging answer s b l₀ n l filled p i} {v : Result (Option ℕ) ResponseVerdict}
    (z : NextItem answer s b l₀ n l filled p i w v) where
  abbrev item : ℕ
  item = get_or l i 0

  -- the store with what is pending in it
  abbrev laid : List ℕ
  laid = store_with_pending s b (take p l)

  abbrev behind : List PrimitiveItem
  behind = left z.list w z.more

  abbrev All : StoringState
  All = store_all_items answer (storing_state true b) (unpacked_first_items s n l₀)

  taken : {u : Result (Option ℕ) ResponseVerdict} → v ≡ u → All ≡ store_all_items answer (store_judged_item laid (unpacked_item s item) u) behind
  taken {u} q = next_taken z.list w z.more u (sym q ∙ z.says)

  pub judged_skipped : v ≡ Ok None → Judging answer s b l₀ n l filled p (i + 1)
  judged_skipped q = record {
    room = w.room;
    few = omega (arith, w.few);
    more = omega (arith, z.more);
    rest = λ j m. w.rest j (omega arith);
    values = w.values;
    same = taken q;
  }

  pub judged_barred : {d : ResponseVerdict} → v ≡ Err d → (d ≡ NotAllowed) × (All.good ≡ false)
  judged_barred q = (
    row_fits answer (unpacked_item s item) (sym z.says ∙ q),
    ap (λ (t : StoringState). t.good) (taken q) ∙ all_bad answer laid behind refl,
  )

  pub pending_room : p < most_listed_items
  pending_room = omega (arith, w.few, z.more, z.list.few)

  module _ {k : ℕ} (q : v ≡ Ok (Some k)) where
    pub row_is : (k < row_count) × (packed_item_value_length item ≤ (row_at k).greatest)
    row_is =
        let f = row_fits answer (unpacked_item s item) (sym z.says ∙ q) in
        (f.0, rw (value_long s item (next_inside z.list w z.more)) at f.1)

    module _ {r : Bool} (o : r ≡ both (is_row_absent_or_empty dictionary_rows b k) (eqb (get_or filled k 0) 0)) where
      free_is : r ≡ is_row_absent_or_empty dictionary_rows laid k
      free_is = o ∙ sym (w.values.free k row_is.0)

      pub judged_again : r ≡ false → (NotAllowed ≡ NotAllowed) × (All.good ≡ false)
      judged_again d =
          (refl, ap (λ (t : StoringState). t.good) (taken q) ∙ all_bad answer laid behind (if_no _ _ (sym free_is ∙ d)))

      pub judged_put : r ≡ true
          → Judging answer s b l₀ n (set l p (packed_pending_entry k item))
          (mark_row_filled_if_non_empty filled k (packed_item_value_length item)) (p + 1)
          (i + 1)
      judged_put d =
          let y = packed_pending_entry k item in
          let f = sym free_is ∙ d in
          let m = row_is in
          let v = next_inside z.list w z.more in
          let t : take (p + 1) (set l p y) ≡ take p l ++ (y ∷ []) = rw (add-one p)
          (take-suc-set l p y (omega (arith, w.room, pending_room))) in
          record {
            room = length-set l p y ∙ w.room;
            few = omega (arith, w.few);
            more = omega (arith, z.more);
            rest = λ j a. get_or-set_other l p j y 0 (λ c. omega (arith, w.few)) ∙ w.rest j (omega arith);
            values = rw t (values_more s b (take p l) filled w.values k item m.0 v m.1 f);
            same =
                taken q
                ∙ ap (λ (u : StoringState). store_all_items answer u behind)
                (if_yes _ _ f
                ∙ ap (storing_state true)
                (sym (ap (store_with_pending s b) t ∙ more_put s b (take p l) filled w.values k item m.0 v m.1
                f)));
          }

-- ---- putting the pending values one after the other

pub fitting_at : (s xs : List ℕ) (i : ℕ) → AllPendingEntriesFitRowAndBytes s xs → i < length xs
    → PendingEntryFitsRowAndBytes s (get_or xs i 0)
fitting_at s [] i h l = absurd (omega arith)
fitting_at s (x ∷ xs) zero h l = h.0
fitting_at s (x ∷ xs) (suc i) h l = fitting_at s xs i h.1 (omega arith)

pub after_one : (s b l : List ℕ) (i : ℕ) → i < length l
    → put_row dictionary_rows (store_with_pending s b (take i l)) (pending_entry_row (get_or l i 0))
    (packed_item_value_in s (get_or l i 0)) ≡ store_with_pending s b (take (i + 1) l)
after_one s b l i lt =
    let e : take (i + 1) l ≡ take i l ++ (get_or l i 0 ∷ []) = rw (add-one i) (take-suc l i 0 lt) in
    sym (ap (store_with_pending s b) e ∙ laid_more s b (take i l) (get_or l i 0))
