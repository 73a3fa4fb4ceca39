-- What a reading leaves of a store: one induction over the objects that are put, and from it that rows only ever gain a
-- value where they held none, that rows not named are untouched, and that the store keeps its size.
-- Assumes nothing.
use Rattle.std.specs.Prelude.{Some, None, Option}
use mathlib.Core.Path.{◌≡◌, refl, sym, ap, ◌∙◌}
use mathlib.Core.Bool.{true}
use mathlib.Core.Logic.{◌⊎◌, inl, inr}
use mathlib.Core.List.{List, [], ◌∷◌}
use Prim.Native.Nat.{ℕ, ◌-◌, ◌<◌}
use native.Mathlib.Omega.{arith}
use lib.ListN.{length, take}
use borrow.Author.Tests.{eqb-true}
use Rattle.basics.specs.Number.{has_bit_of_weight}
use Rattle.basics.proofs.Laws.{if_ind, both_left, both_right}
use Rattle.basics.proofs.Order.{equal_or_not}
use Rattle.dictionary.specs.Rows.{dictionary_rows, row_at, find_row, row_count, store_size}
use Rattle.dictionary.specs.Form.{length_and_digits_fit_row}
use Rattle.dictionary.proofs.Find.{found}
use Rattle.dictionary.proofs.Fit.{fits_length}
use Rattle.store.specs.Place.{StoredValue, bytes_or_empty_if_absent, row_value, is_row_absent_or_empty, put_row}
use Rattle.store.proofs.Laws.{Fits, put_length, put_other}
use Rattle.store.proofs.Rows.{rows_length, fits_row}
use Rattle.reading.specs.declared.Awaited.{Awaited}
use Rattle.reading.specs.Taking.{PrimitiveItem, card_may_set, row_allows_value_from_card}
use Rattle.reading.specs.Taking.{row_allows_value_and_absent_or_empty, StoringState, storing_state}
use Rattle.reading.specs.Taking.{store_known_item, store_item_of_row_found, store_item, store_next_item, store_all_items}
use Rattle.reading.specs.Answer.{ReadingOutcome, ResponseBody, response_bit, parse_response_body, body_object_count}
use Rattle.reading.specs.Answer.{response_body_items}
use Rattle.reading.specs.Answer.{read_body_items, read_parsed_body, read_body, read_answer}

-- an object that is put into row k of the store b, in an answer
pub record Put (answer : ℕ) (b : List ℕ) (k : ℕ) (i : PrimitiveItem) : Type 0 where
  pub row : k < row_count
  pub tag : (row_at k).tag ≡ i.tag
  pub fits : length_and_digits_fit_row (row_at k) i.value ≡ true
  pub card : card_may_set (row_at k) ≡ true
  pub brought : has_bit_of_weight (row_at k).answers answer ≡ true
  pub free : is_row_absent_or_empty dictionary_rows b k ≡ true

put_of : (answer : ℕ) (b : List ℕ) (i : PrimitiveItem) (k : ℕ) → find_row dictionary_rows i.tag ≡ Some k
    → row_allows_value_and_absent_or_empty answer b k i.around i.value ≡ true → Put answer b k i
unfolding row_allows_value_and_absent_or_empty row_allows_value_from_card
put_of answer b i k e a =
    let f = found dictionary_rows i.tag k e in
    let m = both_left _ _ a in
    let a₁ = both_right _ _ m in
    let a₂ = both_right _ _ a₁ in
    record {
      row = omega (arith, rows_length);
      tag = f.1;
      fits = both_right _ _ a₂;
      card = both_left _ _ m;
      brought = both_left _ _ a₁;
      free = both_right _ _ a;
    }

-- the store keeps its size
sized : (answer : ℕ) (b : List ℕ) (k : ℕ) (i : PrimitiveItem) → length b ≡ store_size → Put answer b k i
    → length (put_row dictionary_rows b k i.value) ≡ store_size
sized answer b k i l p =
    put_length dictionary_rows b k i.value
    (fits_row b k i.value l p.row (fits_length (row_at k) i.value p.fits).1) ∙ l

abbrev pub All : (PrimitiveItem → Type 0) → List PrimitiveItem → Type 0
All Q [] = Unit {0}
All Q (i ∷ is) = Q i × All Q is

-- what holds of a store, and is kept by each put, holds of the store that a reading leaves; Q states which objects
-- the bytes bring
module _ (P : List ℕ → Type 0) (Q : PrimitiveItem → Type 0) (answer : ℕ)
    (step : (b : List ℕ) (k : ℕ) (i : PrimitiveItem) → length b ≡ store_size → Q i → Put answer b k i → P b → P
    (put_row dictionary_rows b k i.value)) where
  abbrev Holds : List ℕ → Type 0
  Holds b = (length b ≡ store_size) × P b

  known_holds : (b : List ℕ) (i : PrimitiveItem) (k : ℕ) → find_row dictionary_rows i.tag ≡ Some k → Q i → Holds b
      → Holds (store_known_item answer b i k).store
  known_holds b i k e q h =
      if_ind (λ (w : StoringState). Holds w.store) _ _ _ (λ s. h)
      (λ s. if_ind (λ (w : StoringState). Holds w.store) _ _ _
      (λ a. let p = put_of answer b i k e a in (sized answer b k i h.0 p, step b k i h.0 q p h.1)) (λ a. h))

  item_holds : (b : List ℕ) (i : PrimitiveItem) → Q i → Holds b → Holds (store_item answer b i).store
  unfolding store_item
  item_holds b i q h = go (find_row dictionary_rows i.tag) refl
    where
      go : (x : Option ℕ) → find_row dictionary_rows i.tag ≡ x → Holds (store_item_of_row_found answer b i x).store
      go None e = h
      go (Some k) e = known_holds b i k e q h

  next_holds : (w : StoringState) (i : PrimitiveItem) → Q i → Holds w.store → Holds (store_next_item answer w i).store
  unfolding store_next_item
  next_holds w i q h = if_ind (λ (v : StoringState). Holds v.store) _ _ _ (λ g. item_holds w.store i q h) (λ g. h)

  pub all_holds : (w : StoringState) (is : List PrimitiveItem) → All Q is → Holds w.store
      → Holds (store_all_items answer w is).store
  unfolding store_all_items
  all_holds w [] q h = h
  all_holds w (i ∷ is) q h = all_holds (store_next_item answer w i) is q.1 (next_holds w i q.0 h)

-- ---- a whole reading

-- no question is asked of the objects
abbrev any : PrimitiveItem → Type 0
any i = Unit {0}

all_any : (is : List PrimitiveItem) → All any is
all_any [] = tt
all_any (i ∷ is) = (tt, all_any is)

module _ (P : List ℕ → Type 0) (a : Awaited)
    (step : (b : List ℕ) (k : ℕ) (i : PrimitiveItem) → length b ≡ store_size → any i → Put
    (response_bit a) b k i → P b → P (put_row dictionary_rows b k i.value)) where
  abbrev Good : List ℕ → Type 0
  Good b = (length b ≡ store_size) × P b

  parts_hold : (b : List ℕ) (n : ℕ) (x : Option (List PrimitiveItem)) → Good b → Good (read_body_items a b n x).store
  parts_hold b n None h = h
  parts_hold b n (Some is) h =
      if_ind (λ (o : ReadingOutcome). Good o.store) _ _ _
      (λ g. all_holds P any (response_bit a) step (storing_state true b) is (all_any is) h) (λ g. h)

  tree_holds : (b : List ℕ) (x : Option ResponseBody) → Good b → Good (read_parsed_body a b x).store
  tree_holds b None h = h
  tree_holds b (Some body) h = parts_hold b (body_object_count body) (response_body_items a body) h

  pub read_holds : (b s : List ℕ) → Good b → Good (read_answer a b s).store
  unfolding read_answer read_body
  read_holds b s h =
      let Q : ReadingOutcome → Type 0 = λ o. Good o.store in
      if_ind Q _ _ _
      (λ l. if_ind Q _ _ _ (λ t. if_ind Q _ _ _ (λ r. tree_holds b (parse_response_body (take (length s - 2) s)) h)
      (λ r. h)) (λ t. h)) (λ l. h)

-- ---- rows only ever gain a value

-- a row of b that holds bytes holds the same in c
pub record Grows (b c : List ℕ) : Type 0 where
  pub size : length c ≡ length b
  pub kept : (k : ℕ) → (length (bytes_or_empty_if_absent (row_value dictionary_rows b k)) ≡ 0 → ⊥)
      → row_value dictionary_rows c k ≡ row_value dictionary_rows b k

-- from the store b₀ on
grows_on : (answer : ℕ) (b₀ b : List ℕ) (k : ℕ) (i : PrimitiveItem) → length b ≡ store_size → Put answer b k i
    → Grows b₀ b → Grows b₀ (put_row dictionary_rows b k i.value)
grows_on answer b₀ b k i l p g =
    record {
      size = put_length dictionary_rows b k i.value fit ∙ g.size;
      kept = λ j n. untouched j n (equal_or_not j k);
    }
  where
    fit : Fits dictionary_rows b k i.value
    fit = fits_row b k i.value l p.row (fits_length (row_at k) i.value p.fits).1

    untouched : (j : ℕ) → (length (bytes_or_empty_if_absent (row_value dictionary_rows b₀ j)) ≡ 0 → ⊥) → (j ≡ k) ⊎ (j ≡ k → ⊥)
        → row_value dictionary_rows (put_row dictionary_rows b k i.value) j ≡ row_value dictionary_rows b₀ j
    untouched j n (inl e) =
        absurd (n (ap (λ (v : StoredValue). length (bytes_or_empty_if_absent v))
        (sym (g.kept j n) ∙ ap (row_value dictionary_rows b) e) ∙ eqb-true _ 0 p.free))
    untouched j n (inr e) = put_other dictionary_rows b k i.value fit j e ∙ g.kept j n

-- an answer leaves every row that held bytes as it was
pub read_grows : (a : Awaited) (b s : List ℕ) → length b ≡ store_size → Grows b (read_answer a b s).store
read_grows a b s l =
    (read_holds (Grows b) a (λ c k i m q p g. grows_on (response_bit a) b c k i m p g) b s (
      l,
      record { size = refl; kept = λ k n. refl },
    )).1

-- ---- rows that are not named

-- an object whose tag is not that of row k
abbrev Other : ℕ → PrimitiveItem → Type 0
Other k i = (row_at k).tag ≡ i.tag → ⊥

-- objects of other tags leave row k as it was
pub untouched : (answer k : ℕ) (w : StoringState) (is : List PrimitiveItem) → length w.store ≡ store_size
    → All (Other k) is
    → row_value dictionary_rows (store_all_items answer w is).store k ≡ row_value dictionary_rows w.store k
untouched answer k w is l q =
    (all_holds (λ b. row_value dictionary_rows b k ≡ row_value dictionary_rows w.store k) (Other k) answer
    (λ b j i m o p e. put_other dictionary_rows b j i.value
    (fits_row b j i.value m p.row (fits_length (row_at j) i.value p.fits).1) k
    (λ z. o (ap (λ (n : ℕ). (row_at n).tag) z ∙ p.tag)) ∙ e) w is q (l, refl)).1
