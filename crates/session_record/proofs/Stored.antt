-- What a put leaves of what the ranges speak of, by tag: the store's size, that every stored object fits, and what a
-- running session holds. The store's own laws speak of rows.
-- Assumes nothing.
use Rattle.std.specs.Prelude.{Option, Some, None}
use mathlib.Core.Path.{◌≡◌, refl, sym, ap, subst, ◌∙◌}
use mathlib.Core.Bool.{Bool, true, not}
use mathlib.Core.Logic.{inl, inr}
use mathlib.Core.List.{List, ◌∷◌}
use Prim.Native.Nat.{ℕ, zero, suc, ◌+◌, ◌%◌, ◌≤◌, ◌<◌}
use native.Mathlib.Omega.{arith}
use lib.ListN.{length, get_or, take, replicate}
use lib.Seq.{length-take-le, get_or_at}
use lib.Dec.{eqb}
use borrow.Author.Tests.{eqb-false, not-true, ne_eqb}
use Rattle.basics.specs.Choice.{both, either, every}
use Rattle.basics.specs.Number.{has_bit_of_weight}
use Rattle.basics.proofs.Laws.{both_yes, both_right, either_false}
use Rattle.basics.proofs.Order.{equal_or_not}
use Rattle.basics.proofs.Table.{at}
use Rattle.dictionary.specs.Rows.{Row, dictionary_rows, blank_row, row_at, row_count, store_size, find_row, set_by_start}
use Rattle.dictionary.specs.Rows.{set_by_card}
use Rattle.dictionary.specs.Named.{row_tvr}
use Rattle.dictionary.specs.Form.{length_and_digits_fit_row}
use Rattle.dictionary.specs.TerminalType.{listed_terminal_type}
use Rattle.dictionary.proofs.Find.{found}
use Rattle.dictionary.proofs.Fit.{fits_length}
use Rattle.store.specs.Place.{StoredValue, absent, present, bytes_or_empty_if_absent, is_present, row_offset}
use Rattle.store.specs.Place.{row_length_plus_one_or_zero, row_value, object_value, put_row}
use Rattle.store.proofs.Laws.{lies, put_length, put-get, put_other, place_other, length_byte_at, by_row, unknown_absent}
use Rattle.store.proofs.Laws.{empty_holds_nothing}
use Rattle.store.proofs.Rows.{rows_length, fits_row, rows_size}
use Rattle.store.specs.Held.{has_object, is_zero_byte}
use Rattle.session_record.specs.Ranges.{absent_or_length_and_digits_fit_row, all_stored_objects_fit_rows}
use Rattle.session_record.specs.Ranges.{tags_only_in_last_response}
use Rattle.session_record.proofs.Clauses.{RowObjectFits, AllObjectsFit, RunningClauses}
use Rattle.session_record.proofs.Tags.{row-found, value-is, length_is}
use Rattle.session_record.proofs.Values.{zeros_of}
use Rattle.session_record.proofs.Laws.{fits_all}

-- an object fits by what is in its row's place
row_fits : (b : List ℕ) (k : ℕ) → k < row_count → row_length_plus_one_or_zero dictionary_rows b k ≤ (row_at k).greatest + 1
    → absent_or_length_and_digits_fit_row (row_at k) (row_value dictionary_rows b k) ≡ true → RowObjectFits b (row_at k)
row_fits b k h l e =
    let f = row-found k h in
    record {
      length_byte = subst (λ (n : ℕ). n ≤ (row_at k).greatest + 1) (length_is b _ k f) l;
      value = ap (absent_or_length_and_digits_fit_row (row_at k)) (sym (value-is b _ k f)) ∙ e;
    }

-- and back
fits_row_of : (b : List ℕ) (k : ℕ) → k < row_count → RowObjectFits b (row_at k)
    → (row_length_plus_one_or_zero dictionary_rows b k ≤ (row_at k).greatest + 1)
    × (absent_or_length_and_digits_fit_row (row_at k) (row_value dictionary_rows b k) ≡ true)
fits_row_of b k h w =
    let f = row-found k h in (
      subst (λ (n : ℕ). n ≤ (row_at k).greatest + 1) (sym (length_is b _ k f)) w.length_byte,
      ap (absent_or_length_and_digits_fit_row (row_at k)) (value-is b _ k f) ∙ w.value,
    )

-- ---- the empty store

zeros_at : (n i : ℕ) → ◌≡◌ {A = ℕ} (get_or (replicate n 0) i 0) 0
zeros_at zero i = refl
zeros_at (suc n) zero = refl
zeros_at (suc n) (suc i) = zeros_at n i

empty_value : (k : ℕ) → row_value dictionary_rows (replicate store_size 0) k ≡ absent
empty_value k = rw rows_size at (empty_holds_nothing dictionary_rows k)

pub empty_fits : AllObjectsFit (replicate store_size 0)
empty_fits k h =
    let z = length_byte_at dictionary_rows (replicate store_size 0) k ∙ zeros_at store_size (row_offset dictionary_rows k) in
    row_fits (replicate store_size 0) k h (omega arith) (ap (absent_or_length_and_digits_fit_row (row_at k)) (empty_value k))

-- a store of zeros is the empty one
pub zeros_fit : (b : List ℕ) → length b ≡ store_size → every is_zero_byte b ≡ true → all_stored_objects_fit_rows b ≡ true
zeros_fit b l e = ap all_stored_objects_fit_rows (zeros_of b e ∙ ap (λ (n : ℕ). replicate n 0) l) ∙ fits_all
    (replicate store_size 0) empty_fits

-- it holds nothing
pub empty_lacks : (t : ℕ) → object_value (replicate store_size 0) t ≡ absent
empty_lacks t = go (find_row dictionary_rows t) refl
  where
    go : (x : Option ℕ) → find_row dictionary_rows t ≡ x → object_value (replicate store_size 0) t ≡ absent
    go None e = unknown_absent dictionary_rows (replicate store_size 0) t e
    go (Some k) e = by_row dictionary_rows (replicate store_size 0) t k e ∙ empty_value k

-- ---- a put

module _ (b : List ℕ) (k : ℕ) (v : List ℕ) (l : length b ≡ store_size) (h : k < row_count)
    (g : length v ≤ (row_at k).greatest) where
  pub put_size : length (put_row dictionary_rows b k v) ≡ store_size
  put_size = put_length dictionary_rows b k v (fits_row b k v l h g) ∙ l

  -- the tag's own row holds the value
  pub put_here : (t : ℕ) → find_row dictionary_rows t ≡ Some k → object_value (put_row dictionary_rows b k v) t ≡ present v
  put_here t e = by_row dictionary_rows _ t k e ∙ put-get dictionary_rows b k v (fits_row b k v l h g)

  -- the value of a tag of another row stays
  pub put_named : (t j : ℕ) → find_row dictionary_rows t ≡ Some j → (j ≡ k → ⊥)
      → object_value (put_row dictionary_rows b k v) t ≡ object_value b t
  put_named t j e ne = by_row dictionary_rows _ t j e ∙ put_other dictionary_rows b k v (fits_row b k v l h g) j ne ∙ sym
      (by_row dictionary_rows b t j e)

  -- and so does that of every tag but those of the row
  pub put_away : (t : ℕ) → (find_row dictionary_rows t ≡ Some k → ⊥) → object_value (put_row dictionary_rows b k v) t
      ≡ object_value b t
  put_away t ne = go (find_row dictionary_rows t) refl
    where
      go : (x : Option ℕ) → find_row dictionary_rows t ≡ x → object_value (put_row dictionary_rows b k v) t ≡ object_value b t
      go None e = unknown_absent dictionary_rows _ t e ∙ sym (unknown_absent dictionary_rows b t e)
      go (Some j) e = put_named t j e (λ q. ne (e ∙ ap Some q))

  -- what is there stays there
  pub put_holds : (t : ℕ) → has_object b t ≡ true → has_object (put_row dictionary_rows b k v) t ≡ true
  put_holds t p = go (find_row dictionary_rows t) refl
    where
      go : (x : Option ℕ) → find_row dictionary_rows t ≡ x → has_object (put_row dictionary_rows b k v) t ≡ true
      go None e = let z = ap is_present (unknown_absent dictionary_rows b t e) in cc
      go (Some j) e =
          elim (equal_or_not j k) [
            | inl q ↦ ap is_present (put_here t (e ∙ ap Some q))
            | inr q ↦
                ap is_present (put_named t j e q) ∙ p
          ]

  put_byte : row_length_plus_one_or_zero dictionary_rows (put_row dictionary_rows b k v) k ≡ length v + 1
  unfolding put_row
  put_byte =
      let o = row_offset dictionary_rows k in
      let a : length (take o b) ≡ o = length-take-le o b
      (omega (arith, lies dictionary_rows b k v (fits_row b k v l h g))) in
      length_byte_at dictionary_rows (put_row dictionary_rows b k v) k ∙ get_or_at (take o b) (length v + 1) _ 0 o a

  byte_other : (j : ℕ) → (j ≡ k → ⊥) → row_length_plus_one_or_zero dictionary_rows (put_row dictionary_rows b k v) j
      ≡ row_length_plus_one_or_zero dictionary_rows b j
  unfolding row_length_plus_one_or_zero
  byte_other j ne = ap (λ (p : List ℕ). get_or p 0 0) (place_other dictionary_rows b k v (fits_row b k v l h g) j ne)

-- a put of a value that fits keeps every stored object fitting
pub fits_kept : (b : List ℕ) (k : ℕ) (v : List ℕ) → length b ≡ store_size → k < row_count
    → length_and_digits_fit_row (row_at k) v ≡ true → AllObjectsFit b → AllObjectsFit (put_row dictionary_rows b k v)
fits_kept b k v l h w f j i =
    elim (equal_or_not j k) [
      | inl q ↦ subst (λ (n : ℕ). RowObjectFits (put_row dictionary_rows b k v) (row_at n)) (sym q)
          (row_fits (put_row dictionary_rows b k v) k h (omega (arith, put_byte b k v l h g, g))
          (ap (absent_or_length_and_digits_fit_row (row_at k)) (put-get dictionary_rows b k v (fits_row b k v l h g)) ∙ w))
      | inr q ↦ (let z = fits_row_of b j i (f j i) in
          row_fits (put_row dictionary_rows b k v) j i (omega (arith, byte_other b k v l h g j q))
          (ap (absent_or_length_and_digits_fit_row (row_at j)) (put_other dictionary_rows b k v (fits_row b k v l h g) j q) ∙
          z.1))
    ]
  where
    g : length v ≤ (row_at k).greatest
    g = (fits_length (row_at k) v w).1

-- ---- rows that are not those of some tags

unfoldable pub apart_from : List ℕ → Row → Bool
apart_from ts r = every (λ (t : ℕ). not (eqb r.tag t)) ts

pub apart_found : (ts : List ℕ) (k : ℕ) → apart_from ts (row_at k) ≡ true → (i : ℕ) → i < length ts
    → find_row dictionary_rows (get_or ts i 0) ≡ Some k → ⊥
unfolding apart_from
apart_found ts k a i h e =
    eqb-false _ _ (not-true _ (at (λ (t : ℕ). not (eqb (row_at k).tag t)) ts 0 a i h))
    (found dictionary_rows (get_or ts i 0) k e).1

-- fewer tags
pub apart_rest : (t : ℕ) (ts : List ℕ) (r : Row) → apart_from (t ∷ ts) r ≡ true → apart_from ts r ≡ true
unfolding apart_from every
apart_rest t ts r e = both_right _ _ e

-- a put into such a row leaves them
pub put_apart : (b : List ℕ) (k : ℕ) (v : List ℕ) → length b ≡ store_size → k < row_count → length v ≤ (row_at k).greatest
    → (ts : List ℕ) → apart_from ts (row_at k) ≡ true → (i : ℕ) → i < length ts
    → object_value (put_row dictionary_rows b k v) (get_or ts i 0) ≡ object_value b (get_or ts i 0)
put_apart b k v l h g ts a i j = put_away b k v l h g (get_or ts i 0) (apart_found ts k a i j)

-- what a running session's clauses speak of beyond what is there: the terminal's type and the last answer
abbrev pub running_tags : List ℕ
running_tags = 0x9F35 ∷ tags_only_in_last_response

-- a rule of the dictionary: where the first test passes, so does the second
implies : (Row → Bool) → (Row → Bool) → Row → Bool
implies f g r = either (not (f r)) (g r)

rule : (f g : Row → Bool) → every (implies f g) dictionary_rows ≡ true → (k : ℕ) → k < row_count → f (row_at k) ≡ true
    → g (row_at k) ≡ true
unfolding implies
rule f g t k h e = sym (either_false _ (ap not e)) ∙ at (implies f g) dictionary_rows blank_row t k
    (omega (arith, rows_length))

abbrev start_row : Row → Bool
start_row r = has_bit_of_weight r.setters set_by_start

-- the card may set it, and not only in the last answer: in one to GPO or to a record, whose bits are the two lowest
abbrev card_row : Row → Bool
card_row r = both (has_bit_of_weight r.setters set_by_card) (not (eqb (r.answers % 4) 0))

start_test : every (implies start_row (apart_from (0x82 ∷ 0x94 ∷ 0x95 ∷ tags_only_in_last_response))) dictionary_rows ≡ true
unfolding dictionary_rows every both either apart_from implies
start_test = refl

card_test : every (implies card_row (apart_from (0x95 ∷ running_tags))) dictionary_rows ≡ true
unfolding dictionary_rows every both either apart_from implies
card_test = refl

-- what a start may set
pub start_apart : (k : ℕ) → k < row_count → has_bit_of_weight (row_at k).setters set_by_start ≡ true
    → apart_from (0x82 ∷ 0x94 ∷ 0x95 ∷ tags_only_in_last_response) (row_at k) ≡ true
start_apart = rule start_row (apart_from (0x82 ∷ 0x94 ∷ 0x95 ∷ tags_only_in_last_response)) start_test

-- what the card may set before the last answer
pub card_apart : (k : ℕ) → k < row_count → has_bit_of_weight (row_at k).setters set_by_card ≡ true
    → ((row_at k).answers % 4 ≡ 0 → ⊥) → apart_from (0x95 ∷ running_tags) (row_at k) ≡ true
card_apart k h e a = rule card_row (apart_from (0x95 ∷ running_tags)) card_test k h
    (both_yes _ _ e (ap not (ne_eqb _ _ a)))

-- the TVR is the session's own
pub results_apart : apart_from running_tags (row_at row_tvr) ≡ true
unfolding dictionary_rows every both apart_from
results_apart = refl

-- ---- a running session stays one

-- where all that is present stays there, and those tags keep their values
pub runs_kept : (b d : List ℕ) → ((t : ℕ) → has_object b t ≡ true → has_object d t ≡ true)
    → ((i : ℕ) → i < length running_tags → object_value d (get_or running_tags i 0) ≡ object_value b (get_or running_tags i 0))
    → RunningClauses b → RunningClauses d
runs_kept b d there same r =
    record {
      results = there 0x95 r.results;
      brought = λ j i m. there (row_at j).tag (r.brought j i m);
      terminal = ap (λ (x : StoredValue). listed_terminal_type (get_or (bytes_or_empty_if_absent x) 0 0)) (same 0 (omega arith))
          ∙ r.terminal;
      no_9f10 = same 1 (omega arith) ∙ r.no_9f10;
      no_9f26 = same 2 (omega arith) ∙ r.no_9f26;
      no_9f27 = same 3 (omega arith) ∙ r.no_9f27;
      no_9f36 = same 4 (omega arith) ∙ r.no_9f36;
      no_9f61 = same 5 (omega arith) ∙ r.no_9f61;
    }

-- a put into a row that is none of theirs
pub put_runs : (b : List ℕ) (k : ℕ) (v : List ℕ) → length b ≡ store_size → k < row_count → length v ≤ (row_at k).greatest
    → apart_from running_tags (row_at k) ≡ true → RunningClauses b → RunningClauses (put_row dictionary_rows b k v)
put_runs b k v l h g a = runs_kept b (put_row dictionary_rows b k v) (put_holds b k v l h g)
    (put_apart b k v l h g running_tags a)
