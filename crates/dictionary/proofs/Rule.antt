-- The rule of a table, from its test to each row; and in a table that rises every row is found by its tag.
-- Assumes nothing.
use Rattle.std.specs.Prelude.{Some}
use mathlib.Core.Path.{◌≡◌, refl, ap, ◌∙◌}
use mathlib.Core.Bool.{true}
use mathlib.Core.List.{List, [], ◌∷◌}
use Prim.Native.Nat.{ℕ, zero, suc, ◌≤◌, ◌<◌}
use native.Mathlib.Omega.{arith}
use lib.ListN.{length}
use borrow.Author.Tests.{ltb-true, leb-true, eq-eqb, ne_eqb}
use Rattle.basics.specs.Choice.{if, both, every}
use Rattle.basics.proofs.Laws.{if_yes, if_no, both_left, both_right}
use Rattle.basics.proofs.Table.{at}
use Rattle.tlv.specs.Tag.{tag_size, tag_size_from_second_byte, tag_size_from_third_byte}
use Rattle.tlv.specs.Encoding.{well_formed_tag, tag_bytes}
use Rattle.dictionary.specs.Rows.{Row, dictionary_rows, blank_row, row_in, row_found_shifted, find_row}
use Rattle.dictionary.specs.Rule.{row_has_valid_tag_and_lengths, tag_below_next_row, rising_tags, tags_rise_and_rows_valid}

-- this table passes its test
pub rows_proper : tags_rise_and_rows_valid dictionary_rows ≡ true
unfolding dictionary_rows tags_rise_and_rows_valid rising_tags every both if well_formed_tag tag_bytes tag_size
    tag_size_from_second_byte tag_size_from_third_byte
rows_proper = refl

-- what each row of a proper table keeps
pub record ProperRow (r : Row) : Type 0 where
  pub tag : well_formed_tag r.tag ≡ true
  pub lengths : r.least ≤ r.greatest

pub proper_row : (table : List Row) → tags_rise_and_rows_valid table ≡ true → (k : ℕ) → k < length table
    → ProperRow (row_in table k)
unfolding tags_rise_and_rows_valid
proper_row table t k h =
    let w = at row_has_valid_tag_and_lengths table blank_row (both_right _ _ t) k h in
    record { tag = both_left _ _ w; lengths = leb-true _ _ (both_right _ _ w) }

pub proper_rising : (table : List Row) → tags_rise_and_rows_valid table ≡ true → rising_tags table ≡ true
unfolding tags_rise_and_rows_valid
proper_rising table t = both_left _ _ t

-- tags rise from each row to every later one
first_below : (t : ℕ) (rs : List Row) → tag_below_next_row t rs ≡ true → rising_tags rs ≡ true → (k : ℕ) → k < length rs
    → t < (row_in rs k).tag
unfolding rising_tags
first_below t [] b r k h = absurd (omega arith)
first_below t (s ∷ ss) b r zero h = ltb-true _ _ b
first_below t (s ∷ ss) b r (suc k) h =
    let a = ltb-true t s.tag b in
    let c = first_below s.tag ss (both_left _ _ r) (both_right _ _ r) k (omega arith) in
    omega arith

pub tags_rise : (table : List Row) → rising_tags table ≡ true → (j k : ℕ) → j < k → k < length table
    → (row_in table j).tag < (row_in table k).tag
unfolding rising_tags
tags_rise [] r j k h l = absurd (omega arith)
tags_rise (s ∷ ss) r zero zero h l = absurd (omega arith)
tags_rise (s ∷ ss) r zero (suc k) h l = first_below s.tag ss (both_left _ _ r) (both_right _ _ r) k (omega arith)
tags_rise (s ∷ ss) r (suc j) zero h l = absurd (omega arith)
tags_rise (s ∷ ss) r (suc j) (suc k) h l = tags_rise ss (both_right _ _ r) j k (omega arith) (omega arith)

rises_on : (s : Row) (ss : List Row) → rising_tags (s ∷ ss) ≡ true → rising_tags ss ≡ true
unfolding rising_tags
rises_on s ss r = both_right _ _ r

shifted : (n : ℕ) → row_found_shifted 1 (Some n) ≡ Some (suc n)
unfolding row_found_shifted
shifted n = ap Some (omega arith)

-- every row is found by its tag
pub find_row_lem : (table : List Row) → rising_tags table ≡ true → (k : ℕ) → k < length table
    → find_row table (row_in table k).tag ≡ Some k
unfolding find_row
find_row_lem [] r k h = absurd (omega arith)
find_row_lem (s ∷ ss) r zero h = if_yes (Some 0) (row_found_shifted 1 (find_row ss s.tag)) (eq-eqb s.tag s.tag refl)
find_row_lem (s ∷ ss) r (suc k) h =
    let lt : s.tag < (row_in ss k).tag = tags_rise (s ∷ ss) r 0 (suc k) (omega arith) h in
    if_no _ _ (ne_eqb s.tag (row_in ss k).tag (λ e. omega arith)) ∙ ap (row_found_shifted 1)
    (find_row_lem ss (rises_on s ss r) k (omega arith)) ∙ shifted k
