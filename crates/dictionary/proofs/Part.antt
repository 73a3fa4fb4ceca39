-- The part of the table that a tag can be in: rows before it have smaller tags, rows after it greater ones, so a search
-- of the part finds what `find_row` finds in the whole. What the parts require of the table is computed, one test each;
-- so is which tags each of them has.
-- Assumes nothing.
use Rattle.std.specs.Prelude.{Option, Some, None, option_map}
use mathlib.Core.Path.{◌≡◌, refl, sym, ap, subst, ◌∙◌}
use mathlib.Core.Bool.{Bool, true, false}
use mathlib.Core.List.{List, [], ◌∷◌}
use Prim.Native.Nat.{ℕ, zero, suc, ◌+◌, ◌-◌, ◌≤◌, ◌<◌}
use native.Mathlib.Omega.{arith}
use lib.Dec.{eqb, leb, ltb}
use lib.ListN.{length, take, drop}
use borrow.Author.Tests.{ne_eqb, leb-true, ltb-true, ltb-false, lt-ltb, le-ltb}
use Rattle.basics.specs.Choice.{if, both, every}
use Rattle.basics.proofs.Laws.{if_yes, if_no, if_ind, both_left, both_right}
use Rattle.dictionary.specs.declared.RowRange.{RowRange}
use Rattle.dictionary.specs.declared.SearchResult.{SearchResult}
use Rattle.dictionary.specs.Rows.{Row, dictionary_rows, row_count, row_found_shifted, find_row}
use Rattle.dictionary.specs.Rule.{rising_tags}
use Rattle.dictionary.specs.Search.{halving_search_result, tags_of, search_part_number, filter_tags, tags_in_part_of}
use Rattle.dictionary.specs.Search.{halving_search_result_in_part}
use Rattle.dictionary.specs.Named.{first_row_of5f, first_row_of9f, first_row_of_df, first_row_of_three_byte_tags}
use Rattle.dictionary.specs.Inner.{row_range, row_range_for_tag}

past_none : (x : Option ℕ) → row_found_shifted 0 x ≡ x
unfolding row_found_shifted
past_none None = refl
past_none (Some k) = let e : 0 + k ≡ k = omega arith in ap Some e

past_more : (a : ℕ) (x : Option ℕ) → row_found_shifted 1 (row_found_shifted a x) ≡ row_found_shifted (suc a) x
unfolding row_found_shifted
past_more a None = refl
past_more a (Some k) = let e : 1 + (a + k) ≡ suc a + k = omega arith in ap Some e

-- rows of smaller tags at the front are skipped
abbrev below : ℕ → Row → Bool
below low r = ltb r.tag low

find_behind : (a : ℕ) (table : List Row) (low t : ℕ) → every (below low) (take a table) ≡ true → low ≤ t
    → find_row table t ≡ row_found_shifted a (find_row (drop a table) t)
unfolding every find_row row_found_shifted
find_behind zero table low t h l = sym (past_none (find_row table t))
find_behind (suc a) [] low t h l = refl
find_behind (suc a) (r ∷ rs) low t h l =
    let n : r.tag ≡ t → ⊥ = λ e. let s = ltb-true r.tag low (both_left _ _ h) in omega arith in
    if_no _ _ (ne_eqb _ _ n) ∙ ap (row_found_shifted 1) (find_behind a rs low t (both_right _ _ h) l) ∙ past_more a
    (find_row (drop a rs) t)

-- rows of greater tags after it do not have the tag
abbrev above : ℕ → Row → Bool
above high r = leb high r.tag

none_above : (table : List Row) (high t : ℕ) → every (above high) table ≡ true → t < high → find_row table t ≡ None
unfolding every find_row row_found_shifted
none_above [] high t h l = refl
none_above (r ∷ rs) high t h l =
    let n : r.tag ≡ t → ⊥ = λ e. let s = leb-true high r.tag (both_left _ _ h) in omega arith in
    if_no _ _ (ne_eqb _ _ n) ∙ ap (row_found_shifted 1) (none_above rs high t (both_right _ _ h) l)

find_before : (n : ℕ) (table : List Row) (high t : ℕ) → every (above high) (drop n table) ≡ true → t < high
    → find_row table t ≡ find_row (take n table) t
unfolding find_row
find_before zero table high t h l = none_above table high t h l
find_before (suc n) [] high t h l = refl
find_before (suc n) (r ∷ rs) high t h l = ap (λ (x : Option ℕ). if (eqb r.tag t) (Some 0) (row_found_shifted 1 x))
    (find_before n rs high t h l)

-- ---- the dictionary's parts

abbrev pub part_rows : RowRange → List Row
part_rows p = take (p.to - p.from) (drop p.from dictionary_rows)

abbrev pub part_tags : RowRange → List ℕ
part_tags p = take (p.to - p.from) (drop p.from (tags_of dictionary_rows))

-- the tags of the part of a number, and how many are before it
pub record Numbered (n : ℕ) (p : RowRange) : Type 0 where
  pub tags : filter_tags (λ u. eqb (search_part_number u) n) (tags_of dictionary_rows) ≡ part_tags p
  pub start : length (filter_tags (λ u. ltb (search_part_number u) n) (tags_of dictionary_rows)) ≡ p.from

-- what a search of a part gives for a tag
pub record Stands (t : ℕ) (p : RowRange) : Type 0 where
  pub tags : tags_of (part_rows p) ≡ part_tags p
  pub rises : rising_tags (part_rows p) ≡ true
  pub finds : find_row dictionary_rows t ≡ row_found_shifted p.from (find_row (part_rows p) t)
  pub numbered : Numbered (search_part_number t) p

-- of a part between two tags
between : (a n low high t : ℕ) → every (below low) (take a dictionary_rows) ≡ true
    → every (above high) (drop n (drop a dictionary_rows)) ≡ true → low ≤ t → t < high
    → find_row dictionary_rows t ≡ row_found_shifted a (find_row (take n (drop a dictionary_rows)) t)
between a n low high t h i l m = find_behind a dictionary_rows low t h l ∙ ap (row_found_shifted a)
    (find_before n (drop a dictionary_rows) high t i m)

-- of the part of a number
numbered : (t : ℕ) {n : ℕ} {p : RowRange} → search_part_number t ≡ n → Numbered n p → Numbered (search_part_number t) p
numbered t {n} {p} e = subst (λ (m : ℕ). Numbered m p) (sym e)

part_0 : Numbered 0 (row_range 0 first_row_of5f)
unfolding dictionary_rows filter_tags search_part_number if
part_0 = record { tags = refl; start = refl }

part_1 : Numbered 1 (row_range first_row_of5f first_row_of9f)
unfolding dictionary_rows filter_tags search_part_number if
part_1 = record { tags = refl; start = refl }

part_2 : Numbered 2 (row_range first_row_of9f first_row_of_df)
unfolding dictionary_rows filter_tags search_part_number if
part_2 = record { tags = refl; start = refl }

part_3 : Numbered 3 (row_range first_row_of_df first_row_of_three_byte_tags)
unfolding dictionary_rows filter_tags search_part_number if
part_3 = record { tags = refl; start = refl }

part_4 : Numbered 4 (row_range first_row_of_three_byte_tags row_count)
unfolding dictionary_rows filter_tags search_part_number if
part_4 = record { tags = refl; start = refl }

-- the number of a tag's part
module _ (t : ℕ) where
  number_0 : ltb t 0x100 ≡ true → search_part_number t ≡ 0
  unfolding search_part_number
  number_0 a = if_yes _ _ a

  number_1 : ltb t 0x100 ≡ false → ltb t 0x9F00 ≡ true → search_part_number t ≡ 1
  unfolding search_part_number
  number_1 a b = if_no _ _ a ∙ if_yes _ _ b

  number_2 : ltb t 0x100 ≡ false → ltb t 0x9F00 ≡ false → ltb t 0xDF00 ≡ true → search_part_number t ≡ 2
  unfolding search_part_number
  number_2 a b c = if_no _ _ a ∙ if_no _ _ b ∙ if_yes _ _ c

  number_3 : ltb t 0x100 ≡ false → ltb t 0x9F00 ≡ false → ltb t 0xDF00 ≡ false → ltb t 0x10000 ≡ true
      → search_part_number t ≡ 3
  unfolding search_part_number
  number_3 a b c d = if_no _ _ a ∙ if_no _ _ b ∙ if_no _ _ c ∙ if_yes _ _ d

  number_4 : ltb t 0x100 ≡ false → ltb t 0x9F00 ≡ false → ltb t 0xDF00 ≡ false → ltb t 0x10000 ≡ false
      → search_part_number t ≡ 4
  unfolding search_part_number
  number_4 a b c d = if_no _ _ a ∙ if_no _ _ b ∙ if_no _ _ c ∙ if_no _ _ d

pub part_stands : (t : ℕ) → Stands t (row_range_for_tag t)
unfolding row_range_for_tag dictionary_rows rising_tags every both
part_stands t =
    if_ind (Stands t) _ _ _
    (λ a. record {
      tags = refl;
      rises = refl;
      finds = between 0 first_row_of5f 0 0x100 t refl refl (omega arith)
          (ltb-true _ _ a);
      numbered = numbered t (number_0 t a) part_0;
    })
    (λ a. if_ind (Stands t) _ _ _
    (λ b. record {
      tags = refl;
      rises = refl;
      finds = between first_row_of5f (first_row_of9f - first_row_of5f) 0x100 0x9F00 t
          refl refl (ltb-false _ _ a) (ltb-true _ _ b);
      numbered = numbered t (number_1 t a b) part_1;
    })
    (λ b. if_ind (Stands t) _ _ _
    (λ c. record {
      tags = refl;
      rises = refl;
      finds = between first_row_of9f (first_row_of_df - first_row_of9f) 0x9F00 0xDF00 t
          refl refl (ltb-false _ _ b) (ltb-true _ _ c);
      numbered = numbered t (number_2 t a b c) part_2;
    })
    (λ c. if_ind (Stands t) _ _ _
    (λ d. record {
      tags = refl;
      rises = refl;
      finds = between first_row_of_df (first_row_of_three_byte_tags - first_row_of_df)
          0xDF00 0x10000 t refl refl (ltb-false _ _ c) (ltb-true _ _ d);
      numbered = numbered t (number_3 t a b c d) part_3;
    })
    (λ d. record {
      tags = refl;
      rises = refl;
      finds = find_behind first_row_of_three_byte_tags dictionary_rows 0x10000 t refl
          (ltb-false _ _ d) ∙ ap (row_found_shifted first_row_of_three_byte_tags) (sym all_left);
      numbered =
          numbered t (number_4 t a b c d) part_4;
    }))))
  where
    all_left : find_row (take (row_count - first_row_of_three_byte_tags) (drop first_row_of_three_byte_tags dictionary_rows)) t
        ≡ find_row (drop first_row_of_three_byte_tags dictionary_rows) t
    all_left = refl

pub tags_length : length (tags_of dictionary_rows) ≡ row_count
unfolding dictionary_rows
tags_length = refl

-- ---- which part, by the tag

module _ (t : ℕ) where
  pub one_byte : t < 0x100 → row_range 0 first_row_of5f ≡ row_range_for_tag t
  unfolding row_range_for_tag
  one_byte a = sym (if_yes _ _ (lt-ltb _ _ a))

  module _ (a : 0x100 ≤ t) where
    pub from_5f : t < 0x9F00 → row_range first_row_of5f first_row_of9f ≡ row_range_for_tag t
    unfolding row_range_for_tag
    from_5f b = sym (if_no _ _ (le-ltb _ _ a) ∙ if_yes _ _ (lt-ltb _ _ b))

    module _ (b : 0x9F00 ≤ t) where
      pub from_9f : t < 0xDF00 → row_range first_row_of9f first_row_of_df ≡ row_range_for_tag t
      unfolding row_range_for_tag
      from_9f c = sym (if_no _ _ (le-ltb _ _ a) ∙ if_no _ _ (le-ltb _ _ b) ∙ if_yes _ _ (lt-ltb _ _ c))

      module _ (c : 0xDF00 ≤ t) where
        pub from_df : t < 0x10000 → row_range first_row_of_df first_row_of_three_byte_tags ≡ row_range_for_tag t
        unfolding row_range_for_tag
        from_df d = sym (if_no _ _ (le-ltb _ _ a) ∙ if_no _ _ (le-ltb _ _ b) ∙ if_no _ _ (le-ltb _ _ c) ∙ if_yes _ _
            (lt-ltb _ _ d))

        pub three_bytes : 0x10000 ≤ t → row_range first_row_of_three_byte_tags row_count ≡ row_range_for_tag t
        unfolding row_range_for_tag
        three_bytes d = sym (if_no _ _ (le-ltb _ _ a) ∙ if_no _ _ (le-ltb _ _ b) ∙ if_no _ _ (le-ltb _ _ c) ∙ if_no _ _
            (le-ltb _ _ d))

-- ---- a search of a part

-- a place in the part, counted from the front of the table
pub option_map_shift : (a : ℕ) (x : Option ℕ) → option_map (λ k. a + k) x ≡ row_found_shifted a x
unfolding row_found_shifted
option_map_shift a None = refl
option_map_shift a (Some k) = refl

module _ (t : ℕ) {p : RowRange} (e : p ≡ row_range_for_tag t) where
  stands : Stands t p
  stands = subst (Stands t) (sym e) (part_stands t)

  -- from what `search_tags` promises of every rising table
  pub in_part : {x : Option ℕ} → ((table : List Row) → tags_of table ≡ part_tags p → rising_tags table ≡ true
      → x ≡ find_row table t)
      → row_found_shifted p.from x ≡ find_row dictionary_rows t
  in_part h = ap (row_found_shifted p.from) (h (part_rows p) stands.tags stands.rises) ∙ sym stands.finds

  -- from the equation that it promises: the search of the part, with the places of the whole table
  pub shifted : {s : SearchResult} → s ≡ halving_search_result (part_tags p) t
      → record { found = row_found_shifted p.from s.found; probes = s.probes } ≡ halving_search_result_in_part
      (tags_of dictionary_rows) t
  unfolding halving_search_result_in_part
  shifted q =
      let n = stands.numbered in
      ap (λ (r : SearchResult). record { found = row_found_shifted p.from r.found; probes = r.probes })
      (q ∙ ap (λ (l : List ℕ). halving_search_result l t) (sym n.tags))
      ∙ ap
      (λ (a : ℕ). record {
        found = row_found_shifted a (halving_search_result (tags_in_part_of (tags_of dictionary_rows) t) t).found;
        probes =
            (halving_search_result (tags_in_part_of (tags_of dictionary_rows) t) t).probes;
      }) (sym n.start)
