-- `dictionary::find_row` meets its contract: a search of the tag's part finds what `find_row` finds in the table; its
-- looks are those of the part's search.
-- Assumes nothing.
use Rattle.std.proofs.Common.{rules}
use Rattle.std.proofs.iter.Serving.{serving}
use Rattle.std.specs.Prelude.{Option, Some, option_map}
use mathlib.Core.Path.{◌≡◌, sym, ap, ◌∙◌}
use mathlib.Core.Bool.{true}
use mathlib.Core.List.{List}
use Prim.Native.Nat.{ℕ, ◌+◌, ◌-◌, ◌<◌}
use native.Mathlib.Omega.{arith}
use lib.ListN.{length, take, drop}
use Rattle.dictionary.specs.Rows.{Row, dictionary_rows, row_count, find_row}
use Rattle.dictionary.specs.Rule.{rising_tags}
use Rattle.dictionary.specs.Search.{halving_search_result, halving_search_result_in_part, tags_of}
use Rattle.dictionary.specs.Inner.{row_range_for_tag}
use Rattle.dictionary.specs.declared.RowRange.{RowRange}
use Rattle.dictionary.specs.declared.SearchResult.{SearchResult}
use Rattle.dictionary.proofs.Halving.{counted_in_part}
use Rattle.dictionary.proofs.Lent.{row-found}
use Rattle.dictionary.proofs.Part.{tags_length, in_part, shifted, option_map_shift}
use Rattle.dictionary.proofs.find_row.Goals as goal

pub slice_bounds-search_tags-end : goal.slice_bounds-search_tags-end
slice_bounds-search_tags-end c = let e = ap length c.requires ∙ tags_length in omega (arith, c.part_of-from.ensures.from_le_to.1)

-- where a search of the part, of tags that are those of the table, finds a tag
found_at : (t : ℕ) {p : RowRange} {ts : List ℕ} {x : Option ℕ} → p ≡ row_range_for_tag t → ts ≡ tags_of dictionary_rows
    → ((table : List Row) → tags_of table ≡ take (p.to - p.from) (drop p.from ts) → rising_tags table ≡ true
    → x ≡ find_row table t)
    → option_map (λ k. p.from + k) x ≡ find_row dictionary_rows t
found_at t {p} {ts} {x} q e h = option_map_shift p.from x ∙ in_part t q
    (λ table g. h table (g ∙ ap (λ (l : List ℕ). take (p.to - p.from) (drop p.from l)) (sym e)))

halved_at : (t : ℕ) {p : RowRange} {ts : List ℕ} {x : Option ℕ} {s : SearchResult} → p ≡ row_range_for_tag t
    → ts ≡ tags_of dictionary_rows → s ≡ halving_search_result (take (p.to - p.from) (drop p.from ts)) t
    → x ≡ option_map (λ k. p.from + k) s.found
    → record { found = x; probes = s.probes } ≡ halving_search_result_in_part (tags_of dictionary_rows) t
halved_at t {p} {ts} {x} {s} q e h f =
    ap (λ (y : Option ℕ). record { found = y; probes = s.probes }) (f ∙ option_map_shift p.from s.found)
    ∙ shifted t q (h ∙ ap (λ (l : List ℕ). halving_search_result (take (p.to - p.from) (drop p.from l)) t) e)

-- each place that it finds is one of the table
place_fits : (t a : ℕ) {x : Option ℕ} → option_map (λ k. a + k) x ≡ find_row dictionary_rows t
    → (k : ℕ) → x ≡ Some k → a + k < row_count
place_fits t a e k q = row-found t (sym e ∙ ap (option_map (λ k. a + k)) q)

pub map-requires : goal.map-requires
map-requires c =
    let p = c.part_of-from in
    let h = place_fits _ _ (found_at _ p.ensures.value c.requires c.search_tags-searched.ensures.found) in
    grind (serving, h)

pub returns-clause-found : goal.returns-clause-found
returns-clause-found c =
    let p = c.part_of-from in
    let e : c.map.result ≡ option_map (λ k. p.result.from + k) c.search_tags-searched.result.found = search rules in
    e ∙ found_at _ p.ensures.value c.requires c.search_tags-searched.ensures.found

pub returns-clause-halving : goal.returns-clause-halving
returns-clause-halving c =
    let p = c.part_of-from in
    let s = c.search_tags-searched in
    halved_at _ p.ensures.value c.requires s.ensures.halving (search rules)

pub returns-clause-counted : goal.returns-clause-counted
returns-clause-counted c = counted_in_part (tags_of dictionary_rows) _ (returns-clause-halving c)
