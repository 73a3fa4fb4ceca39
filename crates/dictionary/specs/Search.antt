-- Search by halving (document 02, Item 3): each iteration probes one tag, the middle one of those that are left. Either
-- it is the one searched for; or it is smaller, and the part after it is left; or greater, and the part before it is
-- left. Defined for every list of tags, in whatever order. What `search_tags` promises of it besides: where tags rise
-- it finds what `find_row` finds, and of fewer than 2 to the k tags it probes k at most (proofs/Halving). A card's tag
-- is searched in the part of the table that it can be in (`halving_search_result_in_part`): the same answer for every tag,
-- and the same bound on the probes (promises `found` and `few` of `find_row`; proofs/Part).
-- Assumes nothing.
use Rattle.std.specs.Prelude.{Option, Some, None}
use Rattle.std.specs.Prelude.{◌≡◌, Bool, true, List, [], ◌∷◌, map, ℕ, zero, suc, ◌+◌, ◌/◌, length, get_or}
use Rattle.basics.specs.Choice.{when◌then◌else◌, ◌≤?◌, ◌<?◌, ◌=?◌, every}
use Rattle.basics.specs.Types.{Tag, TagList, Count, RowNumber}
use Rattle.dictionary.specs.declared.SearchResult.{SearchResult}
use Rattle.dictionary.specs.Rows.{Row, row_found_shifted}

-- ---- what is left to search

-- a part of the tags: those from a place on, up to a place that is no more in it
pub record SearchPart : Type 0 where
  pub from : RowNumber
  pub to : RowNumber

abbrev pub search_part : RowNumber → RowNumber → SearchPart
search_part from to = record { from = from; to = to }

-- the place of its middle tag
abbrev pub part_middle : SearchPart → RowNumber
part_middle p = (p.from + p.to) / 2

-- the part after the middle tag, and the part before it
abbrev pub part_after_middle : SearchPart → SearchPart
part_after_middle p = search_part (part_middle p + 1) p.to

abbrev pub part_before_middle : SearchPart → SearchPart
part_before_middle p = search_part p.from (part_middle p)

-- ---- the search

-- what a search comes to: where the tag was found, and the places it probed, in their order
pub record HalvingSearch : Type 0 where
  pub found : Option ℕ
  pub places : List RowNumber

-- nothing is left to probe
abbrev pub search_miss : HalvingSearch
search_miss = record { found = None; places = [] }

-- found at the place that was probed
abbrev pub search_hit : RowNumber → HalvingSearch
search_hit place = record { found = Some place; places = [] }

-- one probe of a place, and then the rest of a search
abbrev pub prepend_probe : RowNumber → HalvingSearch → HalvingSearch
prepend_probe place rest = record { found = rest.found; places = place ∷ rest.places }

-- a search of a part by at most so many iterations
unfoldable pub halving_search_in : TagList → Tag → Count → SearchPart → HalvingSearch
halving_search_in tags wanted zero p = search_miss
halving_search_in tags wanted (suc turns) p =
    let tag = get_or tags (part_middle p) 0 in
    when p.to ≤? p.from then search_miss
    else prepend_probe (part_middle p)
    (when tag =? wanted then search_hit (part_middle p)
    else halving_search_in tags wanted turns (when tag <? wanted then part_after_middle p else part_before_middle p))

-- a search of all tags; an iteration for each of them is enough, since each iteration leaves fewer
unfoldable pub halving_search : TagList → Tag → HalvingSearch
halving_search tags wanted = halving_search_in tags wanted (length tags) (search_part 0 (length tags))

-- the places that a search probes
abbrev pub probed_places : TagList → Tag → List RowNumber
probed_places tags wanted = (halving_search tags wanted).places

-- what a search reports: where the tag was found, and the count of probes
unfoldable pub halving_search_result : TagList → Tag → SearchResult
halving_search_result tags wanted =
    record { found = (halving_search tags wanted).found; probes = length (probed_places tags wanted) }

-- the tags of a table
abbrev pub tags_of : List Row → TagList
tags_of table = map (λ r. r.tag) table

-- the tags at some places
abbrev pub tags_at : TagList → List RowNumber → TagList
tags_at tags places = map (λ place. get_or tags place 0) places

-- the count is that of the probes: there are as many places as it says, each in the table, and whatever is at the other
-- places, the same tags at these give the same answer
pub record ProbesCountedAndSufficient (tags : TagList) (wanted : Tag) (result : SearchResult) : Type 0 where
  pub count : length (probed_places tags wanted) ≡ result.probes
  pub within : every (λ place. place <? length tags) (probed_places tags wanted) ≡ true
  pub enough : (other : TagList) → length other ≡ length tags
      → tags_at other (probed_places tags wanted) ≡ tags_at tags (probed_places tags wanted)
      → halving_search_result other wanted ≡ result

-- ---- the search of a part of a table

-- the part that a tag can be in, by the count of its bytes and, of two bytes, by the first one: one byte; two bytes
-- before 9F, from 9F on and from DF on; three bytes
unfoldable pub search_part_number : Tag → ℕ
search_part_number tag =
    when tag <? 0x100 then 0
    else when tag <? 0x9F00 then 1
    else when tag <? 0xDF00 then 2
    else when tag <? 0x10000 then 3
    else 4

-- the tags that pass a test, in their order
unfoldable pub filter_tags : (Tag → Bool) → TagList → TagList
filter_tags f [] = []
filter_tags f (tag ∷ tags) =
    when f tag then tag ∷ filter_tags f tags
    else filter_tags f tags

-- the tags of the part that a wanted one can be in, and how many tags belong to a part before it
abbrev pub tags_in_part_of : TagList → Tag → TagList
tags_in_part_of tags wanted = filter_tags (λ tag. search_part_number tag =? search_part_number wanted) tags

abbrev pub tag_count_before_part_of : TagList → Tag → Count
tag_count_before_part_of tags wanted = length (filter_tags (λ tag. search_part_number tag <? search_part_number wanted) tags)

-- a search of that part alone: its looks, and the place counted from the front of all tags
unfoldable pub halving_search_result_in_part : TagList → Tag → SearchResult
halving_search_result_in_part tags wanted =
    let searched = halving_search_result (tags_in_part_of tags wanted) wanted in
    record { found = row_found_shifted (tag_count_before_part_of tags wanted) searched.found; probes = searched.probes }

-- the count is that of the probes of the part: in it there are as many places as it says, and whatever is at the other
-- places of the part, the same tags at these give the same answer of the part
abbrev pub PartProbesCountedAndSufficient : TagList → Tag → SearchResult → Type 0
PartProbesCountedAndSufficient tags wanted result =
    ProbesCountedAndSufficient (tags_in_part_of tags wanted) wanted
    (record { found = (halving_search (tags_in_part_of tags wanted) wanted).found; probes = result.probes })
