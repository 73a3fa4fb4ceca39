-- The first object of a tag in some bytes, which are read as the contents of a template are (document 01, "Reading an
-- answer"): in the order of the bytes, a template before what it holds. Malformed anywhere is malformed.
-- Assumes nothing.
use Rattle.std.specs.Prelude.{Bool, zero, suc, ◌+◌, length}
use Rattle.basics.specs.Types.{Bytes, Count, Length, Offset, Tag}
use Rattle.basics.specs.Choice.{when◌then◌else◌, ◌≤?◌, ◌=?◌}
use Rattle.basics.specs.Recursion.{recurse_with_fuel_from_length}
use Rattle.tlv.specs.declared.TlvHeader.{TlvHeader}
use Rattle.tlv.specs.declared.NextInTemplate.{NextInTemplate}
use Rattle.tlv.specs.declared.NextInTemplate.TheVariants as following
use Rattle.tlv.specs.Object.{header_value, behind_object}
use Rattle.tlv.specs.Tree.{next_in_template}
use Rattle.find.specs.declared.ValueSpan.{ValueSpan}
use Rattle.find.specs.declared.TagFound.{TagFound}
use Rattle.find.specs.declared.TagFound.TheVariants.{At, Absent, Malformed}

-- ---- what a search finds

-- a value of n bytes whose first is at place a, counted from 0
abbrev pub value_span : Offset → Length → ValueSpan
value_span a n = record { start = a; len = n }

-- that value, where the tag is the one searched for
abbrev pub found_if_tag_matches : Bool → Offset → Length → TagFound
found_if_tag_matches same a n = when same then At (value_span a n) else Absent

-- of two concatenated parts: what the first has, else what the second has; malformed where either is
unfoldable pub first_found_unless_malformed : TagFound → TagFound → TagFound
first_found_unless_malformed Malformed r = Malformed
first_found_unless_malformed (At p) Malformed = Malformed
first_found_unless_malformed (At p) Absent = At p
first_found_unless_malformed (At p) (At q) = At p
first_found_unless_malformed Absent r = r

-- the same, with n more bytes before it
unfoldable pub found_shifted : Length → TagFound → TagFound
found_shifted n Malformed = Malformed
found_shifted n (At p) = At (value_span (n + p.start) p.len)
found_shifted n Absent = Absent

-- ---- the search

-- an object itself
abbrev pub found_if_header_tag : Tag → TlvHeader → TagFound
found_if_header_tag tag h = found_if_tag_matches (h.tag =? tag) h.start h.len

-- what a template holds, by the levels still allowed; with none left it is malformed
abbrev pub found_with_one_level_less : (Count → TagFound) → Count → TagFound
found_with_one_level_less k zero = Malformed
found_with_one_level_less k (suc levels) = k levels

-- what an object holds, by what k finds in its contents: in a primitive object nothing
abbrev pub found_in_contents : (Bytes → Count → TagFound) → Bytes → Count → TlvHeader → TagFound
found_in_contents k s levels h =
    when h.template then found_shifted h.start (found_with_one_level_less (k (header_value s h)) levels)
    else Absent

-- what k finds after an object
abbrev pub found_after_object : (Bytes → Count → TagFound) → Bytes → Count → TlvHeader → TagFound
found_after_object k s levels h = found_shifted (h.start + h.len) (k (behind_object s h) levels)

-- an object, then what it holds, then what is after it
abbrev pub found_from_next_in_template : Tag → (Bytes → Count → TagFound) → Bytes → Count → NextInTemplate → TagFound
found_from_next_in_template tag k s levels following.End = Absent
found_from_next_in_template tag k s levels following.Malformed = Malformed
found_from_next_in_template tag k s levels (following.Inner h) =
    first_found_unless_malformed (found_if_header_tag tag h) (first_found_unless_malformed (found_in_contents k s levels h)
    (found_after_object k s levels h))

-- one step of the search, by what k finds in fewer bytes
abbrev pub find_tag_step : Tag → (Bytes → Count → TagFound) → Bytes → Count → TagFound
find_tag_step tag k s levels = found_from_next_in_template tag k s levels (next_in_template s)

-- the first object of the tag in s, with templates nested at most `levels` deep
unfoldable pub find_tag_within_levels : Tag → Count → Bytes → TagFound
find_tag_within_levels tag levels s = recurse_with_fuel_from_length (λ l. Malformed) (find_tag_step tag) s levels

-- the same in a card's bytes: at most 65,535 of them, and four levels
unfoldable pub find_tag : Tag → Bytes → TagFound
find_tag tag bytes = when length bytes ≤? 65535 then find_tag_within_levels tag 4 bytes else Malformed

-- ---- what holds of it, proved in proofs/ (Laws, InTree, Examples) for all bytes, levels and tags
--   unroll         the search is one step over itself: the steps allowed do not matter
--   found-end, found-malformed, found-deep, found-node, found-leaf    the search at each thing that can be next
--   with-tree      what is found is what the tree of the bytes says (specs/InTree)
