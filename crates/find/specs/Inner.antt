-- What private functions say to each other. This file states no rule: a reader of the rules can skip it.
-- `find_inside` in proofs/InTree says that the first holds of whatever is found.
-- Assumes nothing.
use Rattle.std.specs.Prelude.{ℕ, zero, suc, ◌+◌, ◌≤◌, List, [], ◌∷◌, get_or}
use Rattle.find.specs.declared.TagFound.{TagFound}
use Rattle.find.specs.declared.TagFound.TheVariants.{At, Absent, Malformed}

-- a value within the first 65,535 bytes, so that place and length each have room
abbrev pub FoundSpanWithin65535Bytes : TagFound → Type 0
FoundSpanWithin65535Bytes (At p) = p.start + p.len ≤ 65535
FoundSpanWithin65535Bytes Absent = Unit {0}
FoundSpanWithin65535Bytes Malformed = Unit {0}

-- the ends of the levels around so many open templates, innermost first
unfoldable pub ends_around : List ℕ → ℕ → List ℕ
ends_around l zero = []
ends_around l (suc n) = get_or l n 0 ∷ ends_around l n
