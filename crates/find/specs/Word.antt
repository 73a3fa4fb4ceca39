-- What a search finds, as one 64-bit word for a host.
-- Assumes nothing.
use Rattle.std.specs.Prelude.{ℕ, ◌+◌, ◌*◌}
use Rattle.find.specs.declared.TagFound.{TagFound}
use Rattle.find.specs.declared.TagFound.TheVariants.{At, Absent, Malformed}

-- the place in bits 32 to 63 and the length in bits 0 to 31; all ones where no object has the tag, one less where the
-- bytes are malformed
abbrev pub find_word : TagFound → ℕ
find_word (At p) = p.start * 0x100000000 + p.len
find_word Absent = 0xFFFFFFFFFFFFFFFF
find_word Malformed = 0xFFFFFFFFFFFFFFFE

-- ---- what holds of it, proved in proofs/InTree
--   place-word    the word of a place that is found is below 2^48, so it is neither of the other two
