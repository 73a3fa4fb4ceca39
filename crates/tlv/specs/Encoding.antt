-- The shortest encoding of a tree (Book 3, annex B): each length in as few bytes as it needs.
-- Assumes nothing.
use Rattle.std.specs.Prelude.{◌≡◌, Bool, true, false, List, [], ◌∷◌, ◌++◌, ℕ, zero, suc, ◌/◌, ◌%◌, ◌<◌, length}
use Rattle.basics.specs.Choice.{when◌then◌else◌, ◌and◌, ◌<?◌, ◌=?◌}
use Rattle.tlv.specs.Tag.{tag_size, is_template}
use Rattle.tlv.specs.Tree.{Forest, end, leaf, node}

-- a tag's bytes
unfoldable pub tag_bytes : ℕ → List ℕ
tag_bytes t =
    when t <? 0x100 then t ∷ []
    else when t <? 0x10000 then t / 0x100 ∷ t % 0x100 ∷ []
    else t / 0x10000 ∷ t / 0x100 % 0x100 ∷ t % 0x100 ∷ []

-- a number is a well-formed tag: its bytes are one whole tag
unfoldable pub well_formed_tag : ℕ → Bool
well_formed_tag t = t <? 0x1000000 and tag_size (tag_bytes t) =? length (tag_bytes t)

-- a length in as few bytes as it can be
unfoldable pub length_bytes : ℕ → List ℕ
length_bytes n =
    when n <? 0x80 then n ∷ []
    else when n <? 0x100 then 0x81 ∷ n ∷ []
    else 0x82 ∷ n / 0x100 ∷ n % 0x100 ∷ []

-- an object: tag, length, value
abbrev pub object_bytes : ℕ → List ℕ → List ℕ
object_bytes t v = tag_bytes t ++ (length_bytes (length v) ++ v)

-- a tree's bytes, object by object
unfoldable pub encode_tree : Forest → List ℕ
encode_tree end = []
encode_tree (leaf t v r) = object_bytes t v ++ encode_tree r
encode_tree (node t f r) = object_bytes t (encode_tree f) ++ encode_tree r

-- what a template holds has one level less; with none left there is no template
abbrev pub HoldsWithOneLevelLess : (ℕ → Type 0) → ℕ → Type 0
HoldsWithOneLevelLess p zero = ⊥
HoldsWithOneLevelLess p (suc l) = p l

-- a tree that can be encoded: well-formed tags, primitive at leaves and of templates at nodes, contents of at most
-- 65,535 bytes, templates nested at most so many levels deep
abbrev pub EncodableWithinLevels : Forest → ℕ → Type 0
EncodableWithinLevels end levels = Unit {0}
EncodableWithinLevels (leaf t v r) levels =
    (well_formed_tag t ≡ true) × (is_template t ≡ false) × (length v < 0x10000) × EncodableWithinLevels r levels
EncodableWithinLevels (node t f r) levels =
    (well_formed_tag t ≡ true) × (is_template t ≡ true) × (length (encode_tree f) < 0x10000) × HoldsWithOneLevelLess
    (EncodableWithinLevels f) levels
    × EncodableWithinLevels r levels

-- ---- what holds of it, proved in proofs/Encoding for all tags, lengths, values and trees, whatever follows
--   number-tag        a tag's bytes are its number
--   tag-encoded       a well-formed tag's bytes are read as that tag
--   length-encoded    a length's bytes are read as that length
--   header-encoded    an object's bytes are read as its header
--   parse-encode      an encodable tree's bytes parse to that tree
--   parse-padded      and so do its padded encodings (specs/Padding), of which this is one (encode-padded)
