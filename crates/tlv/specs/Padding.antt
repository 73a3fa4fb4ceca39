-- Padding within a template (document 02, Item 6): bytes of 00 before, between and after the objects, at every level.
-- `next_in_template` (specs/Tree) skips them; here is what that comes to.
-- Assumes nothing.
use Rattle.std.specs.Prelude.{◌≡◌, List, [], ◌∷◌, ◌++◌, ℕ, ◌*◌, ◌≤◌, ◌<◌, length, replicate, get_or, drop, Some}
use Rattle.tlv.specs.Tree.{Forest, end, leaf, node, object_count, next_in_template_shifted, next_in_template, parse_tree}
use Rattle.tlv.specs.Encoding.{object_bytes, EncodableWithinLevels}

-- so many bytes of padding
abbrev pub padding_zeros : ℕ → List ℕ
padding_zeros n = replicate n 0

-- bytes that encode a tree, padded: a 00 may be before every object and after the last of each template; a template's
-- length counts the padding in it
pub data EncodesTreeWithPadding : Forest → List ℕ → Type 0 where
  nothing : EncodesTreeWithPadding end []
  padding : {f : Forest} {s : List ℕ} → EncodesTreeWithPadding f s → EncodesTreeWithPadding f (0 ∷ s)
  primitive : (t : ℕ) (v : List ℕ) {r : Forest} {s : List ℕ} → EncodesTreeWithPadding r s
      → EncodesTreeWithPadding (leaf t v r) (object_bytes t v ++ s)
  template : (t : ℕ) {f r : Forest} {v s : List ℕ} → length v < 0x10000 → EncodesTreeWithPadding f v
      → EncodesTreeWithPadding r s
      → EncodesTreeWithPadding (node t f r) (object_bytes t v ++ s)

-- how bytes s are read as a template's contents
pub record PaddingDoesNotChangeParse (template_contents : List ℕ) : Type 0 where
  -- leading padding changes nothing, whether s is whole or malformed
  pub in_front : (n levels : ℕ)
      → parse_tree levels (padding_zeros n ++ template_contents) ≡ parse_tree levels template_contents
  -- padding after a whole run changes nothing
  pub behind : (n levels : ℕ) (f : Forest) → parse_tree levels template_contents ≡ Some f
      → parse_tree levels (template_contents ++ padding_zeros n) ≡ Some f
  -- padding between two whole runs changes nothing
  pub between : (t : List ℕ) (n levels : ℕ) (f g : Forest) → parse_tree levels template_contents ≡ Some f
      → parse_tree levels t ≡ Some g
      → parse_tree levels (template_contents ++ (padding_zeros n ++ t)) ≡ parse_tree levels (template_contents ++ t)
  -- a padded encoding of a tree that can be encoded is read as that tree
  pub encoded : (f : Forest) (levels : ℕ) → EncodableWithinLevels f levels
      → EncodesTreeWithPadding f template_contents → parse_tree levels template_contents ≡ Some f
  -- padding is no object: there are at most half as many as bytes
  pub half : (levels : ℕ) (f : Forest) → parse_tree levels template_contents ≡ Some f
      → 2 * object_count f ≤ length template_contents

-- ---- what holds of it, promised by `next`, proved in proofs/Tree and proofs/Encoding for all lists
--   passes-over    PassesOver s

-- ---- a private promise, on the way to `next_in_template`

-- what is next in s is what is next from `at` on, so many bytes further on, and no 00 is there
pub record LeadingPaddingEndsAt (template_contents : List ℕ) (padding_end : ℕ) : Type 0 where
  pub inside : padding_end ≤ length template_contents
  pub next : next_in_template template_contents ≡ next_in_template_shifted padding_end
      (next_in_template (drop padding_end template_contents))
  pub stops : padding_end < length template_contents → get_or template_contents padding_end 0 ≡ 0 → ⊥
