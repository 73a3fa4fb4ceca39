-- The tree of an encoding (document 01, "Reading an answer"): the objects within a template, in order, templates nested
-- at most so many levels deep, and how many objects there are, templates included. Bytes of 00 before, between and
-- after the objects are padding (document 02, Item 6).
-- Assumes nothing.
use Rattle.tlv.specs.declared.TlvHeader.{TlvHeader}
use Rattle.std.specs.Prelude.{List, [], ◌∷◌, ℕ, zero, suc, ◌+◌, Option, Some, None}
use Rattle.basics.specs.Choice.{when◌then◌else◌, ◌=?◌}
use Rattle.basics.specs.Recursion.{recurse_with_fuel_from_length}
use Rattle.tlv.specs.declared.NextInTemplate.{NextInTemplate}
use Rattle.tlv.specs.declared.NextInTemplate.TheVariants.{End, Inner, Malformed}
use Rattle.tlv.specs.Object.{header_of, header_shifted, header_value, behind_object}

-- objects concatenated: a leaf is a primitive object with tag and value, a node a template with what it holds
pub data Forest : Type 0 where
  end : Forest
  leaf : ℕ → List ℕ → Forest → Forest
  node : ℕ → Forest → Forest → Forest

-- how many objects, templates included
unfoldable pub object_count : Forest → ℕ
object_count end = 0
object_count (leaf t v r) = 1 + object_count r
object_count (node t f r) = 1 + object_count f + object_count r

-- ---- parsing

-- an object at the front is next
abbrev pub next_in_template_of_front : Option TlvHeader → NextInTemplate
next_in_template_of_front None = Malformed
next_in_template_of_front (Some h) = Inner h

-- what is next, with so many more bytes before it
abbrev pub next_in_template_shifted : ℕ → NextInTemplate → NextInTemplate
next_in_template_shifted n End = End
next_in_template_shifted n Malformed = Malformed
next_in_template_shifted n (Inner h) = Inner (header_shifted n h)

-- what is next within a template's contents: a 00 where a tag would start is skipped, and its place counts
unfoldable pub next_in_template : List ℕ → NextInTemplate
next_in_template [] = End
next_in_template (b ∷ s) =
    when b =? 0 then next_in_template_shifted 1 (next_in_template s)
    else next_in_template_of_front (header_of (b ∷ s))

-- a run after a leaf, or after a node; malformed where any part is
unfoldable pub prepend_leaf : ℕ → List ℕ → Option Forest → Option Forest
prepend_leaf t v None = None
prepend_leaf t v (Some r) = Some (leaf t v r)

-- a run after a template, malformed where its contents or the run are
unfoldable pub prepend_node : ℕ → Option Forest → Option Forest → Option Forest
prepend_node t None r = None
prepend_node t (Some f) None = None
prepend_node t (Some f) (Some r) = Some (node t f r)

-- a template takes one of the levels still allowed; with none left it is malformed
abbrev pub forest_of_template_then_rest : (ℕ → List ℕ → Option Forest) → ℕ → ℕ → List ℕ → List ℕ → Option Forest
forest_of_template_then_rest k zero t v r = None
forest_of_template_then_rest k (suc l) t v r = prepend_node t (k l v) (k (suc l) r)

-- one object, and what k parses of its contents and of the bytes after it
abbrev pub forest_of_object_then_rest : (ℕ → List ℕ → Option Forest) → ℕ → List ℕ → NextInTemplate → Option Forest
forest_of_object_then_rest k levels s End = Some end
forest_of_object_then_rest k levels s Malformed = None
forest_of_object_then_rest k levels s (Inner h) =
    when h.template then forest_of_template_then_rest k levels h.tag (header_value s h) (behind_object s h)
    else prepend_leaf h.tag (header_value s h) (k levels (behind_object s h))

-- one step of the parse: the object that is next, and what k parses of the bytes in it and after it, by the levels
-- still allowed
abbrev pub parse_tree_step : (List ℕ → ℕ → Option Forest) → List ℕ → ℕ → Option Forest
parse_tree_step k s levels = forest_of_object_then_rest (λ l v. k v l) levels s (next_in_template s)

-- the objects of s, with templates nested at most `levels` deep, or none where s is malformed. An object's contents and
-- the bytes after it are shorter than its list, so the recursion ends by itself (`unroll`).
unfoldable pub parse_tree : ℕ → List ℕ → Option Forest
parse_tree levels s = recurse_with_fuel_from_length (λ l. None) parse_tree_step s levels

-- ---- what holds of it, proved in proofs/ (NextObject, Tree, Encoding) for all lists, levels and trees
--   next-fits       an object that is next starts its value at 2 or later and ends inside the list; its class is
--                   its tag's
--   next-end        nothing is next exactly where nothing but padding is left
--   next-join       with bytes after the list, the same object is next; where nothing is, what is next in those bytes
--   unroll          parse levels s ≡ oneObject parse levels s (nextOf s): the steps allowed do not matter
--   parse-end, parse-malformed, parse-deep, parse-node, parse-leaf    the parse at each thing that can be next
--   parse-join      the parse of two lists concatenated is their runs concatenated
--   parse-count     2 * count f ≤ length s, where s parses to f
--   parse-deeper    what parses at some levels parses to the same tree at more
--   zeros-in-front, zeros-behind, zeros-between    padding before, after a whole run, and between two whole runs
--                   changes nothing (specs/Padding)
--   parse-padded    an encodable tree's padded encodings parse to that tree, its shortest one too (parse-encode)
