-- What is found is what the tree says, by induction over shorter bytes: at each thing that can be next, parse and
-- search take the same parts, and a place found in a part is one of the whole, so many bytes further on.
-- Assumes nothing.
use Rattle.std.specs.Prelude.{Option, Some, None}
use mathlib.Core.Path.{◌≡◌, refl, sym, ap, subst, subst⁻¹, ◌∙◌}
use mathlib.Core.Bool.{Bool, true, false}
use mathlib.Core.Logic.{◌⊎◌, inl, inr}
use mathlib.Core.List.{List}
use Prim.Native.Nat.{ℕ, zero, suc, ◌+◌, ◌-◌, ◌≤◌, ◌<◌}
use native.Mathlib.Omega.{arith}
use lib.Dec.{leb, eqb}
use lib.ListN.{length, take, drop, length-take, length-drop}
use lib.Seq.{take-take, drop-drop}
use borrow.Author.Tests.{leb-true, le-leb, lt-leb}
use Rattle.basics.specs.Choice.{if}
use Rattle.basics.proofs.Laws.{if_yes, if_no, bool_cases}
use Rattle.basics.proofs.Recursion.{shorter_first}
use Rattle.tlv.specs.declared.TlvHeader.{TlvHeader}
use Rattle.tlv.specs.declared.NextInTemplate.{NextInTemplate}
use Rattle.tlv.specs.declared.NextInTemplate.TheVariants as following
use Rattle.tlv.specs.Object.{header_value, behind_object}
use Rattle.tlv.specs.Tree.{Forest, end, next_in_template, prepend_leaf, prepend_node, parse_tree}
use Rattle.tlv.proofs.Laws.{HeaderFits}
use Rattle.tlv.proofs.NextObject.{next_fits}
use Rattle.tlv.proofs.Tree.{shorter_value, shorter_behind, parse_end, parse_malformed, parse_deep, parse_node}
use Rattle.tlv.proofs.Tree.{parse_leaf, parse_deeper}
use Rattle.find.specs.declared.ValueSpan.{ValueSpan}
use Rattle.find.specs.declared.TagFound.{TagFound}
use Rattle.find.specs.declared.TagFound.TheVariants.{At, Absent, Malformed}
use Rattle.find.specs.Find.{value_span, found_if_tag_matches, first_found_unless_malformed, found_shifted}
use Rattle.find.specs.Find.{find_tag_within_levels, find_tag}
use Rattle.find.specs.InTree.{tree_of_card_bytes, TreeValue, primitive, template, tree_value_or, first_value_of_tag_in_tree}
use Rattle.find.specs.InTree.{BytesAreTreeValue, TreeValueAtSpan, TagFoundMatchesValue, TagFoundMatchesTree}
use Rattle.find.specs.Word.{find_word}
use Rattle.find.specs.Inner.{FoundSpanWithin65535Bytes}
use Rattle.find.proofs.Laws.{absent_first, first_malformed, malformed_first, first_assoc, shift_absent}
use Rattle.find.proofs.Laws.{shift_malformed, found_end, found_malformed, found_leaf, found_node, found_deep}
use Rattle.find.proofs.Steps.{drop-take}

-- ---- a place in a part is a place in the whole

stands_behind : (s : List ℕ) (n : ℕ) (v : TreeValue) (p : ValueSpan) → n ≤ length s → TreeValueAtSpan (drop n s) v p
    → TreeValueAtSpan s v (value_span (n + p.start) p.len)
stands_behind s n v p l st =
    let i = simp length-drop at st.inside in
    record {
      inside = omega arith;
      value = subst (λ (b : List ℕ). BytesAreTreeValue v (take p.len b))
          (drop-drop p.start n s) st.value;
    }

stands_value : (s : List ℕ) (a n : ℕ) (v : TreeValue) (p : ValueSpan) → a + n ≤ length s
    → TreeValueAtSpan (take n (drop a s)) v p → TreeValueAtSpan s v (value_span (a + p.start) p.len)
stands_value s a n v p l st =
    let i = simp (length-take, length-drop) at st.inside in
    let m : p.len ≤ n - p.start = omega arith in
    let e : take p.len (drop p.start (take n (drop a s))) ≡ take p.len (drop (a + p.start) s)
    = ap (take p.len) (drop-take p.start n (drop a s)) ∙ take-take p.len (n - p.start)
    (drop p.start (drop a s)) m
    ∙ ap (take p.len) (drop-drop p.start a s) in
    record { inside = omega arith; value = subst (BytesAreTreeValue v) e st.value }

module _ (b s : List ℕ) (n : ℕ) (further : (v : TreeValue) (p : ValueSpan) → TreeValueAtSpan b v p
    → TreeValueAtSpan s v (value_span (n + p.start) p.len)) where
  finds_further : (z : Option TreeValue) (y : TagFound) → TagFoundMatchesValue b z y
      → TagFoundMatchesValue s z (found_shifted n y)
  unfolding found_shifted
  finds_further None y f = ap (found_shifted n) f
  finds_further (Some v) y f =
      (value_span (n + f.0.start) f.0.len, (ap (found_shifted n) f.1.0, further v f.0 f.1.1))

  -- bytes that have a tree take nothing from an earlier find
  earlier : (p : ValueSpan) (z : Option TreeValue) (y : TagFound) → TagFoundMatchesValue b z y
      → first_found_unless_malformed (At p) (found_shifted n y) ≡ At p
  unfolding first_found_unless_malformed found_shifted
  earlier p None y f = ap (λ (x : TagFound). first_found_unless_malformed (At p) (found_shifted n x)) f
  earlier p (Some v) y f = ap (λ (x : TagFound). first_found_unless_malformed (At p) (found_shifted n x)) f.1.0

-- ---- one object and what is after it

module _ (tag : ℕ) (s : List ℕ) (h : TlvHeader) (fits : HeaderFits s h) where
  abbrev own : TagFound
  own = found_if_tag_matches (eqb h.tag tag) h.start h.len

  abbrev stop : ℕ
  stop = h.start + h.len

  abbrev later : (v : TreeValue) (p : ValueSpan) → TreeValueAtSpan (behind_object s h) v p
      → TreeValueAtSpan s v (value_span (stop + p.start) p.len)
  later v p st = stands_behind s stop v p fits.inside st

  abbrev within : (v : TreeValue) (p : ValueSpan) → TreeValueAtSpan (header_value s h) v p
      → TreeValueAtSpan s v (value_span (h.start + p.start) p.len)
  within v p st = stands_value s h.start h.len v p fits.inside st

  stands_own : (v : TreeValue) → BytesAreTreeValue v (header_value s h)
      → TreeValueAtSpan s v (value_span h.start h.len)
  stands_own v e = record { inside = fits.inside; value = e }

  leaf_finds : (z : Option TreeValue) (y : TagFound) → TagFoundMatchesValue (behind_object s h) z y
      → TagFoundMatchesValue s (if (eqb h.tag tag) (Some (primitive (header_value s h))) z)
      (first_found_unless_malformed own (found_shifted stop y))
  unfolding if
  leaf_finds z y f = by (eqb h.tag tag)
    where
      by : (t : Bool) → TagFoundMatchesValue s (if t (Some (primitive (header_value s h))) z)
          (first_found_unless_malformed (found_if_tag_matches t h.start h.len) (found_shifted stop y))
      by true = (
        value_span h.start h.len,
        (
          earlier (behind_object s h) s stop later _ z y f,
          stands_own
              (primitive (header_value s h)) refl,
        ),
      )
      by false = subst⁻¹ (TagFoundMatchesValue s z) (absent_first (found_shifted stop y))
          (finds_further (behind_object s h) s stop later z y f)

  leaf_told : (x : Option Forest) (y : TagFound) → TagFoundMatchesTree tag (behind_object s h) x y
      → TagFoundMatchesTree tag s (prepend_leaf h.tag (header_value s h) x)
      (first_found_unless_malformed own (found_shifted stop y))
  unfolding prepend_leaf first_value_of_tag_in_tree
  leaf_told None y f = ap (λ (r : TagFound). first_found_unless_malformed own (found_shifted stop r)) f ∙ ap
      (first_found_unless_malformed own) (shift_malformed stop) ∙ first_malformed own
  leaf_told (Some r) y f = leaf_finds (first_value_of_tag_in_tree tag r) y f

  -- what a template holds, and what is after it
  abbrev both : TagFound → TagFound → TagFound
  both i y = first_found_unless_malformed (found_shifted h.start i) (found_shifted stop y)

  join_finds : (x z : Option TreeValue) (i y : TagFound) → TagFoundMatchesValue (header_value s h) x i
      → TagFoundMatchesValue (behind_object s h) z y → TagFoundMatchesValue s (tree_value_or x z) (both i y)
  unfolding tree_value_or
  join_finds None z i y g f =
      let e : both i y ≡ found_shifted stop y = ap (λ (r : TagFound). both r y) g ∙ ap
      (λ (r : TagFound). first_found_unless_malformed r (found_shifted stop y)) (shift_absent h.start) ∙ absent_first _
      in
      subst⁻¹ (TagFoundMatchesValue s z) e (finds_further (behind_object s h) s stop later z y f)
  join_finds (Some v) z i y g f =
      let d = finds_further (header_value s h) s h.start within (Some v) i g in (
        d.0,
        (
          ap (λ (r : TagFound). first_found_unless_malformed r (found_shifted stop y)) d.1.0 ∙ earlier
              (behind_object s h) s stop later d.0 z y f,
          d.1.1,
        ),
      )

  node_finds : (f : Forest) (x z : Option TreeValue) (i y : TagFound) → BytesAreTreeValue (template f) (header_value s h)
      → TagFoundMatchesValue (header_value s h) x i → TagFoundMatchesValue (behind_object s h) z y
      → TagFoundMatchesValue s (if (eqb h.tag tag) (Some (template f)) (tree_value_or x z))
      (first_found_unless_malformed own (both i y))
  unfolding if
  node_finds f x z i y v g e = by (eqb h.tag tag)
    where
      by : (t : Bool) → TagFoundMatchesValue s (if t (Some (template f)) (tree_value_or x z))
          (first_found_unless_malformed (found_if_tag_matches t h.start h.len) (both i y))
      by true =
          let p = value_span h.start h.len in
          let q : first_found_unless_malformed (At p) (both i y) ≡ At p
          = sym (first_assoc (At p) (found_shifted h.start i) (found_shifted stop y))
          ∙ ap (λ (r : TagFound). first_found_unless_malformed r (found_shifted stop y))
          (earlier (header_value s h) s h.start within p x i g)
          ∙ earlier (behind_object s h) s stop later p z y e in
          (p, (q, stands_own (template f) v))
      by false = subst⁻¹ (TagFoundMatchesValue s (tree_value_or x z)) (absent_first (both i y)) (join_finds x z i y g e)

  node_told : (x z : Option Forest) (i y : TagFound)
      → ((f : Forest) → x ≡ Some f → parse_tree 3 (header_value s h) ≡ Some f)
      → TagFoundMatchesTree tag (header_value s h) x i → TagFoundMatchesTree tag (behind_object s h) z y
      → TagFoundMatchesTree tag s (prepend_node h.tag x z) (first_found_unless_malformed own (both i y))
  unfolding prepend_node first_value_of_tag_in_tree
  node_told None z i y v g e =
      ap (λ (r : TagFound). first_found_unless_malformed own (both r y)) g
      ∙ ap (λ (r : TagFound). first_found_unless_malformed own (first_found_unless_malformed r (found_shifted stop y)))
      (shift_malformed h.start)
      ∙ ap (first_found_unless_malformed own) (malformed_first (found_shifted stop y)) ∙ first_malformed own
  node_told (Some f) None i y v g e =
      ap (λ (r : TagFound). first_found_unless_malformed own (both i r)) e
      ∙ ap (λ (r : TagFound). first_found_unless_malformed own (first_found_unless_malformed (found_shifted h.start i) r))
      (shift_malformed stop)
      ∙ ap (first_found_unless_malformed own) (first_malformed (found_shifted h.start i)) ∙ first_malformed own
  node_told (Some f) (Some r) i y v g e = node_finds f (first_value_of_tag_in_tree tag f) (first_value_of_tag_in_tree tag r) i y
      (v f refl) g e

-- ---- all of the bytes

module _ (tag : ℕ) where
  TellsAll : List ℕ → Type 0
  TellsAll s = (l : ℕ) → l ≤ 4 → TagFoundMatchesTree tag s (parse_tree l s) (find_tag_within_levels tag l s)

  module _ (s : List ℕ) (before : (v : List ℕ) → length v < length s → TellsAll v) (l : ℕ) (four : l ≤ 4) where
    by_both : (x : Option Forest) (r : TagFound) → parse_tree l s ≡ x → find_tag_within_levels tag l s ≡ r
        → TagFoundMatchesTree tag s x r → TagFoundMatchesTree tag s (parse_tree l s) (find_tag_within_levels tag l s)
    by_both x r p q t = subst⁻¹ (λ (z : Option Forest). TagFoundMatchesTree tag s z (find_tag_within_levels tag l s)) p
        (subst⁻¹ (TagFoundMatchesTree tag s x) q t)

    zero_cases : (n : ℕ) → (n ≡ 0) ⊎ (n ≡ 0 → ⊥)
    zero_cases zero = inl refl
    zero_cases (suc n) = inr (λ z. omega arith)

    of_next : (x : NextInTemplate) → next_in_template s ≡ x
        → TagFoundMatchesTree tag s (parse_tree l s) (find_tag_within_levels tag l s)
    unfolding TellsAll first_value_of_tag_in_tree
    of_next following.End e = by_both (Some end) Absent (parse_end l s e) (found_end tag l s e) refl
    of_next following.Malformed e = by_both None Malformed (parse_malformed l s e) (found_malformed tag l s e) refl
    of_next (following.Inner h) e =
        let f = next_fits s h e in
        let b = before (behind_object s h) (shorter_behind f) l four in
        elim (bool_cases h.template) [
          | inl t ↦ elim (zero_cases l) [
            | inl z ↦ by_both None Malformed (parse_deep l s h e t z) (found_deep tag l s h e t z) refl
            | inr n ↦ by_both _ _ (parse_node l s h e t n) (found_node tag l s h e t n)
                (node_told tag s h f _ _ _ _ (λ g p. parse_deeper (l - 1) 3 (header_value s h) g p (omega arith))
                (before (header_value s h) (shorter_value f) (l - 1) (omega arith)) b)
          ]
          | inr t ↦ by_both _ _ (parse_leaf l s h e t) (found_leaf tag l s h e t) (leaf_told tag s h f _ _ b)
        ]

  told : (s : List ℕ) → TagFoundMatchesTree tag s (parse_tree 4 s) (find_tag_within_levels tag 4 s)
  unfolding TellsAll
  told s = shorter_first TellsAll (λ s before l four. of_next s before l four (next_in_template s) refl) s 4 (omega arith)

  told_all : (s : List ℕ) → TagFoundMatchesTree tag s (tree_of_card_bytes s) (find_tag tag s)
  unfolding find_tag if
  told_all s = by (leb (length s) 65535)
    where
      by : (t : Bool) → TagFoundMatchesTree tag s (if t (parse_tree 4 s) None)
          (if t (find_tag_within_levels tag 4 s) Malformed)
      by true = told s
      by false = refl

  -- ---- a place that is found lies within 65,535 bytes

  inside : (s : List ℕ) (x : Option Forest) (r : TagFound) → length s ≤ 65535 → TagFoundMatchesTree tag s x r
      → FoundSpanWithin65535Bytes r
  inside s None r l t = subst⁻¹ FoundSpanWithin65535Bytes t tt
  inside s (Some f) r l t = found_inside (first_value_of_tag_in_tree tag f) t
    where
      found_inside : (z : Option TreeValue) → TagFoundMatchesValue s z r → FoundSpanWithin65535Bytes r
      found_inside None t = subst⁻¹ FoundSpanWithin65535Bytes t tt
      found_inside (Some v) t = subst⁻¹ FoundSpanWithin65535Bytes t.1.0 (let i = t.1.1.inside in omega arith)

  pub find_inside : (s : List ℕ) → FoundSpanWithin65535Bytes (find_tag tag s)
  unfolding find_tag if
  find_inside s = by (leb (length s) 65535) refl
    where
      by : (t : Bool) → leb (length s) 65535 ≡ t
          → FoundSpanWithin65535Bytes (if t (find_tag_within_levels tag 4 s) Malformed)
      by true e = inside s (parse_tree 4 s) (find_tag_within_levels tag 4 s) (leb-true _ _ e) (told s)
      by false e = tt

  pub place_word : (s : List ℕ) (p : ValueSpan) → find_tag tag s ≡ At p → find_word (find_tag tag s) < 0x1000000000000
  place_word s p e =
      let i = subst FoundSpanWithin65535Bytes e (find_inside s) in
      subst⁻¹ (λ (r : TagFound). find_word r < 0x1000000000000) e (omega arith)

  -- ---- as the code has it: too many bytes, and what the walk gave

  pub find_long : (s : List ℕ) → 65535 < length s → Malformed ≡ find_tag tag s
  unfolding find_tag
  find_long s l = sym (if_no _ _ (lt-leb (length s) 65535 l))

  pub find_walked : (s : List ℕ) (r : TagFound) → length s ≤ 65535 → r ≡ find_tag_within_levels tag 4 s → r ≡ find_tag tag s
  unfolding find_tag
  find_walked s r l e = e ∙ sym (if_yes _ _ (le-leb (length s) 65535 l))

  pub with_tree : (s : List ℕ) (r : TagFound) → r ≡ find_tag tag s → (r ≡ find_tag tag s) × TagFoundMatchesTree tag s
      (tree_of_card_bytes s) r
  with_tree s r e = (e, subst⁻¹ (TagFoundMatchesTree tag s (tree_of_card_bytes s)) e (told_all s))
