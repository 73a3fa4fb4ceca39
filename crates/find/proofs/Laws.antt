-- The laws of finds and of the search. Finds concatenated make a monoid, with `Absent` as unit, that a shift keeps;
-- each object is shorter than its list, so the search unrolls, with one law for each thing that can be next.
-- Assumes nothing.
use mathlib.Core.Path.{◌≡◌, refl, ap, ap₂, ◌∙◌}
use mathlib.Core.Bool.{Bool, true, false}
use mathlib.Core.List.{List}
use Prim.Native.Nat.{ℕ, zero, suc, ◌+◌, ◌-◌, ◌<◌}
use native.Mathlib.Numerals.{sub-one}
use native.Mathlib.Omega.{arith}
use lib.Dec.{eqb}
use lib.ListN.{length}
use Rattle.basics.specs.Choice.{if}
use Rattle.basics.proofs.Laws.{if_yes, if_no}
use Rattle.basics.proofs.Recursion.{AsksShorter, recurse_unroll}
use Rattle.tlv.specs.declared.TlvHeader.{TlvHeader}
use Rattle.tlv.specs.declared.NextInTemplate.{NextInTemplate}
use Rattle.tlv.specs.declared.NextInTemplate.TheVariants as following
use Rattle.tlv.specs.Object.{header_value, behind_object}
use Rattle.tlv.specs.Tree.{next_in_template}
use Rattle.tlv.proofs.NextObject.{next_fits}
use Rattle.tlv.proofs.Tree.{shorter_value, shorter_behind}
use Rattle.find.specs.declared.TagFound.{TagFound}
use Rattle.find.specs.declared.TagFound.TheVariants.{At, Absent, Malformed}
use Rattle.find.specs.Find.{value_span, found_if_tag_matches, first_found_unless_malformed, found_shifted}
use Rattle.find.specs.Find.{found_if_header_tag, found_with_one_level_less}
use Rattle.find.specs.Find.{found_from_next_in_template, find_tag_step, find_tag_within_levels}

-- ---- finds, concatenated

pub first_absent : (a : TagFound) → first_found_unless_malformed a Absent ≡ a
unfolding first_found_unless_malformed
first_absent Malformed = refl
first_absent (At p) = refl
first_absent Absent = refl

pub absent_first : (a : TagFound) → first_found_unless_malformed Absent a ≡ a
unfolding first_found_unless_malformed
absent_first a = refl

pub first_malformed : (a : TagFound) → first_found_unless_malformed a Malformed ≡ Malformed
unfolding first_found_unless_malformed
first_malformed Malformed = refl
first_malformed (At p) = refl
first_malformed Absent = refl

pub malformed_first : (a : TagFound) → first_found_unless_malformed Malformed a ≡ Malformed
unfolding first_found_unless_malformed
malformed_first a = refl

pub first_assoc : (a b r : TagFound) → first_found_unless_malformed (first_found_unless_malformed a b) r
    ≡ first_found_unless_malformed a (first_found_unless_malformed b r)
unfolding first_found_unless_malformed
first_assoc Malformed b r = refl
first_assoc Absent b r = refl
first_assoc (At p) Malformed r = refl
first_assoc (At p) Absent r = refl
first_assoc (At p) (At q) Malformed = refl
first_assoc (At p) (At q) Absent = refl
first_assoc (At p) (At q) (At o) = refl

-- what was found before stays
pub first_kept : (f : TagFound) (same : Bool) (a n : ℕ) → (f ≡ Absent → same ≡ false)
    → f ≡ first_found_unless_malformed f (found_if_tag_matches same a n)
unfolding first_found_unless_malformed if
first_kept Malformed same a n e = refl
first_kept (At p) true a n e = refl
first_kept (At p) false a n e = refl
first_kept Absent same a n e = rw (e refl)

-- ---- shifted

pub shift_first : (n : ℕ) (a b : TagFound) → found_shifted n (first_found_unless_malformed a b) ≡ first_found_unless_malformed
    (found_shifted n a) (found_shifted n b)
unfolding first_found_unless_malformed found_shifted
shift_first n Malformed b = refl
shift_first n Absent b = refl
shift_first n (At p) Malformed = refl
shift_first n (At p) Absent = refl
shift_first n (At p) (At q) = refl

pub shift_shift : (n m : ℕ) (a : TagFound) → found_shifted n (found_shifted m a) ≡ found_shifted (n + m) a
unfolding found_shifted
shift_shift n m Malformed = refl
shift_shift n m Absent = refl
shift_shift n m (At p) = let e : n + (m + p.start) ≡ n + m + p.start = omega arith in
    ap (λ (k : ℕ). At (value_span k p.len)) e

pub shift_zero : (a : TagFound) → found_shifted 0 a ≡ a
unfolding found_shifted
shift_zero Malformed = refl
shift_zero Absent = refl
shift_zero (At p) = let e : 0 + p.start ≡ p.start = omega arith in ap (λ (k : ℕ). At (value_span k p.len)) e

pub shift_here : (n : ℕ) (same : Bool) (a k : ℕ) → found_shifted n (found_if_tag_matches same a k) ≡ found_if_tag_matches same
    (n + a) k
unfolding found_shifted if
shift_here n true a k = refl
shift_here n false a k = refl

pub shift_absent : (n : ℕ) → found_shifted n Absent ≡ Absent
unfolding found_shifted
shift_absent n = refl

pub shift_malformed : (n : ℕ) → found_shifted n Malformed ≡ Malformed
unfolding found_shifted
shift_malformed n = refl

-- ---- the steps allowed do not matter

abbrev Finder : Type 0
Finder = List ℕ → ℕ → TagFound

nested_same : (k k' : ℕ → TagFound) (l : ℕ) → ((m : ℕ) → k m ≡ k' m) → found_with_one_level_less k l ≡ found_with_one_level_less
    k' l
nested_same k k' zero p = refl
nested_same k k' (suc l) p = p l

from_same : (tag : ℕ) (k k' : Finder) (s : List ℕ) (l : ℕ)
    → ((v : List ℕ) → length v < length s → (m : ℕ) → k v m ≡ k' v m)
    → (x : NextInTemplate) → next_in_template s ≡ x → found_from_next_in_template tag k s l x ≡ found_from_next_in_template tag k'
    s l x
from_same tag k k' s l same following.End e = refl
from_same tag k k' s l same following.Malformed e = refl
from_same tag k k' s l same (following.Inner h) e =
    let f = next_fits s h e in
    ap (first_found_unless_malformed (found_if_header_tag tag h))
    (ap₂ first_found_unless_malformed
    (ap (λ (x : TagFound). if h.template (found_shifted h.start x) Absent)
    (nested_same (k (header_value s h)) (k' (header_value s h)) l (same (header_value s h) (shorter_value f))))
    (ap (found_shifted (h.start + h.len)) (same (behind_object s h) (shorter_behind f) l)))

next_same : (tag : ℕ) → AsksShorter (find_tag_step tag)
next_same tag k k' s same =
    λ i l. from_same tag k k' s l (λ v h m. ap (λ (p : ℕ → TagFound). p m) (same v h)) (next_in_template s) refl i

module _ (tag l : ℕ) (s : List ℕ) where
  pub unroll : find_tag_within_levels tag l s ≡ found_from_next_in_template tag (λ v m. find_tag_within_levels tag m v) s l
      (next_in_template s)
  unfolding find_tag_within_levels
  unroll = ap (λ (p : ℕ → TagFound). p l) (recurse_unroll (λ l. Malformed) (find_tag_step tag) (next_same tag) s)

  -- ---- one law for each thing that can be next

  at : (x : NextInTemplate) → next_in_template s ≡ x → find_tag_within_levels tag l s ≡ found_from_next_in_template tag
      (λ v m. find_tag_within_levels tag m v) s l x
  at x e = unroll ∙ ap (found_from_next_in_template tag (λ v m. find_tag_within_levels tag m v) s l) e

  pub found_end : next_in_template s ≡ following.End → find_tag_within_levels tag l s ≡ Absent
  found_end e = at following.End e

  pub found_malformed : next_in_template s ≡ following.Malformed → find_tag_within_levels tag l s ≡ Malformed
  found_malformed e = at following.Malformed e

  module _ (h : TlvHeader) (e : next_in_template s ≡ following.Inner h) where
    abbrev own : TagFound
    own = found_if_tag_matches (eqb h.tag tag) h.start h.len

    abbrev rest : TagFound
    rest = found_shifted (h.start + h.len) (find_tag_within_levels tag l (behind_object s h))

    -- a primitive object: itself, then what is after it
    pub found_leaf : h.template ≡ false → find_tag_within_levels tag l s ≡ first_found_unless_malformed own rest
    found_leaf t = at (following.Inner h) e ∙ ap
        (λ (x : TagFound). first_found_unless_malformed own (first_found_unless_malformed x rest)) (if_no _ _ t) ∙ ap
        (first_found_unless_malformed own) (absent_first rest)

    -- a template: itself, then what it holds with a level less, then what is after it
    pub found_node : h.template ≡ true → (l ≡ 0 → ⊥)
        → find_tag_within_levels tag l s ≡ first_found_unless_malformed own
        (first_found_unless_malformed (found_shifted h.start (find_tag_within_levels tag (l - 1) (header_value s h))) rest)
    found_node t n =
        at (following.Inner h) e
        ∙ ap (λ (x : TagFound). first_found_unless_malformed own (first_found_unless_malformed x rest))
        (if_yes _ _ t ∙ ap (found_shifted h.start) (nested_at l n))
      where
        nested_at : (m : ℕ) → (m ≡ 0 → ⊥) → found_with_one_level_less (λ m. find_tag_within_levels tag m (header_value s h)) m
            ≡ find_tag_within_levels tag (m - 1) (header_value s h)
        nested_at zero n = absurd (n refl)
        nested_at (suc m) n = rw (sub-one (suc m))

    -- a template with no level left
    pub found_deep : h.template ≡ true → l ≡ 0 → find_tag_within_levels tag l s ≡ Malformed
    found_deep t z =
        at (following.Inner h) e
        ∙ ap (λ (x : TagFound). first_found_unless_malformed own (first_found_unless_malformed x rest))
        (if_yes _ _ t ∙ ap (found_shifted h.start) (nested_deep l z) ∙ shift_malformed h.start)
        ∙ ap (first_found_unless_malformed own) (malformed_first rest) ∙ first_malformed own
      where
        nested_deep : (m : ℕ) → m ≡ 0 → found_with_one_level_less (λ m. find_tag_within_levels tag m (header_value s h)) m
            ≡ Malformed
        nested_deep zero z = refl
        nested_deep (suc m) z = absurd (omega arith)
