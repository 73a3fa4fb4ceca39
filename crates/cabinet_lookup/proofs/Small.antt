-- A value in a list of bytes has at most 65,535 of them, since a length has two bytes at most: of an object at the
-- front, then of the first object of a tag, by induction on the bytes.
-- Assumes nothing.
use Rattle.std.specs.Prelude.{Option, Some, None}
use Rattle.cabinet_lookup.specs.declared.LookupSpan.{LookupSpan}
use Rattle.tlv.specs.declared.TlvLength.{TlvLength}
use mathlib.Core.Path.{◌≡◌, refl}
use mathlib.Core.Logic.{inl, inr}
use mathlib.Core.List.{List}
use Prim.Native.Nat.{ℕ, ◌+◌, ◌<◌}
use native.Mathlib.Omega.{arith}
use lib.ListN.{length, drop}
use lib.Seq.{get_or-drop}
use Rattle.basics.proofs.Laws.{if_ind}
use Rattle.basics.proofs.Order.{equal_or_not}
use Rattle.basics.proofs.Recursion.{shorter_first}
use Rattle.tlv.specs.declared.Tag.{Tag}
use Rattle.tlv.specs.declared.TlvHeader.{TlvHeader}
use Rattle.tlv.specs.Tag.{tag_at}
use Rattle.tlv.specs.Length.{length_at}
use Rattle.tlv.specs.Object.{header_with_length, header_with_tag, header_of, behind_object}
use Rattle.tlv.specs.Primitives.{primitive_at_front}
use Rattle.tlv.proofs.Laws.{Bytes, length_small}
use Rattle.tlv.proofs.Primitives.{primitive_is, primitive_fits}
use Rattle.tlv.proofs.Tree.{shorter_behind}
use Rattle.cabinet_lookup.specs.Place.{lookup_shifted, lookup_first, span_by_site_or_defaults, span_in_site_then_defaults}
use Rattle.cabinet_lookup.proofs.Laws.{at_broken, at_here, at_behind}

bytes_drop : (n : ℕ) (s : List ℕ) → Bytes s → Bytes (drop n s)
bytes_drop n s b i = rw (get_or-drop n s i 0) (b (n + i))

-- ---- the object at the front

abbrev SmallFront : Option TlvHeader → Type 0
SmallFront None = Unit {0}
SmallFront (Some h) = h.len < 0x10000

with_length_small : (s : List ℕ) (t : Tag) → Bytes s
    → (x : Option TlvLength) → length_at (drop t.size s) ≡ x → SmallFront (header_with_length s t x)
with_length_small s t b None e = tt
with_length_small s t b (Some n) e =
    if_ind SmallFront _ _ _ (λ _. length_small (drop t.size s) n (bytes_drop t.size s b) e) (λ _. tt)

with_tag_small : (s : List ℕ) → Bytes s → (x : Option Tag) → SmallFront (header_with_tag s x)
with_tag_small s b None = tt
with_tag_small s b (Some t) = with_length_small s t b (length_at (drop t.size s)) refl

header_small : (s : List ℕ) (h : TlvHeader) → Bytes s → header_of s ≡ Some h → h.len < 0x10000
unfolding header_of
header_small s h b e = rw e at (with_tag_small s b (tag_at s))

-- ---- the first object of a tag

abbrev Small : Option LookupSpan → Type 0
Small None = Unit {0}
Small (Some p) = p.len < 0x10000

small_shifted : (n : ℕ) (r : Option LookupSpan) → Small r → Small (lookup_shifted n r)
unfolding lookup_shifted
small_shifted n None w = tt
small_shifted n (Some p) w = w

found_small : (tag : ℕ) (s : List ℕ) → Bytes s → Small (lookup_first tag s)
found_small tag = shorter_first (λ s. Bytes s → Small (lookup_first tag s)) step
  where
    step : (s : List ℕ) → ((v : List ℕ) → length v < length s → Bytes v → Small (lookup_first tag v))
        → Bytes s → Small (lookup_first tag s)
    step s ih b = go (primitive_at_front s) refl
      where
        go : (x : Option TlvHeader) → primitive_at_front s ≡ x → Small (lookup_first tag s)
        go None e = rw (at_broken tag s e) tt
        go (Some h) e = elim (equal_or_not h.tag tag) [
          | inl t ↦ rw (at_here tag s h e t) (header_small s h b (primitive_is s h e))
          | inr n ↦ rw (at_behind tag s h e n)
              (small_shifted (h.start + h.len) _
              (ih (behind_object s h) (shorter_behind (primitive_fits s h e)) (bytes_drop (h.start + h.len) s b)))
        ]

-- ---- both lists

small_both : (n : ℕ) (x y : Option LookupSpan) → Small x → Small y → (span_by_site_or_defaults n x y).len < 0x10000
unfolding span_by_site_or_defaults
small_both n (Some p) y f g = f
small_both n None (Some p) f g = g
small_both n None None f g = omega arith

pub place_small : (tag : ℕ) (site defaults : List ℕ) → Bytes site → Bytes defaults
    → (span_in_site_then_defaults tag site defaults).len < 0x10000
place_small tag site defaults b d =
    small_both (length site) (lookup_first tag site) (lookup_first tag defaults)
    (found_small tag site b) (found_small tag defaults d)
