-- The laws of the lookup. An object is shorter than its list, so both recursions end by themselves (`held_unroll`,
-- `place_unroll`) and go the same way: by induction on the bytes a place has the value of the first object (`stands`),
-- in one list and then in both (`value_at`).
-- Assumes nothing.
use Rattle.std.specs.Prelude.{Some, None, Option}
use mathlib.Core.Path.{◌≡◌, refl, sym, ap, ap₂, ◌∙◌}
use mathlib.Core.Logic.{inl, inr}
use mathlib.Core.List.{List, [], ◌++◌}
use Prim.Native.Nat.{ℕ, ◌+◌, ◌-◌, ◌*◌, ◌≤◌, ◌<◌}
use native.Mathlib.Omega.{arith}
use lib.Dec.{eqb}
use lib.ListN.{length, take, drop, length-drop}
use lib.Seq.{drop-drop, take-append-le, drop-append-le, drop-append-add}
use borrow.Author.Tests.{eq-eqb, ne_eqb, le-leb, lt-leb}
use Rattle.basics.specs.Choice.{if}
use Rattle.basics.proofs.Laws.{if_yes, if_no}
use Rattle.basics.proofs.Order.{equal_or_not}
use Rattle.basics.proofs.Recursion.{AsksShorter, recurse_unroll, shorter_first}
use Rattle.tlv.specs.declared.TlvHeader.{TlvHeader}
use Rattle.tlv.specs.Object.{header_value, behind_object}
use Rattle.tlv.specs.Primitives.{primitive_at_front}
use Rattle.tlv.proofs.Laws.{tail, tail-is}
use Rattle.tlv.proofs.Primitives.{primitive_fits, leading_unroll}
use Rattle.tlv.proofs.Tree.{shorter_behind}
use Rattle.cabinet_lookup.specs.declared.LookupSpan.{LookupSpan}
use Rattle.cabinet_lookup.specs.Value.{objects_from_front, leading_primitive_objects_step, leading_primitive_objects}
use Rattle.cabinet_lookup.specs.Value.{first_value_of_tag, value_or_default, lookup_value}
use Rattle.cabinet_lookup.specs.Place.{lookup_span, span_bytes, lookup_shifted, lookup_at_front, lookup_step}
use Rattle.cabinet_lookup.specs.Place.{lookup_first, span_by_site_or_defaults, span_in_site_then_defaults}
use Rattle.cabinet_lookup.specs.Address.{address_after, address_in_site_or_defaults}
use Rattle.cabinet_lookup.specs.Word.{source_nowhere, source_site, source_defaults, source_by_values, lookup_source}
use Rattle.cabinet_lookup.specs.Word.{lookup_word_of_span, lookup_word}

-- ---- the recursions end by themselves

pub held_unroll : (s : List ℕ) → leading_primitive_objects s ≡ leading_primitive_objects_step leading_primitive_objects s
held_unroll = leading_unroll

place_same : (tag : ℕ) → AsksShorter (lookup_step tag)
place_same tag k k' s same = go (primitive_at_front s) refl
  where
    go : (x : Option TlvHeader) → primitive_at_front s ≡ x → lookup_at_front tag k s x ≡ lookup_at_front tag k' s x
    go None e = refl
    go (Some h) e =
        ap (λ (r : Option LookupSpan). if (eqb h.tag tag) (Some (lookup_span h.start h.len))
        (lookup_shifted (h.start + h.len) r))
        (same (behind_object s h) (shorter_behind (primitive_fits s h e)))

module _ (tag : ℕ) where
  pub place_unroll : (s : List ℕ) → lookup_first tag s ≡ lookup_step tag (lookup_first tag) s
  unfolding lookup_first
  place_unroll s = recurse_unroll None (lookup_step tag) (place_same tag) s

  -- ---- one law for each way out of a step

  module _ (s : List ℕ) where
    pub at_broken : primitive_at_front s ≡ None → lookup_first tag s ≡ None
    at_broken e = place_unroll s ∙ ap (lookup_at_front tag (lookup_first tag) s) e

    value_broken : primitive_at_front s ≡ None → first_value_of_tag tag (leading_primitive_objects s) ≡ None
    unfolding first_value_of_tag
    value_broken e = ap (first_value_of_tag tag) (held_unroll s ∙ ap (objects_from_front leading_primitive_objects s) e)

    module _ (h : TlvHeader) (e : primitive_at_front s ≡ Some h) where
      at_object : lookup_first tag s ≡ lookup_at_front tag (lookup_first tag) s (Some h)
      at_object = place_unroll s ∙ ap (lookup_at_front tag (lookup_first tag) s) e

      pub at_here : h.tag ≡ tag → lookup_first tag s ≡ Some (lookup_span h.start h.len)
      at_here t = at_object ∙ if_yes _ _ (eq-eqb h.tag tag t)

      pub at_behind : (h.tag ≡ tag → ⊥) → lookup_first tag s ≡ lookup_shifted (h.start + h.len)
          (lookup_first tag (behind_object s h))
      at_behind n = at_object ∙ if_no _ _ (ne_eqb h.tag tag n)

      value_object : first_value_of_tag tag (leading_primitive_objects s) ≡ if (eqb h.tag tag) (Some (header_value s h))
          (first_value_of_tag tag (leading_primitive_objects (behind_object s h)))
      unfolding first_value_of_tag
      value_object = ap (first_value_of_tag tag) (held_unroll s ∙ ap (objects_from_front leading_primitive_objects s) e)

      value_here : h.tag ≡ tag → first_value_of_tag tag (leading_primitive_objects s) ≡ Some (header_value s h)
      value_here t = value_object ∙ if_yes _ _ (eq-eqb h.tag tag t)

      value_behind : (h.tag ≡ tag → ⊥) → first_value_of_tag tag (leading_primitive_objects s) ≡ first_value_of_tag tag
          (leading_primitive_objects (behind_object s h))
      value_behind n = value_object ∙ if_no _ _ (ne_eqb h.tag tag n)

-- ---- a place has the value of the first object

-- what is found of a value
abbrev pub Stands : List ℕ → Option LookupSpan → Option (List ℕ) → Type 0
Stands s None v = v ≡ None
Stands s (Some p) v = (p.start + p.len ≤ length s) × (v ≡ Some (span_bytes s p))

stands_behind : (s : List ℕ) (n : ℕ) (r : Option LookupSpan) (v : Option (List ℕ)) → n ≤ length s → Stands (drop n s) r v
    → Stands s (lookup_shifted n r) v
unfolding lookup_shifted
stands_behind s n None v h w = w
stands_behind s n (Some p) v h w = (
  let l = length-drop n s in omega arith,
  w.1 ∙ ap (λ (t : List ℕ). Some (take p.len t)) (drop-drop p.start n s),
)

pub stands : (tag : ℕ) (s : List ℕ) → Stands s (lookup_first tag s) (first_value_of_tag tag (leading_primitive_objects s))
stands tag = shorter_first (λ s. Stands s (lookup_first tag s) (first_value_of_tag tag (leading_primitive_objects s))) step
  where
    step : (s : List ℕ)
        → ((v : List ℕ) → length v < length s
        → Stands v (lookup_first tag v) (first_value_of_tag tag (leading_primitive_objects v)))
        → Stands s (lookup_first tag s) (first_value_of_tag tag (leading_primitive_objects s))
    step s ih = go (primitive_at_front s) refl
      where
        go : (x : Option TlvHeader) → primitive_at_front s ≡ x
            → Stands s (lookup_first tag s) (first_value_of_tag tag (leading_primitive_objects s))
        go None e = rw (at_broken tag s e) (value_broken tag s e)
        go (Some h) e =
            let f = primitive_fits s h e in
            elim (equal_or_not h.tag tag) [
              | inl t ↦ rw (at_here tag s h e t, value_here tag s h e t) (f.inside, refl)
              | inr n ↦ rw (at_behind tag s h e n, value_behind tag s h e n)
                  (stands_behind s (h.start + h.len) _ _ f.inside (ih (behind_object s h) (shorter_behind f)))
            ]

-- ---- both lists

module _ (site defaults : List ℕ) where
  value_both : (x y : Option LookupSpan) (v w : Option (List ℕ)) → Stands site x v → Stands defaults y w
      → span_bytes (site ++ defaults) (span_by_site_or_defaults (length site) x y) ≡ value_or_default v (value_or_default w [])
  unfolding span_by_site_or_defaults value_or_default
  value_both (Some p) y v w f g =
      rw (f.1, drop-append-le p.start site defaults (omega arith))
      (take-append-le p.len (drop p.start site) defaults (let l = length-drop p.start site in omega arith))
  value_both None (Some p) v w f g = rw (f, g.1, drop-append-add site defaults p.start)
  value_both None None v w f g = rw (f, g)

  inside_both : (x y : Option LookupSpan) (v w : Option (List ℕ)) → Stands site x v → Stands defaults y w
      → (span_by_site_or_defaults (length site) x y).start + (span_by_site_or_defaults (length site) x y).len ≤ length site
      + length defaults
  unfolding span_by_site_or_defaults
  inside_both (Some p) y v w f g = omega arith
  inside_both None (Some p) v w f g = omega arith
  inside_both None None v w f g = omega arith

  -- the bytes at the place are the value
  pub value_at : (tag : ℕ) → span_bytes (site ++ defaults) (span_in_site_then_defaults tag site defaults) ≡ lookup_value tag
      site defaults
  value_at tag = value_both (lookup_first tag site) (lookup_first tag defaults) _ _ (stands tag site)
      (stands tag defaults)

  -- the place lies inside both lists
  pub place_inside : (tag : ℕ) (p : LookupSpan) → p ≡ span_in_site_then_defaults tag site defaults
      → p.start + p.len ≤ length site + length defaults
  place_inside tag p e = rw e (inside_both (lookup_first tag site) (lookup_first tag defaults) _ _ (stands tag site)
      (stands tag defaults))

-- ---- by what is found in each list

-- a value that is found lies inside its list
pub found_inside : (tag : ℕ) (s : List ℕ) (p : LookupSpan) → lookup_first tag s ≡ Some p → p.start + p.len ≤ length s
found_inside tag s p e = (rw e at (stands tag s)).0

module _ (tag : ℕ) (site defaults : List ℕ) where
  -- these bytes are the value, and they are those at the place
  abbrev pub Handed : List ℕ → Type 0
  Handed v = (v ≡ lookup_value tag site defaults)
      × (v ≡ span_bytes (site ++ defaults) (span_in_site_then_defaults tag site defaults))

  handed : (v : List ℕ) → v ≡ lookup_value tag site defaults → Handed v
  handed v e = (e, e ∙ sym (value_at site defaults tag))

  module _ (p : LookupSpan) (e : lookup_first tag site ≡ Some p) where
    pub site_place : span_in_site_then_defaults tag site defaults ≡ p
    unfolding span_by_site_or_defaults
    site_place = ap (λ (x : Option LookupSpan). span_by_site_or_defaults (length site) x (lookup_first tag defaults)) e

    pub site_part : Handed (span_bytes site p)
    unfolding value_or_default
    site_part =
        let v : first_value_of_tag tag (leading_primitive_objects site) ≡ Some (span_bytes site p) =
        (rw e at (stands tag site)).1 in
        handed _
        (sym
        (ap
        (λ (x : Option (List ℕ)). value_or_default x
        (value_or_default (first_value_of_tag tag (leading_primitive_objects defaults)) [])) v))

  module _ (n : lookup_first tag site ≡ None) where
    nothing : lookup_value tag site defaults ≡ value_or_default (first_value_of_tag tag (leading_primitive_objects defaults)) []
    unfolding value_or_default
    nothing =
        let v : first_value_of_tag tag (leading_primitive_objects site) ≡ None = rw n at (stands tag site) in
        ap
        (λ (x : Option (List ℕ)). value_or_default x
        (value_or_default (first_value_of_tag tag (leading_primitive_objects defaults)) [])) v

    module _ (p : LookupSpan) (e : lookup_first tag defaults ≡ Some p) where
      pub default_place : span_in_site_then_defaults tag site defaults ≡ lookup_span (length site + p.start) p.len
      unfolding span_by_site_or_defaults
      default_place = rw (n, e)

      pub default_part : Handed (span_bytes defaults p)
      unfolding value_or_default
      default_part =
          let v : first_value_of_tag tag (leading_primitive_objects defaults) ≡ Some (span_bytes defaults p) =
          (rw e at (stands tag defaults)).1 in
          handed _
          (sym (nothing ∙ ap (λ (x : Option (List ℕ)). value_or_default x []) v))

    module _ (e : lookup_first tag defaults ≡ None) where
      pub no_place : span_in_site_then_defaults tag site defaults ≡ lookup_span (length site) 0
      unfolding span_by_site_or_defaults
      no_place = rw (n, e)

      pub no_part : Handed []
      unfolding value_or_default
      no_part =
          let v : first_value_of_tag tag (leading_primitive_objects defaults) ≡ None = rw e at (stands tag defaults) in
          handed _ (sym (nothing ∙ ap (λ (x : Option (List ℕ)). value_or_default x []) v))

-- ---- the address, by what is found in each list

module _ (s d : ℕ × ℕ) (x y : Option LookupSpan) where
  pub site_address : (p : LookupSpan) → x ≡ Some p → address_after p.start s ≡ address_in_site_or_defaults s d x y
  unfolding address_in_site_or_defaults
  site_address p e = sym (ap (λ (r : Option LookupSpan). address_in_site_or_defaults s d r y) e)

  module _ (n : x ≡ None) where
    pub default_address : (p : LookupSpan) → y ≡ Some p → address_after p.start d ≡ address_in_site_or_defaults s d x y
    unfolding address_in_site_or_defaults
    default_address p e = rw (n, e)

    pub no_address : y ≡ None → address_after 0 d ≡ address_in_site_or_defaults s d x y
    unfolding address_in_site_or_defaults
    no_address e = rw (n, e)

-- ---- a walk over one list, as the code makes it: `at` is where the rest begins

shifted_zero : (r : Option LookupSpan) → lookup_shifted 0 r ≡ r
unfolding lookup_shifted
shifted_zero None = refl
shifted_zero (Some p) = let z : 0 + p.start ≡ p.start = omega arith in ap (λ (k : ℕ). Some (lookup_span k p.len)) z

shifted_twice : (m n : ℕ) (r : Option LookupSpan) → lookup_shifted m (lookup_shifted n r) ≡ lookup_shifted (m + n) r
unfolding lookup_shifted
shifted_twice m n None = refl
shifted_twice m n (Some p) =
    let z : m + (n + p.start) ≡ m + n + p.start = omega arith in ap (λ (k : ℕ). Some (lookup_span k p.len)) z

module _ (tag : ℕ) (bytes : List ℕ) where
  -- none of the objects before the rest has the tag
  pub record Reached (at : ℕ) : Type 0 where
    pub inside : at ≤ length bytes
    pub is : lookup_first tag bytes ≡ lookup_shifted at (lookup_first tag (tail bytes at))

  pub begin : Reached 0
  begin = record { inside = omega arith; is = sym (shifted_zero _ ∙ ap (lookup_first tag) (tail-is bytes 0)) }

  module _ {at : ℕ} (w : Reached at) where
    pub stopped : primitive_at_front (tail bytes at) ≡ None → lookup_first tag bytes ≡ None
    unfolding lookup_shifted
    stopped e = w.is ∙ ap (lookup_shifted at) (at_broken tag _ e)

    module _ (h : TlvHeader) (e : primitive_at_front (tail bytes at) ≡ Some h) where
      pub bounds : (2 ≤ h.start) × (at + h.start + h.len ≤ length bytes)
      bounds =
          let f = primitive_fits _ _ e in
          let l : length (tail bytes at) ≡ length bytes - at = ap length (tail-is bytes at) ∙ length-drop at bytes in
          let i = w.inside in
          (f.two, omega arith)

      pub met : h.tag ≡ tag → lookup_first tag bytes ≡ Some (lookup_span (at + h.start) h.len)
      unfolding lookup_shifted
      met t = w.is ∙ ap (lookup_shifted at) (at_here tag _ h e t)

      rest : behind_object (tail bytes at) h ≡ tail bytes (at + h.start + h.len)
      rest =
          let z : at + (h.start + h.len) ≡ at + h.start + h.len = omega arith in
          ap (drop (h.start + h.len)) (tail-is bytes at) ∙ drop-drop (h.start + h.len) at bytes
          ∙ ap (λ (k : ℕ). drop k bytes) z ∙ sym (tail-is bytes (at + h.start + h.len))

      pub passed : (h.tag ≡ tag → ⊥) → Reached (at + h.start + h.len)
      passed n =
          let z : at + (h.start + h.len) ≡ at + h.start + h.len = omega arith in
          record {
            inside = bounds.1;
            is = w.is ∙ ap (lookup_shifted at) (at_behind tag _ h e n) ∙ shifted_twice at (h.start + h.len) _
                ∙ ap (λ (k : ℕ). lookup_shifted k (lookup_first tag (behind_object (tail bytes at) h))) z
                ∙ ap (λ (s : List ℕ). lookup_shifted (at + h.start + h.len) (lookup_first tag s)) rest;
          }

-- ---- the source of the value, by what is found in each list

module _ (tag : ℕ) (site defaults : List ℕ) where
  source_by : (v w : Option (List ℕ)) → first_value_of_tag tag (leading_primitive_objects site) ≡ v
      → first_value_of_tag tag (leading_primitive_objects defaults) ≡ w
      → lookup_source tag site defaults ≡ source_by_values v w
  source_by v w e f = ap₂ source_by_values e f

  pub source_site_lem : (p : LookupSpan) → lookup_first tag site ≡ Some p → lookup_source tag site defaults ≡ source_site
  unfolding source_by_values
  source_site_lem p e = source_by _ _ (rw e at (stands tag site)).1 refl

  module _ (n : lookup_first tag site ≡ None) where
    pub source_default : (p : LookupSpan) → lookup_first tag defaults ≡ Some p → lookup_source tag site defaults
        ≡ source_defaults
    unfolding source_by_values
    source_default p e = source_by _ _ (rw n at (stands tag site)) (rw e at (stands tag defaults)).1

    pub source_neither : lookup_first tag defaults ≡ None → lookup_source tag site defaults ≡ source_nowhere
    unfolding source_by_values
    source_neither e = source_by _ _ (rw n at (stands tag site)) (rw e at (stands tag defaults))

-- a source is one of three
pub source_few : (v w : Option (List ℕ)) → source_by_values v w ≤ 2
unfolding source_by_values
source_few (Some v) w = omega arith
source_few None (Some w) = omega arith
source_few None None = omega arith

-- ---- the word

-- a place inside fewer than 2^32 bytes has a word of 64 bits, whatever its source
pub word_fits : (a k n : ℕ) → k ≤ 2 → a + n < 0x100000000 → a * 0x100000000 + k * 0x10000 + n < 0xFFFFFFFFFFFFFFFF
word_fits a k n f h = omega arith

module _ (tag : ℕ) (site defaults : List ℕ) where
  pub word_long : 0x100000000 ≤ length site + length defaults → lookup_word tag site defaults ≡ 0xFFFFFFFFFFFFFFFF
  unfolding lookup_word
  word_long h = if_yes _ _ (le-leb 0x100000000 (length site + length defaults) h)

  module _ (short : length site + length defaults < 0x100000000) where
    pub word-is : (k : ℕ) (p : LookupSpan) → lookup_source tag site defaults ≡ k
        → span_in_site_then_defaults tag site defaults ≡ p
        → lookup_word_of_span k p ≡ lookup_word tag site defaults
    unfolding lookup_word
    word-is k p f e = sym (if_no _ _ (lt-leb 0x100000000 (length site + length defaults) short) ∙ ap₂ lookup_word_of_span f
        e)

    -- the word of a place is never all ones
    pub word_below : lookup_word tag site defaults < 0xFFFFFFFFFFFFFFFF
    word_below =
        let i = place_inside site defaults tag _ refl in
        rw (← (word-is _ _ refl refl)) (word_fits _ _ _ (source_few _ _) (omega arith))

    pub word_site : (p : LookupSpan) → lookup_first tag site ≡ Some p → lookup_word_of_span source_site p ≡ lookup_word tag site
        defaults
    word_site p e = word-is source_site p (source_site_lem tag site defaults p e) (site_place tag site defaults p e)

    module _ (n : lookup_first tag site ≡ None) where
      pub word_default : (p : LookupSpan) → lookup_first tag defaults ≡ Some p
          → lookup_word_of_span source_defaults (lookup_span (length site + p.start) p.len) ≡ lookup_word tag site
          defaults
      word_default p e =
          word-is source_defaults _ (source_default tag site defaults n p e) (default_place tag site defaults n p e)

      pub word_neither : lookup_first tag defaults ≡ None
          → lookup_word_of_span source_nowhere (lookup_span (length site) 0) ≡ lookup_word tag site defaults
      word_neither e =
          word-is source_nowhere _ (source_neither tag site defaults n e) (no_place tag site defaults n e)
