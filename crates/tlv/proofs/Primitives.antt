-- The laws of primitive objects concatenated. Each object is shorter than its list, so the recursion ends by itself
-- (`unroll`); then one law for each way out of a step, and the same for the parts that code makes of the bytes; then the
-- objects at the front, as an iterator gives them.
-- Assumes nothing.
use Rattle.std.specs.Prelude.{Option, Some, None}
use mathlib.Core.Path.{◌≡◌, refl, sym, ap, ◌∙◌}
use mathlib.Core.Bool.{true, false}
use mathlib.Core.Logic.{inl, inr}
use mathlib.Core.List.{List, [], ◌∷◌}
use Prim.Native.Nat.{ℕ, ◌+◌, ◌*◌, ◌≤◌, ◌<◌}
use native.Mathlib.Omega.{arith}
use lib.Dec.{eqb}
use lib.ListN.{length, length-drop}
use borrow.Author.Tests.{ne_eqb}
use Rattle.basics.proofs.Laws.{if_yes, if_no, bool_cases}
use Rattle.basics.proofs.Recursion.{AsksShorter, recurse_unroll, shorter_first}
use Rattle.tlv.specs.declared.TlvHeader.{TlvHeader}
use Rattle.tlv.specs.Object.{header_of, header_value, behind_object}
use Rattle.tlv.specs.Primitives.{Object, tlv_object, prepend_object, front_broken_if_template, primitive_at_front}
use Rattle.tlv.specs.Primitives.{object_then_rest, primitive_objects_step, primitive_objects}
use Rattle.tlv.specs.Primitives.{are_primitive_objects_parsed, objects_from_front, leading_primitive_objects_step}
use Rattle.tlv.specs.Primitives.{leading_primitive_objects}
use Rattle.tlv.proofs.Laws.{HeaderFits, header_fits, contents, contents_is, tail, tail-is}
use Rattle.tlv.proofs.Tree.{shorter_behind}

-- ---- a primitive object at the front

module _ (s : List ℕ) (x : Option TlvHeader) (p : x ≡ header_of s) where
  pub primitive_broken : x ≡ None → primitive_at_front s ≡ None
  unfolding primitive_at_front
  primitive_broken q = ap front_broken_if_template (sym p ∙ q)

  module _ (h : TlvHeader) (q : x ≡ Some h) where
    pub primitive_template : h.template ≡ true → primitive_at_front s ≡ None
    unfolding primitive_at_front
    primitive_template t = ap front_broken_if_template (sym p ∙ q) ∙ if_yes _ _ t

    pub primitive_object : h.template ≡ false → primitive_at_front s ≡ Some h
    unfolding primitive_at_front
    primitive_object t = ap front_broken_if_template (sym p ∙ q) ∙ if_no _ _ t

-- it is the object at the front
pub primitive_is : (s : List ℕ) (h : TlvHeader) → primitive_at_front s ≡ Some h → header_of s ≡ Some h
unfolding primitive_at_front
primitive_is s h e = go (header_of s) refl
  where
    go : (x : Option TlvHeader) → header_of s ≡ x → header_of s ≡ Some h
    go None p = cc (primitive_broken s None (sym p) refl)
    go (Some g) p = elim (bool_cases g.template) [
      | inl t ↦ cc (primitive_template s (Some g) (sym p) g refl t)
      | inr t ↦ cc (primitive_object s (Some g) (sym p) g refl t)
    ]

pub primitive_fits : (s : List ℕ) (h : TlvHeader) → primitive_at_front s ≡ Some h → HeaderFits s h
primitive_fits s h e = header_fits s h (primitive_is s h e)

-- the same of one that code has read
pub read_inside : (s : List ℕ) (x : Option TlvHeader) (h : TlvHeader) → x ≡ primitive_at_front s → x ≡ Some h
    → h.start + h.len ≤ length s
read_inside s x h p q = (primitive_fits s h (sym p ∙ q)).inside

-- ---- the recursion ends by itself

abbrev Reader : Type 0
Reader = List ℕ → Option (List Object)

more_same : (k k' : Reader) (s : List ℕ) → ((v : List ℕ) → length v < length s → k v ≡ k' v)
    → (x : Option TlvHeader) → primitive_at_front s ≡ x → object_then_rest k s x ≡ object_then_rest k' s x
more_same k k' s same None e = refl
more_same k k' s same (Some h) e =
    ap (prepend_object (tlv_object h.tag (header_value s h)))
    (same (behind_object s h) (shorter_behind (primitive_fits s h e)))

next_same : AsksShorter primitive_objects_step
next_same k k' [] same = refl
next_same k k' (b ∷ s) same = more_same k k' (b ∷ s) same (primitive_at_front (b ∷ s)) refl

pub unroll : (s : List ℕ) → primitive_objects s ≡ primitive_objects_step primitive_objects s
unfolding primitive_objects
unroll s = recurse_unroll None primitive_objects_step next_same s

-- ---- one law for each way out of a step

pub primitives_end : (s : List ℕ) → length s ≡ 0 → primitive_objects s ≡ Some []
primitives_end [] z = unroll []
primitives_end (b ∷ s) z = absurd (omega arith)

at : (s : List ℕ) → (length s ≡ 0 → ⊥) → (x : Option TlvHeader) → primitive_at_front s ≡ x
    → primitive_objects s ≡ object_then_rest primitive_objects s x
at [] n x e = absurd (n refl)
at (b ∷ s) n x e = unroll (b ∷ s) ∙ ap (object_then_rest primitive_objects (b ∷ s)) e

pub primitives_broken : (s : List ℕ) → (length s ≡ 0 → ⊥) → primitive_at_front s ≡ None
    → primitive_objects s ≡ None
primitives_broken s n e = at s n None e

pub primitives_object : (s : List ℕ) → (length s ≡ 0 → ⊥) → (h : TlvHeader) → primitive_at_front s ≡ Some h
    → primitive_objects s ≡ prepend_object (tlv_object h.tag (header_value s h)) (primitive_objects (behind_object s h))
primitives_object s n h e = at s n (Some h) e

-- ---- by the parts that code makes of the bytes

-- the first object, and the bytes after it
abbrev pub first_of : List ℕ → TlvHeader → Object
first_of s h = tlv_object h.tag (contents s h.start h.len)

abbrev pub rest_of : List ℕ → TlvHeader → List ℕ
rest_of s h = tail s (h.start + h.len)

with_run : (o : Object) (x : Option (List Object)) → are_primitive_objects_parsed (prepend_object o x)
    ≡ are_primitive_objects_parsed x
unfolding prepend_object
with_run o None = refl
with_run o (Some os) = refl

module _ (s : List ℕ) where
  pub is_run_end : length s ≡ 0 → are_primitive_objects_parsed (primitive_objects s) ≡ true
  is_run_end z = ap are_primitive_objects_parsed (primitives_end s z)

  module _ (n : length s ≡ 0 → ⊥) where
    pub is_run_broken : primitive_at_front s ≡ None → are_primitive_objects_parsed (primitive_objects s) ≡ false
    is_run_broken e = ap are_primitive_objects_parsed (primitives_broken s n e)

    module _ (h : TlvHeader) (e : primitive_at_front s ≡ Some h) where
      pub parts : primitive_objects s ≡ prepend_object (first_of s h) (primitive_objects (rest_of s h))
      parts = primitives_object s n h e ∙ rw (contents_is s h.start h.len, tail-is s (h.start + h.len))

      pub is_run_on : are_primitive_objects_parsed (primitive_objects s) ≡ are_primitive_objects_parsed
          (primitive_objects (rest_of s h))
      is_run_on = ap are_primitive_objects_parsed parts ∙ with_run (first_of s h) (primitive_objects (rest_of s h))

-- where no object is at the front, whether the bytes are a run is whether there are none
pub is_run_stopped : (s : List ℕ) → primitive_at_front s ≡ None
    → are_primitive_objects_parsed (primitive_objects s) ≡ eqb (length s) 0
is_run_stopped [] e = is_run_end [] refl
is_run_stopped (b ∷ s) e =
    is_run_broken (b ∷ s) (λ z. omega arith) e ∙ sym (ne_eqb (length (b ∷ s)) 0 (λ z. omega arith))

-- ---- the objects at the front

leading_more_same : (k k' : List ℕ → List Object) (s : List ℕ) → ((v : List ℕ) → length v < length s → k v ≡ k' v)
    → (x : Option TlvHeader) → primitive_at_front s ≡ x → objects_from_front k s x ≡ objects_from_front k' s x
leading_more_same k k' s same None e = refl
leading_more_same k k' s same (Some h) e =
    ap (λ os. tlv_object h.tag (header_value s h) ∷ os) (same (behind_object s h) (shorter_behind (primitive_fits s h e)))

leading_same : AsksShorter leading_primitive_objects_step
leading_same k k' s same = leading_more_same k k' s same (primitive_at_front s) refl

pub leading_unroll : (s : List ℕ) → leading_primitive_objects s ≡ leading_primitive_objects_step leading_primitive_objects s
unfolding leading_primitive_objects
leading_unroll s = recurse_unroll [] leading_primitive_objects_step leading_same s

module _ (s : List ℕ) where
  leading_at : (x : Option TlvHeader) → primitive_at_front s ≡ x
      → leading_primitive_objects s ≡ objects_from_front leading_primitive_objects s x
  leading_at x e = leading_unroll s ∙ ap (objects_from_front leading_primitive_objects s) e

  pub leading_broken : primitive_at_front s ≡ None → leading_primitive_objects s ≡ []
  leading_broken e = leading_at None e

  -- where nothing is left, no object is at the front
  pub leading_end : length s ≡ 0 → leading_primitive_objects s ≡ []
  leading_end z = go (primitive_at_front s) refl
    where
      go : (x : Option TlvHeader) → primitive_at_front s ≡ x → leading_primitive_objects s ≡ []
      go None p = leading_broken p
      go (Some h) p = let f = primitive_fits s h p in absurd (omega arith)

  pub leading_object : (h : TlvHeader) → primitive_at_front s ≡ Some h
      → leading_primitive_objects s ≡ first_of s h ∷ leading_primitive_objects (rest_of s h)
  leading_object h e = leading_at (Some h) e ∙ rw (contents_is s h.start h.len, tail-is s (h.start + h.len))

-- the leading objects of a run are its objects
some_run : (o : Object) (x : Option (List Object)) (os : List Object) → prepend_object o x ≡ Some os
    → (more : List Object) × (x ≡ Some more) × (o ∷ more ≡ os)
unfolding prepend_object
some_run o None os e = cc
some_run o (Some more) os e = (more, refl, cc)

abbrev LeadingOfRun : List ℕ → Type 0
LeadingOfRun s = (os : List Object) → primitive_objects s ≡ Some os → leading_primitive_objects s ≡ os

leading_of_step : (s : List ℕ) → ((v : List ℕ) → length v < length s → LeadingOfRun v) → LeadingOfRun s
leading_of_step [] ih os e = leading_end [] refl ∙ (let p : Some [] ≡ Some os = sym (primitives_end [] refl) ∙ e in cc)
leading_of_step (b ∷ s) ih os e = go (primitive_at_front (b ∷ s)) refl
  where
    go : (x : Option TlvHeader) → primitive_at_front (b ∷ s) ≡ x → leading_primitive_objects (b ∷ s) ≡ os
    go None p = let q = sym (primitives_broken (b ∷ s) (λ z. omega arith) p) ∙ e in cc
    go (Some h) p =
        let r = some_run _ _ os (sym (parts (b ∷ s) (λ z. omega arith) h p) ∙ e) in
        leading_object (b ∷ s) h p ∙ ap (λ os. first_of (b ∷ s) h ∷ os) (ih (rest_of (b ∷ s) h)
        (rw (tail-is (b ∷ s) (h.start + h.len)) (shorter_behind (primitive_fits (b ∷ s) h p))) r.0 r.1) ∙ r.2

pub leading_of_run : (s : List ℕ) (os : List Object) → primitive_objects s ≡ Some os → leading_primitive_objects s ≡ os
leading_of_run = shorter_first LeadingOfRun leading_of_step

-- an object takes two bytes at least
abbrev FewLeading : List ℕ → Type 0
FewLeading s = 2 * length (leading_primitive_objects s) ≤ length s

few_step : (s : List ℕ) → ((v : List ℕ) → length v < length s → FewLeading v) → FewLeading s
few_step s ih = go (primitive_at_front s) refl
  where
    go : (x : Option TlvHeader) → primitive_at_front s ≡ x → FewLeading s
    go None p = omega (arith, ap length (leading_broken s p))
    go (Some h) p =
        let f = primitive_fits s h p in
        let b = length-drop (h.start + h.len) s in
        omega (
          arith,
          ih (behind_object s h) (shorter_behind f),
          ap length (leading_object s h p),
          ap (λ t. length (leading_primitive_objects t)) (tail-is s (h.start + h.len)),
        )

pub leading_few : (s : List ℕ) → 2 * length (leading_primitive_objects s) ≤ length s
leading_few = shorter_first FewLeading few_step
