-- The laws of the parse. Each object is shorter than its list, so the steps allowed do not matter (`unroll`); then one
-- law for each way out of a step, one induction over a parse that succeeds (`parse_ind`), and from it joining, counting
-- and deeper levels. Padding is a run of no object, so it can be joined before and after.
-- Assumes nothing.
use Rattle.std.specs.Prelude.{Option, Some, None}
use mathlib.Core.Path.{◌≡◌, refl, sym, ap, ap₂, subst, ◌∙◌}
use mathlib.Core.Bool.{true, false}
use mathlib.Core.Logic.{◌⊎◌, inl, inr}
use mathlib.Core.List.{List, ◌++◌}
use Prim.Native.Nat.{ℕ, zero, suc, ◌+◌, ◌-◌, ◌*◌, ◌≤◌, ◌<◌}
use native.Mathlib.Numerals.{sub-one}
use native.Mathlib.Omega.{arith}
use lib.ListN.{length, drop, length-take, length-drop}
use lib.Seq.{take-append-le, drop-append-le, drop-append-add}
use Rattle.basics.specs.Choice.{if}
use Rattle.basics.proofs.Laws.{if_yes, if_no, bool_cases}
pub use Rattle.basics.proofs.Recursion.{shorter_first}
use Rattle.basics.proofs.Recursion.{AsksShorter, recurse_unroll}
use Rattle.tlv.specs.declared.TlvHeader.{TlvHeader}
use Rattle.tlv.specs.declared.NextInTemplate.{NextInTemplate}
use Rattle.tlv.specs.declared.NextInTemplate.TheVariants.{End, Inner, Malformed}
use Rattle.tlv.specs.Object.{header_shifted, header_value, behind_object}
use Rattle.tlv.specs.Tree.{Forest, end, leaf, node, object_count, next_in_template_shifted, next_in_template}
use Rattle.tlv.specs.Tree.{prepend_leaf, prepend_node, forest_of_template_then_rest, forest_of_object_then_rest}
use Rattle.tlv.specs.Tree.{parse_tree_step, parse_tree}
use Rattle.tlv.specs.Padding.{padding_zeros}
use Rattle.tlv.proofs.Laws.{HeaderFits}
use Rattle.tlv.proofs.NextObject.{next_fits, next_zeros, next_join}

-- ---- both parts of an object are shorter than its list

module _ {s : List ℕ} {h : TlvHeader} (f : HeaderFits s h) where
  pub shorter_value : length (header_value s h) < length s
  shorter_value = simp (length-take, length-drop) (omega arith)

  pub shorter_behind : length (behind_object s h) < length s
  shorter_behind = simp length-drop (omega arith)

-- ---- the steps allowed do not matter

abbrev Parser : Type 0
Parser = ℕ → List ℕ → Option Forest

nested_same : (k k' : Parser) (l t : ℕ) (v r : List ℕ) → ((m : ℕ) → k m v ≡ k' m v) → ((m : ℕ) → k m r ≡ k' m r)
    → forest_of_template_then_rest k l t v r ≡ forest_of_template_then_rest k' l t v r
nested_same k k' zero t v r p q = refl
nested_same k k' (suc l) t v r p q = ap₂ (prepend_node t) (p l) (q (suc l))

object_same : (k k' : Parser) (l : ℕ) (s : List ℕ) → ((m : ℕ) (v : List ℕ) → length v < length s → k m v ≡ k' m v)
    → (x : NextInTemplate) → next_in_template s ≡ x → forest_of_object_then_rest k l s x ≡ forest_of_object_then_rest k' l s x
object_same k k' l s same End e = refl
object_same k k' l s same Malformed e = refl
object_same k k' l s same (Inner h) e =
    let f = next_fits s h e in
    let v = shorter_value f in
    let b = shorter_behind f in
    ap₂ (if h.template)
    (nested_same k k' l h.tag (header_value s h) (behind_object s h) (λ m. same m (header_value s h) v)
    (λ m. same m (behind_object s h) b))
    (ap (prepend_leaf h.tag (header_value s h)) (same l (behind_object s h) b))

next_same : AsksShorter parse_tree_step
next_same k k' s same = λ i l. object_same (λ m v. k v m) (λ m v. k' v m) l s
    (λ m v h. ap (λ (p : ℕ → Option Forest). p m) (same v h)) (next_in_template s) refl i

pub unroll : (l : ℕ) (s : List ℕ) → parse_tree l s ≡ forest_of_object_then_rest parse_tree l s (next_in_template s)
unfolding parse_tree
unroll l s = ap (λ (p : ℕ → Option Forest). p l) (recurse_unroll (λ l. None) parse_tree_step next_same s)

-- ---- one law for each way out of a step

at : (l : ℕ) (s : List ℕ) (x : NextInTemplate) → next_in_template s ≡ x → parse_tree l s ≡ forest_of_object_then_rest parse_tree
    l s x
at l s x e = unroll l s ∙ ap (forest_of_object_then_rest parse_tree l s) e

pub parse_end : (l : ℕ) (s : List ℕ) → next_in_template s ≡ End → parse_tree l s ≡ Some end
parse_end l s e = at l s End e

pub parse_malformed : (l : ℕ) (s : List ℕ) → next_in_template s ≡ Malformed → parse_tree l s ≡ None
parse_malformed l s e = at l s Malformed e

nested_deep : (l t : ℕ) (v r : List ℕ) → l ≡ 0 → forest_of_template_then_rest parse_tree l t v r ≡ None
nested_deep zero t v r z = refl
nested_deep (suc l) t v r z = absurd (omega arith)

nested_at : (l t : ℕ) (v r : List ℕ) → (l ≡ 0 → ⊥) → forest_of_template_then_rest parse_tree l t v r
    ≡ prepend_node t (parse_tree (l - 1) v) (parse_tree l r)
nested_at zero t v r n = absurd (n refl)
nested_at (suc l) t v r n = rw (sub-one (suc l))

module _ (l : ℕ) (s : List ℕ) (h : TlvHeader) (e : next_in_template s ≡ Inner h) where
  -- a template with no level left
  pub parse_deep : h.template ≡ true → l ≡ 0 → parse_tree l s ≡ None
  parse_deep t z = at l s (Inner h) e ∙ if_yes _ _ t ∙ nested_deep l _ _ _ z

  -- a template: its contents with a level less, and what is after it
  pub parse_node : h.template ≡ true → (l ≡ 0 → ⊥)
      → parse_tree l s ≡ prepend_node h.tag (parse_tree (l - 1) (header_value s h)) (parse_tree l (behind_object s h))
  parse_node t n = at l s (Inner h) e ∙ if_yes _ _ t ∙ nested_at l _ _ _ n

  -- a primitive object: its value, and what is after it
  pub parse_leaf : h.template ≡ false → parse_tree l s ≡ prepend_leaf h.tag (header_value s h)
      (parse_tree l (behind_object s h))
  parse_leaf t = at l s (Inner h) e ∙ if_no _ _ t

zero_cases : (n : ℕ) → (n ≡ 0) ⊎ (n ≡ 0 → ⊥)
zero_cases zero = inl refl
zero_cases (suc n) = inr (λ z. omega arith)

-- ---- a run after an object

pub with_leaf : (t : ℕ) (v : List ℕ) (x : Option Forest) (r : Forest) → x ≡ Some r
    → prepend_leaf t v x ≡ Some (leaf t v r)
unfolding prepend_leaf
with_leaf t v x r e = rw e

pub with_node : (t : ℕ) (x y : Option Forest) (f r : Forest) → x ≡ Some f → y ≡ Some r
    → prepend_node t x y ≡ Some (node t f r)
unfolding prepend_node
with_node t x y f r p q = rw (p, q)

-- ---- what holds at the end, and of an object once it holds of its parts, holds of every parse that succeeds

module _
    (P : ℕ → List ℕ → Forest → Type 0)
    (at-end : (l : ℕ) (s : List ℕ) → next_in_template s ≡ End → P l s end)
    (at_leaf : (l : ℕ) (s : List ℕ) (h : TlvHeader) (r : Forest) → next_in_template s ≡ Inner h → h.template ≡ false
    → parse_tree l (behind_object s h) ≡ Some r → P l (behind_object s h) r → P l s (leaf h.tag (header_value s h) r))
    (at_node : (l : ℕ) (s : List ℕ) (h : TlvHeader) (f r : Forest) → next_in_template s ≡ Inner h → h.template ≡ true
    → (l ≡ 0 → ⊥)
    → parse_tree (l - 1) (header_value s h) ≡ Some f → P (l - 1) (header_value s h) f → parse_tree l (behind_object s h)
    ≡ Some r → P l (behind_object s h) r
    → P l s (node h.tag f r))
  where
    Holds : List ℕ → Type 0
    Holds s = (l : ℕ) (f : Forest) → parse_tree l s ≡ Some f → P l s f

    module _ (s : List ℕ) (before : (v : List ℕ) → length v < length s → Holds v) (l : ℕ) (g : Forest)
        (e : parse_tree l s ≡ Some g) where
      -- what the parse gives is the tree in hand, and it gives one
      this : (f : Forest) → parse_tree l s ≡ Some f → P l s f → P l s g
      this f p h = let q : f ≡ g = cc in subst (P l s) q h

      never : parse_tree l s ≡ None → P l s g
      never p = let z : ◌≡◌ {A = ℕ} 0 1 = cc in absurd (omega arith)

      of_leaf : (h : TlvHeader) → next_in_template s ≡ Inner h → h.template ≡ false → (x : Option Forest)
          → parse_tree l (behind_object s h) ≡ x → P l s g
      unfolding prepend_leaf Holds
      of_leaf h p t None q = never (parse_leaf l s h p t ∙ rw q)
      of_leaf h p t (Some r) q =
          this _ (parse_leaf l s h p t ∙ rw q)
          (at_leaf l s h r p t q (before (behind_object s h) (shorter_behind (next_fits s h p)) l r q))

      of_node : (h : TlvHeader) → next_in_template s ≡ Inner h → h.template ≡ true → (l ≡ 0 → ⊥) → (x y : Option Forest)
          → parse_tree (l - 1) (header_value s h) ≡ x → parse_tree l (behind_object s h) ≡ y → P l s g
      unfolding prepend_node Holds
      of_node h p t n None y q r = never (parse_node l s h p t n ∙ rw q)
      of_node h p t n (Some f) None q r = never (parse_node l s h p t n ∙ rw (q, r))
      of_node h p t n (Some f) (Some b) q r =
          let i = next_fits s h p in
          this _ (parse_node l s h p t n ∙ rw (q, r))
          (at_node l s h f b p t n q (before (header_value s h) (shorter_value i) (l - 1) f q) r
          (before (behind_object s h) (shorter_behind i) l b r))

      of_next : (x : NextInTemplate) → next_in_template s ≡ x → P l s g
      of_next End p = this end (parse_end l s p) (at-end l s p)
      of_next Malformed p = never (parse_malformed l s p)
      of_next (Inner h) p = elim (bool_cases h.template) [
        | inl t ↦ elim (zero_cases l) [ inl z ↦ never (parse_deep l s h p t z) | inr n ↦ of_node h p t n _ _ refl refl ]
        | inr t ↦ of_leaf h p t _ refl
      ]

    pub parse_ind : (l : ℕ) (s : List ℕ) (f : Forest) → parse_tree l s ≡ Some f → P l s f
    unfolding Holds
    parse_ind l s f e = shorter_first Holds (λ s before l f e. of_next s before l f e (next_in_template s) refl) s l f e

-- ---- an object takes two bytes at least, so there are at most half as many as bytes

pub parse_count : (l : ℕ) (s : List ℕ) (f : Forest) → parse_tree l s ≡ Some f → 2 * object_count f ≤ length s
unfolding object_count
parse_count l s f =
    parse_ind (λ l s f. 2 * object_count f ≤ length s)
    (λ l s e. omega arith)
    (λ l s h r e t q k. let i = next_fits s h e in let b = simp length-drop at k in omega arith)
    (λ l s h f r e t n p j q k.
    let i = next_fits s h e in let v = simp (length-take, length-drop) at j in let b = simp length-drop at k in
    omega arith)
    l s f

-- ---- more levels change nothing

pub parse_deeper : (l m : ℕ) (s : List ℕ) (f : Forest) → parse_tree l s ≡ Some f → l ≤ m → parse_tree m s ≡ Some f
parse_deeper l m s f e =
    parse_ind (λ l s f. (m : ℕ) → l ≤ m → parse_tree m s ≡ Some f)
    (λ l s e m le. parse_end m s e)
    (λ l s h r e t q k m le. parse_leaf m s h e t ∙ with_leaf _ _ _ r (k m le))
    (λ l s h f r e t n p j q k m le. parse_node m s h e t (omega arith) ∙ with_node _ _ _ f r (j (m - 1) (omega arith))
    (k m le))
    l s f e m

-- ---- one run after another

-- two runs of objects, concatenated
unfoldable pub join : Forest → Forest → Forest
join end g = g
join (leaf t v r) g = leaf t v (join r g)
join (node t f r) g = node t f (join r g)

-- an object's parts, with bytes after its list
value_kept : (s r : List ℕ) (h : TlvHeader) → HeaderFits s h → header_value (s ++ r) h ≡ header_value s h
value_kept s r h f =
    let a : h.start ≤ length s = omega arith in
    let l : h.len ≤ length (drop h.start s) = simp length-drop (omega arith) in
    rw (drop-append-le h.start s r, take-append-le h.len (drop h.start s) r)

behind_kept : (s r : List ℕ) (h : TlvHeader) → HeaderFits s h → behind_object (s ++ r) h ≡ behind_object s h ++ r
behind_kept s r h f = drop-append-le (h.start + h.len) s r f.inside

-- where a list has nothing more, what is parsed is the list after it
module _ (s r : List ℕ) where
  value_moved : (h : TlvHeader) → header_value (s ++ r) (header_shifted (length s) h) ≡ header_value r h
  value_moved h = rw (drop-append-add s r h.start)

  behind_moved : (h : TlvHeader) → behind_object (s ++ r) (header_shifted (length s) h) ≡ behind_object r h
  behind_moved h = let e : length s + h.start + h.len ≡ length s + (h.start + h.len) = omega arith in
      rw (e, drop-append-add s r (h.start + h.len))

  object_moved : (l : ℕ) (x : NextInTemplate)
      → forest_of_object_then_rest parse_tree l (s ++ r) (next_in_template_shifted (length s) x) ≡ forest_of_object_then_rest
      parse_tree l r x
  object_moved l End = refl
  object_moved l Malformed = refl
  object_moved l (Inner h) = rw (value_moved h, behind_moved h)

  parse_moved : (l : ℕ) → next_in_template s ≡ End → parse_tree l (s ++ r) ≡ parse_tree l r
  parse_moved l e = at l (s ++ r) _ (next_join s r End e) ∙ object_moved l (next_in_template r) ∙ sym (unroll l r)

pub parse_join : (l : ℕ) (s t : List ℕ) (f g : Forest) → parse_tree l s ≡ Some f → parse_tree l t ≡ Some g
    → parse_tree l (s ++ t) ≡ Some (join f g)
unfolding join
parse_join l s t f g =
    parse_ind (λ l s f. parse_tree l t ≡ Some g → parse_tree l (s ++ t) ≡ Some (join f g))
    (λ l s e p. parse_moved s t l e ∙ p)
    (λ l s h r e q y k p.
    let i = next_fits s h e in
    parse_leaf l (s ++ t) h (next_join s t (Inner h) e) q ∙ rw (value_kept s t h i, behind_kept s t h i)
    (with_leaf _ _ _ (join r g) (k p)))
    (λ l s h f r e q n x j y k p.
    let i = next_fits s h e in
    parse_node l (s ++ t) h (next_join s t (Inner h) e) q n ∙ rw (value_kept s t h i, behind_kept s t h i)
    (with_node _ _ _ f (join r g) x (k p)))
    l s f

-- ---- padding, at the front of any bytes and after a whole run

pub zeros_in_front : (n l : ℕ) (s : List ℕ) → parse_tree l (padding_zeros n ++ s) ≡ parse_tree l s
zeros_in_front n l s = parse_moved (padding_zeros n) s l (next_zeros n)

join_end : (f : Forest) → join f end ≡ f
unfolding join
join_end end = refl
join_end (leaf t v r) = ap (leaf t v) (join_end r)
join_end (node t f r) = ap (node t f) (join_end r)

pub zeros_between : (n l : ℕ) (s t : List ℕ) (f g : Forest) → parse_tree l s ≡ Some f → parse_tree l t ≡ Some g
    → parse_tree l (s ++ (padding_zeros n ++ t)) ≡ parse_tree l (s ++ t)
zeros_between n l s t f g e d = parse_join l s (padding_zeros n ++ t) f g e (zeros_in_front n l t ∙ d) ∙ sym
    (parse_join l s t f g e d)

pub zeros_behind : (n l : ℕ) (s : List ℕ) (f : Forest) → parse_tree l s ≡ Some f → parse_tree l (s ++ padding_zeros n)
    ≡ Some f
zeros_behind n l s f e = parse_join l s (padding_zeros n) f end e (parse_end l (padding_zeros n) (next_zeros n)) ∙ ap Some
    (join_end f)
