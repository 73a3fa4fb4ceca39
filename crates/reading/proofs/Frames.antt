-- The walk with the open templates in an array, on lists and numbers. What the open templates still hold, innermost
-- first, is counted and listed in order (`Left`); the invariant (`Reached`): whatever that reports and leaves is what
-- all contents report and leave.
-- Assumes nothing.
use Rattle.std.specs.Prelude.{Option, Some, None}
use Rattle.reading.specs.declared.VisitTally.{VisitTally}
use Rattle.reading.specs.declared.flat.OpenTemplate.{OpenTemplate}
use mathlib.Core.Path.{◌≡◌, refl, sym, ap, ap₂, subst, ◌∙◌}
use mathlib.Core.Bool.{true}
use mathlib.Core.Logic.{inl, inr}
use mathlib.Core.List.{List, [], ◌∷◌}
use Prim.Native.Nat.{ℕ, zero, suc, ◌+◌, ◌-◌, ◌*◌, ◌≤◌, ◌<◌}
use native.Mathlib.Numerals.{add-one}
use native.Mathlib.Omega.{arith}
use lib.ListN.{length, get_or, set, replicate, length-set}
use lib.Seq.{get_or-set_same, get_or-set_other}
use Rattle.basics.proofs.Order.{equal_or_not}
use Rattle.tlv.specs.declared.TlvHeader.{TlvHeader}
use Rattle.tlv.specs.Tree.{parse_tree}
use Rattle.reading.specs.Taking.{PrimitiveItem}
use Rattle.reading.specs.InnerItems.{tally, unpacked_first_items, TemplateWalkHasRoom, WalkListedItems, ListsTreeThen}
use Rattle.reading.specs.InnerItems.{WalkListsTree}
use Rattle.reading.proofs.Items.{part}
use Rattle.reading.proofs.Runs.{Run, Next, has_listed, ended, bounds, small, deep, entered, node_same}

-- ---- what the open templates still hold

-- of one of them: the bytes that are left, and its tag
pub record Frame : Type 0 where
  pub bytes : List ℕ
  pub tag : ℕ

abbrev pub frame : List ℕ → ℕ → Frame
frame s t = record { bytes = s; tag = t }

-- the innermost first, three levels of templates inside the outer one, which is the last: r is reported and l is left
unfoldable pub Left : List ℕ → Option VisitTally → List ℕ → List Frame → ℕ → List PrimitiveItem → Type 0
Left s r l [] n is = WalkListedItems s l r n is
Left s r l (f ∷ fs) n is = ListsTreeThen f.tag (parse_tree (3 - length fs) f.bytes) r (Left s r l fs) n is

-- ---- the open templates by their array, k of them, of which the innermost is left from a on

abbrev pub open_at : List OpenTemplate → ℕ → OpenTemplate
open_at templates i = get_or templates i (record { end = 0; tag = 0 })

unfoldable pub opened : List ℕ → List OpenTemplate → ℕ → ℕ → List Frame
opened s templates zero a = []
opened s templates (suc k) a =
    frame (part s a (open_at templates k).end) (open_at templates k).tag ∷ opened s templates k (open_at templates k).end

opened_length : (s : List ℕ) (templates : List OpenTemplate) (k a : ℕ) → length (opened s templates k a) ≡ k
unfolding opened
opened_length s templates zero a = refl
opened_length s templates (suc k) a = ap suc (opened_length s templates k (open_at templates k).end)

-- each ends inside the one around it, the outer one at e
unfoldable pub Nested : List OpenTemplate → ℕ → ℕ → ℕ → Type 0
Nested templates e zero a = a ≤ e
Nested templates e (suc k) a = (a ≤ (open_at templates k).end) × Nested templates e k (open_at templates k).end

nested_most : (templates : List OpenTemplate) (e k a : ℕ) → Nested templates e k a → a ≤ e
unfolding Nested
nested_most templates e zero a h = h
nested_most templates e (suc k) a h = let i = nested_most templates e k (open_at templates k).end h.1 in omega arith

-- one that is opened after k of them changes none
module _ (templates : List OpenTemplate) (i : ℕ) (x : OpenTemplate) where
  opened_set : (s : List ℕ) (k a : ℕ) → k ≤ i → opened s (set templates i x) k a ≡ opened s templates k a
  unfolding opened
  opened_set s zero a l = refl
  opened_set s (suc k) a l =
      let p = get_or-set_other templates i k x (record { end = 0; tag = 0 }) (λ q. omega arith) in
      rw p (ap (λ (fs : List Frame). frame (part s a (open_at templates k).end) (open_at templates k).tag ∷ fs)
      (opened_set s k (open_at templates k).end (omega arith)))

  nested_set : (n k a : ℕ) → k ≤ i → Nested templates n k a → Nested (set templates i x) n k a
  unfolding Nested
  nested_set n zero a l h = h
  nested_set n (suc k) a l h =
      let p = get_or-set_other templates i k x (record { end = 0; tag = 0 }) (λ q. omega arith) in
      rw p (h.0, nested_set n k (open_at templates k).end (omega arith) h.1)

-- ---- the invariant, and each iteration of the walk

-- after n objects, k of them listed in l, at a place of the innermost template; All is what the whole walk promises
pub record Reached (s : List ℕ) (e : ℕ) (All : Option VisitTally → List ℕ → Type 0) (templates : List OpenTemplate)
    (depth at n k : ℕ)
    (l : List ℕ) : Type 0 where
  pub four : length templates ≡ 4
  pub few : depth < 4
  pub nested : Nested templates e depth (open_at templates depth).end
  pub tags : (i : ℕ) → (open_at templates i).tag < 0x1000000
  pub fits : TemplateWalkHasRoom s at e n k l
  pub before : at ≤ (open_at templates depth).end
  pub same : (r : Option VisitTally) (l' : List ℕ)
      → Left s r l' (frame (part s at (open_at templates depth).end) (open_at templates depth).tag ∷ opened s templates depth
      (open_at templates depth).end) n (unpacked_first_items s k l)
      → All r l'

-- the measure of the walk: what is left of the bytes, twice, and the open levels
abbrev pub ahead : ℕ → ℕ → ℕ → ℕ
ahead e depth at = 2 * (e - at) + depth

four_small : (x : OpenTemplate) (i : ℕ) → x.tag < 0x1000000 → (open_at (replicate 4 x) i).tag < 0x1000000
four_small x zero h = h
four_small x (suc zero) h = h
four_small x (suc (suc zero)) h = h
four_small x (suc (suc (suc zero))) h = h
four_small x (suc (suc (suc (suc i)))) h = omega arith

-- at the front the outer template is open, and it is the one object
pub begin : (s : List ℕ) (a e tag : ℕ) (l : List ℕ) → TemplateWalkHasRoom s a e 1 0 l → tag < 0x1000000
    → Reached s e (WalkListsTree s tag (parse_tree 3 (part s a e)) 1 0 l)
    (replicate 4 (record { end = e; tag = tag })) 0 a 1 0 l
unfolding opened Nested Left
begin s a e tag l w t = record {
  four = refl;
  few = omega arith;
  nested = omega arith;
  tags = λ i. four_small (record { end = e; tag = tag }) i t;
  fits = w;
  before = w.begins;
  same = λ r l' h. h;
}

module _ {s : List ℕ} {e : ℕ} {All : Option VisitTally → List ℕ → Type 0} {templates : List OpenTemplate} {depth at n k : ℕ}
    {l : List ℕ}
    (w : Reached s e All templates depth at n k l) where
  -- the innermost open template: its end, its tag, and what is open around it
  abbrev stop : ℕ
  stop = (open_at templates depth).end

  abbrev inmost : ℕ
  inmost = (open_at templates depth).tag

  abbrev outside : List Frame
  outside = opened s templates depth stop

  abbrev K : Option VisitTally → List ℕ → ℕ → List PrimitiveItem → Type 0
  K r l' = Left s r l' outside

  -- it ends inside the contents
  pub inside : stop ≤ e
  inside = nested_most templates e depth stop w.nested

  -- so many levels are still allowed
  levels : 3 - length outside ≡ 3 - depth
  levels = ap (λ (m : ℕ). 3 - m) (opened_length s templates depth stop)

  -- the walk stands in the innermost one, and what follows is what is open around it
  pub run : Run s e stop (3 - length outside) inmost K All at n k l
  unfolding Left
  run = record { fits = w.fits; before = w.before; inside = inside; tag = w.tags depth; same = w.same }

  -- one step on within it
  pub step : {at' n' k' : ℕ} {l' : List ℕ} → Run s e stop (3 - length outside) inmost K All at' n' k' l'
      → Reached s e All templates depth at' n' k' l'
  unfolding Left
  step r = record {
    four = w.four;
    few = w.few;
    nested = w.nested;
    tags = w.tags;
    fits = r.fits;
    before = r.before;
    same = r.same;
  }

  module _ (z : at ≡ stop) where
    pub done : depth ≡ 0 → All (Some (tally n k)) l
    unfolding opened Left
    done q =
        ended run (omega arith) (Some (tally n k)) l
        (subst (λ (d : ℕ). Left s (Some (tally n k)) l (opened s templates d stop) n (unpacked_first_items s k l))
        (sym q)
        (has_listed w.fits))

    module _ (q : depth ≡ 0 → ⊥) where
      abbrev next : ℕ
      next = (open_at templates (depth - 1)).end

      -- the template around it ends after it
      nested_out : (stop ≤ next) × Nested templates e (depth - 1) next
      unfolding Nested
      nested_out = let m : depth ≡ suc (depth - 1) = omega arith in
          subst (λ (d : ℕ). Nested templates e d stop) m w.nested

      opened_out : outside ≡ frame (part s at next) (open_at templates (depth - 1)).tag ∷ opened s templates (depth - 1) next
      unfolding opened
      opened_out = let m : depth ≡ suc (depth - 1) = omega arith in ap₂ (opened s templates) m (sym z)

      pub close : Reached s e All templates (depth - 1) at n k l
      close = let o = nested_out in record {
        four = w.four;
        few = omega (arith, w.few);
        nested = o.1;
        tags = w.tags;
        fits = w.fits;
        before = omega arith;
        same = λ r l' h. ended run (omega arith) r l'
            (subst (λ (fs : List Frame). Left s r l' fs n (unpacked_first_items s k l))
            (sym opened_out) h);
      }

  pub more : (at ≡ stop → ⊥) → at < stop
  more z = omega (arith, w.before)

  -- an object that is next in it
  module _ {h : TlvHeader} (x : Next s e stop (3 - length outside) inmost K All at n k l run h) where
    pub too_deep : h.template ≡ true → depth + 1 ≡ 4 → (l' : List ℕ) → All None l'
    too_deep p q l' = let z = levels in deep x p (omega arith) l'

    -- where its value starts and ends
    abbrev from : ℕ
    from = at + h.start

    abbrev beyond : ℕ
    beyond = from + h.len

    -- a template that is opened
    module _ (q : depth + 1 ≡ 4 → ⊥) where
      abbrev here : OpenTemplate
      here = record { end = beyond; tag = h.tag }

      abbrev templates' : List OpenTemplate
      templates' = set templates (depth + 1) here

      here_is : open_at templates' (depth + 1) ≡ here
      here_is = get_or-set_same templates (depth + 1) here (record { end = 0; tag = 0 }) (omega (arith, w.few, w.four))

      tags_in : (i : ℕ) → (open_at templates' i).tag < 0x1000000
      tags_in i = elim (equal_or_not i (depth + 1)) [
        | inl z ↦ rw (ap (open_at templates') z ∙ here_is) (small x)
        | inr z ↦ rw (get_or-set_other templates (depth + 1) i here (record { end = 0; tag = 0 }) z) (w.tags i)
      ]

      -- after it the template around it is left
      nested_in : Nested templates' e (depth + 1) beyond
      unfolding Nested
      nested_in =
          nested_set templates (depth + 1) here e (depth + 1) beyond (omega arith)
          (rw (add-one depth) ((bounds x).1.0, w.nested))

      opened_in : opened s templates' (depth + 1) beyond ≡ frame (part s beyond stop) inmost ∷ outside
      unfolding opened
      opened_in = opened_set templates (depth + 1) here s (depth + 1) beyond (omega arith) ∙ rw (add-one depth)

      pub push : h.template ≡ true → Reached s e All templates' (depth + 1) from (n + 1) k l
      unfolding Left
      push p =
          let z = levels in
          let d : 3 - suc (length outside) ≡ 3 - length outside - 1 = omega (arith, w.few) in
          record {
            four = length-set templates (depth + 1) here ∙ w.four;
            few = omega (arith, w.few);
            nested = rw here_is nested_in;
            tags = tags_in;
            fits = entered x;
            before = rw here_is (omega arith);
            same = λ r l' g.
                node_same x p (λ y. omega (arith, w.few)) r l'
                (subst (λ (j : ℕ). ListsTreeThen h.tag (parse_tree j (part s from beyond)) r
                (ListsTreeThen inmost (parse_tree (3 - length outside) (part s beyond stop)) r (K r l')) (n + 1)
                (unpacked_first_items s k l)) d
                (subst (λ (fs : List Frame). Left s r l' (frame (part s from beyond) h.tag ∷ fs) (n + 1)
                (unpacked_first_items s k l)) opened_in
                (rw here_is at g)));
          }
