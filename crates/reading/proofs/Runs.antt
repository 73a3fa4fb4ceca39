-- A run of objects, one at a time, and whatever follows it: what is left of the run after an object lists what the
-- whole run lists. From the parse's laws; both walks cite these.
-- Assumes nothing.
use Rattle.std.specs.Prelude.{Some, None, Option}
use mathlib.Core.Path.{◌≡◌, refl, sym, ap, subst, ◌∙◌}
use mathlib.Core.Bool.{true, false}
use mathlib.Core.List.{List, [], ◌∷◌, ◌++◌, append_assoc, append-nil}
use Prim.Native.Nat.{ℕ, ◌+◌, ◌-◌, ◌≤◌, ◌<◌}
use native.Mathlib.Omega.{arith}
use lib.ListN.{length, get_or, set, length-append}
use borrow.Author.Tests.{ne_eqb}
use Rattle.basics.proofs.Laws.{if_no}
use Rattle.tlv.specs.declared.TlvHeader.{TlvHeader}
use Rattle.tlv.specs.declared.NextInTemplate.TheVariants.{End, Inner, Malformed}
use Rattle.tlv.specs.Object.{header_of, header_value, behind_object}
use Rattle.tlv.specs.Tree.{Forest, end, leaf, node, object_count, next_in_template_of_front, next_in_template, prepend_leaf}
use Rattle.tlv.specs.Tree.{prepend_node, parse_tree}
use Rattle.tlv.proofs.Laws.{Bytes, HeaderFits, header_fits}
use Rattle.tlv.proofs.NextObject.{next-empty, next_object}
use Rattle.tlv.proofs.Tree.{parse_end, parse_malformed, parse_deep, parse_node, parse_leaf, parse_count, zeros_in_front}
use Rattle.reading.specs.declared.VisitTally.{VisitTally}
use Rattle.reading.specs.Taking.{PrimitiveItem, primitive_item, primitive_items}
use Rattle.reading.specs.InnerItems.{packed_item, tally, most_listed_items, unpacked_first_items, TemplateWalkHasRoom}
use Rattle.reading.specs.InnerItems.{WalkListedItems, ListsTreeThen, WalkListsTree}
use Rattle.reading.proofs.Items.{part, part_empty, part_bytes, part_length, part_cons, object_inside, value_in}
use Rattle.reading.proofs.Items.{value_part, behind_part, tag_small}
use Rattle.reading.proofs.Items.{item_packed, inside_packed, items_more, items_listed, pass, enter, has_room}
use Rattle.reading.proofs.Items.{list, within}

pub whole_broken : (t : VisitTally) → Some t ≡ None → ⊥
whole_broken t e = let z : ◌≡◌ {A = ℕ} 0 1 = cc in omega arith

-- no object is next where none is at the front, unless padding is
pub next_broken : (b : ℕ) (v : List ℕ) → (b ≡ 0 → ⊥) → header_of (b ∷ v) ≡ None
    → next_in_template (b ∷ v) ≡ Malformed
unfolding next_in_template
next_broken b v n e = if_no _ _ (ne_eqb b 0 n) ∙ ap next_in_template_of_front e

-- ---- the ways that a run goes on, after n objects of which `is` are listed, with k after it

module _ (around : ℕ) (r : Option VisitTally) (k : ℕ → List PrimitiveItem → Type 0) (n : ℕ) (is : List PrimitiveItem)
  where
    on_leaf : (t : ℕ) (v : List ℕ) (x : Option Forest)
        → ListsTreeThen around x r k (n + 1) (is ++ (primitive_item around t v ∷ []))
        → ListsTreeThen around (prepend_leaf t v x) r k n is
    unfolding prepend_leaf object_count primitive_items
    on_leaf t v None h = h
    on_leaf t v (Some f) h =
        let e : n + 1 + object_count f ≡ n + (1 + object_count f) = omega arith in
        subst (λ (m : ℕ). k m (is ++ (primitive_item around t v ∷ primitive_items around f))) e
        (subst (k (n + 1 + object_count f)) (append_assoc is (primitive_item around t v ∷ []) (primitive_items around f))
        h)

    on_node : (t : ℕ) (x y : Option Forest) → ListsTreeThen t x r (ListsTreeThen around y r k) (n + 1) is
        → ListsTreeThen around (prepend_node t x y) r k n is
    unfolding prepend_node object_count primitive_items
    on_node t None y h = h
    on_node t (Some f) None h = h
    on_node t (Some f) (Some g) h =
        let e : n + 1 + object_count f + object_count g ≡ n + (1 + object_count f + object_count g) = omega arith in
        subst (λ (m : ℕ). k m (is ++ (primitive_items t f ++ primitive_items around g))) e
        (subst (k (n + 1 + object_count f + object_count g))
        (append_assoc is (primitive_items t f) (primitive_items around g)) h)

    module _ (l : ℕ) (v : List ℕ) where
      abbrev Here : Type 0
      Here = ListsTreeThen around (parse_tree l v) r k n is

      by_parse : (x : Option Forest) → parse_tree l v ≡ x → ListsTreeThen around x r k n is → Here
      by_parse x e h = subst (λ (z : Option Forest). ListsTreeThen around z r k n is) (sym e) h

      pub then_end : next_in_template v ≡ End → k n is → Here
      unfolding object_count primitive_items
      then_end e h = let z : n ≡ n + 0 = omega arith in
          by_parse (Some end) (parse_end l v e)
          (subst (λ (m : ℕ). k m (is ++ [])) z (subst (k n) (sym (append-nil is)) h))

      pub then_malformed : next_in_template v ≡ Malformed → r ≡ None → Here
      then_malformed e h = by_parse None (parse_malformed l v e) h

      pub then_padding : (w : List ℕ) → w ≡ 0 ∷ v → Here → ListsTreeThen around (parse_tree l w) r k n is
      then_padding w e h =
          subst (λ (z : Option Forest). ListsTreeThen around z r k n is)
          (sym (ap (parse_tree l) e ∙ zeros_in_front 1 l v))
          h

      module _ (h : TlvHeader) (e : next_in_template v ≡ Inner h) where
        pub then_deep : h.template ≡ true → l ≡ 0 → r ≡ None → Here
        then_deep p z q = by_parse None (parse_deep l v h e p z) q

        pub then_leaf : h.template ≡ false
            → ListsTreeThen around (parse_tree l (behind_object v h)) r k (n + 1)
            (is ++ (primitive_item around h.tag (header_value v h) ∷ [])) → Here
        then_leaf p g = by_parse _ (parse_leaf l v h e p) (on_leaf h.tag _ _ g)

        pub then_node : h.template ≡ true → (l ≡ 0 → ⊥)
            → ListsTreeThen h.tag (parse_tree (l - 1) (header_value v h)) r
            (ListsTreeThen around (parse_tree l (behind_object v h)) r k) (n + 1) is → Here
        then_node p z g = by_parse _ (parse_node l v h e p z) (on_node h.tag _ _ g)

-- ---- a run that was walked to its end, and what follows it

module _ (s : List ℕ) (around : ℕ) (n : ℕ) (is : List PrimitiveItem) (l : List ℕ) where
  -- where it was broken, so is all
  pub broken_run : (x : Option Forest) (k : ℕ → List PrimitiveItem → Type 0)
      → ListsTreeThen around x None (WalkListedItems s l None) n is → ListsTreeThen around x None k n is
  broken_run None k h = refl
  broken_run (Some f) k h = absurd (whole_broken _ (sym h.reports))

  module _ (u : VisitTally) where
    -- where it was whole, what is after it goes on with its tally and list
    pub whole_run : (x : Option Forest) (r : Option VisitTally) (k : ℕ → List PrimitiveItem → Type 0)
        → ListsTreeThen around x (Some u) (WalkListedItems s l (Some u)) n is
        → k u.objects (unpacked_first_items s u.items l) → ListsTreeThen around x r k n is
    whole_run None r k h g = absurd (whole_broken u h)
    whole_run (Some f) r k h g =
        let e : u ≡ tally (n + object_count f) (length (is ++ primitive_items around f)) = cc in
        let i : unpacked_first_items s u.items l ≡ is ++ primitive_items around f =
        ap (λ (z : VisitTally). unpacked_first_items s z.items l) e
        ∙ h.are in
        subst (λ (m : ℕ). k m (is ++ primitive_items around f)) (ap (λ (z : VisitTally). z.objects) e)
        (subst (k u.objects) i g)

few_items : (around : ℕ) (f : Forest) → length (primitive_items around f) ≤ object_count f
unfolding primitive_items object_count
few_items around end = omega arith
few_items around (leaf t v r) = let i = few_items around r in omega arith
few_items around (node t f r) =
    let i = few_items t f in
    let j = few_items around r in
    simp length-append (omega arith)

-- ---- where a walk stands: at a place of a template's contents, which end at `stop`, after n objects, k listed in l

-- K is what follows the template, All what the whole walk promises
pub record Run (s : List ℕ) (e stop levels around : ℕ) (K : Option VisitTally → List ℕ → ℕ → List PrimitiveItem
    → Type 0)
    (All : Option VisitTally → List ℕ → Type 0)
    (at n k : ℕ) (l : List ℕ) : Type 0 where
  pub fits : TemplateWalkHasRoom s at e n k l
  pub before : at ≤ stop
  pub inside : stop ≤ e
  pub tag : around < 0x1000000
  pub same : (r : Option VisitTally) (l' : List ℕ)
      → ListsTreeThen around (parse_tree levels (part s at stop)) r (K r l') n (unpacked_first_items s k l) → All r l'

-- what was found at the end of all contents is reported
pub has_listed : {s : List ℕ} {a e n k : ℕ} {l : List ℕ} → TemplateWalkHasRoom s a e n k l
    → WalkListedItems s l (Some (tally n k)) n (unpacked_first_items s k l)
has_listed {s} {a} {e} {n} {k} {l} w =
    let c = items_listed w in
    record {
      reports = ap (λ (m : ℕ). Some (tally n m)) (sym c);
      items = rw c (record { room = w.room; few = omega (arith, w.fewer, w.half); inside = w.inside });
      are = rw c;
    }

module _ {s : List ℕ} {e stop levels around : ℕ} {K : Option VisitTally → List ℕ → ℕ → List PrimitiveItem → Type 0}
    {All : Option VisitTally → List ℕ → Type 0}
    {at n k : ℕ} {l : List ℕ} (w : Run s e stop levels around K All at n k l) where
  pub stops : stop ≤ length s
  stops = omega (arith, w.inside, w.fits.ends)

  pub ended : stop ≤ at → (r : Option VisitTally) (l' : List ℕ) → K r l' n (unpacked_first_items s k l) → All r l'
  ended z r l' h =
      w.same r l'
      (then_end around r (K r l') n _ levels _ (next-empty _ (ap length (part_empty s at stop z))) h)

  -- a walk that stands elsewhere in the same contents
  on : {at' n' k' : ℕ} {l₁ : List ℕ} → TemplateWalkHasRoom s at' e n' k' l₁ → at' ≤ stop
      → ((r : Option VisitTally) (l' : List ℕ) → ListsTreeThen around (parse_tree levels (part s at' stop)) r (K r l')
      n'
      (unpacked_first_items s k' l₁) → All r l')
      → Run s e stop levels around K All at' n' k' l₁
  on f b h = record { fits = f; before = b; inside = w.inside; tag = w.tag; same = h }

  module _ (m : at < stop) where
    rest_cons : part s at stop ≡ get_or s at 0 ∷ part s (at + 1) stop
    rest_cons = part_cons s at stop stops m

    pub padding : get_or s at 0 ≡ 0 → Run s e stop levels around K All (at + 1) n k l
    padding q =
        on (pass w.fits (at + 1) (omega (arith, w.inside)) (omega arith)) (omega arith)
        (λ r l' h. w.same r l'
        (then_padding around r (K r l') n _ levels _ _ (rest_cons ∙ ap (λ (b : ℕ). b ∷ part s (at + 1) stop) q) h))

    pub failed : (get_or s at 0 ≡ 0 → ⊥) → header_of (part s at stop) ≡ None → (l' : List ℕ) → All None l'
    failed q x l' =
        w.same None l'
        (then_malformed around None (K None l') n _ levels _
        (ap next_in_template rest_cons ∙ next_broken _ _ q (ap header_of (sym rest_cons) ∙ x)) refl)

-- the object that is next there, in bytes
pub record Next (s : List ℕ) (e stop levels around : ℕ) (K : Option VisitTally → List ℕ → ℕ → List PrimitiveItem
    → Type 0)
    (All : Option VisitTally → List ℕ → Type 0)
    (at n k : ℕ) (l : List ℕ) (w : Run s e stop levels around K All at n k l) (h : TlvHeader) : Type 0 where
  pub bytes : Bytes s
  pub more : at < stop
  pub is : header_of (part s at stop) ≡ Some h

pub next_here : {s : List ℕ} {e stop levels around : ℕ} {K : Option VisitTally → List ℕ → ℕ → List PrimitiveItem → Type 0}
    {All : Option VisitTally → List ℕ → Type 0}
    {at n k : ℕ} {l : List ℕ} (w : Run s e stop levels around K All at n k l) {h : TlvHeader}
    → Bytes s → at < stop → {x : Option TlvHeader} → x ≡ header_of (part s at stop) → x ≡ Some h
    → Next s e stop levels around K All at n k l w h
next_here w b m p q = record { bytes = b; more = m; is = sym p ∙ q }

module _ {s : List ℕ} {e stop levels around : ℕ} {K : Option VisitTally → List ℕ → ℕ → List PrimitiveItem → Type 0}
    {All : Option VisitTally → List ℕ → Type 0}
    {at n k : ℕ} {l : List ℕ} {w : Run s e stop levels around K All at n k l} {h : TlvHeader}
    (x : Next s e stop levels around K All at n k l w h) where
  -- what is left of the contents, and where the object's value starts and ends
  abbrev rest : List ℕ
  rest = part s at stop

  abbrev from : ℕ
  from = at + h.start

  abbrev beyond : ℕ
  beyond = from + h.len

  fits : HeaderFits rest h
  fits = header_fits rest h x.is

  next : next_in_template rest ≡ Inner h
  next = next_object rest h x.is

  pub bounds : (2 ≤ h.start) × ((beyond ≤ stop) × (beyond ≤ e))
  bounds = let o = object_inside s at stop (stops w) h fits in (o.0, (o.1, omega (arith, w.inside)))

  pub small : h.tag < 0x1000000
  small = tag_small rest h (part_bytes s at stop x.bytes) x.is

  pub list_length : length l ≡ most_listed_items
  list_length = w.fits.room

  pub deep : h.template ≡ true → levels ≡ 0 → (l' : List ℕ) → All None l'
  deep p q l' = w.same None l' (then_deep around None (K None l') n _ levels rest h next p q refl)

  -- a primitive object is listed
  abbrev number : ℕ
  number = packed_item h.tag around from h.len

  pub number_fits : (h.tag < 0x1000000) × (around < 0x1000000) × (1 ≤ from) × (from ≤ 256) × (h.len < 256)
  number_fits = let b = bounds in
      (small, w.tag, omega arith, omega (arith, w.fits.short), omega (arith, w.fits.short))

  pub room : k < most_listed_items
  room = let b = bounds in has_room w.fits beyond b.1.1 (omega arith)

  pub listed : h.template ≡ false → Run s e stop levels around K All beyond (n + 1) (k + 1) (set l k number)
  listed p =
      let b = bounds in
      let f = number_fits in
      let v = item_packed h.tag around from h.len f.1 f.2 f.3 f.4 s
      ∙ ap (primitive_item around h.tag) (sym (value_in s at stop (stops w) h fits)) in
      let m = items_more s l k number (omega (arith, room, list_length))
      ∙ ap (λ (i : PrimitiveItem). unpacked_first_items s k l ++ (i ∷ [])) v in
      on w
      (list w.fits beyond b.1.1 (omega arith) number
      (inside_packed h.tag around from h.len f.1 f.2 f.3 f.4 s (omega (arith, stops w))))
      b.1.0
      (λ r l' g. w.same r l'
      (then_leaf around r (K r l') n _ levels rest h next p (rw (m, behind_part s at stop (stops w) h fits) at g)))

  -- a template, what it holds, and what follows it
  pub entered : TemplateWalkHasRoom s from e (n + 1) k l
  entered = let b = bounds in enter w.fits from (omega arith) (omega arith)

  pub entered_alone : TemplateWalkHasRoom s from beyond (n + 1) k l
  entered_alone = within entered beyond (omega arith) bounds.1.1

  module _ (p : h.template ≡ true) (q : levels ≡ 0 → ⊥) where
    abbrev tree : Option Forest
    tree = parse_tree (levels - 1) (part s from beyond)

    pub node_same : (r : Option VisitTally) (l' : List ℕ)
        → ListsTreeThen h.tag tree r (ListsTreeThen around (parse_tree levels (part s beyond stop)) r (K r l'))
        (n + 1)
        (unpacked_first_items s k l) → All r l'
    node_same r l' g =
        w.same r l'
        (then_node around r (K r l') n _ levels rest h next p q
        (rw (value_part s at stop (stops w) h fits, behind_part s at stop (stops w) h fits) at g))

    -- whose contents a walk has reported
    module _ (l₁ : List ℕ) where
      pub inner_broken : WalkListsTree s h.tag tree (n + 1) k l None l₁ → (l' : List ℕ) → All None l'
      inner_broken g l' = node_same None l' (broken_run s h.tag (n + 1) _ l₁ tree _ g)

      inner_fits : (u : VisitTally) (f : Option Forest) → tree ≡ f → WalkListsTree s h.tag f (n + 1) k l (Some u) l₁
          → TemplateWalkHasRoom s beyond e u.objects u.items l₁
      inner_fits u None z g = absurd (whole_broken u g)
      inner_fits u (Some f) z g =
          let is = primitive_items h.tag f in
          let i : u ≡ tally (n + 1 + object_count f) (length (unpacked_first_items s k l ++ is)) = cc in
          let o : u.objects ≡ n + 1 + object_count f = ap (λ (t : VisitTally). t.objects) i in
          let y : u.items ≡ length (unpacked_first_items s k l ++ is) = ap (λ (t : VisitTally). t.items) i in
          let j = length-append (unpacked_first_items s k l) is in
          let d = items_listed w.fits in
          let a = few_items h.tag f in
          let c = parse_count (levels - 1) (part s from beyond) f z in
          let m = part_length s from beyond (omega (arith, stops w, bounds.1.0)) in
          record {
            begins = bounds.1.1;
            ends = w.fits.ends;
            short = w.fits.short;
            fewer = omega (arith, w.fits.fewer);
            half = omega (arith, w.fits.half, bounds);
            room = g.items.room;
            inside = rw y g.items.inside;
          }

      pub inner_whole : (u : VisitTally) → WalkListsTree s h.tag tree (n + 1) k l (Some u) l₁
          → Run s e stop levels around K All beyond u.objects u.items l₁
      inner_whole u g =
          on w (inner_fits u tree refl g) bounds.1.0
          (λ r l' y. node_same r l' (whole_run s h.tag (n + 1) _ l₁ u tree r _ g y))
