-- Contents that share no tag. The objects of their trees have different tags at every depth (`apart`), so
-- proofs/Taking's two lists meet in one store; joined contents parse to the joined tree, whose objects are those of the
-- one after those of the other.
-- Assumes nothing.
use Rattle.std.specs.Prelude.{Option, Some, None}
use mathlib.Core.Path.{◌≡◌, refl, sym, ap, subst, ◌∙◌}
use mathlib.Core.Bool.{true}
use mathlib.Core.Logic.{inl, inr}
use mathlib.Core.List.{List, [], ◌∷◌, ◌++◌, append_assoc}
use Prim.Native.Nat.{ℕ, ◌+◌}
use native.Mathlib.Omega.{arith}
use lib.ListN.{length}
use borrow.Author.Tests.{eq-eqb}
use Rattle.basics.proofs.Laws.{bool_cases, either_left, either_right}
use Rattle.tlv.specs.Tree.{Forest, end, leaf, node, object_count}
use Rattle.tlv.proofs.Tree.{join, parse_join}
use Rattle.dictionary.specs.Rows.{store_size, in_record_response}
use Rattle.reading.specs.declared.Awaited.{Awaited}
use Rattle.reading.specs.declared.Awaited.TheVariants.{Record}
use Rattle.reading.specs.Taking.{PrimitiveItem, primitive_item, primitive_items, storing_state, store_all_items}
use Rattle.reading.specs.Answer.{ReadingOutcome, reading_outcome, template_body, reading_if_all_allowed, read_body_items}
use Rattle.reading.specs.Answer.{read_parsed_body}
use Rattle.reading.proofs.Kept.{All}
use Rattle.reading.proofs.Parts.{judged_yes, judged_no, template_right}
use Rattle.laws.specs.Records.{tree_has_primitive_tag, record_contents_tree, ShareNoPrimitiveTag, read_record_contents}
use Rattle.laws.specs.Records.{ReadingAccepted, RecordContentsCommuteAndJoin}
use Rattle.laws.proofs.Taking.{Run, run_is, run_of, run_join, past_lists}

-- ---- the objects of a tree, by their tags

all_join : (Q : PrimitiveItem → Type 0) (is js : List PrimitiveItem) → All Q is → All Q js → All Q (is ++ js)
all_join Q [] js h k = k
all_join Q (i ∷ is) js h k = (h.0, all_join Q is js h.1 k)

-- what holds of every tag that a tree brings holds of its objects
all_items : (Q : ℕ → Type 0) (a : ℕ) (f : Forest) → ((t : ℕ) → tree_has_primitive_tag t f ≡ true → Q t)
    → All (λ i. Q i.tag) (primitive_items a f)
unfolding tree_has_primitive_tag primitive_items
all_items Q a end h = tt
all_items Q a (leaf t v r) h =
    (h t (either_left _ _ (eq-eqb t t refl)), all_items Q a r (λ u e. h u (either_right _ _ e)))
all_items Q a (node t f r) h =
    all_join (λ i. Q i.tag) (primitive_items t f) (primitive_items a r)
    (all_items Q t f (λ u e. h u (either_left _ _ e))) (all_items Q a r (λ u e. h u (either_right _ _ e)))

-- the objects of two trees that share no tag
apart : (f g : Forest) → ((t : ℕ) → tree_has_primitive_tag t f ≡ true → tree_has_primitive_tag t g ≡ true → ⊥)
    → All (λ i. All (λ j. i.tag ≡ j.tag → ⊥) (primitive_items 0x70 g)) (primitive_items 0x70 f)
apart f g h =
    all_items (λ t. All (λ j. t ≡ j.tag → ⊥) (primitive_items 0x70 g)) 0x70 f
    (λ t p. all_items (λ u. t ≡ u → ⊥) 0x70 g
    (λ u q e. h t p (subst (λ (n : ℕ). tree_has_primitive_tag n g ≡ true) (sym e) q)))

items_join : (a : ℕ) (f g : Forest) → primitive_items a (join f g) ≡ primitive_items a f ++ primitive_items a g
unfolding primitive_items join
items_join a end g = refl
items_join a (leaf t v r) g = ap (λ (l : List PrimitiveItem). primitive_item a t v ∷ l) (items_join a r g)
items_join a (node t f r) g = ap (λ (l : List PrimitiveItem). primitive_items t f ++ l) (items_join a r g) ∙ sym
    (append_assoc (primitive_items t f) (primitive_items a r) (primitive_items a g))

-- ---- contents that are accepted: their tree, and its objects are all taken

record Read (b c d : List ℕ) : Type 0 where
  tree : Forest
  parsed : record_contents_tree c ≡ Some tree
  run : Run in_record_response b (primitive_items 0x70 tree) d

abbrev a_record : Awaited
a_record = Record (record { number = 1 })

by_tree : (b c : List ℕ) (f : Forest) → record_contents_tree c ≡ Some f → read_record_contents c b ≡ reading_if_all_allowed b
    (1 + object_count f) (store_all_items in_record_response (storing_state true b) (primitive_items 0x70 f))
by_tree b c f p =
    ap (λ (x : Option Forest). read_parsed_body a_record b (template_body 0x70 x)) p
    ∙ ap (read_body_items a_record b (1 + object_count f)) (template_right a_record 0x70 f refl)

read_is : {b c d : List ℕ} (r : Read b c d) → read_record_contents c b ≡ reading_outcome 0 (1 + object_count r.tree) d
read_is {b} {c} r = by_tree b c r.tree r.parsed ∙ judged_yes b _ (run_is in_record_response r.run) refl

read_accepted : {b c d : List ℕ} → Read b c d → ReadingAccepted (read_record_contents c) b
read_accepted r = ap (λ (o : ReadingOutcome). o.reason) (read_is r)

read_store : {b c d : List ℕ} → Read b c d → (read_record_contents c b).store ≡ d
read_store r = ap (λ (o : ReadingOutcome). o.store) (read_is r)

accepted_read : (b c : List ℕ) → length b ≡ store_size → ReadingAccepted (read_record_contents c) b
    → Read b c (read_record_contents c b).store
accepted_read b c l a = go (record_contents_tree c) refl
  where
    go : (x : Option Forest) → record_contents_tree c ≡ x → Read b c (read_record_contents c b).store
    go None p =
        let e : ◌≡◌ {A = ℕ} 2 0 =
        sym (ap (λ (x : Option Forest). (read_parsed_body a_record b (template_body 0x70 x)).reason) p) ∙ a in
        absurd (omega arith)
    go (Some f) p =
        elim (bool_cases (store_all_items in_record_response (storing_state true b) (primitive_items 0x70 f)).good) [
          | inl g ↦
              let w = store_all_items in_record_response (storing_state true b) (primitive_items 0x70 f) in
              let e = by_tree b c f p ∙ judged_yes b (1 + object_count f) refl g in
              record {
                tree = f;
                parsed = p;
                run =
                    subst (λ (d : List ℕ). Run in_record_response b (primitive_items 0x70 f) d)
                    (sym (ap (λ (o : ReadingOutcome). o.store) e))
                    (run_of in_record_response b (primitive_items 0x70 f) w.store l
                    (ap (λ t. storing_state t w.store) g));
              }
          | inr g ↦
              let e : ◌≡◌ {A = ℕ} 3 0 =
              sym (ap (λ (o : ReadingOutcome). o.reason) (by_tree b c f p ∙ judged_no b (1 + object_count f) refl g)) ∙
              a in
              absurd (omega arith)
        ]

-- contents after one another, as one content
read_join : {b c d x y : List ℕ} → Read b c x → (r : Read x d y) → Read b (c ++ d) y
read_join {b} {c} {d} {x} {y} q r = record {
  tree = join q.tree r.tree;
  parsed = parse_join 3 c d q.tree r.tree q.parsed r.parsed;
  run = subst (λ (is : List PrimitiveItem). Run in_record_response b is y) (sym (items_join 0x70 q.tree r.tree))
      (run_join in_record_response q.run r.run);
}

-- ---- the law

pub contents_agree : (b c d : List ℕ) → length b ≡ store_size → ShareNoPrimitiveTag c d
    → ReadingAccepted (read_record_contents c) b → ReadingAccepted (read_record_contents d) b
    → RecordContentsCommuteAndJoin b c d
contents_agree b c d l share p q =
    let r = accepted_read b c l p in
    let s = accepted_read b d l q in
    let z = past_lists in_record_response (apart r.tree s.tree (tags r s)) r.run s.run in
    let second : Read (read_record_contents c b).store d z.0 =
    record { tree = s.tree; parsed = s.parsed; run = z.1 } in
    let first : Read (read_record_contents d b).store c z.0 =
    record { tree = r.tree; parsed = r.parsed; run = z.2 } in
    let joined = read_join r second in
    let swapped = read_join s first in
    record {
      orders = record {
        behind_first = read_accepted second;
        behind_second = read_accepted first;
        store =
            read_store second ∙ sym (read_store first);
      };
      joined = record { accepted = read_accepted joined; store = read_store joined ∙ sym (read_store second) };
      swapped = record { accepted = read_accepted swapped; store = read_store swapped ∙ sym (read_store second) };
    }
  where
    tags : {x y : List ℕ} (r : Read b c x) (s : Read b d y) (t : ℕ) → tree_has_primitive_tag t r.tree ≡ true
        → tree_has_primitive_tag t s.tree ≡ true → ⊥
    tags r s t e f =
        share t (rw r.parsed e) (rw s.parsed f)
