-- The stages of a reading, which both readers share, are those of its definition: how it begins (`answer_begun`), the
-- body's one object (`outer_object_lem`), its objects as they are listed, and what is said of them.
-- Below each stage stands what a function that is at that stage promises, so that both readers' proofs cite it.
-- Assumes nothing.
use Rattle.std.specs.Prelude.{Some, None, Result, Ok, Err, Option}
use mathlib.Core.Path.{◌≡◌, refl, sym, ap, ap₂, subst, ◌∙◌}
use mathlib.Core.Bool.{Bool, true, false}
use mathlib.Core.List.{List, [], ◌∷◌, ◌++◌}
use Prim.Native.Nat.{ℕ, ◌+◌, ◌-◌, ◌≤◌, ◌<◌}
use native.Mathlib.Omega.{arith}
use lib.ListN.{length, take, drop, set, length-take, length-drop, length-set}
use lib.Seq.{take-take, drop-drop}
use lib.Dec.{eqb}
use borrow.Author.Tests.{eqb-true, eqb-false, lt-leb, leb-true}
use Rattle.std.specs.Prelude.{ok_or}
use Rattle.basics.specs.Choice.{if}
use Rattle.basics.proofs.Laws.{if_yes, if_no, if_ind, both_no_right, both_right}
use Rattle.tlv.specs.declared.TlvHeader.{TlvHeader}
use Rattle.tlv.specs.Object.{header_of, header_value}
use Rattle.tlv.specs.Tree.{Forest, object_count, parse_tree}
use Rattle.tlv.proofs.Laws.{Bytes, header_fits, contents, contents_is}
use Rattle.dictionary.specs.Rows.{store_size}
use Rattle.reading.specs.declared.Awaited.{Awaited}
use Rattle.reading.specs.declared.ResponseVerdict.{ResponseVerdict}
use Rattle.reading.specs.declared.ResponseVerdict.TheVariants.{Accepted, BadStatus, Malformed, NotAllowed}
use Rattle.reading.specs.declared.Reading.{Reading}
use Rattle.reading.specs.declared.VisitTally.{VisitTally}
use Rattle.reading.specs.Taking.{PrimitiveItem, primitive_item, StoringState, storing_state, store_all_items}
use Rattle.reading.specs.InnerItems.{packed_item, unpacked_items, unpacked_first_items, most_listed_items, IsItemList, tally}
use Rattle.reading.specs.InnerItems.{WalkListedItems, ListsTreeThen}
use Rattle.reading.specs.InnerPending.{store_with_pending}
use Rattle.reading.specs.Answer.{verdict_number, ReadingOutcome, reading_outcome, ReadingAndStoreMatchOutcome}
use Rattle.reading.specs.Answer.{primitive, template}
use Rattle.reading.specs.Answer.{template_body, body_of_one_object, parse_response_body}
use Rattle.reading.specs.Answer.{response_bit, primitive_body_items, reading_if_all_allowed, read_body_items}
use Rattle.reading.specs.Answer.{read_parsed_body, read_body}
use Rattle.reading.specs.Answer.{is_body_to_be_read, is_status9000, response_length_is2_to258, read_answer}
use Rattle.reading.specs.Both.{ReadAnswerPromises}
use Rattle.reading.specs.Inner.{reading_of, reading_beginning, outer_object_of_front, outer_object}
use Rattle.reading.specs.Inner.{reading_outcome_of_listing, ListingGivesReading}
use Rattle.reading.specs.Inner.{ListingGivesPrimitiveBodyReading, read_template, read_object, value_of_header}
use Rattle.reading.specs.Inner.{ResponseIsObject, OpenedResponseDescribesResponse}
use Rattle.reading.specs.Inner.{listing_of_template}
use Rattle.reading.proofs.Parts.{regive, judged_yes, template_right, template_wrong}
use Rattle.reading.proofs.Count.{answer_tree, answer_half}
use Rattle.reading.proofs.Items.{drop-take, front_bytes, item_packed, inside_packed, items_more, inside_more}
use Rattle.reading.proofs.Items.{tag_small}

-- ---- the beginning, and what is read from there

module _ (a : Awaited) (s : List ℕ) where
  pub begin_long : 258 < length s → reading_beginning a s ≡ Err Malformed
  unfolding reading_beginning response_length_is2_to258
  begin_long h = if_no _ _ (both_no_right _ _ (lt-leb _ _ h))

  -- a body is the answer's bytes before the status, 256 at most
  pub begin_size : (n : ℕ) → reading_beginning a s ≡ Ok n → (n ≡ length s - 2) × (n ≤ 256)
  unfolding reading_beginning response_length_is2_to258
  begin_size n =
      let P : Result ℕ ResponseVerdict → Type 0 = λ x. x ≡ Ok n → (n ≡ length s - 2) × (n ≤ 256) in
      if_ind P _ _ _
      (λ t. if_ind P _ _ _
      (λ u. if_ind P _ _ _ (λ v e. let z : length s - 2 ≡ n = cc in let m : length s ≤ 258 = leb-true _ _
      (both_right _ _ t) in (omega arith, omega arith)) (λ v e. none_here Accepted e))
      (λ u e. none_here BadStatus e))
      (λ t e. none_here Malformed e)
    where
      none_here : (v : ResponseVerdict) → Err v ≡ Ok n → (n ≡ length s - 2) × (n ≤ 256)
      none_here v e = let z : ◌≡◌ {A = ℕ} 0 1 = cc in absurd (omega arith)

  -- what a beginning leads to, into the store b
  module _ (b : List ℕ) where
    abbrev begun : Result ℕ ResponseVerdict → ReadingOutcome
    begun (Ok n) = read_body a b (take n s)
    begun (Err v) = reading_outcome (verdict_number v) 0 b

    answer_begun : read_answer a b s ≡ begun (reading_beginning a s)
    unfolding read_answer reading_beginning if
    answer_begun = by_tests (response_length_is2_to258 s) (is_status9000 s) (is_body_to_be_read a)
      where
        by_tests : (l t r : Bool)
            → if l (if t (if r (read_body a b (take (length s - 2) s)) (reading_outcome 0 0 b)) (reading_outcome 1 0 b))
            (reading_outcome 2 0 b)
            ≡ begun (if l (if t (if r (Ok (length s - 2)) (Err Accepted))
            (Err BadStatus)) (Err Malformed))
        by_tests true true true = refl
        by_tests true true false = refl
        by_tests true false r = refl
        by_tests false t r = refl

    pub answer_long : 258 < length s → read_answer a b s ≡ reading_outcome 2 0 b
    answer_long h = answer_begun ∙ ap begun (begin_long h)

-- ---- the body's one object

module _ (s : List ℕ) where
  -- a body that is one object has no byte after it
  abbrev Fits : Option TlvHeader → Type 0
  Fits None = Unit {0}
  Fits (Some h) = (header_of s ≡ Some h) × (h.start + h.len ≡ length s)

  fits_outer : Fits (outer_object s)
  unfolding outer_object
  fits_outer = go (header_of s) refl
    where
      go : (x : Option TlvHeader) → header_of s ≡ x → Fits (outer_object_of_front s x)
      go None e = tt
      go (Some h) e = if_ind Fits _ _ _ (λ t. (e, eqb-true _ _ t)) (λ t. tt)

  -- what an object leads to, into the store b
  module _ (a : Awaited) (b : List ℕ) where
    abbrev object_read : Option TlvHeader → ReadingOutcome
    object_read None = reading_outcome 2 0 b
    object_read (Some h) = read_object a h (header_value s h) b

    outer_object_lem : read_body a b s ≡ object_read (outer_object s)
    unfolding read_body parse_response_body outer_object if
    outer_object_lem = go (header_of s)
      where
        by_test : (h : TlvHeader) (t : Bool)
            → read_parsed_body a b
            (if t (if h.template (template_body h.tag (parse_tree 3 (header_value s h)))
            (Some (primitive h.tag (header_value s h)))) None)
            ≡ object_read (if t (Some h) None)
        by_test h true = refl
        by_test h false = refl

        go : (x : Option TlvHeader) → read_parsed_body a b (body_of_one_object s x) ≡ object_read (outer_object_of_front s x)
        go None = refl
        go (Some h) = by_test h (eqb (h.start + h.len) (length s))

-- what is read of an answer whose body is read: by its one object, with its places in the whole answer
module _ (a : Awaited) (s : List ℕ) (n : ℕ) (q : reading_beginning a s ≡ Ok n) where
  abbrev body : List ℕ
  body = take n s

  pub body_length : length body ≡ n
  body_length = let z = (begin_size a s n q).0 in simp length-take (omega arith)

  answer_object : (b : List ℕ) → read_answer a b s ≡ object_read body a b (outer_object body)
  answer_object b = answer_begun a s b ∙ ap (begun a s b) q ∙ outer_object_lem body a b

  module _ (h : TlvHeader) (e : header_of body ≡ Some h) where
    -- an object's places
    object_places : (2 ≤ h.start) × ((h.start + h.len ≤ length s) × (h.start + h.len ≤ 256))
    object_places =
        let f = header_fits body h e in
        let l = body_length in
        let z = begin_size a s n q in
        (f.two, (omega (arith, f.inside), omega (arith, f.inside)))

    value_here : header_value body h ≡ value_of_header s h
    value_here =
        let f = header_fits body h e in
        let l = body_length in
        let m : h.len ≤ n - h.start = omega (arith, f.inside) in
        ap (take h.len) (drop-take h.start n s) ∙ take-take h.len (n - h.start) (drop h.start s) m

  -- by the body's one object
  pub object_opened : Bytes s → {x : Option TlvHeader} → x ≡ outer_object body → {m : Reading}
      → m ≡ reading_of Malformed 0 → {y : Result TlvHeader Reading} → y ≡ ok_or x m
      → OpenedResponseDescribesResponse a s y
  object_opened i {x} p {m} q {y} r = rw (r, q) (go x (sym p) (subst (Fits body) (sym p) (fits_outer body)))
    where
      go : (x : Option TlvHeader) → outer_object body ≡ x → Fits body x
          → OpenedResponseDescribesResponse a s (ok_or x (reading_of Malformed 0))
      go None e f = λ b. answer_object b ∙ ap (object_read body a b) e
      go (Some h) e f =
          let o = object_places h f.0 in
          record {
            gives = λ b. answer_object b ∙ ap (object_read body a b) e
                ∙ ap (λ (v : List ℕ). read_object a h v b) (value_here h f.0);
            two = o.0;
            ends = o.1.0;
            short = o.1.1;
            tag = tag_small body h (front_bytes s n i) f.0;
          }

-- an answer that is decided by how it begins
pub begin_opened : (a : Awaited) (s : List ℕ) (v : ResponseVerdict) → reading_beginning a s ≡ Err v
    → OpenedResponseDescribesResponse a s (Err (reading_of v 0))
begin_opened a s v q b = answer_begun a s b ∙ ap (begun a s b) q

-- ---- the objects as they are listed

-- the outer object where it is primitive, by its parts
pub parts_listed : (a : Awaited) (s : List ℕ) (h : TlvHeader) (l : List ℕ) → ResponseIsObject a s h
    → h.template ≡ false → {y : Result VisitTally Reading}
    → ListingGivesPrimitiveBodyReading a (primitive_body_items a h.tag) h.start h.len y l
    → ListingGivesReading a s (λ b. read_answer a b s) y l
parts_listed a s h l i p g =
    let w = g s i.ends in
    record { gives = λ b. i.gives b ∙ ap (read_parsed_body a b) (if_no _ _ p) ∙ w.gives b; fits = w.fits }

-- a template by what the walk over its contents reports
module _ (a : Awaited) (t : ℕ) (s v l : List ℕ) where
  by_tree : (x : Option Forest) (w : Option VisitTally) → ListsTreeThen t x w (WalkListedItems s l w) 1 []
      → ListingGivesReading a s (λ b. read_parsed_body a b (template_body t x)) (listing_of_template a t w) l
  unfolding listing_of_template
  by_tree None w g = subst (λ (z : Option VisitTally). ListingGivesReading a s (λ b. read_parsed_body a b None)
      (listing_of_template a t z) l) (sym g)
      (record { gives = λ b. refl; fits = tt })
  by_tree (Some f) w g =
      let Q : Result VisitTally Reading → Type 0 = λ y. ListingGivesReading a s (λ b. read_parsed_body a b (Some (template t f))) y l in
      subst (λ (z : Option VisitTally). Q (listing_of_template a t z)) (sym g.reports)
      (if_ind Q _ _ _
      (λ e. record {
        gives = λ b.
            ap (read_body_items a b (1 + object_count f)) (template_right a t f (eqb-true _ _ e))
            ∙ ap (λ (is : List PrimitiveItem). reading_if_all_allowed b (1 + object_count f)
            (store_all_items (response_bit a) (storing_state true b) is)) (sym g.are);
        fits = g.items;
      })
      (λ e. record {
        gives = λ b. ap (read_body_items a b (1 + object_count f)) (template_wrong a t f (eqb-false _ _ e));
        fits = tt;
      }))

  pub closed_listed : (w : Option VisitTally) {y : Result VisitTally Reading}
      → ListsTreeThen t (parse_tree 3 v) w (WalkListedItems s l w) 1 []
      → y ≡ listing_of_template a t w → ListingGivesReading a s (read_template a t v) y l
  closed_listed w g d = rw d (by_tree (parse_tree 3 v) w g)

-- the outer object of an answer where it is a template
pub template_listed : (a : Awaited) (s : List ℕ) (h : TlvHeader) (l : List ℕ) → ResponseIsObject a s h
    → h.template ≡ true → (w : Option VisitTally) {y : Result VisitTally Reading}
    → ListsTreeThen h.tag (parse_tree 3 (contents s h.start h.len)) w (WalkListedItems s l w) 1 []
    → y ≡ listing_of_template a h.tag w → ListingGivesReading a s (λ b. read_answer a b s) y l
template_listed a s h l i p w g d =
    let c = closed_listed a h.tag s (contents s h.start h.len) l w g d in
    record {
      gives = λ b. i.gives b ∙ ap (read_parsed_body a b) (if_yes _ _ p)
          ∙ ap (λ (v : List ℕ). read_template a h.tag v b) (sym (contents_is s h.start h.len)) ∙ c.gives b;
      fits = c.fits;
    }

-- ---- the parts of a body under 80

-- the first k numbers of l are the objects `is` of s
pub record PartList (s : List ℕ) (k : ℕ) (l : List ℕ) (is : List PrimitiveItem) : Type 0 where
  pub list : IsItemList s k l
  pub are : unpacked_first_items s k l ≡ is

pub set_room : (l : List ℕ) (i x : ℕ) → length l ≡ most_listed_items → length (set l i x) ≡ most_listed_items
set_room l i x e = length-set l i x ∙ e

pub no_parts : (s l : List ℕ) → length l ≡ most_listed_items → PartList s 0 l []
unfolding unpacked_items
no_parts s l e = record { list = record { room = e; few = omega arith; inside = tt }; are = refl }

add_part : {s : List ℕ} {k : ℕ} {l : List ℕ} {is : List PrimitiveItem} → PartList s k l is → k < most_listed_items
    → (t p n : ℕ) → 1 ≤ p → p + n ≤ length s → p + n ≤ 256
    → n < 256 → (v : List ℕ) → take n (drop p s) ≡ v
    → PartList s (k + 1) (set l k (packed_item t 0x77 p n)) (is ++ (primitive_item 0x77 t v ∷ []))
add_part {s} {k} {l} {is} w h t p n i j m c v e =
    let x = packed_item t 0x77 p n in
    let q : p ≤ 256 = omega arith in
    let d : k < length l = omega (arith, w.list.room) in
    record {
      list = record {
        room = set_room l k x w.list.room;
        few = omega arith;
        inside = inside_more s l k x d w.list.inside (inside_packed t 0x77 p n (omega arith) i q c s j);
      };
      are =
          items_more s l k x d
          ∙ ap₂ (λ (js : List PrimitiveItem) (y : PrimitiveItem). js ++ (y ∷ [])) w.are
          (item_packed t 0x77 p n (omega arith) i q c s ∙ ap (primitive_item 0x77 t) e);
    }

-- parts of a value of n bytes that starts at a place: at its front, within it, and the rest of it
module _ (s : List ℕ) (start n : ℕ) where
  abbrev pub value : List ℕ
  value = take n (drop start s)

  value_size : start + n ≤ length s → length value ≡ n
  value_size h = simp (length-take, length-drop) (omega arith)

  module _ (a : 2 ≤ start) (b : start + n ≤ 256) (i : start + n ≤ length s) where
    pub front_part : (l : List ℕ) → length l ≡ most_listed_items → (t j : ℕ) → j ≤ n
        → PartList s 1 (set l 0 (packed_item t 0x77 start j)) (primitive_item 0x77 t (take j value) ∷ [])
    front_part l e t j h =
        add_part (no_parts s l e) (omega arith) t start j (omega arith) (omega arith) (omega arith) (omega arith)
        (take j value)
        (sym (take-take j n (drop start s) h))

    module _ {k : ℕ} {l : List ℕ} {is : List PrimitiveItem} (w : PartList s k l is) (t m : ℕ)
        (few : k < most_listed_items) where
      behind : drop m value ≡ take (n - m) (drop (start + m) s)
      behind = drop-take m n (drop start s) ∙ ap (take (n - m)) (drop-drop m start s)

      pub next_part : (j : ℕ) → m + j ≤ n
          → PartList s (k + 1) (set l k (packed_item t 0x77 (start + m) j))
          (is ++ (primitive_item 0x77 t (take j (drop m value)) ∷ []))
      next_part j h =
          add_part w few t (start + m) j (omega arith) (omega arith) (omega arith) (omega arith) (take j (drop m value))
          (sym (ap (take j) behind ∙ take-take j (n - m) (drop (start + m) s) (omega arith)))

      pub last_part : m ≤ n
          → PartList s (k + 1) (set l k (packed_item t 0x77 (start + m) (n - m)))
          (is ++ (primitive_item 0x77 t (drop m value) ∷ []))
      last_part h = add_part w few t (start + m) (n - m) (omega arith) (omega arith) (omega arith) (omega arith)
          (drop m value) (sym behind)

module _ (a : Awaited) (f : List ℕ → Option (List PrimitiveItem)) (start n : ℕ) (l : List ℕ) where
  pub parts_none : {r : Reading} → ((v : List ℕ) → length v ≡ n → f v ≡ None) → r ≡ reading_of Malformed 1
      → ListingGivesPrimitiveBodyReading a f start n (Err r) l
  parts_none h d s i =
      rw d (record { gives = λ b. ap (read_body_items a b 1) (h (value s start n) (value_size s start n i)); fits = tt })

  pub parts_some : (k : ℕ) (is : List ℕ → List PrimitiveItem) → ((v : List ℕ) → length v ≡ n → f v ≡ Some (is v))
      → ((s : List ℕ) → start + n ≤ length s → PartList s k l (is (value s start n)))
      → ListingGivesPrimitiveBodyReading a f start n (Ok (tally 1 k)) l
  parts_some k is h g s i =
      let w = g s i in
      record {
        gives = λ b.
            ap (read_body_items a b 1) (h (value s start n) (value_size s start n i))
            ∙ ap (λ (js : List PrimitiveItem). reading_if_all_allowed b 1
            (store_all_items (response_bit a) (storing_state true b) js))
            (sym w.are);
        fits = w.list;
      }

-- the parts of the answer c, where c is awaited
pub parts_for : {a c : Awaited} {f : List ℕ → Option (List PrimitiveItem)} (t start n : ℕ) {y : Result VisitTally Reading}
    {l : List ℕ}
    → a ≡ c
    → ((v : List ℕ) → primitive_body_items c t v ≡ f v) → ListingGivesPrimitiveBodyReading c f start n y l
    → ListingGivesPrimitiveBodyReading a (primitive_body_items a t) start n y l
parts_for {a} {c} {f} t start n {y} {l} e h g =
    subst (λ (z : Awaited). ListingGivesPrimitiveBodyReading z (primitive_body_items z t) start n y l)
    (sym e) here
  where
    here : ListingGivesPrimitiveBodyReading c (primitive_body_items c t) start n y l
    here s i =
        let w = g s i in
        record { gives = λ b. ap (read_body_items c b 1) (h (value s start n)) ∙ w.gives b; fits = w.fits }

-- ---- what is said of the objects

gives : (v : ResponseVerdict) (n : ℕ) (c : List ℕ) {r : Reading} {o : ReadingOutcome} → r ≡ reading_of v n
    → o ≡ reading_outcome (verdict_number v) n c → ReadingAndStoreMatchOutcome r c o
gives v n c e f = record {
  reason = ap (λ (x : Reading). verdict_number x.verdict) e ∙ ap (λ (x : ReadingOutcome). x.reason) (sym f);
  objects = ap (λ (x : Reading). x.objects) e ∙ ap (λ (x : ReadingOutcome). x.objects) (sym f);
  store = ap (λ (x : ReadingOutcome). x.store) (sym f);
}

-- the work that the objects of a listing leave
abbrev taken : Awaited → List ℕ → List ℕ → List ℕ → VisitTally → StoringState
taken a s b l t = store_all_items (response_bit a) (storing_state true b) (unpacked_first_items s t.items l)

module _ (a : Awaited) (s b l l' : List ℕ) {x : Result VisitTally Reading} where
  pub decided_given : (r : Reading) → x ≡ Err r
      → ReadingAndStoreMatchOutcome r (store_with_pending s b (take 0 l')) (reading_outcome_of_listing a s b x l)
  unfolding store_with_pending
  decided_given r e = rw e (record { reason = refl; objects = refl; store = refl })

  module _ (t : VisitTally) (e : x ≡ Ok t) {r : Reading} {p : ℕ} where
    pub refused_given : {v : ResponseVerdict} → (v ≡ NotAllowed) × ((taken a s b l t).good ≡ false)
        → r ≡ reading_of v t.objects → p ≡ 0
        → ReadingAndStoreMatchOutcome r (store_with_pending s b (take p l')) (reading_outcome_of_listing a s b x l)
    unfolding store_with_pending
    refused_given g d z =
        rw (z, e)
        (gives NotAllowed t.objects b (d ∙ ap (λ (w : ResponseVerdict). reading_of w t.objects) g.0) (if_no _ _ g.1))

    pub accepted_given : (k : ℕ) → taken a s b l t ≡ storing_state true (store_with_pending s b (take k l'))
        → r ≡ reading_of Accepted t.objects → p ≡ k
        → ReadingAndStoreMatchOutcome r (store_with_pending s b (take p l')) (reading_outcome_of_listing a s b x l)
    accepted_given k g d z =
        rw (z, e) (gives Accepted t.objects (store_with_pending s b (take k l')) d (judged_yes b t.objects g refl))

-- ---- the whole reading

module _ (a : Awaited) (s b : List ℕ) {x : Result VisitTally Reading} {l : List ℕ}
    (w : ListingGivesReading a s (λ b. read_answer a b s) x l)
    {r : Reading} {c : List ℕ}
    (g : ReadingAndStoreMatchOutcome r c (reading_outcome_of_listing a s b x l)) where
  pub answer_given : ReadingAndStoreMatchOutcome r c (read_answer a b s)
  answer_given = regive (sym (w.gives b)) g

  pub whole : length c ≡ store_size → ReadAnswerPromises a s b r c
  whole z =
      let t = answer_tree a b s answer_given in
      record { given = answer_given; sized = z; half = rw t (answer_half a s); tree = t }
