-- Objects in numbers, on lists and numbers: the laws of packing, a part of the bytes and the object in it, and what one
-- step of a walk does to the list and to what the walk must find (`TemplateWalkHasRoom`).
-- Assumes nothing.
use Rattle.std.specs.Prelude.{Option, Some, None}
use Rattle.tlv.specs.declared.TlvLength.{TlvLength}
use mathlib.Core.Path.{◌≡◌, refl, sym, ap, ap₂, ◌∙◌}
use mathlib.Core.List.{List, [], ◌∷◌, ◌++◌}
use Prim.Native.Nat.{ℕ, zero, suc, ◌+◌, ◌-◌, ◌≤◌, ◌<◌}
use native.Mathlib.Numerals.{add-one}
use native.Mathlib.Omega.{arith}
use lib.ListN.{length, get_or, set, take, drop, length-take, length-drop, length-set}
use lib.Seq.{take-nil, take-take, take-suc-set, drop-drop, drop-cons, get_or-drop, length-take-le}
use Rattle.basics.specs.Number.{big_endian_number}
use Rattle.basics.proofs.Laws.{if_ind}
use Rattle.tlv.specs.declared.Tag.{Tag}
use Rattle.tlv.specs.declared.TlvHeader.{TlvHeader}
use Rattle.tlv.specs.Tag.{tag_at}
use Rattle.tlv.specs.Length.{length_at}
use Rattle.tlv.specs.Object.{header_of, header_with_length, header_with_tag, header_value, behind_object}
use Rattle.tlv.proofs.Laws.{Bytes, contents_is, number_one, number_two, number_three, tag_fits, HeaderFits}
use Rattle.reading.specs.Taking.{PrimitiveItem, primitive_item}
use Rattle.reading.specs.InnerItems.{packed_item, packed_item_tag, packed_item_template_tag, packed_item_value_start}
use Rattle.reading.specs.InnerItems.{packed_item_value_length, packed_item_value_in, unpacked_item}
use Rattle.reading.specs.InnerItems.{most_listed_items, unpacked_items, ItemValueInside, AllItemValuesInside}
use Rattle.reading.specs.InnerItems.{unpacked_first_items, TemplateWalkHasRoom}

-- ---- packing

module _ (t a p n : ℕ) (around : a < 0x1000000) (some : 1 ≤ p) (place : p ≤ 256) (short : n < 256) where
  abbrev packed : ℕ
  packed = packed_item t a p n

  pub unpacked : (packed_item_tag packed ≡ t)
      × ((packed_item_template_tag packed ≡ a) × ((packed_item_value_start packed ≡ p) × (packed_item_value_length packed ≡ n)))
  unpacked = (omega arith, (omega arith, (omega arith, omega arith)))

  pub item_packed : (s : List ℕ) → unpacked_item s packed ≡ primitive_item a t (take n (drop p s))
  item_packed s = rw (unpacked.0, unpacked.1.0, unpacked.1.1.0, unpacked.1.1.1)

  pub inside_packed : (s : List ℕ) → p + n ≤ length s → ItemValueInside s packed
  inside_packed s h = rw (unpacked.1.1.0, unpacked.1.1.1) h

-- the bytes that the code takes for a value
pub code_value : (s : List ℕ) (x a n : ℕ) → a ≡ packed_item_value_start x → n ≡ packed_item_value_length x
    → take (a + n - a) (drop a s) ≡ packed_item_value_in s x
code_value s x a n p q = contents_is s a n ∙ ap₂ (λ (i j : ℕ). take i (drop j s)) q p

-- ---- lists

pub items_join : (s xs ys : List ℕ) → unpacked_items s (xs ++ ys) ≡ unpacked_items s xs ++ unpacked_items s ys
unfolding unpacked_items
items_join s [] ys = refl
items_join s (x ∷ xs) ys = ap (λ (is : List PrimitiveItem). unpacked_item s x ∷ is) (items_join s xs ys)

items_length : (s xs : List ℕ) → length (unpacked_items s xs) ≡ length xs
unfolding unpacked_items
items_length s [] = refl
items_length s (x ∷ xs) = ap suc (items_length s xs)

pub items_count : (s : List ℕ) (k : ℕ) (l : List ℕ) → k ≤ length l → length (unpacked_first_items s k l) ≡ k
items_count s k l h = items_length s (take k l) ∙ length-take-le k l h

pub inside_join : (s xs ys : List ℕ) → AllItemValuesInside s xs → AllItemValuesInside s ys
    → AllItemValuesInside s (xs ++ ys)
inside_join s [] ys h i = i
inside_join s (x ∷ xs) ys h i = (h.0, inside_join s xs ys h.1 i)

pub inside_at : (s xs : List ℕ) (i : ℕ) → AllItemValuesInside s xs → i < length xs → ItemValueInside s (get_or xs i 0)
inside_at s [] i h l = absurd (omega arith)
inside_at s (x ∷ xs) zero h l = h.0
inside_at s (x ∷ xs) (suc i) h l = inside_at s xs i h.1 (omega arith)

-- one object more
module _ (s l : List ℕ) (k x : ℕ) (h : k < length l) where
  one_more : take (k + 1) (set l k x) ≡ take k l ++ (x ∷ [])
  one_more = rw (add-one k) (take-suc-set l k x h)

  pub items_more : unpacked_first_items s (k + 1) (set l k x) ≡ unpacked_first_items s k l ++ (unpacked_item s x ∷ [])
  unfolding unpacked_items
  items_more = ap (unpacked_items s) one_more ∙ items_join s (take k l) (x ∷ [])

  pub inside_more : AllItemValuesInside s (take k l) → ItemValueInside s x
      → AllItemValuesInside s (take (k + 1) (set l k x))
  inside_more i v = rw one_more (inside_join s (take k l) (x ∷ []) i (v, tt))

-- ---- a part of the bytes, as the code makes it

pub drop-take : (m n : ℕ) (l : List ℕ) → drop m (take n l) ≡ take (n - m) (drop m l)
drop-take zero n l = let e : n ≡ n - 0 = omega arith in ap (λ (k : ℕ). take k l) e
drop-take (suc m) zero l = let e : 0 ≡ 0 - suc m = omega arith in ap (λ (k : ℕ). take k (drop (suc m) l)) e
drop-take (suc m) (suc n) [] = sym (take-nil (suc n - suc m))
drop-take (suc m) (suc n) (x ∷ l) = let e : n - m ≡ suc n - suc m = omega arith in
    drop-take m n l ∙ ap (λ (k : ℕ). take k (drop m l)) e

abbrev pub part : List ℕ → ℕ → ℕ → List ℕ
part s a e = take (e - a) (drop a s)

pub part_empty : (s : List ℕ) (a e : ℕ) → e ≤ a → part s a e ≡ []
part_empty s a e h = let z : e - a ≡ 0 = omega arith in rw z

pub front_bytes : (v : List ℕ) (n : ℕ) → Bytes v → Bytes (take n v)
front_bytes v zero h i = omega arith
front_bytes [] (suc n) h i = omega arith
front_bytes (x ∷ v) (suc n) h zero = h 0
front_bytes (x ∷ v) (suc n) h (suc i) = front_bytes v n (λ j. h (suc j)) i

pub part_bytes : (s : List ℕ) (a e : ℕ) → Bytes s → Bytes (part s a e)
part_bytes s a e b = front_bytes (drop a s) (e - a) (λ j. rw (get_or-drop a s j 0) (b (a + j)))

module _ (s : List ℕ) (a e : ℕ) (ends : e ≤ length s) where
  pub part_length : length (part s a e) ≡ e - a
  part_length = simp (length-take, length-drop) (omega arith)

  pub part_cons : a < e → part s a e ≡ get_or s a 0 ∷ part s (a + 1) e
  part_cons h =
      let n : e - a ≡ suc (e - (a + 1)) = omega arith in
      let d : drop a s ≡ get_or s a 0 ∷ drop (a + 1) s = rw (add-one a) (drop-cons s a 0 (omega arith)) in
      ap₂ take n d

  -- the object in it
  module _ (h : TlvHeader) (f : HeaderFits (part s a e) h) where
    pub object_inside : (2 ≤ h.start) × (a + h.start + h.len ≤ e)
    object_inside = let l = part_length in (f.two, omega (arith, f.inside, f.two))

    pub value_in : header_value (part s a e) h ≡ take h.len (drop (a + h.start) s)
    value_in =
        let i = object_inside in
        let m : h.len ≤ e - a - h.start = omega arith in
        ap (take h.len) (drop-take h.start (e - a) (drop a s))
        ∙ take-take h.len (e - a - h.start) (drop h.start (drop a s)) m
        ∙ ap (take h.len) (drop-drop h.start a s)

    pub value_part : part s (a + h.start) (a + h.start + h.len) ≡ header_value (part s a e) h
    value_part =
        let n : a + h.start + h.len - (a + h.start) ≡ h.len = omega arith in
        ap (λ (k : ℕ). take k (drop (a + h.start) s)) n ∙ sym value_in

    pub behind_part : part s (a + h.start + h.len) e ≡ behind_object (part s a e) h
    behind_part =
        let n : e - a - (h.start + h.len) ≡ e - (a + h.start + h.len) = omega arith in
        let m : a + (h.start + h.len) ≡ a + h.start + h.len = omega arith in
        sym
        (drop-take (h.start + h.len) (e - a) (drop a s)
        ∙ ap₂ take n (drop-drop (h.start + h.len) a s ∙ ap (λ (k : ℕ). drop k s) m))

-- ---- a tag of bytes is below 2^24

small_number : (s : List ℕ) (k : ℕ) → Bytes s → k ≤ 3 → k ≤ length s → (k ≡ 0 → ⊥)
    → big_endian_number (take k s) < 0x1000000
small_number s zero b h l n = absurd (n refl)
small_number s (suc zero) b h l n = rw (number_one s) (omega (arith, b 0))
small_number s (suc (suc zero)) b h l n = rw (number_two s l) (omega (arith, b 0, b 1))
small_number s (suc (suc (suc zero))) b h l n = rw (number_three s l) (omega (arith, b 0, b 1, b 2))
small_number s (suc (suc (suc (suc k)))) b h l n = absurd (omega arith)

abbrev SmallTag : Option TlvHeader → Type 0
SmallTag None = Unit {0}
SmallTag (Some h) = h.tag < 0x1000000

small_length : (s : List ℕ) (t : Tag) (x : Option TlvLength) → t.number < 0x1000000 → SmallTag (header_with_length s t x)
small_length s t None h = tt
small_length s t (Some e) h = if_ind SmallTag _ _ _ (λ _. h) (λ _. tt)

small_tag : (s : List ℕ) (x : Option Tag) → Bytes s → tag_at s ≡ x → SmallTag (header_with_tag s x)
small_tag s None b e = tt
small_tag s (Some t) b e =
    let f = tag_fits s t e in
    small_length s t (length_at (drop t.size s))
    (rw f.reads (small_number s t.size b f.few f.inside (λ z. omega (arith, f.some))))

pub tag_small : (s : List ℕ) (h : TlvHeader) → Bytes s → header_of s ≡ Some h → h.tag < 0x1000000
unfolding header_of
tag_small s h b e = rw e at (small_tag s (tag_at s) b refl)

-- ---- what a walk must find, one step on

module _ {s : List ℕ} {a e n k : ℕ} {l : List ℕ} (w : TemplateWalkHasRoom s a e n k l) where
  module _ (b : ℕ) (ends : b ≤ e) where
    -- padding is passed
    pub pass : a ≤ b → TemplateWalkHasRoom s b e n k l
    pass h = record {
      begins = ends;
      ends = w.ends;
      short = w.short;
      fewer = w.fewer;
      half = omega (arith, w.half);
      room = w.room;
      inside = w.inside;
    }

    module _ (two : a + 2 ≤ b) where
      -- a template is entered
      pub enter : TemplateWalkHasRoom s b e (n + 1) k l
      enter = record {
        begins = ends;
        ends = w.ends;
        short = w.short;
        fewer = omega (arith, w.fewer);
        half = omega (arith, w.half);
        room = w.room;
        inside = w.inside;
      }

      pub has_room : k < most_listed_items
      has_room = omega (arith, w.half, w.fewer)

      -- an object is listed
      pub list : (x : ℕ) → ItemValueInside s x → TemplateWalkHasRoom s b e (n + 1) (k + 1) (set l k x)
      list x v = let m = has_room in record {
        begins = ends;
        ends = w.ends;
        short = w.short;
        fewer = omega (arith, w.fewer);
        half = omega (arith, w.half);
        room = simp length-set w.room;
        inside = inside_more s l k x (omega (arith, w.room)) w.inside v;
      }

  -- a part of the contents alone
  pub within : (c : ℕ) → a ≤ c → c ≤ e → TemplateWalkHasRoom s a c n k l
  within c h i = record {
    begins = h;
    ends = omega (arith, w.ends);
    short = omega (arith, w.short);
    fewer = w.fewer;
    half = omega (arith, w.half);
    room = w.room;
    inside = w.inside;
  }

  pub items_listed : length (unpacked_first_items s k l) ≡ k
  items_listed = items_count s k l (omega (arith, w.fewer, w.half, w.room))
