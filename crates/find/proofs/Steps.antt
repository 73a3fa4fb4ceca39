-- The walk over the objects, on lists and numbers. What is left, innermost template first, is a find for the rest of
-- each open level (`left`); the invariant (`Reached`): what was found, before what is left, is what the search finds
-- in all bytes.
-- Assumes nothing.
use mathlib.Core.Path.{◌≡◌, refl, sym, ap, ap₂, subst, ◌∙◌}
use mathlib.Core.Bool.{true, false}
use mathlib.Core.List.{List, [], ◌∷◌}
use Prim.Native.Nat.{ℕ, zero, suc, ◌+◌, ◌-◌, ◌≤◌, ◌<◌}
use native.Mathlib.Numerals.{add-one}
use native.Mathlib.Omega.{arith}
use lib.Dec.{eqb}
use lib.ListN.{length, take, drop, get_or, set, length-take}
use lib.Seq.{take-take, take-nil, drop-drop, take_all, get_or-set_same, get_or-set_other}
use Rattle.tlv.specs.declared.TlvHeader.{TlvHeader}
use Rattle.tlv.specs.declared.NextInTemplate.TheVariants as following
use Rattle.tlv.specs.Object.{header_value, behind_object}
use Rattle.tlv.specs.Tree.{next_in_template}
use Rattle.tlv.proofs.NextObject.{next_fits}
use Rattle.find.specs.declared.TagFound.{TagFound}
use Rattle.find.specs.declared.TagFound.TheVariants.{Absent, Malformed}
use Rattle.find.specs.Inner.{ends_around}
use Rattle.find.specs.Find.{found_if_tag_matches, first_found_unless_malformed, found_shifted, find_tag_within_levels}
use Rattle.find.proofs.Laws.{first_absent, absent_first, first_malformed, malformed_first, first_assoc}
use Rattle.find.proofs.Laws.{shift_first, shift_shift, shift_zero, shift_here, shift_absent, shift_malformed}
use Rattle.find.proofs.Laws.{found_end, found_malformed, found_leaf, found_node, found_deep}

-- ---- a part of the bytes, as the code makes it, and the parts of an object in it

abbrev pub part : List ℕ → ℕ → ℕ → List ℕ
part s a e = take (e - a) (drop a s)

pub drop-take : (m n : ℕ) (l : List ℕ) → drop m (take n l) ≡ take (n - m) (drop m l)
drop-take zero n l = let e : n ≡ n - 0 = omega arith in ap (λ (k : ℕ). take k l) e
drop-take (suc m) zero l = let e : 0 ≡ 0 - suc m = omega arith in ap (λ (k : ℕ). take k (drop (suc m) l)) e
drop-take (suc m) (suc n) [] = sym (take-nil (suc n - suc m))
drop-take (suc m) (suc n) (x ∷ l) = let e : n - m ≡ suc n - suc m = omega arith in drop-take m n l ∙ ap
    (λ (k : ℕ). take k (drop m l)) e

module _ (s : List ℕ) (a e : ℕ) (h : TlvHeader) (x : next_in_template (part s a e) ≡ following.Inner h) where
  -- an object lies inside its part
  object_inside : h.start + h.len ≤ e - a
  object_inside = let f = next_fits _ h x in let i = simp length-take at f.inside in omega arith

  object_two : 2 ≤ h.start
  object_two = (next_fits _ h x).two

  value_part : header_value (part s a e) h ≡ part s (a + h.start) (a + h.start + h.len)
  value_part =
      let i = object_inside in
      let n : a + h.start + h.len - (a + h.start) ≡ h.len = omega arith in
      let m : h.len ≤ e - a - h.start = omega arith in
      ap (take h.len) (drop-take h.start (e - a) (drop a s))
      ∙ take-take h.len (e - a - h.start) (drop h.start (drop a s)) m
      ∙ ap₂ take (sym n) (drop-drop h.start a s)

  behind_part : behind_object (part s a e) h ≡ part s (a + h.start + h.len) e
  behind_part =
      let n : e - a - (h.start + h.len) ≡ e - (a + h.start + h.len) = omega arith in
      let m : a + (h.start + h.len) ≡ a + h.start + h.len = omega arith in
      drop-take (h.start + h.len) (e - a) (drop a s)
      ∙ ap₂ take n (drop-drop (h.start + h.len) a s ∙ ap (λ (k : ℕ). drop k s) m)

-- ---- the ends of the levels around the open templates, innermost first

pub ends_none : (l : List ℕ) → ends_around l 0 ≡ []
unfolding ends_around
ends_none l = refl

pub ends_length : (l : List ℕ) (n : ℕ) → length (ends_around l n) ≡ n
unfolding ends_around
ends_length l zero = refl
ends_length l (suc n) = ap suc (ends_length l n)

ends_set : (l : List ℕ) (i v n : ℕ) → n ≤ i → ends_around (set l i v) n ≡ ends_around l n
unfolding ends_around
ends_set l i v zero h = refl
ends_set l i v (suc n) h = ap₂ {C = List ℕ} (λ x r. x ∷ r) (get_or-set_other l i n v 0 (λ q. omega arith))
    (ends_set l i v n (omega arith))

pub ends_push : (l : List ℕ) (n v : ℕ) → n < length l → ends_around (set l n v) (n + 1) ≡ v ∷ ends_around l n
unfolding ends_around
ends_push l n v h = rw (add-one n) (ap₂ {C = List ℕ} (λ x r. x ∷ r) (get_or-set_same l n v 0 h)
    (ends_set l n v n (omega arith)))

pub ends_pop : (l : List ℕ) (n m : ℕ) → m + 1 ≡ n → ends_around l n ≡ get_or l m 0 ∷ ends_around l m
unfolding ends_around
ends_pop l n m e = rw (← e, add-one m)

-- each level ends inside the one around it, the outermost inside n bytes
unfoldable pub Rising : ℕ → ℕ → List ℕ → Type 0
Rising n e [] = e ≤ n
Rising n e (x ∷ r) = (e ≤ x) × Rising n x r

rising_most : (n e : ℕ) (r : List ℕ) → Rising n e r → e ≤ n
unfolding Rising
rising_most n e [] h = h
rising_most n e (x ∷ r) h = let i = rising_most n x r h.1 in omega arith

-- ---- what is left

module _ (s : List ℕ) (tag : ℕ) where
  -- of one level, from a to e, with so many templates open around it
  abbrev level : ℕ → ℕ → ℕ → TagFound
  level n a e = found_shifted a (find_tag_within_levels tag (4 - n) (part s a e))

  -- after the open templates
  unfoldable pub outer : ℕ → List ℕ → TagFound
  outer e [] = Absent
  outer e (x ∷ r) = first_found_unless_malformed (level (length r) e x) (outer x r)

  abbrev pub left : ℕ → ℕ → List ℕ → TagFound
  left a e r = first_found_unless_malformed (level (length r) a e) (outer e r)

  module _ (a e : ℕ) (r : List ℕ) where
    abbrev rest : TagFound
    rest = outer e r

    level_gone : (x : TagFound) → find_tag_within_levels tag (4 - length r) (part s a e) ≡ x
        → left a e r ≡ first_found_unless_malformed (found_shifted a x) rest
    level_gone x q = ap (λ (y : TagFound). first_found_unless_malformed (found_shifted a y) rest) q

    left_end : next_in_template (part s a e) ≡ following.End → left a e r ≡ rest
    left_end q = level_gone Absent (found_end tag _ _ q) ∙ ap (λ (x : TagFound). first_found_unless_malformed x rest)
        (shift_absent a) ∙ absent_first rest

    broken : find_tag_within_levels tag (4 - length r) (part s a e) ≡ Malformed → left a e r ≡ Malformed
    broken q = level_gone Malformed q ∙ ap (λ (x : TagFound). first_found_unless_malformed x rest) (shift_malformed a) ∙
        malformed_first rest

    left_malformed : next_in_template (part s a e) ≡ following.Malformed → left a e r ≡ Malformed
    left_malformed q = broken (found_malformed tag _ _ q)

    module _ (h : TlvHeader) (q : next_in_template (part s a e) ≡ following.Inner h) where
      abbrev own : TagFound
      own = found_if_tag_matches (eqb h.tag tag) (a + h.start) h.len

      abbrev start : ℕ
      start = a + h.start

      abbrev stop : ℕ
      stop = a + h.start + h.len

      left_deep : h.template ≡ true → 4 - length r ≡ 0 → left a e r ≡ Malformed
      left_deep t z = broken (found_deep tag _ _ h q t z)

      behind_at : found_shifted a
          (found_shifted (h.start + h.len) (find_tag_within_levels tag (4 - length r) (behind_object (part s a e) h)))
          ≡ level (length r) stop e
      behind_at =
          let m : a + (h.start + h.len) ≡ stop = omega arith in
          shift_shift a (h.start + h.len) _ ∙ ap₂
          (λ (k : ℕ) (v : List ℕ). found_shifted k (find_tag_within_levels tag (4 - length r) v)) m (behind_part s a e h q)

      left_leaf : h.template ≡ false → left a e r ≡ first_found_unless_malformed own (left stop e r)
      left_leaf t =
          level_gone _ (found_leaf tag _ _ h q t)
          ∙ ap (λ (x : TagFound). first_found_unless_malformed x rest)
          (shift_first a _ _ ∙ ap₂ first_found_unless_malformed (shift_here a _ _ _) behind_at)
          ∙ first_assoc own (level (length r) stop e) rest

      left_node : h.template ≡ true → length r < 4
          → left a e r ≡ first_found_unless_malformed own (left start stop (e ∷ r))
      unfolding outer
      left_node t l =
          let m : 4 - length r - 1 ≡ 4 - suc (length r) = omega arith in
          let v : found_shifted a
          (found_shifted h.start (find_tag_within_levels tag (4 - length r - 1) (header_value (part s a e) h)))
          ≡ level (suc (length r)) start stop
          = shift_shift a h.start _ ∙ ap₂ (λ (k : ℕ) (v : List ℕ). found_shifted start (find_tag_within_levels tag k v))
          m (value_part s a e h q) in
          level_gone _ (found_node tag _ _ h q t (λ z. omega arith))
          ∙ ap (λ (x : TagFound). first_found_unless_malformed x rest)
          (shift_first a _ _ ∙ ap₂ first_found_unless_malformed (shift_here a _ _ _)
          (shift_first a _ _ ∙ ap₂ first_found_unless_malformed v behind_at))
          ∙ first_assoc own _ rest ∙ ap (first_found_unless_malformed own)
          (first_assoc (level (suc (length r)) start stop) (level (length r) stop e) rest)

-- ---- the invariant, and each iteration of the walk: r has the ends of the levels around the open templates

pub record Reached (s : List ℕ) (tag : ℕ) (r : List ℕ) (a e : ℕ) (f : TagFound) : Type 0 where
  pub ahead : a ≤ e
  pub inside : e ≤ length s
  pub rising : Rising (length s) e r
  pub same : find_tag_within_levels tag 4 s ≡ first_found_unless_malformed f (left s tag a e r)

-- at the front nothing is found and no template is open
pub begin : (s : List ℕ) (tag : ℕ) → Reached s tag [] 0 (length s) Absent
unfolding Rising outer
begin s tag = record {
  ahead = omega arith;
  inside = omega arith;
  rising = omega arith;
  same = sym (absent_first _ ∙ first_absent _ ∙ shift_zero _ ∙ ap (find_tag_within_levels tag 4) whole);
}
  where
    whole : part s 0 (length s) ≡ s
    whole = take_all (length s - 0) s (omega arith)

module _ {s : List ℕ} {tag : ℕ} {r : List ℕ} {a e : ℕ} {f : TagFound} (w : Reached s tag r a e f) where
  abbrev all : TagFound
  all = find_tag_within_levels tag 4 s

  same_with : (x : TagFound) → left s tag a e r ≡ x → all ≡ first_found_unless_malformed f x
  same_with x q = w.same ∙ ap (first_found_unless_malformed f) q

  pub done : next_in_template (part s a e) ≡ following.End → r ≡ [] → f ≡ all
  unfolding outer
  done q z = sym (same_with _ (left_end s tag a e r q ∙ ap (outer s tag e) z) ∙ first_absent f)

  pub failed : next_in_template (part s a e) ≡ following.Malformed → Malformed ≡ all
  failed q = sym (same_with Malformed (left_malformed s tag a e r q) ∙ first_malformed f)

  pub close : next_in_template (part s a e) ≡ following.End → (x : ℕ) (t : List ℕ) → r ≡ x ∷ t
      → Reached s tag t e x f
  unfolding Rising outer
  close q x t p =
      let h = subst (Rising (length s) e) p w.rising in
      record {
        ahead = h.0;
        inside = rising_most (length s) x t h.1;
        rising = h.1;
        same = same_with _ (left_end s tag a e r q ∙ ap (outer s tag e) p);
      }

  module _ (h : TlvHeader) (q : next_in_template (part s a e) ≡ following.Inner h) where
    pub deep : h.template ≡ true → length r ≡ 4 → Malformed ≡ all
    deep t z =
        let l : 4 - length r ≡ 0 = omega arith in
        sym (same_with Malformed (left_deep s tag a e r h q t l) ∙ first_malformed f)

    -- its value starts two bytes on at least, and ends where its level ends at the latest
    pub bounds : (2 ≤ h.start) × ((a + h.start + h.len ≤ e) × (e ≤ length s))
    bounds = let i = object_inside s a e h q in (object_two s a e h q, (omega arith, w.inside))

    abbrev here_found : TagFound
    here_found = found_if_tag_matches (eqb h.tag tag) (a + h.start) h.len

    module _ (g : TagFound) (own : g ≡ first_found_unless_malformed f here_found) where
      found_so : (x : TagFound) → left s tag a e r ≡ first_found_unless_malformed here_found x
          → all ≡ first_found_unless_malformed g x
      found_so x p = same_with _ p ∙ sym (first_assoc f _ x) ∙ ap (λ (y : TagFound). first_found_unless_malformed y x)
          (sym own)

      pub leaf : h.template ≡ false → Reached s tag r (a + h.start + h.len) e g
      leaf t =
          let i = object_inside s a e h q in
          record {
            ahead = omega arith;
            inside = w.inside;
            rising = w.rising;
            same = found_so _ (left_leaf s tag a e r h q t);
          }

      pub push : h.template ≡ true → length r < 4 → Reached s tag (e ∷ r) (a + h.start) (a + h.start + h.len) g
      unfolding Rising
      push t n =
          let i = object_inside s a e h q in
          record {
            ahead = omega arith;
            inside = omega arith;
            rising = (omega arith, w.rising);
            same = found_so _ (left_node s tag a e r h q t n);
          }
