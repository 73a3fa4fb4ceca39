-- The laws of a tag, a length and a header. The definitions go by clauses on lists and the code by lengths and
-- places, so each has its form by places first; then what lies inside the list, the first byte of a tag, and each way
-- out of the code.
-- Assumes nothing.
use Rattle.std.specs.Prelude.{Option, Some, None}
use mathlib.Core.Path.{◌≡◌, refl, sym, ap, ◌∙◌}
use mathlib.Core.Bool.{false}
use mathlib.Core.List.{List, [], ◌∷◌}
use Prim.Native.Nat.{ℕ, zero, suc, ◌+◌, ◌-◌, ◌*◌, ◌/◌, ◌≤◌, ◌<◌}
use native.Mathlib.Nat.{le_refl}
use native.Mathlib.Omega.{arith}
use lib.Dec.{ltb, eqb}
use lib.ListN.{length, get_or, take, drop, length-drop}
use lib.Seq.{take_all, get_or-drop}
use borrow.Author.Tests.{lt-ltb, le-ltb, le-leb, lt-leb, eq-eqb, ne_eqb, ltb-false, leb-true, eqb-false}
use Rattle.basics.specs.Choice.{if}
use Rattle.basics.specs.Number.{append_big_endian_bytes, big_endian_number, has_bit_of_weight}
use Rattle.basics.proofs.Laws.{if_yes, if_no, if_ind}
use Rattle.tlv.specs.declared.Tag.{Tag}
use Rattle.tlv.specs.declared.TlvLength.{TlvLength}
use Rattle.tlv.specs.declared.TlvHeader.{TlvHeader}
use Rattle.tlv.specs.Tag.{tag_first_byte_continues, tag_later_byte_continues, tag_size_from_third_byte}
use Rattle.tlv.specs.Tag.{tag_size_from_second_byte, tag_size, tag_parsed, tag_at, tag_first_byte, is_template, is_private}
use Rattle.tlv.specs.Length.{length_parsed, length_after81, length_after82, length_at}
use Rattle.tlv.specs.Object.{tlv_header, header_with_length, header_with_tag, header_of}

-- ---- by places

past : (n k : ℕ) → k ≤ 3 → ltb (suc (suc (suc n))) k ≡ false
past n k h = le-ltb (suc (suc (suc n))) k (omega arith)

-- what is left to test once a second byte is expected, and a third
abbrev pub from_third : List ℕ → ℕ
from_third s = if (ltb (length s) 3) 0 (if (tag_later_byte_continues (get_or s 2 0)) 0 3)

abbrev pub from_second : List ℕ → ℕ
from_second s = if (ltb (length s) 2) 0
    (if (eqb (get_or s 1 0) 0x80) 0 (if (tag_later_byte_continues (get_or s 1 0)) (from_third s) 2))

pub tag_size_by : (s : List ℕ) → tag_size s ≡
    if (ltb (length s) 1) 0 (if (eqb (get_or s 0 0) 0) 0 (if (tag_first_byte_continues (get_or s 0 0)) (from_second s) 1))
unfolding tag_size tag_size_from_second_byte tag_size_from_third_byte if
tag_size_by [] = refl
tag_size_by (a ∷ []) = refl
tag_size_by (a ∷ b ∷ []) = refl
tag_size_by (a ∷ b ∷ c ∷ s) = simp (
  past (length s) 1 (omega arith),
  past (length s) 2 (omega arith),
  past (length s) 3
      (omega arith),
)

-- what is left to test of a length once its first byte is no length itself
abbrev pub from_long : List ℕ → Option TlvLength
from_long s =
    if (eqb (get_or s 0 0) 0x81) (if (ltb (length s) 2) None (length_parsed (get_or s 1 0) 2))
    (if (eqb (get_or s 0 0) 0x82) (if (ltb (length s) 3) None (length_parsed (get_or s 1 0 * 256 + get_or s 2 0) 3))
    None)

pub length_by : (s : List ℕ)
    → length_at s ≡ if (ltb (length s) 1) None (if (ltb (get_or s 0 0) 0x80) (length_parsed (get_or s 0 0) 1) (from_long s))
unfolding length_at length_after81 length_after82 if
length_by [] = refl
length_by (a ∷ []) = refl
length_by (a ∷ b ∷ []) = refl
length_by (a ∷ b ∷ c ∷ s) = simp (
  past (length s) 1 (omega arith),
  past (length s) 2 (omega arith),
  past (length s) 3
      (omega arith),
)

-- ---- the tag as the code reads it

-- the number of one byte, of two and of three
pub number_one : (s : List ℕ) → big_endian_number (take 1 s) ≡ get_or s 0 0
unfolding append_big_endian_bytes
number_one [] = refl
number_one (a ∷ s) = omega arith

pub number_two : (s : List ℕ) → 2 ≤ length s → big_endian_number (take 2 s) ≡ get_or s 0 0 * 256 + get_or s 1 0
unfolding append_big_endian_bytes
number_two [] h = absurd (omega arith)
number_two (a ∷ []) h = absurd (omega arith)
number_two (a ∷ b ∷ s) h = omega arith

pub number_three : (s : List ℕ) → 3 ≤ length s → big_endian_number (take 3 s) ≡ (get_or s 0 0 * 256 + get_or s 1 0) * 256
    + get_or s 2 0
unfolding append_big_endian_bytes
number_three [] h = absurd (omega arith)
number_three (a ∷ []) h = absurd (omega arith)
number_three (a ∷ b ∷ []) h = absurd (omega arith)
number_three (a ∷ b ∷ c ∷ s) h = omega arith

pub tag_none : (s : List ℕ) (k : ℕ) → k ≡ tag_size s → k ≡ 0 → tag_at s ≡ None
unfolding tag_at
tag_none s k p q = if_yes _ _ (eq-eqb (tag_size s) 0 (sym p ∙ q))

pub tag_some : (s : List ℕ) (k : ℕ) → k ≡ tag_size s → (k ≡ 0 → ⊥) → tag_at s ≡ tag_parsed (big_endian_number (take k s)) k
unfolding tag_at
tag_some s k p q = rw (← p) (if_no _ _ (ne_eqb k 0 q))

-- ---- what lies inside the list

abbrev InsideT : ℕ → ℕ → Type 0
InsideT n k = (k ≤ 3) × (k ≤ n)

size_inside : (s : List ℕ) → InsideT (length s) (tag_size s)
size_inside s =
    let P = InsideT (length s) in
    rw (tag_size_by s)
    (if_ind P _ _ _ (λ _. omega arith)
    (λ a. if_ind P _ _ _ (λ _. omega arith)
    (λ _. if_ind P _ _ _
    (λ _. if_ind P _ _ _ (λ _. omega arith)
    (λ b. if_ind P _ _ _ (λ _. omega arith)
    (λ _. if_ind P _ _ _
    (λ _. if_ind P _ _ _ (λ _. omega arith) (λ c. if_ind P _ _ _ (λ _. omega arith) (λ _. omega (arith, ltb-false))))
    (λ _. omega (arith, ltb-false)))))
    (λ _. omega (arith, ltb-false)))))

-- a whole tag: one to three bytes of the list, read as one number
pub record TagFits (s : List ℕ) (t : Tag) : Type 0 where
  pub some : 1 ≤ t.size
  pub few : t.size ≤ 3
  pub inside : t.size ≤ length s
  pub is : t.size ≡ tag_size s
  pub reads : t.number ≡ big_endian_number (take t.size s)

abbrev TagOk : List ℕ → Option Tag → Type 0
TagOk s None = Unit {0}
TagOk s (Some t) = TagFits s t

tag_ok : (s : List ℕ) → TagOk s (tag_at s)
unfolding tag_at
tag_ok s =
    if_ind (TagOk s) _ _ _ (λ _. tt)
    (λ e. let n = eqb-false (tag_size s) 0 e in let i = size_inside s in
    record { some = omega arith; few = i.0; inside = i.1; is = refl; reads = refl })

pub tag_fits : (s : List ℕ) (t : Tag) → tag_at s ≡ Some t → TagFits s t
tag_fits s t e = rw e at (tag_ok s)

-- a whole length: one to three bytes of the list
pub record LengthFits (s : List ℕ) (e : TlvLength) : Type 0 where
  pub some : 1 ≤ e.size
  pub few : e.size ≤ 3
  pub inside : e.size ≤ length s

abbrev LengthOk : List ℕ → Option TlvLength → Type 0
LengthOk s None = Unit {0}
LengthOk s (Some e) = LengthFits s e

length_ok : (s : List ℕ) → LengthOk s (length_at s)
length_ok s =
    let P = LengthOk s in
    rw (length_by s)
    (if_ind P _ _ _ (λ _. tt)
    (λ a. if_ind P _ _ _ (λ _. record { some = omega arith; few = omega arith; inside = omega (arith, ltb-false) })
    (λ _. if_ind P _ _ _
    (λ _. if_ind P _ _ _ (λ _. tt)
    (λ b. record { some = omega arith; few = omega arith; inside = omega (arith, ltb-false) }))
    (λ _. if_ind P _ _ _
    (λ _. if_ind P _ _ _ (λ _. tt)
    (λ b. record { some = omega arith; few = omega arith; inside = omega (arith, ltb-false) }))
    (λ _. tt)))))

pub length_fits : (s : List ℕ) (e : TlvLength) → length_at s ≡ Some e → LengthFits s e
length_fits s e p = rw p at (length_ok s)

-- every entry is a byte (past its end a list reads as 0)
abbrev pub Bytes : List ℕ → Type 0
Bytes s = (i : ℕ) → get_or s i 0 < 256

abbrev Small : Option TlvLength → Type 0
Small None = Unit {0}
Small (Some e) = e.len < 0x10000

-- a length of bytes is below 65,536
pub length_small : (s : List ℕ) (e : TlvLength) → Bytes s → length_at s ≡ Some e → e.len < 0x10000
length_small s e b p = rw p at small
  where
    small : Small (length_at s)
    small =
        rw (length_by s)
        (if_ind Small _ _ _ (λ _. tt)
        (λ _. if_ind Small _ _ _ (λ _. omega (arith, b 0))
        (λ _. if_ind Small _ _ _
        (λ _. if_ind Small _ _ _ (λ _. tt) (λ _. omega (arith, b 1)))
        (λ _. if_ind Small _ _ _ (λ _. if_ind Small _ _ _ (λ _. tt) (λ _. omega (arith, b 1, b 2))) (λ _. tt)))))

-- an object lies inside its list and takes two bytes at least; its class is its tag's
pub record HeaderFits (s : List ℕ) (h : TlvHeader) : Type 0 where
  pub two : 2 ≤ h.start
  pub inside : h.start + h.len ≤ length s
  pub whole : h ≡ tlv_header h.tag h.start h.len

abbrev HeaderOk : List ℕ → Option TlvHeader → Type 0
HeaderOk s None = Unit {0}
HeaderOk s (Some h) = HeaderFits s h

with_length_ok : (s : List ℕ) (t : Tag) (x : Option TlvLength) → TagFits s t → LengthOk (drop t.size s) x
    → HeaderOk s (header_with_length s t x)
with_length_ok s t None f g = tt
with_length_ok s t (Some e) f g =
    if_ind (HeaderOk s) _ _ _ (λ l. record { two = omega arith; inside = omega (arith, leb-true); whole = refl })
    (λ _. tt)

with_tag_ok : (s : List ℕ) (x : Option Tag) → TagOk s x → HeaderOk s (header_with_tag s x)
with_tag_ok s None f = tt
with_tag_ok s (Some t) f = with_length_ok s t (length_at (drop t.size s)) f (length_ok (drop t.size s))

pub header_fits : (s : List ℕ) (h : TlvHeader) → header_of s ≡ Some h → HeaderFits s h
unfolding header_of
header_fits s h e = rw e at (with_tag_ok s (tag_at s) (tag_ok s))

-- ---- the tag by its count of bytes

pub tag_one : (s : List ℕ) → tag_size s ≡ 1 → tag_at s ≡ tag_parsed (get_or s 0 0) 1
tag_one s e = tag_some s 1 (sym e) (λ z. omega arith) ∙ rw (number_one s)

pub tag_two : (s : List ℕ) → tag_size s ≡ 2 → tag_at s ≡ tag_parsed (get_or s 0 0 * 256 + get_or s 1 0) 2
tag_two s e = let i = size_inside s in tag_some s 2 (sym e) (λ z. omega arith) ∙ rw (number_two s (omega arith))

pub tag_three : (s : List ℕ) → tag_size s ≡ 3
    → tag_at s ≡ tag_parsed ((get_or s 0 0 * 256 + get_or s 1 0) * 256 + get_or s 2 0) 3
tag_three s e = let i = size_inside s in tag_some s 3 (sym e) (λ z. omega arith) ∙ rw (number_three s (omega arith))

-- ---- the first byte of a number

pub first_one : (t : ℕ) → t < 0x100 → tag_first_byte t ≡ t
unfolding tag_first_byte
first_one t h = if_yes _ _ (lt-ltb t 0x100 h)

pub first_two : (t : ℕ) → 0x100 ≤ t → t < 0x10000 → tag_first_byte t ≡ t / 0x100
unfolding tag_first_byte
first_two t h k = if_no _ _ (le-ltb t 0x100 h) ∙ if_yes _ _ (lt-ltb t 0x10000 k)

pub first_three : (t : ℕ) → 0x10000 ≤ t → tag_first_byte t ≡ t / 0x10000
unfolding tag_first_byte
first_three t h = if_no _ _ (le-ltb t 0x100 (omega arith)) ∙ if_no _ _ (le-ltb t 0x10000 h)

-- a tag does not begin with 00
starts : (s : List ℕ) → (tag_size s ≡ 0 → ⊥) → get_or s 0 0 ≡ 0 → ⊥
unfolding tag_size
starts [] n e = n refl
starts (b ∷ s) n e = n (if_yes _ _ (eq-eqb b 0 e))

first_of : (s : List ℕ) (k : ℕ) → Bytes s → (get_or s 0 0 ≡ 0 → ⊥) → k ≤ 3 → k ≤ length s → (k ≡ 0 → ⊥)
    → tag_first_byte (big_endian_number (take k s)) ≡ get_or s 0 0
first_of s zero b f h k n = absurd (n refl)
first_of s (suc zero) b f h k n = rw (number_one s) (first_one _ (b 0))
first_of s (suc (suc zero)) b f h k n =
    rw (number_two s k) (first_two _ (omega arith) (omega (arith, b 0, b 1)) ∙ omega (arith, b 1))
first_of s (suc (suc (suc zero))) b f h k n =
    rw (number_three s k) (first_three _ (omega arith) ∙ omega (arith, b 1, b 2))
first_of s (suc (suc (suc (suc k)))) b f h k' n = absurd (omega arith)

-- where a whole tag is at the front of bytes, the first byte of its number is the first of them
pub first_byte_is : (s : List ℕ) (t : Tag) → Bytes s → tag_at s ≡ Some t → tag_first_byte t.number ≡ get_or s 0 0
first_byte_is s t b e =
    let f = tag_fits s t e in
    rw f.reads (first_of s t.size b (starts s (λ z. omega arith)) f.few f.inside (omega arith))

-- so the tests on a tag's number are tests on that byte
pub template_is : (s : List ℕ) (t : Tag) → Bytes s → tag_at s ≡ Some t
    → is_template t.number ≡ has_bit_of_weight (get_or s 0 0) 32
unfolding is_template
template_is s t b e = rw (first_byte_is s t b e)

pub private_is : (s : List ℕ) (t : Tag) → Bytes s → tag_at s ≡ Some t → is_private t.number ≡ eqb (get_or s 0 0 / 64) 3
unfolding is_private
private_is s t b e = rw (first_byte_is s t b e)

-- ---- the parts as the code makes them: `&s[a..a + l]` and `&s[e..]`

abbrev pub contents : List ℕ → ℕ → ℕ → List ℕ
contents s a l = take (a + l - a) (drop a s)

abbrev pub tail : List ℕ → ℕ → List ℕ
tail s e = take (length s - e) (drop e s)

pub contents_is : (s : List ℕ) (a l : ℕ) → contents s a l ≡ take l (drop a s)
contents_is s a l = let e : a + l - a ≡ l = omega arith in ap (λ (k : ℕ). take k (drop a s)) e

pub tail-is : (s : List ℕ) (e : ℕ) → tail s e ≡ drop e s
tail-is s e = take_all (length s - e) (drop e s) (simp length-drop (le_refl _))

-- ---- a header as the code reads it: the tag x, then the length y in the bytes after it

pub header_untagged : (s : List ℕ) → tag_at s ≡ None → header_of s ≡ None
unfolding header_of
header_untagged s e = rw e

pub with_whole : (s : List ℕ) (t : Tag) (e : TlvLength) → t.size + e.size + e.len ≤ length s
    → header_with_length s t (Some e) ≡ Some (tlv_header t.number (t.size + e.size) e.len)
with_whole s t e h = if_yes _ _ (le-leb (t.size + e.size + e.len) (length s) h)

-- both were read from bytes: what is left is a test, on small numbers, whether the value lies inside, and the class by
-- the first byte
pub record HeaderRead (s : List ℕ) (t : Tag) (e : TlvLength) : Type 0 where
  pub is : header_of s ≡ header_with_length s t (Some e)
  pub some : 1 ≤ length s
  pub small : t.size + e.size + e.len < 0x10006
  pub template : is_template t.number ≡ has_bit_of_weight (get_or s 0 0) 32
  pub private : is_private t.number ≡ eqb (get_or s 0 0 / 64) 3

module _ {s : List ℕ} {t : Tag} {e : TlvLength} (r : HeaderRead s t e) where
  pub header_whole : t.size + e.size + e.len ≤ length s → header_of s ≡
      Some (record {
        tag = t.number;
        start = t.size + e.size;
        len = e.len;
        template = has_bit_of_weight (get_or s 0 0)
            32;
        private = eqb (get_or s 0 0 / 64) 3;
      })
  header_whole h = r.is ∙ with_whole s t e h ∙ rw (r.template, r.private)

  pub header_short : length s < t.size + e.size + e.len → header_of s ≡ None
  header_short h = r.is ∙ if_no _ _ (lt-leb (t.size + e.size + e.len) (length s) h)

module _ (s : List ℕ) (t : Tag) (told : tag_at s ≡ Some t) where
  pub header_with : (x : Option TlvLength) → length_at (tail s t.size) ≡ x → header_of s ≡ header_with_length s t x
  unfolding header_of
  header_with x h = rw (told, ← (tail-is s t.size), h)

  pub header_read : Bytes s → (e : TlvLength) → length_at (tail s t.size) ≡ Some e → HeaderRead s t e
  header_read b e h =
      let f = tag_fits s t told in
      let z : length_at (drop t.size s) ≡ Some e = ap length_at (sym (tail-is s t.size)) ∙ h in
      let l = length_fits (drop t.size s) e z in
      let n = length_small (drop t.size s) e (λ i. rw (get_or-drop t.size s i 0) (b (t.size + i))) z in
      record {
        is = header_with (Some e) h;
        some = omega arith;
        small = omega arith;
        template = template_is s t b told;
        private = private_is s t b told;
      }
