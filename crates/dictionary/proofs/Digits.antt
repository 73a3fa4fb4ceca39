-- Digits byte by byte agree with digits four bits at a time. Each law is by the first byte, and by whether its digits
-- are decimal.
-- Assumes nothing.
use mathlib.Core.Path.{◌≡◌, refl, sym, ap, ap₂, ◌∙◌}
use mathlib.Core.Bool.{Bool, true, false, cond, ◌&&◌}
use mathlib.Core.List.{List, [], ◌∷◌}
use Prim.Native.Nat.{ℕ, suc, ◌+◌, ◌-◌, ◌/◌, ◌%◌, ◌≤◌, ◌<◌}
use native.Mathlib.Numerals.{add-one}
use native.Mathlib.Omega.{arith}
use lib.Dec.{ltb, eqb, eqb-suc-suc}
use lib.ListN.{length, get_or, take, drop, length-drop}
use lib.Seq.{drop-cons}
use Rattle.std.proofs.lemmas.List.{take_rest}
use borrow.Author.Tests.{ltb-true, lt-ltb, le-ltb, eqb-true, eqb-false, eq-eqb, ne_eqb}
use Rattle.std.specs.List.{list_all}
use Rattle.basics.specs.Choice.{if, both, every}
use Rattle.basics.specs.Number.{nibbles}
use Rattle.basics.proofs.Laws.{if_yes, if_no, both_yes, both_left, both_right, both_no_left, both_no_right, both_true}
use Rattle.basics.proofs.Laws.{both_assoc}
use Rattle.dictionary.specs.Form.{is_decimal_nibble, is_nibble_f, is_numeric, is_digits_then_fs, is_compressed_numeric}
use Rattle.dictionary.specs.Inner.{is_decimal_byte, leading_decimal_bytes, all_bytes_ff}

-- std's words for the same
every_all : {A : Type 0} (f : A → Bool) (v : List A) → every f v ≡ list_all f v
unfolding every both
every_all f [] = refl
every_all f (b ∷ v) = go (f b) (every_all f v)
  where
    go : (x : Bool) {y z : Bool} → y ≡ z → both x y ≡ x && z
    go true e = e
    go false e = refl

one_add : {n : ℕ} → 1 + n ≡ suc n
one_add = omega arith

-- the byte at which the digits stop is not two decimal digits
pub stops : (v : List ℕ) → leading_decimal_bytes v < length v → is_decimal_byte (get_or v (leading_decimal_bytes v) 0) ≡ false
stops [] h = absurd (omega arith)
stops (b ∷ v) h = go (is_decimal_byte b) refl h (stops v)
  where
    go : (x : Bool) → is_decimal_byte b ≡ x → cond x (1 + leading_decimal_bytes v) 0 < suc (length v)
        → (leading_decimal_bytes v < length v → is_decimal_byte (get_or v (leading_decimal_bytes v) 0) ≡ false)
        → is_decimal_byte (get_or (b ∷ v) (cond x (1 + leading_decimal_bytes v) 0) 0) ≡ false
    go true e k ih = rw one_add (ih (omega arith))
    go false e k ih = e

-- ---- n
pub numeric_is : (v : List ℕ) → is_numeric v ≡ list_all is_decimal_byte v
unfolding is_numeric nibbles every is_decimal_byte
numeric_is v = go v ∙ every_all is_decimal_byte v
  where
    go : (v : List ℕ) → is_numeric v ≡ every is_decimal_byte v
    go [] = refl
    go (b ∷ v) = both_assoc (is_decimal_nibble (b / 16)) (is_decimal_nibble (b % 16)) (is_numeric v) ∙ ap (both (is_decimal_byte b)) (go v)

-- ---- cn
pub byte_fs : (b : ℕ) → both (is_nibble_f (b / 16)) (is_nibble_f (b % 16)) ≡ eqb b 0xFF
byte_fs b = go (eqb b 0xFF) refl (is_nibble_f (b / 16)) refl
  where
    go : (x : Bool) → eqb b 0xFF ≡ x → (y : Bool) → is_nibble_f (b / 16) ≡ y
        → both (is_nibble_f (b / 16)) (is_nibble_f (b % 16)) ≡ x
    go true e y f =
        let k = eqb-true b 0xFF e in
        both_yes _ _ (eq-eqb (b / 16) 15 (omega arith)) (eq-eqb (b % 16) 15 (omega arith))
    go false e true f =
        let k = eqb-false b 0xFF e in
        let j = eqb-true (b / 16) 15 f in
        both_no_right _ _ (ne_eqb (b % 16) 15 (omega arith))
    go false e false f = both_no_left _ _ f

pub fs_bytes : (w : List ℕ) → every is_nibble_f (nibbles w) ≡ all_bytes_ff w
unfolding nibbles every
fs_bytes w = go w ∙ every_all _ w
  where
    go : (w : List ℕ) → every is_nibble_f (nibbles w) ≡ every (λ b. eqb b 0xFF) w
    go [] = refl
    go (b ∷ w) = both_assoc _ _ _ ∙ ap₂ both (byte_fs b) (go w)

-- a first byte of two decimal digits, of a digit and F, of a digit and neither, and of no digit
digits_first : (b : ℕ) (w : List ℕ) → is_decimal_byte b ≡ true → is_compressed_numeric (b ∷ w) ≡ is_compressed_numeric w
unfolding is_compressed_numeric is_digits_then_fs nibbles is_decimal_byte
digits_first b w e = if_yes _ _ (both_left _ _ e) ∙ if_yes _ _ (both_right _ _ e)

half_first : (b : ℕ) (w : List ℕ) → b / 16 < 10 → b % 16 ≡ 15 → is_compressed_numeric (b ∷ w) ≡ all_bytes_ff w
unfolding is_compressed_numeric is_digits_then_fs nibbles every
half_first b w a e =
    if_yes _ _ (lt-ltb (b / 16) 10 a) ∙ if_no _ _ (le-ltb (b % 16) 10 (omega arith)) ∙ both_true _
    (eq-eqb (b % 16) 15 e) ∙ fs_bytes w

wrong_first : (b : ℕ) (w : List ℕ) → is_decimal_byte b ≡ false → b / 16 < 10 → (b % 16 ≡ 15 → ⊥)
    → is_compressed_numeric (b ∷ w) ≡ false
unfolding is_compressed_numeric is_digits_then_fs nibbles every is_decimal_byte
wrong_first b w d a n =
    let e = lt-ltb (b / 16) 10 a in
    if_yes _ _ e ∙ if_no _ _ (sym (both_true (ltb (b % 16) 10) e) ∙ d) ∙ both_no_left _ _ (ne_eqb (b % 16) 15 n)

other_first : (b : ℕ) (w : List ℕ) → 10 ≤ b / 16 → is_compressed_numeric (b ∷ w) ≡ all_bytes_ff (b ∷ w)
unfolding is_compressed_numeric is_digits_then_fs nibbles
other_first b w a = if_no _ _ (le-ltb (b / 16) 10 a) ∙ fs_bytes (b ∷ w)

skip_digits : (v : List ℕ) → is_compressed_numeric v ≡ is_compressed_numeric (drop (leading_decimal_bytes v) v)
skip_digits [] = refl
skip_digits (b ∷ v) = go (is_decimal_byte b) refl (skip_digits v)
  where
    go : (x : Bool) → is_decimal_byte b ≡ x → is_compressed_numeric v ≡ is_compressed_numeric (drop (leading_decimal_bytes v) v)
        → is_compressed_numeric (b ∷ v) ≡ is_compressed_numeric (drop (cond x (1 + leading_decimal_bytes v) 0) (b ∷ v))
    go true e ih = rw one_add (digits_first b v e ∙ ih)
    go false e ih = refl

-- the part behind the digits, as the source has it
pub behind : (v : List ℕ) {n : ℕ} → n ≡ leading_decimal_bytes v
    → take (length v - n) (drop n v) ≡ drop (leading_decimal_bytes v) v
behind v {n} e = take_rest v n ∙ ap (λ (m : ℕ). drop m v) e

-- what the first byte that is not two decimal digits decides, at the front of that part
module _ (v : List ℕ) {w : List ℕ} (e : w ≡ drop (leading_decimal_bytes v) v) (h : 1 ≤ length w) where
  abbrev rest : List ℕ
  rest = take (length w - 1) (drop 1 w)

  split : w ≡ get_or w 0 0 ∷ rest
  split = drop-cons w 0 0 h ∙ ap (λ (r : List ℕ). get_or w 0 0 ∷ r) (sym (take_rest w 1))

  from_there : is_compressed_numeric v ≡ is_compressed_numeric (get_or w 0 0 ∷ rest)
  from_there = skip_digits v ∙ ap is_compressed_numeric (sym e ∙ split)

  pub is_half : get_or w 0 0 / 16 < 10 → get_or w 0 0 % 16 ≡ 15 → all_bytes_ff rest ≡ is_compressed_numeric v
  is_half a p = sym (from_there ∙ half_first _ _ a p)

  pub is_other : 10 ≤ get_or w 0 0 / 16 → all_bytes_ff w ≡ is_compressed_numeric v
  is_other a = sym (from_there ∙ other_first _ _ a ∙ ap all_bytes_ff (sym split))

  pub is_wrong : get_or w 0 0 / 16 < 10 → (get_or w 0 0 % 16 ≡ 15 → ⊥) → false ≡ is_compressed_numeric v
  is_wrong a p = sym (from_there ∙ wrong_first _ _ stop a p)
    where
      k : leading_decimal_bytes v < length v
      k = let l = length-drop (leading_decimal_bytes v) v in let m = ap length e in omega arith

      stop : is_decimal_byte (get_or w 0 0) ≡ false
      stop = ap (λ (l : List ℕ). is_decimal_byte (get_or l 0 0)) (e ∙ drop-cons v (leading_decimal_bytes v) 0 k) ∙ stops v k

pub all_digits : (v : List ℕ) {w : List ℕ} → w ≡ drop (leading_decimal_bytes v) v → length w < 1
    → true ≡ is_compressed_numeric v
unfolding is_compressed_numeric is_digits_then_fs nibbles
all_digits v {w} e h = go w e h
  where
    go : (w : List ℕ) → w ≡ drop (leading_decimal_bytes v) v → length w < 1 → true ≡ is_compressed_numeric v
    go [] e h = sym (skip_digits v ∙ ap is_compressed_numeric (sym e))
    go (x ∷ w) e h = absurd (omega arith)
