-- What a decoding has reached (`Decoding`) and its laws: the start, one more byte, and the three ways out; and the laws
-- of a decimal number.
-- Assumes nothing.
use Rattle.std.specs.Prelude.{Option, Some, None, Ok, Err}
use mathlib.Core.Path.{◌≡◌, refl, sym, ap, ◌∙◌}
use mathlib.Core.Bool.{Bool, true, false}
use mathlib.Core.List.{List, [], ◌∷◌, ◌++◌, append_assoc, append-nil}
use mathlib.Core.Logic.{◌⊎◌, inl, inr}
use Prim.Native.Nat.{ℕ, ◌+◌, ◌-◌, ◌*◌, ◌≤◌, ◌<◌}
use Rattle.basics.specs.Number.{between}
use native.Mathlib.Numerals.{add-one}
use native.Mathlib.Omega.{arith}
use lib.Dec.{leb}
use lib.ListN.{length, get_or, take, drop, set, length-set, length-append, take-append-drop, drop_of_length-le}
use lib.Seq.{length-take-le, take_at, take-suc-set, drop-set-lt, drop-drop, drop-cons}
use borrow.Author.Tests.{lt-ltb, le-ltb, le-leb, lt-leb}
use Rattle.basics.specs.Choice.{if, both, every}
use Rattle.basics.proofs.Laws.{if_yes, if_no, bool_cases, both_yes, both_true, both_no_left, both_no_right}
use Rattle.text_line.specs.declared.Line.{Line}
use Rattle.text_line.specs.declared.CharacterKind.TheVariants.{Blank}
use Rattle.text_line.specs.Text.{is_blank, is_character_of_kind, after_longest_prefix}
use Rattle.text_line.specs.Digits.{hex_digit_value_or16, is_hex_pair, HexTextDecoding, hex_decoding_stopped}
use Rattle.text_line.specs.Digits.{prepend_to_hex_decoding, hex_decoding_of, hex_decoding_within_room}
use Rattle.text_line.specs.Digits.{DecodesHex, append_decimal_characters, is_decimal_digit, buffer_line_if_up_to4096}
use Rattle.text_line.specs.Inner.{hex_pair_at_front}
use Rattle.text_line.proofs.Text.{past_first}

-- ---- one digit

outside : (l c h : ℕ) → (c < l) ⊎ (h < c) → between l c h ≡ false
outside l c h (inl a) = both_no_left _ _ (lt-leb l c a)
outside l c h (inr a) = both_no_right _ _ (lt-leb c h a)

inside : (l c h : ℕ) → l ≤ c → c ≤ h → between l c h ≡ true
inside l c h a b = both_yes _ _ (le-leb l c a) (le-leb c h b)

pub digit_small : (c : ℕ) → 48 ≤ c → c ≤ 57 → hex_digit_value_or16 c ≡ c - 48
unfolding hex_digit_value_or16
digit_small c a b = if_yes _ _ (inside 48 c 57 a b)

pub digit_capital : (c : ℕ) → 65 ≤ c → c ≤ 70 → hex_digit_value_or16 c ≡ c - 65 + 10
unfolding hex_digit_value_or16
digit_capital c a b = if_no _ _ (outside 48 c 57 (inr (omega arith))) ∙ if_yes _ _ (inside 65 c 70 a b) ∙ omega arith

pub digit_letter : (c : ℕ) → 97 ≤ c → c ≤ 102 → hex_digit_value_or16 c ≡ c - 97 + 10
unfolding hex_digit_value_or16
digit_letter c a b =
    if_no _ _ (outside 48 c 57 (inr (omega arith))) ∙ if_no _ _ (outside 65 c 70 (inr (omega arith)))
    ∙ if_yes _ _ (inside 97 c 102 a b) ∙ omega arith

pub digit_none : (c : ℕ) → (c < 48) ⊎ (57 < c) → (c < 65) ⊎ (70 < c) → (c < 97) ⊎ (102 < c) → hex_digit_value_or16 c ≡ 16
unfolding hex_digit_value_or16
digit_none c a b d = if_no _ _ (outside 48 c 57 a) ∙ if_no _ _ (outside 65 c 70 b) ∙ if_no _ _ (outside 97 c 102 d)

-- ---- the first two characters

pub pair_short : (s : List ℕ) → length s < 2 → hex_pair_at_front s ≡ None
unfolding hex_pair_at_front
pair_short [] h = refl
pair_short (a ∷ []) h = refl
pair_short (a ∷ b ∷ s) h = absurd (omega arith)

pub pair_is : (s : List ℕ) → 2 ≤ length s
    → hex_pair_at_front s ≡ if (is_hex_pair (get_or s 0 0) (get_or s 1 0))
    (Some (hex_digit_value_or16 (get_or s 0 0) * 16 + hex_digit_value_or16 (get_or s 1 0)))
    None
unfolding hex_pair_at_front
pair_is [] h = absurd (omega arith)
pair_is (a ∷ []) h = absurd (omega arith)
pair_is (a ∷ b ∷ s) h = refl

-- ---- a spelling

-- leading blanks do not count
spelled_past : (s : List ℕ) → hex_decoding_of s ≡ hex_decoding_of (after_longest_prefix (is_character_of_kind Blank) s)
unfolding hex_decoding_of after_longest_prefix if
spelled_past [] = refl
spelled_past (a ∷ []) = go (is_blank a) refl
  where
    go : (x : Bool) → is_blank a ≡ x → hex_decoding_of (a ∷ []) ≡ hex_decoding_of (if x [] (a ∷ []))
    go true e = if_yes _ _ e
    go false e = refl
spelled_past (a ∷ b ∷ s) = go (is_blank a) refl (spelled_past (b ∷ s))
  where
    go : (x : Bool) → is_blank a ≡ x
        → hex_decoding_of (b ∷ s) ≡ hex_decoding_of (after_longest_prefix (is_character_of_kind Blank) (b ∷ s))
        → hex_decoding_of (a ∷ b ∷ s) ≡ hex_decoding_of (if x (after_longest_prefix (is_character_of_kind Blank) (b ∷ s))
        (a ∷ b ∷ s))
    go true e ih = if_yes _ _ e ∙ ih
    go false e ih = refl

-- a text that is empty or begins with no blank
abbrev pub Trimmed : List ℕ → Type 0
Trimmed s = 0 < length s → is_blank (get_or s 0 0) ≡ false

-- two digits as a byte
abbrev byte_of : ℕ → ℕ → Option ℕ
byte_of a b = Some (hex_digit_value_or16 a * 16 + hex_digit_value_or16 b)

none_of : (s : List ℕ) → length s ≡ 0 → s ≡ []
none_of [] e = refl
none_of (a ∷ s) e = absurd (omega arith)

spelled_broken : (s : List ℕ) → 0 < length s → Trimmed s → hex_pair_at_front s ≡ None
    → hex_decoding_of s ≡ hex_decoding_stopped 3
unfolding hex_decoding_of hex_pair_at_front
spelled_broken [] h d e = absurd (omega arith)
spelled_broken (a ∷ []) h d e = if_no _ _ (d h)
spelled_broken (a ∷ b ∷ s) h d e =
    if_no _ _ (d h) ∙ if_no _ _ (elim (bool_cases (is_hex_pair a b)) [
      | inl p ↦ (cc (if_yes (byte_of a b) None p))
      | inr p ↦ p
    ])

spelled_byte : (s : List ℕ) (v : ℕ) → Trimmed s → hex_pair_at_front s ≡ Some v
    → hex_decoding_of s ≡ prepend_to_hex_decoding (v ∷ []) (hex_decoding_of (drop 2 s))
unfolding hex_decoding_of hex_pair_at_front
spelled_byte [] v d e = cc
spelled_byte (a ∷ []) v d e = cc
spelled_byte (a ∷ b ∷ s) v d e =
    if_no _ _ (d (omega arith))
    ∙ elim (bool_cases (is_hex_pair a b)) [
      | inl p ↦ let q : byte_of a b ≡ Some v = sym (if_yes _ _ p) ∙ e in
          let w : hex_digit_value_or16 a * 16 + hex_digit_value_or16 b ≡ v = cc in
          if_yes _ _ p ∙ ap (λ (x : ℕ). prepend_to_hex_decoding (x ∷ []) (hex_decoding_of s)) w
      | inr p ↦ cc (if_no (byte_of a b) None p)
    ]

pub pair_length : (s : List ℕ) (v : ℕ) → hex_pair_at_front s ≡ Some v → 2 ≤ length s
unfolding hex_pair_at_front
pair_length [] v e = let z : ◌≡◌ {A = ℕ} 0 1 = cc in omega arith
pair_length (a ∷ []) v e = let z : ◌≡◌ {A = ℕ} 0 1 = cc in omega arith
pair_length (a ∷ b ∷ s) v e = omega arith

-- ---- a decoding

-- n bytes of s are at the front of the caller's bytes, the rest of s is still to decode, and the caller's bytes after
-- are as they were
pub record Decoding (s entry : List ℕ) (n : ℕ) (rest out : List ℕ) : Type 0 where
  pub room : n ≤ length out
  pub size : length out ≡ length entry
  pub behind : drop n out ≡ drop n entry
  pub trimmed : Trimmed rest
  pub carried : hex_decoding_of s ≡ prepend_to_hex_decoding (take n out) (hex_decoding_of rest)

pub decoding_start : (s out : List ℕ) → Decoding s out 0 (after_longest_prefix (is_character_of_kind Blank) s) out
decoding_start s out = record {
  room = omega arith;
  size = refl;
  behind = refl;
  trimmed =
      past_first (is_character_of_kind Blank) s;
  carried = spelled_past s;
}

-- the first n of the caller's bytes as a spelling, and what it reports
front_of : List ℕ → ℕ → ℕ → HexTextDecoding
front_of out n p = record { bytes = take n out; problem = p }

reported : (entry out : List ℕ) (n p : ℕ) → n ≤ length out → drop n out ≡ drop n entry → (r : HexTextDecoding)
    → r ≡ front_of out n p
    → DecodesHex (record { size = n; problem = p }) out r entry
unfolding front_of
reported entry out n p h k r e =
    let l = length-take-le n out h in
    rw e (record { report = rw l; buffer = rw (l, ← k) (sym (take-append-drop n out)) })

module _ (s entry : List ℕ) (n : ℕ) (rest out : List ℕ) (g : Decoding s entry n rest out) where
  -- nothing more is spelled
  closed : (p : ℕ) → hex_decoding_of rest ≡ hex_decoding_stopped p → DecodesHex (record { size = n; problem = p }) out
      (hex_decoding_within_room (length entry) (hex_decoding_of s)) entry
  unfolding hex_decoding_within_room front_of
  closed p e =
      let l = length-take-le n out g.room in
      let q : hex_decoding_of s ≡ front_of out n p = g.carried ∙ rw e
      (ap (λ (b : List ℕ). record { bytes = b; problem = p }) (append-nil _)) in
      reported entry out n p g.room g.behind _
      (rw q (if_yes _ _ (le-leb (length (take n out)) (length entry) (omega arith))))

  pub decoding_ends : length rest ≡ 0 → DecodesHex (record { size = n; problem = 0 }) out
      (hex_decoding_within_room (length entry) (hex_decoding_of s)) entry
  unfolding hex_decoding_of
  decoding_ends e = closed 0 (rw (none_of rest e))

  pub decoding_breaks : 0 < length rest → hex_pair_at_front rest ≡ None
      → DecodesHex (record { size = n; problem = 3 }) out (hex_decoding_within_room (length entry) (hex_decoding_of s)) entry
  decoding_breaks h e = closed 3 (spelled_broken rest h g.trimmed e)

  module _ (v : ℕ) (e : hex_pair_at_front rest ≡ Some v) where
    next : hex_decoding_of s ≡ prepend_to_hex_decoding (take n out)
        (prepend_to_hex_decoding (v ∷ []) (hex_decoding_of (drop 2 rest)))
    next = g.carried ∙ ap (prepend_to_hex_decoding (take n out)) (spelled_byte rest v g.trimmed e)

    pub decoding_full : length out ≤ n → DecodesHex (record { size = n; problem = 4 }) out
        (hex_decoding_within_room (length entry) (hex_decoding_of s)) entry
    unfolding hex_decoding_within_room front_of
    decoding_full h =
        let l = length-take-le n out g.room in
        let over : length entry < length (take n out ++ (v ∷ (hex_decoding_of (drop 2 rest)).bytes)) =
        simp length-append (omega arith) in
        let cut : take (length entry) (take n out ++ (v ∷ (hex_decoding_of (drop 2 rest)).bytes)) ≡ take n out =
        take_at (take n out) _ (length entry) (omega arith) in
        reported entry out n 4 g.room g.behind _
        (rw next (if_no _ _ (lt-leb _ _ over) ∙ ap (λ (b : List ℕ). record { bytes = b; problem = 4 }) cut))

    pub decoding_on : n < length out
        → Decoding s entry (n + 1) (after_longest_prefix (is_character_of_kind Blank) (drop 2 rest)) (set out n v)
    decoding_on h = record {
      room = rw length-set (omega arith);
      size = rw length-set g.size;
      behind = rw (drop-set-lt (n + 1) out n v (omega arith))
          (sym (drop-drop 1 n out) ∙ ap (drop 1) g.behind ∙ drop-drop 1 n entry);
      trimmed = past_first (is_character_of_kind Blank) (drop 2 rest);
      carried = next ∙ rw (add-one, take-suc-set, ← spelled_past (drop 2 rest))
          (ap (λ (b : List ℕ). record { bytes = b; problem = (hex_decoding_of (drop 2 rest)).problem })
          (sym (append_assoc (take n out) (v ∷ []) _)));
    }

-- ---- a decimal number

from_least : (n : ℕ) (s : List ℕ) → n ≤ append_decimal_characters n s
unfolding append_decimal_characters
from_least n [] = omega arith
from_least n (c ∷ s) = let ih = from_least (n * 10 + hex_digit_value_or16 c) s in omega arith

-- the digits before place i are read as n
pub record Reading (w : List ℕ) (n i : ℕ) : Type 0 where
  pub within : i ≤ length w
  pub small : n ≤ 4096
  pub digits : every is_decimal_digit w ≡ every is_decimal_digit (drop i w)
  pub number : append_decimal_characters 0 w ≡ append_decimal_characters n (drop i w)

not_sized : (w : List ℕ) → both (every is_decimal_digit w) (leb (append_decimal_characters 0 w) 4096) ≡ false
    → buffer_line_if_up_to4096 w ≡ Err (record { number = 6 })
unfolding buffer_line_if_up_to4096
not_sized w e = if_no _ _ (both_no_right _ _ e)

pub sized_none : (w : List ℕ) → length w ≡ 0 → buffer_line_if_up_to4096 w ≡ Err (record { number = 6 })
unfolding buffer_line_if_up_to4096
sized_none w e = if_no _ _ (both_no_left _ _ (le-ltb 0 (length w) (omega arith)))

module _ (w : List ℕ) (n i : ℕ) (r : Reading w n i) where
  module _ (h : i < length w) (d : ℕ) (e : d ≡ hex_digit_value_or16 (get_or w i 0)) where
    pub not_digit : 10 ≤ d → buffer_line_if_up_to4096 w ≡ Err (record { number = 6 })
    unfolding every
    not_digit k =
        not_sized w
        (both_no_left _ _
        (r.digits ∙ rw (drop-cons w i 0)
        (both_no_left _ _ (le-ltb (hex_digit_value_or16 (get_or w i 0)) 10 (omega arith)))))

    on : append_decimal_characters 0 w ≡ append_decimal_characters (n * 10 + d) (drop (i + 1) w)
    unfolding append_decimal_characters
    on = r.number ∙ rw (add-one, drop-cons w i 0, e)

    pub too_large : 4096 < n * 10 + d → buffer_line_if_up_to4096 w ≡ Err (record { number = 6 })
    too_large k =
        let l = from_least (n * 10 + d) (drop (i + 1) w) in
        not_sized w (both_no_right _ _ (lt-leb (append_decimal_characters 0 w) 4096 (rw on (omega arith))))

    pub reading_on : d < 10 → n * 10 + d ≤ 4096 → Reading w (n * 10 + d) (i + 1)
    unfolding every
    reading_on k l = record {
      within = omega arith;
      small = l;
      digits = r.digits ∙ rw (add-one, drop-cons w i 0)
          (both_true _ (lt-ltb (hex_digit_value_or16 (get_or w i 0)) 10 (omega arith)));
      number = on;
    }

  pub sized_is : 0 < length w → length w ≤ i → buffer_line_if_up_to4096 w ≡ Ok (Line.Buffer (record { bytes = n }))
  unfolding buffer_line_if_up_to4096 every append_decimal_characters
  sized_is h k =
      let q : append_decimal_characters 0 w ≡ n = r.number ∙ rw (drop_of_length-le w k) in
      let a : every is_decimal_digit w ≡ true = r.digits ∙ rw (drop_of_length-le w k) in
      rw q (if_yes _ _ (both_yes _ _ (lt-ltb 0 (length w) h) (both_yes _ _ a (le-leb n 4096 r.small))))
