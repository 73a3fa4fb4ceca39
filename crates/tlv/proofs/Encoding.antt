-- An encoding parses back to its tree, the shortest one and every padded one. A tag's bytes are its number again and a
-- length's bytes its value, whatever is after them; so an encoded object is next with its own header, and its parts are
-- those that were encoded.
-- Assumes nothing.
use Rattle.std.specs.Prelude.{Some}
use mathlib.Core.Path.{◌≡◌, refl, sym, ap, ◌∙◌}
use mathlib.Core.Bool.{true}
use mathlib.Core.List.{List, [], ◌∷◌, ◌++◌, append_assoc}
use Prim.Native.Nat.{ℕ, zero, suc, ◌+◌, ◌*◌, ◌/◌, ◌%◌, ◌≤◌}
use native.Mathlib.Numerals.{sub-one}
use native.Mathlib.Omega.{arith}
use lib.ListN.{length, drop, length-append}
use lib.Seq.{take-length, take-append_seam, drop-append_seam, drop-append-add, drop-drop}
use borrow.Author.Tests.{eqb-true}
use Rattle.basics.specs.Choice.{if}
use Rattle.basics.specs.Number.{append_big_endian_bytes, big_endian_number}
use Rattle.basics.proofs.Laws.{if_yes, if_ind, both_right}
use Rattle.tlv.specs.declared.NextInTemplate.TheVariants.{Inner}
use Rattle.tlv.specs.Tag.{tag_size, tag_parsed, tag_at}
use Rattle.tlv.specs.Length.{length_after81, length_after82, length_parsed, length_at}
use Rattle.tlv.specs.Object.{tlv_header, header_of, header_value, behind_object}
use Rattle.tlv.specs.Tree.{Forest, end, leaf, node, next_in_template, parse_tree}
use Rattle.tlv.specs.Encoding.{tag_bytes, well_formed_tag, length_bytes, object_bytes, encode_tree}
use Rattle.tlv.specs.Encoding.{EncodableWithinLevels}
use Rattle.tlv.specs.Padding.{EncodesTreeWithPadding, nothing, padding, primitive, template}
use Rattle.tlv.specs.Padding.{PaddingDoesNotChangeParse}
use Rattle.tlv.proofs.Laws.{tag_some, tail-is, header_with, with_whole}
use Rattle.tlv.proofs.Prefix.{tag_kept}
use Rattle.tlv.proofs.NextObject.{next-empty, next_object}
use Rattle.tlv.proofs.Tree.{parse_end, parse_leaf, parse_node, parse_count, with_leaf, with_node, zeros_in_front}
use Rattle.tlv.proofs.Tree.{zeros_behind, zeros_between}

-- ---- a tag's bytes

some_bytes : (t : ℕ) → 1 ≤ length (tag_bytes t)
unfolding tag_bytes
some_bytes t = let P : List ℕ → Type 0 = λ s. 1 ≤ length s in if_ind P _ _ _ (λ _. omega arith)
    (λ _. if_ind P _ _ _ (λ _. omega arith) (λ _. omega arith))

pub number_tag : (t : ℕ) → big_endian_number (tag_bytes t) ≡ t
unfolding tag_bytes append_big_endian_bytes
number_tag t =
    let P : List ℕ → Type 0 = λ s. big_endian_number s ≡ t in
    if_ind P _ _ _ (λ _. omega arith) (λ _. if_ind P _ _ _ (λ _. omega arith) (λ _. omega arith))

pub tag_encoded : (t : ℕ) (r : List ℕ) → well_formed_tag t ≡ true
    → tag_at (tag_bytes t ++ r) ≡ tag_parsed t (length (tag_bytes t))
unfolding well_formed_tag
tag_encoded t r w =
    let k = length (tag_bytes t) in
    let e : tag_size (tag_bytes t) ≡ k = eqb-true _ _ (both_right _ _ w) in
    let n = some_bytes t in
    tag_kept (tag_bytes t) r _
    (tag_some (tag_bytes t) k (sym e) (omega arith) ∙ rw (take-length (tag_bytes t), number_tag t))

-- ---- a length's bytes

in_two : (n : ℕ) (r : List ℕ) → length_at (0x81 ∷ n ∷ r) ≡ length_parsed n 2
unfolding length_at length_after81 if
in_two n r = refl

in_three : (a b : ℕ) (r : List ℕ) → length_at (0x82 ∷ a ∷ b ∷ r) ≡ length_parsed (a * 256 + b) 3
unfolding length_at length_after82 if
in_three a b r = refl

pub length_encoded : (n : ℕ) (r : List ℕ) → length_at (length_bytes n ++ r) ≡ length_parsed n (length (length_bytes n))
unfolding length_bytes length_at
length_encoded n r =
    let P : List ℕ → Type 0 = λ s. length_at (s ++ r) ≡ length_parsed n (length s) in
    if_ind P _ _ _ (λ e. if_yes _ _ e) (λ _. if_ind P _ _ _ (λ _. in_two n r)
    (λ _. let e : n / 0x100 * 256 + n % 0x100 ≡ n = omega arith in in_three _ _ r ∙ ap (λ (m : ℕ). length_parsed m 3) e))

-- ---- an object's bytes

module _ (t : ℕ) (v r : List ℕ) where
  abbrev bytes : List ℕ
  bytes = object_bytes t v ++ r

  abbrev start : ℕ
  start = length (tag_bytes t) + length (length_bytes (length v))

  apart : bytes ≡ tag_bytes t ++ (length_bytes (length v) ++ (v ++ r))
  apart = simp append_assoc

  behind_tag : drop (length (tag_bytes t)) bytes ≡ length_bytes (length v) ++ (v ++ r)
  behind_tag = rw apart (drop-append_seam (tag_bytes t) (length_bytes (length v) ++ (v ++ r)))

  behind_header : drop start bytes ≡ v ++ r
  behind_header = rw (apart, drop-append-add) (drop-append_seam (length_bytes (length v)) (v ++ r))

  object_value_lem : header_value bytes (tlv_header t start (length v)) ≡ v
  object_value_lem = rw behind_header (take-append_seam v r)

  object_behind : behind_object bytes (tlv_header t start (length v)) ≡ r
  object_behind = sym (drop-drop (length v) start bytes) ∙ rw behind_header (drop-append_seam v r)

  pub header_encoded : well_formed_tag t ≡ true → header_of bytes ≡ Some (tlv_header t start (length v))
  header_encoded w =
      let k = length (tag_bytes t) in
      header_with bytes _ (ap tag_at apart ∙ tag_encoded t (length_bytes (length v) ++ (v ++ r)) w) _
      (ap length_at (tail-is bytes k ∙ behind_tag) ∙ length_encoded (length v) (v ++ r))
      ∙ with_whole bytes _ _ (simp length-append (omega arith))

  next_encoded : well_formed_tag t ≡ true → next_in_template bytes ≡ Inner (tlv_header t start (length v))
  next_encoded w = next_object bytes _ (header_encoded w)

-- ---- a tree's bytes, padded or not

pub parse_padded : {f : Forest} {s : List ℕ} → EncodesTreeWithPadding f s → (l : ℕ) → EncodableWithinLevels f l
    → parse_tree l s ≡ Some f
parse_padded nothing l u = parse_end l [] (next-empty [] refl)
parse_padded (padding p) l u = zeros_in_front 1 l _ ∙ parse_padded p l u
parse_padded (primitive t v {r} {s} p) l u =
    parse_leaf l _ _ (next_encoded t v s u.0) u.1
    ∙ rw (object_value_lem t v s, object_behind t v s) (with_leaf t v _ r (parse_padded p l u.3))
parse_padded (template t {f} {r} {v} {s} m p q) zero u = absurd u.3
parse_padded (template t {f} {r} {v} {s} m p q) (suc l) u =
    parse_node (suc l) _ _ (next_encoded t v s u.0) u.1 (λ z. omega arith)
    ∙ rw (sub-one, object_value_lem t v s, object_behind t v s)
    (with_node t _ _ f r (parse_padded p l u.3) (parse_padded q (suc l) u.4))

-- the shortest encoding has no padding
pub encode_padded : (f : Forest) (l : ℕ) → EncodableWithinLevels f l → EncodesTreeWithPadding f (encode_tree f)
unfolding encode_tree
encode_padded end l u = nothing
encode_padded (leaf t v r) l u = primitive t v (encode_padded r l u.3)
encode_padded (node t f r) zero u = absurd u.3
encode_padded (node t f r) (suc l) u = template t u.2 (encode_padded f l u.3) (encode_padded r (suc l) u.4)

pub parse_encode : (f : Forest) (l : ℕ) → EncodableWithinLevels f l → parse_tree l (encode_tree f) ≡ Some f
parse_encode f l u = parse_padded (encode_padded f l u) l u

pub passes_over : (s : List ℕ) → PaddingDoesNotChangeParse s
passes_over s = record {
  in_front = λ n l. zeros_in_front n l s;
  behind = λ n l f. zeros_behind n l s f;
  between = λ t n l f g e d. zeros_between n l s t f g e d;
  encoded = λ f l u p. parse_padded p l u;
  half = λ l f. parse_count l s f;
}
