-- What a reading gives, from its parts: a primitive body, a template, and a body by its one object; one law for each
-- way out. Assumes nothing.
use Rattle.std.specs.Prelude.{Some, None, Option}
use mathlib.Core.Path.{◌≡◌, refl, ap, ◌∙◌}
use mathlib.Core.Bool.{Bool, true, false}
use mathlib.Core.List.{List, [], ◌∷◌}
use Prim.Native.Nat.{ℕ, ◌+◌, ◌-◌, ◌%◌, ◌≤◌, ◌<◌}
use native.Mathlib.Omega.{arith}
use lib.ListN.{length, take, drop}
use borrow.Author.Tests.{eq-eqb, ne_eqb, le-leb, lt-leb}
use Rattle.basics.proofs.Laws.{if_yes, if_no, both_yes, both_no_left, both_no_right}
use Rattle.tlv.specs.declared.TlvHeader.{TlvHeader}
use Rattle.tlv.specs.Object.{header_of, header_value}
use Rattle.tlv.specs.Tree.{Forest, parse_tree}
use Rattle.reading.specs.declared.Awaited.{Awaited}
use Rattle.reading.specs.declared.Awaited.TheVariants.{Gpo, Record, Cryptogram, Checksum}
use Rattle.reading.specs.declared.Reading.{Reading}
use Rattle.reading.specs.Taking.{primitive_item, primitive_items, StoringState, storing_state}
use Rattle.reading.specs.Answer.{ReadingOutcome, reading_outcome, ReadingAndStoreMatchOutcome, ResponseBody}
use Rattle.reading.specs.Answer.{primitive}
use Rattle.reading.specs.Answer.{template_body, body_of_one_object, parse_response_body, response_template_tag}
use Rattle.reading.specs.Answer.{gpo_items_under80, iad_item_if_any, cryptogram_items_under80, primitive_body_items}
use Rattle.reading.specs.Answer.{template_body_items}
use Rattle.reading.specs.Answer.{reading_if_all_allowed, read_parsed_body, read_body}

-- ---- a reading and its outcome

pub regive : {r : Reading} {b : List ℕ} {o p : ReadingOutcome} → o ≡ p → ReadingAndStoreMatchOutcome r b o
    → ReadingAndStoreMatchOutcome r b p
regive e g = record {
  reason = g.reason ∙ ap (λ (x : ReadingOutcome). x.reason) e;
  objects = g.objects ∙ ap (λ (x : ReadingOutcome). x.objects) e;
  store = g.store ∙ ap (λ (x : ReadingOutcome). x.store) e;
}

-- ---- objects that were taken

pub judged_yes : (b : List ℕ) (n : ℕ) {w : StoringState} {g : Bool} {c : List ℕ} → w ≡ storing_state g c → g ≡ true
    → reading_if_all_allowed b n w ≡ reading_outcome 0 n c
judged_yes b n e f = ap (reading_if_all_allowed b n) e ∙ if_yes _ _ f

pub judged_no : (b : List ℕ) (n : ℕ) {w : StoringState} {g : Bool} {c : List ℕ} → w ≡ storing_state g c → g ≡ false
    → reading_if_all_allowed b n w ≡ reading_outcome 3 n b
judged_no b n e f = ap (reading_if_all_allowed b n) e ∙ if_no _ _ f

-- ---- the parts of a primitive body

module _ (v : List ℕ) where
  pub gpo_short : length v < 6 → gpo_items_under80 v ≡ None
  unfolding gpo_items_under80
  gpo_short h = if_no _ _ (both_no_left _ _ (both_no_left _ _ (lt-leb _ _ h)))

  pub gpo_long : 250 < length v → gpo_items_under80 v ≡ None
  unfolding gpo_items_under80
  gpo_long h = if_no _ _ (both_no_left _ _ (both_no_right _ _ (lt-leb _ _ h)))

  pub gpo_uneven : ((length v - 2) % 4 ≡ 0 → ⊥) → gpo_items_under80 v ≡ None
  unfolding gpo_items_under80
  gpo_uneven h = if_no _ _ (both_no_right _ _ (ne_eqb _ _ h))

  pub gpo_whole : 6 ≤ length v → length v ≤ 250 → (length v - 2) % 4 ≡ 0
      → gpo_items_under80 v ≡ Some (primitive_item 0x77 0x82 (take 2 v) ∷ primitive_item 0x77 0x94 (drop 2 v) ∷ [])
  unfolding gpo_items_under80
  gpo_whole a b c = if_yes _ _ (both_yes _ _ (both_yes _ _ (le-leb _ _ a) (le-leb _ _ b)) (eq-eqb _ _ c))

  pub cryptogram_short : length v < 11 → cryptogram_items_under80 v ≡ None
  unfolding cryptogram_items_under80
  cryptogram_short h = if_no _ _ (both_no_left _ _ (lt-leb _ _ h))

  pub cryptogram_long : 43 < length v → cryptogram_items_under80 v ≡ None
  unfolding cryptogram_items_under80
  cryptogram_long h = if_no _ _ (both_no_right _ _ (lt-leb _ _ h))

  pub cryptogram_whole : 11 ≤ length v → length v ≤ 43
      → cryptogram_items_under80 v ≡ Some (primitive_item 0x77 0x9F27 (take 1 v) ∷ primitive_item 0x77 0x9F36
      (take 2 (drop 1 v)) ∷ primitive_item 0x77 0x9F26 (take 8 (drop 3 v)) ∷ iad_item_if_any (drop 11 v))
  unfolding cryptogram_items_under80
  cryptogram_whole a b = if_yes _ _ (both_yes _ _ (le-leb _ _ a) (le-leb _ _ b))

pub iad_none : (v : List ℕ) → length v ≡ 0 → iad_item_if_any v ≡ []
unfolding iad_item_if_any
iad_none [] h = refl
iad_none (x ∷ v) h = absurd (omega arith)

pub iad_some : (v : List ℕ) → (length v ≡ 0 → ⊥) → iad_item_if_any v ≡ primitive_item 0x77 0x9F10 v ∷ []
unfolding iad_item_if_any
iad_some [] h = absurd (h refl)
iad_some (x ∷ v) h = refl

module _ (t : ℕ) (v : List ℕ) where
  pub wrong_tag : (a : Awaited) → (t ≡ 0x80 → ⊥) → primitive_body_items a t v ≡ None
  unfolding primitive_body_items
  wrong_tag Gpo h = if_no _ _ (ne_eqb _ _ h)
  wrong_tag (Record f) h = refl
  wrong_tag Cryptogram h = if_no _ _ (ne_eqb _ _ h)
  wrong_tag Checksum h = refl

  pub as_gpo : t ≡ 0x80 → primitive_body_items Gpo t v ≡ gpo_items_under80 v
  unfolding primitive_body_items
  as_gpo h = if_yes _ _ (eq-eqb _ _ h)

  pub as_cryptogram : t ≡ 0x80 → primitive_body_items Cryptogram t v ≡ cryptogram_items_under80 v
  unfolding primitive_body_items
  as_cryptogram h = if_yes _ _ (eq-eqb _ _ h)

  pub as_record : (f : _) → primitive_body_items (Record f) t v ≡ None
  unfolding primitive_body_items
  as_record f = refl

  pub as_checksum : primitive_body_items Checksum t v ≡ None
  unfolding primitive_body_items
  as_checksum = refl

-- ---- a template

pub template_wrong : (a : Awaited) (t : ℕ) (f : Forest) → (t ≡ response_template_tag a → ⊥)
    → template_body_items a t f ≡ None
unfolding template_body_items
template_wrong a t f h = if_no _ _ (ne_eqb _ _ h)

pub template_right : (a : Awaited) (t : ℕ) (f : Forest) → t ≡ response_template_tag a
    → template_body_items a t f ≡ Some (primitive_items t f)
unfolding template_body_items
template_right a t f h = if_yes _ _ (eq-eqb _ _ h)

-- ---- the body

module _ (s : List ℕ) where
  pub body_broken : header_of s ≡ None → parse_response_body s ≡ None
  unfolding parse_response_body
  body_broken e = ap (body_of_one_object s) e

  module _ (h : TlvHeader) (e : header_of s ≡ Some h) where
    pub body_behind : (h.start + h.len ≡ length s → ⊥) → parse_response_body s ≡ None
    unfolding parse_response_body
    body_behind z = ap (body_of_one_object s) e ∙ if_no _ _ (ne_eqb _ _ z)

    pub body_template : h.start + h.len ≡ length s → h.template ≡ true
        → parse_response_body s ≡ template_body h.tag (parse_tree 3 (header_value s h))
    unfolding parse_response_body
    body_template z p = ap (body_of_one_object s) e ∙ if_yes _ _ (eq-eqb _ _ z) ∙ if_yes _ _ p

    pub body_primitive : h.start + h.len ≡ length s → h.template ≡ false
        → parse_response_body s ≡ Some (primitive h.tag (header_value s h))
    unfolding parse_response_body
    body_primitive z p = ap (body_of_one_object s) e ∙ if_yes _ _ (eq-eqb _ _ z) ∙ if_no _ _ p

pub body-read : (a : Awaited) (b s : List ℕ) {x : Option ResponseBody} → parse_response_body s ≡ x
    → read_body a b s ≡ read_parsed_body a b x
unfolding read_body
body-read a b s e = ap (read_parsed_body a b) e
