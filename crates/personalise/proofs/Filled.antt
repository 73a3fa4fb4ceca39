-- One iteration of writing a content, and of writing the records: what is written, and what is left after it.
-- Assumes nothing.
use mathlib.Core.Path.{◌≡◌, ap, ◌∙◌}
use mathlib.Core.List.{List, [], ◌∷◌, ◌++◌}
use mathlib.Core.Bool.{true}
use Prim.Native.Nat.{ℕ, suc, ◌+◌, ◌-◌, ◌<◌, ◌≤◌}
use native.Mathlib.Numerals.{add-one}
use native.Mathlib.Omega.{arith}
use lib.ListN.{length, length-append}
use Rattle.tlv.specs.Primitives.{Object}
use Rattle.personalise.specs.declared.Placement.{Placement}
use Rattle.personalise.specs.Placements.{objects_in_record_from}
use Rattle.personalise.specs.Objects.{tag_record_template, tag_and_value_allowed_in_record}
use Rattle.personalise.specs.Records.{encoded_objects, record_content, card_record_bytes, card_records_from}
use Rattle.personalise.specs.Records.{concatenated_records, most_record_content_bytes}
use Rattle.personalise.specs.Inner.{bytes_written_over, WritesBytesAt}
use Rattle.personalise.specs.Inner.{object_bytes_if_placed_in_record, concatenated_first_records}
use Rattle.personalise.proofs.Known.{known, known_tag}
use Rattle.personalise.proofs.Listed.{content_bytes, object_length}
use Rattle.personalise.proofs.Forms.{tag_one, length_most}
use Rattle.personalise.proofs.Over.{puts_length, puts_next}

-- the content of some objects, numbered from j on
abbrev pub content : List Placement → ℕ → ℕ → List Object → List ℕ
content ps k j os = encoded_objects (objects_in_record_from ps k j os)

module _ (o : Object) (os : List Object) (ps : List Placement) (k j : ℕ) where
  -- a tag of at most three bytes, and a length below 256
  pub first_small : tag_and_value_allowed_in_record o ≡ true → (o.tag < 0x1000000) × (length o.value < 0x100)
  first_small a = let f = known o a in (known_tag o f, omega (arith, f.short))

  abbrev first : List ℕ
  first = object_bytes_if_placed_in_record ps k j o.tag o.value

  abbrev left : List ℕ
  left = content ps k (j + 1) os

  joins : content ps k j (o ∷ os) ≡ first ++ left
  joins = rw add-one (content_bytes ps k j o os)

  sizes : length (content ps k j (o ∷ os)) ≡ length first + length left
  sizes = ap length joins ∙ length-append first left

  module _ (out : List ℕ) (to : ℕ) (room : to + length (content ps k j (o ∷ os)) ≤ length out) where
    pub first_room : to + length first ≤ length out
    first_room = omega (arith, sizes)

    module _ {to' : ℕ} {out' : List ℕ} (p : WritesBytesAt to' out' out to first) where
      pub left_over : bytes_written_over out to (content ps k j (o ∷ os)) ≡ bytes_written_over out' to' left
      left_over = ap (bytes_written_over out to) joins ∙ puts_next out to first first_room p left

      pub left_next : to + length (content ps k j (o ∷ os)) ≡ to' + length left
      left_next = omega (arith, sizes, p.next)

      pub left_length : length out' ≡ length out
      left_length = puts_length out to first first_room p

-- ---- the records that are left

module _ (os : List Object) (ps : List Placement) where
  -- the records from k on, of n
  abbrev pub records_left : ℕ → ℕ → List ℕ
  records_left n k = concatenated_records (card_records_from os ps k (n + 1 - k))

  -- a record is at most 256 bytes
  pub record_most : (k : ℕ) → length (record_content os ps k) ≤ most_record_content_bytes → length (card_record_bytes os ps k)
      ≤ 256
  record_most k h =
      let v = record_content os ps k in
      omega (
        arith,
        object_length tag_record_template v,
        ap length (tag_one tag_record_template (omega arith)),
        length_most
            (length v) (omega arith),
      )

  pub records_more : (n k : ℕ) → k ≤ n → records_left n k ≡ card_record_bytes os ps k ++ records_left n (k + 1)
  unfolding card_records_from concatenated_records
  records_more n k h =
      let e : n + 1 - k ≡ suc (n + 1 - (k + 1)) = omega arith in
      rw (e, add-one k)

  pub records_done : (n k : ℕ) → n < k → records_left n k ≡ []
  unfolding card_records_from concatenated_records
  records_done n k h = let e : n + 1 - k ≡ 0 = omega arith in rw e

  pub records_all : (n : ℕ) → records_left n 1 ≡ concatenated_first_records os ps n
  records_all n = let e : n + 1 - 1 ≡ n = omega arith in ap (λ (m : ℕ). concatenated_records (card_records_from os ps 1 m))
      e

  -- an iteration of the loop
  module _ (n k : ℕ) (h : k ≤ n) (f : length (record_content os ps k) ≤ most_record_content_bytes) (out : List ℕ) (at : ℕ)
      (room : at + 256 ≤ length out)
      {at' : ℕ} {out' : List ℕ} (p : WritesBytesAt at' out' out at (card_record_bytes os ps k)) where
    fits : at + length (card_record_bytes os ps k) ≤ length out
    fits = omega (arith, record_most k f)

    pub transition_over : bytes_written_over out at (records_left n k) ≡ bytes_written_over out' at' (records_left n (k + 1))
    transition_over = ap (bytes_written_over out at) (records_more n k h) ∙ puts_next out at (card_record_bytes os ps k)
        fits p (records_left n (k + 1))

    pub transition_next : at + length (records_left n k) ≡ at' + length (records_left n (k + 1))
    transition_next = omega (
      arith,
      ap length (records_more n k h) ∙ length-append (card_record_bytes os ps k)
          (records_left n (k + 1)),
      p.next,
    )

    pub transition_length : length out' ≡ length out
    transition_length = puts_length out at (card_record_bytes os ps k) fits p

    pub transition_most : at' ≤ at + 256
    transition_most = omega (arith, p.next, record_most k f)
