-- How many bytes of contents a record's answer holds. Up to 253 the shortest encoding is an answer of at most 258 bytes
-- (`room`); no answer holds more, since a length over 127 takes two bytes at least (`most_held`).
-- Assumes nothing.
use Rattle.std.specs.Prelude.{Option, Some, None}
use Rattle.tlv.specs.declared.TlvHeader.{TlvHeader}
use Rattle.tlv.specs.declared.TlvLength.{TlvLength}
use mathlib.Core.Path.{◌≡◌, refl, sym, ap, ◌∙◌}
use mathlib.Core.Bool.{true}
use mathlib.Core.List.{List, [], ◌∷◌, ◌++◌, append-nil}
use mathlib.Core.Logic.{inl, inr}
use Prim.Native.Nat.{ℕ, ◌+◌, ◌-◌, ◌≤◌, ◌<◌}
use native.Mathlib.Omega.{arith}
use lib.Dec.{eqb}
use lib.ListN.{length, get_or, take, drop, length-append, length-take}
use lib.Seq.{drop-append-add, drop-append_seam, take-length, take_at, get_or-append-add}
use borrow.Author.Tests.{le-leb, leb-true, ltb-true, ltb-false}
use Rattle.basics.specs.Choice.{if, both}
use Rattle.basics.proofs.Laws.{if_ind, both_yes, both_right}
use Rattle.basics.proofs.Order.{le-or-gt}
use Rattle.tlv.specs.declared.Tag.{Tag}
use Rattle.tlv.specs.Tag.{tag_size, tag_at}
use Rattle.tlv.specs.Length.{length_after81, length_after82, length_at}
use Rattle.tlv.specs.Object.{tlv_header, header_with_length, header_with_tag, header_of, header_value}
use Rattle.tlv.specs.Encoding.{tag_bytes, well_formed_tag, length_bytes, object_bytes}
use Rattle.tlv.proofs.Laws.{tag_fits}
use Rattle.tlv.proofs.Encoding.{header_encoded}
use Rattle.reading.specs.Answer.{is_status9000, response_length_is2_to258}
use Rattle.laws.specs.Records.{without_status_bytes, outer_object_contents, is_successful_record_answer_in70}
use Rattle.laws.specs.Records.{RecordAnswerWithContents, shortest_record_answer}
use Rattle.laws.proofs.Answers.{Outer, outer_of, outer_record, outer_contents}

-- ---- contents of at most 253 bytes

well-formed : well_formed_tag 0x70 ≡ true
unfolding well_formed_tag tag_bytes tag_size if both
well-formed = refl

one_byte : length (tag_bytes 0x70) ≡ 1
unfolding tag_bytes if
one_byte = refl

few_bytes : (n : ℕ) → n < 0x100 → length (length_bytes n) ≤ 2
unfolding length_bytes
few_bytes n h =
    let P : List ℕ → Type 0 = λ s. length s ≤ 2 in
    if_ind P _ _ _ (λ _. omega arith)
    (λ _. if_ind P _ _ _ (λ _. omega arith) (λ e. let z = ltb-false n 0x100 e in absurd (omega arith)))

module _ (c : List ℕ) (h : length c ≤ 253) where
  abbrev object : List ℕ
  object = object_bytes 0x70 c

  abbrev status : List ℕ
  status = 0x90 ∷ 0x00 ∷ []

  abbrev from : ℕ
  from = length (tag_bytes 0x70) + length (length_bytes (length c))

  object_size : length object ≡ from + length c
  object_size = simp length-append (omega arith)

  size : length (shortest_record_answer c) ≡ length object + 2
  size = length-append object status

  body : without_status_bytes (shortest_record_answer c) ≡ object
  body = let e : length object ≡ length (shortest_record_answer c) - 2 = omega (arith, size) in take_at object status _ e

  good_length : response_length_is2_to258 (shortest_record_answer c) ≡ true
  unfolding response_length_is2_to258
  good_length =
      both_yes _ _ (le-leb 2 (length (shortest_record_answer c)) (omega (arith, size)))
      (le-leb (length (shortest_record_answer c)) 258
      (omega (arith, size, object_size, one_byte, few_bytes (length c) (omega arith))))

  good_status : is_status9000 (shortest_record_answer c) ≡ true
  unfolding is_status9000
  good_status =
      let x : length (shortest_record_answer c) - 2 ≡ length object + 0 = omega (arith, size) in
      let y : length (shortest_record_answer c) - 1 ≡ length object + 1 = omega (arith, size) in
      both_yes _ _ (ap (λ (i : ℕ). eqb (get_or (shortest_record_answer c) i 0) 0x90) x ∙ ap (λ (n : ℕ). eqb n 0x90)
      (get_or-append-add object status 0 0))
      (ap (λ (i : ℕ). eqb (get_or (shortest_record_answer c) i 0) 0) y ∙ ap (λ (n : ℕ). eqb n 0)
      (get_or-append-add object status 1 0))

  outer : Outer (shortest_record_answer c)
  outer = record {
    size = good_length;
    status = good_status;
    header = tlv_header 0x70 from (length c);
    front = ap header_of (body ∙ sym (append-nil object)) ∙ header_encoded 0x70 c [] well-formed;
    tag = refl;
    end = sym (ap length body ∙ object_size);
  }

  value : header_value object (tlv_header 0x70 from (length c)) ≡ c
  value =
      ap (take (length c)) (drop-append-add (tag_bytes 0x70) (length_bytes (length c) ++ c)
      (length (length_bytes (length c)))
      ∙ drop-append_seam (length_bytes (length c)) c) ∙ take-length c

  pub room : RecordAnswerWithContents (shortest_record_answer c) c
  unfolding outer
  room = record {
    whole = outer_record (shortest_record_answer c) outer;
    contents = outer_contents (shortest_record_answer c) outer ∙ ap
        (λ (s : List ℕ). header_value s (tlv_header 0x70 from (length c))) body ∙ value;
  }

-- ---- no answer holds more

-- a length that is in one byte is below 128
abbrev Low : Option TlvLength → Type 0
Low None = Unit {0}
Low (Some e) = e.size ≤ 1 → e.len < 0x80

in_two : (s : List ℕ) → Low (length_after81 s)
unfolding length_after81
in_two [] = tt
in_two (a ∷ s) = λ h. absurd (omega arith)

in_three : (s : List ℕ) → Low (length_after82 s)
unfolding length_after82
in_three [] = tt
in_three (a ∷ []) = tt
in_three (a ∷ b ∷ s) = λ h. absurd (omega arith)

low : (s : List ℕ) → Low (length_at s)
unfolding length_at
low [] = tt
low (a ∷ s) =
    if_ind Low _ _ _ (λ e h. ltb-true a 0x80 e)
    (λ _. if_ind Low _ _ _ (λ _. in_two s) (λ _. if_ind Low _ _ _ (λ _. in_three s) (λ _. tt)))

-- so a value that starts at place 2 has fewer than 128 bytes
abbrev LowFront : Option TlvHeader → Type 0
LowFront None = Unit {0}
LowFront (Some h) = h.start ≤ 2 → h.len < 0x80

low_length : (s : List ℕ) (t : Tag) (x : Option TlvLength) → 1 ≤ t.size → Low x → LowFront (header_with_length s t x)
low_length s t None h l = tt
low_length s t (Some e) h l = if_ind LowFront _ _ _ (λ _ m. l (omega arith)) (λ _. tt)

low_front : (s : List ℕ) → LowFront (header_of s)
unfolding header_of
low_front s = go (tag_at s) refl
  where
    go : (x : Option Tag) → tag_at s ≡ x → LowFront (header_with_tag s x)
    go None p = tt
    go (Some t) p = low_length s t (length_at (drop t.size s)) (tag_fits s t p).some (low (drop t.size s))

most : (s : List ℕ) → response_length_is2_to258 s ≡ true → length (without_status_bytes s) ≤ 256
unfolding response_length_is2_to258
most s e = let h : length s ≤ 258 = leb-true _ _ (both_right _ _ e) in simp length-take (omega arith)

pub most_held : (s : List ℕ) → is_successful_record_answer_in70 s ≡ true → length (outer_object_contents s) ≤ 253
most_held s e =
    let o = outer_of s e in
    let m = most s o.size in
    let z = o.end in
    let l : o.header.start ≤ 2 → o.header.len < 0x80 = rw o.front at (low_front (without_status_bytes s)) in
    let n : o.header.len ≤ 253 = elim (le-or-gt o.header.start 2) [
      | inl h ↦ omega (arith, l h)
      | inr h ↦
          omega arith
    ] in
    rw (outer_contents s o) (simp length-take (omega arith))
