-- Whole answers. A record's answer gives what its contents give (`whole`), and every answer that is accepted is one
-- (`accepted_whole`), so the law on contents is the law on answers.
-- Assumes nothing.
use Rattle.std.specs.Prelude.{Some, None, Option}
use mathlib.Core.Path.{◌≡◌, refl, sym, ap, subst, ◌∙◌}
use mathlib.Core.Bool.{true, false}
use mathlib.Core.Logic.{inl, inr}
use mathlib.Core.List.{List}
use Prim.Native.Nat.{ℕ, suc, ◌+◌, ◌≤◌}
use native.Mathlib.Omega.{arith}
use lib.ListN.{length}
use borrow.Author.Tests.{le-leb, eq-eqb, eqb-true}
use Rattle.basics.specs.Choice.{if}
use Rattle.basics.proofs.Laws.{if_yes, if_no, bool_cases, both_yes, both_left, both_right}
use Rattle.basics.proofs.Order.{equal_or_not}
use Rattle.tlv.specs.declared.TlvHeader.{TlvHeader}
use Rattle.tlv.specs.Tag.{tag_first_byte, is_template}
use Rattle.tlv.specs.Object.{header_of, header_value}
use Rattle.tlv.specs.Tree.{Forest, object_count, parse_tree}
use Rattle.tlv.proofs.Laws.{header_fits}
use Rattle.dictionary.specs.Rows.{store_size}
use Rattle.reading.specs.declared.Sfi.{Sfi}
use Rattle.reading.specs.declared.Awaited.TheVariants.{Record}
use Rattle.reading.specs.Answer.{ReadingOutcome, ResponseBody, template_body, read_body_items, read_parsed_body, read_body}
use Rattle.reading.specs.Answer.{parse_response_body, is_body_to_be_read, is_status9000, response_length_is2_to258, read_answer}
use Rattle.reading.proofs.Parts.{as_record, template_wrong, template_right, body_broken, body_behind, body_template}
use Rattle.reading.proofs.Parts.{body_primitive, body-read}
use Rattle.laws.specs.Records.{ShareNoPrimitiveTag, read_record_contents, read_record_answer, ReadingAccepted}
use Rattle.laws.specs.Records.{ReadingsAcceptedAndSameInEitherOrder, OneReadingReplacesTwo, without_status_bytes}
use Rattle.laws.specs.Records.{contents_in, outer_object_contents, is_template70_and_nothing_more}
use Rattle.laws.specs.Records.{is_successful_record_answer_in70, RecordAnswersCommuteAndJoin}
use Rattle.laws.proofs.Contents.{contents_agree}

-- ---- a record's answer: its length, its status and its outer object

pub record Outer (s : List ℕ) : Type 0 where
  pub size : response_length_is2_to258 s ≡ true
  pub status : is_status9000 s ≡ true
  pub header : TlvHeader
  pub front : header_of (without_status_bytes s) ≡ Some header
  pub tag : header.tag ≡ 0x70
  pub end : header.start + header.len ≡ length (without_status_bytes s)

pub outer_of : (s : List ℕ) → is_successful_record_answer_in70 s ≡ true → Outer s
unfolding is_successful_record_answer_in70
outer_of s e = go (header_of (without_status_bytes s)) refl
  where
    good : is_status9000 s ≡ true
    good = both_left _ _ (both_right _ _ e)

    go : (x : Option TlvHeader) → header_of (without_status_bytes s) ≡ x → Outer s
    go None p =
        let q : false ≡ true = ap (is_template70_and_nothing_more (without_status_bytes s)) (sym p) ∙ both_right _ _
        (both_right _ _ e) in
        let z : ◌≡◌ {A = ℕ} 0 1 = cc in
        absurd (omega arith)
    go (Some h) p =
        let q = ap (is_template70_and_nothing_more (without_status_bytes s)) (sym p) ∙ both_right _ _ (both_right _ _ e) in
        record {
          size = both_left _ _ e;
          status = good;
          header = h;
          front = p;
          tag = eqb-true _ _ (both_left _ _ q);
          end = eqb-true _ _ (both_right _ _ q);
        }

pub outer_record : (s : List ℕ) → Outer s → is_successful_record_answer_in70 s ≡ true
unfolding is_successful_record_answer_in70
outer_record s o =
    both_yes _ _ o.size
    (both_yes _ _ o.status
    (ap (is_template70_and_nothing_more (without_status_bytes s)) o.front ∙ both_yes _ _ (eq-eqb _ _ o.tag)
    (eq-eqb _ _ o.end)))

pub outer_contents : (s : List ℕ) (o : Outer s) → outer_object_contents s ≡ header_value (without_status_bytes s) o.header
unfolding outer_object_contents
outer_contents s o = ap (contents_in (without_status_bytes s)) o.front

-- ---- it gives what its contents give

is_template_lem : is_template 0x70 ≡ true
unfolding is_template tag_first_byte if
is_template_lem = refl

-- a file's number plays no part
any_sfi : (f g : Sfi) (b : List ℕ) (x : Option Forest) → read_parsed_body (Record f) b (template_body 0x70 x)
    ≡ read_parsed_body (Record g) b (template_body 0x70 x)
any_sfi f g b None = refl
any_sfi f g b (Some t) =
    ap (read_body_items (Record f) b (1 + object_count t)) (template_right (Record f) 0x70 t refl)
    ∙ sym (ap (read_body_items (Record g) b (1 + object_count t)) (template_right (Record g) 0x70 t refl))

is_read : (f : Sfi) → f.number ≤ 10 → is_body_to_be_read (Record f) ≡ true
unfolding is_body_to_be_read
is_read f h = le-leb f.number 10 h

to_body : (f : Sfi) (b s : List ℕ) → f.number ≤ 10 → response_length_is2_to258 s ≡ true → is_status9000 s ≡ true
    → read_record_answer f s b ≡ read_body (Record f) b (without_status_bytes s)
unfolding read_answer
to_body f b s h l g = if_yes _ _ l ∙ if_yes _ _ g ∙ if_yes _ _ (is_read f h)

pub whole : (f : Sfi) (b s : List ℕ) → f.number ≤ 10 → is_successful_record_answer_in70 s ≡ true
    → read_record_answer f s b ≡ read_record_contents (outer_object_contents s) b
whole f b s h e =
    let o = outer_of s e in
    let x = o.header in
    let fits = header_fits (without_status_bytes s) x o.front in
    let t : x.template ≡ true = ap (λ (y : TlvHeader). y.template) fits.whole ∙ ap is_template o.tag ∙
    is_template_lem in
    to_body f b s h o.size o.status
    ∙ body-read (Record f) b (without_status_bytes s) (body_template (without_status_bytes s) x o.front o.end t)
    ∙ ap (λ (n : ℕ). read_parsed_body (Record f) b (template_body n (parse_tree 3 (header_value (without_status_bytes s) x))))
    o.tag
    ∙ any_sfi f (record { number = 1 }) b (parse_tree 3 (header_value (without_status_bytes s) x))
    ∙ ap (λ (c : List ℕ). read_record_contents c b) (sym (outer_contents s o))

-- ---- every answer that is accepted is a record's

-- a reason is not none
given : {A : Type 0} {m n : ℕ} → m ≡ suc n → m ≡ 0 → A
given p q = absurd (omega arith)

module _ (f : Sfi) (b : List ℕ) where
  other_tag : (t : ℕ) (x : Option Forest) → (t ≡ 0x70 → ⊥) → (read_parsed_body (Record f) b (template_body t x)).reason ≡ 2
  other_tag t None ne = refl
  other_tag t (Some g) ne = ap (λ y. (read_body_items (Record f) b (1 + object_count g) y).reason)
      (template_wrong (Record f) t g ne)

  malformed : (s : List ℕ) {x : Option ResponseBody} → parse_response_body s ≡ x → (read_parsed_body (Record f) b x).reason
      ≡ 2 → (read_body (Record f) b s).reason ≡ 2
  malformed s e r = ap (λ (o : ReadingOutcome). o.reason) (body-read (Record f) b s e) ∙ r

  module _ (s : List ℕ) (l : response_length_is2_to258 s ≡ true) (g : is_status9000 s ≡ true)
      (a : (read_body (Record f) b (without_status_bytes s)).reason ≡ 0) where
    by_tag : (h : TlvHeader) → header_of (without_status_bytes s) ≡ Some h
        → h.start + h.len ≡ length (without_status_bytes s) → Outer s
    by_tag h p e = elim (equal_or_not h.tag 0x70) [
      | inl t ↦ record { size = l; status = g; header = h; front = p; tag = t; end = e }
      | inr t ↦ elim (bool_cases h.template) [
        | inl y ↦ given (malformed (without_status_bytes s) (body_template (without_status_bytes s) h p e y)
            (other_tag h.tag (parse_tree 3 (header_value (without_status_bytes s) h)) t)) a
        | inr y ↦
            given (malformed (without_status_bytes s) (body_primitive (without_status_bytes s) h p e y)
            (ap (λ z. (read_body_items (Record f) b 1 z).reason) (as_record h.tag (header_value (without_status_bytes s) h)
            f))) a
      ]
    ]

    by_front : (x : Option TlvHeader) → header_of (without_status_bytes s) ≡ x → Outer s
    by_front None p = given (malformed (without_status_bytes s) (body_broken (without_status_bytes s) p) refl) a
    by_front (Some h) p = elim (equal_or_not (h.start + h.len) (length (without_status_bytes s))) [
      | inl e ↦ by_tag h p e
      | inr e ↦ given (malformed (without_status_bytes s) (body_behind (without_status_bytes s) h p e) refl) a
    ]

no_length : (f : Sfi) (b s : List ℕ) → response_length_is2_to258 s ≡ false → (read_record_answer f s b).reason ≡ 2
unfolding read_answer
no_length f b s l = ap (λ (o : ReadingOutcome). o.reason) (if_no _ _ l)

no_status : (f : Sfi) (b s : List ℕ) → response_length_is2_to258 s ≡ true → is_status9000 s ≡ false
    → (read_record_answer f s b).reason ≡ 1
unfolding read_answer
no_status f b s l g = ap (λ (o : ReadingOutcome). o.reason) (if_yes _ _ l ∙ if_no _ _ g)

pub accepted_whole : (f : Sfi) (b s : List ℕ) → f.number ≤ 10 → ReadingAccepted (read_record_answer f s) b
    → is_successful_record_answer_in70 s ≡ true
accepted_whole f b s h a = elim (bool_cases (response_length_is2_to258 s)) [
  | inl l ↦ elim (bool_cases (is_status9000 s)) [
    | inl g ↦
        outer_record s (by_front f b s l g (sym (ap (λ (o : ReadingOutcome). o.reason) (to_body f b s h l g)) ∙ a)
        (header_of (without_status_bytes s)) refl)
    | inr g ↦ given (no_status f b s l g) a
  ]
  | inr l ↦ given (no_length f b s l) a
]

-- ---- the law

-- as readings, whatever the store
as_contents : (f : Sfi) (s : List ℕ) → f.number ≤ 10 → is_successful_record_answer_in70 s ≡ true
    → read_record_answer f s ≡ read_record_contents (outer_object_contents s)
as_contents f s h e = λ i b. whole f b s h e i

module _ {p q p' q' : List ℕ → ReadingOutcome} {b : List ℕ} (e : p ≡ p') (d : q ≡ q') where
  orders_as : ReadingsAcceptedAndSameInEitherOrder p' q' b → ReadingsAcceptedAndSameInEitherOrder p q b
  orders_as h = rw (e, d) h

  one_as : {r r' : List ℕ → ReadingOutcome} → r ≡ r' → OneReadingReplacesTwo r' p' q' b → OneReadingReplacesTwo r p q b
  one_as c h = rw (c, e, d) h

pub answers_agree : (f g : Sfi) (b s t : List ℕ) → f.number ≤ 10 → g.number ≤ 10 → length b ≡ store_size
    → ShareNoPrimitiveTag (outer_object_contents s) (outer_object_contents t) → ReadingAccepted (read_record_answer f s) b
    → ReadingAccepted (read_record_answer g t) b → RecordAnswersCommuteAndJoin f g b s t
answers_agree f g b s t h k l share p q =
    let e = as_contents f s h (accepted_whole f b s h p) in
    let d = as_contents g t k (accepted_whole g b t k q) in
    let a = contents_agree b (outer_object_contents s) (outer_object_contents t) l share
    (subst (λ r. ReadingAccepted r b) e p) (subst (λ r. ReadingAccepted r b) d q) in
    record {
      orders = orders_as e d a.orders;
      joined = λ x u m w. one_as e d (as_contents x u m w.whole ∙ ap read_record_contents w.contents) a.joined;
      swapped = λ x u m w. one_as e d (as_contents x u m w.whole ∙ ap read_record_contents w.contents) a.swapped;
    }
