-- A record that was written is read with reason 0 and puts its objects: its encoding is that of a template with the
-- objects as leaves, and each of them may come and finds its row free. So the records one after the other give the
-- store of the list.
-- Assumes nothing.
use Rattle.std.specs.Prelude.{Some, None}
use mathlib.Core.Path.{◌≡◌, refl, sym, ap, ◌∙◌}
use mathlib.Core.Bool.{Bool, true, not}
use mathlib.Core.List.{List, [], ◌∷◌, ◌++◌, append-nil}
use Prim.Native.Nat.{ℕ, zero, suc, ◌+◌, ◌-◌, ◌<◌, ◌≤◌}
use native.Mathlib.Omega.{arith}
use lib.Dec.{eqb, leb}
use lib.ListN.{length, get_or, take, length-append}
use lib.Seq.{drop-append-add, drop-append_seam, take-length, take_at, get_or-append-add}
use borrow.Author.Tests.{eq-eqb, le-leb, leb-true}
use Rattle.basics.specs.Choice.{if, both, every}
use Rattle.basics.specs.Reason.{reason_none}
use Rattle.basics.proofs.Laws.{if_yes, both_yes, both_left, both_right, both_no_right}
use Rattle.tlv.specs.Tag.{tag_first_byte, is_template, tag_size}
use Rattle.tlv.specs.Object.{tlv_header, header_of, header_value}
use Rattle.tlv.specs.Tree.{Forest, end, leaf, object_count, parse_tree}
use Rattle.tlv.specs.Primitives.{Object}
use Rattle.tlv.specs.Encoding.{tag_bytes, length_bytes, object_bytes, encode_tree, well_formed_tag, EncodableWithinLevels}
use Rattle.tlv.proofs.Encoding.{header_encoded, parse_encode}
use Rattle.dictionary.specs.Rows.{dictionary_rows, find_row, store_size, in_record_response}
use Rattle.dictionary.specs.Named.{row_number_of_tag_or_zero}
use Rattle.store.specs.Place.{is_row_absent_or_empty, put_row}
use Rattle.afl.specs.declared.AflEntry.{AflEntry}
use Rattle.afl.specs.declared.CardRecord.{CardRecord}
use Rattle.afl.specs.Entry.{entry_sfi, entry_record_count}
use Rattle.afl.specs.Records.{consecutive_records, entry_records, records_of_entries}
use Rattle.reading.specs.declared.Awaited.{Awaited}
use Rattle.reading.specs.Taking.{primitive_item, primitive_items, row_allows_value_from_card, StoringState, storing_state}
use Rattle.reading.specs.Taking.{store_item, store_all_items}
use Rattle.reading.specs.Answer.{ReadingOutcome, reading_outcome, template, body_of_one_object, parse_response_body}
use Rattle.reading.specs.Answer.{template_body, reading_if_all_allowed, template_body_items, read_body_items, read_parsed_body}
use Rattle.reading.specs.Answer.{read_body, is_body_to_be_read, is_status9000, response_length_is2_to258, read_answer}
use Rattle.reading.proofs.Laws.{item_put, next_good}
use Rattle.personalise.specs.Objects.{tag_record_template, tag_and_value_allowed_in_record, lacks_tag, tags_distinct}
use Rattle.personalise.specs.declared.Placement.{Placement}
use Rattle.personalise.specs.Placements.{objects_in_record_from}
use Rattle.personalise.specs.Records.{encoded_objects, record_content, card_records_from as records}
use Rattle.personalise.specs.Records.{most_record_content_bytes}
use Rattle.personalise.specs.Read.{put_objects, read_record_with9000, read_on_if_accepted, read_all_records}
use Rattle.personalise.proofs.Clauses.{sfi_in_range}
use Rattle.personalise.proofs.Known.{known}
use Rattle.personalise.proofs.Forms.{tag_one, length_most}
use Rattle.personalise.proofs.Listed.{object_length}
use Rattle.personalise.proofs.Arranged.{ordered}
use Rattle.personalise.proofs.Stored.{put, known_place, put_size, FreeIn, free_put, free_behind, put_join}

-- ---- the tree of a record

-- objects concatenated
leaves : List Object → Forest
leaves [] = end
leaves (o ∷ os) = leaf o.tag o.value (leaves os)

encoded : (os : List Object) → encode_tree (leaves os) ≡ encoded_objects os
unfolding encode_tree encoded_objects leaves
encoded [] = refl
encoded (o ∷ os) = ap (λ (s : List ℕ). object_bytes o.tag o.value ++ s) (encoded os)

encodable : (os : List Object) → every tag_and_value_allowed_in_record os ≡ true → EncodableWithinLevels (leaves os) 3
unfolding every leaves
encodable [] e = tt
encodable (o ∷ os) e = let k = known o (both_left _ _ e) in
    (k.tag, k.primitive, omega (arith, k.short), encodable os (both_right _ _ e))

-- ---- taking the objects

-- an object that may come and whose row is free is put
take_one : (b : List ℕ) (o : Object) → tag_and_value_allowed_in_record o ≡ true
    → is_row_absent_or_empty dictionary_rows b (row_number_of_tag_or_zero o.tag) ≡ true
    → store_item in_record_response b (primitive_item tag_record_template o.tag o.value) ≡ storing_state true (put b o)
unfolding row_allows_value_from_card
take_one b o s f =
    let k = known o s in
    let e = known_place o k in
    item_put in_record_response b (primitive_item tag_record_template o.tag o.value) (find_row dictionary_rows o.tag)
    refl k.place k.found
    (both_no_right _ _ (ap not (both_left _ _ k.comes))) k.comes
    (sym (ap (is_row_absent_or_empty dictionary_rows b) e) ∙ f)
    ∙ ap (λ (i : ℕ). storing_state true (put_row dictionary_rows b i o.value)) (sym e)

take_leaves : (b : List ℕ) (os : List Object) → every tag_and_value_allowed_in_record os ≡ true → tags_distinct os ≡ true
    → length b ≡ store_size → FreeIn b os
    → store_all_items in_record_response (storing_state true b) (primitive_items tag_record_template (leaves os))
    ≡ storing_state true (put_objects b os)
unfolding primitive_items store_all_items put_objects every tags_distinct leaves
take_leaves b [] e d l f = refl
take_leaves b (o ∷ os) e d l f =
    ap (λ (w : StoringState). store_all_items in_record_response w (primitive_items tag_record_template (leaves os)))
    (next_good in_record_response b (primitive_item tag_record_template o.tag o.value) refl ∙ take_one b o
    (both_left _ _ e) f.0)
    ∙ take_leaves (put b o) os (both_right _ _ e) (both_right _ _ d) (put_size b o (both_left _ _ e) l)
    (free_put b o os (both_left _ _ e) (both_right _ _ e) (both_left _ _ d) l f.1)

-- ---- a record's answer

template_tag : well_formed_tag tag_record_template ≡ true
unfolding well_formed_tag tag_bytes tag_size if both
template_tag = refl

template_is : is_template tag_record_template ≡ true
unfolding is_template tag_first_byte if
template_is = refl

module _ (os : List Object) (e : every tag_and_value_allowed_in_record os ≡ true)
    (h : length (encoded_objects os) ≤ most_record_content_bytes) where
  abbrev inner : List ℕ
  inner = encoded_objects os

  abbrev whole : List ℕ
  whole = object_bytes tag_record_template inner

  abbrev from : ℕ
  from = length (tag_bytes tag_record_template) + length (length_bytes (length inner))

  head : header_of whole ≡ Some (tlv_header tag_record_template from (length inner))
  head = ap header_of (sym (append-nil whole)) ∙ header_encoded tag_record_template inner [] template_tag

  value : header_value whole (tlv_header tag_record_template from (length inner)) ≡ inner
  value =
      ap (take (length inner)) (drop-append-add (tag_bytes tag_record_template) (length_bytes (length inner) ++ inner)
      (length (length_bytes (length inner)))
      ∙ drop-append_seam (length_bytes (length inner)) inner) ∙ take-length inner

  body : parse_response_body whole ≡ Some (template tag_record_template (leaves os))
  unfolding parse_response_body
  body =
      ap (body_of_one_object whole) head
      ∙ if_yes _ _ (eq-eqb (from + length inner) (length whole) (omega (arith, object_length tag_record_template inner)))
      ∙ if_yes _ _ template_is
      ∙ ap (template_body tag_record_template) (ap (parse_tree 3) (value ∙ sym (encoded os)) ∙ parse_encode (leaves os) 3
      (encodable os e))

  -- at most 256 bytes
  whole_most : length whole ≤ 256
  whole_most = omega (
    arith,
    object_length tag_record_template inner,
    ap length (tag_one tag_record_template (omega arith)),
    length_most (length inner) (omega arith),
  )

  module _ (b : List ℕ) (d : tags_distinct os ≡ true) (l : length b ≡ store_size) (f : FreeIn b os) (r : CardRecord)
      (sfi : r.sfi ≤ 10) where
    abbrev awaited : Awaited
    awaited = Awaited.Record (record { number = r.sfi })

    read_body_lem : read_body awaited b whole ≡ reading_outcome reason_none (1 + object_count (leaves os)) (put_objects b os)
    unfolding read_body template_body_items
    read_body_lem =
        ap (read_parsed_body awaited b) body
        ∙ ap (read_body_items awaited b (1 + object_count (leaves os)))
        (if_yes (Some (primitive_items tag_record_template (leaves os))) None refl)
        ∙ ap (reading_if_all_allowed b (1 + object_count (leaves os))) (take_leaves b os e d l f) ∙ if_yes _ _ refl

    abbrev answer : List ℕ
    answer = whole ++ (0x90 ∷ 0x00 ∷ [])

    size : length answer ≡ length whole + 2
    size = length-append whole (0x90 ∷ 0x00 ∷ [])

    good_length : response_length_is2_to258 answer ≡ true
    unfolding response_length_is2_to258
    good_length = both_yes _ _ (le-leb 2 (length answer) (omega (arith, size)))
        (le-leb (length answer) 258 (omega (arith, size, whole_most)))

    good_status : is_status9000 answer ≡ true
    unfolding is_status9000
    good_status =
        let x : length answer - 2 ≡ length whole + 0 = omega (arith, size) in
        let y : length answer - 1 ≡ length whole + 1 = omega (arith, size) in
        both_yes _ _ (ap (λ (i : ℕ). eqb (get_or answer i 0) 0x90) x ∙ ap (λ (i : ℕ). eqb i 0x90)
        (get_or-append-add whole (0x90 ∷ 0x00 ∷ []) 0 0))
        (ap (λ (i : ℕ). eqb (get_or answer i 0) 0) y ∙ ap (λ (i : ℕ). eqb i 0)
        (get_or-append-add whole (0x90 ∷ 0x00 ∷ []) 1 0))

    read_one : read_record_with9000 b r whole ≡ reading_outcome reason_none (1 + object_count (leaves os)) (put_objects b os)
    unfolding read_answer is_body_to_be_read
    read_one =
        let x : length whole ≡ length answer - 2 = omega (arith, size) in
        if_yes _ _ good_length ∙ if_yes _ _ good_status ∙ if_yes _ _ (le-leb r.sfi 10 sfi)
        ∙ ap (read_body awaited b) (take_at whole (0x90 ∷ 0x00 ∷ []) (length answer - 2) x) ∙ read_body_lem

-- ---- all records

-- the records of accepted entries are of files 1 to 10
abbrev read_sfi : CardRecord → Bool
read_sfi r = leb r.sfi 10

every_join : {A : Type 0} (g : A → Bool) (x y : List A) → every g x ≡ true → every g y ≡ true → every g (x ++ y) ≡ true
unfolding every
every_join g [] y e f = f
every_join g (a ∷ x) y e f = both_yes _ _ (both_left _ _ e) (every_join g x y (both_right _ _ e) f)

-- the parts of a test at every element of two lists
every_first : {A : Type 0} (g : A → Bool) (x y : List A) → every g (x ++ y) ≡ true → every g x ≡ true
unfolding every
every_first g [] y e = refl
every_first g (a ∷ x) y e = both_yes _ _ (both_left _ _ e) (every_first g x y (both_right _ _ e))

every_second : {A : Type 0} (g : A → Bool) (x y : List A) → every g (x ++ y) ≡ true → every g y ≡ true
unfolding every
every_second g [] y e = e
every_second g (a ∷ x) y e = every_second g x y (both_right _ _ e)

distinct_first : (x y : List Object) → tags_distinct (x ++ y) ≡ true → tags_distinct x ≡ true
unfolding tags_distinct lacks_tag
distinct_first [] y e = refl
distinct_first (o ∷ x) y e = both_yes _ _ (every_first (λ z. not (eqb z.tag o.tag)) x y (both_left _ _ e))
    (distinct_first x y (both_right _ _ e))

distinct_second : (x y : List Object) → tags_distinct (x ++ y) ≡ true → tags_distinct y ≡ true
unfolding tags_distinct
distinct_second [] y e = e
distinct_second (o ∷ x) y e = distinct_second x y (both_right _ _ e)

free_first : (b : List ℕ) (x y : List Object) → FreeIn b (x ++ y) → FreeIn b x
free_first b [] y f = tt
free_first b (o ∷ x) y f = (f.0, free_first b x y f.1)

files_from : (g n k : ℕ) → g ≤ 10 → every read_sfi (consecutive_records g n k) ≡ true
unfolding consecutive_records every
files_from g n zero h = refl
files_from g n (suc k) h = both_yes _ _ (le-leb g 10 h) (files_from g (n + 1) k h)

pub files_of : (es : List AflEntry) → every sfi_in_range es ≡ true → every read_sfi (records_of_entries es) ≡ true
unfolding records_of_entries every
files_of [] e = refl
files_of (x ∷ es) e =
    every_join read_sfi (entry_records x) (records_of_entries es) (files_from (entry_sfi x) x.first (entry_record_count x)
    (leb-true (entry_sfi x) 10 (both_right _ _ (both_left _ _ e))))
    (files_of es (both_right _ _ e))

pub read_all : (os : List Object) (ps : List Placement) (rs : List CardRecord) (k : ℕ) (b : List ℕ)
    → every read_sfi rs ≡ true
    → ((i : ℕ) → k ≤ i → i < k + length rs → length (record_content os ps i) ≤ most_record_content_bytes)
    → every tag_and_value_allowed_in_record (ordered ps k (length rs) 1 os) ≡ true
    → tags_distinct (ordered ps k (length rs) 1 os) ≡ true
    → length b ≡ store_size → FreeIn b (ordered ps k (length rs) 1 os)
    → read_all_records b rs (records os ps k (length rs)) ≡ Some (put_objects b (ordered ps k (length rs) 1 os))
unfolding read_all_records records ordered every put_objects
read_all os ps [] k b g h e d l f = refl
read_all os ps (r ∷ rs) k b g h e d l f =
    let x = objects_in_record_from ps k 1 os in
    let y = ordered ps (suc k) (length rs) 1 os in
    let z = free_behind b x y e d l f in
    let q = read_one x (every_first tag_and_value_allowed_in_record x y e) (h k (omega arith) (omega arith)) b
    (distinct_first x y d) l (free_first b x y f) r (leb-true r.sfi 10 (both_left _ _ g)) in
    ap (λ (o : ReadingOutcome). read_on_if_accepted o (λ c. read_all_records c rs (records os ps (suc k) (length rs)))) q
    ∙ if_yes _ _ refl
    ∙ read_all os ps rs (suc k) (put_objects b x) (both_right _ _ g) (λ i m n. h i (omega arith) (omega arith))
    (every_second tag_and_value_allowed_in_record x y e) (distinct_second x y d) z.0 z.1
    ∙ ap Some (sym (put_join b x y))
