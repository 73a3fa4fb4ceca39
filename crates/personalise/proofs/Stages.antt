-- The stages of the answer, by the bytes; and the buffers where nothing is written and where all is.
-- Assumes nothing.
use Rattle.std.specs.Prelude.{Some, None, Option, Ok, Err}
use mathlib.Core.Path.{◌≡◌, refl, sym, ap, ◌∙◌}
use mathlib.Core.Bool.{true, false, not}
use mathlib.Core.List.{List, ◌++◌}
use Prim.Native.Nat.{ℕ, zero, suc, ◌+◌, ◌*◌, ◌<◌, ◌≤◌}
use native.Mathlib.Omega.{arith}
use lib.ListN.{length, drop, length-append}
use borrow.Author.Tests.{lt-ltb, le-ltb}
use Rattle.basics.specs.Choice.{both, every}
use Rattle.basics.proofs.Laws.{if_yes, if_no, if_ind, both_true, both_left, both_no_left}
use Rattle.tlv.specs.Primitives.{Object, primitive_objects, are_primitive_objects_parsed}
use Rattle.afl.specs.Records.{afl_record_count}
use Rattle.personalise.specs.declared.Placement.{Placement}
use Rattle.personalise.specs.declared.PersonaliseError.TheVariants.{ShortRecords, ShortAfl, BadList, BadEntry, BadRecord}
use Rattle.personalise.specs.Objects.{tag_and_value_allowed_in_record, tags_distinct, objects_or_empty}
use Rattle.personalise.specs.Placements.{each_placed_once}
use Rattle.personalise.specs.Entries.{first_bad_entry}
use Rattle.personalise.specs.Records.{record_content, card_record_bytes, card_records_from, concatenated_records}
use Rattle.personalise.specs.Records.{most_record_content_bytes, first_bad_record}
use Rattle.personalise.specs.Outcome.{least_records_buffer_size, least_afl_buffer_size, CardPlan, objects_of_plan}
use Rattle.personalise.specs.Outcome.{placements_of_plan, objects_valid_and_each_placed_once, refuse_fault_or}
use Rattle.personalise.specs.Outcome.{PersonaliseResult, personalise_result, records_buffer_after, afl_buffer_after}
use Rattle.personalise.specs.Word.{PersonaliseFieldsWithinBounds, is_written, personalise_word}
use Rattle.personalise.specs.Word.{is_personalise_word_of_written}
use Rattle.personalise.specs.Inner.{parsed_objects_valid_and_placed_once, AreObjectsAllowedInRecord}
use Rattle.personalise.specs.Inner.{RecordContentsWithin253Bytes, concatenated_first_records, result_all_written}
use Rattle.personalise.specs.Inner.{result_from_record_checks, result_from_entry_checks, result_from_list_checks}
use Rattle.personalise.proofs.Filled.{record_most}
use Rattle.personalise.proofs.Rules.{afl_most, total_most, entry_number}
use Rattle.personalise.proofs.Least.{record_number_lem, fitting_of}

-- ---- the answer

-- after the entries, by the record that was found bad
pub record_stage : (p : CardPlan) (n : ℕ) {f g : Option ℕ} → n ≡ afl_record_count p.entries
    → f ≡ first_bad_record (objects_of_plan p) (placements_of_plan p) n → f ≡ g
    → result_from_record_checks p ≡ refuse_fault_or BadRecord g (result_all_written p)
record_stage p n c e q = ap (λ (x : Option ℕ). refuse_fault_or BadRecord x (result_all_written p))
    (ap (first_bad_record (objects_of_plan p) (placements_of_plan p)) (sym c) ∙ sym e ∙ q)

-- after the list, by the entry that was found bad
pub entry_stage : (p : CardPlan) {f g : Option ℕ} → f ≡ first_bad_entry p.entries → f ≡ g
    → result_from_entry_checks p ≡ refuse_fault_or BadEntry g (result_from_record_checks p)
entry_stage p e q = ap (λ (x : Option ℕ). refuse_fault_or BadEntry x (result_from_record_checks p)) (sym e ∙ q)

-- the list's test is that of its objects
pub list_valid : (p : CardPlan) → objects_valid_and_each_placed_once p ≡ parsed_objects_valid_and_placed_once (placements_of_plan p)
    1 (primitive_objects p.list)
unfolding objects_valid_and_each_placed_once
list_valid p = go (primitive_objects p.list)
  where
    go : (x : Option (List Object))
        → both (are_primitive_objects_parsed x) (both (every tag_and_value_allowed_in_record (objects_or_empty x))
        (both (tags_distinct (objects_or_empty x)) (each_placed_once (placements_of_plan p) 1 (objects_or_empty x))))
        ≡ parsed_objects_valid_and_placed_once (placements_of_plan p) 1 x
    go None = both_no_left _ _ refl
    go (Some os) = both_true _ refl

module _ (p : CardPlan) (r l : List ℕ) where
  pub short_records : length r < least_records_buffer_size → personalise_result p r l ≡ Err ShortRecords
  unfolding personalise_result
  short_records h = if_yes _ _ (lt-ltb _ _ h)

  module _ (h : least_records_buffer_size ≤ length r) where
    pub short_afl : length l < least_afl_buffer_size → personalise_result p r l ≡ Err ShortAfl
    unfolding personalise_result
    short_afl k = if_no _ _ (le-ltb _ _ h) ∙ if_yes _ _ (lt-ltb _ _ k)

    module _ (k : least_afl_buffer_size ≤ length l) where
      pub after_buffers : personalise_result p r l ≡ result_from_list_checks p
      unfolding personalise_result
      after_buffers = if_no _ _ (le-ltb _ _ h) ∙ if_no _ _ (le-ltb _ _ k)

      pub bad_list : parsed_objects_valid_and_placed_once (placements_of_plan p) 1 (primitive_objects p.list) ≡ false
          → personalise_result p r l ≡ Err BadList
      bad_list e = after_buffers ∙ if_yes _ _ (ap not (list_valid p ∙ e))

      pub good_list : parsed_objects_valid_and_placed_once (placements_of_plan p) 1 (primitive_objects p.list) ≡ true
          → personalise_result p r l ≡ result_from_entry_checks p
      good_list e = after_buffers ∙ if_no _ _ (ap not (list_valid p ∙ e))

-- a run that satisfies the rules is usable
pub usable : (o : List ℕ) (ps : List Placement) → parsed_objects_valid_and_placed_once ps 1 (primitive_objects o) ≡ true
    → AreObjectsAllowedInRecord o
usable o ps e = go (primitive_objects o) e
  where
    go : (x : Option (List Object)) → parsed_objects_valid_and_placed_once ps 1 x ≡ true
        → (are_primitive_objects_parsed x ≡ true) × (every tag_and_value_allowed_in_record (objects_or_empty x) ≡ true)
    go None q = absurd (let z : ◌≡◌ {A = ℕ} 0 1 = cc in omega arith)
    go (Some os) q = (refl, both_left _ _ q)

-- ---- the buffers

pub records_stay : (p : CardPlan) (r : List ℕ) → r ≡ records_buffer_after false p r
records_stay p r = sym (if_no _ _ refl)

pub afl_stays : (es l : List ℕ) → l ≡ afl_buffer_after false es l
afl_stays es l = sym (if_no _ _ refl)

-- a copy at the front
pub afl_copied : (es l m : List ℕ) → m ≡ es → m ++ drop (length es) l ≡ afl_buffer_after true es l
afl_copied es l m e = ap (λ (x : List ℕ). x ++ drop (length es) l) e ∙ sym (if_yes _ _ refl)

-- ---- the bounds

-- records whose contents fit take at most 256 bytes each
records_most : (os : List Object) (ps : List Placement) (m k : ℕ)
    → ((i : ℕ) → i < k + m → length (record_content os ps i) ≤ most_record_content_bytes)
    → length (concatenated_records (card_records_from os ps k m)) ≤ 256 * m
unfolding card_records_from concatenated_records
records_most os ps zero k f = omega arith
records_most os ps (suc m) k f =
    let ih = records_most os ps m (suc k) (λ i h. f i (omega arith)) in
    omega (
      arith,
      length-append (card_record_bytes os ps k) (concatenated_records (card_records_from os ps (suc k) m)),
      record_most os ps k (f k (omega arith)),
    )

pub bytes_most : (os : List Object) (ps : List Placement) (n : ℕ) → RecordContentsWithin253Bytes os ps n
    → length (concatenated_first_records os ps n) ≤ 256 * n
bytes_most os ps n f = records_most os ps n 1 (λ i h. f i (omega arith))

small_records : (p : CardPlan) → first_bad_entry p.entries ≡ None
    → (x : Option ℕ) → first_bad_record (objects_of_plan p) (placements_of_plan p) (afl_record_count p.entries) ≡ x
    → PersonaliseFieldsWithinBounds (refuse_fault_or BadRecord x (result_all_written p))
small_records p q (Some k) e =
    record {
      number = omega (
        arith,
        record_number_lem (objects_of_plan p) (placements_of_plan p) (afl_record_count p.entries) k
            e,
      );
      afl = omega arith;
    }
small_records p q None e =
    let n = afl_record_count p.entries in
    let t = total_most p.entries q in
    record {
      number =
          omega (
            arith,
            bytes_most (objects_of_plan p) (placements_of_plan p) n
                (fitting_of (objects_of_plan p) (placements_of_plan p) n e (omega arith)),
          );
      afl = omega (arith, afl_most p.entries q);
    }

small_entries : (p : CardPlan) → (x : Option ℕ) → first_bad_entry p.entries ≡ x
    → PersonaliseFieldsWithinBounds (refuse_fault_or BadEntry x (result_from_record_checks p))
small_entries p (Some i) e = record { number = omega (arith, entry_number p.entries i e); afl = omega arith }
small_entries p None e = small_records p e (first_bad_record (objects_of_plan p) (placements_of_plan p)
    (afl_record_count p.entries)) refl

pub small : (p : CardPlan) (r l : List ℕ) → PersonaliseFieldsWithinBounds (personalise_result p r l)
unfolding personalise_result
small p r l =
    if_ind PersonaliseFieldsWithinBounds _ _ _ (λ _. record { number = omega arith; afl = omega arith })
    (λ _. if_ind PersonaliseFieldsWithinBounds _ _ _ (λ _. record { number = omega arith; afl = omega arith })
    (λ _. if_ind PersonaliseFieldsWithinBounds _ _ _ (λ _. record { number = omega arith; afl = omega arith })
    (λ _. small_entries p (first_bad_entry p.entries) refl)))

-- ---- the word

-- a word reports that all is written exactly where its answer does
pub says_written : (a : PersonaliseResult) → PersonaliseFieldsWithinBounds a
    → is_personalise_word_of_written (personalise_word a) ≡ is_written a
says_written (Ok z) s = lt-ltb (personalise_word (Ok z)) 0x1000000000000 (omega (arith, s.number, s.afl))
says_written (Err ShortRecords) s = refl
says_written (Err ShortAfl) s = refl
says_written (Err BadList) s = refl
says_written (Err (BadEntry i)) s = le-ltb (personalise_word (Err (BadEntry i))) 0x1000000000000 (omega arith)
says_written (Err (BadRecord k)) s = le-ltb (personalise_word (Err (BadRecord k))) 0x1000000000000 (omega arith)
