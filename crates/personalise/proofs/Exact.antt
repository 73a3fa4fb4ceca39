-- All is written exactly where every rule is satisfied: the tests of the answer, clause by clause, both ways.
-- Assumes nothing.
use Rattle.std.specs.Prelude.{Some, None, Option}
use mathlib.Core.Path.{◌≡◌, refl, sym, ap, ◌∙◌}
use mathlib.Core.Bool.{Bool, true, false, not}
use mathlib.Core.Logic.{◌⊎◌, inl, inr}
use mathlib.Core.List.{List, [], ◌∷◌}
use Prim.Native.Nat.{ℕ, suc, ◌<◌, ◌≤◌}
use native.Mathlib.Omega.{arith}
use lib.Dec.{eqb, ltb}
use lib.ListN.{length, get_or}
use borrow.Author.Tests.{ltb-true, leb-true, lt-ltb, le-ltb, eq-eqb, eqb-true, not-false}
use Rattle.basics.specs.Choice.{both, every}
use Rattle.basics.specs.Number.{between}
use Rattle.basics.proofs.Laws.{if_no, bool_cases, both_yes, both_true, both_left, both_right, both_no_left}
use Rattle.basics.proofs.Laws.{both_no_right, either_no}
use Rattle.basics.proofs.Order.{le-or-gt}
use Rattle.tlv.specs.Primitives.{Object, primitive_objects, are_primitive_objects_parsed}
use Rattle.afl.specs.declared.AflEntry.{AflEntry}
use Rattle.afl.specs.Entry.{entry_record_count}
use Rattle.afl.specs.Records.{afl_entries, afl_length_is_multiple_of4, sum_over_entries, afl_record_count}
use Rattle.personalise.specs.declared.Placement.{Placement}
use Rattle.personalise.specs.declared.PersonaliseError.TheVariants.{BadEntry, BadRecord}
use Rattle.personalise.specs.Objects.{tag_and_value_allowed_in_record, tags_distinct, objects_or_empty}
use Rattle.personalise.specs.Placements.{placements_in, any_placement, puts_object_into, each_placed_once}
use Rattle.personalise.specs.Placements.{objects_in_record_from}
use Rattle.personalise.specs.Entries.{overlaps_none_before, valid_entry_sfi1_to10_no_offline_auth, first_bad_entry}
use Rattle.personalise.specs.Records.{encoded_objects, record_content, most_record_content_bytes}
use Rattle.personalise.specs.Records.{is_out_of_range_placement_into, has_bad_placement_or_over253_bytes, first_bad_record}
use Rattle.personalise.specs.Outcome.{least_records_buffer_size, least_afl_buffer_size, CardPlan, objects_of_plan}
use Rattle.personalise.specs.Outcome.{placements_of_plan, PersonaliseResult, refuse_fault_or, personalise_result}
use Rattle.personalise.specs.Word.{is_written}
use Rattle.personalise.specs.Inner.{parsed_objects_valid_and_placed_once, result_all_written, result_from_record_checks}
use Rattle.personalise.proofs.Clauses.{low_bits_clear, sfi_in_range, first_record_named, records_in_order, none_offline}
use Rattle.personalise.proofs.Clauses.{places_in_record, places_object, in_layout, PersonaliseRules, WrittenExactly}
use Rattle.personalise.proofs.Rules.{every_split, follows_back, entries_follow, total_most}
use Rattle.personalise.proofs.Twice.{twice_is}
use Rattle.personalise.proofs.Least.{either_left_false, either_right_false, no_bad, no_bad_back, fitting_of}
use Rattle.personalise.proofs.Stages.{short_records, short_afl, bad_list, good_list}

-- ---- the tests of the answer

-- every test is passed
pub record Passes (p : CardPlan) (r l : List ℕ) : Type 0 where
  pub records_lent : least_records_buffer_size ≤ length r
  pub afl_lent : least_afl_buffer_size ≤ length l
  pub list : parsed_objects_valid_and_placed_once (placements_of_plan p) 1 (primitive_objects p.list) ≡ true
  pub entries : first_bad_entry p.entries ≡ None
  pub records : first_bad_record (objects_of_plan p) (placements_of_plan p) (afl_record_count p.entries) ≡ None

-- an answer that is none of the refusals
refused : {A : Type 0} {a b : PersonaliseResult} → is_written a ≡ true → a ≡ b → is_written b ≡ false → A
refused w e f = let z = ap is_written e in let y : ◌≡◌ {A = ℕ} 0 1 = cc in absurd (omega arith)

module _ (p : CardPlan) (r l : List ℕ) where
  by_entries : {x : Option ℕ} → first_bad_entry p.entries ≡ x
      → refuse_fault_or BadEntry (first_bad_entry p.entries) (result_from_record_checks p) ≡ refuse_fault_or BadEntry x
      (result_from_record_checks p)
  by_entries e = ap (λ (x : Option ℕ). refuse_fault_or BadEntry x (result_from_record_checks p)) e

  by_records : {x : Option ℕ} → first_bad_record (objects_of_plan p) (placements_of_plan p)
      (afl_record_count p.entries) ≡ x → result_from_record_checks p ≡ refuse_fault_or BadRecord x (result_all_written p)
  by_records e = ap (λ (x : Option ℕ). refuse_fault_or BadRecord x (result_all_written p)) e

  pub passed : Passes p r l → personalise_result p r l ≡ result_all_written p
  passed q = good_list p r l q.records_lent q.afl_lent q.list ∙ by_entries q.entries ∙ by_records q.records

  pub passes : is_written (personalise_result p r l) ≡ true → Passes p r l
  passes w = with_buffer_lem (le-or-gt least_records_buffer_size (length r))
    where
      with_record : least_records_buffer_size ≤ length r → least_afl_buffer_size ≤ length l
          → parsed_objects_valid_and_placed_once (placements_of_plan p) 1 (primitive_objects p.list) ≡ true
          → first_bad_entry p.entries ≡ None
          → (x : Option ℕ) → first_bad_record (objects_of_plan p) (placements_of_plan p)
          (afl_record_count p.entries) ≡ x → Passes p r l
      with_record a b c d None e = record { records_lent = a; afl_lent = b; list = c; entries = d; records = e }
      with_record a b c d (Some k) e = refused w (good_list p r l a b c ∙ by_entries d ∙ by_records e) refl

      with_entry : least_records_buffer_size ≤ length r → least_afl_buffer_size ≤ length l
          → parsed_objects_valid_and_placed_once (placements_of_plan p) 1 (primitive_objects p.list) ≡ true
          → (x : Option ℕ) → first_bad_entry p.entries ≡ x → Passes p r l
      with_entry a b c None e = with_record a b c e (first_bad_record (objects_of_plan p) (placements_of_plan p)
          (afl_record_count p.entries)) refl
      with_entry a b c (Some i) e = refused w (good_list p r l a b c ∙ by_entries e) refl

      with_list : least_records_buffer_size ≤ length r → least_afl_buffer_size ≤ length l → (x : Bool)
          → parsed_objects_valid_and_placed_once (placements_of_plan p) 1 (primitive_objects p.list) ≡ x → Passes p r l
      with_list a b true e = with_entry a b e (first_bad_entry p.entries) refl
      with_list a b false e = refused w (bad_list p r l a b e) refl

      with_afl : least_records_buffer_size ≤ length r → (least_afl_buffer_size ≤ length l) ⊎ (length l < least_afl_buffer_size)
          → Passes p r l
      with_afl a (inl b) =
          with_list a b (parsed_objects_valid_and_placed_once (placements_of_plan p) 1 (primitive_objects p.list)) refl
      with_afl a (inr b) = refused w (short_afl p r l a b) refl

      with_buffer_lem : (least_records_buffer_size ≤ length r) ⊎ (length r < least_records_buffer_size) → Passes p r l
      with_buffer_lem (inl a) = with_afl a (le-or-gt least_afl_buffer_size (length l))
      with_buffer_lem (inr a) = refused w (short_records p r l a) refl

-- ---- the list

record ListKept (ps : List Placement) (x : Option (List Object)) : Type 0 where
  run : are_primitive_objects_parsed x ≡ true
  settable : every tag_and_value_allowed_in_record (objects_or_empty x) ≡ true
  distinct : tags_distinct (objects_or_empty x) ≡ true
  once : each_placed_once ps 1 (objects_or_empty x) ≡ true

list_kept : (ps : List Placement) (x : Option (List Object)) → parsed_objects_valid_and_placed_once ps 1 x ≡ true
    → ListKept ps x
list_kept ps None e = absurd (let z : ◌≡◌ {A = ℕ} 0 1 = cc in omega arith)
list_kept ps (Some os) e =
    let b = both_right _ _ e in
    record { run = refl; settable = both_left _ _ e; distinct = both_left _ _ b; once = both_right _ _ b }

list_keeps : (ps : List Placement) (x : Option (List Object)) → ListKept ps x → parsed_objects_valid_and_placed_once ps 1 x
    ≡ true
list_keeps ps None k = k.run
list_keeps ps (Some os) k = both_yes _ _ k.settable (both_yes _ _ k.distinct k.once)

-- ---- the entries

-- what each entry keeps by itself, test by test
alone_split : (es : List AflEntry)
    → every valid_entry_sfi1_to10_no_offline_auth es ≡ both (every low_bits_clear es)
    (both (every sfi_in_range es)
    (both (every first_record_named es) (both (every records_in_order es) (every none_offline es))))
unfolding valid_entry_sfi1_to10_no_offline_auth
alone_split es =
    every_split low_bits_clear
    (λ e. both (sfi_in_range e) (both (first_record_named e) (both (records_in_order e) (none_offline e)))) es
    ∙ ap (both (every low_bits_clear es))
    (every_split sfi_in_range (λ e. both (first_record_named e) (both (records_in_order e) (none_offline e))) es
    ∙ ap (both (every sfi_in_range es)) (every_split first_record_named (λ e. both (records_in_order e) (none_offline e)) es
    ∙ ap (both (every first_record_named es)) (every_split records_in_order none_offline es)))

-- an entry in order names a record
some_record_lem : (es : List AflEntry) → 1 ≤ length es → every records_in_order es ≡ true
    → 1 ≤ sum_over_entries entry_record_count es
unfolding every sum_over_entries
some_record_lem [] h k = absurd (omega arith)
some_record_lem (e ∷ es) h k = let l = leb-true e.first e.last (both_left _ _ k) in omega arith

-- nothing is before the first
apart_first : (es : List AflEntry) → every (overlaps_none_before []) es ≡ true
unfolding every overlaps_none_before
apart_first [] = refl
apart_first (e ∷ es) = both_yes _ _ refl (apart_first es)

-- ---- the records

into_byte : Placement → Bool
into_byte q = ltb q.into 256

-- of bytes, every record's number is below 256
bytes_into : (s : List ℕ) → ((i : ℕ) → get_or s i 0 < 256) → every into_byte (placements_in s) ≡ true
unfolding placements_in every into_byte
bytes_into [] h = refl
bytes_into (r ∷ []) h = both_yes _ _ (lt-ltb r 256 (h 0)) refl
bytes_into (r ∷ o ∷ s) h = both_yes _ _ (lt-ltb r 256 (h 0)) (bytes_into s (λ i. h (suc (suc i))))

-- where no placement strays from any record, each is in the layout
layout_of : (n m : ℕ) (ps : List Placement) → every into_byte ps ≡ true
    → ((k : ℕ) → k < 256 → any_placement (is_out_of_range_placement_into n m k) ps ≡ false) → every (in_layout n m) ps ≡ true
unfolding every any_placement into_byte
layout_of n m [] b h = refl
layout_of n m (q ∷ ps) b h =
    let s = either_left_false _ _ (h q.into (ltb-true q.into 256 (both_left _ _ b))) in
    both_yes _ _ (not-false _ (sym (both_true _ (eq-eqb q.into q.into refl)) ∙ s))
    (layout_of n m ps (both_right _ _ b) (λ k l. either_right_false _ _ (h k l)))

none_strays : (n m k : ℕ) (ps : List Placement) → every (in_layout n m) ps ≡ true
    → any_placement (is_out_of_range_placement_into n m k) ps ≡ false
unfolding every any_placement
none_strays n m k [] e = refl
none_strays n m k (q ∷ ps) e = either_no _ _ (both_no_right _ _ (ap not (both_left _ _ e)))
    (none_strays n m k ps (both_right _ _ e))

-- a record that no placement names is empty
not_named : (n k j : ℕ) (ps : List Placement) → every (places_in_record n) ps ≡ true → between 1 k n ≡ false
    → any_placement (puts_object_into k j) ps ≡ false
unfolding every any_placement
not_named n k j [] e b = refl
not_named n k j (q ∷ ps) e b = either_no _ _ (elim (bool_cases (eqb q.into k)) [
  | inl y ↦ (let i : q.into ≡ k = eqb-true _ _ y in let z : between 1 k n ≡ true = ap (λ (x : ℕ). between 1 x n)
      (sym i) ∙ both_left _ _ e in let w : ◌≡◌ {A = ℕ} 0 1 = cc in absurd (omega arith))
  | inr f ↦ both_no_left _ _ f
]) (not_named n k j ps (both_right _ _ e) b)

none_in : (n k : ℕ) (ps : List Placement) → every (places_in_record n) ps ≡ true → between 1 k n ≡ false
    → (j : ℕ) (os : List Object) → objects_in_record_from ps k j os ≡ []
unfolding objects_in_record_from
none_in n k ps e b j [] = refl
none_in n k ps e b j (o ∷ os) = if_no _ _ (not_named n k j ps e b) ∙ none_in n k ps e b (suc j) os

-- ---- both ways

module _ (p : CardPlan) (r l : List ℕ) where
  pub kept_of : ((i : ℕ) → get_or p.placements i 0 < 256) → Passes p r l → PersonaliseRules p r l
  unfolding sum_over_entries has_bad_placement_or_over253_bytes
  kept_of b q =
      let k = list_kept (placements_of_plan p) (primitive_objects p.list) q.list in
      let f = entries_follow p.entries q.entries in
      let a = sym (alone_split (afl_entries p.entries)) ∙ f.alone in
      let a₂ = both_right _ _ a in
      let a₃ = both_right _ _ a₂ in
      let a₄ = both_right _ _ a₃ in
      let t = total_most p.entries q.entries in
      let n : afl_record_count p.entries < 256 = omega arith in
      let y = sym (every_split (places_in_record (afl_record_count p.entries)) (places_object (length (objects_of_plan p)))
      (placements_of_plan p))
      ∙ layout_of (afl_record_count p.entries) (length (objects_of_plan p)) (placements_of_plan p)
      (bytes_into p.placements b)
      (λ i h. either_left_false _ _ (no_bad (objects_of_plan p) (placements_of_plan p) (afl_record_count p.entries)
      q.records i h)) in
      record {
        records_lent = q.records_lent;
        afl_lent = q.afl_lent;
        run = k.run;
        settable = k.settable;
        distinct = k.distinct;
        once = k.once;
        whole = f.whole;
        some_entry = omega (arith, f.some);
        few_entries = omega (arith, f.few);
        low_bits = both_left _ _ a;
        files = both_left _ _ a₂;
        firsts = both_left _ _ a₃;
        lasts = both_left _ _ a₄;
        byte_four = both_right _ _ a₄;
        apart = twice_is (afl_entries p.entries) (both_left _ _ a₄) ∙ f.apart;
        some_record = some_record_lem (afl_entries p.entries) (omega (arith, f.some)) (both_left _ _ a₄);
        few_records = t;
        named = both_left _ _ y;
        objects_there = both_right _ _ y;
        contents = λ i g h. fitting_of (objects_of_plan p) (placements_of_plan p) (afl_record_count p.entries) q.records
            n i h;
      }

  pub pass_of : PersonaliseRules p r l → Passes p r l
  unfolding sum_over_entries has_bad_placement_or_over253_bytes first_bad_entry encoded_objects
  pass_of k = record {
    records_lent = k.records_lent;
    afl_lent = k.afl_lent;
    list = list_keeps (placements_of_plan p) (primitive_objects p.list)
        (record { run = k.run; settable = k.settable; distinct = k.distinct; once = k.once });
    entries = follows_back (afl_entries p.entries) [] (afl_length_is_multiple_of4 p.entries)
        (record {
          whole = k.whole;
          some = omega (arith, k.some_entry);
          few = omega (arith, k.few_entries);
          alone = alone_split (afl_entries p.entries) ∙ both_yes _ _ k.low_bits
              (both_yes _ _ k.files (both_yes _ _ k.firsts (both_yes _ _ k.lasts k.byte_four)));
          behind = apart_first (afl_entries p.entries);
          apart = sym (twice_is (afl_entries p.entries) k.lasts) ∙ k.apart;
          room = omega (arith, k.few_records);
        });
    records = no_bad_back (objects_of_plan p) (placements_of_plan p) (afl_record_count p.entries) bad;
  }
    where
      layout : every (in_layout (afl_record_count p.entries) (length (objects_of_plan p))) (placements_of_plan p) ≡ true
      layout = every_split (places_in_record (afl_record_count p.entries)) (places_object (length (objects_of_plan p)))
          (placements_of_plan p) ∙ both_yes _ _ k.named k.objects_there

      full : (i : ℕ) → ltb most_record_content_bytes (length (record_content (objects_of_plan p) (placements_of_plan p) i))
          ≡ false
      full i = elim (bool_cases (between 1 i (afl_record_count p.entries))) [
        | inl y ↦ le-ltb most_record_content_bytes (length (record_content (objects_of_plan p) (placements_of_plan p) i))
            (k.contents i (leb-true 1 i (both_left _ _ y))
            (leb-true i (afl_record_count p.entries) (both_right _ _ y)))
        | inr f ↦ le-ltb most_record_content_bytes (length (record_content (objects_of_plan p) (placements_of_plan p) i))
            (omega (
              arith,
              ap (λ (x : List Object). length (encoded_objects x))
                  (none_in (afl_record_count p.entries) i (placements_of_plan p) k.named f 1 (objects_of_plan p)),
            ))
      ]

      bad : (i : ℕ) → has_bad_placement_or_over253_bytes (objects_of_plan p) (placements_of_plan p) (afl_record_count p.entries)
          i ≡ false
      bad i = either_no _ _ (none_strays (afl_record_count p.entries) (length (objects_of_plan p)) i (placements_of_plan p)
          layout) (full i)

  pub exactly : ((i : ℕ) → get_or p.placements i 0 < 256) → WrittenExactly (personalise_result p r l) p r l
  exactly b = (λ w. kept_of b (passes p r l w), λ k. ap is_written (passed p r l (pass_of k)))
