-- `personalise` meets its contract: one law for each way out, in the order of the refusals; what is promised beside the
-- answer and the buffers follows from these.
-- Assumes nothing.
use mathlib.Core.Path.{◌≡◌, refl, sym, ap, subst, ◌∙◌}
use mathlib.Core.List.{List}
use Prim.Native.Nat.{ℕ}
use native.Mathlib.Nat.{zero-add}
use native.Mathlib.Omega.{arith}
use lib.ListN.{length, length-take}
use Rattle.std.specs.Prelude.{Ok}
use Rattle.basics.specs.Front.{written_over_front}
use Rattle.basics.proofs.Laws.{if_yes}
use Rattle.personalise.specs.Placements.{placements_in}
use Rattle.personalise.specs.Objects.{parsed_objects_or_empty}
use Rattle.personalise.specs.Outcome.{card_plan, personalise_result}
use Rattle.personalise.specs.Word.{PersonaliseFieldsWithinBounds}
use Rattle.personalise.specs.Inner.{concatenated_first_records}
use Rattle.personalise.proofs.Rules.{afl_most, total_most}
use Rattle.personalise.proofs.Least.{fitting_of}
use Rattle.personalise.proofs.Over.{over-front}
use Rattle.personalise.proofs.Holding.{holds}
use Rattle.personalise.proofs.Stages.{short_records, short_afl, bad_list, good_list, entry_stage, record_stage, usable}
use Rattle.personalise.proofs.Stages.{records_stay, afl_stays, afl_copied, small}
use Rattle.personalise.proofs.personalise.Goals as goal

pub returns-then-records-lt-RECORDS_ROOM-clause-said : goal.returns-then-records-lt-RECORDS_ROOM-clause-said
returns-then-records-lt-RECORDS_ROOM-clause-said c = let a = c.args in
    sym (short_records (card_plan a.objects.now a.entries.now a.placements.now) _ _ c.if-records-lt-RECORDS_ROOM.true)

pub returns-then-afl-lt-AFL_ROOM-clause-said : goal.returns-then-afl-lt-AFL_ROOM-clause-said
returns-then-afl-lt-AFL_ROOM-clause-said c = let a = c.args in
    sym (short_afl (card_plan a.objects.now a.entries.now a.placements.now) _ _ c.if-records-lt-RECORDS_ROOM.false
    c.if-afl-lt-AFL_ROOM.true)

pub returns-then-not-keeps-clause-said : goal.returns-then-not-keeps-clause-said
returns-then-not-keeps-clause-said c = let a = c.args in
    sym (bad_list (card_plan a.objects.now a.entries.now a.placements.now) _ _ c.if-records-lt-RECORDS_ROOM.false
    c.if-afl-lt-AFL_ROOM.false (sym c.keeps.ensures ∙ c.if-not-keeps.true))

pub invariant_of-checked : goal.invariant_of-checked
invariant_of-checked c = record {
  allowed = usable c.args.objects.now (placements_in c.args.placements.now)
      (sym c.keeps.ensures ∙ c.if-not-keeps.false);
}

pub returns-in-Some : goal.returns-in-Some
returns-in-Some c = let a = c.args in
    let p = card_plan a.objects.now a.entries.now a.placements.now in
    let e = good_list p a.records.now a.afl.now c.if-records-lt-RECORDS_ROOM.false c.if-afl-lt-AFL_ROOM.false
    (sym c.keeps.ensures ∙ c.if-not-keeps.false) ∙ entry_stage p c.bad_entry.ensures c.in-Some.is in record {
      said = sym e;
      wrote = records_stay p a.records.now;
      located = afl_stays a.entries.now a.afl.now;
      small = subst PersonaliseFieldsWithinBounds e (small p a.records.now a.afl.now);
      reads = λ z d. cc;
    }

pub count_records-count-requires : goal.count_records-count-requires
count_records-count-requires c = afl_most c.args.entries.now (sym c.bad_entry.ensures ∙ c.in_default.is)

pub returns-in-Some-bad_record : goal.returns-in-Some-bad_record
returns-in-Some-bad_record c = let a = c.args in
    let p = card_plan a.objects.now a.entries.now a.placements.now in
    let e = good_list p a.records.now a.afl.now c.if-records-lt-RECORDS_ROOM.false c.if-afl-lt-AFL_ROOM.false
    (sym c.keeps.ensures ∙ c.if-not-keeps.false) ∙ entry_stage p c.bad_entry.ensures c.in_default.is
    ∙ record_stage p c.count_records-count.result c.count_records-count.ensures.0 c.bad_record.ensures c.in-Some-bad_record.is in record {
      said = sym e;
      wrote = records_stay p a.records.now;
      located = afl_stays a.entries.now a.afl.now;
      small = subst PersonaliseFieldsWithinBounds e (small p a.records.now a.afl.now);
      reads = λ z d. cc;
    }

pub put_records-size-requires : goal.put_records-size-requires
put_records-size-requires c = let a = c.args in
    let q = sym c.bad_entry.ensures ∙ c.in_default.is in
    let m = total_most a.entries.now q in
    let e = c.count_records-count.ensures.0 in record {
      record_contents_within253bytes = fitting_of (parsed_objects_or_empty a.objects.now) (placements_in a.placements.now)
          c.count_records-count.result (sym c.bad_record.ensures ∙ c.in_default-bad_record.is) (omega (arith, m, e));
      records_bound = (omega (arith, m, e), omega (arith, m, e));
    }

pub slice_bounds-copy_from_slice-end : goal.slice_bounds-copy_from_slice-end
slice_bounds-copy_from_slice-end c = let q = afl_most c.args.entries.now (sym c.bad_entry.ensures ∙ c.in_default.is) in omega arith

pub slice_bounds-copy_from_slice-end-2 : goal.slice_bounds-copy_from_slice-end-2
slice_bounds-copy_from_slice-end-2 c =
    let q = afl_most c.args.entries.now (sym c.bad_entry.ensures ∙ c.in_default.is) in simp length-take (omega arith)

pub copy_from_slice-requires : goal.copy_from_slice-requires
copy_from_slice-requires c =
    let q = afl_most c.args.entries.now (sym c.bad_entry.ensures ∙ c.in_default.is) in simp length-take (omega arith)

pub returns : goal.returns
returns c = let a = c.args in
    let p = card_plan a.objects.now a.entries.now a.placements.now in
    let q = c.put_records-size.ensures in
    let b : ℕ → List ℕ = concatenated_first_records (parsed_objects_or_empty a.objects.now) (placements_in a.placements.now) in
    let n = ap b c.count_records-count.ensures.0 in
    let w = q.wrote ∙ over-front a.records.now (b c.count_records-count.result)
    ∙ ap (λ (v : List ℕ). written_over_front v a.records.now) n ∙ sym (if_yes _ _ refl) in
    let l = afl_copied a.entries.now a.afl.now _ c.copy_from_slice.ensures.after in
    let e : personalise_result p a.records.now a.afl.now ≡ Ok (record { records = c.put_records-size.result; afl = length a.entries.now }) =
    good_list p a.records.now a.afl.now c.if-records-lt-RECORDS_ROOM.false c.if-afl-lt-AFL_ROOM.false
    (sym c.keeps.ensures ∙ c.if-not-keeps.false) ∙ entry_stage p c.bad_entry.ensures c.in_default.is
    ∙ record_stage p c.count_records-count.result c.count_records-count.ensures.0 c.bad_record.ensures c.in_default-bad_record.is
    ∙ ap (λ (m : ℕ). Ok (record { records = m; afl = length a.entries.now })) (sym (q.next ∙ zero-add _ ∙ ap length n)) in record {
      said = sym e;
      wrote = w;
      located = l;
      small = subst PersonaliseFieldsWithinBounds e (small p a.records.now a.afl.now);
      reads = holds p a.records.now a.afl.now (λ i. omega (arith, c.type_inv.placements i)) _ (sym e) _ _ w l;
    }
