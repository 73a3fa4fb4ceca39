-- What holds where all is written: the AFL is accepted, the records are in their buffer and fit, and they read back to
-- the list's store.
-- Assumes nothing.
use Rattle.std.specs.Prelude.{None, Some, Ok}
use mathlib.Core.Path.{◌≡◌, refl, sym, ap, subst, ◌∙◌}
use mathlib.Core.Bool.{Bool, true}
use mathlib.Core.List.{List, [], ◌∷◌}
use Prim.Native.Nat.{ℕ, zero, suc, ◌<◌, ◌≤◌}
use native.Mathlib.Omega.{arith}
use lib.ListN.{length, get_or, take, length-replicate}
use lib.Seq.{take-append_seam}
use borrow.Author.Tests.{leb-true, eqb-true, le-leb}
use Rattle.basics.specs.Choice.{every}
use Rattle.basics.proofs.Laws.{if_yes, both_yes, both_left, both_right}
use Rattle.tlv.specs.Primitives.{Object}
use Rattle.dictionary.specs.Rows.{store_size}
use Rattle.afl.specs.declared.AflEntry.{AflEntry}
use Rattle.afl.specs.Entry.{entry_sfi, valid_entry}
use Rattle.afl.specs.Records.{afl_entries, afl_records, afl_record_count, accepts_afl}
use Rattle.afl.proofs.Records.{records_length}
use Rattle.afl.proofs.Laws.{kept_keeps}
use Rattle.personalise.specs.declared.Placement.{Placement}
use Rattle.personalise.specs.declared.WrittenSizes.{WrittenSizes}
use Rattle.personalise.specs.Objects.{tag_and_value_allowed_in_record, tags_distinct}
use Rattle.personalise.specs.Entries.{valid_entry_sfi1_to10_no_offline_auth, first_bad_entry}
use Rattle.personalise.specs.Records.{card_records_from}
use Rattle.personalise.specs.Outcome.{CardPlan, objects_of_plan, placements_of_plan, card_records, all_records_bytes}
use Rattle.personalise.specs.Outcome.{PersonaliseResult, personalise_result, records_buffer_after, afl_buffer_after}
use Rattle.personalise.specs.Word.{is_written}
use Rattle.personalise.specs.Read.{put_objects, empty_store_bytes, store_of_objects, read_all_records}
use Rattle.personalise.specs.Read.{WrittenCardReadsBackAsObjects, CardReadsBackAsObjectsIfWritten}
use Rattle.personalise.specs.Inner.{result_all_written}
use Rattle.personalise.proofs.Clauses.{PersonaliseRules}
use Rattle.personalise.proofs.Rules.{entries_follow, total_most}
use Rattle.personalise.proofs.Exact.{Passes, passes, passed, kept_of}
use Rattle.personalise.proofs.Arranged.{ordered, arranged, perm_every, perm_distinct}
use Rattle.personalise.proofs.Stored.{perm_put, empty_free}
use Rattle.personalise.proofs.ReadBack.{files_of, read_all}

-- ---- the AFL

-- an entry that keeps these rules keeps those of document 01
keeps_also : (e : AflEntry) → valid_entry_sfi1_to10_no_offline_auth e ≡ true → valid_entry e ≡ true
unfolding valid_entry_sfi1_to10_no_offline_auth
keeps_also e k =
    let b = both_right _ _ k in
    let c = both_right _ _ b in
    let d = both_right _ _ c in
    let f = both_left _ _ b in
    let z = eqb-true e.offline 0 (both_right _ _ d) in
    kept_keeps e (record {
      low = eqb-true _ 0 (both_left _ _ k);
      sfi = leb-true 1 (entry_sfi e) (both_left _ _ f);
      most = omega (arith, leb-true (entry_sfi e) 10 (both_right _ _ f));
      first = leb-true 1 e.first (both_left _ _ c);
      last = leb-true e.first e.last (both_left _ _ d);
      offline = omega arith;
    })

all_keep : (es : List AflEntry) → every valid_entry_sfi1_to10_no_offline_auth es ≡ true → every valid_entry es ≡ true
unfolding every
all_keep [] k = refl
all_keep (e ∷ es) k = both_yes _ _ (keeps_also e (both_left _ _ k)) (all_keep es (both_right _ _ k))

accepted : (es : List ℕ) → first_bad_entry es ≡ None → 1 ≤ afl_record_count es → accepts_afl es ≡ true
unfolding accepts_afl
accepted es q s =
    let f = entries_follow es q in
    both_yes _ _ f.whole
    (both_yes _ _ (all_keep (afl_entries es) f.alone)
    (both_yes _ _ (le-leb 1 (afl_record_count es) s) (le-leb (afl_record_count es) 128 (total_most es q))))

-- ---- the records

pub as_many : (os : List Object) (ps : List Placement) (k n : ℕ) → length (card_records_from os ps k n) ≡ n
unfolding card_records_from
as_many os ps k zero = refl
as_many os ps k (suc n) = ap suc (as_many os ps (suc k) n)

module _ (p : CardPlan) (r l : List ℕ) (q : Passes p r l) (k : PersonaliseRules p r l) where
  abbrev es : List ℕ
  es = p.entries

  abbrev os : List Object
  os = objects_of_plan p

  abbrev ps : List Placement
  ps = placements_of_plan p

  -- they read back to the store of the list
  read_back : read_all_records empty_store_bytes (afl_records es) (card_records p) ≡ Some (store_of_objects os)
  read_back =
      let n = length (afl_records es) in
      let e : n ≡ afl_record_count es = records_length es in
      let a = arranged ps (afl_record_count es) 1 os k.once k.named in
      let b = subst (λ (m : ℕ). every tag_and_value_allowed_in_record (ordered ps 1 m 1 os) ≡ true) (sym e)
      (perm_every tag_and_value_allowed_in_record a k.settable) in
      let d = subst (λ (m : ℕ). tags_distinct (ordered ps 1 m 1 os) ≡ true) (sym e) (perm_distinct a k.distinct) in
      let z : length empty_store_bytes ≡ store_size = length-replicate {A = ℕ} store_size 0 in
      ap (λ (m : ℕ). read_all_records empty_store_bytes (afl_records es) (card_records_from os ps 1 m)) (sym e)
      ∙ read_all os ps (afl_records es) 1 empty_store_bytes (files_of (afl_entries es) k.files)
      (λ i g h. k.contents i g (omega arith)) b d z (empty_free (ordered ps 1 n 1 os))
      ∙ ap (λ (m : ℕ). Some (put_objects empty_store_bytes (ordered ps 1 m 1 os))) e
      ∙ ap Some (perm_put empty_store_bytes a k.settable k.distinct z)

  written_holds : (z : WrittenSizes) → Ok z ≡ result_all_written p → (x y : List ℕ) → x ≡ records_buffer_after true p r
      → y ≡ afl_buffer_after true es l → WrittenCardReadsBackAsObjects p z x y
  written_holds z d x y e f =
      let n : z.records ≡ length (all_records_bytes p) = cc in
      let m : z.afl ≡ length es = cc in
      record {
        stand = ap (λ (i : ℕ). take i x) n ∙ ap (take (length (all_records_bytes p))) (e ∙ if_yes _ _ refl) ∙
            take-append_seam (all_records_bytes p) _;
        afl = ap (λ (i : ℕ). take i y) m ∙ ap (take (length es)) (f ∙ if_yes _ _ refl) ∙ take-append_seam es _;
        accepted = accepted es q.entries k.some_record;
        read = read_back;
      }

-- by the answer
pub holds : (p : CardPlan) (r l : List ℕ) → ((i : ℕ) → get_or p.placements i 0 < 256) → (a : PersonaliseResult)
    → a ≡ personalise_result p r l → (x y : List ℕ)
    → x ≡ records_buffer_after (is_written a) p r → y ≡ afl_buffer_after (is_written a) p.entries l
    → CardReadsBackAsObjectsIfWritten p a x y
holds p r l b a e x y f g z d =
    let w : is_written a ≡ true = ap is_written d in
    let q = passes p r l (ap is_written (sym e) ∙ w) in
    written_holds p r l q (kept_of p r l b q) z (sym d ∙ e ∙ passed p r l q) x y
    (f ∙ ap (λ (c : Bool). records_buffer_after c p r) w) (g ∙ ap (λ (c : Bool). afl_buffer_after c p.entries l) w)
