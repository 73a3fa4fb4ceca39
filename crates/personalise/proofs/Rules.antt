-- The entries, clause by clause: no entry is bad exactly where each satisfies the rules by itself, no two name a record
-- both, and there are few enough of them. By induction over the entries after those that were passed.
-- Assumes nothing.
use Rattle.std.specs.Prelude.{Option, Some, None}
use mathlib.Core.Path.{◌≡◌, refl, sym, ap, ap₂, ◌∙◌}
use mathlib.Core.Bool.{Bool, true, false, not}
use mathlib.Core.Logic.{inl, inr}
use mathlib.Core.List.{List, [], ◌∷◌, ◌++◌}
use Prim.Native.Nat.{ℕ, ◌+◌, ◌<◌, ◌≤◌}
use native.Mathlib.Nat.{zero-add, add-zero}
use native.Mathlib.Omega.{arith}
use lib.Dec.{ltb}
use lib.ListN.{length, length-append}
use borrow.Author.Tests.{ltb-true, leb-true, lt-ltb, le-leb}
use Rattle.basics.specs.Choice.{both, every}
use Rattle.basics.proofs.Laws.{if_yes, if_no, bool_cases, both_yes, both_left, both_right, both_assoc}
use Rattle.afl.specs.declared.AflEntry.{AflEntry}
use Rattle.afl.specs.Entry.{entry_record_count}
use Rattle.afl.specs.Records.{afl_entries, afl_length_is_multiple_of4, sum_over_entries, afl_record_count}
use Rattle.afl.proofs.Records.{whole_length}
use Rattle.personalise.specs.Entries.{most_afl_entries, most_card_records, entries_overlap, overlaps_none_before}
use Rattle.personalise.specs.Entries.{valid_entry_sfi1_to10_no_offline_auth, valid_entry_after_within_count_limits}
use Rattle.personalise.specs.Entries.{first_bad_or_truncated_entry_after, first_bad_entry}
use Rattle.personalise.proofs.Proposed.{entries_count}

-- no two entries name a record both
unfoldable pub all_apart : List AflEntry → Bool
all_apart [] = true
all_apart (e ∷ es) = both (every (λ f. not (entries_overlap e f)) es) (all_apart es)

-- ---- a test at every entry

both_swap : (a b c d : Bool) → both (both a b) (both c d) ≡ both (both a c) (both b d)
unfolding both
both_swap true true c d = refl
both_swap true false true d = refl
both_swap true false false d = refl
both_swap false b c d = refl

pub every_split : {A : Type 0} (f g : A → Bool) (l : List A) → every (λ x. both (f x) (g x)) l ≡ both (every f l)
    (every g l)
unfolding every both
every_split f g [] = refl
every_split f g (x ∷ l) = ap (both (both (f x) (g x))) (every_split f g l) ∙ both_swap (f x) (g x) (every f l)
    (every g l)

every_snoc : {A : Type 0} (f : A → Bool) (l : List A) (x : A) → every f (l ++ (x ∷ [])) ≡ both (every f l) (f x)
unfolding every both
every_snoc f [] x = both_one (f x)
  where
    both_one : (b : Bool) → both b true ≡ both true b
    both_one true = refl
    both_one false = refl
every_snoc f (y ∷ l) x = ap (both (f y)) (every_snoc f l x) ∙ both_assoc (f y) (every f l) (f x)

pub every_same : {A : Type 0} (f g : A → Bool) → ((x : A) → f x ≡ g x) → (l : List A) → every f l ≡ every g l
unfolding every
every_same f g h [] = refl
every_same f g h (x ∷ l) = ap₂ both (h x) (every_same f g h l)

-- ---- one more entry before the others

module _ (before : List AflEntry) (e : AflEntry) where
  apart_more : (es : List AflEntry) → every (overlaps_none_before (before ++ (e ∷ []))) es
      ≡ both (every (overlaps_none_before before) es) (every (λ f. not (entries_overlap e f)) es)
  unfolding overlaps_none_before
  apart_more es =
      every_same _ _ (λ f. every_snoc (λ d. not (entries_overlap d f)) before e) es
      ∙ every_split (overlaps_none_before before) (λ f. not (entries_overlap e f)) es

  length_more : length (before ++ (e ∷ [])) ≡ length before + 1
  length_more = length-append before (e ∷ [])

sum_join : (f : AflEntry → ℕ) (x y : List AflEntry) → sum_over_entries f (x ++ y) ≡ sum_over_entries f x + sum_over_entries f
    y
unfolding sum_over_entries
sum_join f [] y = sym (zero-add _)
sum_join f (e ∷ x) y = let ih = sum_join f x y in omega arith

sum_more : (before : List AflEntry) (e : AflEntry) → sum_over_entries entry_record_count (before ++ (e ∷ []))
    ≡ sum_over_entries entry_record_count before + entry_record_count e
unfolding sum_over_entries
sum_more before e = sum_join entry_record_count before (e ∷ []) ∙ rw add-zero

-- ---- the clauses of the entries after those before them

pub record Follows (before es : List AflEntry) (w : Bool) : Type 0 where
  pub whole : w ≡ true
  pub some : 1 ≤ length before + length es
  pub few : length before + length es ≤ most_afl_entries
  pub alone : every valid_entry_sfi1_to10_no_offline_auth es ≡ true
  pub behind : every (overlaps_none_before before) es ≡ true
  pub apart : all_apart es ≡ true
  pub room : sum_over_entries entry_record_count before + sum_over_entries entry_record_count es ≤ most_card_records

-- what an entry that satisfies the rules after those before it keeps
pub record EntryKept (before : List AflEntry) (e : AflEntry) : Type 0 where
  pub few : length before < most_afl_entries
  pub alone : valid_entry_sfi1_to10_no_offline_auth e ≡ true
  pub apart : overlaps_none_before before e ≡ true
  pub room : sum_over_entries entry_record_count before + entry_record_count e ≤ most_card_records

keeps_kept : (before : List AflEntry) (e : AflEntry) → valid_entry_after_within_count_limits before e ≡ true
    → EntryKept before e
unfolding valid_entry_after_within_count_limits
keeps_kept before e k =
    let b = both_right _ _ k in
    let c = both_right _ _ b in
    record {
      few = ltb-true _ _ (both_left _ _ k);
      alone = both_left _ _ b;
      apart = both_left _ _ c;
      room =
          leb-true _ _ (both_right _ _ c);
    }

kept_behind : (before : List AflEntry) (e : AflEntry) → EntryKept before e → valid_entry_after_within_count_limits before e
    ≡ true
unfolding valid_entry_after_within_count_limits
kept_behind before e k = both_yes _ _ (lt-ltb _ _ k.few)
    (both_yes _ _ k.alone (both_yes _ _ k.apart (le-leb _ _ k.room)))

not_nothing : {A : Type 0} {x : Option ℕ} {i : ℕ} → x ≡ Some i → x ≡ None → A
not_nothing p q = let z : ◌≡◌ {A = ℕ} 0 1 = cc in absurd (omega arith)

pub follows : (es before : List AflEntry) (w : Bool) → length before ≤ most_afl_entries
    → sum_over_entries entry_record_count before ≤ most_card_records
    → first_bad_or_truncated_entry_after before es w ≡ None → Follows before es w
unfolding first_bad_or_truncated_entry_after every all_apart sum_over_entries
follows [] before w l r q = elim (bool_cases (both w (ltb 0 (length before)))) [
  | inl y ↦ (let n : 0 < length before = ltb-true _ _ (both_right _ _ y) in
      record {
        whole = both_left _ _ y;
        some = omega arith;
        few = omega arith;
        alone = refl;
        behind = refl;
        apart =
            refl;
        room = omega arith;
      })
  | inr n ↦ not_nothing (if_no None (Some (length before + 1)) n) q
]
follows (e ∷ es) before w l r q = elim (bool_cases (valid_entry_after_within_count_limits before e)) [
  | inl y ↦ (
      let k = keeps_kept before e y in
      let n = length_more before e in
      let s = sum_more before e in
      let t = follows es (before ++ (e ∷ [])) w (omega (arith, k.few)) (omega (arith, k.room))
      (sym (if_yes _ _ y) ∙ q)
      in
      let m = sym (apart_more before e es) ∙ t.behind in
      record {
        whole = t.whole;
        some = omega (arith, t.some);
        few = omega (arith, t.few);
        alone = both_yes _ _ k.alone t.alone;
        behind = both_yes _ _ k.apart (both_left _ _ m);
        apart = both_yes _ _ (both_right _ _ m) t.apart;
        room = omega (arith, t.room);
      }
      )
  | inr n ↦ not_nothing (if_no _ (Some (length before + 1)) n) q
]

pub follows_back : (es before : List AflEntry) (w : Bool) → Follows before es w
    → first_bad_or_truncated_entry_after before es w ≡ None
unfolding first_bad_or_truncated_entry_after every all_apart sum_over_entries
follows_back [] before w f = if_yes _ _ (both_yes _ _ f.whole (lt-ltb 0 (length before) (omega (arith, f.some))))
follows_back (e ∷ es) before w f =
    let n = length_more before e in
    let s = sum_more before e in
    let k : EntryKept before e = record {
      few = omega (arith, f.few);
      alone = both_left _ _ f.alone;
      apart =
          both_left _ _ f.behind;
      room = omega (arith, f.room);
    } in
    if_yes _ _ (kept_behind before e k)
    ∙ follows_back es (before ++ (e ∷ [])) w
    (record {
      whole = f.whole;
      some = omega (arith, f.some);
      few = omega (arith, f.few);
      alone = both_right _ _ f.alone;
      behind = apart_more before e es ∙ both_yes _ _ (both_right _ _ f.behind) (both_left _ _ f.apart);
      apart = both_right _ _ f.apart;
      room = omega (arith, f.room);
    })

-- the number of a bad entry is at most 63
pub number_most : (es before : List AflEntry) (w : Bool) (i : ℕ) → length before ≤ most_afl_entries
    → first_bad_or_truncated_entry_after before es w ≡ Some i → i ≤ 63
unfolding first_bad_or_truncated_entry_after
number_most [] before w i l q = elim (bool_cases (both w (ltb 0 (length before)))) [
  | inl y ↦ not_nothing q (if_yes None (Some (length before + 1)) y)
  | inr n ↦ (let e : Some (length before + 1) ≡ Some i = sym (if_no None (Some (length before + 1)) n) ∙ q in
      let z : length before + 1 ≡ i = cc in omega arith)
]
number_most (e ∷ es) before w i l q = elim (bool_cases (valid_entry_after_within_count_limits before e)) [
  | inl y ↦ (let k = keeps_kept before e y in let n = length_more before e in
      number_most es (before ++ (e ∷ [])) w i (omega (arith, k.few)) (sym (if_yes _ _ y) ∙ q))
  | inr n ↦ (let e : Some (length before + 1) ≡ Some i = sym (if_no _ (Some (length before + 1)) n) ∙ q in
      let z : length before + 1 ≡ i = cc in omega arith)
]

-- ---- a whole AFL

module _ (es : List ℕ) (q : first_bad_entry es ≡ None) where
  pub entries_follow : Follows [] (afl_entries es) (afl_length_is_multiple_of4 es)
  unfolding first_bad_entry sum_over_entries
  entries_follow = follows (afl_entries es) [] (afl_length_is_multiple_of4 es) (omega arith) (omega arith) q

  -- at most 248 bytes, and at most 128 records
  pub afl_most : length es ≤ 248
  afl_most =
      let f = entries_follow in
      let w = whole_length es f.whole in
      omega (arith, entries_count es, w, f.few)

  pub total_most : afl_record_count es ≤ most_card_records
  unfolding sum_over_entries
  total_most = omega (arith, entries_follow.room)

pub entry_number : (es : List ℕ) (i : ℕ) → first_bad_entry es ≡ Some i → i ≤ 63
unfolding first_bad_entry
entry_number es i q = number_most (afl_entries es) [] (afl_length_is_multiple_of4 es) i (omega arith) q
