-- Search by halving, iteration by iteration (`by_turns`). An iteration leaves at most half of what was left
-- (`few_probes`). Where tags rise, those before what is left are smaller than the one searched for and those after it
-- greater (`finds`). Lists with the same tags at the places go the same way (`same_way`).
-- Assumes nothing.
use Rattle.std.specs.Prelude.{Some, None}
use mathlib.Core.Path.{◌≡◌, refl, sym, ap, ◌∙◌}
use mathlib.Core.Bool.{true}
use mathlib.Core.Logic.{inl, inr}
use mathlib.Core.List.{List}
use Prim.Native.Nat.{ℕ, zero, suc, ◌+◌, ◌-◌, ◌^◌, ◌≤◌, ◌<◌}
use native.Mathlib.Nat.{two-pow-succ}
use native.Mathlib.Omega.{arith}
use lib.Dec.{ltb}
use lib.ListN.{length, get_or, length-map}
use borrow.Author.Tests.{le-leb, lt-leb, lt-ltb, le-ltb, eq-eqb, ne_eqb}
use Rattle.basics.specs.Choice.{every}
use Rattle.basics.proofs.Laws.{if_yes, if_no, both_yes}
use Rattle.basics.proofs.Order.{equal_or_not, sides, le-or-gt}
use Rattle.dictionary.specs.declared.SearchResult.{SearchResult}
use Rattle.dictionary.specs.Rows.{Row, row_in, find_row}
use Rattle.dictionary.specs.Rule.{rising_tags}
use Rattle.dictionary.specs.Search.{SearchPart, search_part, part_middle, HalvingSearch, search_miss, search_hit}
use Rattle.dictionary.specs.Search.{prepend_probe, halving_search_in, halving_search, probed_places}
use Rattle.dictionary.specs.Search.{halving_search_result, tags_of, tags_at, ProbesCountedAndSufficient}
use Rattle.dictionary.specs.Search.{tags_in_part_of, halving_search_result_in_part, PartProbesCountedAndSufficient}
use Rattle.dictionary.proofs.Table.{column}
use Rattle.dictionary.proofs.Find.{absent}
use Rattle.dictionary.proofs.Rule.{tags_rise, find_row_lem}

-- ---- the iterations

-- the middle of a part, and the tag there
abbrev mid : ℕ → ℕ → ℕ
mid from to = part_middle (search_part from to)

abbrev looked : List ℕ → ℕ → ℕ → ℕ
looked tags from to = get_or tags (mid from to) 0

module _ (tags : List ℕ) (t n from to : ℕ) (some : from < to) where
  transition_here : looked tags from to ≡ t → halving_search_in tags t (suc n) (search_part from to)
      ≡ prepend_probe (mid from to) (search_hit (mid from to))
  unfolding halving_search_in
  transition_here e = if_no _ _ (lt-leb to from some) ∙ ap (prepend_probe (mid from to)) (if_yes _ _ (eq-eqb _ _ e))

  transition_behind : looked tags from to < t → halving_search_in tags t (suc n) (search_part from to)
      ≡ prepend_probe (mid from to) (halving_search_in tags t n (search_part (mid from to + 1) to))
  unfolding halving_search_in
  transition_behind h =
      let other : looked tags from to ≡ t → ⊥ = λ e. omega arith in
      if_no _ _ (lt-leb to from some) ∙ ap (prepend_probe (mid from to))
      (if_no _ _ (ne_eqb _ _ other) ∙ ap (halving_search_in tags t n) (if_yes _ _ (lt-ltb _ _ h)))

  transition_before : t < looked tags from to → halving_search_in tags t (suc n) (search_part from to)
      ≡ prepend_probe (mid from to) (halving_search_in tags t n (search_part from (mid from to)))
  unfolding halving_search_in
  transition_before h =
      let other : looked tags from to ≡ t → ⊥ = λ e. omega arith in
      let greater : t ≤ looked tags from to = omega arith in
      if_no _ _ (lt-leb to from some) ∙ ap (prepend_probe (mid from to))
      (if_no _ _ (ne_eqb _ _ other) ∙ ap (halving_search_in tags t n) (if_no _ _ (le-ltb _ _ greater)))

no_turns : (tags : List ℕ) (t : ℕ) (p : SearchPart) → halving_search_in tags t 0 p ≡ search_miss
unfolding halving_search_in
no_turns tags t p = refl

transition_none : (tags : List ℕ) (t n from to : ℕ) → to ≤ from → halving_search_in tags t n (search_part from to)
    ≡ search_miss
unfolding halving_search_in
transition_none tags t zero from to h = refl
transition_none tags t (suc n) from to h = if_yes _ _ (le-leb to from h)

-- what holds where nothing is left, where the tag is found, and at an iteration that leaves a part for which it holds,
-- holds of every search
module _ (tags : List ℕ) (t : ℕ) (P : ℕ → ℕ → HalvingSearch → Type 0)
    (none : (from to : ℕ) → to ≤ from → P from to search_miss)
    (found : (from to : ℕ) → from < to → looked tags from to ≡ t
    → P from to (prepend_probe (mid from to) (search_hit (mid from to))))
    (behind : (from to : ℕ) (s : HalvingSearch) → from < to → looked tags from to < t → P (mid from to + 1) to s
    → P from to (prepend_probe (mid from to) s))
    (before : (from to : ℕ) (s : HalvingSearch) → from < to → t < looked tags from to → P from (mid from to) s
    → P from to (prepend_probe (mid from to) s)) where
  by_turns : (n from to : ℕ) → to ≤ from + n → P from to (halving_search_in tags t n (search_part from to))
  by_turns zero from to h = rw (no_turns tags t (search_part from to)) (none from to (omega arith))
  by_turns (suc n) from to h =
      elim (le-or-gt to from) [
        | inl z ↦ rw (transition_none tags t (suc n) from to z) (none from to z)
        | inr some ↦ elim (equal_or_not (looked tags from to) t) [
          | inl e ↦ rw (transition_here tags t n from to some e) (found from to some e)
          | inr other ↦ elim (sides (looked tags from to) t other) [
            | inl l ↦ rw (transition_behind tags t n from to some l)
                (behind from to _ some l (by_turns n _ _ (omega arith)))
            | inr g ↦ rw (transition_before tags t n from to some g)
                (before from to _ some g (by_turns n _ _ (omega arith)))
          ]
        ]
      ]

-- ---- how many probes, and where

module _ (tags : List ℕ) (t : ℕ) where
  -- fewer than 2 to the k tags are left: at most k probes
  abbrev Few : ℕ → ℕ → HalvingSearch → Type 0
  Few from to s = (k : ℕ) → to < from + 2 ^ k → length s.places ≤ k

  few_from : (n from to : ℕ) → to ≤ from + n → Few from to (halving_search_in tags t n (search_part from to))
  few_from = by_turns tags t Few (λ from to z k h. omega arith) found behind before
    where
      found : (from to : ℕ) → from < to → looked tags from to ≡ t
          → Few from to (prepend_probe (mid from to) (search_hit (mid from to)))
      found from to some e zero h = omega arith
      found from to some e (suc k) h = omega arith

      behind : (from to : ℕ) (s : HalvingSearch) → from < to → looked tags from to < t → Few (mid from to + 1) to s
          → Few from to (prepend_probe (mid from to) s)
      behind from to s some l ih zero h = omega arith
      behind from to s some l ih (suc k) h = let p = two-pow-succ k in let q = ih k (omega arith) in omega arith

      before : (from to : ℕ) (s : HalvingSearch) → from < to → t < looked tags from to → Few from (mid from to) s
          → Few from to (prepend_probe (mid from to) s)
      before from to s some g ih zero h = omega arith
      before from to s some g ih (suc k) h = let p = two-pow-succ k in let q = ih k (omega arith) in omega arith

  -- a part of the tags: each place probed is one of theirs
  abbrev Within : ℕ → ℕ → HalvingSearch → Type 0
  Within from to s = to ≤ length tags → every (λ p. ltb p (length tags)) s.places ≡ true

  inside : (from to : ℕ) → from < to → to ≤ length tags → ltb (mid from to) (length tags) ≡ true
  inside from to some h = lt-ltb (mid from to) (length tags) (omega arith)

  within-from : (n from to : ℕ) → to ≤ from + n → Within from to (halving_search_in tags t n (search_part from to))
  unfolding every
  within-from =
      by_turns tags t Within
      (λ from to z h. refl)
      (λ from to some e h. both_yes _ _ (inside from to some h) refl)
      (λ from to s some l ih h. both_yes _ _ (inside from to some h) (ih h))
      (λ from to s some g ih h. both_yes _ _ (inside from to some h) (ih (omega arith)))

-- ---- the same tags at the places

module _ (tags other : List ℕ) (t : ℕ) where
  same_way : (n from to : ℕ) → tags_at other (halving_search_in tags t n (search_part from to)).places
      ≡ tags_at tags (halving_search_in tags t n (search_part from to)).places
      → halving_search_in other t n (search_part from to) ≡ halving_search_in tags t n (search_part from to)
  same_way zero from to e = no_turns other t (search_part from to) ∙ sym (no_turns tags t (search_part from to))
  same_way (suc n) from to e =
      elim (le-or-gt to from) [
        | inl z ↦ transition_none other t (suc n) from to z ∙ sym (transition_none tags t (suc n) from to z)
        | inr some ↦ elim (equal_or_not (looked tags from to) t) [
          | inl h ↦
              let d = rw (transition_here tags t n from to some h) at e in
              let first : looked other from to ≡ looked tags from to = cc in
              transition_here other t n from to some (first ∙ h) ∙ sym (transition_here tags t n from to some h)
          | inr differs ↦ elim (sides (looked tags from to) t differs) [
            | inl l ↦
                let d = rw (transition_behind tags t n from to some l) at e in
                let first : looked other from to ≡ looked tags from to = cc in
                let s = halving_search_in tags t n (search_part (mid from to + 1) to) in
                let rest : tags_at other s.places ≡ tags_at tags s.places = cc in
                transition_behind other t n from to some (omega arith) ∙ ap (prepend_probe (mid from to))
                (same_way n _ _ rest) ∙ sym (transition_behind tags t n from to some l)
            | inr g ↦
                let d = rw (transition_before tags t n from to some g) at e in
                let first : looked other from to ≡ looked tags from to = cc in
                let s = halving_search_in tags t n (search_part from (mid from to)) in
                let rest : tags_at other s.places ≡ tags_at tags s.places = cc in
                transition_before other t n from to some (omega arith) ∙ ap (prepend_probe (mid from to))
                (same_way n _ _ rest) ∙ sym (transition_before tags t n from to some g)
          ]
        ]
      ]

-- ---- where tags rise

-- the tags before a place are smaller than the one searched for, those from a place on greater
abbrev Smaller : List Row → ℕ → ℕ → Type 0
Smaller table t n = (k : ℕ) → k < n → k < length table → (row_in table k).tag < t

abbrev Greater : List Row → ℕ → ℕ → Type 0
Greater table t n = (k : ℕ) → n ≤ k → k < length table → t < (row_in table k).tag

module _ (table : List Row) (rises : rising_tags table ≡ true) (t : ℕ) where
  smaller_up_to : (m : ℕ) → m < length table → (row_in table m).tag < t → Smaller table t (m + 1)
  smaller_up_to m h l k b w =
      elim (equal_or_not k m) [
        | inl e ↦ rw e l
        | inr differs ↦ let r = tags_rise table rises k m (omega (arith, differs)) h in omega arith
      ]

  greater_from : (m : ℕ) → m < length table → t < (row_in table m).tag → Greater table t m
  greater_from m h g k b w =
      elim (equal_or_not k m) [
        | inl e ↦ rw e g
        | inr differs ↦ let r = tags_rise table rises m k (omega (arith, differs)) w in omega arith
      ]

  -- a part with smaller tags before it and greater ones after it: what `find_row` gives
  abbrev Finds : ℕ → ℕ → HalvingSearch → Type 0
  Finds from to s = to ≤ length table → Smaller table t from → Greater table t to → s.found ≡ find_row table t

  at_row : (k : ℕ) → get_or (tags_of table) k 0 ≡ (row_in table k).tag
  at_row k = column (λ r. r.tag) table k

  finds_from : (n from to : ℕ) → to ≤ from + n → Finds from to (halving_search_in (tags_of table) t n (search_part from to))
  finds_from = by_turns (tags_of table) t Finds none found behind before
    where
      none : (from to : ℕ) → to ≤ from → to ≤ length table → Smaller table t from → Greater table t to
          → None ≡ find_row table t
      none from to z h s g =
          sym
          (absent table t
          (λ k w e. elim (le-or-gt from k) [
            | inl b ↦ let x = g k (omega arith) w in omega arith
            | inr b ↦ let x =
                s k b w in omega arith
          ]))

      found : (from to : ℕ) → from < to → looked (tags_of table) from to ≡ t → to ≤ length table → Smaller table t from
          → Greater table t to
          → Some (mid from to) ≡ find_row table t
      found from to some e h s g =
          let w : mid from to < length table = omega arith in
          let x : (row_in table (mid from to)).tag ≡ t = sym (at_row (mid from to)) ∙ e in
          sym (find_row_lem table rises (mid from to) w) ∙ ap (find_row table) x

      behind : (from to : ℕ) (s : HalvingSearch) → from < to → looked (tags_of table) from to < t
          → Finds (mid from to + 1) to s → Finds from to s
      behind from to s some l ih h a b =
          let w : mid from to < length table = omega arith in
          let x = at_row (mid from to) in
          ih h (smaller_up_to (mid from to) w (omega arith)) b

      before : (from to : ℕ) (s : HalvingSearch) → from < to → t < looked (tags_of table) from to
          → Finds from (mid from to) s → Finds from to s
      before from to s some g ih h a b =
          let w : mid from to < length table = omega arith in
          let x = at_row (mid from to) in
          ih (omega arith) a (greater_from (mid from to) w (omega arith))

-- ---- the loop: some probes were made, and a part is left

-- what is said after so many probes, where a search of the rest comes to this
abbrev pub after : ℕ → HalvingSearch → SearchResult
after probes s = record { found = s.found; probes = probes + length s.places }

-- what is said where this part is left; an iteration is left for each tag but those probed
abbrev pub rest : List ℕ → ℕ → ℕ → ℕ → ℕ → SearchResult
rest tags t from to probes = after probes (halving_search_in tags t (length tags - probes) (search_part from to))

module _ (tags : List ℕ) (t : ℕ) where
  pub begin : halving_search_result tags t ≡ rest tags t 0 (length tags) 0
  unfolding halving_search_result halving_search
  begin =
      let s = halving_search_in tags t (length tags) (search_part 0 (length tags)) in
      let e : length s.places ≡ 0 + length s.places = omega arith in
      let all : length tags ≡ length tags - 0 = omega arith in
      ap (λ (n : ℕ). record { found = s.found; probes = n }) e ∙ ap
      (λ (n : ℕ). after 0 (halving_search_in tags t n (search_part 0 (length tags)))) all

  module _ (from to probes : ℕ) where
    pub end : to ≤ from → rest tags t from to probes ≡ record { found = None; probes = probes }
    end h = rw (transition_none tags t (length tags - probes) from to h)
        (ap (λ (n : ℕ). record { found = None; probes = n }) (omega arith))

    module _ (room : probes + to ≤ from + length tags) (some : from < to) where
      one_more : (s : HalvingSearch) → after probes (prepend_probe (mid from to) s) ≡ after (probes + 1) s
      one_more s = ap (λ (n : ℕ). record { found = s.found; probes = n }) (omega arith)

      turns : length tags - probes ≡ suc (length tags - (probes + 1))
      turns = omega arith

      pub go_here : looked tags from to ≡ t
          → rest tags t from to probes ≡ record { found = Some (mid from to); probes = probes + 1 }
      go_here e = rw (turns, transition_here tags t (length tags - (probes + 1)) from to some e)

      pub go_behind : looked tags from to < t → rest tags t from to probes ≡ rest tags t (mid from to + 1) to
          (probes + 1)
      go_behind l = rw (turns, transition_behind tags t (length tags - (probes + 1)) from to some l)
          (one_more (halving_search_in tags t (length tags - (probes + 1)) (search_part (mid from to + 1) to)))

      pub go_before : t < looked tags from to → rest tags t from to probes ≡ rest tags t from (mid from to) (probes + 1)
      go_before g = rw (turns, transition_before tags t (length tags - (probes + 1)) from to some g)
          (one_more (halving_search_in tags t (length tags - (probes + 1)) (search_part from (mid from to))))

-- ---- what `search_tags` promises, from the equation

module _ (tags : List ℕ) (t : ℕ) where
  finds : (table : List Row) → tags_of table ≡ tags → rising_tags table ≡ true → (halving_search_result tags t).found
      ≡ find_row table t
  unfolding halving_search_result halving_search
  finds table e rises =
      let n = length (tags_of table) in
      let l : n ≡ length table = length-map table (λ r. r.tag) in
      rw (← e) (finds_from table rises t n 0 n (omega arith) (omega arith) (λ k b. absurd (omega arith))
      (λ k b w. absurd (omega arith)))

  few_probes : (k : ℕ) → length tags < 2 ^ k → (halving_search_result tags t).probes ≤ k
  unfolding halving_search_result halving_search
  few_probes k h = few_from tags t (length tags) 0 (length tags) (omega arith) k (omega arith)

  same : (other : List ℕ) → length other ≡ length tags → tags_at other (probed_places tags t)
      ≡ tags_at tags (probed_places tags t) → halving_search_result other t ≡ halving_search_result tags t
  unfolding halving_search_result halving_search
  same other e h =
      let way = same_way tags other t (length tags) 0 (length tags) h in
      let whole : halving_search_in other t (length other) (search_part 0 (length other)) ≡ halving_search_in tags t
      (length tags) (search_part 0 (length tags)) = rw e way in
      ap (λ (s : HalvingSearch). record { found = s.found; probes = length s.places }) whole

  counted : ProbesCountedAndSufficient tags t (halving_search_result tags t)
  unfolding halving_search_result halving_search
  counted = record {
    count = refl;
    within = within-from tags t (length tags) 0 (length tags) (omega arith)
        (omega arith);
    enough = same;
  }

  pub promised : {r : SearchResult} → r ≡ halving_search_result tags t
      → (r ≡ halving_search_result tags t)
      × (((table : List Row) → tags_of table ≡ tags → rising_tags table ≡ true → r.found ≡ find_row table t)
      × (((k : ℕ) → length tags < 2 ^ k → r.probes ≤ k)
      × ProbesCountedAndSufficient tags t r))
  promised e = rw e (refl, (finds, (few_probes, counted)))

-- a search of the part of a table that a tag can be in counts the probes of that part
pub counted_in_part : (tags : List ℕ) (t : ℕ) {r : SearchResult} → r ≡ halving_search_result_in_part tags t
    → PartProbesCountedAndSufficient tags t r
unfolding halving_search_result_in_part halving_search_result
counted_in_part tags t e = rw e ((promised (tags_in_part_of tags t) t refl).1.1.1)
