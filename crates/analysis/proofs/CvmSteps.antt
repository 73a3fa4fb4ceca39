-- What the code of the verification tests, in the specification's words. Proofs of its functions cite these.
-- Assumes nothing.
use mathlib.Core.Path.{◌≡◌, refl, sym, ◌∙◌}
use mathlib.Core.Bool.{Bool, true, false, not}
use mathlib.Core.List.{List, [], ◌∷◌}
use Prim.Native.Nat.{ℕ, ◌-◌, ◌≤◌, ◌<◌}
use native.Mathlib.Nat.{le_refl}
use native.Mathlib.Omega.{arith}
use lib.ListN.{length, take, drop, get_or, length-drop}
use lib.Seq.{take_all}
use borrow.Author.Tests.{ne_eqb}
use Rattle.std.proofs.lemmas.Grind.{common_steps}
use Rattle.basics.specs.Choice.{if, both}
use Rattle.basics.proofs.Laws.{if_no}
use denote.Ref.{Bor}
use Rattle.std.specs.Prelude.{Option, Some, None, unwrap_or}
use Rattle.std.specs.Slice.{IsGetRangeResult}
use Rattle.store.specs.Place.{present}
use Rattle.analysis.specs.Inner.{cvm_amount_condition_met}
use Rattle.analysis.specs.Cvm.{CvmRule, cvm_rules_from_pairs, cvm_condition_met}
use Rattle.analysis.specs.Cvm.{cvm_rules_of_list, cvm_result_by_rules}
use Rattle.analysis.specs.Cvm.{cvm_result_by_list}
use Rattle.analysis.specs.declared.cvm.CvmConditions.{CvmConditions}

-- ---- conditions

-- what counts in the application's currency alone
pub in_currency : (a b : Bool) → both a b ≡ if (not a) false b
unfolding both if
in_currency true b = refl
in_currency false b = refl

-- any condition but the first six is one of the amount
pub condition_amount : (t : CvmConditions) (code d : ℕ) → (d ≡ 0 → ⊥) → (d ≡ 1 → ⊥) → (d ≡ 2 → ⊥) → (d ≡ 3 → ⊥)
    → (d ≡ 4 → ⊥) → (d ≡ 5 → ⊥)
    → cvm_condition_met t code d ≡ both t.currency (cvm_amount_condition_met t d)
unfolding cvm_condition_met
condition_amount t code d a b c e f g =
    if_no _ _ (ne_eqb d 0 a) ∙ if_no _ _ (ne_eqb d 1 b) ∙ if_no _ _ (ne_eqb d 2 c) ∙ if_no _ _ (ne_eqb d 3 e) ∙ if_no _
    _ (ne_eqb d 4 f) ∙ if_no _ _ (ne_eqb d 5 g)
    ∙ sym (in_currency t.currency (cvm_amount_condition_met t d))

-- ---- the rules of a list, one at a time

-- a rule of these two bytes
abbrev pub cvm_rule : ℕ → ℕ → CvmRule
cvm_rule c d = record { code = c; condition = d }

-- the bytes after the first rule, as `&s[2..]` makes them
abbrev pub tail : List ℕ → List ℕ
tail s = take (length s - 2) (drop 2 s)

pub tail_is : (s : List ℕ) → tail s ≡ drop 2 s
tail_is s = take_all (length s - 2) (drop 2 s) (simp length-drop (le_refl _))

pub rules_short : (s : List ℕ) → length s < 2 → cvm_rules_from_pairs s ≡ []
unfolding cvm_rules_from_pairs
rules_short [] h = refl
rules_short (c ∷ []) h = refl
rules_short (c ∷ d ∷ s) h = absurd (omega arith)

rules_cons : (s : List ℕ) → 2 ≤ length s → cvm_rules_from_pairs s ≡ cvm_rule (get_or s 0 0) (get_or s 1 0) ∷ cvm_rules_from_pairs
    (drop 2 s)
unfolding cvm_rules_from_pairs
rules_cons [] h = absurd (omega arith)
rules_cons (c ∷ []) h = absurd (omega arith)
rules_cons (c ∷ d ∷ s) h = refl

pub rules_front : (s : List ℕ) → 2 ≤ length s → cvm_rules_from_pairs s ≡ cvm_rule (get_or s 0 0) (get_or s 1 0)
    ∷ cvm_rules_from_pairs (tail s)
rules_front s h = rw (tail_is s) (rules_cons s h)

pub ruleset rule_steps = (rules_front, tail_is, rules_short)

-- ---- the list

pub by_bytes : (s : List ℕ) (t : CvmConditions) → (length s ≡ 0 → ⊥) → cvm_result_by_list (present s) t ≡ cvm_result_by_rules
    t false (cvm_rules_of_list s)
by_bytes [] t n = absurd (n refl)
by_bytes (b ∷ s) t n = refl

-- the rules as `list.get(8..)` gives them, none of a shorter list
pub rules_behind_amounts : (s : List ℕ) (r : Option (Bor (List ℕ))) (none rules : Bor (List ℕ))
    → IsGetRangeResult s 8 (length s) r → rules ≡ unwrap_or r none → none.now ≡ [] → cvm_rules_from_pairs rules.now ≡ cvm_rules_of_list s
rules_behind_amounts s None none rules h u e = grind (arith, common_steps)
rules_behind_amounts s (Some v) none rules h u e = grind (arith, common_steps)
