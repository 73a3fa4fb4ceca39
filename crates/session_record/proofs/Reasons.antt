-- Reasons and outcomes: each reason has one outcome, and `outcome_of_nonzero_reason` gives it. Assumes nothing.
use mathlib.Core.Path.{◌≡◌, refl, sym, ap, ◌∙◌}
use mathlib.Core.Bool.{true, not}
use mathlib.Core.Logic.{inl, inr}
use Prim.Native.Nat.{ℕ, ◌≤◌}
use native.Mathlib.Omega.{arith}
use lib.Dec.{eqb}
use borrow.Author.Tests.{eq-eqb, ne_eqb, eqb-true, eqb-false, le-leb, leb-true, not-true}
use Rattle.basics.proofs.Laws.{bool_cases, if_yes, if_no, both_yes, both_left, both_right}
use Rattle.session_record.specs.declared.Outcome.{Outcome}
use Rattle.session_record.specs.Numbers.{reason_matches_outcome, outcome_of_nonzero_reason}
use Rattle.basics.specs.Reason.{reason_none, reason_above_limit, reason_no_supported_mode}

-- a decision has no reason
pub decided : (reason_matches_outcome Outcome.Approved reason_none ≡ true)
    × (reason_matches_outcome Outcome.OnlineRequest reason_none ≡ true)
    × (reason_matches_outcome Outcome.Declined reason_none ≡ true)
unfolding reason_matches_outcome
decided = (refl, refl, refl)

pub limit_outcome : (n : ℕ) → n ≡ reason_above_limit → outcome_of_nonzero_reason n ≡ Outcome.SelectNext
unfolding outcome_of_nonzero_reason
limit_outcome n e = if_yes _ _ (eq-eqb n reason_above_limit e)

pub other_outcome : (n : ℕ) → (n ≡ reason_above_limit → ⊥) → outcome_of_nonzero_reason n ≡ Outcome.Ended
unfolding outcome_of_nonzero_reason
other_outcome n e = if_no _ _ (ne_eqb n reason_above_limit e)

-- the outcome of a reason other than none goes with it
pub outcome_goes : (n : ℕ) → 1 ≤ n → n ≤ reason_no_supported_mode → reason_matches_outcome (outcome_of_nonzero_reason n) n
    ≡ true
unfolding reason_matches_outcome
outcome_goes n low high =
    elim (bool_cases (eqb n reason_above_limit)) [
      | inl y ↦ ap (λ (o : Outcome). reason_matches_outcome o n) (limit_outcome n (eqb-true n reason_above_limit y)) ∙ y
      | inr z ↦ ap (λ (o : Outcome). reason_matches_outcome o n) (other_outcome n (eqb-false n reason_above_limit z))
          ∙ both_yes _ _ (both_yes _ _ (le-leb 1 n low) (le-leb n reason_no_supported_mode high)) (ap not z)
    ]

-- an outcome that goes with a reason other than none is that one
pub goes_only : (o : Outcome) (n : ℕ) → (n ≡ reason_none → ⊥) → reason_matches_outcome o n ≡ true
    → o ≡ outcome_of_nonzero_reason n
unfolding reason_matches_outcome
goes_only Outcome.Approved n z e = absurd (z (eqb-true n reason_none e))
goes_only Outcome.OnlineRequest n z e = absurd (z (eqb-true n reason_none e))
goes_only Outcome.Declined n z e = absurd (z (eqb-true n reason_none e))
goes_only Outcome.Ended n z e = sym (other_outcome n (eqb-false n reason_above_limit (not-true _ (both_right _ _ e))))
goes_only Outcome.SelectNext n z e = sym (limit_outcome n (eqb-true n reason_above_limit e))

-- a reason that goes with an outcome is 0 to 11
pub goes_most : (o : Outcome) (n : ℕ) → reason_matches_outcome o n ≡ true → n ≤ reason_no_supported_mode
unfolding reason_matches_outcome
goes_most Outcome.Approved n e = let z = eqb-true n reason_none e in omega arith
goes_most Outcome.OnlineRequest n e = let z = eqb-true n reason_none e in omega arith
goes_most Outcome.Declined n e = let z = eqb-true n reason_none e in omega arith
goes_most Outcome.Ended n e = leb-true n reason_no_supported_mode (both_right _ _ (both_left _ _ e))
goes_most Outcome.SelectNext n e = let z = eqb-true n reason_above_limit e in omega arith
