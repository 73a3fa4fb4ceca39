-- What a word reports of a call: refusals, commands and outcomes apart, an approval by its outcome whatever its CVM,
-- and that a word is not that of refusal 25.
-- Assumes nothing.
use mathlib.Core.Path.{◌≡◌, ap, ◌∙◌}
use mathlib.Core.Bool.{true, false, not}
use Prim.Native.Nat.{ℕ, ◌/◌, ◌%◌, ◌≤◌, ◌<◌}
use native.Mathlib.Omega.{arith}
use lib.Dec.{eqb}
use borrow.Author.Tests.{eq-eqb, ne_eqb}
use Rattle.basics.specs.Reason.{refusal_record_out_of_ranges}
use Rattle.basics.proofs.Laws.{both_yes, both_no_left, both_no_right}
use Rattle.session_record.specs.declared.Outcome.{Outcome}
use Rattle.session_record.specs.declared.OutcomeParameters.{OutcomeParameters}
use Rattle.session_record.specs.Numbers.{outcome_number}
use Rattle.layout.specs.Word.{result_word_kind, word_kind_refusal, word_kind_outcome, refusal_word, command_word, outcome_word}
use Rattle.layout.proofs.Laws.{command_below, command_kind_lem, outcome_kind, refusal_kind}
use Rattle.cabinet_claim.specs.Account.{CabinetCall, CabinetCallMade, Account, account, is_refused_word}
use Rattle.cabinet_claim.specs.Account.{is_approved_word}

-- a call that was made, of its parts, and the account of an opening
abbrev pub cabinet_call_made : CabinetCall → ℕ → CabinetCallMade
cabinet_call_made c w = record { call = c; word = w }

abbrev pub account_opened : ℕ → Account
account_opened cap = account cap 0 0

-- a word that is not that of refusal 25
abbrev pub Other : ℕ → Type 0
Other w = not (eqb w (refusal_word refusal_record_out_of_ranges)) ≡ true

module _ (n : ℕ) (h : n ≤ 31) where
  pub refused_told : is_refused_word (refusal_word n) ≡ true
  refused_told = eq-eqb _ _ (refusal_kind n (omega arith))

  pub refused_other : (n ≡ refusal_record_out_of_ranges → ⊥) → Other (refusal_word n)
  refused_other ne = ap not (ne_eqb (refusal_word n) (refusal_word refusal_record_out_of_ranges) (λ e. ne (omega arith)))

module _ (n : ℕ) where
  pub command_told : is_refused_word (command_word n) ≡ false
  command_told = ne_eqb (result_word_kind (command_word n)) word_kind_refusal (λ e. omega (arith, command_kind_lem n))

  pub command_unapproved : is_approved_word (command_word n) ≡ false
  command_unapproved = both_no_left _ _ (ne_eqb (result_word_kind (command_word n)) word_kind_outcome
      (λ e. omega (arith, command_kind_lem n)))

  pub command_other : Other (command_word n)
  command_other =
      ap not (ne_eqb (command_word n) (refusal_word refusal_record_out_of_ranges) (λ e. omega (arith, command_below n)))

outcome_most : (o : Outcome) → outcome_number o ≤ 4
outcome_most Outcome.Approved = omega arith
outcome_most Outcome.OnlineRequest = omega arith
outcome_most Outcome.Declined = omega arith
outcome_most Outcome.Ended = omega arith
outcome_most Outcome.SelectNext = omega arith

module _ (e : OutcomeParameters) (h : e.reason < 256) where
  pub outcome_told : is_refused_word (outcome_word e) ≡ false
  outcome_told = ne_eqb (result_word_kind (outcome_word e)) word_kind_refusal (λ q. omega (arith, outcome_kind e h))

  outcome_byte : outcome_word e / 256 % 256 ≡ outcome_number e.outcome
  outcome_byte = omega (arith, outcome_most e.outcome)

  pub outcome_approved : outcome_number e.outcome ≡ 0 → is_approved_word (outcome_word e) ≡ true
  outcome_approved q = both_yes _ _ (eq-eqb _ _ (outcome_kind e h)) (eq-eqb _ _ (outcome_byte ∙ q))

  pub outcome_unapproved : (outcome_number e.outcome ≡ 0 → ⊥) → is_approved_word (outcome_word e) ≡ false
  outcome_unapproved ne = both_no_right _ _
      (ne_eqb (outcome_word e / 256 % 256) 0 (λ q. ne (omega (arith, outcome_byte))))

  pub outcome_other : Other (outcome_word e)
  outcome_other =
      ap not (ne_eqb (outcome_word e) (refusal_word refusal_record_out_of_ranges) (λ q. let k = outcome_kind e h in let m =
      ap result_word_kind q in omega arith))
