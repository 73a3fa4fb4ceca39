-- `cabinet::is_within` meets its contract: the sum is compared by a difference, so that it cannot wrap.
-- Assumes nothing.
use borrow.Author.Tests.{le-leb, lt-leb, leb-true, leb-false}
use mathlib.Core.Logic.{inl, inr}
use mathlib.Core.Path.{sym, ◌∙◌}
use Prim.Native.Nat.{◌+◌, ◌-◌}
use native.Mathlib.Omega.{arith}
use lib.Dec.{leb}
use Rattle.basics.proofs.Laws.{bool_cases}
use Rattle.cabinet.specs.State.{greatest_twelve_digit_amount}
use Rattle.cabinet.proofs.is_within.Goals as goal

pub returns-then-reserved-gt-MOST_AMOUNT : goal.returns-then-reserved-gt-MOST_AMOUNT
returns-then-reserved-gt-MOST_AMOUNT c = let a = c.args in sym (lt-leb (a.remaining + a.reserved) greatest_twelve_digit_amount (omega arith))

pub returns : goal.returns
returns c =
    let a = c.args in
    elim (bool_cases (leb a.remaining (greatest_twelve_digit_amount - a.reserved))) [
      | inl t ↦
          t ∙ sym (le-leb (a.remaining + a.reserved) greatest_twelve_digit_amount
          (omega (arith, leb-true a.remaining (greatest_twelve_digit_amount - a.reserved) t)))
      | inr t ↦
          t ∙ sym (lt-leb (a.remaining + a.reserved) greatest_twelve_digit_amount
          (omega (arith, leb-false a.remaining (greatest_twelve_digit_amount - a.reserved) t)))
    ]
