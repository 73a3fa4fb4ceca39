-- Types compared with the numbers that a rule lists. Assumes nothing.
use mathlib.Core.Bool.{true, false}
use mathlib.Core.Logic.{◌⊎◌, inl, inr}
use mathlib.Core.Path.{◌≡◌, sym, ◌∙◌}
use Prim.Native.Nat.{ℕ}
use lib.Dec.{eqb}
use borrow.Author.Tests.{ne_eqb, eqb-true}
use Rattle.basics.proofs.Laws.{bool_cases, either_no, either_false}
use Rattle.analysis.specs.Digits.{is_one_of}

pub is_none : (x a b : ℕ) → ((x ≡ a) ⊎ (x ≡ b) → ⊥) → is_one_of x a b ≡ false
is_none x a b h = either_no _ _ (ne_eqb x a (λ e. h (inl e))) (ne_eqb x b (λ e. h (inr e)))

pub one_is : (x a b : ℕ) → is_one_of x a b ≡ true → (x ≡ a) ⊎ (x ≡ b)
one_is x a b e =
    elim (bool_cases (eqb x a)) [
      | inl y ↦ inl (eqb-true x a y)
      | inr n ↦ inr (eqb-true x b (sym (either_false _ n) ∙ e))
    ]
