-- Two numbers compared. Assumes nothing.
use mathlib.Core.Path.{◌≡◌, refl, ap}
use mathlib.Core.Logic.{◌⊎◌, inl, inr, ⊎_elim}
use Prim.Native.Nat.{ℕ, zero, suc, ◌≤◌, ◌<◌}
use native.Mathlib.Omega.{arith}

pub le-or-gt : (a b : ℕ) → (a ≤ b) ⊎ (b < a)
le-or-gt zero b = inl (omega arith)
le-or-gt (suc a) zero = inr (omega arith)
le-or-gt (suc a) (suc b) = ⊎_elim (λ p. inl (omega arith)) (λ q. inr (omega arith)) (le-or-gt a b)

-- two numbers that differ: one is below the other
pub sides : (a b : ℕ) → (a ≡ b → ⊥) → (a < b) ⊎ (b < a)
sides zero zero ne = absurd (ne refl)
sides zero (suc b) ne = inl (omega arith)
sides (suc a) zero ne = inr (omega arith)
sides (suc a) (suc b) ne = ⊎_elim (λ p. inl (omega arith)) (λ q. inr (omega arith)) (sides a b (λ e. ne (ap suc e)))

pub equal_or_not : (a b : ℕ) → (a ≡ b) ⊎ (a ≡ b → ⊥)
equal_or_not zero zero = inl refl
equal_or_not zero (suc b) = inr (λ e. omega arith)
equal_or_not (suc a) zero = inr (λ e. omega arith)
equal_or_not (suc a) (suc b) = ⊎_elim (λ p. inl (ap suc p)) (λ q. inr (λ e. q (omega arith))) (equal_or_not a b)
