-- The cases of a match on a row's number, each for one row and in their order: what is left when none fits lies past
-- the
-- last of them. Assumes nothing.
use mathlib.Core.Path.{◌≡◌, sym, ap}
use mathlib.Core.List.{[], ◌∷◌}
use Prim.Native.Nat.{ℕ, zero, suc, ◌≤◌}
use native.Mathlib.Omega.{arith}
use types.Run.{OneOf}
use Rattle.store.specs.Inner.{packed_row_offset_and_max_length}

-- in the case of a row the number is that row's
pub at : {k x : ℕ} → OneOf (k ∷ []) x → packed_row_offset_and_max_length k ≡ packed_row_offset_and_max_length x
at h = ap packed_row_offset_and_max_length (sym h)

-- none of the first n cases fits
abbrev pub NoneOf : ℕ → ℕ → Type 0
NoneOf zero x = Unit {0}
NoneOf (suc n) x = NoneOf n x × (OneOf (n ∷ []) x → ⊥)

pub beyond : (n x : ℕ) → NoneOf n x → n ≤ x
beyond zero x h = omega arith
beyond (suc n) x h = let ih = beyond n x h.0 in omega (arith, h.1)
