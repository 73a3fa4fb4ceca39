-- Two lists of bytes compared.
-- Assumes nothing.
use Rattle.std.specs.Prelude.{Bool, true, false, List, [], ◌∷◌, ℕ}
use Rattle.basics.specs.Choice.{◌and◌, ◌=?◌}

-- the same bytes
unfoldable pub bytes_equal : List ℕ → List ℕ → Bool
bytes_equal [] [] = true
bytes_equal [] (y ∷ t) = false
bytes_equal (x ∷ s) [] = false
bytes_equal (x ∷ s) (y ∷ t) = x =? y and bytes_equal s t

-- ---- what holds of it, proved in proofs/Alike: alike-refl, and alike-eq: lists that are alike are equal
