-- Containment by a test that is computed, correct in both directions: none of the forty bits is missing.
-- Assumes nothing.
use Rattle.std.specs.Prelude.{Option, Some, None}
use mathlib.Core.Path.{◌≡◌, refl, sym, ap}
use mathlib.Core.Bool.{Bool, true, false, not}
use mathlib.Core.List.{List}
use Prim.Native.Nat.{ℕ}
use native.Mathlib.Omega.{arith}
use Rattle.basics.specs.Choice.{both, ◌and◌}
use Rattle.analysis.specs.Bits.{has_bit_counted_from_zero_at_byte1b8}
use Rattle.analysis.specs.Choice.{lowest_bit_from_start_within_count, is_some_bit}
use Rattle.analysis.proofs.Lowest.{lowest_none, none_passes}
use Rattle.laws.specs.Stricter.{FortyBitsWithin}

-- bit i is in the first value and not in the second
abbrev pub missing : List ℕ → List ℕ → ℕ → Bool
missing s t i = has_bit_counted_from_zero_at_byte1b8 s i and not (has_bit_counted_from_zero_at_byte1b8 t i)

abbrev pub contained : List ℕ → List ℕ → Bool
contained s t = not (is_some_bit (lowest_bit_from_start_within_count (missing s t) 0 40))

-- ---- a test that passes

none_of : (l : Option ℕ) → not (is_some_bit l) ≡ true → l ≡ None
none_of (Some i) e = let z : ◌≡◌ {A = ℕ} 0 1 = cc in absurd (omega arith)
none_of None e = refl

not_missing : (a b : Bool) → a and not b ≡ false → a ≡ true → b ≡ true
unfolding both
not_missing true true e h = refl
not_missing true false e h = cc
not_missing false b e h = cc

pub contained_within : (s t : List ℕ) → contained s t ≡ true → FortyBitsWithin s t
contained_within s t e i l = not_missing (has_bit_counted_from_zero_at_byte1b8 s i) (has_bit_counted_from_zero_at_byte1b8 t i)
    (none_passes (missing s t) 40 0 (none_of _ e) i (omega arith) l)

-- ---- a test that fails is no containment

there_too : (a b : Bool) → (a ≡ true → b ≡ true) → a and not b ≡ false
unfolding both
there_too true true h = refl
there_too true false h = sym (h refl)
there_too false b h = refl

pub within_contained : (s t : List ℕ) → FortyBitsWithin s t → contained s t ≡ true
within_contained s t w =
    ap (λ x. not (is_some_bit x))
    (lowest_none (missing s t) 40 0 (λ i u l. there_too (has_bit_counted_from_zero_at_byte1b8 s i)
    (has_bit_counted_from_zero_at_byte1b8 t i) (w i l)))
