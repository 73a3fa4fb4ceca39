-- The first bytes of a value, one by one. Assumes nothing.
use mathlib.Core.List.{List, [], ◌∷◌}
use mathlib.Core.Path.{◌≡◌, refl, ap, ◌∙◌}
use Prim.Native.Nat.{ℕ, zero, suc, ◌+◌, ◌*◌}
use native.Mathlib.Omega.{arith}
use lib.ListN.{length, get_or, drop}
use lib.Seq.{get_or-drop}
use Rattle.basics.specs.Number.{big_endian_number, append_big_endian_bytes}
use Rattle.analysis.specs.Value.{first_bytes_zero_padded}

-- a value of n bytes is its own first n
pub front_whole : (n : ℕ) (s : List ℕ) → length s ≡ n → first_bytes_zero_padded n s ≡ s
unfolding first_bytes_zero_padded
front_whole zero [] e = refl
front_whole zero (x ∷ s) e = absurd (omega arith)
front_whole (suc n) [] e = absurd (omega arith)
front_whole (suc n) (x ∷ s) e = ap (λ (t : List ℕ). x ∷ t) (front_whole n s (omega arith))

pub front_one : (s : List ℕ) → first_bytes_zero_padded 1 s ≡ get_or s 0 0 ∷ []
unfolding first_bytes_zero_padded
front_one [] = refl
front_one (a ∷ s) = refl

pub front_five : (s : List ℕ) → first_bytes_zero_padded 5 s ≡ get_or s 0 0 ∷ get_or s 1 0 ∷ get_or s 2 0 ∷ get_or s 3 0
    ∷ get_or s 4 0 ∷ []
unfolding first_bytes_zero_padded
front_five [] = refl
front_five (a ∷ []) = refl
front_five (a ∷ b ∷ []) = refl
front_five (a ∷ b ∷ c ∷ []) = refl
front_five (a ∷ b ∷ c ∷ d ∷ []) = refl
front_five (a ∷ b ∷ c ∷ d ∷ e ∷ s) = refl

pub front_four : (s : List ℕ) → first_bytes_zero_padded 4 s ≡ get_or s 0 0 ∷ get_or s 1 0 ∷ get_or s 2 0 ∷ get_or s 3 0 ∷ []
unfolding first_bytes_zero_padded
front_four [] = refl
front_four (a ∷ []) = refl
front_four (a ∷ b ∷ []) = refl
front_four (a ∷ b ∷ c ∷ []) = refl
front_four (a ∷ b ∷ c ∷ d ∷ s) = refl

-- four bytes from place i on as one number
pub number_four : (s : List ℕ) (i : ℕ)
    → big_endian_number (first_bytes_zero_padded 4 (drop i s))
    ≡ ((get_or s i 0 * 256 + get_or s (i + 1) 0) * 256 + get_or s (i + 2) 0) * 256 + get_or s (i + 3) 0
unfolding append_big_endian_bytes
number_four s i =
    let tvr1 : i + 0 ≡ i = omega arith in
    ap big_endian_number (front_four (drop i s))
    ∙ omega (
      arith,
      get_or-drop i s 0 0 ∙ ap (λ (k : ℕ). get_or s k 0) tvr1,
      get_or-drop i s 1 0,
      get_or-drop i s 2 0,
      get_or-drop
          i s 3 0,
    )

pub front_three : (s : List ℕ) → first_bytes_zero_padded 3 s ≡ get_or s 0 0 ∷ get_or s 1 0 ∷ get_or s 2 0 ∷ []
unfolding first_bytes_zero_padded
front_three [] = refl
front_three (a ∷ []) = refl
front_three (a ∷ b ∷ []) = refl
front_three (a ∷ b ∷ c ∷ s) = refl

pub front_six : (s : List ℕ) → first_bytes_zero_padded 6 s ≡ get_or s 0 0 ∷ get_or s 1 0 ∷ get_or s 2 0 ∷ get_or s 3 0 ∷ get_or s 4 0
    ∷ get_or s 5 0 ∷ []
unfolding first_bytes_zero_padded
front_six [] = refl
front_six (a ∷ s) = ap (λ (t : List ℕ). a ∷ t) (front_five s)
