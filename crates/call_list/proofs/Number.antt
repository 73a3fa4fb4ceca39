-- Numbers in bytes, high byte first: what the bytes of a part add, and a number read back from its bytes.
-- Assumes nothing.
use mathlib.Core.Path.{◌≡◌, refl, ap, subst, ◌∙◌}
use mathlib.Core.List.{List, [], ◌∷◌, ◌++◌}
use Prim.Native.Nat.{ℕ, zero, suc, ◌+◌, ◌*◌, ◌/◌, ◌%◌, ◌<◌, ◌^◌}
use native.Mathlib.Omega.{arith}
use native.Mathlib.Nat.{pow-zero, pow-suc}
use lib.ListN.{length, get_or, length-append}
use Rattle.basics.specs.Number.{append_big_endian_bytes, big_endian_number}
use Rattle.call_list.specs.Encoding.{big_endian_bytes}

number_append : (n : ℕ) (s t : List ℕ) → append_big_endian_bytes n (s ++ t) ≡ append_big_endian_bytes
    (append_big_endian_bytes n s) t
unfolding append_big_endian_bytes
number_append n [] t = refl
number_append n (a ∷ s) t = number_append (n * 256 + a) s t

pub eight_from : (s : List ℕ) → length s ≡ 8 → big_endian_number s
    ≡ ((((((get_or s 0 0 * 256 + get_or s 1 0) * 256 + get_or s 2 0) * 256 + get_or s 3 0) * 256 + get_or s 4 0) * 256
    + get_or s 5 0) * 256 + get_or s 6 0) * 256 + get_or s 7 0
unfolding append_big_endian_bytes
eight_from [] h = absurd (omega arith)
eight_from (a ∷ []) h = absurd (omega arith)
eight_from (a ∷ b ∷ []) h = absurd (omega arith)
eight_from (a ∷ b ∷ c ∷ []) h = absurd (omega arith)
eight_from (a ∷ b ∷ c ∷ d ∷ []) h = absurd (omega arith)
eight_from (a ∷ b ∷ c ∷ d ∷ e ∷ []) h = absurd (omega arith)
eight_from (a ∷ b ∷ c ∷ d ∷ e ∷ f ∷ []) h = absurd (omega arith)
eight_from (a ∷ b ∷ c ∷ d ∷ e ∷ f ∷ g ∷ []) h = absurd (omega arith)
eight_from (a ∷ b ∷ c ∷ d ∷ e ∷ f ∷ g ∷ i ∷ []) h = omega arith
eight_from (a ∷ b ∷ c ∷ d ∷ e ∷ f ∷ g ∷ i ∷ j ∷ s) h = absurd (omega arith)

-- ---- a number is read back from its bytes

pub high_length : (w n : ℕ) → length (big_endian_bytes w n) ≡ w
unfolding big_endian_bytes
high_length zero n = refl
high_length (suc zero) n = refl
high_length (suc (suc w)) n =
    length-append (big_endian_bytes (suc w) (n / 256)) (n % 256 ∷ []) ∙ omega (arith, high_length (suc w) (n / 256))

pub high_number : (w n : ℕ) → big_endian_number (big_endian_bytes (suc w) n) ≡ n
unfolding big_endian_bytes append_big_endian_bytes
high_number zero n = omega arith
high_number (suc w) n =
    number_append 0 (big_endian_bytes (suc w) (n / 256)) (n % 256 ∷ []) ∙ omega (arith, high_number w (n / 256))

-- the bytes as they were written before, each of them a byte: the same where the number fits
bytes_within : ℕ → ℕ → List ℕ
bytes_within zero n = []
bytes_within (suc w) n = bytes_within w (n / 256) ++ (n % 256 ∷ [])

bytes_within_lem : (w n : ℕ) → n < 256 ^ w → bytes_within w n ≡ big_endian_bytes w n
unfolding bytes_within big_endian_bytes
bytes_within_lem zero n h = refl
bytes_within_lem (suc zero) n h =
    let k : n < 256 ^ 0 * 256 = subst (λ (x : ℕ). n < x) (pow-suc 256 0) h in
    let m : 256 ^ 0 ≡ 1 = pow-zero 256 in
    let e : n % 256 ≡ n = omega arith in
    ap (λ (x : ℕ). x ∷ []) e
bytes_within_lem (suc (suc w)) n h =
    let k : n < 256 ^ suc w * 256 = subst (λ (x : ℕ). n < x) (pow-suc 256 (suc w)) h in
    ap (λ (l : List ℕ). l ++ (n % 256 ∷ [])) (bytes_within_lem (suc w) (n / 256) (omega arith))
