-- A number in bytes, high byte first: its bytes have their width and are read back, whatever the number; and eight of
-- them as std has them.
-- Assumes nothing.
use mathlib.Core.Path.{◌≡◌, refl, ap, ◌∙◌}
use mathlib.Core.List.{List, [], ◌∷◌, ◌++◌}
use Prim.Native.Nat.{ℕ, zero, suc, ◌+◌, ◌*◌, ◌/◌, ◌%◌, ◌<◌, ◌^◌}
use native.Mathlib.Omega.{arith}
use lib.ListN.{length, length-append}
use Rattle.std.specs.Int.{w64, to_be_bytes, from_be_bytes}
use Rattle.basics.specs.Number.{append_big_endian_bytes, big_endian_number}
use Rattle.layout.specs.Layout.{big_endian_bytes}

number_append : (n : ℕ) (s t : List ℕ) → append_big_endian_bytes n (s ++ t) ≡ append_big_endian_bytes
    (append_big_endian_bytes n s) t
unfolding append_big_endian_bytes
number_append n [] t = refl
number_append n (a ∷ s) t = number_append (n * 256 + a) s t

pub bytes_length : (w n : ℕ) → length (big_endian_bytes w n) ≡ w
unfolding big_endian_bytes
bytes_length zero n = refl
bytes_length (suc zero) n = refl
bytes_length (suc (suc w)) n =
    length-append (big_endian_bytes (suc w) (n / 256)) (n % 256 ∷ []) ∙ omega (arith, bytes_length (suc w) (n / 256))

pub bytes_number : (w n : ℕ) → big_endian_number (big_endian_bytes (suc w) n) ≡ n
unfolding big_endian_bytes append_big_endian_bytes
bytes_number zero n = omega arith
bytes_number (suc w) n =
    number_append 0 (big_endian_bytes (suc w) (n / 256)) (n % 256 ∷ []) ∙ omega (arith, bytes_number w (n / 256))

-- eight bytes as std has them are those of the definition, and are read as the same number
pub eight_bytes : (n : ℕ) → n < 2 ^ 64 → to_be_bytes w64 n ≡ big_endian_bytes 8 n
unfolding big_endian_bytes
eight_bytes n h =
    let by : ℕ → ℕ = λ x. x / 256 in
    let s2 : n / 0x10000 ≡ n / 0x100 / 256 = omega arith in
    let s3 : n / 0x1000000 ≡ n / 0x10000 / 256 = omega arith in
    let s4 : n / 0x100000000 ≡ n / 0x1000000 / 256 = omega arith in
    let s5 : n / 0x10000000000 ≡ n / 0x100000000 / 256 = omega arith in
    let s6 : n / 0x1000000000000 ≡ n / 0x10000000000 / 256 = omega arith in
    let s7 : n / 0x100000000000000 % 256 ≡ n / 0x1000000000000 / 256 = omega (arith, h) in
    let e3 = s3 ∙ ap by s2 in
    let e4 = s4 ∙ ap by e3 in
    let e5 = s5 ∙ ap by e4 in
    let e6 = s6 ∙ ap by e5 in
    let e7 = s7 ∙ ap by e6 in
    λ i. e7 i ∷ e6 i % 256 ∷ e5 i % 256 ∷ e4 i % 256 ∷ e3 i % 256 ∷ s2 i % 256 ∷ n / 0x100 % 256 ∷ n % 256 ∷ []

pub eight_number : (s : List ℕ) → length s ≡ 8 → from_be_bytes w64 s ≡ big_endian_number s
unfolding append_big_endian_bytes
eight_number [] z = absurd (omega arith)
eight_number (_ ∷ []) z = absurd (omega arith)
eight_number (_ ∷ _ ∷ []) z = absurd (omega arith)
eight_number (_ ∷ _ ∷ _ ∷ []) z = absurd (omega arith)
eight_number (_ ∷ _ ∷ _ ∷ _ ∷ []) z = absurd (omega arith)
eight_number (_ ∷ _ ∷ _ ∷ _ ∷ _ ∷ []) z = absurd (omega arith)
eight_number (_ ∷ _ ∷ _ ∷ _ ∷ _ ∷ _ ∷ []) z = absurd (omega arith)
eight_number (_ ∷ _ ∷ _ ∷ _ ∷ _ ∷ _ ∷ _ ∷ []) z = absurd (omega arith)
eight_number (a ∷ b ∷ c ∷ d ∷ e ∷ f ∷ g ∷ h ∷ []) z = omega arith
eight_number (_ ∷ _ ∷ _ ∷ _ ∷ _ ∷ _ ∷ _ ∷ _ ∷ _ ∷ _) z = absurd (omega arith)
