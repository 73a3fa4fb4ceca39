-- Bytes at the front of zeros are the bytes with zeros after them; three bytes and a copy at the front of a list.
-- Assumes nothing.
use mathlib.Core.Path.{◌≡◌, refl, ap, ◌∙◌}
use mathlib.Core.List.{List, [], ◌∷◌, ◌++◌, append-nil}
use Prim.Native.Nat.{ℕ, zero, suc, ◌+◌, ◌-◌, ◌≤◌}
use native.Mathlib.Omega.{arith}
use lib.ListN.{length, take, drop, set, replicate, length-append, length-drop, drop_of_length-le}
use lib.Seq.{take-length, length-take-le, drop-drop}
use borrow.Rule.Slice.PartMut.{put_mid}
use Rattle.journal.specs.Record.{length_in_two_bytes, zero_padded, length_then_padded_bytes}

drop_zeros : (k n : ℕ) → drop {A = ℕ} k (replicate n 0) ≡ replicate (n - k) 0
drop_zeros zero n = let e : n ≡ n - 0 = omega arith in ap (λ (m : ℕ). replicate m 0) e
drop_zeros (suc k) zero = let e : 0 ≡ 0 - suc k = omega arith in ap (λ (m : ℕ). replicate m 0) e
drop_zeros (suc k) (suc n) = let e : n - k ≡ suc n - suc k = omega arith in drop_zeros k n ∙ ap
    (λ (m : ℕ). replicate m 0) e

-- what follows v in n + 3 zeros, three bytes before it
pub in_zeros : (k n : ℕ) (v l : List ℕ)
    → l ≡ k ∷ (length_in_two_bytes (length v) ++ (v ++ drop (length v + 3) (replicate (n + 3) 0)))
    → l ≡ k ∷ length_then_padded_bytes n v
in_zeros k n v l e =
    let z : n + 3 - (length v + 3) ≡ n - length v = omega arith in
    e ∙ ap (λ (b : List ℕ). k ∷ (length_in_two_bytes (length v) ++ (v ++ b)))
    (drop_zeros (length v + 3) (n + 3) ∙ ap (λ (m : ℕ). replicate m 0) z)

-- three bytes stored and v copied after them
pub placed : (k x y : ℕ) (v l m : List ℕ) → length v + 3 ≤ length l
    → m ≡ take (length v) v ++ drop (length v)
    (take (length (set (set (set l 0 k) 1 x) 2 y) - 3) (drop 3 (set (set (set l 0 k) 1 x) 2 y)))
    → put_mid 3 (length (set (set (set l 0 k) 1 x) 2 y) - 3) (set (set (set l 0 k) 1 x) 2 y) m ≡ k ∷ x ∷ y
    ∷ (v ++ drop (length v + 3) l)
placed k x y v [] m h e = absurd (omega arith)
placed k x y v (a ∷ []) m h e = absurd (omega arith)
placed k x y v (a ∷ b ∷ []) m h e = absurd (omega arith)
placed k x y v (a ∷ b ∷ c ∷ l) m h e =
    let n : length (k ∷ x ∷ y ∷ l) - 3 ≡ length l = omega arith in
    let f : m ≡ v ++ drop (length v) l = e ∙ ap (λ (i : ℕ). take (length v) v ++ drop (length v) (take i l)) n ∙ rw
    (take-length v, take-length l) refl in
    let z : length l ≤ length (k ∷ x ∷ y ∷ l) - 3 = omega arith in
    let g : drop (length (k ∷ x ∷ y ∷ l) - 3) l ≡ [] = drop_of_length-le l z in
    let w : 3 + length v ≡ length v + 3 = omega arith in
    let d : drop (length v) l ≡ drop (length v + 3) (a ∷ b ∷ c ∷ l) = drop-drop (length v) 3 (a ∷ b ∷ c ∷ l) ∙ ap
    (λ (i : ℕ). drop i (a ∷ b ∷ c ∷ l)) w in
    ap (λ (t : List ℕ). k ∷ x ∷ y ∷ (m ++ t)) g ∙ ap (λ (t : List ℕ). k ∷ x ∷ y ∷ t)
    (append-nil m ∙ f ∙ ap (λ (t : List ℕ). v ++ t) d)

-- the list keeps its length
pub placed_length : (k x y : ℕ) (v l m : List ℕ) → length v + 3 ≤ length l
    → m ≡ take (length v) v ++ drop (length v)
    (take (length (set (set (set l 0 k) 1 x) 2 y) - 3) (drop 3 (set (set (set l 0 k) 1 x) 2 y)))
    → length (put_mid 3 (length (set (set (set l 0 k) 1 x) 2 y) - 3) (set (set (set l 0 k) 1 x) 2 y) m) ≡ length l
placed_length k x y v l m h e =
    ap length (placed k x y v l m h e) ∙ omega (
      arith,
      length-append v (drop (length v + 3) l),
      length-drop
          (length v + 3) l,
    )

-- the front of a buffer in a command's record
pub front_in : (n : ℕ) (b l : List ℕ) → n ≤ length b → l ≡ 5 ∷ length_then_padded_bytes 261 (take n b)
    → l ≡ 5 ∷ (length_in_two_bytes n ++ zero_padded 261 (take n b))
front_in n b l h e = e ∙ ap (λ (i : ℕ). 5 ∷ (length_in_two_bytes i ++ zero_padded 261 (take n b))) (length-take-le n b h)
