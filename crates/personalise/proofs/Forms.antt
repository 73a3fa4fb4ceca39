-- The bytes of a tag and of a length, by how many they are.
-- Assumes nothing.
use mathlib.Core.Path.{◌≡◌, refl, sym, ap, ◌∙◌}
use mathlib.Core.Logic.{inl, inr}
use Rattle.basics.proofs.Order.{le-or-gt}
use mathlib.Core.List.{List, [], ◌∷◌}
use Prim.Native.Nat.{ℕ, ◌-◌, ◌/◌, ◌%◌, ◌<◌, ◌≤◌}
use native.Mathlib.Omega.{arith}
use lib.ListN.{length, take, drop, get_or}
use borrow.Author.Tests.{lt-ltb, le-ltb, ltb-false}
use Rattle.basics.proofs.Laws.{if_yes, if_no, if_ind}
use Rattle.tlv.specs.Encoding.{tag_bytes, length_bytes}

pub length_short : (n : ℕ) → n < 0x80 → length_bytes n ≡ n ∷ []
unfolding length_bytes
length_short n h = if_yes _ _ (lt-ltb n 0x80 h)

pub length_long : (n : ℕ) → 0x80 ≤ n → n < 0x100 → length_bytes n ≡ 0x81 ∷ n ∷ []
unfolding length_bytes
length_long n l h = if_no _ _ (le-ltb n 0x80 l) ∙ if_yes _ _ (lt-ltb n 0x100 h)

pub tag_one : (t : ℕ) → t < 0x100 → tag_bytes t ≡ t ∷ []
unfolding tag_bytes
tag_one t h = if_yes _ _ (lt-ltb t 0x100 h)

pub tag_two : (t : ℕ) → 0x100 ≤ t → t < 0x10000 → tag_bytes t ≡ t / 0x100 ∷ t % 0x100 ∷ []
unfolding tag_bytes
tag_two t l h = if_no _ _ (le-ltb t 0x100 l) ∙ if_yes _ _ (lt-ltb t 0x10000 h)

pub tag_three : (t : ℕ) → 0x10000 ≤ t → tag_bytes t ≡ t / 0x10000 ∷ t / 0x100 % 0x100 ∷ t % 0x100 ∷ []
unfolding tag_bytes
tag_three t l = if_no _ _ (le-ltb t 0x100 (omega arith)) ∙ if_no _ _ (le-ltb t 0x10000 l)

-- the last bytes of a tag as four, as many as it has
pub tag_last : (t n : ℕ) (s : List ℕ) → t < 0x1000000 → n ≡ length (tag_bytes t)
    → s ≡ t / 16777216 % 256 ∷ t / 65536 % 256 ∷ t / 256 % 256 ∷ t % 256 ∷ []
    → take (4 - (4 - n)) (drop (4 - n) s) ≡ tag_bytes t
tag_last t n s h e p = elim (le-or-gt 0x100 t) [
  | inl l ↦ elim (le-or-gt 0x10000 t) [
    | inl m ↦ (let b = tag_three t m in let q : n ≡ 3 = e ∙ ap length b in
        let x : t / 65536 % 256 ≡ t / 65536 = omega arith in
        let y : t / 256 % 256 ≡ t / 0x100 % 0x100 = refl in rw (p, q, b, x))
    | inr m ↦ (let b = tag_two t l m in let q : n ≡ 2 = e ∙ ap length b in
        let x : t / 256 % 256 ≡ t / 256 = omega arith in rw (p, q, b, x))
  ]
  | inr l ↦ (let b = tag_one t l in let q : n ≡ 1 = e ∙ ap length b in
      let x : t % 256 ≡ t = omega arith in rw (p, q, b, x))
]

-- they are the tag's, one by one
module _ (t : ℕ) (s : List ℕ) (h : t < 0x1000000)
    (p : s ≡ t / 16777216 % 256 ∷ t / 65536 % 256 ∷ t / 256 % 256 ∷ t % 256 ∷ []) where
  pub last_one : 1 ≡ length (tag_bytes t) → tag_bytes t ≡ get_or s 3 0 ∷ []
  last_one e = sym (tag_last t 1 s h e p) ∙ rw p

  pub last_two : 2 ≡ length (tag_bytes t) → tag_bytes t ≡ get_or s 2 0 ∷ get_or s 3 0 ∷ []
  last_two e = sym (tag_last t 2 s h e p) ∙ rw p

  pub last_three : 3 ≡ length (tag_bytes t) → tag_bytes t ≡ get_or s 1 0 ∷ get_or s 2 0 ∷ get_or s 3 0 ∷ []
  last_three e = sym (tag_last t 3 s h e p) ∙ rw p

-- at least one byte for a tag
pub tag_least : (t : ℕ) → 1 ≤ length (tag_bytes t)
unfolding tag_bytes
tag_least t =
    let P : List ℕ → Type 0 = λ s. 1 ≤ length s in
    if_ind P _ _ _ (λ _. omega arith) (λ _. if_ind P _ _ _ (λ _. omega arith) (λ _. omega arith))

-- at most two bytes for a length below 256
pub length_most : (n : ℕ) → n < 0x100 → length (length_bytes n) ≤ 2
unfolding length_bytes
length_most n h =
    let P : List ℕ → Type 0 = λ s. length s ≤ 2 in
    if_ind P _ _ _ (λ _. omega arith)
    (λ _. if_ind P _ _ _ (λ _. omega arith) (λ e. let z = ltb-false n 0x100 e in absurd (omega arith)))
