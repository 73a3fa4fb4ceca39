-- The front part of a text whose characters pass a test, and the text after it.
-- Assumes nothing.
use mathlib.Core.Path.{◌≡◌, refl, ap, ◌∙◌}
use mathlib.Core.Bool.{Bool, true, false, not}
use mathlib.Core.Logic.{inl, inr}
use borrow.Author.Tests.{not-true, not-false}
use mathlib.Core.List.{List, [], ◌∷◌}
use Prim.Native.Nat.{ℕ, ◌+◌, ◌-◌, ◌≤◌, ◌<◌}
use native.Mathlib.Nat.{le_refl}
use native.Mathlib.Omega.{arith}
use lib.ListN.{length, get_or, take, drop, length-drop}
use lib.Seq.{take_all}
use Rattle.basics.specs.Choice.{if}
use Rattle.basics.proofs.Laws.{if_yes, if_no, if_ind, bool_cases}
use Rattle.text_line.specs.Text.{longest_prefix, after_longest_prefix}

-- the end of a text as a part of its slice
pub tail-is : (s : List ℕ) (n : ℕ) → take (length s - n) (drop n s) ≡ drop n s
tail-is s n = take_all (length s - n) (drop n s) (simp length-drop (le_refl _))

module _ (f : ℕ → Bool) where
  -- the front part and the text after it, by the part's length
  front_take : (s : List ℕ) → take (length (longest_prefix f s)) s ≡ longest_prefix f s
  unfolding longest_prefix if
  front_take [] = refl
  front_take (c ∷ s) = go (f c) (front_take s)
    where
      go : (x : Bool) → take (length (longest_prefix f s)) s ≡ longest_prefix f s
          → take (length (if x (c ∷ longest_prefix f s) [])) (c ∷ s) ≡ if x (c ∷ longest_prefix f s) []
      go true ih = ap (λ (t : List ℕ). c ∷ t) ih
      go false ih = refl

  past-drop : (s : List ℕ) → drop (length (longest_prefix f s)) s ≡ after_longest_prefix f s
  unfolding longest_prefix after_longest_prefix if
  past-drop [] = refl
  past-drop (c ∷ s) = go (f c) (past-drop s)
    where
      go : (x : Bool) → drop (length (longest_prefix f s)) s ≡ after_longest_prefix f s
          → drop (length (if x (c ∷ longest_prefix f s) [])) (c ∷ s) ≡ if x (after_longest_prefix f s) (c ∷ s)
      go true ih = ih
      go false ih = refl

  pub front_is : (s : List ℕ) (n : ℕ) → n ≡ length (longest_prefix f s) → take n s ≡ longest_prefix f s
  front_is s n e = rw e (front_take s)

  pub past_is : (s : List ℕ) (n : ℕ) → n ≡ length (longest_prefix f s) → take (length s - n) (drop n s)
      ≡ after_longest_prefix f s
  past_is s n e = tail-is s n ∙ rw e (past-drop s)

  pub past_length : (s : List ℕ) → length (after_longest_prefix f s) ≤ length s
  past_length s = rw (← past-drop s, length-drop) (omega arith)

  -- the text after it begins with a character that does not pass
  pub past_first : (s : List ℕ) → 0 < length (after_longest_prefix f s) → f (get_or (after_longest_prefix f s) 0 0) ≡ false
  unfolding after_longest_prefix
  past_first [] h = absurd (omega arith)
  past_first (c ∷ s) h =
      if_ind (λ (t : List ℕ). 0 < length t → f (get_or t 0 0) ≡ false) (f c) (after_longest_prefix f s) (c ∷ s)
      (λ e k. past_first s k) (λ e k. e) h

-- ---- the part's length, by the first character that does not pass

module _ (f : ℕ → Bool) where
  pub prefix_ends : (c : ℕ) (s : List ℕ) → not (f c) ≡ true → length (longest_prefix f (c ∷ s)) ≡ 0
  unfolding longest_prefix
  prefix_ends c s e = ap length (if_no _ _ (not-true _ e))

  pub prefix_grows : (c : ℕ) (s : List ℕ) → not (f c) ≡ false → length (longest_prefix f (c ∷ s)) ≡ length (longest_prefix f s) + 1
  unfolding longest_prefix
  prefix_grows c s e = ap length (if_yes _ _ (not-false _ e)) ∙ omega arith

  pub prefix_none : length (longest_prefix f []) ≡ 0
  unfolding longest_prefix
  prefix_none = refl

  pub prefix_most : (s : List ℕ) → length (longest_prefix f s) ≤ length s
  prefix_most [] = omega (arith, prefix_none)
  prefix_most (c ∷ s) = elim (bool_cases (f c)) [
    | inl y ↦ omega (arith, prefix_grows c s (ap not y), prefix_most s)
    | inr n ↦ omega (arith, prefix_ends c s (ap not n))
  ]
