-- A value brought to a length. Each law goes by the form: n keeps the right end, the others the left, and a run of one
-- byte after another of the same is one run.
-- Assumes nothing.
use mathlib.Core.Path.{◌≡◌, sym, ap, ◌∙◌}
use mathlib.Core.List.{List, ◌++◌, append-nil, append_assoc}
use mathlib.Core.Logic.{inl, inr}
use Prim.Native.Nat.{ℕ, ◌+◌, ◌-◌, ◌≤◌, ◌<◌}
use native.Mathlib.Nat.{le_refl}
use native.Mathlib.Omega.{arith}
use lib.Dec.{eqb}
use lib.ListN.{length, take, drop, replicate, length-append, length-take, length-drop, length-replicate}
use lib.ListN.{replicate-append-replicate}
use lib.Seq.{take-length}
use borrow.Author.Tests.{le-leb, lt-leb, eq-eqb, ne_eqb, eqb-true, eqb-false}
use Rattle.basics.proofs.Laws.{if_yes, if_no, if_ind, bool_cases}
use Rattle.basics.proofs.Order.{le-or-gt}
use Rattle.dictionary.specs.Rows.{form_n}
use Rattle.dol.specs.Filling.{zero_bytes, truncated_to_length, padding_byte, padded_to_length, fitted_to_length}

-- ---- by form

module _ (form n : ℕ) (v : List ℕ) where
  pub cut_n : form ≡ form_n → truncated_to_length form n v ≡ drop (length v - n) v
  unfolding truncated_to_length
  cut_n e = if_yes _ _ (eq-eqb form form_n e)

  pub cut_other : (form ≡ form_n → ⊥) → truncated_to_length form n v ≡ take n v
  unfolding truncated_to_length
  cut_other e = if_no _ _ (ne_eqb form form_n e)

  pub padded_n : form ≡ form_n → padded_to_length form n v ≡ zero_bytes (n - length v) ++ v
  unfolding padded_to_length
  padded_n e = if_yes _ _ (eq-eqb form form_n e)

  pub padded_other : (form ≡ form_n → ⊥) → padded_to_length form n v ≡ v ++ replicate (n - length v) (padding_byte form)
  unfolding padded_to_length
  padded_other e = if_no _ _ (ne_eqb form form_n e)

  -- ---- lengths

  pub cut_length : n ≤ length v → length (truncated_to_length form n v) ≡ n
  unfolding truncated_to_length
  cut_length h =
      if_ind (λ (l : List ℕ). length l ≡ n) (eqb form form_n) _ _
      (λ _. simp length-drop (omega arith)) (λ _. simp length-take (omega arith))

  pub padded_length : length v ≤ n → length (padded_to_length form n v) ≡ n
  unfolding padded_to_length
  padded_length h =
      if_ind (λ (l : List ℕ). length l ≡ n) (eqb form form_n) _ _
      (λ _. simp (length-append, length-replicate) (omega arith))
      (λ _. simp (length-append, length-replicate) (omega arith))

  -- a value that is long enough is truncated, one that is short is padded
  pub fitted_cut : n ≤ length v → fitted_to_length form n v ≡ truncated_to_length form n v
  unfolding fitted_to_length
  fitted_cut h = if_yes _ _ (le-leb n (length v) h)

  pub fitted_short : length v < n → fitted_to_length form n v ≡ padded_to_length form n v
  unfolding fitted_to_length
  fitted_short h = if_no _ _ (lt-leb n (length v) h)

-- a fitted value has the length that was requested
pub fitted_length : (form n : ℕ) (v : List ℕ) → length (fitted_to_length form n v) ≡ n
fitted_length form n v = elim (le-or-gt n (length v)) [
  | inl h ↦ ap length (fitted_cut form n v h) ∙ cut_length form n v h
  | inr h ↦ ap length (fitted_short form n v h) ∙ padded_length form n v (omega arith)
]

-- ---- at its own length a value stays as it is

module _ (form : ℕ) (v : List ℕ) where
  pub cut_own : truncated_to_length form (length v) v ≡ v
  unfolding truncated_to_length
  cut_own =
      let e : length v - length v ≡ 0 = omega arith in
      if_ind (λ (l : List ℕ). l ≡ v) (eqb form form_n) _ _ (λ _. rw e) (λ _. take-length v)

  pub padded_own : padded_to_length form (length v) v ≡ v
  unfolding padded_to_length
  padded_own =
      let e : length v - length v ≡ 0 = omega arith in
      if_ind (λ (l : List ℕ). l ≡ v) (eqb form form_n) _ _ (λ _. rw e) (λ _. rw e (append-nil v))

  pub fitted_own : fitted_to_length form (length v) v ≡ v
  fitted_own = fitted_cut form (length v) v (le_refl (length v)) ∙ cut_own

-- a value that is not too long is padded: at its own length that changes nothing
pub fitted_padded : (form n : ℕ) (v : List ℕ) → length v ≤ n → fitted_to_length form n v ≡ padded_to_length form n v
fitted_padded form n v h = elim (le-or-gt n (length v)) [
  | inl k ↦ let e : n ≡ length v = omega arith in ap (λ (m : ℕ). fitted_to_length form m v) e ∙ fitted_own form v ∙ sym
      (ap (λ (m : ℕ). padded_to_length form m v) e ∙ padded_own form v)
  | inr k ↦ fitted_short form n v k
]

-- ---- padding to a longer length and then to a longer one still is padding at once, for each form

module _ (form m n : ℕ) (v : List ℕ) (h : length v ≤ m) (k : m ≤ n) where
  gap : (x : ℕ) → replicate (n - m) x ++ replicate (m - length v) x ≡ replicate (n - length v) x
  gap x =
      let e : n - m + (m - length v) ≡ n - length v = omega arith in
      replicate-append-replicate (n - m) (m - length v) x ∙ ap (λ (i : ℕ). replicate i x) e

  gap_behind : (x : ℕ) → replicate (m - length v) x ++ replicate (n - m) x ≡ replicate (n - length v) x
  gap_behind x =
      let e : m - length v + (n - m) ≡ n - length v = omega arith in
      replicate-append-replicate (m - length v) (n - m) x ∙ ap (λ (i : ℕ). replicate i x) e

  pub padded_twice : padded_to_length form n (padded_to_length form m v) ≡ padded_to_length form n v
  padded_twice =
      let l = padded_length form m v h in
      elim (bool_cases (eqb form form_n)) [
        | inl t ↦ of_n l (eqb-true form form_n t)
        | inr f ↦ of_other l (eqb-false form form_n f)
      ]
    where
      of_n : length (padded_to_length form m v) ≡ m → form ≡ form_n → padded_to_length form n (padded_to_length form m v)
          ≡ padded_to_length form n v
      of_n l e =
          padded_n form n (padded_to_length form m v) e ∙ rw l
          (ap (λ (w : List ℕ). zero_bytes (n - m) ++ w) (padded_n form m v e) ∙ sym
          (append_assoc (zero_bytes (n - m)) (zero_bytes (m - length v)) v)
          ∙ ap (λ (w : List ℕ). w ++ v) (gap 0) ∙ sym (padded_n form n v e))

      of_other : length (padded_to_length form m v) ≡ m → (form ≡ form_n → ⊥)
          → padded_to_length form n (padded_to_length form m v) ≡ padded_to_length form n v
      of_other l e =
          padded_other form n (padded_to_length form m v) e ∙ rw l
          (ap (λ (w : List ℕ). w ++ replicate (n - m) (padding_byte form)) (padded_other form m v e)
          ∙ append_assoc v (replicate (m - length v) (padding_byte form)) (replicate (n - m) (padding_byte form))
          ∙ ap (λ (w : List ℕ). v ++ w) (gap_behind (padding_byte form)) ∙ sym (padded_other form n v e))

  -- the same of fitting, which pads where the value is not too long
  pub fitted_twice : fitted_to_length form n (fitted_to_length form m v) ≡ fitted_to_length form n v
  fitted_twice =
      let l : length (padded_to_length form m v) ≤ n = omega (arith, padded_length form m v h) in
      ap (fitted_to_length form n) (fitted_padded form m v h) ∙ fitted_padded form n (padded_to_length form m v) l ∙
      padded_twice ∙ sym (fitted_padded form n v (omega arith))
