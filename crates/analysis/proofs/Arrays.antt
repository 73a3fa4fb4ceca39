-- What `array::from_fn` and an array's `map` make, where the closure computes a function.
-- Assumes nothing.
use Rattle.std.proofs.Common.{◌≡◌, ℕ, zero, suc, ◌+◌, ◌<◌, ◌≤◌, List, get_or, map, refl, subst, ap, sym, ◌∙◌, arith, inl, inr}
use native.Mathlib.Nat.{eq-or-lt_of_le}
use denote.Param.Members.{Mut}
use Rattle.std.specs.Array.{IsFromFnResult, IsFromFnResultFrom, IsMapOf, MapsFrom}
use Rattle.std.specs.Fn.{Called}
use Rattle.std.specs.List.{range_with_len}
use Rattle.std.proofs.lemmas.List.FromFn.{fill_by_all}

module _ {F B : Type 0} {g : Mut F (ℕ × Unit {0}) B} (f : F) (h : ℕ → B) (d : B) (ys : List B)
    (computes : (k : ℕ) (y : B) (q : F) → Called g f (k, tt) y q → (q ≡ f) × (y ≡ h k)) where
  made_each : (n i : ℕ) (p : F) → p ≡ f → IsFromFnResultFrom g p ys i n → (k : ℕ) → i ≤ k → k < i + n → get_or ys k d ≡ h k
  made_each zero i p e r k u v = absurd (omega arith)
  made_each (suc n) i p e r k u v =
      let s = computes i r.1 r.0 (subst (λ (q : F). Called g q (i, tt) r.1 r.0) e r.3) in
      elim (eq-or-lt_of_le u) [
        | inl z ↦ subst (λ (j : ℕ). get_or ys j d ≡ h j) z (r.2.1 d ∙ s.1)
        | inr w ↦ made_each n (i + 1) r.0 s.0 r.4 k (omega arith) (omega arith)
      ]

  pub from_fn_is : (n : ℕ) → IsFromFnResult g f ys n → ys ≡ map h (range_with_len 0 n)
  from_fn_is n r = fill_by_all h ys n d r.long (λ k u. made_each n 0 f refl r.each k (omega arith) (omega arith))

module _ {F A B : Type 0} {g : Mut F (A × Unit {0}) B} (f : F) (h : A → B) (a : A) (d : B) (xs : List A) (ys : List B)
    (computes : (x : A) (y : B) (q : F) → Called g f (x, tt) y q → (q ≡ f) × (y ≡ h x)) where
  mapped_each : (n i : ℕ) (p : F) → p ≡ f → MapsFrom g p xs ys i n → (k : ℕ) → i ≤ k → k < i + n
      → get_or ys k d ≡ h (get_or xs k a)
  mapped_each zero i p e r k u v = absurd (omega arith)
  mapped_each (suc n) i p e r k u v =
      let s = computes r.1 r.2 r.0 (subst (λ (q : F). Called g q (r.1, tt) r.2 r.0) e r.5) in
      elim (eq-or-lt_of_le u) [
        | inl z ↦ subst (λ (j : ℕ). get_or ys j d ≡ h (get_or xs j a)) z (r.4.1 d ∙ s.1 ∙ ap h (sym (r.3.1 a)))
        | inr w ↦ mapped_each n (i + 1) r.0 s.0 r.6 k (omega arith) (omega arith)
      ]

  pub map_is : (n : ℕ) → IsMapOf g f xs ys n → ys ≡ map (λ k. h (get_or xs k a)) (range_with_len 0 n)
  map_is n r = fill_by_all _ ys n d r.long (λ k u. mapped_each n 0 f refl r.each k (omega arith) (omega arith))
