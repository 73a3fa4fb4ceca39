-- `session_record::all_zero` meets its contract: at each byte, all so far are zero if the greatest so far is.
-- Assumes nothing.
use Rattle.std.proofs.Common.{◌≡◌, refl, ℕ, List, [], ◌∷◌, ◌++◌, Bool, max, eqb, rules, arith}
use mathlib.Core.Path.{sym, ap, ◌∙◌}
use Rattle.std.proofs.lemmas.Fn.{fold_over, slice_gives, fronts}
use Rattle.basics.specs.Choice.{both, every}
use Rattle.store.specs.Held.{is_zero_byte}
use Rattle.session_record.proofs.all_zero.Goals as goal

-- one more entry
every_push : (ys : List ℕ) (x : ℕ) → every is_zero_byte (ys ++ (x ∷ [])) ≡ both (every is_zero_byte ys) (eqb x 0)
unfolding every both
every_push [] x = grind arith
every_push (y ∷ ys) x = grind (arith, every_push ys x)

-- the greater of two numbers is 0 where both are
max_zero : (m x : ℕ) → eqb (max m x) 0 ≡ both (eqb m 0) (eqb x 0)
unfolding both
max_zero m x = grind arith

-- so the greatest of all so far tells
zero_so_far : (ys : List ℕ) (m x b : ℕ) → eqb m 0 ≡ every is_zero_byte ys → b ≡ max m x
    → eqb b 0 ≡ every is_zero_byte (ys ++ (x ∷ []))
zero_so_far ys m x b j e =
    ap (λ (n : ℕ). eqb n 0) e ∙ max_zero m x ∙ ap (λ (t : Bool). both t (eqb x 0)) j ∙ sym (every_push ys x)

pub returns : goal.returns
unfolding every
returns c =
    fold_over fronts (λ y. y.now) _ (λ ys m. eqb m 0 ≡ every is_zero_byte ys) _
    (λ ys a x b f' j k. (zero_so_far ys a x.now b j (search rules), search rules))
    _ _ _ _ (slice_gives c.iter.result) refl c.fold.ensures.ran
    ∙ ap (every is_zero_byte) c.iter.ensures.rest
