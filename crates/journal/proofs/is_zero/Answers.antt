-- `journal::is_zero` meets its contract: the test at each byte.
-- Assumes nothing.
use mathlib.Core.Path.{◌≡◌, refl, ◌∙◌}
use mathlib.Core.List.{List, [], ◌∷◌}
use Prim.Native.Nat.{ℕ}
use native.Mathlib.Omega.{arith}
use borrow.Author.Rules.{rules}
use Rattle.std.specs.List.{list_all}
use Rattle.std.proofs.lemmas.Iterator.{YieldsList-from_slice}
use Rattle.std.proofs.lemmas.Iterator.Search.{all_from_yields_List}
use Rattle.basics.specs.Choice.{every, both}
use Rattle.store.specs.Held.{is_zero_byte}
use Rattle.journal.proofs.is_zero.Goals as goal

zero_list : (v : List ℕ) → list_all is_zero_byte v ≡ every is_zero_byte v
unfolding every both
zero_list [] = refl
zero_list (b ∷ v) = grind (arith, zero_list v)

pub returns : goal.returns
returns c =
    all_from_yields_List is_zero_byte _ _ _ c.all.ensures.ran (YieldsList-from_slice c.args.v.now cc) (λ x b q k. search rules)
    ∙ zero_list c.args.v.now
