-- `text_line::is_blank` meets its contract. By the three characters.
-- Assumes nothing.
use mathlib.Core.Path.{sym, ◌∙◌}
use mathlib.Core.Logic.{inl, inr}
use borrow.Author.Tests.{eq-eqb, ne_eqb}
use Rattle.basics.proofs.Laws.{either_left, either_false}
use Rattle.text_line.specs.Text.{is_blank}
use Rattle.text_line.proofs.is_blank.Goals as goal
use Rattle.text_line.proofs.is_blank.Goals.{then-c-eq32, else-c-eq32}

pub returns-then-c-eq9 : goal.returns-then-c-eq9
unfolding is_blank
returns-then-c-eq9 c = elim c.if-c-eq32.branch [
  | then-c-eq32 w ↦ (let q = eq-eqb _ _ w.if-c-eq32.true in w.t-3-is ∙ q ∙ sym (either_left _ _ q))
  | else-c-eq32 w ↦ elim c.if-c-eq9.either [
    | inl e ↦ absurd (w.if-c-eq32.false e)
    | inr p ↦ (let q = eq-eqb _ _ p.1 in
        w.t-3-is ∙ q ∙ sym (either_false _ (ne_eqb _ _ p.0) ∙ either_left _ _ q))
  ]
]

pub returns-else-c-eq9 : goal.returns-else-c-eq9
unfolding is_blank
returns-else-c-eq9 c = sym (either_false _ (ne_eqb _ _ c.if-c-eq9.false.0) ∙ either_false _ (ne_eqb _ _ c.if-c-eq9.false.1))
