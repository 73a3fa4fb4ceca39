-- `find::first`: by what was found before, and by the test.
-- Assumes nothing.
use mathlib.Core.Logic.{inl, inr}
use Rattle.basics.specs.Choice.{if}
use Rattle.find.specs.Find.{first_found_unless_malformed}
use Rattle.find.proofs.Laws.{first_kept}
use Rattle.find.proofs.first.Goals as goal

pub returns-in-At : goal.returns-in-At
returns-in-At c = first_kept _ _ _ _ (λ e. elim c.in-At.is [ inl x ↦ (let p = x.1 in cc) | inr x ↦ cc ])

pub returns-in-Absent : goal.returns-in-Absent
unfolding first_found_unless_malformed if
returns-in-Absent c = rw (c.in-Absent.is, c.if-same.true)

pub returns-in-Absent-2 : goal.returns-in-Absent-2
returns-in-Absent-2 c = first_kept _ _ _ _ (λ e. c.if-same.false)
