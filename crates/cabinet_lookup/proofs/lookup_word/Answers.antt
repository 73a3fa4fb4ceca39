-- `cabinet_lookup::lookup_word` meets its contract: too many bytes, or the word by what `first` finds in each list. A
-- place lies inside its list (`found_inside`), so the word fits.
-- Assumes nothing.
use mathlib.Core.Path.{sym, ◌∙◌}
use native.Mathlib.Omega.{arith}
use Rattle.cabinet_lookup.proofs.Laws.{found_inside, word_long, word_site, word_default, word_neither}
use Rattle.cabinet_lookup.proofs.lookup_word.Goals as goal

pub returns-then-saturating_add-gt-MOST : goal.returns-then-saturating_add-gt-MOST
returns-then-saturating_add-gt-MOST c = sym (word_long _ _ _ (omega arith))

pub word-requires-clause-short : goal.word-requires-clause-short
word-requires-clause-short c = let i = found_inside _ _ c.in-Some.p (sym c.first.ensures ∙ c.in-Some.is) in omega arith

pub returns-in-Some : goal.returns-in-Some
returns-in-Some c =
    c.word.ensures ∙ word_site _ _ _ (omega arith) c.in-Some.p (sym c.first.ensures ∙ c.in-Some.is)

pub overflow_add-start : goal.overflow_add-start
overflow_add-start c =
    let i = found_inside _ _ c.in-Some-first.p (sym c.first-2.ensures ∙ c.in-Some-first.is) in omega arith

pub word-requires-in-Some-first-clause-short : goal.word-requires-in-Some-first-clause-short
word-requires-in-Some-first-clause-short c =
    let i = found_inside _ _ c.in-Some-first.p (sym c.first-2.ensures ∙ c.in-Some-first.is) in omega arith

pub returns-in-Some-first : goal.returns-in-Some-first
returns-in-Some-first c =
    c.word-in-Some-first.ensures ∙ word_default _ _ _ (omega arith) (sym c.first.ensures ∙ c.in_default.is)
    c.in-Some-first.p (sym c.first-2.ensures ∙ c.in-Some-first.is)

pub returns : goal.returns
returns c =
    c.word-2.ensures ∙ word_neither _ _ _ (omega arith) (sym c.first.ensures ∙ c.in_default.is)
    (sym c.first-2.ensures ∙ c.in_default-first.is)
