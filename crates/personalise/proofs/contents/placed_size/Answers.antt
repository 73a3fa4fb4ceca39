-- `contents::placed_size` meets its contract: by whether the object is present.
-- Assumes nothing.
use mathlib.Core.Path.{sym, ap, ◌∙◌}
use Rattle.basics.proofs.Laws.{if_yes, if_no}
use Rattle.personalise.specs.Inner.{size_capped_at254}
use Rattle.personalise.proofs.contents.placed_size.Goals as goal

pub returns-then-not-is_placed : goal.returns-then-not-is_placed
returns-then-not-is_placed c = sym (ap size_capped_at254 (if_no _ _ (sym c.is_placed.ensures ∙ c.if-not-is_placed.true)))

pub returns : goal.returns
returns c = c.object_size.ensures ∙ sym (ap size_capped_at254 (if_yes _ _ (sym c.is_placed.ensures ∙ c.if-not-is_placed.false)))
