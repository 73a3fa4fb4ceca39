-- `start_data::is_type_listed` meets its contract: by the tag.
-- Assumes nothing.
use borrow.Author.Tests.{eq-eqb, ne_eqb}
use mathlib.Core.Bool.{not}
use mathlib.Core.Path.{sym, ap, ◌∙◌}
use Rattle.basics.proofs.Laws.{if_yes, if_no}
use Rattle.dictionary.specs.TerminalType.{listed_terminal_type}
use Rattle.start_data.specs.StartData.{is_listed_if_terminal_type}
use Rattle.start_data.proofs.is_type_listed.Goals as goal

pub returns-then-tag-ne40757 : goal.returns-then-tag-ne40757
unfolding is_listed_if_terminal_type
returns-then-tag-ne40757 c = let e = ne_eqb _ _ c.if-tag-ne40757.true in ap not e ∙ sym (if_no _ _ e)

pub returns-else-tag-ne40757 : goal.returns-else-tag-ne40757
unfolding is_listed_if_terminal_type
returns-else-tag-ne40757 c =
    c.is_listed_terminal_type.ensures ∙ ap listed_terminal_type c.byte_at.ensures ∙ sym
    (if_yes _ _ (eq-eqb _ _ c.if-tag-ne40757.false))
