-- `dictionary::row_tag` meets its contract: the column's entry is the row's, and past the last row it is 0.
-- Assumes nothing.
use mathlib.Core.Path.{◌∙◌}
use Rattle.dictionary.specs.Rows.{dictionary_rows}
use Rattle.dictionary.proofs.Table.{column}
use Rattle.dictionary.proofs.row_tag.Goals as goal

pub returns : goal.returns
unfolding dictionary_rows
returns c = c.entry_or_zero.ensures ∙ column (λ r. r.tag) dictionary_rows c.args.row
