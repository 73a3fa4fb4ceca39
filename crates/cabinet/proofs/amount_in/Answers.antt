-- `cabinet::amount_in` meets its contract: the row is the tag's (`bytes_by_row`).
-- Assumes nothing.
use mathlib.Core.Path.{ap, ◌∙◌}
use Rattle.dictionary.proofs.Named.{at_9f02}
use Rattle.analysis.specs.Digits.{amount_of}
use Rattle.analysis.proofs.ByRow.{bytes_by_row}
use Rattle.cabinet.proofs.amount_in.Goals as goal

pub returns : goal.returns
returns c = c.amount_of.ensures ∙ ap amount_of (bytes_by_row _ 0x9F02 at_9f02 c.value.ensures)
