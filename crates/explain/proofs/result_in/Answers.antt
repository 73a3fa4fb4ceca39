-- `explain::result_in` meets its contract: the row is the tag's. Assumes nothing.
use mathlib.Core.Path.{ap, ◌∙◌}
use Rattle.dictionary.proofs.Named.{at_95}
use Rattle.analysis.specs.Value.{first_bytes_zero_padded}
use Rattle.analysis.proofs.ByRow.{bytes_by_row}
use Rattle.explain.proofs.result_in.Goals as goal

pub returns : goal.returns
returns c = c.first_five_bytes.ensures ∙ ap (first_bytes_zero_padded 5)
    (bytes_by_row _ 0x95 at_95 c.value.ensures)
