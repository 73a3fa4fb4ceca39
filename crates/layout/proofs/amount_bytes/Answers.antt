-- `layout::amount_bytes` meets its contract: std's eight bytes are those of the definition (`eight_bytes`).
-- Assumes nothing.
use mathlib.Core.Path.{◌∙◌}
use Rattle.layout.proofs.Number.{eight_bytes}
use Rattle.layout.proofs.amount_bytes.Goals as goal

pub returns : goal.returns
returns c = c.to_be_bytes.ensures ∙ eight_bytes c.args.amount c.ranges.amount.fits
