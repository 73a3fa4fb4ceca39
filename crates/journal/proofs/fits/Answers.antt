-- `journal::fits` meets its contract: the length, then the bytes after.
-- Assumes nothing.
use mathlib.Core.Path.{sym, ◌∙◌}
use native.Mathlib.Omega.{arith}
use borrow.Author.Tests.{lt-leb}
use Rattle.journal.proofs.Reading.{fits_over, fits_tail}
use Rattle.journal.proofs.fits.Goals as goal

pub returns-then-n-most : goal.returns-then-n-most
returns-then-n-most c = c.is_zero.ensures ∙ fits_tail _ _ _ c.length_in-n.ensures.0 c.if-n-most.true

pub returns-else-n-most : goal.returns-else-n-most
returns-else-n-most c = let e = c.length_in-n.ensures.0 in
    lt-leb _ _ c.if-n-most.false ∙ sym (fits_over _ _ (omega (arith, c.if-n-most.false)))
