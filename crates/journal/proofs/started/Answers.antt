-- `journal::started` meets its contract: by whether the record fits.
-- Assumes nothing.
use mathlib.Core.Path.{sym, ◌∙◌}
use native.Mathlib.Omega.{arith}
use Rattle.journal.proofs.Reading.{fits_length, start_none, start_due}
use Rattle.journal.proofs.started.Goals as goal

pub returns-then-not-fits : goal.returns-then-not-fits
returns-then-not-fits c = start_none c.args.standing.session c.args.whole.now _ c.args.standing (sym c.fits.ensures ∙ c.if-not-fits.true)
    c.wrong.ensures

pub slice_bounds-start-end : goal.slice_bounds-start-end
slice_bounds-start-end c = let f = sym c.fits.ensures ∙ c.if-not-fits.false in
    let e = c.length_in-end.ensures.0 in omega (arith, fits_length _ _ f)

pub returns : goal.returns
returns c = let f = sym c.fits.ensures ∙ c.if-not-fits.false in
    start_due c.args.standing.session c.args.whole.now _ c.args.standing c.length_in-end.result _ _ f
    c.length_in-end.ensures.0 c.start-reply.ensures
    c.due_of.ensures
