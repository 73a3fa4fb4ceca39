-- `journal::answered` meets its contract: by whether the record stands for a long answer, and then whether it fits.
-- Assumes nothing.
use mathlib.Core.Path.{sym, ◌∙◌}
use native.Mathlib.Omega.{arith}
use Rattle.journal.proofs.Reading.{fits_length, long_due, answer_none, answer_due}
use Rattle.journal.proofs.answered.Goals as goal

pub returns-then-is_long : goal.returns-then-is_long
returns-then-is_long c = long_due c.args.standing.session c.args.whole.now _ c.args.standing _ _ (sym c.is_long.ensures ∙
    c.if-is_long.true) c.answer-reply.ensures c.due_of.ensures

pub returns-then-not-fits : goal.returns-then-not-fits
returns-then-not-fits c = answer_none c.args.standing.session c.args.whole.now _ c.args.standing (sym c.is_long.ensures ∙
    c.if-is_long.false) (sym c.fits.ensures ∙ c.if-not-fits.true)
    c.wrong.ensures

pub slice_bounds-answer-end-2 : goal.slice_bounds-answer-end-2
slice_bounds-answer-end-2 c = let f = sym c.fits.ensures ∙ c.if-not-fits.false in
    let e = c.length_in-end.ensures.0 in omega (arith, fits_length _ _ f)

pub returns : goal.returns
returns c = let f = sym c.fits.ensures ∙ c.if-not-fits.false in
    answer_due c.args.standing.session c.args.whole.now _ c.args.standing c.length_in-end.result _ _
    (sym c.is_long.ensures ∙
    c.if-is_long.false) f
    c.length_in-end.ensures.0 c.answer-reply-2.ensures
    c.due_of-2.ensures
