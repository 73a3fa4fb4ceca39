-- `host::emv_explain` meets its contract: no record, or the explanation of its session, whose store is shared
-- in its place.
-- Assumes nothing.
use mathlib.Core.Path.{sym, ap, ◌∙◌}
use Rattle.layout.specs.Layout.{decoded_session}
use Rattle.layout.proofs.Laws.{held_none, held_some, held_session}
use Rattle.explain.specs.Word.{explanation_word}
use Rattle.host.specs.Explain.{explanation_word_or_refusal}
use Rattle.host.proofs.emv_explain.Goals as goal

pub returns-in_default : goal.returns-in_default
returns-in_default c =
    c.refusal_word.ensures
    ∙ sym
    (ap explanation_word_or_refusal (held_none (decoded_session c.args.session.now)
    (sym c.decode_record_head.ensures ∙ c.in_default.is)))

pub slice_bounds-explain_parts-end : goal.slice_bounds-explain_parts-end
slice_bounds-explain_parts-end c =
    (held_some _ _ (sym c.decode_record_head.ensures ∙ c.in-Some.is)).0

pub returns : goal.returns
returns c =
    c.explanation_word.ensures ∙ ap explanation_word c.explain_parts.ensures.answer ∙ sym
    (ap explanation_word_or_refusal (held_session _ _ (sym c.decode_record_head.ensures ∙ c.in-Some.is)))
