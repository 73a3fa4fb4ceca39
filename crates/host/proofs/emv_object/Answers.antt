-- `host::emv_object` meets its contract: no record, a record out of its ranges, or the object of its store, which is
-- shared in its place.
-- Assumes nothing.
use mathlib.Core.Path.{sym, ◌∙◌}
use Rattle.layout.specs.Layout.{decoded_session}
use Rattle.layout.proofs.Laws.{held_some}
use Rattle.host.proofs.Objects.{object_no_record, object_ranges, object_session}
use Rattle.host.proofs.emv_object.Goals as goal

pub returns-in_default : goal.returns-in_default
returns-in_default c =
    object_no_record _ _ (decoded_session c.args.session.now)
    (sym c.decode_record_head.ensures ∙ c.in_default.is) _ c.refusal_word.ensures

pub slice_bounds-store-end : goal.slice_bounds-store-end
slice_bounds-store-end c =
    (held_some _ _ (sym c.decode_record_head.ensures ∙ c.in-Some.is)).0

pub returns-then-not-session_parts_in_ranges : goal.returns-then-not-session_parts_in_ranges
returns-then-not-session_parts_in_ranges c =
    object_ranges _ _ _ _ (sym c.decode_record_head.ensures ∙ c.in-Some.is) (sym c.session_parts_in_ranges.ensures ∙ c.if-not-session_parts_in_ranges.true) _ c.refusal_word-then-not-session_parts_in_ranges.ensures

pub returns : goal.returns
returns c =
    object_session _ _ _ _ (sym c.decode_record_head.ensures ∙ c.in-Some.is) (sym c.session_parts_in_ranges.ensures ∙ c.if-not-session_parts_in_ranges.false) _ _ c.object_in.ensures
