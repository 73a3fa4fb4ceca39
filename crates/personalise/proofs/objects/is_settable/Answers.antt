-- `objects::is_settable` meets its contract: by the tag's row, if it has one.
-- Assumes nothing.
use mathlib.Core.Path.{sym, ◌∙◌}
use Rattle.tlv.specs.Primitives.{tlv_object}
use Rattle.dictionary.specs.Rows.{row_at, in_record_response}
use Rattle.reading.proofs.Laws.{row_comes}
use Rattle.personalise.specs.Objects.{tag_record_template}
use Rattle.personalise.proofs.Listed.{settable_unknown, settable_at}
use Rattle.personalise.proofs.objects.is_settable.Goals as goal

pub returns-in_default : goal.returns-in_default
returns-in_default c =
    let a = c.args in
    sym (settable_unknown (tlv_object a.tag a.v.now) c.lookup_row.result.found c.lookup_row.ensures.found
    c.in_default.is)

pub returns : goal.returns
returns c =
    let a = c.args in
    row_comes in_record_response (row_at c.in-Some.row) tag_record_template a.v.now c.may_come.ensures
    c.attributes_of-attributes.ensures
    ∙ sym (settable_at (tlv_object a.tag a.v.now) c.lookup_row.result.found c.lookup_row.ensures.found
    c.in-Some.row c.in-Some.is)
