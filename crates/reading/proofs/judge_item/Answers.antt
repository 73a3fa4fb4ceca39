-- `reading::judge_item` meets its contract: the number is taken apart, and there is a law for each way out
-- (proofs/Pending).
-- Assumes nothing.
use mathlib.Core.Path.{sym, ◌∙◌}
use Rattle.dictionary.proofs.Lent.{row-found}
use Rattle.reading.proofs.Items.{code_value}
use Rattle.reading.proofs.Pending.{said_skipped, Said, said}
use Rattle.reading.proofs.judge_item.Goals as goal

pub attributes_of-attributes-requires : goal.attributes_of-attributes-requires
attributes_of-attributes-requires c = row-found _ (sym c.find_row.ensures.found ∙ c.in-Some.is)

pub returns-then-is_skipped : goal.returns-then-is_skipped
returns-then-is_skipped c =
    said_skipped _ _ _ c.tag_in-tag.ensures c.find_row.ensures.found _ c.in-Some.is c.attributes_of-attributes.ensures
    c.is_skipped.ensures
    c.if-is_skipped.true

pub returns-then-not-may_come : goal.returns-then-not-may_come
returns-then-not-may_come c =
    (said _ _ _ c.tag_in-tag.ensures c.find_row.ensures.found _ c.in-Some.is c.attributes_of-attributes.ensures
    c.is_skipped.ensures
    c.if-is_skipped.false c.around_in.ensures
    (code_value _ _ _ _ c.start_in-start.ensures.0 c.len_in.ensures.0) c.may_come.ensures).barred c.if-not-may_come.true

pub returns : goal.returns
returns c =
    (said _ _ _ c.tag_in-tag.ensures c.find_row.ensures.found _ c.in-Some.is c.attributes_of-attributes.ensures
    c.is_skipped.ensures
    c.if-is_skipped.false c.around_in.ensures
    (code_value _ _ _ _ c.start_in-start.ensures.0 c.len_in.ensures.0) c.may_come.ensures).row c.if-not-may_come.false
