-- `contents::is_bad` meets its contract: a placement that strays, else the size.
-- Assumes nothing.
use mathlib.Core.Path.{sym, ◌∙◌}
use Rattle.personalise.specs.Placements.{placements_in}
use Rattle.personalise.specs.Objects.{parsed_objects_or_empty}
use Rattle.personalise.proofs.Least.{bad_stray, bad_size}
use Rattle.personalise.proofs.contents.is_bad.Goals as goal

pub returns-then-is_misplaced : goal.returns-then-is_misplaced
returns-then-is_misplaced c =
    let a = c.args in
    c.if-is_misplaced.true ∙ sym (bad_stray (parsed_objects_or_empty a.objects.bytes.now) (placements_in a.placements.now) a.records a.k
    a.count c.requires.count_value (sym c.is_misplaced.ensures ∙ c.if-is_misplaced.true))

pub returns-else-is_misplaced : goal.returns-else-is_misplaced
returns-else-is_misplaced c =
    let a = c.args in
    sym (bad_size (parsed_objects_or_empty a.objects.bytes.now) (placements_in a.placements.now) a.records a.k
    a.count c.requires.count_value (sym c.is_misplaced.ensures ∙ c.if-is_misplaced.false) c.size.result
    c.size.ensures)
