-- `session_record::all_required_at_start_present` meets its contract: the rows that a start must bring decide.
-- Assumes nothing.
use Rattle.std.proofs.Common.{rules}
use mathlib.Core.Path.{sym, ◌∙◌}
use Rattle.std.proofs.lemmas.Iterator.{YieldsList-from_slice}
use Rattle.std.proofs.lemmas.Iterator.Search.{all_from_yields_List}
use Rattle.dictionary.specs.Named.{row_numbers_required_at_start}
use Rattle.session_record.proofs.Every.{every_is_list_all}
use Rattle.session_record.proofs.Required.{there_at, brought_rows}
use Rattle.session_record.proofs.all_required_at_start_present.Goals as goal

pub returns : goal.returns
unfolding row_numbers_required_at_start
returns c =
    all_from_yields_List (there_at c.args.bytes.now) _ _ _ c.all.ensures.ran
    (YieldsList-from_slice row_numbers_required_at_start cc) (λ x b q k. search rules)
    ∙ sym (brought_rows _ ∙ every_is_list_all (there_at c.args.bytes.now) row_numbers_required_at_start)
