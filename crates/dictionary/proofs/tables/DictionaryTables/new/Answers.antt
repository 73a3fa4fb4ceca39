-- `DictionaryTables::new` meets its contract: the arrays are the rows' tags and numbers. Assumes nothing.
use mathlib.Core.Path.{refl}
use Rattle.dictionary.specs.Rows.{dictionary_rows}
use Rattle.dictionary.proofs.tables.DictionaryTables.new.Goals as goal

pub invariant_of-result : goal.invariant_of-result
unfolding dictionary_rows
invariant_of-result c = record { rows = record { tags = refl; codes = refl } }
