-- `DictionaryTables::attributes_of` meets its contract: the row's number taken apart. Assumes nothing.
use Rattle.std.proofs.Common.{rules}
use mathlib.Core.Path.{◌∙◌}
use Rattle.dictionary.specs.Tables.{AreDictionaryTables}
use Rattle.dictionary.proofs.Lent.{lent_row}
use Rattle.dictionary.proofs.tables.DictionaryTables.attributes_of.Goals as goal

pub returns : goal.returns
returns c =
    let t : AreDictionaryTables c.args.self.now.tags c.args.self.now.codes = search rules in
    c.unpack_row_attributes.ensures ∙ lent_row t.codes c.requires
