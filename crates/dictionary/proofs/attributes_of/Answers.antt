-- `dictionary::attributes_of` meets its contract: the row's number taken apart, and past the last row the number 0.
-- Assumes nothing.
use mathlib.Core.Path.{ap, ◌∙◌}
use mathlib.Core.Logic.{inl, inr}
use Rattle.basics.proofs.Order.{le-or-gt}
use Rattle.dictionary.specs.Rows.{dictionary_rows, row_count}
use Rattle.dictionary.specs.Packing.{packed_row_attributes, unpacked_row_attributes}
use Rattle.dictionary.proofs.Table.{column}
use Rattle.dictionary.proofs.Packing.{code_unpacks, code_unpacks_beyond}
use Rattle.dictionary.proofs.attributes_of.Goals as goal

pub returns : goal.returns
unfolding dictionary_rows
returns c =
    let k = c.args.row in
    c.unpack_row_attributes.ensures ∙ ap unpacked_row_attributes (c.entry_or_zero.ensures ∙ column packed_row_attributes dictionary_rows k)
    ∙ elim (le-or-gt row_count k) [ inl h ↦ code_unpacks_beyond k h | inr h ↦ code_unpacks k h ]
