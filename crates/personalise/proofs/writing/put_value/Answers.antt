-- `writing::put_value` meets its contract: the part that was borrowed comes back with the bytes copied into it.
-- Assumes nothing.
use borrow.Author.Rules.{rules}
use mathlib.Core.Path.{refl}
use Rattle.personalise.proofs.Over.{over_part}
use Rattle.personalise.proofs.writing.put_value.Goals as goal

pub returns : goal.returns
returns c =
    let a = c.args in
    record {
      next = refl;
      wrote = over_part a.out.now a.at a.v.now _ (search rules)
          c.copy_from_slice.ensures.after;
    }
