-- `journal::journal_record_size` meets its contract: by the kind.
-- Assumes nothing.
use mathlib.Core.Path.{sym, ap}
use native.Mathlib.Omega.{arith}
use borrow.Author.Tests.{ne_eqb}
use Rattle.basics.specs.Choice.{if}
use Rattle.journal.specs.Record.{journal_record_size}
use Rattle.journal.proofs.journal_record_size.Goals as goal

pub returns-in-1 : goal.returns-in-1
unfolding journal_record_size if
returns-in-1 c = sym (ap journal_record_size c.in-1.is)

pub returns-in-2 : goal.returns-in-2
unfolding journal_record_size if
returns-in-2 c = sym (ap journal_record_size c.in-2.is)

pub returns-in-3 : goal.returns-in-3
unfolding journal_record_size if
returns-in-3 c = sym (ap journal_record_size c.in-3.is)

pub returns-in-4 : goal.returns-in-4
unfolding journal_record_size if
returns-in-4 c = sym (ap journal_record_size c.in-4.is)

pub returns-in-5 : goal.returns-in-5
unfolding journal_record_size if
returns-in-5 c = sym (ap journal_record_size c.in-5.is)

pub returns-in-6 : goal.returns-in-6
unfolding journal_record_size if
returns-in-6 c = sym (ap journal_record_size c.in-6.is)

pub returns-in_default : goal.returns-in_default
unfolding journal_record_size if
returns-in_default c = let k = c.args.kind in
    simp (
      ne_eqb k 1 (omega arith),
      ne_eqb k 2 (omega arith),
      ne_eqb k 3 (omega arith),
      ne_eqb k 4 (omega arith),
      ne_eqb k 5 (omega arith),
      ne_eqb k 6 (omega arith),
    )
