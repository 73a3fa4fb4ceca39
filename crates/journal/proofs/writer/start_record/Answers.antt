-- `journal::writer::start_record` meets its contract: the bytes are at the front of zeros.
-- Assumes nothing.
use borrow.Author.Tests.{le-leb, lt-leb}
use mathlib.Core.Path.{sym, ◌∙◌}
use lib.ListN.{length, replicate}
use Rattle.basics.proofs.Laws.{if_yes, if_no}
use Rattle.journal.specs.Writer.{start_record_or_zeros}
use Rattle.journal.proofs.WriterLaws.{in_zeros}
use Rattle.journal.proofs.writer.start_record.Goals as goal

pub returns-then-bytes-le-MOST_START : goal.returns-then-bytes-le-MOST_START
unfolding start_record_or_zeros
returns-then-bytes-le-MOST_START c =
    let v = c.args.bytes.now in
    in_zeros 1 1024 v _ c.fill.ensures ∙ sym (if_yes _ (replicate 1027 0) (le-leb (length v) 1024 c.if-bytes-le-MOST_START.true))

pub returns-else-bytes-le-MOST_START : goal.returns-else-bytes-le-MOST_START
unfolding start_record_or_zeros
returns-else-bytes-le-MOST_START c = sym (if_no _ _ (lt-leb _ _ c.if-bytes-le-MOST_START.false))
