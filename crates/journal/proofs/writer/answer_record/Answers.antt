-- `journal::writer::answer_record` meets its contract: the card's bytes are at the front of zeros, or the length says
-- that they are too many.
-- Assumes nothing.
use borrow.Author.Tests.{le-leb, lt-leb}
use native.Mathlib.Omega.{arith}
use mathlib.Core.Path.{sym, ap, ◌∙◌}
use mathlib.Core.List.{List, [], ◌∷◌, ◌++◌}
use Prim.Native.Nat.{ℕ}
use lib.ListN.{length}
use Rattle.basics.proofs.Laws.{if_yes, if_no}
use Rattle.journal.specs.Record.{length_in_two_bytes, zero_padded, length_then_padded_bytes}
use Rattle.journal.proofs.WriterLaws.{in_zeros}
use Rattle.journal.proofs.writer.answer_record.Goals as goal

pub returns-then-card-gt-MOST_ANSWER : goal.returns-then-card-gt-MOST_ANSWER
returns-then-card-gt-MOST_ANSWER c = ap (λ (b : List ℕ). 2 ∷ b) (sym (if_no _ _ (lt-leb _ _ c.if-card-gt-MOST_ANSWER.true)))

pub returns : goal.returns
returns c =
    let v = c.args.card.now in
    in_zeros 2 258 v _ c.fill.ensures
    ∙ ap (λ (b : List ℕ). 2 ∷ b)
    (sym (if_yes (length_then_padded_bytes 258 v) (length_in_two_bytes 0xFFFF ++ zero_padded 258 [])
    (le-leb (length v) 258 (omega (arith, c.if-card-gt-MOST_ANSWER.false)))))
