-- `test_reading_flat::emv_test_read_flat` meets its contract: nothing is requested, or the answer is read,
-- each by its law.
-- Assumes nothing.
use mathlib.Core.Path.{sym, ◌∙◌}
use Rattle.test_reading.proofs.Laws.{asked_sized, unread, read}
use Rattle.test_reading_flat.proofs.emv_test_read_flat.Goals as goal

pub returns-in_default : goal.returns-in_default
returns-in_default c = unread _ _ _ _ (sym c.awaited_by_number.ensures ∙ c.in_default.is)

pub returns-in_default-as_mut_array : goal.returns-in_default-as_mut_array
returns-in_default-as_mut_array c =
    absurd
    (c.in_default-as_mut_array.ensures.cases (asked_sized _ _ _ _ (sym c.awaited_by_number.ensures ∙ c.in-Some.is)))

pub returns : goal.returns
returns c =
    read _ _ _ _ _ _ _ _ (sym c.awaited_by_number.ensures ∙ c.in-Some.is)
    (rw c.in-Some-as_mut_array.ensures.cases.same at c.read_answer.ensures.given)
    c.read_answer.ensures.half
    c.reading_word.ensures
