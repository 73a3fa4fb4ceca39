-- `session::ask_next_record` meets its contract: the record after this one decides, found by the row's value and the
-- next number.
-- Assumes nothing.
use native.Mathlib.Omega.{arith}
use Rattle.dictionary.proofs.Named.{at_94}
use Rattle.session_record.proofs.Tags.{bytes_are}
use Rattle.session.specs.Answer.{next_after_record_read}
use Rattle.session.proofs.Laws.{found_there}
use Rattle.session.proofs.ask_next_record.Goals as goal

pub returns-in_default : goal.returns-in_default
unfolding next_after_record_read
returns-in_default c = grind (arith, bytes_are c.args.store.now _ _ at_94)

pub overflow_add-number : goal.overflow_add-number
overflow_add-number c = omega (arith, (found_there _ _ c.kth_record_of_accepted_afl.ensures c.in-Some.is).1)

pub ask_record-requires : goal.ask_record-requires
ask_record-requires c = (found_there _ _ c.kth_record_of_accepted_afl.ensures c.in-Some.is).0

pub returns : goal.returns
unfolding next_after_record_read
returns c = grind (arith, bytes_are c.args.store.now _ _ at_94)
