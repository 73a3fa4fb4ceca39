-- `journal::begin` meets its contract: the first state.
-- Assumes nothing.
use mathlib.Core.Path.{ap, ◌∙◌}
use mathlib.Core.List.{[]}
use lib.ListN.{replicate}
use Rattle.session_record.specs.declared.Session.{Session}
use Rattle.journal.specs.declared.JournalCheckState.{JournalCheckState}
use Rattle.journal.specs.declared.JournalChecker.{JournalChecker}
use Rattle.journal.specs.Verdict.{expected_next_of_session_and_due_reply}
use Rattle.journal.specs.Inner.{check_state_of, new_checker, checker_after_bytes}
use Rattle.journal.proofs.begin.Goals as goal

-- the checker that holds nothing, by its standing
abbrev holding_none : JournalCheckState → JournalChecker
holding_none s = record { standing = s; held = replicate 1027 0; length = 0; records = 0 }

pub returns : goal.returns
unfolding new_checker checker_after_bytes
returns c = let e = ap holding_none (c.waiting.ensures ∙ ap (λ (f : Session). check_state_of (expected_next_of_session_and_due_reply f []))
    c.fresh_session.ensures) in record { checker = e; follows = e }
