-- The numbers of outcomes (document 02, Item 1), and which reason goes with which outcome (document 01, "Calls and
-- their numbers").
-- Assumes nothing.
use Rattle.std.specs.Prelude.{Bool, not}
use Rattle.basics.specs.Choice.{when◌then◌else◌, ◌and◌, ◌=?◌}
use Rattle.basics.specs.Number.{between}
use Rattle.basics.specs.Types.{Byte, Reason}
use Rattle.basics.specs.Reason.{reason_none, reason_status_not9000, reason_above_limit, reason_no_supported_mode}
use Rattle.session_record.specs.declared.Outcome.{Outcome}

-- ---- outcomes

-- the number of an outcome
abbrev pub outcome_number : Outcome → Byte
outcome_number Outcome.Approved = 0
outcome_number Outcome.OnlineRequest = 1
outcome_number Outcome.Declined = 2
outcome_number Outcome.Ended = 3
outcome_number Outcome.SelectNext = 4

-- ---- which go together

-- an outcome and a reason: none with a decision, the limit with select next, every other one with ended
unfoldable pub reason_matches_outcome : Outcome → Reason → Bool
reason_matches_outcome Outcome.Approved n = n =? reason_none
reason_matches_outcome Outcome.OnlineRequest n = n =? reason_none
reason_matches_outcome Outcome.Declined n = n =? reason_none
reason_matches_outcome Outcome.Ended n =
    between reason_status_not9000 n reason_no_supported_mode and not (n =? reason_above_limit)
reason_matches_outcome Outcome.SelectNext n = n =? reason_above_limit

-- the outcome of a reason other than none
unfoldable pub outcome_of_nonzero_reason : Reason → Outcome
outcome_of_nonzero_reason n =
    when n =? reason_above_limit then Outcome.SelectNext
    else Outcome.Ended
