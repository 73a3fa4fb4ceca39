-- Demand 3 (document 01, "What demand 3 counts"): one claim about the whole list of calls, one field for each clause.
-- Assumes nothing.
use Rattle.std.specs.Prelude.{◌≡◌, true, List, map, ◌+◌, ◌≤◌, length, take, Option, Some, None}
use Rattle.basics.specs.Types.{AflBytes, Count}
use Rattle.basics.specs.Choice.{one_if}
use Rattle.afl.specs.Records.{afl_record_count}
use Rattle.session_record.specs.declared.Session.{Session}
use Rattle.session_record.specs.declared.CallResult.{CallResult}
use Rattle.session_record.specs.Session.{SessionStage, fresh, running, ended, session_stage_of, is_running, is_ended}
use Rattle.session_claim.specs.Calls.{commands_sent, calls_accepted, last_element, unanswered_commands}
use Rattle.session.specs.Calls.{CallMade, call_result}
use Rattle.session_claim.specs.Order.{command_kind, first_answer, final_command_kind_by_gpo_answer}
use Rattle.session_claim.specs.Order.{afl_accepted_from_gpo_answer, published_order}

-- ---- the stage of a session

-- by what a call returned that was not refused: it runs after a command, and has ended after an outcome
abbrev pub stage_after_accepted_result : CallResult → SessionStage
stage_after_accepted_result (CallResult.Command x) = running
stage_after_accepted_result (CallResult.Outcome e) = ended
stage_after_accepted_result (CallResult.Refused r) = fresh

-- by the last call not refused; it is fresh where there is none
abbrev pub stage_after_last_accepted_call : Option CallMade → SessionStage
stage_after_last_accepted_call None = fresh
stage_after_last_accepted_call (Some m) = stage_after_accepted_result (call_result m)

-- ---- the claim

-- the most commands: 1 while no AFL is accepted, 2 + R from then on
abbrev pub most_commands_for_accepted_afl : Option AflBytes → Count
most_commands_for_accepted_afl None = 1
most_commands_for_accepted_afl (Some l) = 2 + afl_record_count l

-- ms are the calls of a list made one after the other from a fresh session in its ranges (`play_calls`), and s is the
-- session after them, that fresh one where there are none (`final_session`); `every_session_follows_published_order`
-- promises it so
pub record CallsAndSessionAfterInPublishedOrder (calls_made : List CallMade) (session_after : Session) : Type 0 where
  -- the N commands handed out are the first N of the published order
  pub order : let first = first_answer (calls_accepted calls_made) in
      map command_kind (commands_sent calls_made)
      ≡ take (length (commands_sent calls_made))
      (published_order (final_command_kind_by_gpo_answer first) (afl_accepted_from_gpo_answer first))
  -- N is the count that the session reports
  pub count : session_after.count ≡ length (commands_sent calls_made)
  -- N is at most 1 while no AFL is accepted, and at most 2 + R from then on
  pub bound : length (commands_sent calls_made) ≤ most_commands_for_accepted_afl
      (afl_accepted_from_gpo_answer (first_answer (calls_accepted calls_made)))
  -- N is never over 130
  pub never_over : length (commands_sent calls_made) ≤ 130
  -- the session is fresh, runs or has ended by the last call not refused
  pub stage : session_stage_of session_after.phase ≡ stage_after_last_accepted_call (last_element (calls_accepted calls_made))
  -- while the session runs exactly one command is unanswered, the last one handed out
  pub one_unanswered : is_running session_after.phase ≡ true → length (unanswered_commands calls_made) ≡ 1
  pub last_unanswered :
      is_running session_after.phase ≡ true → last_element (unanswered_commands calls_made)
      ≡ last_element (commands_sent calls_made)
  -- the calls not refused are N, and one more once the session has ended; so they are never over 131
  pub calls : length (calls_accepted calls_made) ≡ length (commands_sent calls_made) + one_if (is_ended session_after.phase)
  pub never_over_131 : length (calls_accepted calls_made) ≤ 131
