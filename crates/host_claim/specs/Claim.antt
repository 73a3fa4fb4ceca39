-- Demand 3 at the C boundary (document 01, "What demand 3 counts"): the claim of session_claim/specs/Claim over the
-- result words, the command buffers and the session's bytes of a host's calls, and that it is that claim of session's
-- calls.
-- Assumes nothing.
use Rattle.std.specs.Prelude.{◌≡◌, true, List, [], ◌∷◌, ◌++◌, map, ◌+◌, ◌≤◌, length, take, drop, Some}
use Rattle.basics.specs.Types.{Bytes}
use Rattle.basics.specs.Choice.{every, one_if}
use Rattle.session_record.specs.declared.Session.{Session}
use Rattle.session_record.specs.Session.{fresh_session, session_stage_of, is_running, is_ended}
use Rattle.layout.specs.Layout.{session_record_size, session_written_over_front_if_room, decoded_session}
use Rattle.layout.specs.Word.{result_word}
use Rattle.session_claim.specs.Calls.{commands_sent, calls_accepted, unanswered_commands, last_element}
use Rattle.session.specs.Calls.{Call, CallMade, call_result, play_calls, final_session}
use Rattle.session_claim.specs.Order.{command_kind, first_answer, published_order, final_command_kind_by_gpo_answer}
use Rattle.session_claim.specs.Order.{afl_accepted_from_gpo_answer}
use Rattle.session_claim.specs.Claim.{most_commands_for_accepted_afl, CallsAndSessionAfterInPublishedOrder}
use Rattle.host.specs.Hosted.{command_count_or_all_ones}
use Rattle.host_claim.specs.Calls.{HostCall, opening, on_session, HostCallMade}
use Rattle.host_claim.specs.Words.{host_call_not_refused_with25, calls_since_last_accepted_opening, host_commands_handed_out}
use Rattle.host_claim.specs.Words.{host_calls_not_refused, host_unanswered_commands}
use Rattle.host_claim.specs.Words.{first_answer_call, host_afl_accepted_from_gpo_answer, host_final_command_kind_by_gpo_answer}
use Rattle.host_claim.specs.Words.{host_stage_after_last_accepted_call}

-- ---- demand 3, read off words and buffers

-- ms are the calls since the last accepted opening, and l are the session's bytes after them
pub record HostCallsAndBytesAfterInPublishedOrder (calls_made : List HostCallMade) (bytes_after : Bytes) : Type 0 where
  -- the bytes hold a session
  pub session : Session
  pub held : decoded_session bytes_after ≡ Some session
  -- the N commands handed out are the first N of the published order
  pub order : let first = first_answer_call (host_calls_not_refused calls_made) in
      map command_kind (host_commands_handed_out calls_made)
      ≡ take (length (host_commands_handed_out calls_made)) (published_order (host_final_command_kind_by_gpo_answer first)
      (host_afl_accepted_from_gpo_answer first))
  -- N is the word of `emv_count`
  pub count : command_count_or_all_ones (decoded_session bytes_after) ≡ length (host_commands_handed_out calls_made)
  -- N is at most 1 while no AFL is accepted, and at most 2 + R from then on
  pub bound : length (host_commands_handed_out calls_made) ≤ most_commands_for_accepted_afl
      (host_afl_accepted_from_gpo_answer (first_answer_call (host_calls_not_refused calls_made)))
  -- N is never over 130
  pub never_over : length (host_commands_handed_out calls_made) ≤ 130
  -- the session is fresh, runs or has ended by the last call not refused
  pub stage : session_stage_of session.phase ≡ host_stage_after_last_accepted_call
      (last_element (host_calls_not_refused calls_made))
  -- while it runs exactly one command is unanswered, the last one handed out
  pub one_unanswered : is_running session.phase ≡ true → length (host_unanswered_commands calls_made) ≡ 1
  pub last_unanswered : is_running session.phase ≡ true
      → last_element (host_unanswered_commands calls_made) ≡ last_element (host_commands_handed_out calls_made)
  -- the calls not refused are N, and one more once the session has ended; so they are never over 131
  pub calls : length (host_calls_not_refused calls_made) ≡ length (host_commands_handed_out calls_made)
      + one_if (is_ended session.phase)
  pub never_over_131 : length (host_calls_not_refused calls_made) ≤ 131

-- ---- the same calls on a session

-- the session's call that a call is; an opening is none
abbrev pub session_call_or_none : HostCall → List Call
session_call_or_none opening = []
session_call_or_none (on_session c) = c ∷ []

-- those of a list
unfoldable pub session_calls_among : List HostCallMade → List Call
session_calls_among [] = []
session_calls_among (m ∷ ms) = session_call_or_none m.call ++ session_calls_among ms

-- they are played from a fresh session
abbrev pub session_calls_replayed_from_fresh : List HostCallMade → List CallMade
session_calls_replayed_from_fresh ms = play_calls fresh_session (session_calls_among ms)

abbrev pub session_after_replay_from_fresh : List HostCallMade → Session
session_after_replay_from_fresh ms = final_session fresh_session (session_calls_among ms)

-- a session's call as the host sees it: the word of its reply, and its buffer
abbrev pub host_view_of_call : CallMade → HostCallMade
host_view_of_call m = record { call = on_session m.call; word = result_word (call_result m); buffer = m.step.buffer }

-- ms are the calls since the last accepted opening, l are the bytes after them, and before are those that were opened
pub record HostCallsSameAsSessionCalls (bytes_before_opening : Bytes) (calls_made : List HostCallMade)
    (bytes_after : Bytes) : Type 0 where
  -- every word is that of the session's reply, and every buffer is the session's; no opening is among them
  pub words : calls_made ≡ map host_view_of_call (session_calls_replayed_from_fresh calls_made)
  -- the bytes are the record of the session after these calls, and those after the record stay
  pub record_after : bytes_after ≡ session_written_over_front_if_room (session_after_replay_from_fresh calls_made)
      bytes_before_opening
  pub behind : drop session_record_size bytes_after ≡ drop session_record_size bytes_before_opening
  -- demand 3 of these calls as session's own, and that what is read off the words and the buffers is what it speaks of
  pub proper : CallsAndSessionAfterInPublishedOrder (session_calls_replayed_from_fresh calls_made)
      (session_after_replay_from_fresh calls_made)
  pub same_commands : host_commands_handed_out calls_made ≡ commands_sent (session_calls_replayed_from_fresh calls_made)
  pub same_taken : host_calls_not_refused calls_made ≡ map host_view_of_call
      (calls_accepted (session_calls_replayed_from_fresh calls_made))
  pub same_unanswered : host_unanswered_commands calls_made ≡ unanswered_commands (session_calls_replayed_from_fresh calls_made)
  pub same_afl : host_afl_accepted_from_gpo_answer (first_answer_call (host_calls_not_refused calls_made))
      ≡ afl_accepted_from_gpo_answer (first_answer (calls_accepted (session_calls_replayed_from_fresh calls_made)))
  pub same_last_kind :
      host_final_command_kind_by_gpo_answer (first_answer_call (host_calls_not_refused calls_made)) ≡ final_command_kind_by_gpo_answer
      (first_answer (calls_accepted (session_calls_replayed_from_fresh calls_made)))

-- ---- the claim

-- ms are the calls of a list made since an opening of the bytes `before` was accepted (`play_host_calls`), and l are the
-- bytes that the last of them left (`final_session_bytes`), those of the opening where there are none. A later opening
-- that is accepted begins anew
pub record HostCallsInOrderAndAsSessionCalls (bytes_before_opening : Bytes) (calls_made : List HostCallMade)
    (bytes_after : Bytes) : Type 0 where
  pub demand_3 : HostCallsAndBytesAfterInPublishedOrder (calls_since_last_accepted_opening calls_made) bytes_after
  pub as_session : HostCallsSameAsSessionCalls bytes_before_opening (calls_since_last_accepted_opening calls_made) bytes_after
  -- none of all the calls was refused with 25; so every opening among them was accepted
  pub never_25 : every host_call_not_refused_with25 calls_made ≡ true
