-- What the private functions of this crate promise, for the proofs of their callers: the call at the front of some
-- bytes, how many calls they hold, and one call of a list, played in place. This file states no rule, and a reader of
-- the rules can skip it: `next-front` in proofs/Read ties it to `parse_calls_step`, and `going_end` in proofs/Loop and
-- `runs_played` in proofs/Whole to `PlaysCalls` and `PlaysListInPublishedOrder` of Playing.antt.
-- Assumes nothing.
use Rattle.std.specs.Prelude.{◌≡◌, List, [], ◌++◌, ◌*◌, ◌≤◌, length, drop, Option, Some, None, ℕ}
use Rattle.basics.specs.Choice.{when◌then◌else◌}
use Rattle.basics.specs.Types.{Bytes}
use Rattle.session_record.specs.declared.Session.{Session}
use Rattle.session.specs.Steps.{Step}
use Rattle.session.specs.Calls.{Call, call_step}
use Rattle.call_list.specs.declared.CallHeader.{CallHeader}
use Rattle.call_list.specs.declared.CallPlayed.{CallPlayed}
use Rattle.call_list.specs.Encoding.{call_header_in, call_end_offset, begins_with_whole_call, call_by_header, prepend_call}
use Rattle.call_list.specs.Playing.{reply_bytes, reply_size, call_bytes_with_buffer}

-- the header of the call at the front, if it is whole
unfoldable pub call_front_in : Bytes → Option CallHeader
call_front_in s =
    when begins_with_whole_call s then Some (call_header_in s)
    else None

-- the call at the front, and what k reads of the bytes after it
abbrev pub call_then_rest : (Bytes → Option (List Call)) → Bytes → Option CallHeader → Option (List Call)
call_then_rest k s None = None
call_then_rest k s (Some h) = prepend_call (call_by_header s h) (k (drop (call_end_offset h) s))

-- how many calls were read
abbrev pub calls_counted_in : Option (List Call) → Option ℕ
calls_counted_in None = None
calls_counted_in (Some cs) = Some (length cs)

-- there is a list of calls, and room for its replies
abbrev pub CallsWithRoomForReplies : Option (List Call) → Bytes → Type 0
CallsWithRoomForReplies None replies = ⊥
CallsWithRoomForReplies (Some cs) replies = reply_size * length cs ≤ length replies

-- the calls of the list, none where there is no list
abbrev pub calls_or_empty : Option (List Call) → List Call
calls_or_empty None = []
calls_or_empty (Some cs) = cs

-- a step of the call at the front of s, with its buffer in its place
abbrev pub step_with_buffer_in_call_bytes : Bytes → CallHeader → Step → Step
step_with_buffer_in_call_bytes s h st =
    record { reply = st.reply; buffer = call_bytes_with_buffer s h st.buffer (drop (call_end_offset h) s) }

-- the call at the front of the calls is played
pub record PlaysOneCall (played : CallPlayed) (calls_after replies_after : Bytes) (session_before : Session)
    (calls_before replies_before : Bytes) : Type 0 where
  pub session : played.session ≡ (call_step session_before
      (call_by_header calls_before (call_header_in calls_before))).reply.session
  pub size : played.size ≡ call_end_offset (call_header_in calls_before)
  pub calls_after_lem : let h = call_header_in calls_before in calls_after ≡ (step_with_buffer_in_call_bytes calls_before h
      (call_step session_before (call_by_header calls_before h))).buffer
  pub replies_after_lem : let st = call_step session_before (call_by_header calls_before (call_header_in calls_before)) in
      replies_after ≡ reply_bytes st.reply ++ drop reply_size replies_before
