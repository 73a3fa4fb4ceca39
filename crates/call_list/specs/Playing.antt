-- What playing a list of calls in bytes leaves: the session, both slices, and the claim over the calls played.
-- Assumes nothing.
use Rattle.std.specs.Prelude.{◌≡◌, List, [], ◌∷◌, ◌++◌, ℕ, ◌*◌, ◌/◌, ◌%◌, length, take, drop, Option, Some, None, Result, Ok, Err}
use Rattle.basics.specs.Choice.{when◌then◌else◌, ◌≤?◌}
use Rattle.basics.specs.Types.{Bytes, Buffer, Length}
use Rattle.session_record.specs.declared.Session.{Session}
use Rattle.session_record.specs.declared.CallResult.{CallResult}
use Rattle.session_record.specs.declared.Reply.{Reply}
use Rattle.session_record.specs.Numbers.{outcome_number}
use Rattle.session_record.specs.Session.{fresh_session}
use Rattle.session.specs.Calls.{Call, CallMade, play_calls, final_session}
use Rattle.session_claim.specs.Claim.{CallsAndSessionAfterInPublishedOrder}
use Rattle.call_list.specs.declared.CallHeader.{CallHeader}
use Rattle.call_list.specs.declared.PlayError.{PlayError}
use Rattle.call_list.specs.declared.ListPlayed.{ListPlayed}
use Rattle.call_list.specs.Encoding.{call_header_in, call_buffer_offset, call_end_offset, parsed_calls}

-- ---- the replies

-- 0 and a command's length, 1 with the outcome and the reason, or 2, 0 and the refusal's number
abbrev pub result_bytes : CallResult → Bytes
result_bytes (CallResult.Command x) = 0 ∷ x.size / 256 % 256 ∷ x.size % 256 ∷ []
result_bytes (CallResult.Outcome e) = 1 ∷ outcome_number e.outcome ∷ e.reason ∷ []
result_bytes (CallResult.Refused r) = 2 ∷ 0 ∷ r.number ∷ []

-- four bytes: what the call returned, and the session's count
abbrev pub reply_bytes : Reply → Bytes
reply_bytes r = result_bytes r.answer ++ (r.session.count ∷ [])

-- the replies of all calls, in order
unfoldable pub reply_bytes_of_calls : List CallMade → Bytes
reply_bytes_of_calls [] = []
reply_bytes_of_calls (m ∷ ms) = reply_bytes m.step.reply ++ reply_bytes_of_calls ms

-- the length of a reply
abbrev pub reply_size : Length
reply_size = 4

-- ---- the slice of calls afterwards

-- a call's header and the bytes that came in as they were, its buffer as its step left it, and then the rest
abbrev pub call_bytes_with_buffer : Bytes → CallHeader → Buffer → Bytes → Bytes
call_bytes_with_buffer s h buf rest = take (call_buffer_offset h) s ++ (buf ++ rest)

-- the same of every call in turn
unfoldable pub call_bytes_after_play : Bytes → List CallMade → Bytes
call_bytes_after_play s [] = s
call_bytes_after_play s (m ∷ ms) =
    let h = call_header_in s in
    call_bytes_with_buffer s h m.step.buffer (call_bytes_after_play (drop (call_end_offset h) s) ms)

-- ---- a run

-- the calls that are played: those that the bytes are read as, where there is room for their replies; else none
abbrev pub calls_if_room_for_replies : Option (List Call) → Bytes → List Call
calls_if_room_for_replies None replies = []
calls_if_room_for_replies (Some cs) replies =
    when reply_size * length cs ≤? length replies then cs
    else []

-- what is reported, by its number: 0 played, 1 no list of calls, 2 too little room for the replies
abbrev pub play_result_number : Result Unit PlayError → ℕ
play_result_number (Ok tt) = 0
play_result_number (Err PlayError.Malformed) = 1
play_result_number (Err PlayError.TooShort) = 2

-- what is reported of the calls that the bytes are read as
abbrev pub play_result_of : Option (List Call) → Bytes → Result Unit PlayError
play_result_of None replies = Err PlayError.Malformed
play_result_of (Some cs) replies =
    when reply_size * length cs ≤? length replies then Ok tt
    else Err PlayError.TooShort

-- the calls cs are played on a fresh session: the session s at the end, and both slices
pub record PlaysCalls (session_after : Session) (calls_after replies_after calls_before replies_before : Bytes)
    (calls_to_play : List Call) : Type 0 where
  pub session : session_after ≡ final_session fresh_session calls_to_play
  pub calls_after_lem : calls_after ≡ call_bytes_after_play calls_before (play_calls fresh_session calls_to_play)
  pub replies_after_lem : replies_after ≡ reply_bytes_of_calls (play_calls fresh_session calls_to_play)
      ++ drop (reply_size * length calls_to_play) replies_before

-- what a run returns and leaves, where cs are the calls that are played, and the claim over them
pub record PlaysListInPublishedOrder (list_played : ListPlayed)
    (calls_after replies_after calls_before replies_before : Bytes) (calls_to_play : List Call) : Type 0 where
  pub said : list_played.said ≡ play_result_of (parsed_calls calls_before) replies_before
  pub played : PlaysCalls list_played.session calls_after replies_after calls_before replies_before calls_to_play
  pub claim : CallsAndSessionAfterInPublishedOrder (play_calls fresh_session calls_to_play) list_played.session

-- the same where the calls and the room for replies are given: those that are there are played
abbrev pub PlaysListInBytes : ListPlayed → Bytes → Bytes → Bytes → Bytes → Type 0
PlaysListInBytes r calls' replies' calls replies =
    PlaysListInPublishedOrder r calls' replies' calls replies (calls_if_room_for_replies (parsed_calls calls) replies)
