-- A list of calls in bytes (run): the kinds of its calls, what a reply is written as, and the number that a run is
-- reported by.
-- Assumes nothing.
use Rattle.std.specs.Prelude.{◌≡◌, List, [], ◌∷◌, ◌++◌, map, ℕ, replicate, Some, None}
use Rattle.basics.specs.Types.{Bytes, Length}
use Rattle.session_record.specs.declared.Outcome.{Outcome}
use Rattle.session.specs.Calls.{Call, start, answer, link_failed, stop}
use Rattle.call_list.specs.Encoding.{encoded_call, parsed_calls}
use Rattle.call_list.specs.Playing.{result_bytes, play_result_of, play_result_number}
use Rattle.worked_examples.specs.Calls.{command_result, outcome_result, refusal_result}

-- a length in eight bytes
abbrev pub length_in_eight_bytes : Length → Bytes
length_in_eight_bytes n = 0 ∷ 0 ∷ 0 ∷ 0 ∷ 0 ∷ 0 ∷ 0 ∷ n ∷ []

-- each call with a buffer of two bytes, start and answer with one byte that comes in
abbrev pub example_calls : List Call
example_calls =
    start (0x07 ∷ []) (0x08 ∷ 0x09 ∷ []) ∷ answer (0x07 ∷ []) (0x08 ∷ 0x09 ∷ [])
    ∷ link_failed (0x08 ∷ 0x09 ∷ []) ∷ stop (0x08 ∷ 0x09 ∷ []) ∷ []

abbrev pub example_calls_in_bytes : List Bytes
example_calls_in_bytes =
    (1 ∷ length_in_eight_bytes 1 ++ length_in_eight_bytes 2 ++ (0x07 ∷ 0x08 ∷ 0x09 ∷ []))
    ∷ (2 ∷ length_in_eight_bytes 1 ++ length_in_eight_bytes 2 ++ (0x07 ∷ 0x08 ∷ 0x09 ∷ []))
    ∷ (3 ∷ length_in_eight_bytes 0 ++ length_in_eight_bytes 2 ++ (0x08 ∷ 0x09 ∷ []))
    ∷ (4 ∷ length_in_eight_bytes 0 ++ length_in_eight_bytes 2 ++ (0x08 ∷ 0x09 ∷ []))
    ∷ []

-- the number of a run over these bytes, with this room for replies
abbrev pub example_play_result_number : Bytes → Length → ℕ
example_play_result_number bytes room = play_result_number (play_result_of (parsed_calls bytes) (replicate room 0))

pub record CallListExamples : Type 0 where
  pub calls_written : map encoded_call example_calls ≡ example_calls_in_bytes
  pub calls_read : map parsed_calls example_calls_in_bytes ≡ map (λ c. Some (c ∷ [])) example_calls
  -- kind 0, kind 5, and a link failure that brings a byte
  pub no_calls :
      map parsed_calls
      ((0 ∷ length_in_eight_bytes 0 ++ length_in_eight_bytes 0) ∷ (5 ∷ length_in_eight_bytes 0 ++ length_in_eight_bytes 0)
      ∷ (3 ∷ length_in_eight_bytes 1 ++ length_in_eight_bytes 0 ++ (0x07 ∷ [])) ∷ [])
      ≡ None ∷ None ∷ None ∷ []
  pub replies : map result_bytes (command_result 261 ∷ outcome_result Outcome.Ended 8 2 ∷ refusal_result 25 ∷ [])
      ≡ (0 ∷ 0x01 ∷ 0x05 ∷ []) ∷ (1 ∷ 3 ∷ 8 ∷ []) ∷ (2 ∷ 0 ∷ 25 ∷ []) ∷ []
  -- a stop with room for its reply; no list of calls; a stop with a byte too little room
  pub numbers : example_play_result_number (4 ∷ length_in_eight_bytes 0 ++ length_in_eight_bytes 0) 4 ∷ example_play_result_number
      (5 ∷ []) 4 ∷ example_play_result_number (4 ∷ length_in_eight_bytes 0 ++ length_in_eight_bytes 0) 3 ∷ []
      ≡ 0 ∷ 1 ∷ 2 ∷ []
